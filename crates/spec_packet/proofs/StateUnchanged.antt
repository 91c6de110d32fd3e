-- A page that the packet leaves out is printed as at the opening.
use Rattle.std.proofs.Common.{◌≡◌, inl, ℕ, zero, suc, ◌+◌, ◌-◌, ◌<◌, Bool, true, false, ◌==◌, cond, Option, Some, List, [], ◌∷◌, ◌++◌, length, map, take, drop, get_or, refl, sym, ap, ap₂, subst, ◌∙◌, arith, unwrap_or}
use Rattle.std.specs.Prelude.{All, replicate, slice_range}
use Rattle.std.specs.List.{flat_map}
use Rattle.std.proofs.lemmas.List.Elements.{All-head, All-tail, All-take, All-drop}
use Rattle.spec_script.specs.LongestRuns.{last_of}
use Rattle.spec_pages.specs.declared.Shape.{Shape}
use Rattle.spec_pages.specs.Pages.{is_heading, continues_speech}
use Rattle.spec_labels.specs.declared.RowKey.{RowKey}
use Rattle.spec_labels.specs.Labels.{LabelOf}
use Rattle.spec_labels.specs.Scenes.{SceneRecordOf}
use Rattle.spec_labels.specs.PageRecords.{PageRecordOf, RisingRecords, SegmentOf, is_empty, SheetOf, record_starts}
use Rattle.spec_sheets.specs.Cells.{ShownCell}
use Rattle.spec_sheets.specs.Shown.{Shown}
use Rattle.spec_sheets.specs.RowBytes.{ShownRow}
use Rattle.spec_sheets.specs.PageRows.{empty_row, starred, led, cue_above, goes_on, more_row, more_below, omitted_rows, page_body}
use Rattle.spec_sheets.specs.Sheets.{sheet_bytes}
use Rattle.spec_state.specs.State.{State}
use Rattle.spec_state.specs.Keeping.{IsWhole}
use Rattle.spec_state.specs.SameRows.{BareRow, bare_of}
use Rattle.spec_state.specs.StateSheets.{rows_in, keys_in, sheet_rows}
use Rattle.spec_state.proofs.StateLaws.{state-AreKeptPages}
use Rattle.spec_packet.specs.SheetLists.{IsIn, InOrder}
use Rattle.spec_packet.proofs.Lists.{in-map, in-right}
use Rattle.spec_locked_pages.specs.Chains.{IsOpened}
use Rattle.spec_locked_pages.specs.Segments.{records_in, segments_in, segment_at, has_scene, HasScene, no_segment}
use Rattle.spec_locked_pages.proofs.StateStarts.{SomeRecords}
use Rattle.spec_packet.specs.Packets.{cue_at, is_fresh, has_fresh_cue, Both, was_of, now_of, SameRecord, only_sheet, LabelsRise, Unchanged}
use Rattle.spec_packet.specs.RecordRows.{all_rows, segment_behind, segments_from, RowsBoth, were_of, are_of, StaysStale}
use Rattle.spec_packet.specs.StatePackets.{laid_of}
use Rattle.spec_packet.proofs.CueLaws.{rows_now, rows_were}
use Rattle.spec_packet.proofs.EditRecords.{Chained}
use Rattle.spec_packet.proofs.PrintedLaws.{segments-rise}
use Rattle.spec_packet.proofs.RecordLaw.{slice-middle, rows-cut, cue-stays, both_from, both-were, both-are, place-of, empty-len}
use Rattle.spec_packet.proofs.RowCues.{repeated, state-knows}
use Rattle.spec_packet.proofs.RowNumbers.{number_by, numbered, CellsTold, state-told}
use Rattle.spec_packet.proofs.StatePages.{index-of, some-rows, state-paged, length-segments_in, opened-paged}
use Rattle.spec_packet.proofs.StateRecords.{text-segments, text-rows}

-- ---- rows that an edit takes for the same

-- A row shows the same where an edit compares the same of it and its heading has a scene record.
same-row : (scenes : Option (List SceneRecordOf)) (round : ℕ) (x y : Shown) → bare_of x ≡ bare_of y → CellsTold scenes x → CellsTold scenes y → HasScene scenes x → starred round x ≡ starred round y
same-row scenes round x y same one other has =
    let key : x.key ≡ y.key = ap (λ (it : BareRow). it.key) same in
    let shape : x.shape ≡ y.shape = ap (λ (it : BareRow). it.shape) same in
    let mark : x.mark ≡ y.mark = ap (λ (it : BareRow). it.mark) same in
    let bare : x.bare ≡ y.bare = ap (λ (it : BareRow). it.cells) same in
    let has_y : HasScene scenes y = record { by = λ heading. subst (λ (k : RowKey). has_scene scenes k.line ≡ true) key (has.by (ap (λ (s : Shape). is_heading s.kind) shape ∙ heading)) } in
    let number : number_by scenes x ≡ number_by scenes y = λ i. number_of (key i) (shape i) in
    let cells : x.cells ≡ y.cells = one.are has ∙ ap₂ numbered number bare ∙ sym (other.are has_y) in
    λ i. starred round (record y { cells = cells i; mark = mark i })
  where
    number_of : RowKey → Shape → Option LabelOf
    number_of key shape = number_by scenes (record x { key = key; shape = shape })

led-same : (scenes : Option (List SceneRecordOf)) (round : ℕ) (x y : Shown) → bare_of x ≡ bare_of y → CellsTold scenes x → CellsTold scenes y → HasScene scenes x → led round x ≡ led round y
led-same scenes round x y same one other has =
    ap₂ (λ (shape : Shape) (row : ShownRow). led_as shape row) (ap (λ (it : BareRow). it.shape) same) (same-row scenes round x y same one other has)
  where
    led_as : Shape → ShownRow → List ShownRow
    led_as shape row = replicate shape.lead empty_row ++ row ∷ []

more-same : (scenes : Option (List SceneRecordOf)) (round : ℕ) (xs ys : List Shown) → map bare_of xs ≡ map bare_of ys → All (CellsTold scenes) xs → All (CellsTold scenes) ys → All (HasScene scenes) xs
    → flat_map (led round) xs ≡ flat_map (led round) ys
more-same scenes round [] [] same one other has = refl
more-same scenes round [] (y ∷ ys) same one other has = absurd (let no_way : ⊥ = cc in no_way)
more-same scenes round (x ∷ xs) [] same one other has = absurd (let no_way : ⊥ = cc in no_way)
more-same scenes round (x ∷ xs) (y ∷ ys) same one other has =
    let head : bare_of x ≡ bare_of y = cc in
    let tail : map bare_of xs ≡ map bare_of ys = cc in
    let Told = CellsTold scenes in
    ap₂ (λ (a b : List ShownRow). a ++ b) (led-same scenes round x y head (All-head Told x xs one) (All-head Told y ys other) (All-head (HasScene scenes) x xs has))
    (more-same scenes round xs ys tail (All-tail Told x xs one) (All-tail Told y ys other) (All-tail (HasScene scenes) x xs has))

last-shape : (x y : Shown) (xs ys : List Shown) → bare_of x ≡ bare_of y → map bare_of xs ≡ map bare_of ys → (last_of x xs).shape ≡ (last_of y ys).shape
last-shape x y [] [] same rest = ap (λ (it : BareRow). it.shape) same
last-shape x y [] (b ∷ ys) same rest = absurd (let no_way : ⊥ = cc in no_way)
last-shape x y (a ∷ xs) [] same rest = absurd (let no_way : ⊥ = cc in no_way)
last-shape x y (a ∷ xs) (b ∷ ys) same rest =
    let head : bare_of a ≡ bare_of b = cc in
    let tail : map bare_of xs ≡ map bare_of ys = cc in
    last-shape a b xs ys head tail

-- The first rows of two pages show the same cue.
abbrev SameCue : List Shown → List Shown → Type 0
SameCue (x ∷ xs) (y ∷ ys) = continues_speech x.shape ≡ true → x.cue ≡ y.cue
SameCue _ _ = Unit {0}

body-same : (scenes : Option (List SceneRecordOf)) (round : ℕ) (xs ys : List Shown) → map bare_of xs ≡ map bare_of ys → All (CellsTold scenes) xs → All (CellsTold scenes) ys → All (HasScene scenes) xs → SameCue xs ys
    → page_body round xs ≡ page_body round ys
body-same scenes round [] [] same one other has cue = refl
body-same scenes round [] (y ∷ ys) same one other has cue = absurd (let no_way : ⊥ = cc in no_way)
body-same scenes round (x ∷ xs) [] same one other has cue = absurd (let no_way : ⊥ = cc in no_way)
body-same scenes round (x ∷ xs) (y ∷ ys) same one other has cue =
    let head : bare_of x ≡ bare_of y = cc in
    let tail : map bare_of xs ≡ map bare_of ys = cc in
    let Told = CellsTold scenes in
    let shape : x.shape ≡ y.shape = ap (λ (it : BareRow). it.shape) head in
    let above : cue_above x ≡ cue_above y = by (continues_speech x.shape) refl ∙ ap (λ (s : Shape). above_as (continues_speech s) y.cue) shape in
    let first = same-row scenes round x y head (All-head Told x xs one) (All-head Told y ys other) (All-head (HasScene scenes) x xs has) in
    let more = more-same scenes round xs ys tail (All-tail Told x xs one) (All-tail Told y ys other) (All-tail (HasScene scenes) x xs has) in
    let below : more_below (last_of x xs) ≡ more_below (last_of y ys) = ap (λ (s : Shape). cond (goes_on s) (more_row ∷ []) []) (last-shape x y xs ys head tail) in
    λ i. above i ++ (first i ∷ (more i ++ below i))
  where
    above_as : Bool → List ShownCell → List ShownRow
    above_as b cells = cond b (record { cells = cells; star = false } ∷ []) []

    by : (b : Bool) → continues_speech x.shape ≡ b → above_as (continues_speech x.shape) x.cue ≡ above_as (continues_speech x.shape) y.cue
    by true goes = ap (above_as (continues_speech x.shape)) (cue goes)
    by false stays = ap (λ b. above_as b x.cue) stays ∙ sym (ap (λ b. above_as b y.cue) stays)

-- ---- parts of lists

map-slice : (rows : List Shown) (start end : ℕ) → map bare_of (slice_range rows start end) ≡ slice_range (map bare_of rows) start end
map-slice rows start end = sym (taken (end - start) (drop start rows)) ∙ ap (take (end - start)) (sym (dropped start rows))
  where
    taken : (n : ℕ) (xs : List Shown) → take n (map bare_of xs) ≡ map bare_of (take n xs)
    taken zero xs = refl
    taken (suc n) [] = refl
    taken (suc n) (x ∷ xs) = ap (λ (l : List BareRow). bare_of x ∷ l) (taken n xs)

    dropped : (n : ℕ) (xs : List Shown) → drop n (map bare_of xs) ≡ map bare_of (drop n xs)
    dropped zero xs = refl
    dropped (suc n) [] = refl
    dropped (suc n) (x ∷ xs) = dropped n xs

-- The first of a part of a list.
record FirstAt (rows : List Shown) (place : ℕ) (x : Shown) : Type 0 where
  inside : place < length rows
  at : (d : Shown) → get_or rows place d ≡ x

first-at : (m place : ℕ) (rows : List Shown) (x : Shown) (xs : List Shown) → take m (drop place rows) ≡ x ∷ xs → FirstAt rows place x
first-at m zero [] x xs is = absurd (nothing m is)
  where
    nothing : (m : ℕ) → take m [] ≡ x ∷ xs → ⊥
    nothing zero is = let no_way : ⊥ = cc in no_way
    nothing (suc m) is = let no_way : ⊥ = cc in no_way
first-at m (suc place) [] x xs is = absurd (nothing m is)
  where
    nothing : (m : ℕ) → take m [] ≡ x ∷ xs → ⊥
    nothing zero is = let no_way : ⊥ = cc in no_way
    nothing (suc m) is = let no_way : ⊥ = cc in no_way
first-at zero zero (row ∷ rows) x xs is = absurd (let no_way : ⊥ = cc in no_way)
first-at (suc m) zero (row ∷ rows) x xs is = let e : row ≡ x = cc in record { inside = omega arith; at = λ d. e }
first-at m (suc place) (row ∷ rows) x xs is = let later = first-at m place rows x xs is in let inside = later.inside in record { inside = omega (arith, inside); at = later.at }

-- ---- a record at the opening and now

module _ (opened now : State) (was_whole : IsWhole opened) (whole : IsWhole now) (was_some : SomeRecords opened) (some : SomeRecords now) (pages_open : IsOpened opened) (chain : Chained opened now) where
  abbrev records : List RowsBoth
  records = (chain.pairs).records

  were : segments_in opened ≡ map was_of (both_from [] [] records)
  were = sym (both-were [] [] records ∙ ap (segments_from []) (chain.pairs).were ∙ text-segments opened was_whole was_some)

  are : segments_in now ≡ map now_of (both_from [] [] records)
  are = sym (both-are [] [] records ∙ ap (segments_from []) (chain.pairs).are ∙ text-segments now whole some)

  rows-were : rows_were records ≡ map bare_of (rows_in opened)
  rows-were = ap all_rows (chain.pairs).were ∙ text-rows opened was_whole was_some

  rows-now : rows_now records ≡ map bare_of (rows_in now)
  rows-now = ap all_rows (chain.pairs).are ∙ text-rows now whole some

  each : (both : Both) → IsIn both (both_from [] [] records) → SameRecord now.round both
  each both is =
      let p = place-of both [] [] records is in
      let there : IsIn p.it records = subst (IsIn p.it) (sym p.is) (in-right p.it p.front (p.it ∷ p.back) (inl refl)) in
      let stays = (chain.pairs).stays p.it there in
      record {
        label = ap (λ (s : SegmentOf). s.owner.label) p.was ∙ stays.label ∙ sym (ap (λ (s : SegmentOf). s.owner.label) p.now);
        changed = λ stale.
            ap (λ (s : SegmentOf). s.owner.changed) p.was ∙ stays.changed (sym (ap (λ (s : SegmentOf). is_fresh now.round s) p.now) ∙ stale) ∙ sym (ap (λ (s : SegmentOf). s.owner.changed) p.now);
        empty = λ stale.
            ap is_empty p.was ∙ empty-len (length (rows_were p.front)) (length p.it.was.rows)
            ∙ ap (λ (l : List BareRow). length l == 0) (stays.rows (sym (ap (λ (s : SegmentOf). is_fresh now.round s) p.now) ∙ stale))
            ∙ sym (ap is_empty p.now ∙ empty-len (length (rows_now p.front)) (length p.it.now.rows));
      }

  labels-rise : InOrder LabelsRise (segments_in now)
  labels-rise =
      let kept = state-AreKeptPages now (some.first ∷ some.later) whole some.are in
      let same : records_in now ≡ some.first ∷ some.later = ap (λ (p : Option (List PageRecordOf)). unwrap_or p []) some.are in
      segments-rise (length (rows_in now)) (records_in now) (record_starts now.lines (keys_in now) (records_in now)) (subst RisingRecords (sym same) kept.rising)

  omitted-same : (one other : SheetOf) → one.omitted ≡ true → other.omitted ≡ true → one.first ≡ other.first → one.last ≡ other.last → one.round ≡ other.round
      → (laid_of opened).print one ≡ (laid_of now).print other
  omitted-same one other is both first last rounds =
      let one_rows : sheet_rows (rows_in opened) one ≡ omitted_rows = ap (λ b. cond b omitted_rows (page_body one.round (slice_range (rows_in opened) one.start one.end))) is in
      let other_rows : sheet_rows (rows_in now) other ≡ omitted_rows = ap (λ b. cond b omitted_rows (page_body other.round (slice_range (rows_in now) other.start other.end))) both in
      let rows = one_rows ∙ sym other_rows in
      ap sheet_bytes (λ i. record { label = Some (record { first = first i; last = last i }); round = rounds i; rows = rows i })

  -- The rows of a record that isn't fresh.
  page-same : (both : Both) → IsIn both (both_from [] [] records) → is_empty both.now ≡ false → is_fresh now.round both.now ≡ false → has_fresh_cue now.round (laid_of now) both.now.start ≡ false
      → (laid_of opened).print (only_sheet both.was) ≡ (laid_of now).print (only_sheet both.now)
  page-same both is full stale none =
      let p = place-of both [] [] records is in
      let A = length (rows_now p.front) in
      let B = length (rows_were p.front) in
      let there : IsIn p.it records = subst (IsIn p.it) (sym p.is) (in-right p.it p.front (p.it ∷ p.back) (inl refl)) in
      let stays = (chain.pairs).stays p.it there in
      let own : (p.it.now.owner.changed == now.round) ≡ false = sym (ap (λ (s : SegmentOf). is_fresh now.round s) p.now) ∙ stale in
      let rows : p.it.was.rows ≡ p.it.now.rows = stays.rows own in
      let changed : p.it.was.owner.changed ≡ p.it.now.owner.changed = stays.changed own in
      let label : p.it.was.owner.label ≡ p.it.now.owner.label = stays.label in
      let X = slice_range (rows_in opened) B (B + length p.it.was.rows) in
      let Y = slice_range (rows_in now) A (A + length p.it.now.rows) in
      let was_parts : map bare_of (rows_in opened) ≡ rows_were p.front ++ (p.it.was.rows ++ rows_were p.back) = sym rows-were ∙ ap rows_were p.is ∙ rows-cut were_of p.front p.it p.back in
      let now_parts : map bare_of (rows_in now) ≡ rows_now p.front ++ (p.it.now.rows ++ rows_now p.back) = sym rows-now ∙ ap rows_now p.is ∙ rows-cut are_of p.front p.it p.back in
      let X_is : map bare_of X ≡ p.it.was.rows =
      map-slice (rows_in opened) B (B + length p.it.was.rows) ∙ ap (λ (l : List BareRow). slice_range l B (B + length p.it.was.rows)) was_parts ∙ slice-middle (rows_were p.front) p.it.was.rows (rows_were p.back) in
      let Y_is : map bare_of Y ≡ p.it.now.rows =
      map-slice (rows_in now) A (A + length p.it.now.rows) ∙ ap (λ (l : List BareRow). slice_range l A (A + length p.it.now.rows)) now_parts ∙ slice-middle (rows_now p.front) p.it.now.rows (rows_now p.back) in
      let told_X : All (CellsTold now.scenes) X =
      subst (λ (s : Option (List SceneRecordOf)). All (CellsTold s) X) chain.scenes (All-take (CellsTold opened.scenes) (B + length p.it.was.rows - B) (drop B (rows_in opened)) (All-drop (CellsTold opened.scenes) B (rows_in opened) (state-told opened was_whole.text))) in
      let told_Y : All (CellsTold now.scenes) Y =
      All-take (CellsTold now.scenes) (A + length p.it.now.rows - A) (drop A (rows_in now)) (All-drop (CellsTold now.scenes) A (rows_in now) (state-told now whole.text)) in
      let same : map bare_of X ≡ map bare_of Y = X_is ∙ rows ∙ sym Y_is in
      let was_in : IsIn both.was (segments_in opened) = subst (IsIn both.was) (sym were) (in-map was_of both (both_from [] [] records) is) in
      let full_was : is_empty both.was ≡ false = (each both is).empty stale ∙ full in
      let i = index-of both.was (segments_in opened) no_segment was_in in
      let inside = i.inside in
      let count = length-segments_in opened in
      let few = some-rows both.was full_was in
      let at_start = ap (λ (s : SegmentOf). s.start) i.at in
      let at_end = ap (λ (s : SegmentOf). s.end) i.at in
      let locked = pages_open.locked i.index (omega (arith, inside, count)) (omega (arith, few, at_start, at_end)) in
      let at_is : segment_at opened i.index ≡ segment_behind (rows_were p.front) p.it.was (map were_of p.back) = i.at ∙ p.was in
      let has : All (HasScene now.scenes) X =
      subst (λ (s : Option (List SceneRecordOf)). All (HasScene s) X) chain.scenes (subst (λ (s : SegmentOf). All (HasScene opened.scenes) (slice_range (rows_in opened) s.start s.end)) at_is locked.scenes) in
      let quiet : has_fresh_cue now.round (laid_of now) A ≡ false = ap (λ (s : SegmentOf). has_fresh_cue now.round (laid_of now) s.start) (sym p.now) ∙ none in
      let cue = same-cue p.front p.it p.back p.is X Y refl refl X_is Y_is rows quiet in
      let body : page_body p.it.was.owner.changed X ≡ page_body p.it.now.owner.changed Y =
      ap (λ r. page_body r X) changed ∙ body-same now.scenes p.it.now.owner.changed X Y same told_X told_Y has cue in
      ap (λ (s : SegmentOf). (laid_of opened).print (only_sheet s)) p.was
      ∙ ap sheet_bytes (λ j. record { label = Some (record { first = label j; last = label j }); round = changed j; rows = body j })
      ∙ sym (ap (λ (s : SegmentOf). (laid_of now).print (only_sheet s)) p.now)
    where
      same-cue : (front : List RowsBoth) (it : RowsBoth) (back : List RowsBoth) → records ≡ front ++ (it ∷ back) → (xs ys : List Shown)
          → slice_range (rows_in opened) (length (rows_were front)) (length (rows_were front) + length it.was.rows) ≡ xs → slice_range (rows_in now) (length (rows_now front)) (length (rows_now front) + length it.now.rows) ≡ ys
          → map bare_of xs ≡ it.was.rows → map bare_of ys ≡ it.now.rows → it.was.rows ≡ it.now.rows → has_fresh_cue now.round (laid_of now) (length (rows_now front)) ≡ false → SameCue xs ys
      same-cue front it back is [] ys X_is Y_is one other same quiet = tt
      same-cue front it back is (x ∷ xs) [] X_is Y_is one other same quiet = tt
      same-cue front it back is (x ∷ xs) (y ∷ ys) X_is Y_is one other same quiet = λ goes.
          let A = length (rows_now front) in
          let B = length (rows_were front) in
          let was_first = first-at (B + length it.was.rows - B) B (rows_in opened) x xs X_is in
          let now_first = first-at (A + length it.now.rows - A) A (rows_in now) y ys Y_is in
          let shape : x.shape ≡ y.shape = (let heads = one ∙ same ∙ sym other in let e : bare_of x ≡ bare_of y = cc in ap (λ (b : BareRow). b.shape) e) in
          let goes_y : continues_speech y.shape ≡ true = ap continues_speech (sym shape) ∙ goes in
          let was_knows = state-knows opened was_whole.text in
          let knows = state-knows now whole.text in
          let was_at = was_first.at x in
          let now_at = now_first.at y in
          let was_cue : x.cue ≡ repeated (cue_at (map bare_of (rows_in opened)) B) =
          ap (λ (s : Shown). s.cue) (sym was_at) ∙ was_knows.cue B x was_first.inside (ap (λ (s : Shown). continues_speech s.shape) was_at ∙ goes) in
          let now_cue : y.cue ≡ repeated (cue_at (map bare_of (rows_in now)) A) =
          ap (λ (s : Shown). s.cue) (sym now_at) ∙ knows.cue A y now_first.inside (ap (λ (s : Shown). continues_speech s.shape) now_at ∙ goes_y) in
          let low = knows.low A y now_first.inside in
          let index = ap (λ (s : Shown). s.shape.index) now_at in
          let stays_all : (both : RowsBoth) → IsIn both (front ++ (it ∷ back)) → StaysStale now.round both = λ both there. (chain.pairs).stays both (subst (IsIn both) (sym is) there) in
          let segs : (laid_of now).segments ≡ segments_from [] (map are_of (front ++ (it ∷ back))) =
          sym (text-segments now whole some) ∙ ap (segments_from []) (sym (chain.pairs).are) ∙ ap (λ (l : List RowsBoth). segments_from [] (map are_of l)) is in
          let rows : (laid_of now).rows ≡ rows_now (front ++ (it ∷ back)) = sym rows-now ∙ ap rows_now is in
          let stay = cue-stays now.round (laid_of now) front it back (bare_of y) (map bare_of ys) segs rows (sym other) (same ∙ sym other) goes_y (omega (arith, low, index)) stays_all quiet in
          was_cue
          ∙ ap (λ (l : List BareRow). repeated (cue_at l B)) (sym rows-were ∙ ap rows_were is)
          ∙ ap repeated stay
          ∙ sym (ap (λ (l : List BareRow). repeated (cue_at l A)) (sym rows-now ∙ ap rows_now is))
          ∙ sym now_cue

  -- What the law of packets asks of the opening and of the present state.
  pub state-unchanged : Unchanged now.round (laid_of opened) (laid_of now)
  state-unchanged = record {
    records = both_from [] [] records;
    were = were;
    are = are;
    each = each;
    labels = labels-rise;
    opened = opened-paged opened was_whole was_some pages_open;
    paged = state-paged now whole some;
    omitted = record { same = omitted-same };
    page = λ both is full stale none one. page-same both is full stale none;
  }
