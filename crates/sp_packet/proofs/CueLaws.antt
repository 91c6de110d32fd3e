-- The records that a cue comes from, by shapes of rows and starts of records.
use Rattle.std.proofs.Common.{◌≡◌, ℕ, zero, suc, ◌+◌, ◌-◌, ◌<◌, ◌≤◌, Bool, true, false, not, cond, Option, Some, None, List, [], ◌∷◌, length, map, take, drop, slice_get, refl, ap, ap₂, sym, ◌∙◌, arith, unwrap_or}
use Rattle.std.specs.Prelude.{min, max, nat_le, nat_lt, option_map, slice_index_or}
use Rattle.std.specs.List.{prefix_len}
use Rattle.std.proofs.lemmas.Bool.{le-leb, ltb-true, ltb-false, lt-ltb, lt-leb}
use Rattle.std.proofs.lemmas.List.{drop-map}
use Rattle.std.proofs.lemmas.List.Sums.{prefix_len-le-length}
use Rattle.std.proofs.lemmas.Option.{slice_get-map}
use Rattle.spec_pages.specs.declared.Shape.{Shape}
use Rattle.spec_pages.specs.Pages.{continues_speech}
use Rattle.spec_labels.specs.PageRecords.{PageRecordOf, SegmentOf, segments}
use Rattle.spec_sheets.specs.Shown.{Shown, shape_of}
use Rattle.spec_state.specs.SameRows.{BareRow, bare_of}
use Rattle.spec_packet.specs.Packets.{LaidOf, is_cue_row, cue_reach, speech_start, goes_on_at, cue_end}
use Rattle.spec_packet.specs.SheetFacts.{PlacesOf, ends_behind, starts_by, places_between, cue_places}
use Rattle.sp_packet.specs.Cues.{is_cue_shape, row_goes_on, speech_row, reach, reach_row, place_with, places_by}

abbrev bare_shape : BareRow → Shape
bare_shape it = it.shape

bare-shapes : (rows : List Shown) → map bare_shape (map bare_of rows) ≡ map shape_of rows
bare-shapes [] = refl
bare-shapes (row ∷ rows) = ap (λ (l : List Shape). row.shape ∷ l) (bare-shapes rows)

goes-on : (rows : List BareRow) (p : ℕ) → row_goes_on (map bare_shape rows) p ≡ goes_on_at rows p
goes-on rows p = ap (λ (o : Option Shape). unwrap_or (option_map continues_speech o) false) (slice_get-map bare_shape rows p) ∙ by (slice_get rows p)
  where
    by : (o : Option BareRow) → unwrap_or (option_map continues_speech (option_map bare_shape o)) false ≡ unwrap_or (option_map (λ (it : BareRow). continues_speech it.shape) o) false
    by None = refl
    by (Some it) = refl

speech-row : (rows : List BareRow) (p : ℕ) → speech_row (map bare_shape rows) p ≡ speech_start rows p
speech-row rows p = ap (λ (o : Option Shape). p - unwrap_or (option_map (λ (it : Shape). it.index) o) 0) (slice_get-map bare_shape rows p) ∙ by (slice_get rows p)
  where
    by : (o : Option BareRow) → p - unwrap_or (option_map (λ (it : Shape). it.index) (option_map bare_shape o)) 0 ≡ p - unwrap_or (option_map (λ (it : BareRow). it.shape.index) o) 0
    by None = refl
    by (Some it) = refl

cue-rows : (count : ℕ) (rows : List BareRow) → prefix_len is_cue_shape (take count (map bare_shape rows)) ≡ prefix_len is_cue_row (take count rows)
cue-rows zero rows = refl
cue-rows (suc count) [] = refl
cue-rows (suc count) (row ∷ rows) = ap (λ n. cond (is_cue_row row) (1 + n) 0) (cue-rows count rows)

cue-reach : (rows : List BareRow) → reach (map bare_shape rows) ≡ cue_reach rows
cue-reach [] = refl
cue-reach (row ∷ rows) = ap (λ n. min n row.shape.rest) (cue-rows (row.shape.rest + 1) (row ∷ rows))

reach-row : (rows : List BareRow) (p : ℕ) → reach_row (map bare_shape rows) p ≡ cue_end rows p
reach-row rows p =
    ap (λ s. max p (s + reach (drop s (map bare_shape rows)))) (speech-row rows p)
    ∙ ap (λ r. max p (speech_start rows p + r)) (ap reach (drop-map bare_shape (speech_start rows p) rows) ∙ cue-reach (drop (speech_start rows p) rows))

-- How many records begin at a row or before it.
starts-count : (rows row : ℕ) (records : List PageRecordOf) (starts : List ℕ) → length starts ≡ length records → prefix_len (starts_by row) (segments rows records starts) ≡ prefix_len (λ (start : ℕ). nat_le start row) starts
starts-count rows row [] [] same = refl
starts-count rows row [] (start ∷ starts) same = absurd (omega (arith, same))
starts-count rows row (it ∷ records) [] same = absurd (omega (arith, same))
starts-count rows row (it ∷ records) (start ∷ starts) same = ap (λ n. cond (nat_le start row) (1 + n) 0) (starts-count rows row records starts (omega (arith, same)))

-- All but one of them end at it or before it, where it is a row.
ends-count : (rows row : ℕ) (it : PageRecordOf) (records : List PageRecordOf) (start : ℕ) (starts : List ℕ) → length starts ≡ length records → start ≤ row → row < rows
    → prefix_len (λ (segment : SegmentOf). not (ends_behind row segment)) (segments rows (it ∷ records) (start ∷ starts)) + 1 ≡ prefix_len (λ (one : ℕ). nat_le one row) (start ∷ starts)
ends-count rows row it [] start [] same low inside =
    ap (λ b. cond (not b) (1 + 0) 0 + 1) (lt-ltb row rows inside) ∙ sym (ap (λ b. cond b (1 + 0) 0) (le-leb start row low))
ends-count rows row it (other ∷ records) start [] same low inside = absurd (omega (arith, same))
ends-count rows row it [] start (next ∷ starts) same low inside = absurd (omega (arith, same))
ends-count rows row it (other ∷ records) start (next ∷ starts) same low inside =
    by (nat_lt row next) refl (λ upto. ends-count rows row other records next starts (omega (arith, same)) upto inside) ∙ sym (ap (λ b. cond b (1 + count) 0) (le-leb start row low))
  where
    ended : ℕ
    ended = prefix_len (λ (segment : SegmentOf). not (ends_behind row segment)) (segments rows (other ∷ records) (next ∷ starts))

    count : ℕ
    count = prefix_len (λ (one : ℕ). nat_le one row) (next ∷ starts)

    by : (b : Bool) → nat_lt row next ≡ b → (next ≤ row → ended + 1 ≡ count) → cond (not b) (1 + ended) 0 + 1 ≡ 1 + count
    by true is later =
        let high = ltb-true row next is in
        let none : count ≡ 0 = ap (λ b. cond b (1 + prefix_len (λ (one : ℕ). nat_le one row) starts) 0) (lt-leb next row high) in
        omega (arith, none)
    by false is later = let ih = later (ltb-false row next is) in omega (arith, ih)

places-between : (rows first last : ℕ) (it : PageRecordOf) (records : List PageRecordOf) (start : ℕ) (starts : List ℕ) → length starts ≡ length records → start ≡ 0 → first < rows
    → record { first = place_with (start ∷ starts) first; last = place_with (start ∷ starts) last } ≡ places_between first last (segments rows (it ∷ records) (start ∷ starts))
places-between rows first last it records start starts same begin inside =
    let ends = ends-count rows first it records start starts same (omega (arith, begin)) inside in
    let one : place_with (start ∷ starts) first ≡ prefix_len (λ (segment : SegmentOf). not (ends_behind first segment)) (segments rows (it ∷ records) (start ∷ starts)) = omega (arith, ends) in
    let other : place_with (start ∷ starts) last ≡ prefix_len (starts_by last) (segments rows (it ∷ records) (start ∷ starts)) - 1 =
    ap (λ n. n - 1) (sym (starts-count rows last (it ∷ records) (start ∷ starts) (omega (arith, same)))) in
    λ i. record { first = one i; last = other i }

-- The cue's records by shapes and starts are those of the laid text.
pub cue-places : (laid : LaidOf) (rows : List Shown) (records : List PageRecordOf) (starts : List ℕ) (p : ℕ) → laid.rows ≡ map bare_of rows → laid.segments ≡ segments (length rows) records starts
    → length starts ≡ length records → slice_index_or starts 0 0 ≡ 0 → 0 < length records → p < length rows → places_by starts (map shape_of rows) p ≡ cue_places laid p
cue-places laid rows [] starts p are cut same begin some inside = absurd (omega (arith, some))
cue-places laid rows (it ∷ records) [] p are cut same begin some inside = absurd (omega (arith, same))
cue-places laid rows (it ∷ records) (start ∷ starts) p are cut same begin some inside =
    ap (λ (shapes : List Shape). places_by (start ∷ starts) shapes p) (sym (bare-shapes rows))
    ∙ ap (λ b. cond b (Some (by_starts (speech_row (map bare_shape bare) p) (reach_row (map bare_shape bare) p))) None) (goes-on bare p)
    ∙ ap₂ (λ first last. cond (goes_on_at bare p) (Some (by_starts first last)) None) (speech-row bare p) (reach-row bare p)
    ∙ ap (λ (places : PlacesOf). cond (goes_on_at bare p) (Some places) None)
    (places-between (length rows) (speech_start bare p) (cue_end bare p) it records start starts (omega (arith, same)) begin (omega (arith, inside)))
    ∙ ap₂ (λ (rs : List BareRow) (ss : List SegmentOf). cond (goes_on_at rs p) (Some (places_between (speech_start rs p) (cue_end rs p) ss)) None) (sym are) (sym cut)
  where
    bare : List BareRow
    bare = map bare_of rows

    by_starts : ℕ → ℕ → PlacesOf
    by_starts first last = record { first = place_with (start ∷ starts) first; last = place_with (start ∷ starts) last }

-- The place of the last record that begins at a row or before it is one of a record.
pub place-low : (starts : List ℕ) (row : ℕ) → 0 < length starts → place_with starts row < length starts
place-low starts row some = let less = prefix_len-le-length (λ (start : ℕ). nat_le start row) starts in omega (arith, less, some)
