-- Page records that an edit carries and raises.
use Rattle.std.proofs.Common.{◌≡◌, ◌≢◌, ℕ, zero, suc, ◌+◌, ◌<◌, ◌≤◌, Bool, true, false, cond, Option, Some, None, List, [], ◌∷◌, ◌++◌, length, map, take, drop, get_or, refl, sym, ap, ◌∙◌, subst, arith}
use Rattle.std.specs.Prelude.{◌==◌, ◌||◌, IsTrue, All, IfSome, is_some, option_map, not}
use Rattle.std.specs.List.{list_any}
use Rattle.std.proofs.lemmas.Bool.{eq-eqb, lt-ltb}
use Rattle.std.proofs.lemmas.List.{length-map}
use Rattle.std.proofs.lemmas.List.Folds.{list_any-append}
use Rattle.spec_text.specs.Lines.{LineState, TextState, IsText, line_texts}
use Rattle.spec_text.specs.Edits.{Displacement, EditOf, Replacement, changed, displaced_by, exchanged, refusal_of, replacement_of, restored}
use Rattle.spec_text.specs.Limits.{size_limit}
use Rattle.spec_text.specs.Ranges.{range_of}
use Rattle.spec_text.proofs.TakenEdits.{taken-inside}
use Rattle.spec_text.proofs.EditedLaws.{text-HasIds, changed-IsEdited}
use Rattle.spec_pages.specs.Rows.{ElementOf}
use Rattle.spec_labels.specs.declared.Moved.{Moved}
use Rattle.spec_labels.specs.Labels.{LabelOf}
use Rattle.spec_labels.specs.Scenes.{SceneRecordOf, scene_step_limit}
use Rattle.spec_labels.specs.PageRecords.{PageRecordOf, carried, carried_records, end_line, is_present, line_at, put_back_records, record_starts}
use Rattle.spec_labels.proofs.CarryLaws.{Edited}
use Rattle.spec_labels.proofs.PageRecordLaws.{carried-labels}
use Rattle.spec_sheets.specs.Cells.{RowShows}
use Rattle.spec_sheets.specs.Layout.{placed_in}
use Rattle.spec_sheets.specs.Shown.{Shown, row_key, shown_rows}
use Rattle.spec_sheets.proofs.LayoutLaws.{layout_of-show}
use Rattle.spec_sheets.proofs.RowCounts.{layout_of-few}
use Rattle.spec_records.specs.Kept.{AreKeptScenes, KeepsScenes, RecordsOf}
use Rattle.spec_state.specs.State.{State, text_of}
use Rattle.spec_state.specs.Changes.{CanEdit, carried_state, edited_state, pages_raised, rows_by_record, segment_rows, text_after}
use Rattle.spec_state.specs.StateSheets.{keys_in, layout_in, rows_in}
use Rattle.spec_state.specs.Headings.{heading_labels}
use Rattle.spec_state.specs.Keeping.{IsWhole, state_kept, state_of}
use Rattle.spec_state.specs.KeptStates.{ArePagesKept, IsKept, IsKeptWhole}
use Rattle.spec_state.specs.SoundStates.{AreLocked}
use Rattle.spec_state.proofs.EditKeeps.{edit-keeps, same-locked}
use Rattle.spec_state.proofs.RulesLaws.{parts-whole, whole-parts}
use Rattle.spec_machine.proofs.PageKeeps.{edited-pages}
use Rattle.spec_machine.proofs.WholeStates.{edit-whole}
use Rattle.spec_state.proofs.StateKeys.{state-row_keys}
use Rattle.spec_state.proofs.StateLaws.{state-AreAnchored, state-AreStarts}
use Rattle.spec_locked_pages.proofs.SameRows.{starts-raised}
use Rattle.sp_layout.specs.Bodies.{KeyedElements, row_count}
use Rattle.sp_compare.specs.BareRows.{AreLaid, Both}
use Rattle.sp_compare.specs.Raised.{AreSegments, raises}
use Rattle.sp_exchange.specs.Restoring.{CanRestoreText}
use Rattle.sp_text_entry.specs.TextEntries.{TextEntryState, FitRecords, LeadsText, displaced, turned_records, with_text}
use Rattle.sp_sheets.specs.Firsts.{first_rows, key_starts}
use Rattle.sp_locks.specs.Carrying.{CanCarry}
use Rattle.sp_text_entry.specs.Raised.{AreCarried, FitPages, put_back_in, raises_in, records_carried, records_raised, state_before, with_pages}
use Rattle.sp_sheets.proofs.FirstsLaws.{count-rows}
use Rattle.sp_text_entry.proofs.RaisedLaws.{raises-distinct, raises-raised, raises-within}

-- ---- a carried state is whole

carried-steps : (state : State) (it : Replacement) (pages : Option (List PageRecordOf))
    → is_some (pages_raised state (carried_state state it) pages (option_map (carried_records (text_after state it).lines (it.first + length it.texts)) pages))
    ≡ is_some (option_map (carried_records (text_after state it).lines (it.first + length it.texts)) pages)
carried-steps state it None = refl
carried-steps state it (Some records) = refl

carried-scenes : (state : State) (it : Replacement) (scenes : Option (List SceneRecordOf)) → KeepsScenes (state_kept (edited_state state it)) scenes → KeepsScenes (state_kept (carried_state state it)) scenes
carried-scenes state it None keeps = keeps
carried-scenes state it (Some records) keeps = subst (λ (b : Bool). AreKeptScenes (text_after state it).next (scene_step_limit + state.round + cond b 1 0) records) (carried-steps state it state.pages) keeps

carried-locked : (state : State) (it : Replacement) (pages : Option (List PageRecordOf)) → IfSome pages AreLocked → IfSome (option_map (carried_records (text_after state it).lines (it.first + length it.texts)) pages) AreLocked
carried-locked state it None are = tt
carried-locked state it (Some records) are =
    let place = it.first + length it.texts in
    same-locked (carried_records (text_after state it).lines place records) records (carried-labels (text_after state it).lines place records) are

carried-kept : (state : State) (it : Replacement) (pages : Option (List PageRecordOf)) → Edited (range_of it) state.next (text_after state it).next state.lines (text_after state it).lines
    → IfSome pages (ArePagesKept state.round state.lines)
    → IfSome (option_map (carried_records (text_after state it).lines (it.first + length it.texts)) pages) (ArePagesKept state.round (text_after state it).lines)
carried-kept state it None e are = tt
carried-kept state it (Some records) e are = edited-pages state.round (range_of it) state.next (text_after state it).next state.lines (text_after state it).lines [] [] records e are

pub carried-whole : (state : State) (it : Replacement) → IsWhole state → CanEdit state it → IsWhole (carried_state state it)
carried-whole state it is can =
    let whole = whole-parts state is in
    let kept = edit-keeps state it whole.kept can in
    let e : Edited (range_of it) state.next (text_after state it).next state.lines (text_after state it).lines = record {
      edit = changed-IsEdited (text_of state) it state.round can.inside;
      old_ids = text-HasIds (text_of state) (whole.kept).text;
      new_ids = text-HasIds (text_after state it) can.text;
    } in
    let after : IsKept (carried_state state it) = record {
      text = can.text;
      round = kept.round;
      marks = kept.marks;
      scenes = carried-scenes state it state.scenes kept.scenes;
      scened = λ h. kept.scened (carried-steps state it state.pages ∙ h);
      pages = carried-locked state it state.pages (whole.kept).pages;
    } in
    let parts : IsKeptWhole (carried_state state it) = record { kept = after; pages = carried-kept state it state.pages e whole.pages } in
    parts-whole (carried_state state it) parts

-- ---- records can be carried

present-any : (lines : List LineState) (id : ℕ) → line_at lines id < length lines → list_any (λ (line : LineState). line.id == id) lines ≡ true
present-any [] id inside = absurd (omega (arith, inside))
present-any (line ∷ lines) id inside = by (present-any lines id) (line.id == id) inside
  where
    by : (line_at lines id < length lines → list_any (λ (it : LineState). it.id == id) lines ≡ true) → (b : Bool) → cond (not b) (1 + line_at lines id) 0 < suc (length lines) → (b || list_any (λ (it : LineState). it.id == id) lines) ≡ true
    by rest true h = refl
    by rest false h = rest (omega (arith, h))

any-present : (lines : List LineState) (id : ℕ) → list_any (λ (line : LineState). line.id == id) lines ≡ true → line_at lines id < length lines
any-present [] id any = absurd (let bad : ⊥ = cc in bad)
any-present (line ∷ lines) id any = by (any-present lines id) (line.id == id) any
  where
    by : (list_any (λ (it : LineState). it.id == id) lines ≡ true → line_at lines id < length lines) → (b : Bool) → (b || list_any (λ (it : LineState). it.id == id) lines) ≡ true → cond (not b) (1 + line_at lines id) 0 < suc (length lines)
    by rest true h = omega arith
    by rest false h = let e = rest h in omega (arith, e)

any-take : (p : LineState → Bool) (n : ℕ) (xs : List LineState) → list_any p (take n xs) ≡ true → list_any p xs ≡ true
any-take p zero xs any = absurd (let bad : ⊥ = cc in bad)
any-take p (suc n) [] any = any
any-take p (suc n) (x ∷ xs) any = by (any-take p n xs) (p x) any
  where
    by : (list_any p (take n xs) ≡ true → list_any p xs ≡ true) → (b : Bool) → (b || list_any p (take n xs)) ≡ true → (b || list_any p xs) ≡ true
    by rest true h = refl
    by rest false h = rest h

any-drop : (p : LineState → Bool) (n : ℕ) (xs : List LineState) → list_any p (drop n xs) ≡ true → list_any p xs ≡ true
any-drop p zero xs any = any
any-drop p (suc n) [] any = any
any-drop p (suc n) (x ∷ xs) any = by (any-drop p n xs any) (p x)
  where
    by : list_any p xs ≡ true → (b : Bool) → (b || list_any p xs) ≡ true
    by rest true = refl
    by rest false = rest

any-exchanged : (p : LineState → Bool) (xs : List LineState) (first old : ℕ) (new : List LineState) → list_any p (exchanged xs first old new) ≡ true → (list_any p xs || list_any p new) ≡ true
any-exchanged p xs first old new any = by (list_any p (take first xs)) (list_any p new) (list_any p xs) (any-take p first xs) (any-drop p (first + old) xs)
    (sym (list_any-append p (take first xs) (new ++ drop (first + old) xs) ∙ ap (λ b. list_any p (take first xs) || b) (list_any-append p new (drop (first + old) xs))) ∙ any)
  where
    by : (front mid all : Bool) → (front ≡ true → all ≡ true) → (list_any p (drop (first + old) xs) ≡ true → all ≡ true) → (front || (mid || list_any p (drop (first + old) xs))) ≡ true → (all || mid) ≡ true
    by true mid all f b h = ap (λ a. a || mid) (f refl)
    by false true true f b h = refl
    by false true false f b h = refl
    by false false all f b h = ap (λ a. a || false) (b h)

or-first : (a b c : Bool) → (a || c) ≡ true → (a ≡ true → b ≡ true) → (b || c) ≡ true
or-first true b c h f = ap (λ x. x || c) (f refl)
or-first false true c h f = refl
or-first false false c h f = h

-- A record of a line of the old text can be carried.
can-carry : (lines gone : List LineState) (first stands : ℕ) (it : PageRecordOf)
    → (it.line ≢ end_line → line_at (exchanged lines first stands gone) it.line < length (exchanged lines first stands gone)) → CanCarry lines gone it
can-carry lines gone first stands it anchored = by (it.line == end_line) refl
  where
    by : (b : Bool) → (it.line == end_line) ≡ b → IsTrue (b || is_present lines it.line || list_any (λ (line : LineState). line.id == it.line) gone)
    by true is = refl
    by false is =
        let other : it.line ≢ end_line = λ e. (let t = eq-eqb it.line end_line e in let bad : ⊥ = cc in bad) in
        let any = any-exchanged (λ (line : LineState). line.id == it.line) lines first stands gone (present-any (exchanged lines first stands gone) it.line (anchored other)) in
        or-first (list_any (λ (line : LineState). line.id == it.line) lines) (is_present lines it.line) (list_any (λ (line : LineState). line.id == it.line) gone) any
        (λ h. lt-ltb (line_at lines it.line) (length lines) (any-present lines it.line h))

all-carry : (lines gone : List LineState) (first stands : ℕ) (state : State) (pages : Option (List PageRecordOf)) → state.lines ≡ exchanged lines first stands gone → IsWhole state → state.pages ≡ pages
    → IfSome pages (All (CanCarry lines gone))
all-carry lines gone first stands state None same whole is = tt
all-carry lines gone first stands state (Some records) same whole is = λ k d inside.
    let anchored = (state-AreAnchored state records whole is).anchors k d inside in
    can-carry lines gone first stands (get_or records k d) (subst (λ (ls : List LineState). (get_or records k d).line ≢ end_line → line_at ls (get_or records k d).line < length ls) same anchored)

pub whole-carry : (text : TextState) (back : Displacement) (records : RecordsOf) → IsWhole (state_before text back records) → AreCarried text.lines back.lines records
whole-carry text back records whole = all-carry text.lines back.lines back.first back.stands (state_before text back records) records.pages refl whole refl

-- ---- raised

abbrev after-by : RecordsOf → TextState → TextState → ℕ → State
after-by records text old place =
    state_of text (with_pages records (pages_raised (state_of old records) (state_of text (with_pages records (option_map (carried_records text.lines place) records.pages))) records.pages (option_map (carried_records text.lines place) records.pages)))

-- Carrying and raising make the edited state.
pub edited-raised : (old text : TextState) (back : Displacement) (records : RecordsOf) (it : Replacement) → text ≡ changed old it records.round → restored text back ≡ old → back ≡ displaced_by old it
    → state_of text (records_raised text back records) ≡ edited_state (state_of old records) it
edited-raised old text back records it is leads gone =
    ap (λ (o : TextState). after-by records text o (back.first + back.stands)) leads
    ∙ ap (λ (d : Displacement). after-by records text old (d.first + d.stands)) gone
    ∙ ap (λ (t : TextState). after-by records t old (it.first + length it.texts)) is

-- Putting in the rounds that the records get raises them.
pub raised-is : (text : TextState) (back : Displacement) (records : RecordsOf) (starts : List ℕ) (moved : List Moved) → let old = state_before text back records in
    starts ≡ key_starts old.lines (keys_in old) records.pages
    → moved ≡ raises_in (segment_rows (rows_in old) starts) (state_of text (records_carried text back records)) (records_carried text back records).pages
    → put_back_in moved (records_carried text back records) ≡ records_raised text back records
raised-is text back records starts moved begin is =
    ap (λ (ms : List Moved). put_back_in ms (records_carried text back records)) (is ∙ ap (λ (ns : List ℕ). raises_in (segment_rows (rows_in old) ns) after (records_carried text back records).pages) begin)
    ∙ by records.pages
  where
    old : State
    old = state_before text back records

    place : ℕ
    place = back.first + back.stands

    after : State
    after = state_of text (records_carried text back records)

    by : (pages : Option (List PageRecordOf))
        → with_pages records (option_map (put_back_records (raises_in (segment_rows (rows_in old) (key_starts old.lines (keys_in old) pages)) after (option_map (carried_records text.lines place) pages))) (option_map (carried_records text.lines place) pages))
        ≡ with_pages records (pages_raised old after pages (option_map (carried_records text.lines place) pages))
    by None = refl
    by (Some those) =
        ap (λ (rs : List PageRecordOf). with_pages records (Some rs))
        (raises-raised records.round (rows_by_record old those) (rows_by_record after (carried_records text.lines place those)) (carried_records text.lines place those))

-- They leave the first rows of the records where they are.
pub raised-firsts : (text : TextState) (back : Displacement) (records : RecordsOf) → first_rows (state_of text (records_raised text back records)) ≡ first_rows (state_of text (records_carried text back records))
raised-firsts text back records = by records.pages
  where
    old : State
    old = state_before text back records

    place : ℕ
    place = back.first + back.stands

    after : State
    after = state_of text (records_carried text back records)

    by : (pages : Option (List PageRecordOf)) → key_starts text.lines (keys_in after) (pages_raised old after pages (option_map (carried_records text.lines place) pages)) ≡ key_starts text.lines (keys_in after) (option_map (carried_records text.lines place) pages)
    by None = refl
    by (Some those) = starts-raised text.lines (keys_in after) records.round (rows_by_record old those) (rows_by_record after (carried_records text.lines place those)) (carried_records text.lines place those)

-- They fit the records.
pub raised-fit : (olds : List (List Shown)) (state : State) (records : RecordsOf) (moved : List Moved) → moved ≡ raises_in olds state records.pages → FitPages records moved
raised-fit olds state records moved is = by records.pages is
  where
    by : (pages : Option (List PageRecordOf)) → moved ≡ raises_in olds state pages → IfSome pages (FitRecords moved)
    by None same = tt
    by (Some those) same =
        subst (λ (ms : List Moved). FitRecords ms those) (sym same)
        (record { within = raises-within state.round olds (rows_by_record state those) those; distinct = raises-distinct state.round 0 olds (rows_by_record state those) those })

-- ---- taken back

turned-pages : (first second : List Moved) (pages : Option (List PageRecordOf)) → option_map (put_back_records second) (option_map (put_back_records first) pages) ≡ option_map (λ (records : List PageRecordOf). put_back_records second (put_back_records first records)) pages
turned-pages first second None = refl
turned-pages first second (Some records) = refl

-- Starts of segments of a whole state.
pub starts-segments : (state : State) (pages : Option (List PageRecordOf)) (place : ℕ) (lines : List LineState) (starts : List ℕ) → IsWhole state → state.pages ≡ pages → starts ≡ key_starts state.lines (keys_in state) pages
    → IfSome (option_map (carried_records lines place) pages) (λ those. AreSegments (row_count (layout_in state).body) (length those) starts)
starts-segments state None place lines starts whole is begin = tt
starts-segments state (Some records) place lines starts whole is begin =
    let are = state-AreStarts state records whole is in
    let count = count-rows state in
    let size = length-map records (carried lines place) in
    subst (λ (ns : List ℕ). AreSegments (row_count (layout_in state).body) (length (carried_records lines place records)) ns) (sym begin)
    (record {
      many = are.count ∙ sym size;
      order = are.order;
      within = subst (λ (n : ℕ). All (λ (start : ℕ). start ≤ n) (record_starts state.lines (keys_in state) records)) count are.within;
    })

-- ---- a text laid out before an edit and after it

-- The rows of a whole state lie in its lines.
pub whole-laid : (state : State) (body : KeyedElements) → IsWhole state → body.elements ≡ (layout_in state).body → body.keys ≡ keys_in state → AreLaid state.lines body
whole-laid state body whole elements keys = record {
  keys = keys ∙ state-row_keys state ∙ ap (λ (es : List ElementOf). map (row_key state.lines) (placed_in es)) (sym elements);
  show = subst (λ (es : List ElementOf). All (RowShows (line_texts state.lines)) (placed_in es)) (sym elements) (layout_of-show state.speakers (text_of state) whole.text).1;
}

-- They are few.
pub whole-few : (state : State) (elements : List ElementOf) → IsWhole state → elements ≡ (layout_in state).body → row_count elements ≤ size_limit
whole-few state elements whole is =
    let most = layout_of-few state.speakers (text_of state) whole.text in
    let same = ap row_count is in
    omega (arith, most, same)

-- The starts of a whole state's records are those of segments.
pub own-segments : (state : State) (records : List PageRecordOf) (elements : List ElementOf) (starts : List ℕ) → IsWhole state → state.pages ≡ Some records → elements ≡ (layout_in state).body
    → starts ≡ record_starts state.lines (keys_in state) records → AreSegments (row_count elements) (length records) starts
own-segments state records elements starts whole is same begin =
    let are = state-AreStarts state records whole is in
    let made : AreSegments (row_count (layout_in state).body) (length records) (record_starts state.lines (keys_in state) records) = record {
      many = are.count;
      order = are.order;
      within = subst (λ (n : ℕ). All (λ (start : ℕ). start ≤ n) (record_starts state.lines (keys_in state) records)) (count-rows state) are.within;
    } in
    subst (λ (ns : List ℕ). AreSegments (row_count elements) (length records) ns) (sym begin)
    (subst (λ (es : List ElementOf). AreSegments (row_count es) (length records) (record_starts state.lines (keys_in state) records)) (sym same) made)

pub before-segments : (text : TextState) (back : Displacement) (old there : RecordsOf) (elements : List ElementOf) (starts : List ℕ) → let state = state_before text back old in
    IsWhole state → there ≡ records_carried text back old → elements ≡ (layout_in state).body → starts ≡ key_starts state.lines (keys_in state) old.pages
    → IfSome there.pages (λ those. AreSegments (row_count elements) (length those) starts)
before-segments text back old there elements starts whole is same begin =
    subst (λ (r : RecordsOf). IfSome r.pages (λ those. AreSegments (row_count elements) (length those) starts)) (sym is)
    (subst (λ (es : List ElementOf). IfSome (records_carried text back old).pages (λ those. AreSegments (row_count es) (length those) starts)) (sym same)
    (starts-segments (state_before text back old) old.pages (back.first + back.stands) text.lines starts whole refl begin))

-- Rounds that were put in are those of the records whose rows differ.
pub raised-here : (text : TextState) (back : Displacement) (old there after : RecordsOf) (elements : List ElementOf) (starts : List ℕ) (moved : List Moved) → let state = state_before text back old in
    there ≡ records_carried text back old → elements ≡ (layout_in state).body → starts ≡ key_starts state.lines (keys_in state) old.pages
    → ((labels : Option (List LabelOf)) → moved ≡ raises_in (segment_rows (shown_rows state.lines labels elements) starts) (state_of text there) there.pages)
    → after ≡ put_back_in moved there → after ≡ records_raised text back old
raised-here text back old there after elements starts moved is same begin rounds put =
    let state = state_before text back old in
    let labels = heading_labels state.lines state.scenes in
    let own : moved ≡ raises_in (segment_rows (rows_in state) starts) (state_of text (records_carried text back old)) (records_carried text back old).pages =
    rounds labels
    ∙ ap (λ (es : List ElementOf). raises_in (segment_rows (shown_rows state.lines labels es) starts) (state_of text there) there.pages) same
    ∙ ap (λ (r : RecordsOf). raises_in (segment_rows (rows_in state) starts) (state_of text r) r.pages) is in
    put ∙ ap (put_back_in moved) is ∙ raised-is text back old starts moved begin own

-- Rounds that were listed are those of the page records.
pub some-pages : {V : Type 0} (items : V → List PageRecordOf) (there : Option V) (pages : V) (own : Option (List PageRecordOf)) → option_map items there ≡ own → there ≡ Some pages → own ≡ Some (items pages)
some-pages items there pages own same is = sym same ∙ ap (option_map items) is

pub raises-made : (moved : List Moved) (state : State) (old : List LineState) (both : Both) (olds news : List ElementOf) (before after : List ℕ) (round : ℕ) (records : List PageRecordOf)
    → both ≡ record { old = old; olds = olds; new = state.lines; news = news } → news ≡ (layout_in state).body → after ≡ record_starts state.lines (keys_in state) records → round ≡ state.round → state.pages ≡ Some records
    → ((one other : Option (List LabelOf)) → moved ≡ raises round 0 (segment_rows (shown_rows both.old one both.olds) before) (segment_rows (shown_rows both.new other both.news) after) records)
    → (labels : Option (List LabelOf)) → moved ≡ raises_in (segment_rows (shown_rows old labels olds) before) state state.pages
raises-made moved state old both olds news before after round records both_is body begin rounds are is labels =
    let own = heading_labels state.lines state.scenes in
    is labels own
    ∙ ap (λ (b : Both). raises round 0 (segment_rows (shown_rows b.old labels b.olds) before) (segment_rows (shown_rows b.new own b.news) after) records) both_is
    ∙ ap (λ (es : List ElementOf). raises round 0 (segment_rows (shown_rows old labels olds) before) (segment_rows (shown_rows state.lines own es) after) records) body
    ∙ ap (λ (ns : List ℕ). raises round 0 (segment_rows (shown_rows old labels olds) before) (segment_rows (rows_in state) ns) records) begin
    ∙ ap (λ (r : ℕ). raises r 0 (segment_rows (shown_rows old labels olds) before) (rows_by_record state records) records) rounds
    ∙ ap (raises_in (segment_rows (shown_rows old labels olds) before) state) (sym are)

-- ---- an edit that is taken

abbrev carried-by : RecordsOf → TextState → ℕ → State
carried-by records text place = state_of text (with_pages records (option_map (carried_records text.lines place) records.pages))

-- The state before it is the old one.
pub whole-before : (old text : TextState) (back : Displacement) (records : RecordsOf) → restored text back ≡ old → IsWhole (state_of old records) → IsWhole (state_before text back records)
whole-before old text back records leads whole = subst (λ (t : TextState). IsWhole (state_of t records)) (sym leads) whole

pub carried-here : (old text : TextState) (back : Displacement) (records : RecordsOf) (edit : EditOf) → let it = replacement_of old.lines edit in
    refusal_of old edit ≡ None → text ≡ changed old it records.round → back ≡ displaced_by old it → IsText text → IsWhole (state_of old records)
    → IsWhole (state_of text (records_carried text back records))
carried-here old text back records edit taken is gone kept whole =
    let it = replacement_of old.lines edit in
    let same : state_of text (records_carried text back records) ≡ carried_state (state_of old records) it =
    ap (λ (d : Displacement). carried-by records text (d.first + d.stands)) gone ∙ ap (λ (t : TextState). carried-by records t (it.first + length it.texts)) is in
    subst IsWhole (sym same) (carried-whole (state_of old records) it whole (record { inside = taken-inside old edit taken; text = subst IsText is kept }))

pub edited-here : (old text : TextState) (back : Displacement) (records after : RecordsOf) (edit : EditOf) → let it = replacement_of old.lines edit in
    refusal_of old edit ≡ None → text ≡ changed old it records.round → restored text back ≡ old → back ≡ displaced_by old it → after ≡ records_raised text back records
    → state_of text after ≡ edited_state (state_of old records) it
edited-here old text back records after edit taken is leads gone raised =
    ap (state_of text) raised ∙ edited-raised old text back records (replacement_of old.lines edit) is leads gone

pub edited-whole : (old text : TextState) (records after : RecordsOf) (edit : EditOf) → let it = replacement_of old.lines edit in
    refusal_of old edit ≡ None → text ≡ changed old it records.round → IsText text → IsWhole (state_of old records) → state_of text after ≡ edited_state (state_of old records) it → IsWhole (state_of text after)
edited-whole old text records after edit taken is kept whole same =
    let it = replacement_of old.lines edit in
    subst IsWhole (sym same) (edit-whole (state_of old records) it whole (record { inside = taken-inside old edit taken; text = subst IsText is kept }))

-- Its entry leads back.
second-fits : (first second : List Moved) (pages : Option (List PageRecordOf)) → IfSome (option_map (put_back_records first) pages) (FitRecords second) → IfSome pages (λ records. FitRecords second (put_back_records first records))
second-fits first second None fits = tt
second-fits first second (Some records) fits = fits

pub leads-back : (old text : TextState) (records after : RecordsOf) (entry : TextEntryState) → CanRestoreText text entry.lines entry.stanzas → restored text (displaced entry) ≡ old
    → FitPages after entry.first → FitPages (put_back_in entry.first after) entry.second → put_back_in entry.second (put_back_in entry.first after) ≡ records
    → LeadsText (state_of text after) (state_of old records) entry
leads-back old text records after entry can leads first_fits second_fits back = record {
  can = record { text = can; first_fits = first_fits; second_fits = second-fits entry.first entry.second after.pages second_fits };
  there = ap (λ (t : TextState). with_text (state_of text after) t (option_map (turned_records entry) after.pages)) leads
      ∙ ap (λ (ps : Option (List PageRecordOf)). with_text (state_of text after) old ps) (sym (turned-pages entry.first entry.second after.pages))
      ∙ ap (λ (r : RecordsOf). state_of old r) back;
}
