-- The headings of a state, and the keys of its rows.
use Rattle.std.proofs.Common.{◌≡◌, ◌≢◌, ℕ, ◌<◌, true, ◌&&◌, ◌||◌, ltb, eqb, List, length, map, get_or, inl, inr, sym, ap, ap₂, subst, ◌∙◌, arith}
use Rattle.std.specs.Prelude.{All, AllPairs}
use Rattle.std.proofs.lemmas.Bool.{lt-ltb, eq-eqb, or_left, or_right}
use Rattle.std.proofs.lemmas.List.{length-map, get_or-map}
use Rattle.spec_text.specs.Lines.{LineState, IsText}
use Rattle.spec_text.specs.EditedLines.{no_line, HasIds}
use Rattle.spec_text.proofs.EditedLaws.{text-HasIds}
use Rattle.spec_pages.specs.Rows.{Row}
use Rattle.spec_labels.specs.declared.RowKey.{RowKey}
use Rattle.spec_labels.specs.Scenes.{AreHeadings}
use Rattle.spec_labels.specs.PageRecords.{line_at, is_before}
use Rattle.spec_labels.specs.Anchors.{AreKeys}
use Rattle.spec_labels.proofs.CarryLaws.{place-is}
use Rattle.spec_sheets.specs.Layout.{KeyBelow, placed_in}
use Rattle.spec_sheets.specs.Shown.{no_row, row_key}
use Rattle.spec_sheets.proofs.RowLaws.{IsText-texts}
use Rattle.spec_sheets.proofs.LayoutLaws.{layout_of-show}
use Rattle.spec_sheets.proofs.RowKeys.{layout_of-keys}
use Rattle.spec_sheets.proofs.ShownLaws.{shown_rows-keys}
use Rattle.spec_state.specs.State.{State, text_of}
use Rattle.spec_state.specs.Headings.{headings_of, heading_labels}
use Rattle.spec_state.specs.StateSheets.{layout_in, keys_in}
use Rattle.spec_state.proofs.HeadingLaws.{headings-are, OfLines, headings-OfLines}

-- The headings of a text keep what is asked of headings.
pub text-headings : (state : State) → IsText (text_of state) → AreHeadings (headings_of state.lines)
text-headings state is = let are = IsText-texts (text_of state) is in headings-are state.next state.lines (text-HasIds (text_of state) is) are.utf8 are.few

pub text-OfLines : (state : State) → IsText (text_of state) → OfLines state.lines (headings_of state.lines)
text-OfLines state is = let are = IsText-texts (text_of state) is in headings-OfLines state.lines are.utf8 are.few

-- The rows of the body of a state, with places in the text.
abbrev pub body_in : State → List Row
body_in state = placed_in (layout_in state).body

pub state-row_keys : (state : State) → keys_in state ≡ map (row_key state.lines) (body_in state)
state-row_keys state = shown_rows-keys state.lines (heading_labels state.lines state.scenes) (layout_in state).body

-- Rows stand on lines of the text, and their keys rise.
pub record AreRows (lines : List LineState) (rows : List Row) : Type 0 where
  pub places : All (λ (row : Row). row.line < length lines) rows
  pub rise : AllPairs KeyBelow rows

pub state-rows : (state : State) → IsText (text_of state) → AreRows state.lines (body_in state)
state-rows state is =
    let show = (layout_of-show state.speakers (text_of state) is).1 in
    let count = length-map state.lines (λ (line : LineState). line.text) in
    record { places = λ k d h. (let it = show k d h in let low = it.place in omega (arith, low, count)); rise = (layout_of-keys state.speakers (text_of state) is).1 }

before-true : (lines : List LineState) (one other : Row) → one.line < length lines → other.line < length lines → AllPairs (λ (a b : LineState). a.id ≢ b.id) lines → KeyBelow one other
    → is_before lines (row_key lines one) (row_key lines other) ≡ true
before-true lines one other a b distinct below =
    let at_one = place-is lines one.line distinct a in
    let at_other = place-is lines other.line distinct b in
    ap₂ (λ p q. ltb p q || (eqb p q && ltb one.row other.row)) at_one at_other
    ∙ elim below [
      | inl less ↦ or_left (ltb one.line other.line) (eqb one.line other.line && ltb one.row other.row) (lt-ltb one.line other.line less)
      | inr level ↦
          or_right (ltb one.line other.line) (eqb one.line other.line && ltb one.row other.row)
          (ap₂ (λ p q. p && q) (eq-eqb one.line other.line level.0) (lt-ltb one.row other.row level.1))
    ]

-- Keys of such rows rise by ids.
pub rows-AreKeys : (next : ℕ) (lines : List LineState) (rows : List Row) → HasIds next lines → AreRows lines rows → AreKeys lines (map (row_key lines) rows)
rows-AreKeys next lines rows ids are = record {
  rise = λ i j d less inside.
      let count = length-map rows (row_key lines) in
      let there : j < length rows = omega (arith, inside, count) in
      let here : i < length rows = omega (arith, there, less) in
      let a = sym (get_or-map (row_key lines) rows i no_row d here) in
      let b = sym (get_or-map (row_key lines) rows j no_row d there) in
      subst (λ k. is_before lines k (get_or (map (row_key lines) rows) j d) ≡ true) a
      (subst (λ k. is_before lines (row_key lines (get_or rows i no_row)) k ≡ true) b
      (before-true lines (get_or rows i no_row) (get_or rows j no_row) (are.places i no_row here) (are.places j no_row there) ids.distinct (are.rise i j no_row less there)));
  inside = λ k d inside same.
      let count = length-map rows (row_key lines) in
      let there : k < length rows = omega (arith, inside, count) in
      let a = get_or-map (row_key lines) rows k no_row d there in
      let low = ids.below (get_or rows k no_row).line no_line (are.places k no_row there) in
      let limit = ids.limit in
      let line = ap (λ (key : RowKey). key.line) a in
      omega (arith, low, limit, line, same);
}

-- The line of each key is in the text.
pub rows-inside : (next : ℕ) (lines : List LineState) (rows : List Row) → HasIds next lines → AreRows lines rows → All (λ (key : RowKey). line_at lines key.line < length lines) (map (row_key lines) rows)
rows-inside next lines rows ids are k d inside =
    let count = length-map rows (row_key lines) in
    let there : k < length rows = omega (arith, inside, count) in
    let low = are.places k no_row there in
    let at = place-is lines (get_or rows k no_row).line ids.distinct low in
    let own : line_at lines (row_key lines (get_or rows k no_row)).line < length lines = omega (arith, at, low) in
    subst (λ (key : RowKey). line_at lines key.line < length lines) (sym (get_or-map (row_key lines) rows k no_row d there)) own

pub state-keys : (state : State) → IsText (text_of state) → AreKeys state.lines (keys_in state)
state-keys state is = subst (AreKeys state.lines) (sym (state-row_keys state)) (rows-AreKeys state.next state.lines (body_in state) (text-HasIds (text_of state) is) (state-rows state is))

pub state-keys_inside : (state : State) → IsText (text_of state) → All (λ (key : RowKey). line_at state.lines key.line < length state.lines) (keys_in state)
state-keys_inside state is =
    subst (All (λ (key : RowKey). line_at state.lines key.line < length state.lines)) (sym (state-row_keys state)) (rows-inside state.next state.lines (body_in state) (text-HasIds (text_of state) is) (state-rows state is))
