-- No row of a state has a form feed.
use Rattle.std.proofs.Common.{◌≡◌, inl, inr, ℕ, zero, suc, ◌+◌, ◌-◌, ◌≤◌, ◌==◌, Bool, true, false, not, cond, Option, List, [], ◌∷◌, ◌++◌, length, drop, get_or, refl, sym, ap, subst, ◌∙◌, ne_eqb, arith, unwrap_or}
use Rattle.std.specs.Prelude.{◌/◌, ◌%◌, All, codes, decimal, nat_le, nat_lt, slice_index, slice_range}
use Rattle.std.specs.Fmt.{digit_glyph, digits_onto, digits}
use Rattle.std.specs.List.{flat_map, list_all}
use Rattle.std.specs.Str.{chars, NonePass, NoCharPasses}
use Rattle.std.proofs.lemmas.Bool.{and_parts, cases_lt, not-true}
use Rattle.std.proofs.lemmas.List.{get_or_default, get_or_past}
use Rattle.std.proofs.lemmas.List.Elements.{All-nil, All-cons, All-head, All-tail, All-append, All-contains, All-weaker, All-take, All-drop}
use Rattle.std.proofs.lemmas.Str.{encodes-chars, NoCharPasses-byte}
use Rattle.spec_text.specs.Lines.{LineState, IsClean, IsText, is_dropped, is_kept, line_texts}
use Rattle.spec_pages.specs.Rows.{ElementOf}
use Rattle.spec_labels.specs.Labels.{LabelOf, step_letters, step_text, label_text}
use Rattle.spec_sheets.specs.Cells.{ShownText, slice, label, ShownPart, text_at, shown_bytes, RowShows}
use Rattle.spec_sheets.specs.Layout.{placed_in}
use Rattle.spec_sheets.specs.Shown.{shown_rows}
use Rattle.spec_sheets.specs.RowBytes.{ShownRow}
use Rattle.spec_sheets.specs.PageRows.{page_body, omitted_rows}
use Rattle.spec_sheets.specs.PageTexts.{fixed_texts, IsGiven, CellGiven, RowGiven}
use Rattle.spec_sheets.proofs.PageParts.{page_body-given, omitted-given}
use Rattle.spec_state.specs.State.{State, text_of}
use Rattle.spec_packet.specs.SheetReadings.{is_sheet_end}
use Rattle.spec_packet.specs.Pieces.{IsPlain}
use Rattle.spec_packet.proofs.PlainLaws.{Whole, rows-plain}
use Rattle.spec_packet.proofs.RunCuts.{all-in}

all-whole : (bytes : List ℕ) → list_all (λ b. not (is_sheet_end b)) bytes ≡ true → All Whole bytes
all-whole [] is = All-nil Whole
all-whole (b ∷ bytes) is =
    let p = and_parts (not (is_sheet_end b)) (list_all (λ b. not (is_sheet_end b)) bytes) is in
    All-cons Whole b bytes (record { is = not-true (is_sheet_end b) p.0 }) (all-whole bytes p.1)

texts-whole : (texts : List (List ℕ)) → list_all (λ text. list_all (λ b. not (is_sheet_end b)) text) texts ≡ true → All (All Whole) texts
texts-whole [] is = All-nil (All Whole)
texts-whole (text ∷ texts) is =
    let p = and_parts (list_all (λ b. not (is_sheet_end b)) text) (list_all (λ text. list_all (λ b. not (is_sheet_end b)) text) texts) is in
    All-cons (All Whole) text texts (all-whole text p.0) (texts-whole texts p.1)

-- ---- lines

none-dropped : (cs : List ℕ) → list_all is_kept cs ≡ true → NonePass is_dropped cs
none-dropped [] kept = tt
none-dropped (char ∷ cs) kept =
    let parts = and_parts (is_kept char) (list_all is_kept cs) kept in
    (not-true (is_dropped char) parts.0, none-dropped cs parts.1)

whole-byte : (byte : ℕ) → (byte ≡ 12 → ⊥) → Whole byte
whole-byte byte other = record { is = ne_eqb byte 12 other }

clean-whole : (text : List ℕ) → IsClean text → All Whole text
clean-whole text clean k d inside =
    let none : NoCharPasses is_dropped text = (chars text, encodes-chars text clean.utf8, none-dropped (chars text) clean.kept) in
    let same = get_or_default text k d 0 inside in
    whole-byte (get_or text k d) (λ is.
    let at : get_or text k 0 ≡ 12 = sym same ∙ is in
    let bad : true ≡ false = sym (ap is_dropped at) ∙ NoCharPasses-byte is_dropped text k none inside (omega (arith, at)) in
    let no_way : ⊥ = cc in no_way)

lines-whole : (lines : List LineState) → All (λ (line : LineState). IsClean line.text) lines → All (All Whole) (line_texts lines)
lines-whole [] clean = All-nil (All Whole)
lines-whole (line ∷ lines) clean =
    let P = λ (line : LineState). IsClean line.text in
    All-cons (All Whole) line.text (line_texts lines) (clean-whole line.text (All-head P line lines clean)) (lines-whole lines (All-tail P line lines clean))

text-whole : (texts : List (List ℕ)) (place : ℕ) → All (All Whole) texts → All Whole (text_at texts place)
text-whole texts place all = elim (cases_lt place (length texts)) [
  | inl inside ↦ all place [] inside
  | inr past ↦ subst (All Whole) (sym (get_or_past texts place [] past)) (All-nil Whole)
]

-- ---- labels

glyph-high : (d : ℕ) → 40 ≤ digit_glyph false d
glyph-high d = by (nat_lt d 10)
  where
    by : (t : Bool) → 40 ≤ cond t (48 + d) (87 + d)
    by true = omega arith
    by false = omega arith

abbrev High : ℕ → Type 0
High b = 40 ≤ b

digits-high : (k n : ℕ) (text : List ℕ) → All High text → All High (digits_onto k 10 false n text)
digits-high zero n text all = all
digits-high (suc k) n text all =
    let glyph = digit_glyph false (n % 10) in
    let more = All-cons High glyph text (glyph-high (n % 10)) all in
    by (n / 10 == 0) glyph more (digits-high k (n / 10) (glyph ∷ text) more)
  where
    by : (t : Bool) (glyph : ℕ) → All High (glyph ∷ text) → All High (digits_onto k 10 false (n / 10) (glyph ∷ text)) → All High (cond t (glyph ∷ text) (digits_onto k 10 false (n / 10) (glyph ∷ text)))
    by true glyph one other = one
    by false glyph one other = other

decimal-high : (n : ℕ) → All High (decimal n)
unfolding digits
decimal-high n = digits-high 64 n [] (All-nil High)

high-whole : (bytes : List ℕ) → All High bytes → All Whole bytes
high-whole bytes all = All-weaker High Whole (λ b high. whole-byte b (λ is. omega (arith, high, is))) bytes all

letter-whole : (i : ℕ) → Whole (slice_index step_letters i)
letter-whole i = elim (cases_lt i (length step_letters)) [
  | inl inside ↦ all-whole step_letters refl i 0 inside
  | inr past ↦ subst Whole (sym (get_or_past step_letters i 0 past)) (record { is = refl })
]

step-whole : (step : ℕ) → All Whole (step_text step)
step-whole step = by (step == 0) (nat_le step 24)
  where
    by : (none few : Bool) → All Whole (cond none (codes ".") (cond few (slice_index step_letters (step - 1) ∷ []) (codes "(" ++ decimal step ++ codes ")")))
    by true few = all-whole (codes ".") refl
    by false true = All-cons Whole (slice_index step_letters (step - 1)) [] (letter-whole (step - 1)) (All-nil Whole)
    by false false =
        All-append Whole (codes "(" ++ decimal step) (codes ")") (All-append Whole (codes "(") (decimal step) (all-whole (codes "(") refl) (high-whole (decimal step) (decimal-high step)))
        (all-whole (codes ")") refl)

steps-whole : (path : List ℕ) → All Whole (flat_map step_text path)
steps-whole [] = All-nil Whole
steps-whole (step ∷ path) = All-append Whole (step_text step) (flat_map step_text path) (step-whole step) (steps-whole path)

label-clean : (it : LabelOf) → All Whole (label_text it)
label-clean it = All-append Whole (decimal it.number) (flat_map step_text it.path) (high-whole (decimal it.number) (decimal-high it.number)) (steps-whole it.path)

-- ---- rows whose parts are parts of lines, fixed texts or labels

module _ (texts : List (List ℕ)) (labels : List LabelOf) (all : All (All Whole) texts) where
  given-whole : (it : ShownText) → IsGiven texts labels it → All Whole (shown_bytes it)
  given-whole (slice bytes) given = elim given [
    | inl part ↦
        let line = text_at texts part.line in
        subst (All Whole) (sym part.is) (All-take Whole (part.run.to - part.run.from) (drop part.run.from line) (All-drop Whole part.run.from line (text-whole texts part.line all)))
    | inr fixed ↦ All-contains (All Whole) fixed_texts bytes (texts-whole fixed_texts refl) fixed
  ]
  given-whole (label it) given = label-clean it

  given-plain : (rows : List ShownRow) → All (RowGiven texts labels) rows → IsPlain rows
  given-plain rows given =
      rows-plain rows
      (λ row row_in cell cell_in part part_in.
      let own = all-in (RowGiven texts labels) row rows given row_in in
      let cell_given = all-in (CellGiven texts labels) cell row.cells own.cells cell_in in
      given-whole part.text (all-in (λ (p : ShownPart). IsGiven texts labels p.text) part cell.parts cell_given.parts part_in))

-- The rows of a page, and those of a sheet for omitted pages.
pub page-clean : (state : State) → IsText (text_of state) → (labels : Option (List LabelOf)) (elements : List ElementOf) (round from to : ℕ) → All (RowShows (line_texts state.lines)) (placed_in elements)
    → IsPlain (page_body round (slice_range (shown_rows state.lines labels elements) from to))
page-clean state is labels elements round from to show =
    given-plain (line_texts state.lines) (unwrap_or labels []) (lines-whole state.lines is.clean) (page_body round (slice_range (shown_rows state.lines labels elements) from to))
    (page_body-given state.lines labels elements round from to show)

pub omitted-clean : IsPlain omitted_rows
omitted-clean = given-plain [] [] (All-nil (All Whole)) omitted_rows (omitted-given [] [])
