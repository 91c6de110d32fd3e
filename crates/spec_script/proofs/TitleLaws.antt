-- Laws of lines of a title page.
use Rattle.std.proofs.Common.{◌≡◌, ℕ, ◌+◌, ◌==◌, Bool, true, false, cond, not, ◌&&◌, nat_lt, List, [], ◌∷◌, length, suc, refl, sym, ap, ◌∙◌, inl, inr, arith}
use Rattle.std.specs.List.{list_all}
use Rattle.std.proofs.lemmas.Bool.{and_parts, and_right, or_cases, cases_Bool, cond-true, cond-false, eqb-true, ne_eqb, le-ltb}
use Rattle.spec_script.specs.Trim.{is_space}
use Rattle.spec_text.specs.Parts.{SpanOf}
use Rattle.spec_script.specs.declared.TitleLine.{TitleLine}
use Rattle.spec_script.specs.declared.TitleLine.TheVariants as lines
use Rattle.spec_script.specs.Spans.{text_in}
use Rattle.spec_script.specs.Title.{colon, has_key, is_indented, is_centred_key, opens_centred, value_place, title_line_of}

no_colon : (b : ℕ) → is_space b ≡ true → (b == 58) ≡ false
no_colon b space =
    ne_eqb b 58 (λ e. elim (or_cases (b == 32) (b == 9) space) [ inl t ↦ omega (arith, eqb-true b 32 t) | inr t ↦ omega (arith, eqb-true b 9 t) ])

colon-spaces : (text : List ℕ) → list_all is_space text ≡ true → colon text ≡ length text
colon-spaces [] spaces = refl
colon-spaces (b ∷ text) spaces =
    let parts = and_parts (is_space b) (list_all is_space text) spaces in
    let rest = colon-spaces text parts.1 in
    cond-true (not (b == 58)) (1 + colon text) 0 (ap not (no_colon b parts.0)) ∙ (let more : 1 + colon text ≡ suc (length text) = omega arith in more)

-- A line of spaces alone has no key.
pub has_key-spaces : (text : List ℕ) → list_all is_space text ≡ true → has_key text ≡ false
has_key-spaces text spaces =
    and_right (not (is_indented text) && nat_lt 0 (colon text)) (nat_lt (colon text) (length text))
    (le-ltb (colon text) (length text) (omega (arith, colon-spaces text spaces)))

-- A line that opens no key has none.
pub opens-none : (line : List ℕ) (spans : List SpanOf) (answer : TitleLine) → answer ≡ title_line_of line spans → ((from : ℕ) (centred : Bool) → answer ≡ lines.Opens from centred → ⊥) → has_key (text_in line spans) ≡ false
opens-none line spans answer is none =
    let text = text_in line spans in
    let place = value_place line spans in
    let keyed : TitleLine = lines.Opens place (is_centred_key text) in
    let unkeyed : TitleLine = cond (has_key text) keyed (lines.Value place) in
    elim (cases_Bool (list_all is_space text)) [
      | inl spaces ↦ has_key-spaces text spaces
      | inr some ↦ elim (cases_Bool (has_key text)) [
        | inl key ↦ absurd (none place (is_centred_key text) (is ∙ cond-false (list_all is_space text) lines.Nothing unkeyed some ∙ cond-true (has_key text) keyed (lines.Value place) key))
        | inr other ↦ other
      ]
    ]

-- A line that opens a key has it, and tells whether its values are centred.
pub opens-key : (line : List ℕ) (spans : List SpanOf) (from : ℕ) (centred : Bool) → lines.Opens from centred ≡ title_line_of line spans → centred ≡ opens_centred (text_in line spans)
opens-key line spans from centred is =
    let text = text_in line spans in
    let place = value_place line spans in
    let keyed : TitleLine = lines.Opens place (is_centred_key text) in
    let unkeyed : TitleLine = cond (has_key text) keyed (lines.Value place) in
    elim (cases_Bool (list_all is_space text)) [
      | inl spaces ↦ let never : lines.Opens from centred ≡ lines.Nothing = is ∙ cond-true (list_all is_space text) lines.Nothing unkeyed spaces in absurd (cc (never))
      | inr some ↦
          let told : lines.Opens from centred ≡ unkeyed = is ∙ cond-false (list_all is_space text) lines.Nothing unkeyed some in
          elim (cases_Bool (has_key text)) [
            | inl key ↦
                let found : lines.Opens from centred ≡ keyed = told ∙ cond-true (has_key text) keyed (lines.Value place) key in
                let same : centred ≡ is_centred_key text = cc (found) in
                same ∙ sym (ap (λ b. b && is_centred_key text) key)
            | inr other ↦
                let never : lines.Opens from centred ≡ lines.Value place = told ∙ cond-false (has_key text) keyed (lines.Value place) other in
                absurd (cc (never))
          ]
    ]
