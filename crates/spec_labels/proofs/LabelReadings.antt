-- Reading a text as a label has one answer, and it is computed.
use Rattle.std.proofs.Common.{◌≡◌, ℕ, ◌<◌, ◌≤◌, ◌&&◌, Bool, true, false, cond, List, [], ◌∷◌, refl, ap, ap₂, sym, ◌∙◌, le-leb, leb-true, lt-ltb, ltb-true, arith}
use Rattle.std.specs.Prelude.{Option, Some, None, IfSome, All, nat_lt, nat_le, unwrap_or}
use Rattle.std.specs.List.{list_all}
use Rattle.std.proofs.lemmas.Bool.{and_parts}
use Rattle.std.proofs.lemmas.List.Elements.{All-nil, All-cons, All-head, All-tail}
use Rattle.std.proofs.lemmas.Slice.Eq.{bytes_eq-Decides}
use Rattle.spec_labels.specs.Labels.{LabelOf, last_step, label_text}
use Rattle.spec_labels.specs.LabelReading.{number_limit, step_limit, Spells, IsReading, label_in, is_spelled, label_read}
use Rattle.spec_labels.proofs.LabelTexts.{small_steps, label_in-text, Spells-unique}

-- The last step of a label is above 0, by a test.
ends-test : (last : Option ℕ) → IfSome last (λ step. 0 < step) → nat_lt 0 (unwrap_or last 1) ≡ true
ends-test None above = refl
ends-test (Some step) above = lt-ltb 0 step above

ends-is : (last : Option ℕ) → nat_lt 0 (unwrap_or last 1) ≡ true → IfSome last (λ step. 0 < step)
ends-is None above = tt
ends-is (Some step) above = ltb-true 0 step above

-- Every step is low, by a test.
steps-test : (path : List ℕ) → All (λ step. step ≤ step_limit) path → list_all (λ step. nat_le step step_limit) path ≡ true
steps-test [] low = refl
steps-test (step ∷ path) low =
    ap₂ (λ a b. a && b) (le-leb step step_limit (All-head (λ s. s ≤ step_limit) step path low)) (steps-test path (All-tail (λ s. s ≤ step_limit) step path low))

steps-are : (path : List ℕ) → list_all (λ step. nat_le step step_limit) path ≡ true → All (λ step. step ≤ step_limit) path
steps-are [] low = All-nil (λ s. s ≤ step_limit)
steps-are (step ∷ path) low =
    let (here, others) = and_parts _ _ low in
    All-cons (λ s. s ≤ step_limit) step path (leb-true step step_limit here) (steps-are path others)

-- The test of a spelled label.
Spells-test : {text : List ℕ} {it : LabelOf} → Spells text it → is_spelled text it ≡ true
Spells-test {text} {it} spelled =
    ap₂ (λ a b. a && b)
    (ap₂ (λ a b. a && b)
    (ap₂ (λ a b. a && b) (ends-test (last_step it.path) spelled.is_label.ends) (le-leb it.number number_limit spelled.low))
    (steps-test it.path spelled.steps))
    ((bytes_eq-Decides (label_text it) text).1 spelled.written)

Spells-is : (text : List ℕ) (it : LabelOf) → is_spelled text it ≡ true → Spells text it
Spells-is text it passes =
    let (front, same) = and_parts _ _ passes in
    let (numbers, steps) = and_parts _ _ front in
    let (ends, low) = and_parts _ _ numbers in
    record {
      is_label = record { ends = ends-is (last_step it.path) ends };
      low = leb-true it.number number_limit low;
      steps = steps-are it.path steps;
      written = (bytes_eq-Decides (label_text it) text).0 same;
    }

-- The label that a text spells is the one that is in it.
label_in-Spells : {text : List ℕ} {it : LabelOf} → Spells text it → label_in text ≡ it
label_in-Spells {text} {it} spelled = ap label_in (sym spelled.written) ∙ label_in-text it (omega (arith, spelled.low)) (small_steps it.path spelled.steps)

-- What is computed is an answer.
pub label_read-IsReading : (text : List ℕ) → IsReading text (label_read text)
label_read-IsReading text = by (is_spelled text (label_in text)) refl
  where
    by : (b : Bool) → is_spelled text (label_in text) ≡ b → IsReading text (cond b (Some (label_in text)) None)
    by true passes = Spells-is text (label_in text) passes
    by false other = λ it spelled.
        let passes : is_spelled text (label_in text) ≡ true = ap (is_spelled text) (label_in-Spells spelled) ∙ Spells-test spelled in
        let no : true ≡ false = sym passes ∙ other in cc

-- And there is no other.
pub IsReading-unique : (text : List ℕ) (one other : Option LabelOf) → IsReading text one → IsReading text other → one ≡ other
IsReading-unique text None None first second = refl
IsReading-unique text None (Some it) first second = absurd (first it second)
IsReading-unique text (Some it) None first second = absurd (second it first)
IsReading-unique text (Some one) (Some other) first second = ap (λ (it : LabelOf). Some it) (Spells-unique first second)
