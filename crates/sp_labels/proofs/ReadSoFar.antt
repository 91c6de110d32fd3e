-- What is known while a text is read as a label.
use Rattle.std.proofs.Common.{◌≡◌, ℕ, ◌<◌, ◌≤◌, List, [], ◌∷◌, ◌++◌, length, refl, ap, sym, ◌∙◌, subst, append_assoc, append-nil, length-append, arith}
use Rattle.std.specs.Prelude.{Option, Some, None, All, IfSome, decimal, flat_map}
use Rattle.std.proofs.lemmas.Grind.{flat_map-append}
use Rattle.std.proofs.lemmas.List.Elements.{All-nil, All-push, All-head, All-tail}
use Rattle.spec_labels.specs.Labels.{LabelOf, last_step, step_text}
use Rattle.spec_labels.specs.LabelReading.{Spells, IsReading, label_read, number_limit, step_limit}
use Rattle.spec_labels.proofs.LabelTexts.{small_steps, steps-BeginsNoDigit, steps-first, step_text-some, numbers-first}
use Rattle.spec_labels.proofs.LabelReadings.{label_read-IsReading, IsReading-unique}
use Rattle.sp_labels.specs.Fronts.{NumberFront, StepFront}

-- A label that the text may still spell: this number and these steps, and steps behind them that the rest writes.
pub record GoesOn (number : ℕ) (path rest : List ℕ) (it : LabelOf) : Type 0 where
  pub number_is : it.number ≡ number
  pub more : List ℕ
  pub path_is : it.path ≡ path ++ more
  pub rest_is : flat_map step_text more ≡ rest

-- A number and steps were read, and this rest is left.
pub record ReadSoFar (text : List ℕ) (number : ℕ) (path rest : List ℕ) : Type 0 where
  pub low : number ≤ number_limit
  pub steps : All (λ step. step ≤ step_limit) path
  pub written : decimal number ++ (flat_map step_text path ++ rest) ≡ text
  pub only : (it : LabelOf) → Spells text it → GoesOn number path rest it

-- The number was read.
pub read-number : {text : List ℕ} {number : ℕ} {rest : List ℕ} → NumberFront text number_limit number rest → ReadSoFar text number [] rest
read-number {text} {number} {rest} front = record {
  low = front.low;
  steps = All-nil (λ step. step ≤ step_limit);
  written = front.written;
  only = λ it spelled.
      let small = small_steps it.path spelled.steps in
      let (same, left) = numbers-first it.number number (flat_map step_text it.path) rest (omega (arith, spelled.low)) (omega (arith, front.low))
      (steps-BeginsNoDigit it.path small) front.ends (spelled.written ∙ sym front.written) in
      record { number_is = same; more = it.path; path_is = refl; rest_is = left };
}

-- The steps that are left are low.
more-steps : {text : List ℕ} (path more : List ℕ) (it : LabelOf) → Spells text it → it.path ≡ path ++ more → All (λ step. step ≤ step_limit) more
more-steps {text} path more it spelled is = All-behind path more (subst (All (λ step. step ≤ step_limit)) is spelled.steps)
  where
    All-behind : (front rest : List ℕ) → All (λ step. step ≤ step_limit) (front ++ rest) → All (λ step. step ≤ step_limit) rest
    All-behind [] rest all = all
    All-behind (x ∷ front) rest all = All-behind front rest (All-tail (λ step. step ≤ step_limit) x (front ++ rest) all)

-- A step more was read.
pub read-step : {text : List ℕ} {number : ℕ} {path rest : List ℕ} {step : ℕ} {after : List ℕ} → ReadSoFar text number path rest → StepFront rest step after
    → ReadSoFar text number (path ++ step ∷ []) after
read-step {text} {number} {path} {rest} {step} {after} sofar front = record {
  low = sofar.low;
  steps = All-push (λ s. s ≤ step_limit) path step sofar.steps front.low;
  written = ap (λ t. decimal number ++ t) (ap (λ t. t ++ after) (flat_map-append step_text path (step ∷ [])) ∙ append_assoc (flat_map step_text path) (step_text step ++ []) after
      ∙ ap (λ t. flat_map step_text path ++ (t ++ after)) (append-nil (step_text step)) ∙ ap (λ t. flat_map step_text path ++ t) front.written) ∙ sofar.written;
  only = λ it spelled. by it spelled (sofar.only it spelled) (sofar.only it spelled).more refl;
}
  where
    by : (it : LabelOf) → Spells text it → (so : GoesOn number path rest it) (more : List ℕ) → so.more ≡ more → GoesOn number (path ++ step ∷ []) after it
    by it spelled so [] is =
        let long = ap length (sym (ap (flat_map step_text) is) ∙ so.rest_is ∙ sym front.written) in
        absurd (omega (arith, long, length-append (step_text step) after, step_text-some step (omega (arith, front.low))))
    by it spelled so (first ∷ others) is =
        let path_is : it.path ≡ path ++ first ∷ others = so.path_is ∙ ap (λ m. path ++ m) is in
        let small = more-steps path (first ∷ others) it spelled path_is in
        let (same, left) = steps-first first step (flat_map step_text others) after (omega (arith, All-head (λ s. s ≤ step_limit) first others small)) (omega (arith, front.low))
        (sym (ap (flat_map step_text) is) ∙ so.rest_is ∙ sym front.written) in
        record {
          number_is = so.number_is;
          more = others;
          path_is = path_is ∙ sym (append_assoc path (first ∷ []) others) ∙ ap (λ s. (path ++ s ∷ []) ++ others) same;
          rest_is = left;
        }

-- No number stands at the front: no label.
pub no-number : {text : List ℕ} → ((number : ℕ) (rest : List ℕ) → NumberFront text number_limit number rest → ⊥) → IsReading text None
no-number {text} none = λ it spelled.
    none it.number (flat_map step_text it.path)
    (record { low = spelled.low; written = spelled.written; ends = steps-BeginsNoDigit it.path (small_steps it.path spelled.steps) })

-- Something is left that begins with no step: no label.
pub no-more : {text : List ℕ} {number : ℕ} {path rest : List ℕ} → ReadSoFar text number path rest → 0 < length rest
    → ((step : ℕ) (after : List ℕ) → StepFront rest step after → ⊥) → IsReading text None
no-more {text} {number} {path} {rest} sofar some none = λ it spelled. by it spelled (sofar.only it spelled) (sofar.only it spelled).more refl
  where
    by : (it : LabelOf) → Spells text it → (so : GoesOn number path rest it) (more : List ℕ) → so.more ≡ more → ⊥
    by it spelled so [] is =
        let long = ap length (sym (ap (flat_map step_text) is) ∙ so.rest_is) in
        omega (arith, long, some)
    by it spelled so (first ∷ others) is =
        let small = more-steps path (first ∷ others) it spelled (so.path_is ∙ ap (λ m. path ++ m) is) in
        none first (flat_map step_text others) (record { low = All-head (λ s. s ≤ step_limit) first others small; written = sym (ap (flat_map step_text) is) ∙ so.rest_is })

-- Nothing is left: the label was read.
pub read-all : {text : List ℕ} {number : ℕ} {path : List ℕ} → ReadSoFar text number path [] → IfSome (last_step path) (λ step. 0 < step)
    → Spells text (record { number = number; path = path })
read-all {text} {number} {path} sofar ends = record {
  is_label = record { ends = ends };
  low = sofar.low;
  steps = sofar.steps;
  written = ap (λ t. decimal number ++ t) (sym (append-nil (flat_map step_text path))) ∙ sofar.written;
}

-- Nothing is left, and the last step is 0: no label.
pub ends-zero : {text : List ℕ} {number : ℕ} {path : List ℕ} → ReadSoFar text number path [] → last_step path ≡ Some 0 → IsReading text None
ends-zero {text} {number} {path} sofar zero_last = λ it spelled. by it spelled (sofar.only it spelled) (sofar.only it spelled).more refl
  where
    by : (it : LabelOf) → Spells text it → (so : GoesOn number path [] it) (more : List ℕ) → so.more ≡ more → ⊥
    by it spelled so [] is =
        let path_is : it.path ≡ path = so.path_is ∙ ap (λ m. path ++ m) is ∙ append-nil path in
        omega (arith, subst (λ (o : Option ℕ). IfSome o (λ step. 0 < step)) (ap last_step path_is ∙ zero_last) spelled.is_label.ends)
    by it spelled so (first ∷ others) is =
        let small = more-steps path (first ∷ others) it spelled (so.path_is ∙ ap (λ m. path ++ m) is) in
        let long = ap length (sym (ap (flat_map step_text) is) ∙ so.rest_is) in
        omega (arith, long, length-append (step_text first) (flat_map step_text others), step_text-some first (omega (arith, All-head (λ s. s ≤ step_limit) first others small)))

-- The one answer is the one that is computed.
pub answer-read : (text : List ℕ) (answer : Option LabelOf) → IsReading text answer → answer ≡ label_read text
answer-read text answer is = IsReading-unique text answer (label_read text) is (label_read-IsReading text)
