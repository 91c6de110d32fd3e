-- A mark at a place, and the first one.
use Rattle.std.specs.Prelude.{◌≡◌, ◌==◌, ℕ, zero, suc, Bool, true, false, ◌&&◌, ◌||◌, List, [], ◌∷◌, length, slice_index, slice_index_or, nat_lt, nat_le, ◌<◌, ◌≤◌, ◌+◌}
use Rattle.std.specs.List.{starts_with}
use Rattle.std.proofs.Common.{refl, sym, ap, subst, ◌∙◌, inl, inr, arith}
use Rattle.std.proofs.lemmas.Bool.{cases_lt, cases_Bool, lt-ltb, le-ltb, le-leb, lt-leb, eqb-true, eq-eqb, and_left, and_right, or_from, true≢false, false≢true}
use Rattle.std.proofs.lemmas.List.{drop_all}
use Rattle.spec_text.specs.Parts.{SpanOf}
use Rattle.spec_script.specs.FirstMarks.{stands, IsFirst, StandsNowhere, lies_in}
use Rattle.spec_script.proofs.MarkedSteps.{two_left, last_left}

eqb_swap : (x y : ℕ) → (x == y) ≡ (y == x)
eqb_swap x y =
    elim (cases_Bool (x == y)) [
      | inl t ↦ t ∙ sym (eq-eqb y x (sym (eqb-true x y t)))
      | inr f ↦ elim (cases_Bool (y == x)) [
        | inl t ↦ absurd (true≢false (sym (eq-eqb x y (sym (eqb-true y x t))) ∙ f))
        | inr g ↦ f ∙ sym g
      ]
    ]

pub and-true : (b : Bool) → (b && true) ≡ b
and-true true = refl
and-true false = refl

-- A mark of two bytes stands where both are.
pub stands-two : (a b : ℕ) (text : List ℕ) (k : ℕ) → stands (a ∷ b ∷ []) text k ≡ (nat_lt (k + 1) (length text) && ((slice_index text k == a) && (slice_index text (k + 1) == b)))
stands-two a b text k =
    let F : List ℕ → Bool = λ l. starts_with (λ x y. x == y) l (a ∷ b ∷ []) in
    let both = (slice_index text k == a) && (slice_index text (k + 1) == b) in
    elim (cases_lt (k + 1) (length text)) [
      | inl low ↦
          ap F (two_left text k low)
          ∙ ap (λ t. (a == slice_index text k) && t) (and-true (b == slice_index text (k + 1)) ∙ eqb_swap b (slice_index text (k + 1)))
          ∙ ap (λ t. t && (slice_index text (k + 1) == b)) (eqb_swap a (slice_index text k))
          ∙ ap (λ t. t && both) (sym (lt-ltb (k + 1) (length text) low))
      | inr end ↦ elim (cases_lt k (length text)) [
        | inl last ↦ ap F (last_left text k last end) ∙ and_right (a == slice_index text k) false refl ∙ sym (ap (λ t. t && both) (le-ltb (k + 1) (length text) end))
        | inr past ↦ ap F (drop_all k text past) ∙ sym (ap (λ t. t && both) (le-ltb (k + 1) (length text) end))
      ]
    ]

-- Past the end no mark stands.
pub nowhere-past : (a b : ℕ) (text : List ℕ) (at : ℕ) → length text ≤ at + 1 → StandsNowhere (a ∷ b ∷ []) text at
nowhere-past a b text at h k low =
    stands-two a b text k ∙ and_left _ _ (le-ltb (k + 1) (length text) (omega arith))

-- The mark stands at the place itself.
pub first-here : (mark text : List ℕ) (at : ℕ) → stands mark text at ≡ true → IsFirst mark text at at
first-here mark text at h = record { after = omega arith; here = h; before = λ k low high. absurd (omega arith) }

at_or_after : (at k : ℕ) (P : ℕ → Type 0) → P at → ((k : ℕ) → at + 1 ≤ k → P k) → at ≤ k → P k
at_or_after at k P here after low =
    elim (cases_lt at k) [ inl more ↦ after k (omega arith) | inr same ↦ let e : at ≡ k = omega arith in subst P e here ]

-- The mark doesn't stand at the place itself: the first one is that from the next place on.
pub first-later : (mark text : List ℕ) (at place : ℕ) → stands mark text at ≡ false → IsFirst mark text (at + 1) place → IsFirst mark text at place
first-later mark text at place none f =
    let after = f.after in
    record {
      after = omega arith;
      here = f.here;
      before = λ k low high. at_or_after at k (λ j. j < place → stands mark text j ≡ false) (λ _. none) (λ j l h. f.before j l h) low high;
    }

pub nowhere-later : (mark text : List ℕ) (at : ℕ) → stands mark text at ≡ false → StandsNowhere mark text (at + 1) → StandsNowhere mark text at
nowhere-later mark text at none after k low = at_or_after at k (λ j. stands mark text j ≡ false) none after low

-- There is one first place at most.
pub first-unique : (mark text : List ℕ) (at p q : ℕ) → IsFirst mark text at p → IsFirst mark text at q → p ≡ q
first-unique mark text at p q f g =
    let low = f.after in
    let high = g.after in
    elim (cases_lt p q) [
      | inl less ↦ absurd (false≢true (sym (g.before p low less) ∙ f.here))
      | inr more ↦ elim (cases_lt q p) [
        | inl less ↦ absurd (false≢true (sym (f.before q high less) ∙ g.here))
        | inr same ↦ omega arith
      ]
    ]

pub first-somewhere : (mark text : List ℕ) (at place : ℕ) → IsFirst mark text at place → StandsNowhere mark text at → ⊥
first-somewhere mark text at place f none = false≢true (sym (none place f.after) ∙ f.here)

-- A place not before the first part lies in that part or in one of the others.
pub lies-within : (from to k : ℕ) (spans : List SpanOf) → from ≤ k → lies_in ((from, to) ∷ spans) k ≡ (nat_lt k to || lies_in spans k)
lies-within from to k spans low = ap (λ t. (t && nat_lt k to) || lies_in spans k) (le-leb from k low)

-- A place before all parts lies in none.
pub lies-before : (from to k : ℕ) (spans : List SpanOf) → k < from → lies_in spans k ≡ false → lies_in ((from, to) ∷ spans) k ≡ false
lies-before from to k spans early others = or_from _ _ (and_left (nat_le from k) (nat_lt k to) (lt-leb from k early)) others

-- Flags from a place on are those of a test of places: one flag, or those of a mark, in front.
pub one_flag : (n at : ℕ) (F : ℕ → Bool) (flag : Bool) (flags : List Bool) → flag ≡ F at →
    ((j : ℕ) → at + 1 + j < n → slice_index_or flags j false ≡ F (at + 1 + j)) →
    (k : ℕ) → at + k < n → slice_index_or (flag ∷ flags) k false ≡ F (at + k)
one_flag n at F flag flags here after zero low = here ∙ ap F (let same : at ≡ at + 0 = omega arith in same)
one_flag n at F flag flags here after (suc k) low =
    let same : at + 1 + k ≡ at + suc k = omega arith in
    after k (omega arith) ∙ ap F same

pub two_flags : (n at : ℕ) (F : ℕ → Bool) (flags : List Bool) → F at ≡ true → F (at + 1) ≡ true →
    ((j : ℕ) → at + 2 + j < n → slice_index_or flags j false ≡ F (at + 2 + j)) →
    (k : ℕ) → at + k < n → slice_index_or (true ∷ true ∷ flags) k false ≡ F (at + k)
two_flags n at F flags first second after =
    one_flag n at F true (true ∷ flags) (sym first)
    (one_flag n (at + 1) F true flags (sym second)
    (λ j low. let same : at + 2 + j ≡ at + 1 + 1 + j = omega arith in after j (omega arith) ∙ ap F same))
