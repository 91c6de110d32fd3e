-- The steps of an edit are the elements of both texts.
use Rattle.std.proofs.Common.{◌≡◌, ℕ, ◌+◌, true, List, [], ◌∷◌, ◌++◌, map, refl, sym, ap, ap₂, subst, ◌∙◌, arith}
use Rattle.std.specs.Prelude.{All}
use Rattle.std.specs.List.{flat_map}
use Rattle.std.proofs.lemmas.List.Concat.{flat_map-append}
use Rattle.std.proofs.lemmas.List.Elements.{All-head, All-tail}
use Rattle.spec_edit.specs.Items.{Item}
use Rattle.spec_edit.proofs.Steps.{before_of, after_of, was_there, is_there, NoneStepStands, TextOf, stays, goes, comes, edit_steps, NoneTouchedStands}
use Rattle.spec_edit.proofs.StandLaws.{row_count}

before-stays : {E : Type 0} (old new : TextOf E) (move : E → E) (es : List E) → flat_map before_of (map (stays old new move) es) ≡ flat_map old.items es
before-stays old new move [] = refl
before-stays {E} old new move (e ∷ es) = ap (λ (zs : List Item). old.items e ++ zs) (before-stays old new move es)

after-stays : {E : Type 0} (old new : TextOf E) (move : E → E) (es : List E) → flat_map after_of (map (stays old new move) es) ≡ flat_map new.items (map move es)
after-stays old new move [] = refl
after-stays old new move (e ∷ es) = ap (λ (zs : List Item). new.items (move e) ++ zs) (after-stays old new move es)

before-goes : {E : Type 0} (old : TextOf E) (es : List E) → flat_map before_of (map (goes old) es) ≡ flat_map old.items es
before-goes old [] = refl
before-goes old (e ∷ es) = ap (λ (zs : List Item). old.items e ++ zs) (before-goes old es)

after-goes : {E : Type 0} (old : TextOf E) (es : List E) → flat_map after_of (map (goes old) es) ≡ []
after-goes old [] = refl
after-goes old (e ∷ es) = after-goes old es

before-comes : {E : Type 0} (new : TextOf E) (es : List E) → flat_map before_of (map (comes new) es) ≡ []
before-comes new [] = refl
before-comes new (e ∷ es) = before-comes new es

after-comes : {E : Type 0} (new : TextOf E) (es : List E) → flat_map after_of (map (comes new) es) ≡ flat_map new.items es
after-comes new [] = refl
after-comes new (e ∷ es) = ap (λ (zs : List Item). new.items e ++ zs) (after-comes new es)

-- What the old text has.
pub steps-before : {E : Type 0} (old new : TextOf E) (one other : E → E) (front gone come back : List E)
    → flat_map before_of (edit_steps old new one other front gone come back) ≡ flat_map old.items (front ++ (gone ++ back))
steps-before old new one other front gone come back =
    flat_map-append before_of (map (stays old new one) front) (map (goes old) gone ++ (map (comes new) come ++ map (stays old new other) back))
    ∙ ap₂ (λ (a b : List Item). a ++ b) (before-stays old new one front)
    (flat_map-append before_of (map (goes old) gone) (map (comes new) come ++ map (stays old new other) back)
    ∙ ap₂ (λ (a b : List Item). a ++ b) (before-goes old gone)
    (flat_map-append before_of (map (comes new) come) (map (stays old new other) back) ∙ ap₂ (λ (a b : List Item). a ++ b) (before-comes new come) (before-stays old new other back))
    ∙ sym (flat_map-append old.items gone back))
    ∙ sym (flat_map-append old.items front (gone ++ back))

-- What the new text has.
pub steps-after : {E : Type 0} (old new : TextOf E) (one other : E → E) (front gone come back : List E)
    → flat_map after_of (edit_steps old new one other front gone come back) ≡ flat_map new.items (map one front ++ (come ++ map other back))
steps-after old new one other front gone come back =
    flat_map-append after_of (map (stays old new one) front) (map (goes old) gone ++ (map (comes new) come ++ map (stays old new other) back))
    ∙ ap₂ (λ (a b : List Item). a ++ b) (after-stays old new one front)
    (flat_map-append after_of (map (goes old) gone) (map (comes new) come ++ map (stays old new other) back)
    ∙ ap₂ (λ (a b : List Item). a ++ b) (after-goes old gone)
    (flat_map-append after_of (map (comes new) come) (map (stays old new other) back) ∙ ap₂ (λ (a b : List Item). a ++ b) (after-comes new come) (after-stays old new other back))
    ∙ sym (flat_map-append new.items come (map other back)))
    ∙ sym (flat_map-append new.items (map one front) (come ++ map other back))

-- A touched element has been touched in both texts.
abbrev pub TouchedBoth : {E : Type 0} → TextOf E → TextOf E → (E → E) → E → Type 0
TouchedBoth old new move e = old.touched e ≡ true → new.touched (move e) ≡ true

nothing-more : (n : ℕ) → n + 0 ≡ n
nothing-more n = omega arith

-- Standing, element by element, in the old text.
old-back : {E : Type 0} (old new : TextOf E) (other : E → E) (s e n : ℕ) (back : List E) → NoneTouchedStands old s e n back → NoneStepStands was_there before_of s e n (map (stays old new other) back)
old-back old new other s e n [] none = tt
old-back old new other s e n (it ∷ back) none = (none.0, old-back old new other s e (n + row_count (old.items it)) back none.1)

old-come : {E : Type 0} (old new : TextOf E) (other : E → E) (s e n : ℕ) (come back : List E) → NoneTouchedStands old s e n back
    → NoneStepStands was_there before_of s e n (map (comes new) come ++ map (stays old new other) back)
old-come old new other s e n [] back none = old-back old new other s e n back none
old-come old new other s e n (it ∷ come) back none =
    (λ here. absurd (let bad : ⊥ = cc in bad), subst (λ k. NoneStepStands was_there before_of s e k (map (comes new) come ++ map (stays old new other) back)) (sym (nothing-more n)) (old-come old new other s e n come back none))

old-gone : {E : Type 0} (old new : TextOf E) (other : E → E) (s e n : ℕ) (gone come back : List E) → All (λ it. old.touched it ≡ true) gone → NoneTouchedStands old s e n (gone ++ back)
    → NoneStepStands was_there before_of s e n (map (goes old) gone ++ (map (comes new) come ++ map (stays old new other) back))
old-gone old new other s e n [] come back all none = old-come old new other s e n come back none
old-gone {E} old new other s e n (it ∷ gone) come back all none =
    let P : E → Type 0 = λ it. old.touched it ≡ true in
    (λ here touched. none.0 here (All-head P it gone all), old-gone old new other s e (n + row_count (old.items it)) gone come back (All-tail P it gone all) none.1)

pub none-before : {E : Type 0} (old new : TextOf E) (one other : E → E) (s e n : ℕ) (front gone come back : List E) → All (λ it. old.touched it ≡ true) gone
    → NoneTouchedStands old s e n (front ++ (gone ++ back)) → NoneStepStands was_there before_of s e n (edit_steps old new one other front gone come back)
none-before old new one other s e n [] gone come back all none = old-gone old new other s e n gone come back all none
none-before old new one other s e n (it ∷ front) gone come back all none =
    (none.0, none-before old new one other s e (n + row_count (old.items it)) front gone come back all none.1)

-- And in the new one.
new-back : {E : Type 0} (old new : TextOf E) (other : E → E) (s e n : ℕ) (back : List E) → All (TouchedBoth old new other) back → NoneTouchedStands new s e n (map other back)
    → NoneStepStands is_there after_of s e n (map (stays old new other) back)
new-back old new other s e n [] both none = tt
new-back old new other s e n (it ∷ back) both none = (
  λ here touched. none.0 here (All-head (TouchedBoth old new other) it back both touched),
  new-back old new other s e (n + row_count (new.items (other it))) back (All-tail (TouchedBoth old new other) it back both) none.1,
)

new-come : {E : Type 0} (old new : TextOf E) (other : E → E) (s e n : ℕ) (come back : List E) → All (λ it. new.touched it ≡ true) come → All (TouchedBoth old new other) back
    → NoneTouchedStands new s e n (come ++ map other back) → NoneStepStands is_there after_of s e n (map (comes new) come ++ map (stays old new other) back)
new-come old new other s e n [] back all both none = new-back old new other s e n back both none
new-come {E} old new other s e n (it ∷ come) back all both none =
    let P : E → Type 0 = λ it. new.touched it ≡ true in
    (λ here touched. none.0 here (All-head P it come all), new-come old new other s e (n + row_count (new.items it)) come back (All-tail P it come all) both none.1)

new-gone : {E : Type 0} (old new : TextOf E) (other : E → E) (s e n : ℕ) (gone come back : List E) → All (λ it. new.touched it ≡ true) come → All (TouchedBoth old new other) back
    → NoneTouchedStands new s e n (come ++ map other back) → NoneStepStands is_there after_of s e n (map (goes old) gone ++ (map (comes new) come ++ map (stays old new other) back))
new-gone old new other s e n [] come back all both none = new-come old new other s e n come back all both none
new-gone old new other s e n (it ∷ gone) come back all both none = (
  λ here. absurd (let bad : ⊥ = cc in bad),
  subst (λ k. NoneStepStands is_there after_of s e k (map (goes old) gone ++ (map (comes new) come ++ map (stays old new other) back))) (sym (nothing-more n)) (new-gone old new other s e n gone come back all both none),
)

pub none-after : {E : Type 0} (old new : TextOf E) (one other : E → E) (s e n : ℕ) (front gone come back : List E) → All (λ it. new.touched it ≡ true) come
    → All (TouchedBoth old new one) front → All (TouchedBoth old new other) back
    → NoneTouchedStands new s e n (map one front ++ (come ++ map other back)) → NoneStepStands is_there after_of s e n (edit_steps old new one other front gone come back)
none-after old new one other s e n [] gone come back all both_front both_back none = new-gone old new other s e n gone come back all both_back none
none-after old new one other s e n (it ∷ front) gone come back all both_front both_back none = (
  λ here touched. none.0 here (All-head (TouchedBoth old new one) it front both_front touched),
  none-after old new one other s e (n + row_count (new.items (one it))) front gone come back all (All-tail (TouchedBoth old new one) it front both_front) both_back none.1,
)
