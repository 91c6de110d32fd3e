-- What an edit does to the elements of both texts, step by step.
use Rattle.std.proofs.Common.{◌≡◌, true, false, List, [], ◌∷◌, ◌++◌, map, inl, refl}
use Rattle.std.specs.Prelude.{All}
use Rattle.std.proofs.lemmas.Bool.{true≢false}
use Rattle.std.proofs.lemmas.List.Elements.{All-nil, All-cons, All-head, All-tail, All-append}
use Rattle.spec_text.specs.Ranges.{RangeOf}
use Rattle.spec_edit.proofs.Steps.{Step, item_after, IsLeft, TextOf, stays, goes, comes, edit_steps}
use Rattle.spec_edit.proofs.StandLaws.{IsOneKind}

-- What is asked of an element of a text: rows alone or none, and nothing outside the body.
pub record Fair {E : Type 0} (text : TextOf E) (it : E) : Type 0 where
  pub kind : IsOneKind (text.items it)
  pub none : text.in_body it ≡ false → text.items it ≡ []

-- What is asked of one that stays: it is touched in both texts, or it stands outside the range and is moved at most.
pub record Remains {E : Type 0} (range : RangeOf) (old new : TextOf E) (move : E → E) (it : E) : Type 0 where
  pub before : Fair old it
  pub after : Fair new (move it)
  pub touched : old.touched it ≡ true → new.touched (move it) ≡ true
  pub left : old.touched it ≡ false → All (IsLeft range) (old.items it)
  pub moved : old.touched it ≡ false → new.items (move it) ≡ map (item_after range) (old.items it)

-- What is asked of one that is gone, or new: it is touched.
pub record Lost {E : Type 0} (text : TextOf E) (it : E) : Type 0 where
  pub fair : Fair text it
  pub touched : text.touched it ≡ true

-- The elements of both texts of an edit.
pub record Elements {E : Type 0} (range : RangeOf) (old new : TextOf E) (one other : E → E) (front gone come back : List E) : Type 0 where
  pub front_stays : All (Remains range old new one) front
  pub back_stays : All (Remains range old new other) back
  pub gone_goes : All (Lost old) gone
  pub come_comes : All (Lost new) come

pub all-map : {E X : Type 0} (P : X → Type 0) (Q : E → Type 0) (f : E → X) → ((it : E) → Q it → P (f it)) → (es : List E) → All Q es → All P (map f es)
all-map P Q f to [] all = All-nil P
all-map P Q f to (e ∷ es) all = All-cons P (f e) (map f es) (to e (All-head Q e es all)) (all-map P Q f to es (All-tail Q e es all))

pub all-weaker : {E : Type 0} (Q R : E → Type 0) → ((it : E) → Q it → R it) → (es : List E) → All Q es → All R es
all-weaker Q R to es all k d h = to _ (all k d h)

-- Each step, by what it is.
pub each-step : {E : Type 0} (P : Step → Type 0) (range : RangeOf) (old new : TextOf E) (one other : E → E) (front gone come back : List E)
    → ((move : E → E) (it : E) → Remains range old new move it → P (stays old new move it)) → ((it : E) → Lost old it → P (goes old it)) → ((it : E) → Lost new it → P (comes new it))
    → Elements range old new one other front gone come back → All P (edit_steps old new one other front gone come back)
each-step P range old new one other front gone come back stay go come_in es =
    All-append P (map (stays old new one) front) (map (goes old) gone ++ (map (comes new) come ++ map (stays old new other) back))
    (all-map P (Remains range old new one) (stays old new one) (stay one) front es.front_stays)
    (All-append P (map (goes old) gone) (map (comes new) come ++ map (stays old new other) back)
    (all-map P (Lost old) (goes old) go gone es.gone_goes)
    (All-append P (map (comes new) come) (map (stays old new other) back)
    (all-map P (Lost new) (comes new) come_in come es.come_comes)
    (all-map P (Remains range old new other) (stays old new other) (stay other) back es.back_stays)))

pub never : {A : Type 0} → true ≡ false → A
never h = absurd (true≢false h)

pub none-kind : IsOneKind []
none-kind = inl refl
