-- Elements of blocks of one kind and of blocks of another behind them.
use Rattle.std.proofs.Common.{◌≡◌, Bool, true, false, cond, List, [], ◌∷◌, ◌++◌, refl, sym, subst}
use Rattle.std.specs.Prelude.{All}
use Rattle.std.proofs.lemmas.Bool.{true≢false}
use Rattle.std.proofs.lemmas.List.Elements.{All-nil, All-cons, All-head, All-tail}
use Rattle.spec_script.specs.LongestRuns.{Group, members, in_front}
use Rattle.spec_script.specs.Stanzas.{PlacedBlock}
use Rattle.spec_script.specs.Elements.{is_dual, alone, elements_in}
use Rattle.spec_edit.specs.WindowBlocks.{joins}

-- The element begins with a block of this kind.
abbrev pub Begins : (PlacedBlock → Type 0) → Group PlacedBlock → Type 0
Begins P element = P element.first

abbrev before : PlacedBlock → Group PlacedBlock → Group PlacedBlock
before x g = record { first = x; more = members g }

-- A block in front of elements.
front-begins : (P : PlacedBlock → Type 0) (x : PlacedBlock) (gs : List (Group PlacedBlock)) → P x → All (Begins P) gs → All (Begins P) (in_front is_dual x gs)
front-begins P x [] here all = All-cons (Begins P) (alone x) [] here (All-nil (Begins P))
front-begins P x (g ∷ gs) here all = by (is_dual x g.first)
  where
    by : (b : Bool) → All (Begins P) (cond b (before x g ∷ gs) (alone x ∷ g ∷ gs))
    by true = All-cons (Begins P) (before x g) gs here (All-tail (Begins P) g gs all)
    by false = All-cons (Begins P) (alone x) (g ∷ gs) here all

pub all-begin : (P : PlacedBlock → Type 0) (blocks : List PlacedBlock) → All P blocks → All (Begins P) (elements_in blocks)
all-begin P [] all = All-nil (Begins P)
all-begin P (x ∷ xs) all = front-begins P x (elements_in xs) (All-head P x xs all) (all-begin P xs (All-tail P x xs all))

-- Elements that begin with blocks of one kind, and behind them elements that begin with blocks of another.
pub record PartedElements (P Q : PlacedBlock → Type 0) (elements : List (Group PlacedBlock)) : Type 0 where
  pub front : List (Group PlacedBlock)
  pub back : List (Group PlacedBlock)
  pub are : elements ≡ front ++ back
  pub front_all : All (Begins P) front
  pub back_all : All (Begins Q) back

front-parted : (P Q : PlacedBlock → Type 0) (x : PlacedBlock) (front back : List (Group PlacedBlock)) → P x → All (Begins P) front → All (Begins Q) back
    → PartedElements P Q (in_front is_dual x (front ++ back))
front-parted P Q x [] [] here one other =
    record { front = alone x ∷ []; back = []; are = refl; front_all = All-cons (Begins P) (alone x) [] here (All-nil (Begins P)); back_all = All-nil (Begins Q) }
front-parted P Q x [] (h ∷ hs) here one other = by (is_dual x h.first)
  where
    by : (b : Bool) → PartedElements P Q (cond b (before x h ∷ hs) (alone x ∷ h ∷ hs))
    by true = record { front = before x h ∷ []; back = hs; are = refl; front_all = All-cons (Begins P) (before x h) [] here (All-nil (Begins P)); back_all = All-tail (Begins Q) h hs other }
    by false = record { front = alone x ∷ []; back = h ∷ hs; are = refl; front_all = All-cons (Begins P) (alone x) [] here (All-nil (Begins P)); back_all = other }
front-parted P Q x (g ∷ gs) back here one other = by (is_dual x g.first)
  where
    by : (b : Bool) → PartedElements P Q (cond b (before x g ∷ (gs ++ back)) (alone x ∷ g ∷ (gs ++ back)))
    by true = record { front = before x g ∷ gs; back = back; are = refl; front_all = All-cons (Begins P) (before x g) gs here (All-tail (Begins P) g gs one); back_all = other }
    by false = record { front = alone x ∷ g ∷ gs; back = back; are = refl; front_all = All-cons (Begins P) (alone x) (g ∷ gs) here one; back_all = other }

pub parted-elements : (P Q : PlacedBlock → Type 0) (xs ys : List PlacedBlock) → All P xs → All Q ys → PartedElements P Q (elements_in (xs ++ ys))
parted-elements P Q [] ys one other = record { front = []; back = elements_in ys; are = refl; front_all = All-nil (Begins P); back_all = all-begin Q ys other }
parted-elements P Q (x ∷ xs) ys one other =
    let later = parted-elements P Q xs ys (All-tail P x xs one) other in
    subst (λ es. PartedElements P Q (in_front is_dual x es)) (sym later.are) (front-parted P Q x later.front later.back (All-head P x xs one) later.front_all later.back_all)

-- The element that begins with the first block, and those behind it.
pub record FirstElement (Q : PlacedBlock → Type 0) (x : PlacedBlock) (elements : List (Group PlacedBlock)) : Type 0 where
  pub own : Group PlacedBlock
  pub others : List (Group PlacedBlock)
  pub are : elements ≡ own ∷ others
  pub begins : own.first ≡ x
  pub others_all : All (Begins Q) others

pub first-element : (Q : PlacedBlock → Type 0) (x : PlacedBlock) (xs : List PlacedBlock) → All Q xs → FirstElement Q x (elements_in (x ∷ xs))
first-element Q x xs all = by (elements_in xs) (all-begin Q xs all)
  where
    by : (gs : List (Group PlacedBlock)) → All (Begins Q) gs → FirstElement Q x (in_front is_dual x gs)
    by [] those = record { own = alone x; others = []; are = refl; begins = refl; others_all = All-nil (Begins Q) }
    by (g ∷ gs) those = either (is_dual x g.first)
      where
        either : (b : Bool) → FirstElement Q x (cond b (before x g ∷ gs) (alone x ∷ g ∷ gs))
        either true = record { own = before x g; others = gs; are = refl; begins = refl; others_all = All-tail (Begins Q) g gs those }
        either false = record { own = alone x; others = g ∷ gs; are = refl; begins = refl; others_all = those }

-- A block that is joined with the last one begins no element.
pub joined-last : (P : PlacedBlock → Type 0) (zs : List PlacedBlock) (c : PlacedBlock) → joins zs (c ∷ []) ≡ true → All P zs → All (Begins P) (elements_in (zs ++ c ∷ []))
joined-last P [] c joined all = absurd (true≢false (sym joined))
joined-last P (z ∷ []) c joined all =
    subst (λ b. All (Begins P) (cond b (before z (alone c) ∷ []) (alone z ∷ alone c ∷ []))) (sym joined)
    (All-cons (Begins P) (before z (alone c)) [] (All-head P z [] all) (All-nil (Begins P)))
joined-last P (z ∷ y ∷ ys) c joined all =
    front-begins P z (elements_in ((y ∷ ys) ++ c ∷ [])) (All-head P z (y ∷ ys) all) (joined-last P (y ∷ ys) c joined (All-tail P z (y ∷ ys) all))
