-- The elements that are not relaid are the same before and after an edit.
use Rattle.std.proofs.Common.{◌≡◌, ℕ, ◌⊎◌, Bool, true, false, ◌&&◌, ◌||◌, cond, List, [], ◌∷◌, ◌++◌, map, take, drop, Option, Some, None, refl, sym, ap, subst, ◌∙◌, inl, inr, append_assoc}
use Rattle.std.proofs.lemmas.Bool.{cond-false, or_cases, or_parts, true≢false}
use Rattle.std.proofs.lemmas.List.{append-nil, map-append}
use Rattle.spec_script.specs.Stanzas.{PlacedBlock}
use Rattle.spec_script.specs.Elements.{elements_in}
use Rattle.spec_edit.specs.WindowBlocks.{pushed, WindowBlocks, old_blocks, new_blocks, is_nil, joined_by, last_block, first_block, joins, front_relaid, rest_relaid, but_last, only_last, front_kept, rest_kept, old_relaid, new_relaid}
use Rattle.spec_edit.proofs.WindowElements.{pushed_group, elements-three, left-free, right-free}

pub last-parts : (xs : List PlacedBlock) → but_last xs ++ only_last xs ≡ xs
last-parts [] = refl
last-parts (x ∷ []) = refl
last-parts (x ∷ y ∷ xs) = ap (λ (zs : List PlacedBlock). x ∷ zs) (last-parts (y ∷ xs))

first-parts : (xs : List PlacedBlock) → take 1 xs ++ drop 1 xs ≡ xs
first-parts [] = refl
first-parts (x ∷ xs) = refl

pub last-behind : (xs : List PlacedBlock) (y : PlacedBlock) (ys : List PlacedBlock) → last_block (xs ++ y ∷ ys) ≡ last_block (y ∷ ys)
last-behind [] y ys = refl
last-behind (x ∷ []) y ys = refl
last-behind (x ∷ z ∷ xs) y ys = last-behind (z ∷ xs) y ys

pub last-only : (xs : List PlacedBlock) → last_block (only_last xs) ≡ last_block xs
last-only [] = refl
last-only (x ∷ []) = refl
last-only (x ∷ y ∷ xs) = last-only (y ∷ xs)

-- The list ends in a left half of a pair.
abbrev EndsLeft : List PlacedBlock → Type 0
EndsLeft xs = (y : PlacedBlock) × (joined_by (last_block xs) (Some y) ≡ true)

-- The list begins with a right half.
abbrev BeginsRight : List PlacedBlock → Type 0
BeginsRight xs = (x : PlacedBlock) × (joined_by (Some x) (first_block xs) ≡ true)

pub none-behind : (o : Option PlacedBlock) → joined_by o None ≡ false
none-behind None = refl
none-behind (Some x) = refl

pub none-before : (o : Option PlacedBlock) → joined_by None o ≡ false
none-before None = refl
none-before (Some x) = refl

joins-left : (xs ys : List PlacedBlock) → joins xs ys ≡ true → EndsLeft xs
joins-left xs [] h = absurd (true≢false (sym h ∙ none-behind (last_block xs)))
joins-left xs (y ∷ ys) h = (y, h)

right-of : (o : Option PlacedBlock) (ys : List PlacedBlock) → joined_by o (first_block ys) ≡ true → BeginsRight ys
right-of None ys h = absurd (true≢false (sym h ∙ none-before (first_block ys)))
right-of (Some x) ys h = (x, h)

pub one-pushed : (n : ℕ) (o : Option PlacedBlock) (x : PlacedBlock) → joined_by o (Some (pushed n x)) ≡ joined_by o (Some x)
one-pushed n None x = refl
one-pushed n (Some y) x = refl

-- Places behind don't matter.
first-pushed : (n : ℕ) (o : Option PlacedBlock) (xs : List PlacedBlock) → joined_by o (first_block (map (pushed n) xs)) ≡ joined_by o (first_block xs)
first-pushed n o [] = refl
first-pushed n o (x ∷ xs) = one-pushed n o x

pub joins-pushed : (n : ℕ) (front mid rest : List PlacedBlock) → joins front (mid ++ map (pushed n) rest) ≡ joins front (mid ++ rest)
joins-pushed n front [] rest = first-pushed n (last_block front) rest
joins-pushed n front (m ∷ mid) rest = refl

-- A left half is an end of its own.
left-one : (xs zs : List PlacedBlock) → EndsLeft xs → joins (but_last xs) (only_last xs ++ zs) ≡ false
left-one [] zs e = absurd (true≢false (sym e.1 ∙ none-before (Some e.0)))
left-one (x ∷ []) zs e = refl
left-one (x ∷ y ∷ []) zs e = left-free x y e.0 e.1
left-one (x ∷ y ∷ w ∷ xs) zs e = left-one (y ∷ w ∷ xs) zs e

three : (n : ℕ) (front mid rest fk fh rh rk : List PlacedBlock) → fk ++ fh ≡ front → rh ++ rk ≡ rest → joins fk (fh ++ (mid ++ map (pushed n) rest)) ≡ false → joins (fh ++ (mid ++ map (pushed n) rh)) (map (pushed n) rk) ≡ false → elements_in (front ++ (mid ++ map (pushed n) rest)) ≡ elements_in fk ++ (elements_in (fh ++ (mid ++ map (pushed n) rh)) ++ map (pushed_group n) (elements_in rk))
three n front mid rest fk fh rh rk parts parts' one two =
    let p = map (pushed n) in
    let behind : mid ++ p rest ≡ (mid ++ p rh) ++ p rk =
    ap (λ (xs : List PlacedBlock). mid ++ p xs) (sym parts') ∙ ap (λ (xs : List PlacedBlock). mid ++ xs) (map-append (pushed n) rh rk) ∙ sym (append_assoc mid (p rh) (p rk)) in
    let middle : fh ++ (mid ++ p rest) ≡ (fh ++ (mid ++ p rh)) ++ p rk =
    ap (λ (xs : List PlacedBlock). fh ++ xs) behind ∙ sym (append_assoc fh (mid ++ p rh) (p rk)) in
    let whole : front ++ (mid ++ p rest) ≡ fk ++ ((fh ++ (mid ++ p rh)) ++ p rk) =
    ap (λ (xs : List PlacedBlock). xs ++ (mid ++ p rest)) (sym parts) ∙ append_assoc fk fh (mid ++ p rest) ∙ ap (λ (xs : List PlacedBlock). fk ++ xs) middle in
    ap elements_in whole
    ∙ elements-three n fk (fh ++ (mid ++ p rh)) rk (subst (λ xs. joins fk xs ≡ false) middle one) two

-- The rest begins with a right half.
right-one : (n : ℕ) (front rest : List PlacedBlock) → BeginsRight rest → joins (front ++ map (pushed n) (take 1 rest)) (map (pushed n) (drop 1 rest)) ≡ false
right-one n front [] b = absurd (true≢false (sym b.1))
right-one n front (x ∷ []) b = none-behind (last_block (front ++ pushed n x ∷ []))
right-one n front (x ∷ y ∷ xs) b = ap (λ o. joined_by o (Some (pushed n y))) (last-behind front (pushed n x) []) ∙ right-free b.0 x y b.1

rest-apart : (n : ℕ) (front mid fh rest : List PlacedBlock) → ((last_block fh ≡ last_block front) ⊎ (fh ≡ [])) → joins (front ++ mid) rest ≡ false → joins (fh ++ mid) (map (pushed n) rest) ≡ false
rest-apart n front [] fh rest (inr none) apart = ap (λ xs. joined_by (last_block (xs ++ [])) (first_block (map (pushed n) rest))) none ∙ none-before (first_block (map (pushed n) rest))
rest-apart n front [] fh rest (inl same) apart =
    ap (λ xs. joins xs (map (pushed n) rest)) (append-nil fh)
    ∙ ap (λ o. joined_by o (first_block (map (pushed n) rest))) same
    ∙ first-pushed n (last_block front) rest
    ∙ ap (λ xs. joins xs rest) (sym (append-nil front)) ∙ apart
rest-apart n front (m ∷ mid) fh rest h apart =
    ap (λ o. joined_by o (first_block (map (pushed n) rest))) (last-behind fh m mid ∙ sym (last-behind front m mid))
    ∙ first-pushed n (last_block (front ++ m ∷ mid)) rest ∙ apart

relaid-three : (n : ℕ) (front mid rest : List PlacedBlock) (f r : Bool) → (f ≡ true → EndsLeft front) → (f ≡ false → joins front (mid ++ rest) ≡ false) → (r ≡ true → BeginsRight rest) → (r ≡ false → joins (front ++ mid) rest ≡ false) → elements_in (front ++ (mid ++ map (pushed n) rest)) ≡ elements_in (cond f (but_last front) front) ++ (elements_in (cond f (only_last front) [] ++ (mid ++ map (pushed n) (cond r (take 1 rest) []))) ++ map (pushed_group n) (elements_in (cond r (drop 1 rest) rest)))
relaid-three n front mid rest true true f1 f0 r1 r0 =
    three n front mid rest (but_last front) (only_last front) (take 1 rest) (drop 1 rest) (last-parts front) (first-parts rest)
    (left-one front (mid ++ map (pushed n) rest) (f1 refl))
    (ap (λ xs. joins xs (map (pushed n) (drop 1 rest))) (sym (append_assoc (only_last front) mid (map (pushed n) (take 1 rest)))) ∙ right-one n (only_last front ++ mid) rest (r1 refl))
relaid-three n front mid rest true false f1 f0 r1 r0 =
    three n front mid rest (but_last front) (only_last front) [] rest (last-parts front) refl
    (left-one front (mid ++ map (pushed n) rest) (f1 refl))
    (ap (λ xs. joins (only_last front ++ xs) (map (pushed n) rest)) (append-nil mid) ∙ rest-apart n front mid (only_last front) rest (inl (last-only front)) (r0 refl))
relaid-three n front mid rest false true f1 f0 r1 r0 =
    three n front mid rest front [] (take 1 rest) (drop 1 rest) (append-nil front) (first-parts rest)
    (joins-pushed n front mid rest ∙ f0 refl)
    (right-one n mid rest (r1 refl))
relaid-three n front mid rest false false f1 f0 r1 r0 =
    three n front mid rest front [] [] rest (append-nil front) refl
    (joins-pushed n front mid rest ∙ f0 refl)
    (ap (λ xs. joins xs (map (pushed n) rest)) (append-nil mid) ∙ rest-apart n front mid [] rest (inr refl) (r0 refl))

-- Some block stands in the old or in the new window.
abbrev pub IsSome : WindowBlocks → Type 0
IsSome w = (is_nil w.gone && is_nil w.come) ≡ false

front-is : (w : WindowBlocks) → IsSome w → front_relaid w ≡ (joins w.front (w.gone ++ w.rest) || joins w.front (w.come ++ w.rest))
front-is w some = cond-false (is_nil w.gone && is_nil w.come) false (joins w.front (w.gone ++ w.rest) || joins w.front (w.come ++ w.rest)) some

rest-is : (w : WindowBlocks) → IsSome w → rest_relaid w ≡ (joins (w.front ++ w.gone) w.rest || joins (w.front ++ w.come) w.rest)
rest-is w some = cond-false (is_nil w.gone && is_nil w.come) false (joins (w.front ++ w.gone) w.rest || joins (w.front ++ w.come) w.rest) some

front-left : (w : WindowBlocks) → IsSome w → front_relaid w ≡ true → EndsLeft w.front
front-left w some relaid =
    elim (or_cases (joins w.front (w.gone ++ w.rest)) (joins w.front (w.come ++ w.rest)) (sym (front-is w some) ∙ relaid)) [
      | inl old ↦ joins-left w.front (w.gone ++ w.rest) old
      | inr new ↦ joins-left w.front (w.come ++ w.rest) new
    ]

rest-right : (w : WindowBlocks) → IsSome w → rest_relaid w ≡ true → BeginsRight w.rest
rest-right w some relaid =
    elim (or_cases (joins (w.front ++ w.gone) w.rest) (joins (w.front ++ w.come) w.rest) (sym (rest-is w some) ∙ relaid)) [
      | inl old ↦ right-of (last_block (w.front ++ w.gone)) w.rest old
      | inr new ↦ right-of (last_block (w.front ++ w.come)) w.rest new
    ]

pub front-apart : (w : WindowBlocks) → IsSome w → front_relaid w ≡ false → (joins w.front (w.gone ++ w.rest) ≡ false) × (joins w.front (w.come ++ w.rest) ≡ false)
front-apart w some apart = or_parts (joins w.front (w.gone ++ w.rest)) (joins w.front (w.come ++ w.rest)) (sym (front-is w some) ∙ apart)

pub both-apart : (w : WindowBlocks) → IsSome w → rest_relaid w ≡ false → (joins (w.front ++ w.gone) w.rest ≡ false) × (joins (w.front ++ w.come) w.rest ≡ false)
both-apart w some apart = or_parts (joins (w.front ++ w.gone) w.rest) (joins (w.front ++ w.come) w.rest) (sym (rest-is w some) ∙ apart)

-- Where a block stands in the old or in the new window, the elements of both texts are those of the blocks before it that
-- are not relaid, those of the relaid blocks, and those of the blocks behind it that are not relaid.
pub relaid-old : (w : WindowBlocks) → IsSome w → elements_in (old_blocks w) ≡ elements_in (front_kept w) ++ (elements_in (old_relaid w) ++ map (pushed_group w.old_end) (elements_in (rest_kept w)))
relaid-old w some =
    relaid-three w.old_end w.front w.gone w.rest (front_relaid w) (rest_relaid w)
    (front-left w some) (λ h. (front-apart w some h).0) (rest-right w some) (λ h. (both-apart w some h).0)

pub relaid-new : (w : WindowBlocks) → IsSome w → elements_in (new_blocks w) ≡ elements_in (front_kept w) ++ (elements_in (new_relaid w) ++ map (pushed_group w.new_end) (elements_in (rest_kept w)))
relaid-new w some =
    relaid-three w.new_end w.front w.come w.rest (front_relaid w) (rest_relaid w)
    (front-left w some) (λ h. (front-apart w some h).1) (rest-right w some) (λ h. (both-apart w some h).1)
