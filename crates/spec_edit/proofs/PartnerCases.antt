-- The partners of the blocks next to a window, by what stands behind or before them in both texts.
use Rattle.std.proofs.Common.{◌≡◌, ◌⊎◌, ℕ, ◌<◌, ◌≤◌, ◌==◌, Bool, true, false, not, ◌&&◌, ◌||◌, cond, ltb, leb, Option, Some, None, List, [], ◌∷◌, ◌++◌, map, inl, inr, refl, sym, ap, ap₂, subst, ◌∙◌}
use Rattle.std.specs.Prelude.{All}
use Rattle.std.proofs.lemmas.Bool.{cases_lt, true≢false, ne_eqb, lt-ltb, le-ltb, lt-leb, le-leb}
use Rattle.std.proofs.lemmas.List.{append-nil}
use Rattle.std.proofs.lemmas.List.Elements.{All-head, All-tail}
use Rattle.spec_script.specs.Stanzas.{PlacedBlock}
use Rattle.spec_script.specs.Elements.{line_of_block, is_dual}
use Rattle.spec_edit.specs.WindowBlocks.{pushed, is_nil, joined_by, last_block, first_block, joins, but_last, only_last}
use Rattle.spec_text.specs.Ranges.{place_after}
use Rattle.spec_edit.specs.Touched.{EditBlocks, is_same_partner}
use Rattle.spec_edit.proofs.Partners.{right_partner, left_partner}

-- The last of some blocks.
pub record LastOf (blocks : List PlacedBlock) : Type 0 where
  pub before : List PlacedBlock
  pub one : PlacedBlock
  pub whole : blocks ≡ before ++ one ∷ []
  pub only : only_last blocks ≡ one ∷ []
  pub but : but_last blocks ≡ before
  pub is : last_block blocks ≡ Some one

pub last-one : (block : PlacedBlock) (blocks : List PlacedBlock) → LastOf (block ∷ blocks)
last-one block [] = record { before = []; one = block; whole = refl; only = refl; but = refl; is = refl }
last-one block (next ∷ blocks) =
    let l = last-one next blocks in
    record {
      before = block ∷ l.before;
      one = l.one;
      whole = ap (λ (xs : List PlacedBlock). block ∷ xs) l.whole;
      only = l.only;
      but = ap (λ (xs : List PlacedBlock). block ∷ xs) l.but;
      is = l.is;
    }

pub last-behind : (xs : List PlacedBlock) (y : PlacedBlock) (ys : List PlacedBlock) → last_block (xs ++ y ∷ ys) ≡ last_block (y ∷ ys)
last-behind [] y ys = refl
last-behind (x ∷ []) y ys = refl
last-behind (x ∷ z ∷ xs) y ys = last-behind (z ∷ xs) y ys

pub last-all : (P : PlacedBlock → Type 0) (blocks : List PlacedBlock) (one : PlacedBlock) → All P blocks → last_block blocks ≡ Some one → P one
last-all P [] one all is = absurd (let bad : ⊥ = cc (is) in bad)
last-all P (block ∷ []) one all is = subst P (let same : block ≡ one = cc (is) in same) (All-head P block [] all)
last-all P (block ∷ next ∷ blocks) one all is = last-all P (next ∷ blocks) one (All-tail P block (next ∷ blocks) all) is

-- The partner before, by the last of those before.
abbrev pub by_last : Option PlacedBlock → PlacedBlock → Option ℕ
by_last None block = None
by_last (Some one) block = cond (is_dual one block) (Some (line_of_block one)) None

pub left-by : (blocks : List PlacedBlock) (block : PlacedBlock) → left_partner None blocks block ≡ by_last (last_block blocks) block
left-by [] block = refl
left-by (one ∷ []) block = refl
left-by (one ∷ next ∷ blocks) block = left-by (next ∷ blocks) block

-- Two partners that are two blocks.
pub differ-at : (edit : EditBlocks) (p q : ℕ) → ((p < edit.from) ⊎ (edit.old_to ≤ p) → place_after edit.range p ≡ q → ⊥)
    → (not (leb edit.from p && ltb p edit.old_to) && (place_after edit.range p == q)) ≡ false
differ-at edit p q apart =
    elim (cases_lt p edit.from) [
      | inl low ↦
          ap₂ (λ a b. not (a && ltb p edit.old_to) && b) (lt-leb edit.from p low) (ne_eqb (place_after edit.range p) q (apart (inl low)))
      | inr above ↦ elim (cases_lt p edit.old_to) [
        | inl below ↦ ap₂ (λ a b. not (a && b) && (place_after edit.range p == q)) (le-leb edit.from p above) (lt-ltb p edit.old_to below)
        | inr past ↦
            ap₂ (λ a b. not (a && b) && (place_after edit.range p == q)) (le-leb edit.from p above) (le-ltb p edit.old_to past)
            ∙ ne_eqb (place_after edit.range p) q (apart (inr past))
      ]
    ]

differ-by : (edit : EditBlocks) (d e : Bool) (p q : ℕ) → (d || e) ≡ true → ((d ≡ true) → (e ≡ true) → (not (leb edit.from p && ltb p edit.old_to) && (place_after edit.range p == q)) ≡ false)
    → is_same_partner edit (cond d (Some p) None) (cond e (Some q) None) ≡ false
differ-by edit true true p q some apart = apart refl refl
differ-by edit true false p q some apart = refl
differ-by edit false true p q some apart = refl
differ-by edit false false p q some apart = absurd (true≢false (sym some))

differ-old : (edit : EditBlocks) (d : Bool) (p : ℕ) → (d || false) ≡ true → is_same_partner edit (cond d (Some p) None) None ≡ false
differ-old edit true p some = refl
differ-old edit false p some = absurd (true≢false (sym some))

differ-new : (edit : EditBlocks) (e : Bool) (q : ℕ) → e ≡ true → is_same_partner edit None (cond e (Some q) None) ≡ false
differ-new edit true q some = refl
differ-new edit false q some = absurd (true≢false (sym some))

both-or : (edit : EditBlocks) (d e : Bool) (p q : ℕ) → (d || e) ≡ true → (is_same_partner edit (cond d (Some p) None) (cond e (Some q) None) ≡ false) ⊎ ((d ≡ true) × (e ≡ true))
both-or edit true true p q some = inr (refl, refl)
both-or edit true false p q some = inl refl
both-or edit false true p q some = inl refl
both-or edit false false p q some = absurd (true≢false (sym some))

abbrev DifferAt : EditBlocks → ℕ → ℕ → Type 0
DifferAt edit p q = (not (leb edit.from p && ltb p edit.old_to) && (place_after edit.range p == q)) ≡ false

-- The partners of the last block before a window, by the first block behind it in both texts.
pub front-cases : (edit : EditBlocks) (f : PlacedBlock) (gone come rest : List PlacedBlock) (n m : ℕ) → (is_nil gone && is_nil come) ≡ false
    → (joined_by (Some f) (first_block (gone ++ rest)) || joined_by (Some f) (first_block (come ++ rest))) ≡ true
    → ((x c : PlacedBlock) (g r : List PlacedBlock) → gone ≡ x ∷ g → rest ≡ c ∷ r → DifferAt edit (line_of_block x) (line_of_block (pushed m c)))
    → ((y c : PlacedBlock) (g r : List PlacedBlock) → come ≡ y ∷ g → rest ≡ c ∷ r → DifferAt edit (line_of_block (pushed n c)) (line_of_block y))
    → (is_same_partner edit (right_partner f (gone ++ map (pushed n) rest)) (right_partner f (come ++ map (pushed m) rest)) ≡ false)
    ⊎ ((joins (f ∷ []) gone ≡ true) × (joins (f ∷ []) come ≡ true))
front-cases edit f [] [] rest n m nil some one other = absurd (true≢false nil)
front-cases edit f (x ∷ gone) (y ∷ come) rest n m nil some one other = both-or edit (is_dual f x) (is_dual f y) (line_of_block x) (line_of_block y) some
front-cases edit f (x ∷ gone) [] [] n m nil some one other = inl (differ-old edit (is_dual f x) (line_of_block x) some)
front-cases edit f (x ∷ gone) [] (c ∷ rest) n m nil some one other =
    inl (differ-by edit (is_dual f x) (is_dual f c) (line_of_block x) (line_of_block (pushed m c)) some (λ d e. one x c gone rest refl refl))
front-cases edit f [] (y ∷ come) [] n m nil some one other = inl (differ-new edit (is_dual f y) (line_of_block y) some)
front-cases edit f [] (y ∷ come) (c ∷ rest) n m nil some one other =
    inl (differ-by edit (is_dual f c) (is_dual f y) (line_of_block (pushed n c)) (line_of_block y) some (λ d e. other y c come rest refl refl))

-- The partners of the first block behind a window, by the last block before it in both texts.
options-differ : (edit : EditBlocks) (c : PlacedBlock) (n m : ℕ) (one other : Option PlacedBlock) → (joined_by one (Some c) || joined_by other (Some c)) ≡ true
    → ((x y : PlacedBlock) → one ≡ Some x → other ≡ Some y → DifferAt edit (line_of_block x) (line_of_block y))
    → is_same_partner edit (by_last one (pushed n c)) (by_last other (pushed m c)) ≡ false
options-differ edit c n m None None some apart = absurd (true≢false (sym some))
options-differ edit c n m None (Some y) some apart = differ-new edit (is_dual y c) (line_of_block y) some
options-differ edit c n m (Some x) None some apart = differ-old edit (is_dual x c) (line_of_block x) some
options-differ edit c n m (Some x) (Some y) some apart = differ-by edit (is_dual x c) (is_dual y c) (line_of_block x) (line_of_block y) some (λ d e. apart x y refl refl)

options-both : (edit : EditBlocks) (c : PlacedBlock) (n m : ℕ) (one other : Option PlacedBlock) → (joined_by one (Some c) || joined_by other (Some c)) ≡ true
    → (is_same_partner edit (by_last one (pushed n c)) (by_last other (pushed m c)) ≡ false) ⊎ ((joined_by one (Some c) ≡ true) × (joined_by other (Some c) ≡ true))
options-both edit c n m None None some = absurd (true≢false (sym some))
options-both edit c n m None (Some y) some = inl (differ-new edit (is_dual y c) (line_of_block y) some)
options-both edit c n m (Some x) None some = inl (differ-old edit (is_dual x c) (line_of_block x) some)
options-both edit c n m (Some x) (Some y) some = both-or edit (is_dual x c) (is_dual y c) (line_of_block x) (line_of_block y) some

left-last : (front : List PlacedBlock) (x : PlacedBlock) (gone : List PlacedBlock) (block : PlacedBlock) → left_partner None (front ++ x ∷ gone) block ≡ by_last (last_block (x ∷ gone)) block
left-last front x gone block = left-by (front ++ x ∷ gone) block ∙ ap (λ o. by_last o block) (last-behind front x gone)

left-none : (front : List PlacedBlock) (block : PlacedBlock) → left_partner None (front ++ []) block ≡ by_last (last_block front) block
left-none front block = left-by (front ++ []) block ∙ ap (λ l. by_last (last_block l) block) (append-nil front)

pub rest-cases : (edit : EditBlocks) (c : PlacedBlock) (front gone come : List PlacedBlock) (n m : ℕ) → (is_nil gone && is_nil come) ≡ false
    → (joined_by (last_block (front ++ gone)) (Some c) || joined_by (last_block (front ++ come)) (Some c)) ≡ true
    → ((x y : PlacedBlock) → last_block gone ≡ Some x → last_block front ≡ Some y → DifferAt edit (line_of_block x) (line_of_block y))
    → ((x y : PlacedBlock) → last_block front ≡ Some x → last_block come ≡ Some y → DifferAt edit (line_of_block x) (line_of_block y))
    → (is_same_partner edit (left_partner None (front ++ gone) (pushed n c)) (left_partner None (front ++ come) (pushed m c)) ≡ false)
    ⊎ ((joins gone (c ∷ []) ≡ true) × (joins come (c ∷ []) ≡ true))
rest-cases edit c front [] [] n m nil some one other = absurd (true≢false nil)
rest-cases edit c front (x ∷ gone) (y ∷ come) n m nil some one other =
    subst (λ b. (b ≡ false) ⊎ ((joins (x ∷ gone) (c ∷ []) ≡ true) × (joins (y ∷ come) (c ∷ []) ≡ true)))
    (sym (ap₂ (is_same_partner edit) (left-last front x gone (pushed n c)) (left-last front y come (pushed m c))))
    (options-both edit c n m (last_block (x ∷ gone)) (last_block (y ∷ come))
    (sym (ap₂ (λ a b. joined_by a (Some c) || joined_by b (Some c)) (last-behind front x gone) (last-behind front y come)) ∙ some))
rest-cases edit c front (x ∷ gone) [] n m nil some one other =
    inl (ap₂ (is_same_partner edit) (left-last front x gone (pushed n c)) (left-none front (pushed m c))
    ∙ options-differ edit c n m (last_block (x ∷ gone)) (last_block front)
    (sym (ap₂ (λ a b. joined_by a (Some c) || joined_by b (Some c)) (last-behind front x gone) (ap last_block (append-nil front))) ∙ some) one)
rest-cases edit c front [] (y ∷ come) n m nil some one other =
    inl (ap₂ (is_same_partner edit) (left-none front (pushed n c)) (left-last front y come (pushed m c))
    ∙ options-differ edit c n m (last_block front) (last_block (y ∷ come))
    (sym (ap₂ (λ a b. joined_by a (Some c) || joined_by b (Some c)) (ap last_block (append-nil front)) (last-behind front y come)) ∙ some) other)
