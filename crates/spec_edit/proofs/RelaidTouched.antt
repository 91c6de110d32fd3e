-- The elements of relaid blocks are touched, in both texts.
use Rattle.std.proofs.Common.{◌≡◌, ◌⊎◌, ℕ, ◌<◌, ◌≤◌, Bool, true, false, ◌&&◌, ◌||◌, cond, ltb, leb, Option, Some, None, List, [], ◌∷◌, ◌++◌, map, take, get_or, inl, inr, refl, sym, ap, ap₂, subst, ◌∙◌}
use Rattle.std.specs.Prelude.{All}
use Rattle.std.specs.List.{list_any}
use Rattle.std.proofs.lemmas.Bool.{cases_Bool, cond-false, or_cases, true≢false, or_left, or_right, lt-ltb, le-leb}
use Rattle.std.proofs.lemmas.List.{append-nil}
use Rattle.spec_script.specs.LongestRuns.{members}
use Rattle.spec_script.specs.Stanzas.{PlacedBlock}
use Rattle.spec_script.specs.Elements.{line_of_block, is_dual, elements_in}
use Rattle.spec_edit.specs.WindowBlocks.{pushed, WindowBlocks, is_nil, joined_by, last_block, first_block, joins, front_relaid, rest_relaid, only_last, front_half, rest_half, old_relaid, new_relaid}
use Rattle.spec_edit.proofs.WindowElements.{left-free, right-free}
use Rattle.spec_edit.proofs.RelaidElements.{none-behind, none-before, one-pushed, IsSome}
use Rattle.spec_edit.specs.Touched.{EditBlocks, place_before, changes_partner, changes_speaker, is_relaid_old, is_relaid_new, is_touched_old, is_touched_new}
use Rattle.spec_edit.proofs.TouchedRuns.{IsTouched, HasTouched, all-touched, before-touched, behind-touched}
use Rattle.spec_edit.proofs.PartnerCases.{last-one}
use Rattle.spec_edit.proofs.WindowPartners.{Around, front-back, front-changes, rest-back, rest-changes}

-- The last block before the window, where it is relaid.
pub record FrontHalf (w : WindowBlocks) : Type 0 where
  pub before : List PlacedBlock
  pub one : PlacedBlock
  pub whole : w.front ≡ before ++ one ∷ []
  pub only : only_last w.front ≡ one ∷ []
  pub free : (z : PlacedBlock) → is_dual z one ≡ false
  pub joined : (joined_by (Some one) (first_block (w.gone ++ w.rest)) || joined_by (Some one) (first_block (w.come ++ w.rest))) ≡ true

joins-right : (f : PlacedBlock) (o : Option PlacedBlock) → joined_by (Some f) o ≡ true → (z : PlacedBlock) → is_dual z f ≡ false
joins-right f None h z = absurd (true≢false (sym h))
joins-right f (Some y) h z = left-free z f y h

joins-left : (o : Option PlacedBlock) (c : PlacedBlock) → joined_by o (Some c) ≡ true → (z : PlacedBlock) → is_dual c z ≡ false
joins-left None c h z = absurd (true≢false (sym h))
joins-left (Some x) c h z = right-free x c z h

pub front-half_of : (w : WindowBlocks) → IsSome w → front_relaid w ≡ true → FrontHalf w
front-half_of w some relaid = by w.front refl
  where
    joined : (joins w.front (w.gone ++ w.rest) || joins w.front (w.come ++ w.rest)) ≡ true
    joined = sym (cond-false (is_nil w.gone && is_nil w.come) false (joins w.front (w.gone ++ w.rest) || joins w.front (w.come ++ w.rest)) some) ∙ relaid

    by : (front : List PlacedBlock) → w.front ≡ front → FrontHalf w
    by [] is =
        absurd (true≢false (sym joined ∙ ap (λ l. joins l (w.gone ++ w.rest) || joins l (w.come ++ w.rest)) is
        ∙ ap₂ (λ a b. a || b) (none-before (first_block (w.gone ++ w.rest))) (none-before (first_block (w.come ++ w.rest)))))
    by (block ∷ blocks) is =
        let l = last-one block blocks in
        let own : (joined_by (Some l.one) (first_block (w.gone ++ w.rest)) || joined_by (Some l.one) (first_block (w.come ++ w.rest))) ≡ true =
        sym (ap (λ o. joined_by o (first_block (w.gone ++ w.rest)) || joined_by o (first_block (w.come ++ w.rest))) (ap last_block is ∙ l.is)) ∙ joined in
        record {
          before = l.before;
          one = l.one;
          whole = is ∙ l.whole;
          only = ap only_last is ∙ l.only;
          free = λ z. elim (or_cases (joined_by (Some l.one) (first_block (w.gone ++ w.rest))) (joined_by (Some l.one) (first_block (w.come ++ w.rest))) own) [
            | inl h ↦ joins-right l.one (first_block (w.gone ++ w.rest)) h z
            | inr h ↦ joins-right l.one (first_block (w.come ++ w.rest)) h z
          ];
          joined = own;
        }

-- The first block behind the window, where it is relaid.
pub record RestHalf (w : WindowBlocks) : Type 0 where
  pub one : PlacedBlock
  pub behind : List PlacedBlock
  pub whole : w.rest ≡ one ∷ behind
  pub free : (z : PlacedBlock) → is_dual one z ≡ false
  pub joined : (joined_by (last_block (w.front ++ w.gone)) (Some one) || joined_by (last_block (w.front ++ w.come)) (Some one)) ≡ true

pub rest-half_of : (w : WindowBlocks) → IsSome w → rest_relaid w ≡ true → RestHalf w
rest-half_of w some relaid = by w.rest refl
  where
    one_end : Option PlacedBlock
    one_end = last_block (w.front ++ w.gone)

    joined : (joins (w.front ++ w.gone) w.rest || joins (w.front ++ w.come) w.rest) ≡ true
    joined = sym (cond-false (is_nil w.gone && is_nil w.come) false (joins (w.front ++ w.gone) w.rest || joins (w.front ++ w.come) w.rest) some) ∙ relaid

    by : (rest : List PlacedBlock) → w.rest ≡ rest → RestHalf w
    by [] is =
        absurd (true≢false (sym joined ∙ ap (λ l. joins (w.front ++ w.gone) l || joins (w.front ++ w.come) l) is
        ∙ ap₂ (λ a b. a || b) (none-behind (last_block (w.front ++ w.gone))) (none-behind (last_block (w.front ++ w.come)))))
    by (block ∷ blocks) is =
        let own : (joined_by (last_block (w.front ++ w.gone)) (Some block) || joined_by (last_block (w.front ++ w.come)) (Some block)) ≡ true =
        sym (ap (λ l. joins (w.front ++ w.gone) l || joins (w.front ++ w.come) l) is) ∙ joined in
        record {
          one = block;
          behind = blocks;
          whole = is;
          free = λ z. elim (or_cases (joined_by (last_block (w.front ++ w.gone)) (Some block)) (joined_by (last_block (w.front ++ w.come)) (Some block)) own) [
            | inl h ↦ joins-left (last_block (w.front ++ w.gone)) block h z
            | inr h ↦ joins-left (last_block (w.front ++ w.come)) block h z
          ];
          joined = own;
        }

-- A block of a window is touched.
in-window : (low high first : ℕ) (rest : Bool) → low ≤ first → first < high → ((leb low first && ltb first high) || rest) ≡ true
in-window low high first rest above below = ap₂ (λ a b. (a && b) || rest) (le-leb low first above) (lt-ltb first high below)

joins-more : (f : PlacedBlock) (own more : List PlacedBlock) → joins (f ∷ []) own ≡ true → joins (f ∷ []) (own ++ more) ≡ true
joins-more f [] more h = absurd (true≢false (sym h))
joins-more f (x ∷ own) more h = h

-- Relaid blocks in order: perhaps one before the window, those in it, and perhaps one behind it.
half-touched : (touched : PlacedBlock → Bool) (n : ℕ) (w : WindowBlocks) (own : List PlacedBlock) → IsSome w → All (IsTouched touched) own
    → ((h : FrontHalf w) → (touched h.one ≡ true) ⊎ (joins (h.one ∷ []) own ≡ true)) → ((h : RestHalf w) → (touched (pushed n h.one) ≡ true) ⊎ (joins own (h.one ∷ []) ≡ true))
    → All (HasTouched touched) (elements_in (front_half w ++ (own ++ map (pushed n) (rest_half w))))
half-touched touched n w own some all front rest =
    elim (cases_Bool (front_relaid w)) [
      | inl relaid ↦
          let h = front-half_of w some relaid in
          subst (λ (l : List PlacedBlock). All (HasTouched touched) (elements_in (l ++ middle)))
          (sym (ap (λ b. cond b (only_last w.front) []) relaid ∙ h.only))
          (before-touched touched h.one middle middle-touched (elim (front h) [ inl is ↦ inl is | inr joined ↦ inr (joins-more h.one own (map (pushed n) (rest_half w)) joined) ]))
      | inr stays ↦
          subst (λ (l : List PlacedBlock). All (HasTouched touched) (elements_in (l ++ middle))) (sym (ap (λ b. cond b (only_last w.front) []) stays)) middle-touched
    ]
  where
    middle : List PlacedBlock
    middle = own ++ map (pushed n) (rest_half w)

    middle-touched : All (HasTouched touched) (elements_in (own ++ map (pushed n) (rest_half w)))
    middle-touched =
        elim (cases_Bool (rest_relaid w)) [
          | inl relaid ↦
              let h = rest-half_of w some relaid in
              subst (λ (l : List PlacedBlock). All (HasTouched touched) (elements_in (own ++ map (pushed n) l)))
              (sym (ap₂ (λ b (l : List PlacedBlock). cond b (take 1 l) []) relaid h.whole))
              (behind-touched touched own (pushed n h.one) all (elim (rest h) [ inl is ↦ inl is | inr joined ↦ inr (one-pushed n (last_block own) h.one ∙ joined) ]))
          | inr stays ↦
              subst (λ (l : List PlacedBlock). All (HasTouched touched) (elements_in l))
              (sym (append-nil own) ∙ ap (λ (l : List PlacedBlock). own ++ map (pushed n) l) (sym (ap (λ b. cond b (take 1 w.rest) []) stays)))
              (all-touched touched own all)
        ]

-- In the old text.
pub old-relaid : (edit : EditBlocks) (w : WindowBlocks) → Around edit w → IsSome w → All (HasTouched (is_relaid_old edit)) (elements_in (old_relaid w))
old-relaid edit w it some =
    half-touched (is_relaid_old edit) w.old_end w w.gone some
    (λ k d h. let g = it.gone k d h in in-window edit.from edit.old_to _ _ g.above g.below)
    (λ h. elim (front-changes edit w it h.before h.one h.whole h.free some h.joined) [
      | inl changed ↦ inl (or_right _ (changes_partner edit (line_of_block h.one)) changed)
      | inr both ↦ inr both.0
    ])
    (λ h. elim (rest-changes edit w it h.one h.behind h.whole h.free some h.joined) [
      | inl changed ↦ inl (or_right _ (changes_partner edit (line_of_block (pushed w.old_end h.one))) changed)
      | inr both ↦ inr both.0
    ])

-- And in the new one.
pub new-relaid : (edit : EditBlocks) (w : WindowBlocks) → Around edit w → IsSome w → All (HasTouched (is_relaid_new edit)) (elements_in (new_relaid w))
new-relaid edit w it some =
    half-touched (is_relaid_new edit) w.new_end w w.come some
    (λ k d h. let g = it.come k d h in in-window edit.from edit.new_to _ _ g.above g.below)
    (λ h. elim (front-changes edit w it h.before h.one h.whole h.free some h.joined) [
      | inl changed ↦ inl (or_right _ (changes_partner edit (place_before edit.range (line_of_block h.one))) (ap (changes_partner edit) (front-back edit w it h.before h.one h.whole h.free) ∙ changed))
      | inr both ↦ inr both.1
    ])
    (λ h. elim (rest-changes edit w it h.one h.behind h.whole h.free some h.joined) [
      | inl changed ↦ inl (or_right _ (changes_partner edit (place_before edit.range (line_of_block (pushed w.new_end h.one)))) (ap (changes_partner edit) (rest-back edit w it h.one) ∙ changed))
      | inr both ↦ inr both.1
    ])

-- A block that is relaid is touched.
more-touched : (one other : PlacedBlock → Bool) (blocks : List PlacedBlock) → list_any one blocks ≡ true → list_any (λ (placed : PlacedBlock). one placed || other placed) blocks ≡ true
more-touched one other [] h = absurd (true≢false (sym h))
more-touched one other (block ∷ blocks) h = elim (or_cases (one block) (list_any one blocks) h) [
  | inl here ↦ or_left (one block || other block) (list_any (λ (placed : PlacedBlock). one placed || other placed) blocks) (or_left (one block) (other block) here)
  | inr later ↦ or_right (one block || other block) (list_any (λ (placed : PlacedBlock). one placed || other placed) blocks) (more-touched one other blocks later)
]

pub relaid-touched-old : (edit : EditBlocks) (w : WindowBlocks) → Around edit w → IsSome w → All (HasTouched (is_touched_old edit)) (elements_in (old_relaid w))
relaid-touched-old edit w it some k d h = more-touched (is_relaid_old edit) (λ (placed : PlacedBlock). changes_speaker edit (line_of_block placed)) (members (get_or (elements_in (old_relaid w)) k d)) (old-relaid edit w it some k d h)

pub relaid-touched-new : (edit : EditBlocks) (w : WindowBlocks) → Around edit w → IsSome w → All (HasTouched (is_touched_new edit)) (elements_in (new_relaid w))
relaid-touched-new edit w it some k d h = more-touched (is_relaid_new edit) (λ (placed : PlacedBlock). changes_speaker edit (place_before edit.range (line_of_block placed))) (members (get_or (elements_in (new_relaid w)) k d)) (new-relaid edit w it some k d h)
