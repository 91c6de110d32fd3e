-- Elements of blocks that are touched, or joined with one that is.
use Rattle.std.proofs.Common.{◌≡◌, ◌⊎◌, Bool, true, false, cond, ◌||◌, List, [], ◌∷◌, ◌++◌, inl, inr, refl, sym, ap, subst, ◌∙◌}
use Rattle.std.specs.Prelude.{All}
use Rattle.std.proofs.lemmas.Bool.{or_left, or_right, true≢false}
use Rattle.std.proofs.lemmas.List.Elements.{All-nil, All-cons, All-head, All-tail}
use Rattle.spec_script.specs.LongestRuns.{Group, members, in_front}
use Rattle.spec_script.specs.Stanzas.{PlacedBlock}
use Rattle.spec_script.specs.Elements.{is_dual, alone, elements_in}
use Rattle.spec_edit.proofs.Steps.{touches}
use Rattle.spec_edit.specs.WindowBlocks.{joins}

-- The runs of a list that isn't empty: the first begins with its first element.
record FirstOf {X : Type 0} (x : X) (groups : List (Group X)) : Type 0 where
  more : List X
  later : List (Group X)
  is : groups ≡ record { first = x; more = more } ∷ later

front-first : {X : Type 0} (joins : X → X → Bool) (x : X) (groups : List (Group X)) → FirstOf x (in_front joins x groups)
front-first joins x [] = record { more = []; later = []; is = refl }
front-first {X} joins x (g ∷ gs) = by (joins x g.first)
  where
    by : (b : Bool) → FirstOf x (cond b (record { first = x; more = members g } ∷ gs) (record { first = x; more = [] } ∷ g ∷ gs))
    by true = record { more = members g; later = gs; is = refl }
    by false = record { more = []; later = g ∷ gs; is = refl }

module _ (touched : PlacedBlock → Bool) where
  abbrev pub IsTouched : PlacedBlock → Type 0
  IsTouched placed = touched placed ≡ true

  abbrev pub HasTouched : Group PlacedBlock → Type 0
  HasTouched element = touches touched element ≡ true

  front-touched : (block : PlacedBlock) (groups : List (Group PlacedBlock)) → All HasTouched groups
      → ((touched block ≡ true) ⊎ ((y : PlacedBlock) × (gs : List PlacedBlock) × (rest : List (Group PlacedBlock)) × (groups ≡ record { first = y; more = gs } ∷ rest) × (is_dual block y ≡ true)))
      → All HasTouched (in_front is_dual block groups)
  front-touched block [] all (inl own) = All-cons HasTouched (alone block) [] (or_left (touched block) false own) (All-nil HasTouched)
  front-touched block [] all (inr joined) = absurd (let bad : ⊥ = cc (joined.3) in bad)
  front-touched block (g ∷ groups) all when = by (is_dual block g.first) refl when
    where
      onto : Group PlacedBlock
      onto = record { first = block; more = members g }

      head_touched : HasTouched g
      head_touched = All-head HasTouched g groups all

      by : (b : Bool) → is_dual block g.first ≡ b
          → ((touched block ≡ true) ⊎ ((y : PlacedBlock) × (gs : List PlacedBlock) × (rest : List (Group PlacedBlock)) × (g ∷ groups ≡ record { first = y; more = gs } ∷ rest) × (is_dual block y ≡ true)))
          → All HasTouched (cond b (onto ∷ groups) (alone block ∷ g ∷ groups))
      by true is when = All-cons HasTouched onto groups (or_right (touched block) (touches touched g) head_touched) (All-tail HasTouched g groups all)
      by false is (inl own) = All-cons HasTouched (alone block) (g ∷ groups) (or_left (touched block) false own) all
      by false is (inr joined) =
          let same : g ≡ record { first = joined.0; more = joined.1 } = cc (joined.3) in
          absurd (true≢false (sym joined.4 ∙ sym (ap (λ (h : Group PlacedBlock). is_dual block h.first) same) ∙ is))

  pub all-touched : (blocks : List PlacedBlock) → All IsTouched blocks → All HasTouched (elements_in blocks)
  all-touched [] all = All-nil HasTouched
  all-touched (block ∷ blocks) all =
      front-touched block (elements_in blocks) (all-touched blocks (All-tail IsTouched block blocks all)) (inl (All-head IsTouched block blocks all))

  -- A block before others.
  pub before-touched : (block : PlacedBlock) (blocks : List PlacedBlock) → All HasTouched (elements_in blocks) → ((touched block ≡ true) ⊎ (joins (block ∷ []) blocks ≡ true))
      → All HasTouched (elements_in (block ∷ blocks))
  before-touched block blocks all (inl own) = front-touched block (elements_in blocks) all (inl own)
  before-touched block [] all (inr joined) = absurd (true≢false (sym joined))
  before-touched block (next ∷ blocks) all (inr joined) =
      let f = front-first is_dual next (elements_in blocks) in
      front-touched block (elements_in (next ∷ blocks)) all (inr (next, f.more, f.later, f.is, joined))

  -- A block behind others that are touched.
  pub behind-touched : (blocks : List PlacedBlock) (block : PlacedBlock) → All IsTouched blocks → ((touched block ≡ true) ⊎ (joins blocks (block ∷ []) ≡ true))
      → All HasTouched (elements_in (blocks ++ block ∷ []))
  behind-touched [] block all (inl own) = All-cons HasTouched (alone block) [] (or_left (touched block) false own) (All-nil HasTouched)
  behind-touched [] block all (inr joined) = absurd (true≢false (sym joined))
  behind-touched (one ∷ []) block all (inl own) =
      front-touched one (alone block ∷ []) (All-cons HasTouched (alone block) [] (or_left (touched block) false own) (All-nil HasTouched)) (inl (All-head IsTouched one [] all))
  behind-touched (one ∷ []) block all (inr joined) =
      subst (λ b. All HasTouched (cond b (record { first = one; more = block ∷ [] } ∷ []) (alone one ∷ alone block ∷ []))) (sym joined)
      (All-cons HasTouched (record { first = one; more = block ∷ [] }) [] (or_left (touched one) (touched block || false) (All-head IsTouched one [] all)) (All-nil HasTouched))
  behind-touched (one ∷ next ∷ blocks) block all when =
      front-touched one (elements_in (next ∷ (blocks ++ block ∷ []))) (behind-touched (next ∷ blocks) block (All-tail IsTouched one (next ∷ blocks) all) when) (inl (All-head IsTouched one (next ∷ blocks) all))
