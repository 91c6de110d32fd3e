-- The blocks next to a window have changed, or they are joined with the window in both texts.
use Rattle.std.proofs.Common.{◌≡◌, ◌⊎◌, ℕ, ◌+◌, ◌<◌, ◌≤◌, true, false, not, ◌||◌, Some, None, List, [], ◌∷◌, ◌++◌, map, inl, inr, refl, sym, ap, ap₂, subst, ◌∙◌, arith}
use Rattle.std.specs.Prelude.{All}
use Rattle.std.proofs.lemmas.List.{append_assoc}
use Rattle.std.proofs.lemmas.List.Elements.{All-head}
use Rattle.spec_script.specs.BlockParts.{Rise}
use Rattle.spec_script.specs.Stanzas.{PlacedBlock}
use Rattle.spec_script.specs.Elements.{line_of_block, is_dual}
use Rattle.spec_sheets.proofs.ElementPlaces.{placed_from, placed_to}
use Rattle.spec_edit.specs.WindowBlocks.{pushed, WindowBlocks, old_blocks, new_blocks, joined_by, last_block, first_block, joins}
use Rattle.spec_edit.proofs.RelaidElements.{IsSome}
use Rattle.spec_text.specs.Ranges.{RangeOf, place_after}
use Rattle.spec_edit.specs.Touched.{partner_of, EditBlocks, block_in, place_before, is_same_partner, changes_partner}
use Rattle.spec_text.proofs.ListLaws.{All-back}
use Rattle.spec_edit.proofs.ElementMoves.{after-front, after-behind}
use Rattle.spec_edit.proofs.Partners.{right_partner, left_partner, BeginBefore, partner-right, partner-left, rise-before}
use Rattle.spec_edit.proofs.WindowSides.{EndsBy, StandsIn}
use Rattle.spec_edit.proofs.PartnerCases.{last-one, last-all, differ-at, front-cases, rest-cases}

-- The blocks of both texts of an edit, round its window.
pub record Around (edit : EditBlocks) (w : WindowBlocks) : Type 0 where
  pub old_are : map block_in edit.old ≡ old_blocks w
  pub new_are : map block_in edit.new ≡ new_blocks w
  pub old_end : w.old_end ≡ edit.old_to
  pub new_end : w.new_end ≡ edit.new_to
  pub begin : edit.from ≤ edit.range.first
  pub past : edit.range.first + edit.range.new ≤ edit.new_to
  pub was_past : edit.range.first + edit.range.old ≤ edit.old_to
  pub shift : edit.old_to + edit.range.new ≡ edit.new_to + edit.range.old
  pub old_high : ℕ
  pub new_high : ℕ
  pub old_rise : Rise placed_from placed_to 0 old_high (old_blocks w)
  pub new_rise : Rise placed_from placed_to 0 new_high (new_blocks w)
  pub front : All (EndsBy edit.from) w.front
  pub gone : All (StandsIn edit.from edit.old_to) w.gone
  pub come : All (StandsIn edit.from edit.new_to) w.come

rise-some : (low high : ℕ) (front : List PlacedBlock) (block : PlacedBlock) (back : List PlacedBlock) → Rise placed_from placed_to low high (front ++ block ∷ back) → placed_from block < placed_to block
rise-some low high [] block back rise = rise.1
rise-some low high (one ∷ front) block back rise = rise-some (placed_to one) high front block back rise.2

module _ (edit : EditBlocks) (w : WindowBlocks) (it : Around edit w) where
  -- Blocks before the first one behind the window.
  pub rest-old : (c : PlacedBlock) (r : List PlacedBlock) → w.rest ≡ c ∷ r → old_blocks w ≡ (w.front ++ w.gone) ++ pushed w.old_end c ∷ map (pushed w.old_end) r
  rest-old c r is =
      ap (λ (l : List PlacedBlock). w.front ++ (w.gone ++ map (pushed w.old_end) l)) is ∙ sym (append_assoc w.front w.gone (pushed w.old_end c ∷ map (pushed w.old_end) r))

  pub rest-new : (c : PlacedBlock) (r : List PlacedBlock) → w.rest ≡ c ∷ r → new_blocks w ≡ (w.front ++ w.come) ++ pushed w.new_end c ∷ map (pushed w.new_end) r
  rest-new c r is =
      ap (λ (l : List PlacedBlock). w.front ++ (w.come ++ map (pushed w.new_end) l)) is ∙ sym (append_assoc w.front w.come (pushed w.new_end c ∷ map (pushed w.new_end) r))

  old-before : (c : PlacedBlock) (r : List PlacedBlock) → w.rest ≡ c ∷ r → All (BeginBefore (pushed w.old_end c)) (w.front ++ w.gone)
  old-before c r is =
      rise-before 0 it.old_high (w.front ++ w.gone) (pushed w.old_end c) (map (pushed w.old_end) r) (subst (Rise placed_from placed_to 0 it.old_high) (rest-old c r is) it.old_rise)

  new-before : (c : PlacedBlock) (r : List PlacedBlock) → w.rest ≡ c ∷ r → All (BeginBefore (pushed w.new_end c)) (w.front ++ w.come)
  new-before c r is =
      rise-before 0 it.new_high (w.front ++ w.come) (pushed w.new_end c) (map (pushed w.new_end) r) (subst (Rise placed_from placed_to 0 it.new_high) (rest-new c r is) it.new_rise)

  -- A line behind the window, in both texts.
  pub rest-line : (c : PlacedBlock) → place_after edit.range (line_of_block (pushed w.old_end c)) ≡ line_of_block (pushed w.new_end c)
  rest-line c =
      let there = after-behind edit.range (line_of_block (pushed w.old_end c)) (let x = it.old_end in let y = it.was_past in omega (arith, x, y)) in
      let x = it.old_end in
      let y = it.new_end in
      let z = it.shift in
      let v = it.was_past in
      omega (arith, there, x, y, z, v)

  -- And back.
  pub rest-back : (c : PlacedBlock) → place_before edit.range (line_of_block (pushed w.new_end c)) ≡ line_of_block (pushed w.old_end c)
  rest-back c =
      let range : RangeOf = record { first = edit.range.first; old = edit.range.new; new = edit.range.old } in
      let x = it.old_end in
      let y = it.new_end in
      let z = it.shift in
      let p = it.past in
      let q = it.was_past in
      let here = after-behind range (line_of_block (pushed w.new_end c)) (omega (arith, y, p)) in
      omega (arith, here, x, y, z, p, q)

  -- The last block before the window, where it is a left half in one of the texts.
  module _ (xs : List PlacedBlock) (f : PlacedBlock) (whole : w.front ≡ xs ++ f ∷ []) (free : (z : PlacedBlock) → is_dual z f ≡ false) where
    old-whole : old_blocks w ≡ xs ++ f ∷ (w.gone ++ map (pushed w.old_end) w.rest)
    old-whole = ap (λ (l : List PlacedBlock). l ++ (w.gone ++ map (pushed w.old_end) w.rest)) whole ∙ append_assoc xs (f ∷ []) (w.gone ++ map (pushed w.old_end) w.rest)

    new-whole : new_blocks w ≡ xs ++ f ∷ (w.come ++ map (pushed w.new_end) w.rest)
    new-whole = ap (λ (l : List PlacedBlock). l ++ (w.come ++ map (pushed w.new_end) w.rest)) whole ∙ append_assoc xs (f ∷ []) (w.come ++ map (pushed w.new_end) w.rest)

    old-partner : partner_of (map block_in edit.old) (line_of_block f) ≡ right_partner f (w.gone ++ map (pushed w.old_end) w.rest)
    old-partner =
        ap (λ (l : List PlacedBlock). partner_of l (line_of_block f)) (it.old_are ∙ old-whole)
        ∙ partner-right xs f (w.gone ++ map (pushed w.old_end) w.rest)
        (rise-before 0 it.old_high xs f (w.gone ++ map (pushed w.old_end) w.rest) (subst (Rise placed_from placed_to 0 it.old_high) old-whole it.old_rise)) free

    new-partner : partner_of (map block_in edit.new) (line_of_block f) ≡ right_partner f (w.come ++ map (pushed w.new_end) w.rest)
    new-partner =
        ap (λ (l : List PlacedBlock). partner_of l (line_of_block f)) (it.new_are ∙ new-whole)
        ∙ partner-right xs f (w.come ++ map (pushed w.new_end) w.rest)
        (rise-before 0 it.new_high xs f (w.come ++ map (pushed w.new_end) w.rest) (subst (Rise placed_from placed_to 0 it.new_high) new-whole it.new_rise)) free

    front-low : line_of_block f < edit.from
    front-low =
        let some = rise-some 0 it.old_high xs f (w.gone ++ map (pushed w.old_end) w.rest) (subst (Rise placed_from placed_to 0 it.old_high) old-whole it.old_rise) in
        let ends = All-head (EndsBy edit.from) f [] (All-back (EndsBy edit.from) xs (f ∷ []) (subst (All (EndsBy edit.from)) whole it.front)) in
        omega (arith, some, ends)

    front-line : place_after edit.range (line_of_block f) ≡ line_of_block f
    front-line = after-front edit.range (line_of_block f) (let x = front-low in let y = it.begin in omega (arith, x, y))

    pub front-back : place_before edit.range (line_of_block f) ≡ line_of_block f
    front-back = after-front (record { first = edit.range.first; old = edit.range.new; new = edit.range.old }) (line_of_block f) (let x = front-low in let y = it.begin in omega (arith, x, y))

    -- It has changed, or it is joined with the windows of both texts.
    pub front-changes : IsSome w → (joined_by (Some f) (first_block (w.gone ++ w.rest)) || joined_by (Some f) (first_block (w.come ++ w.rest))) ≡ true
        → (changes_partner edit (line_of_block f) ≡ true) ⊎ ((joins (f ∷ []) w.gone ≡ true) × (joins (f ∷ []) w.come ≡ true))
    front-changes some joined =
        elim (front-cases edit f w.gone w.come w.rest w.old_end w.new_end some joined
        (λ x c g r is rest. differ-at edit (line_of_block x) (line_of_block (pushed w.new_end c)) (λ side same.
        let above = (All-head (StandsIn edit.from edit.old_to) x g (subst (All (StandsIn edit.from edit.old_to)) is it.gone)).above in
        let before = All-head (BeginBefore (pushed w.old_end c)) x g (subst (All (BeginBefore (pushed w.old_end c))) is (All-back (BeginBefore (pushed w.old_end c)) w.front w.gone (old-before c r rest))) in
        let moved = rest-line c in
        let past = it.was_past in
        elim side [
          | inl low ↦ omega (arith, low, above)
          | inr high ↦
              let here = after-behind edit.range (line_of_block x) (omega (arith, high, past)) in
              let there = after-behind edit.range (line_of_block (pushed w.old_end c)) (omega (arith, high, past, before)) in
              omega (arith, here, there, same, moved, before, high, past)
        ]))
        (λ y c g r is rest. differ-at edit (line_of_block (pushed w.old_end c)) (line_of_block y) (λ side same.
        let before = All-head (BeginBefore (pushed w.new_end c)) y g (subst (All (BeginBefore (pushed w.new_end c))) is (All-back (BeginBefore (pushed w.new_end c)) w.front w.come (new-before c r rest))) in
        let moved = rest-line c in
        omega (arith, same, moved, before)))) [
          | inl differ ↦
              inl (ap₂ (λ a b. not (is_same_partner edit a b)) old-partner (ap (partner_of (map block_in edit.new)) front-line ∙ new-partner) ∙ ap not differ)
          | inr both ↦ inr both
        ]

  -- The first block behind the window, where it is a right half in one of the texts.
  module _ (c : PlacedBlock) (r : List PlacedBlock) (whole : w.rest ≡ c ∷ r) (free : (z : PlacedBlock) → is_dual c z ≡ false) where
    old-left : partner_of (map block_in edit.old) (line_of_block (pushed w.old_end c)) ≡ left_partner None (w.front ++ w.gone) (pushed w.old_end c)
    old-left =
        ap (λ (l : List PlacedBlock). partner_of l (line_of_block (pushed w.old_end c))) (it.old_are ∙ rest-old c r whole)
        ∙ partner-left (w.front ++ w.gone) (pushed w.old_end c) (map (pushed w.old_end) r) (old-before c r whole) free

    new-left : partner_of (map block_in edit.new) (line_of_block (pushed w.new_end c)) ≡ left_partner None (w.front ++ w.come) (pushed w.new_end c)
    new-left =
        ap (λ (l : List PlacedBlock). partner_of l (line_of_block (pushed w.new_end c))) (it.new_are ∙ rest-new c r whole)
        ∙ partner-left (w.front ++ w.come) (pushed w.new_end c) (map (pushed w.new_end) r) (new-before c r whole) free

    pub rest-changes : IsSome w → (joined_by (last_block (w.front ++ w.gone)) (Some c) || joined_by (last_block (w.front ++ w.come)) (Some c)) ≡ true
        → (changes_partner edit (line_of_block (pushed w.old_end c)) ≡ true) ⊎ ((joins w.gone (c ∷ []) ≡ true) × (joins w.come (c ∷ []) ≡ true))
    rest-changes some joined =
        elim (rest-cases edit c w.front w.gone w.come w.old_end w.new_end some joined
        (λ x y gone front. differ-at edit (line_of_block x) (line_of_block y) (λ side same.
        let above = (last-all (StandsIn edit.from edit.old_to) w.gone x it.gone gone).above in
        let low = last-low y front in
        let past = it.was_past in
        let begin = it.begin in
        elim side [
          | inl less ↦ omega (arith, less, above)
          | inr high ↦ let here = after-behind edit.range (line_of_block x) (omega (arith, high, past)) in omega (arith, here, same, low, begin, high, past)
        ]))
        (λ x y front come. differ-at edit (line_of_block x) (line_of_block y) (λ side same.
        let above = (last-all (StandsIn edit.from edit.new_to) w.come y it.come come).above in
        let low = last-low x front in
        let begin = it.begin in
        let here = after-front edit.range (line_of_block x) (omega (arith, low, begin)) in
        omega (arith, here, same, low, above)))) [
          | inl differ ↦
              inl (ap₂ (λ a b. not (is_same_partner edit a b)) old-left (ap (partner_of (map block_in edit.new)) (rest-line c) ∙ new-left) ∙ ap not differ)
          | inr both ↦ inr both
        ]
      where
        last-low : (y : PlacedBlock) → last_block w.front ≡ Some y → line_of_block y < edit.from
        last-low y is = by w.front refl is
          where
            by : (front : List PlacedBlock) → w.front ≡ front → last_block front ≡ Some y → line_of_block y < edit.from
            by [] same is = absurd (let bad : ⊥ = cc (is) in bad)
            by (block ∷ blocks) same is =
                let l = last-one block blocks in
                let one : l.one ≡ y = cc (l.is, is) in
                subst (λ b. line_of_block b < edit.from) one (end-low l.before l.one (same ∙ l.whole))
              where
                end-low : (xs : List PlacedBlock) (f : PlacedBlock) → w.front ≡ xs ++ f ∷ [] → line_of_block f < edit.from
                end-low xs f is =
                    let cut : old_blocks w ≡ xs ++ f ∷ (w.gone ++ map (pushed w.old_end) w.rest) =
                    ap (λ (l : List PlacedBlock). l ++ (w.gone ++ map (pushed w.old_end) w.rest)) is ∙ append_assoc xs (f ∷ []) (w.gone ++ map (pushed w.old_end) w.rest) in
                    let some = rise-some 0 it.old_high xs f (w.gone ++ map (pushed w.old_end) w.rest) (subst (Rise placed_from placed_to 0 it.old_high) cut it.old_rise) in
                    let ends = All-head (EndsBy edit.from) f [] (All-back (EndsBy edit.from) xs (f ∷ []) (subst (All (EndsBy edit.from)) is it.front)) in
                    omega (arith, some, ends)
