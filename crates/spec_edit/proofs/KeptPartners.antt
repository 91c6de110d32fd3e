-- The blocks outside a window that aren't relaid have the partners that they had.
use Rattle.std.proofs.Common.{◌≡◌, ℕ, ◌<◌, ◌==◌, Bool, true, false, not, ◌&&◌, cond, ltb, leb, Option, Some, None, List, [], ◌∷◌, ◌++◌, map, inl, inr, refl, sym, ap, ap₂, subst, ◌∙◌, arith}
use Rattle.std.specs.Prelude.{All}
use Rattle.std.proofs.lemmas.Bool.{cases_Bool, and_parts, true≢false, eq-eqb, lt-leb, le-ltb}
use Rattle.std.proofs.lemmas.List.{append_assoc, append-nil, map-append}
use Rattle.std.proofs.lemmas.List.Elements.{All-nil, All-cons, All-head, All-tail}
use Rattle.spec_text.specs.Ranges.{place_after}
use Rattle.spec_text.proofs.ListLaws.{All-front, All-back}
use Rattle.spec_script.specs.BlockParts.{Rise}
use Rattle.spec_script.specs.Stanzas.{PlacedBlock}
use Rattle.spec_script.specs.Elements.{line_of_block, is_dual}
use Rattle.spec_sheets.proofs.ElementPlaces.{placed_from, placed_to}
use Rattle.spec_edit.specs.WindowBlocks.{pushed, WindowBlocks, old_blocks, new_blocks, is_nil, joined_by, last_block, first_block, joins, front_relaid, rest_relaid}
use Rattle.spec_edit.specs.Touched.{partner_of, EditBlocks, block_in, is_same_partner, changes_partner}
use Rattle.spec_edit.proofs.ElementMoves.{after-front}
use Rattle.spec_edit.proofs.WindowSides.{EndsBy}
use Rattle.spec_edit.proofs.RelaidElements.{joins-pushed, front-apart, both-apart}
use Rattle.spec_edit.proofs.Partners.{left_partner, partner_at, partner-found, rise-before}
use Rattle.spec_edit.proofs.PartnerCases.{by_last, left-by, last-behind, last-one}
use Rattle.spec_edit.proofs.WindowPartners.{Around, rest-line}

abbrev Same : EditBlocks → Option ℕ → Option ℕ → Type 0
Same edit one other = is_same_partner edit one other ≡ true

pub nil-is : (blocks : List PlacedBlock) → is_nil blocks ≡ true → blocks ≡ []
nil-is [] h = refl
nil-is (block ∷ blocks) h = absurd (true≢false (sym h))

-- A block that isn't joined with the next one has the partner before it, if any.
at-apart : (before : Option ℕ) (block : PlacedBlock) (back : List PlacedBlock) → joined_by (Some block) (first_block back) ≡ false → partner_at before block back ≡ before
at-apart before block [] h = refl
at-apart before block (next ∷ back) h = ap (λ b. cond b (Some (line_of_block next)) before) h

by-apart : (n : ℕ) (o : Option PlacedBlock) (block : PlacedBlock) → joined_by o (Some block) ≡ false → by_last o (pushed n block) ≡ None
by-apart n None block h = refl
by-apart n (Some one) block h = ap (λ b. cond b (Some (line_of_block one)) None) h

-- Two partners that there are, or aren't, together.
same-if : (edit : EditBlocks) (b : Bool) (p q : ℕ) (one other : Option ℕ) → Same edit (Some p) (Some q) → Same edit one other → Same edit (cond b (Some p) one) (cond b (Some q) other)
same-if edit true p q one other here else = here
same-if edit false p q one other here else = else

abbrev pub StartsBefore : EditBlocks → PlacedBlock → Type 0
StartsBefore edit placed = line_of_block placed < edit.from

module _ (edit : EditBlocks) (w : WindowBlocks) (it : Around edit w) where
  starts-from : (low high : ℕ) (blocks more : List PlacedBlock) → Rise placed_from placed_to low high (blocks ++ more) → All (EndsBy edit.from) blocks → All (StartsBefore edit) blocks
  starts-from low high [] more rise ends = All-nil (StartsBefore edit)
  starts-from low high (block ∷ blocks) more rise ends =
      let end = All-head (EndsBy edit.from) block blocks ends in
      let some = rise.1 in
      All-cons (StartsBefore edit) block blocks (omega (arith, some, end)) (starts-from (placed_to block) high blocks more rise.2 (All-tail (EndsBy edit.from) block blocks ends))

  pub front-starts : All (StartsBefore edit) w.front
  front-starts = starts-from 0 it.old_high w.front (w.gone ++ map (pushed w.old_end) w.rest) it.old_rise it.front

  pub line-stays : (placed : PlacedBlock) → StartsBefore edit placed → place_after edit.range (line_of_block placed) ≡ line_of_block placed
  line-stays placed low = after-front edit.range (line_of_block placed) (let x = it.begin in omega (arith, x, low))

  -- A block before the window, or behind it, is the same partner in both texts.
  same-front : (placed : PlacedBlock) → StartsBefore edit placed → Same edit (Some (line_of_block placed)) (Some (line_of_block placed))
  same-front placed low =
      let line = line_of_block placed in
      ap (λ b. not (b && ltb line edit.old_to) && (place_after edit.range line == line)) (lt-leb edit.from line low)
      ∙ eq-eqb (place_after edit.range line) line (line-stays placed low)

  same-rest : (placed : PlacedBlock) → Same edit (Some (line_of_block (pushed w.old_end placed))) (Some (line_of_block (pushed w.new_end placed)))
  same-rest placed =
      let line = line_of_block (pushed w.old_end placed) in
      let other = line_of_block (pushed w.new_end placed) in
      ap (λ b. not (leb edit.from line && b) && (place_after edit.range line == other)) (le-ltb line edit.old_to (let x = it.old_end in omega (arith, x)))
      ∙ ap (λ b. not b && (place_after edit.range line == other)) (none (leb edit.from line))
      ∙ eq-eqb (place_after edit.range line) other (rest-line edit w it placed)
    where
      none : (b : Bool) → (b && false) ≡ false
      none true = refl
      none false = refl

  same-left : (front : List PlacedBlock) (block : PlacedBlock) → All (StartsBefore edit) front → Same edit (left_partner None front block) (left_partner None front block)
  same-left [] block all = refl
  same-left (one ∷ []) block all =
      same-if edit (is_dual one block) (line_of_block one) (line_of_block one) None None (same-front one (All-head (StartsBefore edit) one [] all)) refl
  same-left (one ∷ next ∷ front) block all = same-left (next ∷ front) block (All-tail (StartsBefore edit) one (next ∷ front) all)

  -- The partner of a block in front, by what stands behind it.
  partner-in : (blocks all xs back : List PlacedBlock) (block : PlacedBlock) (high : ℕ) → blocks ≡ all → all ≡ xs ++ block ∷ back → Rise placed_from placed_to 0 high all
      → partner_of blocks (line_of_block block) ≡ partner_at (left_partner None xs block) block back
  partner-in blocks all xs back block high are whole rise =
      ap (λ (l : List PlacedBlock). partner_of l (line_of_block block)) (are ∙ whole)
      ∙ partner-found xs block back (rise-before 0 high xs block back (subst (Rise placed_from placed_to 0 high) whole rise))

  front-cut : (xs : List PlacedBlock) (block : PlacedBlock) (ys more : List PlacedBlock) → w.front ≡ xs ++ block ∷ ys → w.front ++ more ≡ xs ++ block ∷ (ys ++ more)
  front-cut xs block ys more is = ap (λ (l : List PlacedBlock). l ++ more) is ∙ append_assoc xs (block ∷ ys) more

  -- A block before the window keeps its partner, but the last one where it is relaid.
  pub front-keeps : (xs : List PlacedBlock) (block : PlacedBlock) (ys : List PlacedBlock) → w.front ≡ xs ++ block ∷ ys → (ys ≡ [] → front_relaid w ≡ false) → changes_partner edit (line_of_block block) ≡ false
  front-keeps xs block ys is apart =
      ap not
      (ap₂ (is_same_partner edit)
      (partner-in (map block_in edit.old) (old_blocks w) xs (ys ++ gone) block it.old_high it.old_are (front-cut xs block ys gone is) it.old_rise)
      (ap (partner_of (map block_in edit.new)) (line-stays block low)
      ∙ partner-in (map block_in edit.new) (new_blocks w) xs (ys ++ come) block it.new_high it.new_are (front-cut xs block ys come is) it.new_rise)
      ∙ by ys is apart)
    where
      gone : List PlacedBlock
      gone = w.gone ++ map (pushed w.old_end) w.rest

      come : List PlacedBlock
      come = w.come ++ map (pushed w.new_end) w.rest

      before : Option ℕ
      before = left_partner None xs block

      cut : All (StartsBefore edit) (xs ++ block ∷ ys)
      cut = subst (All (StartsBefore edit)) is front-starts

      later : All (StartsBefore edit) (block ∷ ys)
      later = All-back (StartsBefore edit) xs (block ∷ ys) cut

      low : StartsBefore edit block
      low = All-head (StartsBefore edit) block ys later

      left : Same edit before before
      left = same-left xs block (All-front (StartsBefore edit) xs (block ∷ ys) cut)

      moved : (rest : List PlacedBlock) → Same edit (partner_at before block (map (pushed w.old_end) rest)) (partner_at before block (map (pushed w.new_end) rest))
      moved [] = left
      moved (next ∷ rest) = same-if edit (is_dual block next) (line_of_block (pushed w.old_end next)) (line_of_block (pushed w.new_end next)) before before (same-rest next) left

      last : w.front ≡ xs ++ block ∷ [] → (window : List PlacedBlock) (n : ℕ) → joins w.front (window ++ w.rest) ≡ false → partner_at before block (window ++ map (pushed n) w.rest) ≡ before
      last ends window n h =
          at-apart before block (window ++ map (pushed n) w.rest)
          (ap (λ o. joined_by o (first_block (window ++ map (pushed n) w.rest))) (sym (ap last_block ends ∙ last-behind xs block []))
          ∙ joins-pushed n w.front window w.rest ∙ h)

      by : (ys : List PlacedBlock) → w.front ≡ xs ++ block ∷ ys → (ys ≡ [] → front_relaid w ≡ false) → Same edit (partner_at before block (ys ++ gone)) (partner_at before block (ys ++ come))
      by (next ∷ ys) ends apart =
          let there = All-back (StartsBefore edit) xs (block ∷ next ∷ ys) (subst (All (StartsBefore edit)) ends front-starts) in
          let low_next = All-head (StartsBefore edit) next ys (All-tail (StartsBefore edit) block (next ∷ ys) there) in
          same-if edit (is_dual block next) (line_of_block next) (line_of_block next) before before (same-front next low_next) left
      by [] ends apart = elim (cases_Bool (is_nil w.gone && is_nil w.come)) [
        | inl none ↦
            let both = and_parts (is_nil w.gone) (is_nil w.come) none in
            subst (λ (l : List PlacedBlock). Same edit (partner_at before block (l ++ map (pushed w.old_end) w.rest)) (partner_at before block come)) (sym (nil-is w.gone both.0))
            (subst (λ (l : List PlacedBlock). Same edit (partner_at before block (map (pushed w.old_end) w.rest)) (partner_at before block (l ++ map (pushed w.new_end) w.rest))) (sym (nil-is w.come both.1)) (moved w.rest))
        | inr some ↦
            let free = front-apart w some (apart refl) in
            ap₂ (is_same_partner edit) (last ends w.gone w.old_end free.0) (last ends w.come w.new_end free.1) ∙ left
      ]

  -- A block behind the window keeps its partner, but the first one where it is relaid.
  pub rest-keeps : (zs : List PlacedBlock) (block : PlacedBlock) (ys : List PlacedBlock) → w.rest ≡ zs ++ block ∷ ys → (zs ≡ [] → rest_relaid w ≡ false)
      → changes_partner edit (line_of_block (pushed w.old_end block)) ≡ false
  rest-keeps zs block ys is apart =
      ap not
      (ap₂ (is_same_partner edit)
      (partner-in (map block_in edit.old) (old_blocks w) (ahead w.gone w.old_end) (map (pushed w.old_end) ys) (pushed w.old_end block) it.old_high it.old_are (cut w.gone w.old_end) it.old_rise)
      (ap (partner_of (map block_in edit.new)) (rest-line edit w it block)
      ∙ partner-in (map block_in edit.new) (new_blocks w) (ahead w.come w.new_end) (map (pushed w.new_end) ys) (pushed w.new_end block) it.new_high it.new_are (cut w.come w.new_end) it.new_rise)
      ∙ behind ys)
    where
      ahead : List PlacedBlock → ℕ → List PlacedBlock
      ahead window n = (w.front ++ window) ++ map (pushed n) zs

      cut : (window : List PlacedBlock) (n : ℕ) → w.front ++ (window ++ map (pushed n) w.rest) ≡ ahead window n ++ pushed n block ∷ map (pushed n) ys
      cut window n =
          ap (λ (l : List PlacedBlock). w.front ++ (window ++ l)) (ap (map (pushed n)) is ∙ map-append (pushed n) zs (block ∷ ys))
          ∙ sym (append_assoc w.front window (map (pushed n) zs ++ pushed n block ∷ map (pushed n) ys))
          ∙ sym (append_assoc (w.front ++ window) (map (pushed n) zs) (pushed n block ∷ map (pushed n) ys))

      -- The last block before it, in both texts.
      by-same : (o : Option PlacedBlock) → ((one : PlacedBlock) → o ≡ Some one → StartsBefore edit one) → Same edit (by_last o (pushed w.old_end block)) (by_last o (pushed w.new_end block))
      by-same None low = refl
      by-same (Some one) low = same-if edit (is_dual one block) (line_of_block one) (line_of_block one) None None (same-front one (low one refl)) refl

      front-last : (front : List PlacedBlock) → All (StartsBefore edit) front → (one : PlacedBlock) → last_block front ≡ Some one → StartsBefore edit one
      front-last [] all one h = absurd (let bad : ⊥ = cc (h) in bad)
      front-last (x ∷ []) all one h = subst (StartsBefore edit) (let same : x ≡ one = cc (h) in same) (All-head (StartsBefore edit) x [] all)
      front-last (x ∷ y ∷ front) all one h = front-last (y ∷ front) (All-tail (StartsBefore edit) x (y ∷ front) all) one h

      last-joins : (window : List PlacedBlock) (n : ℕ) → zs ≡ [] → joins (w.front ++ window) w.rest ≡ false → by_last (last_block (w.front ++ window)) (pushed n block) ≡ None
      last-joins window n nil h =
          by-apart n (last_block (w.front ++ window)) block
          (sym (ap (λ (l : List PlacedBlock). joined_by (last_block (w.front ++ window)) (first_block l)) (is ∙ ap (λ (l : List PlacedBlock). l ++ block ∷ ys) nil)) ∙ h)

      first : zs ≡ [] → Same edit (by_last (last_block (w.front ++ w.gone)) (pushed w.old_end block)) (by_last (last_block (w.front ++ w.come)) (pushed w.new_end block))
      first nil = elim (cases_Bool (is_nil w.gone && is_nil w.come)) [
        | inl none ↦
            let both = and_parts (is_nil w.gone) (is_nil w.come) none in
            let only : (window : List PlacedBlock) → window ≡ [] → last_block (w.front ++ window) ≡ last_block w.front =
            λ window h. ap (λ (l : List PlacedBlock). last_block (w.front ++ l)) h ∙ ap last_block (append-nil w.front) in
            ap₂ (λ (one other : Option PlacedBlock). is_same_partner edit (by_last one (pushed w.old_end block)) (by_last other (pushed w.new_end block)))
            (only w.gone (nil-is w.gone both.0)) (only w.come (nil-is w.come both.1))
            ∙ by-same (last_block w.front) (front-last w.front front-starts)
        | inr some ↦
            let free = both-apart w some (apart nil) in
            ap₂ (is_same_partner edit) (last-joins w.gone w.old_end nil free.0) (last-joins w.come w.new_end nil free.1)
      ]

      -- Where one stands between the window and it.
      next-left : (window : List PlacedBlock) (n : ℕ) (xs : List PlacedBlock) (one : PlacedBlock) → last_block ((w.front ++ window) ++ map (pushed n) (xs ++ one ∷ [])) ≡ Some (pushed n one)
      next-left window n xs one =
          ap last_block (ap (λ (l : List PlacedBlock). (w.front ++ window) ++ l) (map-append (pushed n) xs (one ∷ [])) ∙ sym (append_assoc (w.front ++ window) (map (pushed n) xs) (pushed n one ∷ [])))
          ∙ last-behind ((w.front ++ window) ++ map (pushed n) xs) (pushed n one) []

      last-of : (those : List PlacedBlock) → zs ≡ those
          → Same edit (by_last (last_block ((w.front ++ w.gone) ++ map (pushed w.old_end) those)) (pushed w.old_end block)) (by_last (last_block ((w.front ++ w.come) ++ map (pushed w.new_end) those)) (pushed w.new_end block))
      last-of [] are =
          ap₂ (λ (a b : List PlacedBlock). is_same_partner edit (by_last (last_block a) (pushed w.old_end block)) (by_last (last_block b) (pushed w.new_end block))) (append-nil (w.front ++ w.gone)) (append-nil (w.front ++ w.come))
          ∙ first are
      last-of (z ∷ those) are =
          let l = last-one z those in
          ap₂ (λ (a b : Option PlacedBlock). is_same_partner edit (by_last a (pushed w.old_end block)) (by_last b (pushed w.new_end block)))
          (ap (λ (k : List PlacedBlock). last_block ((w.front ++ w.gone) ++ map (pushed w.old_end) k)) l.whole ∙ next-left w.gone w.old_end l.before l.one)
          (ap (λ (k : List PlacedBlock). last_block ((w.front ++ w.come) ++ map (pushed w.new_end) k)) l.whole ∙ next-left w.come w.new_end l.before l.one)
          ∙ same-if edit (is_dual l.one block) (line_of_block (pushed w.old_end l.one)) (line_of_block (pushed w.new_end l.one)) None None (same-rest l.one) refl

      left : Same edit (left_partner None (ahead w.gone w.old_end) (pushed w.old_end block)) (left_partner None (ahead w.come w.new_end) (pushed w.new_end block))
      left =
          ap₂ (is_same_partner edit) (left-by (ahead w.gone w.old_end) (pushed w.old_end block)) (left-by (ahead w.come w.new_end) (pushed w.new_end block))
          ∙ last-of zs refl

      behind : (ys : List PlacedBlock)
          → Same edit (partner_at (left_partner None (ahead w.gone w.old_end) (pushed w.old_end block)) (pushed w.old_end block) (map (pushed w.old_end) ys))
          (partner_at (left_partner None (ahead w.come w.new_end) (pushed w.new_end block)) (pushed w.new_end block) (map (pushed w.new_end) ys))
      behind [] = left
      behind (next ∷ ys) =
          same-if edit (is_dual block next) (line_of_block (pushed w.old_end next)) (line_of_block (pushed w.new_end next))
          (left_partner None (ahead w.gone w.old_end) (pushed w.old_end block)) (left_partner None (ahead w.come w.new_end) (pushed w.new_end block)) (same-rest next) left
