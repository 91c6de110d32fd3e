use Rattle.std.proofs.Common.{◌≡◌, ℕ, ◌+◌, ◌<◌, true, false, List, ◌∷◌, length, drop, get_or, sym, ap, ◌∙◌, arith}
use Rattle.std.proofs.lemmas.Grind.{common_steps}
use Rattle.std.proofs.lemmas.Option.{slice_get-get_or}
use Rattle.spec_text.specs.Lines.{line_texts}
use Rattle.spec_script.specs.Stanzas.{PlacedBlock}
use Rattle.spec_script.specs.Elements.{is_dual}
use Rattle.spec_script.proofs.BlockPlaces.{PlacesRise-order}
use Rattle.spec_pages.specs.declared.Side.TheVariants as sides
use Rattle.sp_layout.specs.LaidOut.{spoken_block, spoken_beside}
use Rattle.sp_layout.specs.Speaking.{SpeakersOf, speakers_behind}
use Rattle.sp_layout.proofs.Elements.{elements_behind, goes_on, split-alone, split-pair}
use Rattle.sp_layout.proofs.layout.add_element.Goals.{else-place-blocks-via-then-place-blocks+else-is_dual, else-place-blocks-via-else-place-blocks}
use Rattle.sp_layout.proofs.layout.add_element.Goals as goal

-- Two blocks read at one place are the same.
same-at : (blocks : List PlacedBlock) (place : ℕ) (one other : PlacedBlock) → place < length blocks → one ≡ get_or blocks place one → other ≡ get_or blocks place other → one ≡ other
same-at blocks place one other inside is at =
    let a = slice_get-get_or blocks place one inside in
    let b = slice_get-get_or blocks place other inside in
    cc

pub add_pair-requires-clause-order : goal.add_pair-requires-clause-order
add_pair-requires-clause-order c =
    let left = c.index-blocks-place.result in
    let right = c.index-blocks-place-then-is_dual.result in
    let order = PlacesRise-order 0 c.args.blocks.now c.args.place left right c.requires.rise (omega arith) in
    let a = ap (λ (placed : PlacedBlock). placed.first) c.index-blocks-place.is in
    let b = ap (λ (placed : PlacedBlock). placed.first) c.index-blocks-place-then-is_dual.is in
    omega (arith, order, a, b)

pub returns-then-is_dual : goal.returns-then-is_dual
returns-then-is_dual c =
    let lines = c.args.lines.now.lines in
    let blocks = c.args.blocks.now in
    let place = c.args.place in
    let left = c.index-blocks-place.result in
    let right = c.index-blocks-place-then-is_dual.result in
    let same = same-at blocks (place + 1) c.index-blocks-place-then-place-blocks.result right (omega arith) c.index-blocks-place-then-place-blocks.is c.index-blocks-place-then-is_dual.is in
    let dual : is_dual left right ≡ true = ap (is_dual left) (sym same) ∙ sym c.is_dual.ensures ∙ c.if-is_dual.true in
    let continued = c.in_ok-continued.continued in
    let second_continued = c.in_ok-second_continued.second_continued in
    let one = c.in_ok-continued.ensures in
    let other = c.in_ok-second_continued.ensures in
    let texts = line_texts lines in
    let old = c.args.speakers.now in
    let between = c.pass.new.self in
    record {
      element = spoken_beside left continued right second_continued;
      split = split-pair lines blocks place old left right continued second_continued (omega arith) c.index-blocks-place.is c.index-blocks-place-then-is_dual.is dual one.goes_on
          (other.goes_on ∙ ap (λ (speakers : SpeakersOf). goes_on lines sides.Right speakers right) one.behind)
          ∙ ap (λ (speakers : SpeakersOf). spoken_beside left continued right second_continued ∷ elements_behind lines speakers (drop (place + 2) blocks))
          (sym (other.behind ∙ ap (λ (speakers : SpeakersOf). speakers_behind texts speakers right) one.behind));
      adds = c.in_ok-add_pair.ensures;
      past = omega arith;
      within = omega arith;
    }

pub returns : goal.returns
returns c =
    let lines = c.args.lines.now.lines in
    let blocks = c.args.blocks.now in
    let place = c.args.place in
    let block = c.index-blocks-place.result in
    let continued = c.in_ok-continued-2.continued in
    let one = c.in_ok-continued-2.ensures in
    let apart : (next : PlacedBlock) → place + 1 < length blocks → next ≡ get_or blocks (place + 1) next → is_dual block next ≡ false = λ next inside at.
    elim c.else-place-blocks.branch [
      | else-place-blocks-via-then-place-blocks+else-is_dual w ↦ (
          let same = same-at blocks (place + 1) w.index-blocks-place-then-place-blocks.result next inside w.index-blocks-place-then-place-blocks.is at in
          ap (is_dual block) (sym same) ∙ sym w.is_dual.ensures ∙ w.if-is_dual.false
          )
      | else-place-blocks-via-else-place-blocks w ↦ absurd (omega (arith, w.if-place-blocks.false, inside))
    ] in
    record {
      element = spoken_block block continued;
      split = split-alone lines blocks place c.args.speakers.now block continued c.requires.inside c.index-blocks-place.is apart one.goes_on
          ∙ ap (λ (speakers : SpeakersOf). spoken_block block continued ∷ elements_behind lines speakers (drop (place + 1) blocks)) (sym one.behind);
      adds = c.in_ok-add_block.ensures;
      past = omega arith;
      within = omega (arith, c.requires.inside);
    }

pub add_pair-requires-clause-left : goal.add_pair-requires-clause-left
add_pair-requires-clause-left c = grind (arith, common_steps)

pub add_pair-requires-clause-right : goal.add_pair-requires-clause-right
add_pair-requires-clause-right c = grind (arith, common_steps)

pub add_pair-requires-clause-dual : goal.add_pair-requires-clause-dual
add_pair-requires-clause-dual c = grind (arith, common_steps)

pub add_block-requires : goal.add_block-requires
add_block-requires c = grind (arith, common_steps)
