use Rattle.std.proofs.Common.{ℕ, ◌+◌, ◌++◌, length, map, filter, drop, sym, ap, ◌∙◌, arith}
use Rattle.spec_text.specs.Lines.{line_texts}
use Rattle.spec_state.specs.Headings.{is_heading_block}
use Rattle.spec_machine.specs.Outlines.{headings_behind}
use Rattle.sp_outline.specs.Entries.{entry_of}
use Rattle.sp_contents.specs.Walks.{omitted_of}
use Rattle.sp_contents.proofs.EntryLaws.{entries-end}
use Rattle.sp_contents.proofs.Pushes.{entries-step, heading-inside, headings-next}
use Rattle.sp_contents.proofs.entries.entries_of.Goals as goal

pub returns : goal.returns
returns c =
    let scenes = c.args.scenes.now in
    let entries = c.loop-placed.entries.items in
    let p = c.loop-placed.walk.gone in
    let in_loop = c.loop-placed.invariant in
    entries-end scenes (line_texts c.args.lines.now.lines) c.args.blocks.now entries c.add_gone.new.entries.items c.loop-placed.walk.headings p c.loop-placed.placed-index (omega arith) in_loop.entries in_loop.count in_loop.walked
    (c.in_ok-add_gone.ensures ∙ ap (λ gone. map entry_of entries ++ map omitted_of gone) (c.gone_from.ensures ∙ ap (drop p) c.gone_in.ensures))

pub add_block-requires-clause-inside : goal.add_block-requires-clause-inside
add_block-requires-clause-inside c = λ heading.
    heading-inside c.args.blocks.now c.loop-placed.placed-index c.loop-placed.walk.headings (length c.args.scenes.now.labels) c.placed-item.result c.loop-placed-test.true
    (ap is_heading_block (sym c.placed-item.is) ∙ heading) c.loop-placed.invariant.count

pub loop-placed-preserved : goal.loop-placed-preserved
loop-placed-preserved c =
    let blocks = c.args.blocks.now in
    let i = c.loop-placed.placed-index in
    let placed = c.placed-item.result in
    let h = c.loop-placed.walk.headings in
    let inside = c.loop-placed-test.true in
    let adds = c.in_ok-walk.ensures in
    let in_loop = c.loop-placed.invariant in
    record {
      entries = entries-step c.args.scenes.now (line_texts c.args.lines.now.lines) blocks i placed h _ _ _ _ inside c.placed-item.is adds.entries adds.headings_are in_loop.entries;
      count = ap (λ (n : ℕ). n + length (filter is_heading_block (drop (i + 1) blocks))) (adds.headings_are ∙ ap (headings_behind h) c.placed-item.is) ∙ sym (headings-next blocks i h placed inside) ∙ in_loop.count;
      walked = adds.walked;
    }
