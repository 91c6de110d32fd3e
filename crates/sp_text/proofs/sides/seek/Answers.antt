use Rattle.spec_text.specs.Edits.{line_ids}
use Rattle.sp_text.proofs.Moves.{Indexes-back, Indexes-turned, turned-whole}
use Rattle.sp_text.proofs.sides.seek.Goals as goal

pub move_told-requires-clause-index : goal.move_told-requires-clause-index
move_told-requires-clause-index c = Indexes-back (line_ids c.args.front.now.items) (line_ids c.args.back.now.items) c.args.index.now c.requires.index

pub returns-then-first-stands-clause-index : goal.returns-then-first-stands-clause-index
returns-then-first-stands-clause-index c = Indexes-turned (line_ids c.move_told.new.from.items) (line_ids c.move_told.new.to.items) c.move_told.new.index c.move_told.ensures.index

pub returns-then-first-stands-clause-lines : goal.returns-then-first-stands-clause-lines
returns-then-first-stands-clause-lines c =
    turned-whole c.args.front.now.items c.args.back.now.items c.move_told.new.from.items c.move_told.new.to.items c.move_told.ensures.lines
