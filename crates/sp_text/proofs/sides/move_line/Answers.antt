use Rattle.std.proofs.Common.{ap, ◌∙◌}
use Rattle.spec_text.specs.Lines.{LineState}
use Rattle.sp_text.proofs.Moves.{known-line, line-moved, moved-whole}
use Rattle.sp_text.proofs.sides.move_line.Goals as goal

pub tell-place-requires-clause-known : goal.tell-place-requires-clause-known
tell-place-requires-clause-known c =
    known-line c.args.side c.args.to.now.items c.take_last-line.new.self.items c.args.from.now.items c.take_last-line.result _ c.args.index.now (ap (λ (l : LineState). l.id) c.line.view_is) c.take_last-line.ensures.items c.requires.index

pub returns-clause-index : goal.returns-clause-index
returns-clause-index c =
    line-moved c.args.side c.args.to.now.items c.push_reserved.new.self.items c.take_last-line.new.self.items c.args.from.now.items c.take_last-line.result _ c.args.index.now c.tell-place.new.self c.tell-place.result c.len.result (ap (λ (l : LineState). l.id) c.line.view_is) c.take_last-line.ensures.items c.push_reserved.ensures.items c.requires.index c.tell-place.ensures.found (c.len.ensures ∙ c.args.to.now.ok.0) c.tell-place.ensures.told

pub returns-clause-lines : goal.returns-clause-lines
returns-clause-lines c =
    moved-whole c.args.to.now.items c.push_reserved.new.self.items c.take_last-line.new.self.items c.args.from.now.items c.take_last-line.result c.take_last-line.ensures.items c.push_reserved.ensures.items
