use Rattle.std.proofs.Common.{rules, sym}
use Rattle.sp_sheets.proofs.SheetMoves.{greatest-none}
use Rattle.sp_sheets.proofs.numbered.round_of.Goals as goal

pub returns-then-is_marked : goal.returns-then-is_marked
returns-then-is_marked c = search rules

pub returns-else-is_marked : goal.returns-else-is_marked
returns-else-is_marked c = sym (greatest-none c.args.marks.now.items c.args.start c.args.end (c.requires.unmarked c.if-is_marked.false))
