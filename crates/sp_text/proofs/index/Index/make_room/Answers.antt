use Rattle.spec_text.specs.Edits.{line_ids}
use Rattle.sp_text.proofs.Entries.{Indexes-differ}
use Rattle.sp_text.proofs.index.Index.make_room.Goals as goal

pub grow-requires-clause-distinct : goal.grow-requires-clause-distinct
grow-requires-clause-distinct c = Indexes-differ (line_ids c.args.front.now) (line_ids c.args.back.now) c.args.self.now c.requires.indexes
