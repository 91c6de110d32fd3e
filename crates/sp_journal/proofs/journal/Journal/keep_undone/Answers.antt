use Rattle.std.proofs.Common.{arith}
use Rattle.sp_journal.proofs.Queues.{kept}
use Rattle.sp_journal.proofs.journal.Journal.keep_undone.Goals as goal

pub returns : goal.returns
returns g c =
    let put = c.push_front_reserved.ensures in
    kept c.self.inside.undone c.self.inside.entries.items c.push_front_reserved.new.self.items c.args.entry _ _ c.args.self.now c.self.view_is put.items (omega (arith, put.len, put.capacity))
