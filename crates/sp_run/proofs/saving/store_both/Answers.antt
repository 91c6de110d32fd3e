use Rattle.sp_run.specs.Saving.{TwoFiles}
use Rattle.sp_run.proofs.TwoStores.{first-failed, second-tried}
use Rattle.sp_run.proofs.saving.store_both.Goals as goal

pub returns-in-Ok : goal.returns-in-Ok
returns-in-Ok g c =
    let it : TwoFiles = record { name = c.args.name.now; bytes = c.args.text.now; beside = c.args.beside.now; records = c.args.records.now } in
    second-tried it c.requires (g.F.Shelf.state c.args.shelf.now) (g.F.Shelf.state c.store.new.self) (g.F.Shelf.state c.store-in-Ok.new.self) c.store-in-Ok.result
    c.in-Ok.ensures.leaves c.in-Ok.ensures.cause c.store.ensures.asks c.store-in-Ok.ensures.leaves c.store-in-Ok.ensures.cause c.store-in-Ok.ensures.asks

pub returns-in-Err : goal.returns-in-Err
returns-in-Err g c =
    let it : TwoFiles = record { name = c.args.name.now; bytes = c.args.text.now; beside = c.args.beside.now; records = c.args.records.now } in
    first-failed it c.requires (g.F.Shelf.state c.args.shelf.now) (g.F.Shelf.state c.store.new.self) c.in-Err.fault c.in-Err.ensures.leaves c.in-Err.ensures.cause c.store.ensures.asks
