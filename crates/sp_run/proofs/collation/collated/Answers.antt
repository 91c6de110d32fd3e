use Rattle.spec_packet.specs.BytesCollated.{collated_bytes}
use Rattle.sp_run.specs.Collating.{NotCollated}
use Rattle.sp_run.specs.Statuses.{status_of_sheets}
use Rattle.sp_run.proofs.Asked.{both-ask, collated-err, first-asks, sheets-asked}
use Rattle.sp_run.proofs.OpenedStates.{err-is}
use Rattle.sp_run.proofs.Collations.{both-come, collation-refused, first-refused, second-refused}
use Rattle.sp_run.proofs.collation.collated.Goals as goal

pub returns-in_err-first-clause-refused : goal.returns-in_err-first-clause-refused
returns-in_err-first-clause-refused g c =
    let shelf = g.F.Shelf.state c.args.shelf.now in
    let after = g.F.Shelf.state c.fetch_file.new.shelf in
    let status = c.in_err-first.field-0.0 in
    err-is (NotCollated c.args.old.now c.args.new.now shelf after) status c.from_residual.result c.from_residual.ensures.1
    (first-refused c.args.old.now c.args.new.now shelf after status c.in_err-first.ensures.refused)

pub returns-in_err-second-clause-refused : goal.returns-in_err-second-clause-refused
returns-in_err-second-clause-refused g c =
    let shelf = g.F.Shelf.state c.args.shelf.now in
    let between = g.F.Shelf.state c.fetch_file.new.shelf in
    let after = g.F.Shelf.state c.fetch_file-2.new.shelf in
    let status = c.in_err-second.field-0.0 in
    err-is (NotCollated c.args.old.now c.args.new.now shelf after) status c.from_residual-in_err-second.result c.from_residual-in_err-second.ensures.1
    (second-refused c.args.old.now c.args.new.now shelf between after c.in_ok-first.first.items status c.in_ok-first.ensures.given c.in_err-second.ensures.refused)

pub returns-in_err-collate-clause-refused : goal.returns-in_err-collate-clause-refused
returns-in_err-collate-clause-refused g c =
    let shelf = g.F.Shelf.state c.args.shelf.now in
    let between = g.F.Shelf.state c.fetch_file.new.shelf in
    let after = g.F.Shelf.state c.fetch_file-2.new.shelf in
    let fault = c.in_err-collate.field-0.0 in
    err-is (NotCollated c.args.old.now c.args.new.now shelf after) (status_of_sheets fault) c.from_residual-in_err-collate.result c.from_residual-in_err-collate.ensures.1
    (collation-refused c.args.old.now c.args.new.now shelf between after c.in_ok-first.first.items c.in_ok-second.second.items c.deref.result.now c.deref-2.result.now fault
    c.in_ok-first.ensures.given c.in_ok-second.ensures.given c.deref.ensures.value c.deref-2.ensures.value c.in_err-collate.ensures.refused)

pub returns-clause-comes : goal.returns-clause-comes
returns-clause-comes g c =
    let shelf = g.F.Shelf.state c.args.shelf.now in
    let between = g.F.Shelf.state c.fetch_file.new.shelf in
    let after = g.F.Shelf.state c.fetch_file-2.new.shelf in
    both-come c.args.old.now c.args.new.now shelf between after c.in_ok-first.first.items c.in_ok-second.second.items c.deref.result.now c.deref-2.result.now (collated_bytes c.in_ok-collate.field-0.items)
    c.in_ok-first.ensures.given c.in_ok-second.ensures.given c.deref.ensures.value c.deref-2.ensures.value c.in_ok-collate.ensures.collated

pub returns-in_err-first-clause-asks : goal.returns-in_err-first-clause-asks
returns-in_err-first-clause-asks g c =
    let shelf = g.F.Shelf.state c.args.shelf.now in
    let after = g.F.Shelf.state c.fetch_file.new.shelf in
    let status = c.in_err-first.field-0.0 in
    collated-err c.args.old.now c.args.new.now shelf after status c.from_residual.result c.from_residual.ensures.1
    (first-asks c.args.old.now c.args.new.now shelf after status c.in_err-first.ensures.refused c.fetch_file.ensures.asks)

pub returns-in_err-second-clause-asks : goal.returns-in_err-second-clause-asks
returns-in_err-second-clause-asks g c =
    let shelf = g.F.Shelf.state c.args.shelf.now in
    let between = g.F.Shelf.state c.fetch_file.new.shelf in
    let after = g.F.Shelf.state c.fetch_file-2.new.shelf in
    let status = c.in_err-second.field-0.0 in
    let both = sheets-asked c.args.old.now c.args.new.now c.in_ok-first.first.items shelf between after c.in_ok-first.ensures.given c.fetch_file.ensures.asks c.fetch_file-2.ensures.asks in
    collated-err c.args.old.now c.args.new.now shelf after status c.from_residual-in_err-second.result c.from_residual-in_err-second.ensures.1 (both-ask c.args.old.now c.args.new.now shelf after status both)

pub returns-in_err-collate-clause-asks : goal.returns-in_err-collate-clause-asks
returns-in_err-collate-clause-asks g c =
    let shelf = g.F.Shelf.state c.args.shelf.now in
    let between = g.F.Shelf.state c.fetch_file.new.shelf in
    let after = g.F.Shelf.state c.fetch_file-2.new.shelf in
    let status = status_of_sheets c.in_err-collate.field-0.0 in
    let both = sheets-asked c.args.old.now c.args.new.now c.in_ok-first.first.items shelf between after c.in_ok-first.ensures.given c.fetch_file.ensures.asks c.fetch_file-2.ensures.asks in
    collated-err c.args.old.now c.args.new.now shelf after status c.from_residual-in_err-collate.result c.from_residual-in_err-collate.ensures.1 (both-ask c.args.old.now c.args.new.now shelf after status both)

pub returns-clause-asks : goal.returns-clause-asks
returns-clause-asks g c =
    sheets-asked c.args.old.now c.args.new.now c.in_ok-first.first.items (g.F.Shelf.state c.args.shelf.now) (g.F.Shelf.state c.fetch_file.new.shelf) (g.F.Shelf.state c.fetch_file-2.new.shelf)
    c.in_ok-first.ensures.given c.fetch_file.ensures.asks c.fetch_file-2.ensures.asks
