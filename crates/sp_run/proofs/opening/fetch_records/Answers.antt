use Rattle.std.proofs.Common.{inl, inr, ◌∙◌, rules}
use Rattle.sp_run.specs.declared.status.Status.TheVariants as statuses
use Rattle.sp_run.proofs.Asked.{asks-none, beside-err, beside-named}
use Rattle.sp_run.proofs.opening.fetch_records.Goals as goal

pub returns-in-Ok-Bytes-clause-given : goal.returns-in-Ok-Bytes-clause-given
returns-in-Ok-Bytes-clause-given g c = search rules

pub returns-in_err-beside-clause-asks : goal.returns-in_err-beside-clause-asks
returns-in_err-beside-clause-asks g c =
    let shelf = g.F.Shelf.state c.args.shelf.now in
    beside-err c.args.name.now shelf shelf statuses.NoMemory c.from_residual.result c.from_residual.ensures.1 (inl (asks-none shelf.calls))

pub returns-in-Ok-Bytes-clause-asks : goal.returns-in-Ok-Bytes-clause-asks
returns-in-Ok-Bytes-clause-asks g c =
    beside-named c.as_str.result.now c.args.name.now (g.F.Shelf.state c.args.shelf.now) (g.F.Shelf.state c.fetch.new.self) (c.as_str.ensures.value ∙ c.in_ok-beside.ensures) c.fetch.ensures.asks

pub returns-in-Ok-Absent-clause-asks : goal.returns-in-Ok-Absent-clause-asks
returns-in-Ok-Absent-clause-asks g c =
    beside-named c.as_str.result.now c.args.name.now (g.F.Shelf.state c.args.shelf.now) (g.F.Shelf.state c.fetch.new.self) (c.as_str.ensures.value ∙ c.in_ok-beside.ensures) c.fetch.ensures.asks

pub returns-in-Ok-Longer-clause-asks : goal.returns-in-Ok-Longer-clause-asks
returns-in-Ok-Longer-clause-asks g c =
    beside-named c.as_str.result.now c.args.name.now (g.F.Shelf.state c.args.shelf.now) (g.F.Shelf.state c.fetch.new.self) (c.as_str.ensures.value ∙ c.in_ok-beside.ensures) c.fetch.ensures.asks

pub returns-in-Err-Failed-clause-asks : goal.returns-in-Err-Failed-clause-asks
returns-in-Err-Failed-clause-asks g c =
    beside-named c.as_str.result.now c.args.name.now (g.F.Shelf.state c.args.shelf.now) (g.F.Shelf.state c.fetch.new.self) (c.as_str.ensures.value ∙ c.in_ok-beside.ensures) c.fetch.ensures.asks

pub returns-clause-asks : goal.returns-clause-asks
returns-clause-asks g c =
    inr (beside-named c.as_str.result.now c.args.name.now (g.F.Shelf.state c.args.shelf.now) (g.F.Shelf.state c.fetch.new.self) (c.as_str.ensures.value ∙ c.in_ok-beside.ensures) c.fetch.ensures.asks)
