use Rattle.spec_text.specs.Lines.{line_texts}
use Rattle.spec_state.specs.Keeping.{state_of}
use Rattle.sp_text.specs.Gap.{text_of}
use Rattle.sp_run.specs.Opening.{NotBeside}
use Rattle.sp_run.proofs.Asked.{beside-err, beside-fetched}
use Rattle.sp_run.proofs.OpenedStates.{err-is, fetched-some, found-some, refused-some, unfetched-beside}
use Rattle.sp_run.proofs.opening.open_beside.Goals as goal

pub returns-in_err-bytes-clause-refused : goal.returns-in_err-bytes-clause-refused
returns-in_err-bytes-clause-refused g c =
    let old = g.F.Shelf.state c.args.shelf.now in
    let new = g.F.Shelf.state c.fetch_records.new.shelf in
    let texts = line_texts c.args.lines.lines in
    err-is (NotBeside c.args.name.now old new texts) c.in_err-bytes.field-0.0 c.from_residual.result c.from_residual.ensures.1
    (unfetched-beside c.args.name.now old new texts c.in_err-bytes.field-0.0 c.in_err-bytes.ensures.refused)

pub returns-in-Some-clause-found : goal.returns-in-Some-clause-found
returns-in-Some-clause-found g c =
    let old = g.F.Shelf.state c.args.shelf.now in
    let new = g.F.Shelf.state c.fetch_records.new.shelf in
    let fetched = fetched-some (λ v. v.items) old new c.args.name.now c.deref.result.now c.in_ok-bytes.field-0 c.in-Some.bytes c.in_ok-bytes.ensures.given c.in-Some.is c.deref.ensures.value in
    found-some (λ opened. state_of (text_of opened.lines) opened.records) c.args.name.now old new c.args.lines c.deref.result.now c.with_records.result fetched c.with_records.ensures.opened

pub returns-in-Some-clause-refused : goal.returns-in-Some-clause-refused
returns-in-Some-clause-refused g c =
    let old = g.F.Shelf.state c.args.shelf.now in
    let new = g.F.Shelf.state c.fetch_records.new.shelf in
    let fetched = fetched-some (λ v. v.items) old new c.args.name.now c.deref.result.now c.in_ok-bytes.field-0 c.in-Some.bytes c.in_ok-bytes.ensures.given c.in-Some.is c.deref.ensures.value in
    refused-some c.args.name.now old new c.args.lines c.deref.result.now c.with_records.result fetched c.with_records.ensures.refused

pub returns-in_err-bytes-clause-asks : goal.returns-in_err-bytes-clause-asks
returns-in_err-bytes-clause-asks g c =
    beside-err c.args.name.now (g.F.Shelf.state c.args.shelf.now) (g.F.Shelf.state c.fetch_records.new.shelf) c.in_err-bytes.field-0.0 c.from_residual.result c.from_residual.ensures.1 c.in_err-bytes.ensures.asks

pub returns-in-Some-clause-asks : goal.returns-in-Some-clause-asks
returns-in-Some-clause-asks g c =
    beside-fetched c.args.name.now (g.F.Shelf.state c.args.shelf.now) (g.F.Shelf.state c.fetch_records.new.shelf) c.with_records.result c.in_ok-bytes.ensures.asks
