use Rattle.std.proofs.Common.{List, ℕ, sym, ap, subst}
use Rattle.std.proofs.lemmas.Result.{IfOk-weaker, IfErr-weaker}
use Rattle.spec_text.specs.Lines.{line_texts}
use Rattle.spec_state.specs.Keeping.{state_of}
use Rattle.sp_text.specs.Gap.{text_of}
use Rattle.sp_run.specs.Forms.{origin_of, from_file}
use Rattle.sp_run.specs.Asking.{OriginAsks, ScriptAsks, WholeAsks}
use Rattle.spec_state.specs.Printing.{printing_of}
use Rattle.sp_run.specs.Opening.{FoundBeside, HadScript, HadState, NotBeside}
use Rattle.sp_run.specs.Unopened.{Unopened, outside}
use Rattle.sp_run.proofs.Asked.{beside-asks, err-asks, lines-asks, none-asks}
use Rattle.sp_run.proofs.OpenedStates.{err-is}
use Rattle.sp_run.proofs.Openings.{none-unopened, lines-unopened, found-opens, beside-unopened}
use Rattle.sp_run.proofs.opening.open_state.Goals as goal

pub returns-in_err-script-clause-refused : goal.returns-in_err-script-clause-refused
returns-in_err-script-clause-refused g c sink =
    let origin = origin_of c.args.origin in
    let old = g.I.Source.state c.args.input.now in
    let new = g.I.Source.state c.open_script.new.input in
    let shelf = g.F.Shelf.state c.args.shelf.now in
    let after = g.F.Shelf.state c.open_script.new.shelf in
    let status = c.in_err-script.field-0.0 in
    err-is (Unopened origin (outside old sink shelf) (outside new sink after)) status c.from_residual.result c.from_residual.ensures.1 (none-unopened origin old new sink shelf after status c.in_err-script.ensures.none)

pub returns-in_err-lines-clause-refused : goal.returns-in_err-lines-clause-refused
returns-in_err-lines-clause-refused g c sink =
    let origin = origin_of c.args.origin in
    let old = g.I.Source.state c.args.input.now in
    let new = g.I.Source.state c.open_script.new.input in
    let shelf = g.F.Shelf.state c.args.shelf.now in
    let after = g.F.Shelf.state c.open_script.new.shelf in
    let status = c.in_err-lines.field-0.0 in
    let script = c.deref.result.now in
    let had = subst (λ (bytes : List ℕ). HadScript origin old new shelf after bytes) (sym c.deref.ensures.value) c.in_ok-script.ensures.had in
    err-is (Unopened origin (outside old sink shelf) (outside new sink after)) status c.from_residual-in_err-lines.result c.from_residual-in_err-lines.ensures.1
    (lines-unopened origin old new sink shelf after script status had c.in_err-lines.ensures)

pub returns-in-File-clause-had : goal.returns-in-File-clause-had
returns-in-File-clause-had g c =
    let name = c.in-File.name.now in
    let old = g.I.Source.state c.args.input.now in
    let new = g.I.Source.state c.open_script.new.input in
    let shelf = g.F.Shelf.state c.args.shelf.now in
    let mid = g.F.Shelf.state c.open_script.new.shelf in
    let after = g.F.Shelf.state c.open_beside.new.shelf in
    let script = c.deref.result.now in
    let lines = c.in_ok-lines.lines in
    let is = ap origin_of c.in-File.is in
    let had = subst (λ (bytes : List ℕ). HadScript (from_file name) old new shelf mid bytes) (sym c.deref.ensures.value) (subst (λ origin. HadScript origin old new shelf mid c.in_ok-script.script.items) is c.in_ok-script.ensures.had) in
    IfOk-weaker c.open_beside.result (λ opened. FoundBeside name mid after (line_texts lines.lines) (state_of (text_of opened.lines) opened.records))
    (λ opened. HadState (origin_of c.args.origin) old new shelf after (state_of (text_of opened.lines) opened.records))
    (λ opened found. subst (λ origin. HadState origin old new shelf after (state_of (text_of opened.lines) opened.records)) (sym is) (found-opens name old new shelf mid after script lines (state_of (text_of opened.lines) opened.records) had c.in_ok-lines.ensures found))
    c.open_beside.ensures.found

pub returns-in-File-clause-refused : goal.returns-in-File-clause-refused
returns-in-File-clause-refused g c sink =
    let name = c.in-File.name.now in
    let old = g.I.Source.state c.args.input.now in
    let new = g.I.Source.state c.open_script.new.input in
    let shelf = g.F.Shelf.state c.args.shelf.now in
    let mid = g.F.Shelf.state c.open_script.new.shelf in
    let after = g.F.Shelf.state c.open_beside.new.shelf in
    let script = c.deref.result.now in
    let lines = c.in_ok-lines.lines in
    let is = ap origin_of c.in-File.is in
    let had = subst (λ (bytes : List ℕ). HadScript (from_file name) old new shelf mid bytes) (sym c.deref.ensures.value) (subst (λ origin. HadScript origin old new shelf mid c.in_ok-script.script.items) is c.in_ok-script.ensures.had) in
    IfErr-weaker c.open_beside.result (NotBeside name mid after (line_texts lines.lines)) (Unopened (origin_of c.args.origin) (outside old sink shelf) (outside new sink after))
    (λ status it. subst (λ origin. Unopened origin (outside old sink shelf) (outside new sink after) status) (sym is) (beside-unopened name old new sink shelf mid after script lines status had c.in_ok-lines.ensures it))
    c.open_beside.ensures.refused

pub returns-in_err-script-clause-asks : goal.returns-in_err-script-clause-asks
returns-in_err-script-clause-asks g c =
    let origin = origin_of c.args.origin in
    let shelf = g.F.Shelf.state c.args.shelf.now in
    let after = g.F.Shelf.state c.open_script.new.shelf in
    let status = c.in_err-script.field-0.0 in
    err-asks origin shelf after status c.from_residual.result c.from_residual.ensures.1
    (none-asks origin (g.I.Source.state c.args.input.now) (g.I.Source.state c.open_script.new.input) shelf after status c.in_err-script.ensures.none c.open_script.ensures.asks)

pub returns-in_err-lines-clause-asks : goal.returns-in_err-lines-clause-asks
returns-in_err-lines-clause-asks g c =
    let origin = origin_of c.args.origin in
    let shelf = g.F.Shelf.state c.args.shelf.now in
    let after = g.F.Shelf.state c.open_script.new.shelf in
    let status = c.in_err-lines.field-0.0 in
    err-asks origin shelf after status c.from_residual-in_err-lines.result c.from_residual-in_err-lines.ensures.1
    (lines-asks origin shelf after (printing_of c.deref.result.now) status c.in_err-lines.ensures c.open_script.ensures.asks)

pub returns-in-Source-clause-asks : goal.returns-in-Source-clause-asks
returns-in-Source-clause-asks g c =
    subst (λ origin. WholeAsks origin (g.F.Shelf.state c.args.shelf.now) (g.F.Shelf.state c.open_script.new.shelf)) (sym (ap origin_of c.in-Source.is)) tt

pub returns-in-File-clause-asks : goal.returns-in-File-clause-asks
returns-in-File-clause-asks g c =
    let name = c.in-File.name.now in
    let old = g.I.Source.state c.args.input.now in
    let new = g.I.Source.state c.open_script.new.input in
    let shelf = g.F.Shelf.state c.args.shelf.now in
    let mid = g.F.Shelf.state c.open_script.new.shelf in
    let after = g.F.Shelf.state c.open_beside.new.shelf in
    let is = ap origin_of c.in-File.is in
    let had = subst (λ origin. HadScript origin old new shelf mid c.in_ok-script.script.items) is c.in_ok-script.ensures.had in
    let one = subst (λ origin. ScriptAsks origin shelf mid) is c.open_script.ensures.asks in
    subst (λ origin. OriginAsks origin shelf after c.open_beside.result) (sym is)
    (beside-asks name shelf mid after c.in_ok-script.script.items (line_texts c.in_ok-lines.lines.lines) c.open_beside.result had.0 one c.open_beside.ensures.refused c.open_beside.ensures.asks)
