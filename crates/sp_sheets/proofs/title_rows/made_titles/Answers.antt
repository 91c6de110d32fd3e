use Rattle.std.proofs.Common.{◌≡◌, ℕ, List, [], IfOk, ap, sym, subst, ◌∙◌}
use Rattle.spec_pages.specs.Pages.{page_starts, rows_on}
use Rattle.spec_pages.specs.Rows.{ElementOf}
use Rattle.spec_pages.proofs.TitleEnds.{AreTitleShapes}
use Rattle.spec_records.specs.Kept.{RecordsOf}
use Rattle.spec_state.specs.State.{State}
use Rattle.spec_state.specs.StateSheets.{title_starts}
use Rattle.sp_layout.specs.Bodies.{shapes_in}
use Rattle.sp_layout.specs.Kept.{KeptOf, laid_of}
use Rattle.sp_sheets.proofs.TitleLaws.{titles-laid, titles-shaped}
use Rattle.sp_sheets.proofs.title_rows.made_titles.Goals as goal

pub starts_on-requires : goal.starts_on-requires
starts_on-requires c =
    let state : State = c.args.laid.now in
    let layout = laid_of c.layout-layout.result.now in
    subst (λ (elements : List ElementOf). AreTitleShapes (shapes_in elements)) (sym (ap (λ (kept : KeptOf). kept.titles.elements) c.layout.view_is)) (titles-shaped state layout c.records-records.ensures.whole.text c.layout-layout.ensures)

pub returns : goal.returns
returns c =
    let state : State = c.args.laid.now in
    let layout = laid_of c.layout-layout.result.now in
    let paper = c.records.inside.paper in
    let same : page_starts (rows_on paper) (shapes_in c.layout.inside.titles.elements) [] ≡ title_starts state =
    ap (λ (kept : KeptOf). page_starts (rows_on paper) (shapes_in kept.titles.elements) []) c.layout.view_is
    ∙ titles-laid state layout paper c.layout-layout.ensures (ap (λ (records : RecordsOf). records.paper) (c.records.view_is ∙ c.records-records.ensures.records)) in
    subst (λ (titles : List ℕ). IfOk c.starts_on.result (λ starts. starts.items ≡ titles)) same c.starts_on.ensures
