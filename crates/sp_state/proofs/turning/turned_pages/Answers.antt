use Rattle.std.proofs.Common.{ℕ, List, refl, sym, ap, subst, ◌∙◌}
use Rattle.std.proofs.lemmas.Bool.{OnTrue_at}
use Rattle.std.proofs.lemmas.Result.{err_from_is_err_and}
use Rattle.spec_state.specs.Keeping.{records_of}
use Rattle.sp_sheets.specs.Firsts.{first_rows}
use Rattle.sp_sheets.specs.Pages.{WerePageSheets, WereUnmarkedSheets}
use Rattle.sp_reflow.specs.Updates.{taken_back, taken_of}
use Rattle.sp_reflow.proofs.TurnLaws.{turned-twice}
use Rattle.sp_state.proofs.turning.turned_pages.Goals as goal

pub renumber-requires-clause-sheets : goal.renumber-requires-clause-sheets
renumber-requires-clause-sheets c =
    let sheets = c.args.numbered.now.sheets in
    subst (λ (starts : List ℕ). WereUnmarkedSheets (records_of c.args.laid.now) starts sheets) (sym c.in_ok-other.ensures.back) c.requires.sheets

pub renumber-requires-clause-kept : goal.renumber-requires-clause-kept
renumber-requires-clause-kept c keeps =
    let state = c.args.laid.now in
    let stay = c.pages_stay.ensures in
    let same = sym c.in_ok-other.ensures.back ∙ OnTrue_at keeps stay.pages in
    subst (λ (starts : List ℕ). WerePageSheets (records_of state) (first_rows state) starts c.args.numbered.now.sheets) same (c.requires.kept (OnTrue_at keeps stay.firsts))

pub returns-in_err-other : goal.returns-in_err-other
returns-in_err-other c =
    let left = c.in_err-other.ensures in
    let p = err_from_is_err_and c.from_residual.result c.from_residual.ensures.1 in
    rw (p.1, p.2) (record { pages = tt; back = tt; can = tt; numbered = tt; same_numbered = refl; same = left.same.0; handed_back = ap taken_of left.handed_back })

pub returns-in-Ok : goal.returns-in-Ok
returns-in-Ok c =
    let turned = c.in_ok-other.ensures in
    record {
      pages = turned.starts ∙ c.requires.leads;
      back = turned.back;
      can = turned.can;
      numbered = c.in-Ok.ensures.numbered;
      same_numbered = tt;
      same = tt;
      handed_back = tt;
    }

pub returns-in-Err : goal.returns-in-Err
returns-in-Err c =
    let turned = c.in_ok-other.ensures in
    let other = c.in_ok-other.other in
    let back = c.put_back_in_room-back in
    record {
      pages = tt;
      back = tt;
      can = tt;
      numbered = tt;
      same_numbered = c.in-Err.ensures.same;
      same = back.ensures.starts ∙ turned.back;
      handed_back = turned-twice c.args.pages.now.starts c.args.back other back.result c.requires.can turned.turned (back.ensures.turned ∙ ap (λ (starts : List ℕ). taken_back starts other) turned.starts);
    }
