use Rattle.std.proofs.Common.{ℕ, List, refl, sym, subst, ◌∙◌}
use Rattle.std.proofs.lemmas.Bool.{OnTrue_at}
use Rattle.std.proofs.lemmas.Result.{err_from_is_err_and}
use Rattle.spec_state.specs.Keeping.{records_of}
use Rattle.sp_sheets.specs.Firsts.{first_rows}
use Rattle.sp_sheets.specs.Pages.{WerePageSheets, WereUnmarkedSheets}
use Rattle.sp_state.proofs.turning.refilled.Goals as goal

pub renumber-requires-clause-sheets : goal.renumber-requires-clause-sheets
renumber-requires-clause-sheets g c =
    let sheets = c.args.numbered.now.sheets in
    subst (λ (starts : List ℕ). WereUnmarkedSheets (records_of c.args.laid.now) starts sheets) (sym c.in_ok-swapped.ensures.back) c.requires.sheets

pub renumber-requires-clause-kept : goal.renumber-requires-clause-kept
renumber-requires-clause-kept g c keeps =
    let state = c.args.laid.now in
    let stay = c.pages_stay.ensures in
    let same = sym c.in_ok-swapped.ensures.back ∙ OnTrue_at keeps stay.pages in
    subst (λ (starts : List ℕ). WerePageSheets (records_of state) (first_rows state) starts c.args.numbered.now.sheets) same (c.requires.kept (OnTrue_at keeps stay.firsts))

pub returns-in_err-swapped : goal.returns-in_err-swapped
returns-in_err-swapped g c =
    let updated = c.update_pages.ensures in
    let p = err_from_is_err_and c.from_residual.result c.from_residual.ensures.1 in
    rw p.1 (record { pages = tt; back = tt; can = tt; numbered = tt; same_numbered = refl; fills = tt; at_most = updated.at_most; reads = updated.reads; same = c.in_err-swapped.ensures.same })

pub returns-in-Ok : goal.returns-in-Ok
returns-in-Ok g c =
    let updated = c.in_ok-swapped.ensures in
    record {
      pages = updated.pages;
      back = updated.back;
      can = updated.can;
      numbered = c.in-Ok.ensures.numbered;
      same_numbered = tt;
      fills = updated.fills;
      at_most = c.update_pages.ensures.at_most;
      reads = c.update_pages.ensures.reads;
      same = tt;
    }

pub returns-in-Err : goal.returns-in-Err
returns-in-Err g c =
    let updated = c.update_pages.ensures in
    record {
      pages = tt;
      back = tt;
      can = tt;
      numbered = tt;
      same_numbered = c.in-Err.ensures.same;
      fills = tt;
      at_most = updated.at_most;
      reads = updated.reads;
      same = c.put_back_in_room-other.ensures.starts ∙ c.in_ok-swapped.ensures.back;
    }
