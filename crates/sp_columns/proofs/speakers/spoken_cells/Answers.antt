use Rattle.std.proofs.Common.{◌≡◌, ◌+◌, Bool, ◌∷◌, ◌++◌, List, length, drop, ap, sym, ◌∙◌, append_assoc, append-nil, arith}
use Rattle.std.proofs.lemmas.Grind.{common_steps}
use Rattle.std.proofs.lemmas.List.{nil_from_length}
use Rattle.std.proofs.lemmas.List.Elements.{All-rest}
use Rattle.std.specs.Vec.Iter.{into_iter_items}
use Rattle.spec_pages.specs.CellParts.{CellLies}
use Rattle.spec_pages.specs.Rows.{Cell, said_cells, spoken_cells}
use Rattle.sp_columns.proofs.SpeakerLaws.{spoken_cells-next, spoken_cells-none}
use Rattle.sp_columns.proofs.speakers.spoken_cells.Goals as goal

pub loop-cell-preserved : goal.loop-cell-preserved
loop-cell-preserved c =
    let so_far = c.loop-cell.invariant in
    let lines = c.args.lines.now.lines in
    let first = c.args.first in
    let speakers = c.args.speakers.now in
    let place = c.loop-cell.place in
    let cell = c.in-Some.cell in
    let done = c.loop-cell.spoken.items in
    let rest = into_iter_items c.next.new.self in
    let others = spoken_cells lines first (drop (place + 1) speakers) rest in
    let cut : into_iter_items c.loop-cell.cell-iterator ≡ cell ∷ rest = c.in-Some.ensures.steps.0 in
    let size : length (into_iter_items c.loop-cell.cell-iterator) ≡ length (cell ∷ rest) = ap length cut in (
      tt,
      tt,
      omega (arith, so_far.2, size),
      All-rest (CellLies lines first) cell rest _ cut so_far.3,
      ap (λ (cells : List Cell). cells ++ others) c.in_ok-add_spoken.ensures ∙ append_assoc done (said_cells lines first c.goes_on.result cell) others
          ∙ ap (λ (goes_on : Bool). done ++ (said_cells lines first goes_on cell ++ others)) c.goes_on.ensures
          ∙ ap (λ (cells : List Cell). done ++ cells) (sym (spoken_cells-next lines first speakers place cell rest))
          ∙ ap (λ (cells : List Cell). done ++ spoken_cells lines first (drop place speakers) cells) (sym cut) ∙ so_far.4,
    )

pub returns : goal.returns
returns c =
    let so_far = c.loop-cell.invariant in
    let size : length (into_iter_items c.loop-cell.cell-iterator) ≡ 0 = grind (arith, common_steps) in
    let empty = nil_from_length (into_iter_items c.loop-cell.cell-iterator) size in
    let rest : List Bool = drop c.loop-cell.place c.args.speakers.now in
    let none = ap (spoken_cells c.args.lines.now.lines c.args.first rest) empty ∙ spoken_cells-none c.args.lines.now.lines c.args.first rest in
    sym (append-nil c.loop-cell.spoken.items) ∙ ap (λ (cells : List Cell). c.loop-cell.spoken.items ++ cells) (sym none) ∙ so_far.4
