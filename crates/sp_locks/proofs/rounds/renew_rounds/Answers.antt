use Rattle.std.proofs.Common.{◌≡◌, ◌+◌, ◌-◌, List, [], ◌∷◌, ◌++◌, length, map, take, drop, ap, sym, ◌∙◌, subst, arith}
use Rattle.std.proofs.lemmas.List.{length-drop, length-take}
use Rattle.spec_labels.specs.PageRecords.{PageRecordOf, SegmentOf, SheetOf, greatest_round, omitted_sheet, page_sheets}
use Rattle.sp_locks.specs.Rounds.{in_round}
use Rattle.sp_locks.proofs.SheetWalk.{Walked, Walked-omitted, Walked-pages, SegmentAt, RunTo, PagesTo}
use Rattle.sp_locks.proofs.RoundWalk.{RoundsTo-start, RoundsTo-end, RoundsTo-more, room-for, pages-round, length-page_sheets, one-round}
use Rattle.sp_locks.proofs.rounds.renew_rounds.Goals as goal
use Rattle.sp_locks.proofs.rounds.renew_rounds.Goals.{After-run_end-behind, After-pages_end-behind}

-- The sheet of the records that have no rows.
abbrev omitted : (c : After-run_end-behind) → SheetOf
omitted c =
    let at = c.loop-index.index in
    omitted_sheet c.segment_at-segment.result.start c.segment_at-segment.result.owner (take (c.run_end-behind.result - (at + 1)) (drop (at + 1) c.args.records.now))

walked-omitted : (c : After-run_end-behind)
    → Walked c.args.rows c.args.records.now c.args.starts.now c.args.pages.now c.run_end-behind.result c.loop-index.page (take c.loop-index.place c.loop-index.sheets ++ omitted c ∷ [])
walked-omitted c =
    let at : SegmentAt c.args.rows c.args.records.now c.args.starts.now c.loop-index.index c.segment_at-segment.result =
    record { inside = c.loop-index-test.true; first = c.segment_at-segment.ensures.first; start = c.segment_at-segment.ensures.start; end = c.segment_at-segment.ensures.end } in
    let run : RunTo c.args.rows c.args.starts.now c.loop-index.index c.run_end-behind.result =
    record { order = c.run_end-behind.ensures.order; within = c.run_end-behind.ensures.within; empty = c.run_end-behind.ensures.empty; stop = c.run_end-behind.ensures.stop; level = c.run_end-behind.ensures.level } in
    Walked-omitted c.args.rows c.args.records.now c.args.starts.now c.args.pages.now c.loop-index.index c.loop-index.page c.run_end-behind.result c.segment_at-segment.result (take c.loop-index.place c.loop-index.sheets)
    c.requires.starts c.loop-index.invariant.walked at (sym c.if-is_empty.ensures) run

-- The sheets of a segment's pages.
abbrev paged : (c : After-pages_end-behind) → List SheetOf
paged c = page_sheets c.segment_at-segment.result 0 (take (c.pages_end-behind.result - c.loop-index.page) (drop c.loop-index.page c.args.pages.now))

walked-pages : (c : After-pages_end-behind)
    → Walked c.args.rows c.args.records.now c.args.starts.now c.args.pages.now (c.loop-index.index + 1) c.pages_end-behind.result (take c.loop-index.place c.loop-index.sheets ++ paged c)
walked-pages c =
    let at : SegmentAt c.args.rows c.args.records.now c.args.starts.now c.loop-index.index c.segment_at-segment.result =
    record { inside = c.loop-index-test.true; first = c.segment_at-segment.ensures.first; start = c.segment_at-segment.ensures.start; end = c.segment_at-segment.ensures.end } in
    let to : PagesTo c.args.pages.now c.loop-index.page c.pages_end-behind.result c.segment.inside.end =
    record { order = c.pages_end-behind.ensures.order; within = c.pages_end-behind.ensures.within; before = c.pages_end-behind.ensures.before; stop = c.pages_end-behind.ensures.stop } in
    Walked-pages c.args.rows c.args.records.now c.args.starts.now c.args.pages.now c.loop-index.index c.loop-index.page c.pages_end-behind.result c.segment_at-segment.result (take c.loop-index.place c.loop-index.sheets)
    c.requires.pages c.loop-index.invariant.walked at (sym c.if-is_empty.ensures)
    (subst (PagesTo c.args.pages.now c.loop-index.page c.pages_end-behind.result) (ap (λ (s : SegmentOf). s.end) c.segment.view_is) to)

count-paged : (c : After-pages_end-behind) → length (paged c) ≡ c.pages_end-behind.result - c.loop-index.page
count-paged c =
    let pages = drop c.loop-index.page c.args.pages.now in
    let count = c.pages_end-behind.result - c.loop-index.page in
    let few = length-take count pages in
    let all = length-drop c.loop-index.page c.args.pages.now in
    length-page_sheets c.segment_at-segment.result 0 (take count pages) ∙ omega (arith, few, all, c.pages_end-behind.ensures.within)

pub loop-index-init : goal.loop-index-init
loop-index-init c = RoundsTo-start c.args.rows c.args.records.now c.args.starts.now c.args.pages.now c.args.sheets.now c.requires.some c.requires.starts c.requires.sheets

pub returns : goal.returns
returns c = RoundsTo-end c.args.rows c.args.records.now c.args.starts.now c.args.pages.now c.loop-index.index c.loop-index.page c.loop-index.place c.loop-index.sheets c.loop-index-test.false c.loop-index.invariant

pub loop-index-preserved-then-is_empty : goal.loop-index-preserved-then-is_empty
loop-index-preserved-then-is_empty c =
    let b = (goal.at.loop-index-preserved-then-is_empty c).After-run_end-behind in
    let others = take (c.run_end-behind.result - (c.loop-index.index + 1)) (drop (c.loop-index.index + 1) c.args.records.now) in
    RoundsTo-more c.args.rows c.args.records.now c.args.starts.now c.args.pages.now c.loop-index.index c.loop-index.page c.loop-index.place c.run_end-behind.result c.loop-index.page (c.loop-index.place + 1 - c.loop-index.place)
    (c.loop-index.place + 1) c.greatest_round-round.result c.loop-index.sheets (omitted b ∷ []) c.set_rounds.new.sheets c.loop-index.invariant (walked-omitted b) (omega arith) (omega arith)
    (one-round (omitted b) c.greatest_round-round.result (sym (c.greatest_round-round.ensures ∙ ap (λ (s : SegmentOf). greatest_round s.owner others) c.segment.view_is))) c.set_rounds.ensures

pub loop-index-preserved : goal.loop-index-preserved
loop-index-preserved c =
    let b = (goal.at.loop-index-preserved c).After-pages_end-behind in
    let n = c.pages_end-behind.result - c.loop-index.page in
    let round = ap (λ (it : PageRecordOf). it.changed) c.owner.view_is ∙ ap (λ (s : SegmentOf). s.owner.changed) c.segment.view_is in
    RoundsTo-more c.args.rows c.args.records.now c.args.starts.now c.args.pages.now c.loop-index.index c.loop-index.page c.loop-index.place (c.loop-index.index + 1) c.pages_end-behind.result (c.loop-index.place + n - c.loop-index.place)
    (c.loop-index.place + n) c.segment_at-segment.result.owner.changed c.loop-index.sheets (paged b) c.set_rounds-else-is_empty.new.sheets c.loop-index.invariant (walked-pages b) (omega (arith, count-paged b)) (omega arith)
    (pages-round c.segment_at-segment.result 0 (take n (drop c.loop-index.page c.args.pages.now)))
    (c.set_rounds-else-is_empty.ensures ∙ ap (λ r. map (in_round r) (take (c.loop-index.place + n - c.loop-index.place) (drop c.loop-index.place c.loop-index.sheets))) round)

pub slice_bounds-set_rounds-end : goal.slice_bounds-set_rounds-end
slice_bounds-set_rounds-end c =
    let b = (goal.at.slice_bounds-set_rounds-end c).After-run_end-behind in
    omega (arith, room-for c.args.rows c.args.records.now c.args.starts.now c.args.pages.now c.loop-index.index c.loop-index.page c.loop-index.place c.run_end-behind.result c.loop-index.page c.loop-index.sheets (omitted b ∷ []) c.loop-index.invariant (walked-omitted b))

pub slice_bounds-set_rounds-end-else-is_empty : goal.slice_bounds-set_rounds-end-else-is_empty
slice_bounds-set_rounds-end-else-is_empty c =
    let b = (goal.at.slice_bounds-set_rounds-end-else-is_empty c).After-pages_end-behind in
    omega (arith, count-paged b, room-for c.args.rows c.args.records.now c.args.starts.now c.args.pages.now c.loop-index.index c.loop-index.page c.loop-index.place (c.loop-index.index + 1) c.pages_end-behind.result c.loop-index.sheets (paged b) c.loop-index.invariant (walked-pages b))
