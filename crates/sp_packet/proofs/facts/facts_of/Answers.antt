use Rattle.std.proofs.Common.{◌≡◌, ℕ, ◌+◌, ◌<◌, ◌≤◌, List, ◌++◌, length, map, drop, slice_index_or, ap, ap₂, sym, subst, ◌∙◌, arith}
use Rattle.std.specs.Prelude.{All, AllPairs, slice_range}
use Rattle.std.specs.List.{prefix_len}
use Rattle.std.proofs.lemmas.List.{length-map, take_rest}
use Rattle.spec_labels.specs.PageRecords.{SheetOf}
use Rattle.spec_sheets.specs.Shown.{shape_of}
use Rattle.spec_pages.specs.declared.Shape.{Shape}
use Rattle.spec_state.specs.StateSheets.{body_sheets, rows_in}
use Rattle.spec_locked_pages.specs.Segments.{records_in}
use Rattle.sp_packet.specs.Runs.{empty_run, facts_by, starts_before}
use Rattle.sp_packet.proofs.FactWalk.{Walked, Walked-gone, Walked-pages, are-starts, own_in, starts_in}
use Rattle.sp_packet.proofs.facts.facts_of.Goals as goal

pub loop-index-preserved-then-run-gt0 : goal.loop-index-preserved-then-run-gt0
loop-index-preserved-then-run-gt0 c =
    let state = c.args.view.now in
    let whole = c.body_sheets-sheets.ensures.whole in
    let are = are-starts state whole c.requires.locked in
    let long : length c.args.starts.now ≡ length (starts_in state) = ap length c.requires.starts in
    let count = are.count in
    let test = c.loop-index-test.true in
    let inside : c.loop-index.index < length (records_in state) = omega (arith, long, count, test) in
    let shown : length c.shapes-shapes.result.now.items ≡ length (rows_in state) = ap length c.shapes-shapes.ensures ∙ length-map (rows_in state) shape_of in
    let shapes : c.len-rows.result ≡ length (rows_in state) = c.len-rows.ensures.len ∙ shown in
    let run : c.empty_run-run.result ≡ empty_run (length (rows_in state)) (drop c.loop-index.index (starts_in state)) =
    c.empty_run-run.ensures.value ∙ ap₂ (λ n (ss : List ℕ). empty_run n (drop c.loop-index.index ss)) shapes c.requires.starts in
    let step = Walked-gone state whole c.requires.locked c.loop-index.index c.loop-index.sheet c.loop-index.facts.items c.loop-index.invariant inside c.empty_run-run.result run c.if-run-gt0.true in
    subst (Walked state (c.loop-index.index + c.empty_run-run.result) (c.loop-index.sheet + 1)) (sym c.in_ok-push.ensures.items) step.next

pub add_pages-requires-clause-order : goal.add_pages-requires-clause-order
add_pages-requires-clause-order c =
    let are = are-starts c.args.view.now c.body_sheets-sheets.ensures.whole c.requires.locked in
    subst (AllPairs (λ (one other : ℕ). one ≤ other)) (sym c.requires.starts) are.order

pub add_pages-requires-clause-inside : goal.add_pages-requires-clause-inside
add_pages-requires-clause-inside c =
    let state = c.args.view.now in
    let whole = c.body_sheets-sheets.ensures.whole in
    let are = are-starts state whole c.requires.locked in
    let long : length c.args.starts.now ≡ length (starts_in state) = ap length c.requires.starts in
    let count = are.count in
    let test = c.loop-index-test.true in
    let inside : c.loop-index.index < length (records_in state) = omega (arith, long, count, test) in
    let shown : length c.shapes-shapes.result.now.items ≡ length (rows_in state) = ap length c.shapes-shapes.ensures ∙ length-map (rows_in state) shape_of in
    let shapes : c.len-rows.result ≡ length (rows_in state) = c.len-rows.ensures.len ∙ shown in
    let run : c.empty_run-run.result ≡ empty_run (length (rows_in state)) (drop c.loop-index.index (starts_in state)) =
    c.empty_run-run.ensures.value ∙ ap₂ (λ n (ss : List ℕ). empty_run n (drop c.loop-index.index ss)) shapes c.requires.starts in
    let off = c.if-run-gt0.false in
    let none : empty_run (length (rows_in state)) (drop c.loop-index.index (starts_in state)) ≡ 0 = omega (arith, run, off) in
    let row : c.start_or_end.result ≡ (own_in state c.loop-index.index).end =
    c.start_or_end.ensures ∙ ap₂ (λ n (ss : List ℕ). slice_index_or ss (c.loop-index.index + 1) n) shapes c.requires.starts in
    let pages : c.sheets_before-pages.result ≡ prefix_len (starts_before (own_in state c.loop-index.index).end) (drop c.loop-index.sheet (body_sheets state)) =
    c.sheets_before-pages.ensures.value ∙ ap (prefix_len (starts_before c.start_or_end.result)) (take_rest c.body_sheets-sheets.result.now c.loop-index.sheet) ∙ ap₂ (λ n (ss : List SheetOf). prefix_len (starts_before n) (drop c.loop-index.sheet ss)) row c.body_sheets-sheets.ensures.sheets in
    let step = Walked-pages state whole c.requires.locked c.loop-index.index c.loop-index.sheet c.loop-index.facts.items c.loop-index.invariant inside c.sheets_before-pages.result pages none in
    subst (λ n. All (λ (it : SheetOf). it.start < n) (slice_range c.body_sheets-sheets.result.now c.loop-index.sheet (c.loop-index.sheet + c.sheets_before-pages.result))) (sym shown)
    (subst (λ (ss : List SheetOf). All (λ (it : SheetOf). it.start < length (rows_in state)) (slice_range ss c.loop-index.sheet (c.loop-index.sheet + c.sheets_before-pages.result))) (sym c.body_sheets-sheets.ensures.sheets) step.rows_are)

pub loop-index-preserved : goal.loop-index-preserved
loop-index-preserved c =
    let state = c.args.view.now in
    let whole = c.body_sheets-sheets.ensures.whole in
    let are = are-starts state whole c.requires.locked in
    let long : length c.args.starts.now ≡ length (starts_in state) = ap length c.requires.starts in
    let count = are.count in
    let test = c.loop-index-test.true in
    let inside : c.loop-index.index < length (records_in state) = omega (arith, long, count, test) in
    let shown : length c.shapes-shapes.result.now.items ≡ length (rows_in state) = ap length c.shapes-shapes.ensures ∙ length-map (rows_in state) shape_of in
    let shapes : c.len-rows.result ≡ length (rows_in state) = c.len-rows.ensures.len ∙ shown in
    let run : c.empty_run-run.result ≡ empty_run (length (rows_in state)) (drop c.loop-index.index (starts_in state)) =
    c.empty_run-run.ensures.value ∙ ap₂ (λ n (ss : List ℕ). empty_run n (drop c.loop-index.index ss)) shapes c.requires.starts in
    let off = c.if-run-gt0.false in
    let none : empty_run (length (rows_in state)) (drop c.loop-index.index (starts_in state)) ≡ 0 = omega (arith, run, off) in
    let row : c.start_or_end.result ≡ (own_in state c.loop-index.index).end =
    c.start_or_end.ensures ∙ ap₂ (λ n (ss : List ℕ). slice_index_or ss (c.loop-index.index + 1) n) shapes c.requires.starts in
    let pages : c.sheets_before-pages.result ≡ prefix_len (starts_before (own_in state c.loop-index.index).end) (drop c.loop-index.sheet (body_sheets state)) =
    c.sheets_before-pages.ensures.value ∙ ap (prefix_len (starts_before c.start_or_end.result)) (take_rest c.body_sheets-sheets.result.now c.loop-index.sheet) ∙ ap₂ (λ n (ss : List SheetOf). prefix_len (starts_before n) (drop c.loop-index.sheet ss)) row c.body_sheets-sheets.ensures.sheets in
    let step = Walked-pages state whole c.requires.locked c.loop-index.index c.loop-index.sheet c.loop-index.facts.items c.loop-index.invariant inside c.sheets_before-pages.result pages none in
    let n = c.loop-index.sheet + c.sheets_before-pages.result in
    let made : c.add_pages.new.facts.items ≡ c.loop-index.facts.items ++ map (facts_by (starts_in state) (map shape_of (rows_in state)) c.loop-index.index (length (slice_range (body_sheets state) c.loop-index.sheet n))) (slice_range (body_sheets state) c.loop-index.sheet n) =
    c.in_ok-add_pages.ensures
    ∙ ap₂ (λ (ss : List ℕ) (hs : List Shape). c.loop-index.facts.items ++ map (facts_by ss hs c.loop-index.index (length (slice_range c.body_sheets-sheets.result.now c.loop-index.sheet n))) (slice_range c.body_sheets-sheets.result.now c.loop-index.sheet n)) c.requires.starts c.shapes-shapes.ensures
    ∙ ap (λ (ss : List SheetOf). c.loop-index.facts.items ++ map (facts_by (starts_in state) (map shape_of (rows_in state)) c.loop-index.index (length (slice_range ss c.loop-index.sheet n))) (slice_range ss c.loop-index.sheet n)) c.body_sheets-sheets.ensures.sheets in
    subst (Walked state (c.loop-index.index + 1) n) (sym made) step.next
