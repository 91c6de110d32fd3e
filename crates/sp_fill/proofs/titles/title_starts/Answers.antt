use Rattle.std.proofs.Common.{◌≡◌, ◌<◌, ◌≤◌, ◌⊎◌, ℕ, length, ◌+◌, ◌∷◌, ◌++◌, [], Vec, Global, ap, ◌∙◌, arith}
use Rattle.spec_pages.specs.Pages.{lead_of, page_starts}
use Rattle.sp_fill.proofs.Scans.{some_rows}
use Rattle.sp_fill.proofs.TitleCuts.{cut-fits, cut-ends, cut-all, same-cut}
use Rattle.sp_fill.proofs.titles.title_starts.Goals as goal
use Rattle.sp_fill.proofs.titles.title_starts.Goals.{then-rows-limit+in_ok-push, else-rows-limit}

some : (limit body : ℕ) → limit ≡ body → (body ≡ 54) ⊎ (body ≡ 58) → 3 ≤ limit
some limit body same sizes = omega (arith, some_rows body sizes, same)

pub loop-row-preserved : goal.loop-row-preserved
loop-row-preserved c =
    let limit = c.from-limit.result in
    let most = some limit c.args.body c.from-limit.ensures c.requires.body in
    let shapes = c.args.shapes.now.items in
    let row = c.loop-row.row in
    let rows = c.loop-row.rows in
    let more : ℕ = rows + (1 + c.from.result) in
    let starts = c.loop-row.starts.items in
    let shape = c.at.result.now in
    let inside : row < length shapes = omega (arith, c.loop-row-test.true, c.len-row-end.ensures.len) in
    let is : more ≡ rows + (1 + lead_of shape) = omega (arith, c.from.ensures) in
    elim c.if-rows-limit.branch [
      | then-rows-limit+in_ok-push w ↦
          same-cut limit shapes (row + 1) c.if-rows-limit.rows 1 c.if-rows-limit.starts.items (starts ++ row ∷ []) w.rows-is (ap (λ (v : Vec ℕ Global). v.items) w.starts-is ∙ w.in_ok-push.ensures.items)
          (cut-ends limit most shapes c.requires.titles row rows more shape starts c.loop-row.invariant c.at.ensures inside is w.if-rows-limit.true)
      | else-rows-limit w ↦
          same-cut limit shapes (row + 1) c.if-rows-limit.rows more c.if-rows-limit.starts.items starts w.rows-is (ap (λ (v : Vec ℕ Global). v.items) w.starts-is)
          (cut-fits limit most shapes c.requires.titles row rows more shape starts c.loop-row.invariant c.at.ensures inside is w.if-rows-limit.false)
    ]

pub returns : goal.returns
returns c =
    let row = c.loop-row.row in
    cut-all c.from-limit.result (some c.from-limit.result c.args.body c.from-limit.ensures c.requires.body) c.args.shapes.now.items c.requires.titles row c.loop-row.rows c.loop-row.starts.items c.loop-row.invariant
    (omega (arith, c.loop-row-test.false, c.loop-row.auto.row-end, c.len-row-end.ensures.len))
    ∙ ap (λ (limit : ℕ). page_starts limit c.args.shapes.now.items []) c.from-limit.ensures
