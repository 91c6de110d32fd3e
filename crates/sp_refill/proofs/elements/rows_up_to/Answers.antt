use Rattle.std.proofs.Common.{◌≡◌, ◌+◌, ◌≤◌, true, false, List, length, ap, subst, ◌∙◌, take, arith}
use Rattle.spec_pages.specs.Rows.{ElementOf}
use Rattle.sp_layout.specs.Bodies.{row_count}
use Rattle.sp_layout.specs.Places.{CountsBefore}
use Rattle.sp_refill.specs.Counts.{one_if}
use Rattle.sp_refill.proofs.Bodies.{up-to-found, rest-some}
use Rattle.sp_refill.proofs.elements.rows_up_to.Goals as goal

pub rows_before-requires : goal.rows_before-requires
rows_before-requires c =
    let elements = c.args.body.now.elements in
    let place = c.elements_before-place.result in
    let is = subst (λ (es : List ElementOf). CountsBefore es c.args.line place) c.elements.ensures c.elements_before-place.ensures in
    subst (λ b. place + one_if b ≤ length elements) c.if-relaid.true (rest-some elements c.args.line place c.args.relaid is c.requires)

pub returns-then-relaid : goal.returns-then-relaid
returns-then-relaid c =
    let elements = c.args.body.now.elements in
    let place = c.elements_before-place.result in
    let is = subst (λ (es : List ElementOf). CountsBefore es c.args.line place) c.elements.ensures c.elements_before-place.ensures in
    up-to-found elements c.args.line place c.rows_before.result c.args.relaid true c.if-relaid.true is c.requires c.rows_before.ensures

pub returns-else-relaid : goal.returns-else-relaid
returns-else-relaid c =
    let elements = c.args.body.now.elements in
    let place = c.elements_before-place.result in
    let is = subst (λ (es : List ElementOf). CountsBefore es c.args.line place) c.elements.ensures c.elements_before-place.ensures in
    let same : place ≡ place + 0 = omega arith in
    up-to-found elements c.args.line place c.rows_before-else-relaid.result c.args.relaid false c.if-relaid.false is c.requires
    (c.rows_before-else-relaid.ensures ∙ ap (λ n. row_count (take n elements)) same)
