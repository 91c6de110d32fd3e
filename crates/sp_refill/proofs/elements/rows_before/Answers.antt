use Rattle.std.proofs.Common.{◌≡◌, ◌-◌, ◌≤◌, true, false, List, ap, subst, ◌∙◌, take, arith}
use Rattle.spec_pages.specs.Rows.{ElementOf}
use Rattle.sp_layout.specs.Bodies.{row_count}
use Rattle.sp_layout.specs.Places.{CountsBefore}
use Rattle.sp_refill.specs.Counts.{one_if}
use Rattle.sp_refill.proofs.Bodies.{before-found, front-some}
use Rattle.sp_refill.proofs.elements.rows_before.Goals as goal

pub overflow_sub-place : goal.overflow_sub-place
overflow_sub-place c =
    let elements = c.args.body.now.elements in
    let place = c.elements_before-place.result in
    let is = subst (λ (es : List ElementOf). CountsBefore es c.args.line place) c.elements.ensures c.elements_before-place.ensures in
    subst (λ b. one_if b ≤ place) c.if-relaid.true (front-some elements c.args.line place c.args.relaid is c.requires)

pub returns-then-relaid : goal.returns-then-relaid
returns-then-relaid c =
    let elements = c.args.body.now.elements in
    let place = c.elements_before-place.result in
    let is = subst (λ (es : List ElementOf). CountsBefore es c.args.line place) c.elements.ensures c.elements_before-place.ensures in
    before-found elements c.args.line place c.rows_before.result c.args.relaid true c.if-relaid.true is c.requires c.rows_before.ensures

pub returns-else-relaid : goal.returns-else-relaid
returns-else-relaid c =
    let elements = c.args.body.now.elements in
    let place = c.elements_before-place.result in
    let is = subst (λ (es : List ElementOf). CountsBefore es c.args.line place) c.elements.ensures c.elements_before-place.ensures in
    let same : place ≡ place - 0 = omega arith in
    before-found elements c.args.line place c.rows_before-else-relaid.result c.args.relaid false c.if-relaid.false is c.requires
    (c.rows_before-else-relaid.ensures ∙ ap (λ n. row_count (take n elements)) same)
