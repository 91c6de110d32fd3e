use Rattle.std.proofs.Common.{◌≡◌, ◌+◌, ◌-◌, List, [], length, get_or, ap, sym, ◌∙◌, arith}
use Rattle.std.proofs.lemmas.List.{length-map}
use Rattle.spec_text.specs.Lines.{LineState, line_texts}
use Rattle.spec_text.proofs.ExchangeLaws.{length-exchanged}
use Rattle.sp_text.specs.DisplacedLines.{DisplacedState}
use Rattle.sp_text.proofs.OldTexts.{old-before, old-behind}
use Rattle.sp_text.proofs.old_lines.OldLines.text.Goals as goal

pub overflow_add-place : goal.overflow_add-place
overflow_add-place c =
    let size = length-map c.args.self.now (λ (line : LineState). line.text) in
    let same = ap (λ (lines : List LineState). length lines) c.self.view_is in
    let it = c.self.invariant.1 in
    let count = it.count in
    omega (arith, size, same, count, c.requires)

pub returns-then-place-gone : goal.returns-then-place-gone
returns-then-place-gone c =
    let lines = c.self.inside.lines.now.lines in
    let gone = c.self.inside.displaced.now in
    let first = ap (λ (d : DisplacedState). d.first) c.displaced.view_is in
    let inside = c.self.invariant.0 in
    ap (λ (all : List LineState). get_or (line_texts all) (c.args.first + c.args.line) []) (sym c.self.view_is)
    ∙ old-before lines gone.lines gone.first gone.stands (c.args.first + c.args.line) (omega (arith, inside)) (omega (arith, first, c.if-place-gone.true))
    ∙ c.line_text.ensures

pub returns : goal.returns
returns c =
    let lines = c.self.inside.lines.now.lines in
    let gone = c.self.inside.displaced.now in
    let place = c.args.first + c.args.line in
    let first = ap (λ (d : DisplacedState). d.first) c.displaced.view_is in
    let stands = ap (λ (d : DisplacedState). d.stands) c.displaced.view_is in
    let many = ap (λ (d : DisplacedState). length d.lines) c.displaced.view_is in
    let inside = c.self.invariant.0 in
    let i = place - gone.first - length gone.lines in
    let at : gone.first + gone.stands + i ≡ c.displaced.inside.first + c.displaced.inside.stands + (place - c.displaced.inside.first - c.len-count.result) =
    omega (arith, first, stands, many, c.len-count.ensures) in
    ap (λ (all : List LineState). get_or (line_texts all) place []) (sym c.self.view_is)
    ∙ old-behind lines gone.lines gone.first gone.stands place i (omega (arith, inside)) (omega (arith, first, many, c.len-count.ensures, c.if-place-gone.false, c.if-behind-count.false))
    ∙ ap (λ n. get_or (line_texts lines) n []) at ∙ c.line_text-2.ensures

pub overflow_add-gone : goal.overflow_add-gone
overflow_add-gone c =
    let first = ap (λ (d : DisplacedState). d.first) c.displaced.view_is in
    let stands = ap (λ (d : DisplacedState). d.stands) c.displaced.view_is in
    let inside = c.self.invariant.0 in
    let keeps = c.len-now.ensures.keeps in
    let count = keeps.count in
    omega (arith, first, stands, inside, count)

pub overflow_add-gone-2 : goal.overflow_add-gone-2
overflow_add-gone-2 c =
    let lines = c.self.inside.lines.now.lines in
    let gone = c.self.inside.displaced.now in
    let first = ap (λ (d : DisplacedState). d.first) c.displaced.view_is in
    let stands = ap (λ (d : DisplacedState). d.stands) c.displaced.view_is in
    let many = ap (λ (d : DisplacedState). length d.lines) c.displaced.view_is in
    let inside = c.self.invariant.0 in
    let size = length-map c.args.self.now (λ (line : LineState). line.text) in
    let same = ap (λ (all : List LineState). length all) c.self.view_is in
    let whole = length-exchanged lines gone.first gone.stands gone.lines inside in
    let keeps = c.len-now.ensures.keeps in
    let count = keeps.count in
    omega (arith, first, stands, many, inside, size, same, whole, count, c.len-count.ensures, c.requires)
