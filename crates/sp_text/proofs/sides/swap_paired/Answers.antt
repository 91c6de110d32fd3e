use Rattle.std.proofs.Common.{◌≡◌, ◌+◌, ◌<◌, List, ◌++◌, length, get_or, set, reverse, sym, ap, ◌∙◌, subst, arith}
use Rattle.std.proofs.lemmas.List.{length-append, length-reverse, get_or-map, get_or_default}
use Rattle.std.proofs.lemmas.Option.{get_or_from_slice_get}
use Rattle.spec_text.specs.Lines.{LineState}
use Rattle.sp_text.specs.Paired.{IsPaired}
use Rattle.sp_text.proofs.Pairs.{IsPaired-more}
use Rattle.sp_text.proofs.sides.swap_paired.Goals as goal

pub line_at-requires : goal.line_at-requires
line_at-requires c =
    let is = c.loop-count.invariant in
    omega (arith, c.requires, is.4, is.5, c.loop-count-test.true)

pub swap_line-requires-clause-place : goal.swap_line-requires-clause-place
swap_line-requires-clause-place c =
    let is = c.loop-count.invariant in
    omega (arith, c.requires, is.4, is.5, c.loop-count-test.true)

pub swap_line-requires-clause-id : goal.swap_line-requires-clause-id
swap_line-requires-clause-id c =
    let front = c.loop-count.front in
    let back = c.loop-count.back in
    let lines = c.loop-count.lines in
    let n = c.loop-count.count in
    let so_far = c.loop-count.invariant in
    let all = front.items ++ reverse back.items in
    let place = c.args.first + n in
    let there = c.line_at.result.now in
    let here = c.index.result.now in
    let id = λ (line : LineState). line.id in
    let in_lines : n < length lines.items = omega (arith, c.len.ensures, c.if-count-len.true, lines.ok.0) in
    let in_all : place < length all = omega (arith, c.requires, so_far.4, so_far.5, c.loop-count-test.true, front.ok.0, back.ok.0, length-append front.items (reverse back.items), length-reverse back.items) in
    let same : here ≡ c.index_mut.result.now = c.index.ensures ∙ get_or_default lines.items n here c.index_mut.result.now in_lines ∙ sym c.index_mut.ensures.value in
    get_or-map id all place there 0 in_all ∙ ap id (get_or_from_slice_get all place there there c.line_at.ensures) ∙ sym (ap id c.behind-front.view_is) ∙ sym c.if-index-line_at.true
    ∙ ap id (c.behind-lines.view_is ∙ same)

pub loop-count-preserved : goal.loop-count-preserved
loop-count-preserved c =
    let front = c.loop-count.front in
    let back = c.loop-count.back in
    let lines = c.loop-count.lines in
    let n = c.loop-count.count in
    let all = front.items ++ reverse back.items in
    let so_far = c.loop-count.invariant in
    let x = c.index_mut.result.now in
    let in_lines : n < length lines.items = omega (arith, c.len.ensures, c.if-count-len.true, lines.ok.0) in
    let in_all : c.args.first + n < length all = omega (arith, c.requires, so_far.4, so_far.5, c.loop-count-test.true, front.ok.0, back.ok.0, length-append front.items (reverse back.items), length-reverse back.items) in
    let all₀ = c.args.front.now.items ++ reverse c.args.back.now.items in
    let P : List LineState → Type 0 = λ xs. IsPaired all₀ c.args.lines.now.items xs (set lines.items n c.swap_line.new.line) c.args.first (n + 1) in
    let read : x ≡ get_or lines.items n x = c.index_mut.ensures.value in (
      subst P (sym c.swap_line.ensures.lines)
          (IsPaired-more all₀ c.args.lines.now.items all lines.items c.args.first n x c.swap_line.new.line so_far.0 in_lines in_all read c.swap_line.ensures.line),
      omega (arith, c.loop-count-test.true),
      c.swap_line.ensures.front_ids ∙ so_far.2,
      c.swap_line.ensures.back_ids ∙ so_far.3,
      c.swap_line.ensures.front_len ∙ so_far.4,
      c.swap_line.ensures.back_len ∙ so_far.5,
      so_far.6,
      c.swap_line.ensures.front_room ∙ so_far.7,
      c.swap_line.ensures.back_room ∙ so_far.8,
      so_far.9,
    )

pub returns-else-index-line_at : goal.returns-else-index-line_at
returns-else-index-line_at c =
    let is = c.loop-count.invariant in
    record { paired = is.0; most = is.1; front_ids = is.2; back_ids = is.3; front_len = is.4; back_len = is.5; lines_len = is.6; front_room = is.7; back_room = is.8; lines_room = is.9 }

pub returns-else-count-len : goal.returns-else-count-len
returns-else-count-len c =
    let is = c.loop-count.invariant in
    record { paired = is.0; most = is.1; front_ids = is.2; back_ids = is.3; front_len = is.4; back_len = is.5; lines_len = is.6; front_room = is.7; back_room = is.8; lines_room = is.9 }

pub returns-after-loop-count : goal.returns-after-loop-count
returns-after-loop-count c =
    let is = c.loop-count.invariant in
    record { paired = is.0; most = is.1; front_ids = is.2; back_ids = is.3; front_len = is.4; back_len = is.5; lines_len = is.6; front_room = is.7; back_room = is.8; lines_room = is.9 }
