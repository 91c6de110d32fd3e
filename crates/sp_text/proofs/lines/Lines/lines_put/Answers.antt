use Rattle.std.proofs.Common.{◌+◌, ◌-◌, cond, ltb, ◌++◌, length, get_or, drop, map, string_bytes, vec_len, refl, sym, ap, ◌∙◌, arith}
use Rattle.std.proofs.lemmas.List.{length-map}
use Rattle.std.specs.Vec.Iter.{into_iter_items}
use Rattle.spec_text.specs.Lines.{LineState}
use Rattle.spec_text.specs.Edits.{Replacement, line_ids, lines_put, stretch}
use Rattle.spec_text.proofs.ExchangeLaws.{length-stretch}
use Rattle.sp_text.proofs.Sizes.{lines_put-more}
use Rattle.sp_text.proofs.lines.Lines.lines_put.Goals as goal

pub loop-text-preserved : goal.loop-text-preserved
loop-text-preserved c =
    let so_far = c.loop-text.invariant in
    let text = c.args.self.now in
    let first = c.it.inside.first in
    let old = c.it.inside.old in
    let ids = stretch (line_ids text.lines) first old in
    let done = c.loop-text.lines in
    let raw = string_bytes c.in-Some.text in
    let rest = map string_bytes (into_iter_items c.next.new.self) in
    let cut = c.in-Some.ensures.steps.0 in
    let pushed = c.in_ok-push.ensures in
    let line : LineState = record { id = c.id_put-id.result; mark = c.args.round; text = raw } in
    let many = length-stretch (line_ids text.lines) first old (omega (arith, c.requires.place, length-map text.lines (λ (l : LineState). l.id), ap (λ (r : Replacement). r.first) c.it.view_is, ap (λ (r : Replacement). r.old) c.it.view_is)) in
    let id_is = c.id_put-id.ensures ∙ ap (λ n. cond (ltb n old) (get_or ids n 0) (text.next + (n - old))) c.len-in-loop-text.ensures in
    let before = ap (λ texts. done.items ++ lines_put (drop (vec_len done) ids) (text.next + (vec_len done - old)) line.mark (map string_bytes texts)) (sym cut) ∙ so_far.2 in
    let after = lines_put-more ids text.next line.mark old (vec_len done) line.id line raw rest done.items c.push.new.self.items _ many id_is refl pushed.items before in (
      tt,
      tt,
      ap (λ n. c.push.new.self.items ++ lines_put (drop n ids) (text.next + (n - old)) line.mark rest) pushed.len ∙ after,
      omega (arith, pushed.capacity, so_far.3),
      omega (arith, so_far.4, pushed.len, ap length cut),
    )
