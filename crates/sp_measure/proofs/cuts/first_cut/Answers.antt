-- What fits is known, so the cut is at the last break up to there, or there.
use Rattle.std.proofs.Common.{◌<◌, length, max, unwrap_or, option_map, sym, ap, subst, ◌∙◌, arith}
use Rattle.spec_pages.specs.declared.Cut.TheVariants.{AtSpace, Inside}
use Rattle.spec_pages.proofs.CutLemmas.{IsOver, Shortens, Shortens-first_cut, first_cut-over}
use Rattle.sp_measure.proofs.cuts.first_cut.Goals as goal

pub returns-in-Some : goal.returns-in-Some
returns-in-Some g c =
    let clusters = g.C.ClusterList.clusters c.args.clusters.now in
    let place = c.fitting-place.result in
    let fits = c.fitting-place.ensures in
    let inside : place < length clusters = omega arith in
    let over : IsOver c.args.width clusters place = record { inside = inside; fit = fits.fit; over = fits.over inside } in
    let value = first_cut-over c.args.width clusters place over
    ∙ ap (λ o. unwrap_or (option_map AtSpace o) (Inside (max place 1))) (sym c.last_break.ensures ∙ c.in-Some.is) in
    let short = subst (Shortens clusters) value (Shortens-first_cut c.args.width clusters) in
    record { value = sym value; within = short.within; shorter = short.shorter }

pub returns-in-None-clause-value : goal.returns-in-None-clause-value
returns-in-None-clause-value g c =
    let clusters = g.C.ClusterList.clusters c.args.clusters.now in
    let place = c.fitting-place.result in
    let fits = c.fitting-place.ensures in
    let inside : place < length clusters = omega arith in
    let over : IsOver c.args.width clusters place = record { inside = inside; fit = fits.fit; over = fits.over inside } in
    sym (first_cut-over c.args.width clusters place over
    ∙ ap (λ o. unwrap_or (option_map AtSpace o) (Inside (max place 1))) (sym c.last_break.ensures ∙ c.in-None.is)
    ∙ ap Inside (sym c.max.ensures))
