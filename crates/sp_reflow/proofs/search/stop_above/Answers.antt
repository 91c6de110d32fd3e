use Rattle.std.proofs.Common.{sym, ap, ◌∙◌, arith, slice_get, unwrap_or}
use Rattle.std.proofs.lemmas.Grind.{common_steps}
use Rattle.std.proofs.lemmas.Option.{gets, unwrap_or-slice_get}
use Rattle.spec_edit.proofs.NearStops.{next_stop-find}
use Rattle.sp_reflow.proofs.Searches.{find-above}
use Rattle.sp_reflow.proofs.search.stop_above.Goals as goal

pub returns-in-Some : goal.returns-in-Some
returns-in-Some c =
    let e = ap (λ o. unwrap_or o c.args.rows) (find-above c.args.p c.args.stops.now ∙ ap (slice_get c.args.stops.now) (sym c.count_below-at.ensures.value)) ∙ unwrap_or-slice_get c.args.stops.now c.count_below-at.result c.args.rows in
    rw (next_stop-find c.args.rows c.args.stops.now c.args.p c.requires.stops c.requires.order ∙ e) (grind (arith, common_steps, gets))

pub returns-in-None : goal.returns-in-None
returns-in-None c =
    let e = ap (λ o. unwrap_or o c.args.rows) (find-above c.args.p c.args.stops.now ∙ ap (slice_get c.args.stops.now) (sym c.count_below-at.ensures.value)) ∙ unwrap_or-slice_get c.args.stops.now c.count_below-at.result c.args.rows in
    rw (next_stop-find c.args.rows c.args.stops.now c.args.p c.requires.stops c.requires.order ∙ e) (grind (arith, common_steps, gets))
