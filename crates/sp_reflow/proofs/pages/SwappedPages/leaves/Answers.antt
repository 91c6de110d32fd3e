use Rattle.std.proofs.Common.{◌≡◌, ◌∙◌, ◌+◌, ◌-◌, take, drop, ap, sym, subst, arith}
use Rattle.std.proofs.lemmas.Bool.{OnTrue_from}
use Rattle.std.proofs.lemmas.Bool.Decides.{Decides-eqb}
use Rattle.std.proofs.lemmas.Slice.Eq.{slice_eq-Decides}
use Rattle.sp_reflow.specs.Starts.{Taken}
use Rattle.sp_reflow.specs.Updates.{CanPutBack, with_taken}
use Rattle.sp_reflow.proofs.Swaps.{exchanged-same}
use Rattle.sp_reflow.proofs.pages.SwappedPages.leaves.Goals as goal

pub returns : goal.returns
returns c =
    let starts = c.args.starts.now in
    let it = c.self.inside in
    let place = it.place in
    let can = subst (λ (t : Taken). CanPutBack starts t) (sym c.self.view_is) c.requires in
    let window = take (place + it.stands - place) (drop place starts) in
    OnTrue_from c.eq.result (with_taken starts c.args.self.now ≡ starts) (λ yes.
    let same : window ≡ c.as_slice.result.now = (slice_eq-Decides Decides-eqb window c.as_slice.result.now c.eq.result c.eq.ensures).0 yes in
    let those : it.starts.items ≡ take it.stands (drop place starts) = sym (same ∙ c.as_slice.ensures.value) ∙ ap (λ n. take n (drop place starts)) (omega arith) in
    ap (with_taken starts) (sym c.self.view_is) ∙ exchanged-same starts it.starts.items place it.stands it.less it.more can c.if-self.false those)
