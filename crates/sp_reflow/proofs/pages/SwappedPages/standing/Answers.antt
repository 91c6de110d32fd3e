use Rattle.std.proofs.Common.{◌≡◌, length, ap, arith}
use Rattle.sp_reflow.specs.Starts.{Taken}
use Rattle.sp_reflow.proofs.StandingLaws.{behind-found}
use Rattle.sp_reflow.proofs.pages.SwappedPages.standing.Goals as goal

pub returns-then-self-len-clause-behind : goal.returns-then-self-len-clause-behind
returns-then-self-len-clause-behind c starts can =
    let it = c.args.self.now in
    let place = ap (λ (t : Taken). t.place) c.self.view_is in
    let stands = ap (λ (t : Taken). t.stands) c.self.view_is in
    let those = ap (λ (t : Taken). t.starts) c.self.view_is in
    let less = ap (λ (t : Taken). t.less) c.self.view_is in
    let more = ap (λ (t : Taken). t.more) c.self.view_is in
    let many : it.stands ≡ length it.starts = omega (arith, c.if-self-len.true, c.len.ensures, c.self.inside.starts.ok.0, stands, ap length those) in
    behind-found starts it c.self.inside.place c.self.inside.stands c.self.inside.less c.self.inside.more c.checked_add-behind.result can place stands less more many c.checked_add-behind.ensures
