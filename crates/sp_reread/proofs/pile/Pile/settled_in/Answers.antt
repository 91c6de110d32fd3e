use Rattle.std.proofs.Common.{◌≡◌, ◌+◌, ◌-◌, ◌≤◌, arith, refl, length, map, subst}
use Rattle.std.proofs.lemmas.List.{length-map}
use Rattle.std.proofs.lemmas.Option.{slice_get_read}
use Rattle.spec_edit.specs.Settling.{IsSettledBefore}
use Rattle.sp_reread.specs.Piles.{stanza_in}
use Rattle.sp_reread.proofs.pile.Pile.settled_in.Goals as goal

pub returns-else-count-eq0 : goal.returns-else-count-eq0
returns-else-count-eq0 c =
    let entries = c.self.inside.entries.items in
    let low : c.args.count ≤ length (map stanza_in entries) = rw (← c.self.view_is) at c.requires in
    let get = slice_get_read entries (length entries) (c.args.count - 1) c.index-entry.result.now refl (omega (arith, low, length-map entries stanza_in, c.if-count-eq0.false)) c.index-entry.ensures in
    let count : c.args.count - 1 + 1 ≡ c.args.count = omega (arith, c.if-count-eq0.false) in
    let at = subst (λ n. IsSettledBefore (map stanza_in entries) n c.index-entry.result.now.settled) count (c.self.invariant.1.each (c.args.count - 1) c.index-entry.result.now get) in
    rw (← c.self.view_is) (rw (← c.entry.view_is) at at)
