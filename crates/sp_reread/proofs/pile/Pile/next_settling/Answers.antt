use Rattle.std.proofs.Common.{◌≡◌, ◌+◌, false, true, slice_range, subst, sym, ◌∙◌, arith}
use Rattle.std.specs.List.{list_any}
use Rattle.spec_edit.specs.Settling.{stanza_settles}
use Rattle.sp_reread.proofs.SettlingLaws.{none-behind, settled-none, settled-past, settles-here, settles-none}
use Rattle.sp_reread.proofs.pile.Pile.next_settling.Goals as goal

pub returns-then-settled_in-from-clause-none : goal.returns-then-settled_in-from-clause-none
returns-then-settled_in-from-clause-none c =
    let stanzas = c.args.self.now.stanzas in
    let none = settled-none stanzas c.len-count.result c.settled_in.result c.args.from c.settled_in.ensures c.if-settled_in-from.true (omega (arith, c.requires, c.len-count.ensures.len)) in
    sym (none-behind stanzas c.args.from) ∙ subst (λ n. list_any stanza_settles (slice_range stanzas c.args.from n) ≡ false) c.len-count.ensures.len none

pub loop-high-init : goal.loop-high-init
loop-high-init c = record {
  from = omega arith;
  order = omega (arith, c.settled_in.ensures.within, c.if-settled_in-from.false);
  within = omega (arith, c.len-count.ensures.len);
  none = settles-none c.args.self.now.stanzas c.args.from;
  some = settled-past c.args.self.now.stanzas c.len-count.result c.settled_in.result c.args.from c.settled_in.ensures (omega (arith, c.if-settled_in-from.false));
}

pub loop-high-preserved-then-settled_in-from-2 : goal.loop-high-preserved-then-settled_in-from-2
loop-high-preserved-then-settled_in-from-2 c = record {
  from = c.loop-high.invariant.from;
  order = omega arith;
  within = omega (arith, c.loop-high.invariant.within);
  none = c.loop-high.invariant.none;
  some = settled-past c.args.self.now.stanzas _ c.settled_in-in-loop-high.result c.args.from c.settled_in-in-loop-high.ensures (omega (arith, c.if-settled_in-from-2.true));
}

pub loop-high-preserved : goal.loop-high-preserved
loop-high-preserved c = record {
  from = omega (arith, c.loop-high.invariant.from);
  order = omega arith;
  within = c.loop-high.invariant.within;
  none = settled-none c.args.self.now.stanzas _ c.settled_in-in-loop-high.result c.args.from c.settled_in-in-loop-high.ensures c.if-settled_in-from-2.false (omega (arith, c.loop-high.invariant.from));
  some = c.loop-high.invariant.some;
}

pub returns-clause-some : goal.returns-clause-some
returns-clause-some c =
    let stanzas = c.args.self.now.stanzas in
    let low = c.loop-high.low in
    let i = c.loop-high.invariant in
    let next : c.loop-high.high ≡ low + 1 = omega (arith, c.loop-high-test.false, i.order) in
    let some = subst (λ n. list_any stanza_settles (slice_range stanzas c.args.from n) ≡ true) next i.some in
    record {
      behind = i.from;
      within = omega (arith, i.order, i.within);
      settles = settles-here stanzas c.args.from low (low + 1) i.from (omega arith) i.none some;
      first = i.none;
    }
