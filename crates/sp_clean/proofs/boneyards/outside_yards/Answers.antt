use Rattle.std.proofs.Common.{◌∙◌, ◌++◌, ◌||◌, ap, length, sym}
use Rattle.spec_script.specs.Marked.{covered, inside_after}
use Rattle.spec_script.specs.Boneyards.{yard_turns}
use Rattle.spec_script.specs.Spans.{part, runs_left, is_touched}
use Rattle.sp_clean.proofs.YardWalk.{no_cut, no_inside, no_touch, walked-turn, walked-inside, walked-on}
use Rattle.sp_clean.proofs.boneyards.outside_yards.Goals as goal

pub returns-then-not-contains-clause-kept : goal.returns-then-not-contains-clause-kept
returns-then-not-contains-clause-kept c =
    let bytes = c.args.bytes.now in
    let none = sym c.contains.ensures.value ∙ c.if-not-contains.true in
    let outside = ap (λ b. runs_left 0 0 (covered yard_turns b bytes)) c.if-not-inside.true in
    let whole = no_cut bytes none in
    let made = c.in_ok-push_part.ensures in
    let new = ap (λ l. l ++ part 0 (length bytes)) c.new-kept.ensures.items in
    made ∙ new ∙ whole ∙ sym outside

pub returns-then-not-contains-clause-inside : goal.returns-then-not-contains-clause-inside
returns-then-not-contains-clause-inside c =
    no_inside c.args.bytes.now (sym c.contains.ensures.value ∙ c.if-not-contains.true)
    ∙ sym (ap (λ b. inside_after yard_turns b c.args.bytes.now) c.if-not-inside.true)

pub returns-then-not-contains-clause-touched : goal.returns-then-not-contains-clause-touched
returns-then-not-contains-clause-touched c =
    no_touch c.args.bytes.now (sym c.contains.ensures.value ∙ c.if-not-contains.true)
    ∙ sym (ap (λ b. b || is_touched (covered yard_turns b c.args.bytes.now)) c.if-not-inside.true)

pub loop-at-preserved-then-turns : goal.loop-at-preserved-then-turns
loop-at-preserved-then-turns c = walked-turn _ _ _ _ _ _ _ _ c.loop-at.invariant (sym c.turns.ensures ∙ c.if-turns.true) c.in_ok-push_part-2.ensures

pub loop-at-preserved-then-inside : goal.loop-at-preserved-then-inside
loop-at-preserved-then-inside c = walked-inside _ _ _ _ _ _ _ c.loop-at.invariant c.loop-at-test.true (sym c.turns.ensures ∙ c.if-turns.false) c.if-inside.true

pub loop-at-preserved : goal.loop-at-preserved
loop-at-preserved c = walked-on _ _ _ _ _ _ _ c.loop-at.invariant c.loop-at-test.true (sym c.turns.ensures ∙ c.if-turns.false) c.if-inside.false
