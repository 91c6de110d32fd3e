use Rattle.std.proofs.Common.{◌≤◌, ◌-◌, ◌++◌, ◌∷◌, [], Some, ◌∙◌, arith}
use Rattle.std.proofs.lemmas.List.Elements.{All-pop, All-push, All-same}
use Rattle.sp_gap.proofs.GapPlaceLaws.{poured-same, poured-back}
use Rattle.sp_gap.proofs.gap_places.pour_mirrored.Goals as goal

pub loop-preserved : goal.loop-preserved
loop-preserved c =
    let end = c.args.end in
    let place = c.take_last.result in
    let kept = c.loop.invariant in
    let popped = All-pop (λ n. n ≤ end) c.loop.source.items c.take_last.new.self.items (Some place) c.take_last.ensures.items kept.from_low in
    record {
      same = poured-same c.loop.target.items c.loop.source.items c.push_reserved.new.self.items c.take_last.new.self.items place end c.take_last.ensures.items c.push_reserved.ensures.items ∙ kept.same;
      back = poured-back c.loop.target.items c.loop.source.items c.push_reserved.new.self.items c.take_last.new.self.items place end popped.1 c.take_last.ensures.items c.push_reserved.ensures.items ∙ kept.back;
      from_len = omega arith;
      to_len = omega arith;
      from_low = popped.0;
      to_low = All-same (λ n. n ≤ end) c.push_reserved.new.self.items (c.loop.target.items ++ (end - place) ∷ []) c.push_reserved.ensures.items (All-push (λ n. n ≤ end) c.loop.target.items (end - place) kept.to_low (omega arith));
      from_room = omega arith;
      to_room = omega arith;
    }
