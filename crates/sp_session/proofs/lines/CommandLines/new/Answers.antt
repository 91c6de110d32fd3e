use Rattle.std.proofs.Common.{◌≡◌, ◌+◌, ◌≤◌, length, ap, arith}
use Rattle.spec_session.specs.CommandLines.{command_count_limit, command_lines, without_last}
use Rattle.sp_session.proofs.BufferLaws.{plain-none}
use Rattle.sp_session.proofs.lines.CommandLines.new.Goals as goal

pub invariant_of-result : goal.invariant_of-result
invariant_of-result c =
    let none : length (command_lines (without_last c.in_ok-bytes.bytes.items)) ≡ 0 = ap (λ bytes. length (command_lines (without_last bytes))) c.in_ok-bytes.ensures.items in
    record {
      line = omega arith;
      line_within = omega arith;
      order = omega arith;
      within = omega arith;
      plain = plain-none c.in_ok-bytes.bytes.items 0;
      room = c.in_ok-bytes.ensures.capacity;
      piece_is = c.in_ok-piece.ensures.len;
      low = let e = c.in_ok-bytes.ensures.len in omega (arith, e);
      few = let e : 0 + length (command_lines (without_last c.in_ok-bytes.bytes.items)) ≤ command_count_limit = omega (arith, none) in e;
    }
