use Rattle.std.proofs.Common.{◌≡◌, ◌≤◌, ◌+◌, ◌-◌, ◌++◌, [], length, take, drop, slice_range, refl, sym, ap, ◌∙◌, arith, append-nil, length-drop, drop_at, take_all}
use Rattle.sp_gap.specs.Runs.{exchanged}
use Rattle.sp_gap.specs.Gaps.{turned}
use Rattle.sp_gap.proofs.RingLaws.{fewer-round, more-round, turned-length}
use Rattle.sp_gap.proofs.gap_list.exchange_items.Goals as goal

pub returns-then-run-count : goal.returns-then-run-count
returns-then-run-count g c =
    let a = c.args in
    let list = turned a.behind.now a.ring.now.items in
    let items = a.items.now.items in
    let ring = c.seek.new.ring.items in
    let left = c.swap_run.new.items.items in
    let behind = c.seek.new.behind in
    let run = a.to - a.from in
    let len = turned-length a.ring.now.items a.behind.now (omega arith) in
    let both : c.min-both.result ≡ run = omega arith in
    let rest : c.swap_run.new.items.len - (c.len-count.result - run) ≡ run = omega arith in
    let both_lists = more-round list items (turned a.behind.now c.swap_run.new.ring.items) left ring c.hand_in.new.ring.items c.hand_in.new.items.items a.from a.to run behind c.requires.order (omega (arith, len)) refl (omega arith)
    (c.swap_run.ensures.list ∙ ap (λ n. exchanged list a.from (a.from + n) (take n items)) both)
    (c.swap_run.ensures.items ∙ ap (λ n. slice_range list a.from (a.from + n) ++ drop n items) both)
    c.seek.ensures.items (omega (arith, length-drop behind ring)) (omega arith)
    (c.hand_in.ensures.ring ∙ ap (λ n. ring ++ drop n left) rest)
    (c.hand_in.ensures.items ∙ ap (λ n. take n left) rest) in
    record {
      list = both_lists.0;
      items = both_lists.1;
      behind = omega arith;
      room = omega arith;
      items_room = omega arith;
    }

pub returns : goal.returns
returns g c =
    let a = c.args in
    let list = turned a.behind.now a.ring.now.items in
    let items = a.items.now.items in
    let ring = c.seek.new.ring.items in
    let left = c.swap_run.new.items.items in
    let behind = c.seek.new.behind in
    let count = c.len-count.result in
    let len = turned-length a.ring.now.items a.behind.now (omega arith) in
    let both : c.min-both.result ≡ count = omega arith in
    let all : length items ≤ count = omega arith in
    let none : drop count items ≡ [] = ap (drop count) (sym (append-nil items)) ∙ drop_at items [] count (omega arith) in
    let cut : c.seek.new.ring.len - (a.to - a.from - count) ≡ behind + (a.from + count) = omega arith in
    let both_lists = fewer-round list items (turned a.behind.now c.swap_run.new.ring.items) left ring c.hand_out.new.ring.items c.hand_out.new.items.items a.from a.to count behind c.requires.order (omega (arith, len)) (omega arith) (omega arith)
    (c.swap_run.ensures.list ∙ ap (λ n. exchanged list a.from (a.from + n) (take n items)) both ∙ ap (exchanged list a.from (a.from + count)) (take_all count items all))
    (c.swap_run.ensures.items ∙ ap (λ n. slice_range list a.from (a.from + n) ++ drop n items) both ∙ ap (λ xs. slice_range list a.from (a.from + count) ++ xs) none ∙ append-nil (slice_range list a.from (a.from + count)))
    c.seek.ensures.items (omega (arith, length-drop behind ring)) (omega arith)
    (c.hand_out.ensures.ring ∙ ap (λ n. take n ring) cut)
    (c.hand_out.ensures.items ∙ ap (λ n. left ++ drop n ring) cut) in
    record {
      list = both_lists.0;
      items = both_lists.1;
      behind = omega arith;
      room = omega arith;
      items_room = omega arith;
    }
