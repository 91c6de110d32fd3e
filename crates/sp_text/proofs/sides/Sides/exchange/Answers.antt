use Rattle.std.proofs.Common.{◌≡◌, ◌+◌, ◌-◌, ◌≢◌, ◌≤◌, ◌++◌, List, AllPairs, length, reverse, vec_len, sym, ap, ap₂, ◌∙◌, subst, arith}
use Rattle.std.proofs.lemmas.List.{length-append, length-reverse}
use Rattle.spec_text.specs.Lines.{LineState}
use Rattle.spec_text.specs.Edits.{exchanged, stretch}
use Rattle.sp_text.specs.Gap.{GapState, least_room}
use Rattle.sp_text.specs.Index.{index_room}
use Rattle.sp_text.specs.Paired.{IsPaired}
use Rattle.sp_text.proofs.Exchanges.{exchanged-parts, out-parts, whole-parts}
use Rattle.sp_text.proofs.Rooms.{Indexes-same}
use Rattle.sp_text.proofs.sides.Sides.exchange.Goals as goal

-- How many lines stand on both sides.
sides : (front back all : List LineState) → front ++ reverse back ≡ all → length all ≡ length front + length back
sides front back all is = omega (arith, ap length is, length-append front (reverse back), length-reverse back)

pub exchange_told-requires : goal.exchange_told-requires
exchange_told-requires c =
    let a = c.args in
    let old = c.self.inside in
    let lines = a.lines.now.items in
    let is = c.swap_paired-paired.ensures in
    let left = c.swap_paired-paired.new.lines in
    let count = c.swap_paired-paired.result in
    let after = c.swap_paired-paired.new.front.items ++ reverse c.swap_paired-paired.new.back.items in
    let moved = c.seek.ensures in
    let P : GapState → Type 0 = λ g. IsPaired g.lines lines after left.items a.first count in
    let Q : List LineState → Type 0 = λ lines. AllPairs (λ (one other : LineState). one.id ≢ other.id) lines in
    let paired = subst P c.self.view_is is.paired in
    let room = ap (λ (g : GapState). g.room) c.self.view_is in
    let all : length a.self.now.lines ≡ vec_len c.seek.new.front + vec_len c.seek.new.back = omega (arith, sides old.front.items old.back.items a.self.now.lines (ap (λ (g : GapState). g.lines) c.self.view_is), old.front.ok.0, old.back.ok.0, moved.total, is.front_len, is.back_len) in
    let few : vec_len c.seek.new.front + (vec_len left - count) + (vec_len c.seek.new.back - (a.stands - count)) ≤ a.self.now.room = omega (arith, all, moved.place, c.requires.place, c.requires.room, is.most, is.lines_len, a.lines.now.ok.0, paired.within) in
    record {
      kept = omega (arith, paired.within, is.lines_len, a.lines.now.ok.0);
      there = omega (arith, all, moved.place, c.requires.place, is.most);
      lines_room = omega (arith, is.most, is.lines_room, c.requires.lines_room);
      in_front = omega (arith, few, room, moved.front_room, is.front_room);
      in_index = omega (arith, few, room, moved.index_len);
      index = moved.index;
      distinct = subst Q (sym (exchanged-parts a.self.now.lines lines after left.items a.first a.stands count c.requires.place paired is.most c.seek.new.front.items c.seek.new.back.items moved.lines (sym c.seek.new.front.ok.0 ∙ moved.place))) c.requires.distinct;
    }

pub returns-clause-lines : goal.returns-clause-lines
returns-clause-lines c =
    let lines = c.args.lines.now.items in
    let left = c.swap_paired-paired.new.lines.items in
    let count = c.swap_paired-paired.result in
    let after = c.swap_paired-paired.new.front.items ++ reverse c.swap_paired-paired.new.back.items in
    let P : GapState → Type 0 = λ g. IsPaired g.lines lines after left c.args.first count in
    c.exchange_told.ensures.lines ∙ exchanged-parts c.args.self.now.lines lines after left c.args.first c.args.stands count c.requires.place (subst P c.self.view_is c.swap_paired-paired.ensures.paired) c.swap_paired-paired.ensures.most c.seek.new.front.items c.seek.new.back.items c.seek.ensures.lines (sym c.seek.new.front.ok.0 ∙ c.seek.ensures.place)

pub returns-clause-out : goal.returns-clause-out
returns-clause-out c =
    let lines = c.args.lines.now.items in
    let left = c.swap_paired-paired.new.lines.items in
    let count = c.swap_paired-paired.result in
    let after = c.swap_paired-paired.new.front.items ++ reverse c.swap_paired-paired.new.back.items in
    let P : GapState → Type 0 = λ g. IsPaired g.lines lines after left c.args.first count in
    c.exchange_told.ensures.out ∙ out-parts c.args.self.now.lines lines after left c.args.first c.args.stands count c.requires.place (subst P c.self.view_is c.swap_paired-paired.ensures.paired) c.swap_paired-paired.ensures.most c.seek.new.front.items c.seek.new.back.items c.seek.ensures.lines (sym c.seek.new.front.ok.0 ∙ c.seek.ensures.place)

-- Where all are paired.
whole : (c : goal.Then-paired-max) → (c.swap_paired-paired.new.front.items ++ reverse c.swap_paired-paired.new.back.items ≡ exchanged c.args.self.now.lines c.args.first c.args.stands c.args.lines.now.items) × (c.swap_paired-paired.new.lines.items ≡ stretch c.args.self.now.lines c.args.first c.args.stands)
whole c =
    let lines = c.args.lines.now in
    let swap = c.swap_paired-paired in
    let after = swap.new.front.items ++ reverse swap.new.back.items in
    let P : GapState → Type 0 = λ g. IsPaired g.lines lines.items after swap.new.lines.items c.args.first swap.result in
    let paired = subst P c.self.view_is swap.ensures.paired in
    let all : swap.result ≡ c.args.stands = omega (arith, c.if-paired-max.true, c.max.ensures, swap.ensures.most) in
    let few : length lines.items ≤ swap.result = omega (arith, c.if-paired-max.true, c.max.ensures, c.len.ensures, swap.ensures.lines_len, lines.ok.0) in
    whole-parts c.args.self.now.lines lines.items after swap.new.lines.items c.args.first c.args.stands swap.result c.requires.place paired swap.ensures.most all few

pub returns-then-paired-max-clause-lines : goal.returns-then-paired-max-clause-lines
returns-then-paired-max-clause-lines c = (whole c).0

pub returns-then-paired-max-clause-out : goal.returns-then-paired-max-clause-out
returns-then-paired-max-clause-out c = (whole c).1

pub returns-then-paired-max-clause-kept_room : goal.returns-then-paired-max-clause-kept_room
returns-then-paired-max-clause-kept_room c =
    ap₂ (λ front back. least_room front back (index_room c.self.inside.index)) c.swap_paired-paired.ensures.front_room c.swap_paired-paired.ensures.back_room ∙ ap (λ (g : GapState). g.room) c.self.view_is

pub invariant_of-self : goal.invariant_of-self
invariant_of-self c =
    let was = c.self.invariant in
    let is = c.swap_paired-paired.ensures in
    let front = c.swap_paired-paired.new.front.ok.0 in
    let back = c.swap_paired-paired.new.back.ok.0 in
    let old_front = c.self.inside.front.ok.0 in
    let old_back = c.self.inside.back.ok.0 in
    let many : length c.swap_paired-paired.new.front.items + length c.swap_paired-paired.new.back.items ≡ length c.self.inside.front.items + length c.self.inside.back.items = omega (arith, is.front_len, is.back_len, front, back, old_front, old_back) in
    record {
      indexes = Indexes-same c.self.inside.front.items c.self.inside.back.items _ _ c.self.inside.index is.front_ids is.back_ids was.indexes;
      in_front = omega (arith, was.in_front, many, is.front_room);
      in_back = omega (arith, was.in_back, many, is.back_room);
      in_index = omega (arith, many, was.in_index);
    }

pub seek-requires-clause-index : goal.seek-requires-clause-index
seek-requires-clause-index c =
    let is = c.swap_paired-paired.ensures in
    Indexes-same c.self.inside.front.items c.self.inside.back.items _ _ c.self.inside.index is.front_ids is.back_ids c.self.invariant.indexes

pub seek-requires-clause-few : goal.seek-requires-clause-few
seek-requires-clause-few c =
    let is = c.swap_paired-paired.ensures in
    omega (arith, is.front_len, is.back_len, c.self.inside.front.ok.0, c.self.inside.back.ok.0, c.self.invariant.in_index, c.self.invariant.indexes.table.few)

pub invariant_of-self-2 : goal.invariant_of-self-2
invariant_of-self-2 c =
    let a = c.args in
    let old = c.self.inside in
    let is = c.swap_paired-paired.ensures in
    let moved = c.seek.ensures in
    let put = c.exchange_told.ensures in
    let front = c.exchange_told.new.front in
    let back = c.exchange_told.new.back in
    let room = ap (λ (g : GapState). g.room) c.self.view_is in
    let all : length a.self.now.lines ≡ vec_len c.seek.new.front + vec_len c.seek.new.back = omega (arith, sides old.front.items old.back.items a.self.now.lines (ap (λ (g : GapState). g.lines) c.self.view_is), old.front.ok.0, old.back.ok.0, moved.total, is.front_len, is.back_len) in
    let few : length front.items + length back.items ≤ a.self.now.room = omega (arith, all, moved.place, c.requires.place, c.requires.room, is.most, is.lines_len, a.lines.now.ok.0, put.total, front.ok.0, back.ok.0) in
    record {
      indexes = put.index;
      in_front = omega (arith, few, room, put.front_room, moved.front_room, is.front_room);
      in_back = omega (arith, few, room, put.back_room, moved.back_room, is.back_room);
      in_index = omega (arith, few, room, put.index_len, moved.index_len);
    }
