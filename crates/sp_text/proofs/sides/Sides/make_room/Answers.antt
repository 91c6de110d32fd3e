use Rattle.std.proofs.Common.{◌≡◌, ◌≤◌, ◌++◌, List, length, reverse, refl, sym, ap, ap₂, ◌∙◌, arith, vec_capacity}
use Rattle.std.specs.declared.alloc.Global.{Global}
use Rattle.std.specs.declared.vec.Vec.{Vec}
use Rattle.spec_text.specs.Lines.{LineState}
use Rattle.spec_text.specs.Edits.{line_ids}
use Rattle.sp_text.specs.declared.index.Entry.{Entry}
use Rattle.sp_text.specs.declared.index.Side.TheVariants.{Front}
use Rattle.sp_text.specs.Gap.{AreSides, GapState}
use Rattle.sp_text.specs.Index.{Indexes, index_room}
use Rattle.sp_text.proofs.Rooms.{Indexes-same}
use Rattle.sp_text.proofs.sides.Sides.make_room.Goals as goal

-- The same lines with more room.
roomier : (front back front_now back_now : Vec LineState Global) (index index_now : List Entry) → front_now.items ≡ front.items → back_now.items ≡ back.items → Indexes Front (line_ids front_now.items) (line_ids back_now.items) index_now → vec_capacity front ≤ vec_capacity front_now → vec_capacity back ≤ vec_capacity back_now → index_room index ≤ index_room index_now → AreSides front back index → AreSides front_now back_now index_now
roomier front back front_now back_now index index_now front_is back_is indexes more_front more_back more sides =
    let front_len = ap (λ (xs : List LineState). length xs) front_is in
    let back_len = ap (λ (xs : List LineState). length xs) back_is in
    record {
      indexes = indexes;
      in_front = omega (arith, front_len, back_len, sides.in_front, more_front);
      in_back = omega (arith, front_len, back_len, sides.in_back, more_back);
      in_index = omega (arith, front_len, back_len, sides.in_index, more);
    }

-- The index of the same lines.
same-lines : (front back front_now back_now : List LineState) (index : List Entry) → front_now ≡ front → back_now ≡ back → Indexes Front (line_ids front) (line_ids back) index → Indexes Front (line_ids front_now) (line_ids back_now) index
same-lines front back front_now back_now index front_is back_is = Indexes-same front back front_now back_now index (ap line_ids front_is) (ap line_ids back_is)

pub returns-clause-lines : goal.returns-clause-lines
returns-clause-lines c =
    ap₂ (λ (front back : List LineState). front ++ reverse back) c.in_ok-make_room.ensures.items c.in_ok-make_room-2.ensures.items ∙ ap (λ (g : GapState). g.lines) c.self.view_is

pub returns-clause-grows : goal.returns-clause-grows
returns-clause-grows c =
    omega (arith, ap (λ (g : GapState). g.room) c.self.view_is, c.in_ok-make_room.ensures.room, c.in_ok-make_room-2.ensures.room, c.make_room-3.ensures.grows)

pub invariant_of-self : goal.invariant_of-self
invariant_of-self c =
    let old = c.self.inside in
    let one = c.make_room.ensures in
    let indexes = same-lines old.front.items old.back.items c.make_room.new.list.items old.back.items old.index one.items refl c.self.invariant.indexes in
    roomier old.front old.back _ _ old.index old.index one.items refl indexes one.room (omega arith) (omega arith) c.self.invariant

pub invariant_of-self-in_err-make_room-2 : goal.invariant_of-self-in_err-make_room-2
invariant_of-self-in_err-make_room-2 c =
    let old = c.self.inside in
    let one = c.make_room.ensures in
    let two = c.make_room-2.ensures in
    let indexes = same-lines old.front.items old.back.items c.make_room.new.list.items c.make_room-2.new.list.items old.index one.items two.items c.self.invariant.indexes in
    roomier old.front old.back _ _ old.index old.index one.items two.items indexes one.room two.room (omega arith) c.self.invariant

pub invariant_of-self-2 : goal.invariant_of-self-2
invariant_of-self-2 c =
    let old = c.self.inside in
    let one = c.make_room.ensures in
    let two = c.make_room-2.ensures in
    let three = c.make_room-3.ensures in
    let indexes = same-lines c.as_slice.result.now c.as_slice-2.result.now c.make_room.new.list.items c.make_room-2.new.list.items c.make_room-3.new.self (sym c.as_slice.ensures.value) (sym c.as_slice-2.ensures.value) three.indexes in
    roomier old.front old.back _ _ old.index c.make_room-3.new.self one.items two.items indexes one.room two.room three.grows c.self.invariant
