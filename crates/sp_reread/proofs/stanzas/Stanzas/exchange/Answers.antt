use Rattle.std.proofs.Common.{◌≡◌, ◌≤◌, ◌+◌, ◌∙◌, length, reverse, arith, ap}
use Rattle.std.proofs.lemmas.List.{length-append, length-reverse}
use Rattle.sp_reread.specs.Gaps.{gap_list}
use Rattle.sp_reread.specs.Cache.{StanzasState}
use Rattle.sp_reread.proofs.Exchanges.{put-back, PutBack}
use Rattle.sp_reread.proofs.stanzas.Stanzas.exchange.Goals as goal

list_is : (c : goal.After-exchange) → gap_list c.seek_stanza.new.front.stanzas c.seek_stanza.new.back.stanzas ≡ c.args.self.now.stanzas
list_is c = c.seek_stanza.ensures.same.stanzas ∙ ap (λ (x : StanzasState). x.stanzas) c.self-2.view_is

back_count : (c : goal.After-exchange) → c.args.stands ≤ length c.seek_stanza.new.back.stanzas
back_count c =
    let front = c.seek_stanza.new.front.stanzas in
    let back = c.seek_stanza.new.back.stanzas in
    omega (arith, c.requires.place, ap length (list_is c), length-append front (reverse back), length-reverse back, c.seek_stanza.ensures.at)

facts : (c : goal.After-exchange) → PutBack c.seek_stanza.new.front.stanzas c.seek_stanza.new.back.stanzas c.args.stanzas.now.items c.exchange.new.front.stanzas c.exchange.new.back.stanzas c.exchange.new.items.items c.args.self.now.stanzas c.args.at c.args.stands
facts c =
    put-back c.seek_stanza.new.front.stanzas c.seek_stanza.new.back.stanzas c.args.stanzas.now.items c.exchange.new.front.stanzas c.exchange.new.back.stanzas c.exchange.new.items.items c.args.self.now.stanzas c.args.at c.args.stands
    (record { put = c.exchange.ensures.put; left = c.exchange.ensures.left; count = c.exchange.ensures.count }) (list_is c) c.seek_stanza.ensures.at (back_count c)

pub invariant_of-self : goal.invariant_of-self
invariant_of-self c =
    let f = facts c in
    let front = c.seek_stanza.new.front.stanzas in
    let back = c.seek_stanza.new.back.stanzas in
    let room : length c.exchange.new.front.stanzas + length c.exchange.new.back.stanzas ≤ c.args.self.now.room =
    omega (arith, f.front_count, f.back_count, c.requires.room, back_count c, ap length (list_is c), length-append front (reverse back), length-reverse back, c.seek_stanza.ensures.at) in
    let rooms = ap (λ (x : StanzasState). x.room) c.self-2.view_is in (
      omega (arith, room, rooms, c.exchange.ensures.front_room, c.seek_stanza.ensures.same.front_room),
      omega (arith, room, rooms, c.exchange.ensures.back_room, c.seek_stanza.ensures.same.back_room),
      omega (arith, f.lines, c.requires.low),
    )

pub returns-clause-list : goal.returns-clause-list
returns-clause-list c = (facts c).list

pub returns-clause-out : goal.returns-clause-out
returns-clause-out c = (facts c).out
