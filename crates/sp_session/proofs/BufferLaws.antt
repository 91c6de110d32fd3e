-- Bytes that are cut into lines, by places.
use Rattle.std.proofs.Common.{◌≡◌, ◌≢◌, ℕ, ◌+◌, ◌-◌, ◌<◌, ◌≤◌, true, false, cond, List, [], ◌∷◌, ◌++◌, length, take, drop, get_or, refl, sym, ap, ◌∙◌, subst, arith, append_assoc, length-append, Some, None, inl, inr}
use Rattle.std.specs.Prelude.{slice_range, position, nat_lt, vec_len}
use Rattle.std.specs.declared.option.Option.{Option}
use Rattle.std.specs.declared.vec.Vec.{Vec}
use Rattle.std.specs.declared.alloc.Global.{Global}
use Rattle.std.specs.List.{position_or_len}
use Rattle.std.proofs.lemmas.Bool.{cases_lt}
use Rattle.std.proofs.lemmas.Bool.Decides.{nat_tests}
use Rattle.std.proofs.lemmas.List.{append-nil, get_or_default, get_or-take, get_or-drop, length-take, length-drop, drop-drop, drop_more, take_rest, take-append-drop}
use Rattle.std.proofs.lemmas.List.Quantifiers.{position-Some}
use Rattle.std.proofs.lemmas.List.Sums.{fails_before_first}
use Rattle.std.proofs.lemmas.List.Elements.{All-nil, All-cons}
use Rattle.spec_session.specs.CommandLines.{command_count_limit, is_feed, HasNoFeed, command_lines, ended, without_last}
use Rattle.spec_session.proofs.CutLaws.{command_lines-behind}
use Rattle.spec_session.proofs.LimitLaws.{last-behind}
use Rattle.sp_session.specs.CutState.{CutState, HasBudget, HandsOut, HasNoLine}
use Rattle.sp_session.specs.Buffered.{IsBuffered}

feed-is : (byte : ℕ) → is_feed byte ≡ true → byte ≡ 10
feed-is byte is = grind (arith, nat_tests)

feed-differs : (byte : ℕ) → is_feed byte ≡ false → byte ≢ 10
feed-differs byte other = grind (arith, nat_tests)

-- An element of a part.
part-at : (bytes : List ℕ) (from to place d : ℕ) → from + place < to → get_or (slice_range bytes from to) place d ≡ get_or bytes (from + place) d
part-at bytes from to place d low = get_or-take (to - from) (drop from bytes) place d (omega (arith, low)) ∙ get_or-drop from bytes place d

part-low : (bytes : List ℕ) (from to place : ℕ) → place < length (slice_range bytes from to) → (from + place < to) × (from + place < length bytes)
part-low bytes from to place low =
    let a = length-take (to - from) (drop from bytes) in let b = length-drop from bytes in (omega (arith, a, low), omega (arith, a, b, low))

-- A part without line feeds and bytes behind it that are none.
pub plain-on : (bytes : List ℕ) (from mid to : ℕ) → HasNoFeed (slice_range bytes from mid) → from ≤ mid
    → ((place : ℕ) → mid ≤ place → place < to → place < length bytes → is_feed (get_or bytes place 0) ≡ false) → HasNoFeed (slice_range bytes from to)
plain-on bytes from mid to plain order later place d low =
    let (below, within) = part-low bytes from to place low in
    let size = length-take (mid - from) (drop from bytes) in
    let rest = length-drop from bytes in
    elim (cases_lt (from + place) mid) [
      | inl early ↦ λ is. plain place d (omega (arith, size, rest, early, within)) (part-at bytes from mid place d early ∙ sym (part-at bytes from to place d below) ∙ is)
      | inr late ↦ λ is. feed-differs (get_or bytes (from + place) 0) (later (from + place) late below within)
          (get_or_default bytes (from + place) 0 d within ∙ sym (part-at bytes from to place d below) ∙ is)
    ]

pub plain-none : (bytes : List ℕ) (at : ℕ) → HasNoFeed (slice_range bytes at at)
plain-none bytes at place d low = let a = part-low bytes at at place low in absurd (omega (arith, a))

-- ---- the next line feed

-- The line that ends at this place.
pub record Found (bytes : List ℕ) (from to : ℕ) : Type 0 where
  pub within : to < length bytes
  pub plain : HasNoFeed (slice_range bytes from to)
  pub split : drop from bytes ≡ slice_range bytes from to ++ 10 ∷ drop (to + 1) bytes

pub found : (bytes : List ℕ) (from scanned place : ℕ) → from ≤ scanned → HasNoFeed (slice_range bytes from scanned) → position is_feed (drop scanned bytes) ≡ Some place
    → Found bytes from (scanned + place)
found bytes from scanned place order plain is =
    let it = position-Some is_feed (drop scanned bytes) place 0 is in
    let size = length-drop scanned bytes in
    let within : scanned + place < length bytes = omega (arith, size, it.0) in
    let here : get_or bytes (scanned + place) 0 ≡ 10 = feed-is (get_or bytes (scanned + place) 0) (ap is_feed (sym (get_or-drop scanned bytes place 0)) ∙ it.1) in
    let to = scanned + place in
    record {
      within = within;
      plain = plain-on bytes from scanned to plain order (λ k late early low.
          let off : scanned + (k - scanned) ≡ k = omega (arith, late) in
          ap (λ n. is_feed (get_or bytes n 0)) (sym off) ∙ ap is_feed (sym (get_or-drop scanned bytes (k - scanned) 0)) ∙ it.2 (k - scanned) (omega (arith, late, early)));
      split =
          let on : from + (to - from) ≡ to = omega (arith, order) in
          sym (take-append-drop (to - from) (drop from bytes))
          ∙ ap (λ rest. slice_range bytes from to ++ rest) (drop-drop (to - from) from bytes ∙ ap (λ n. drop n bytes) on ∙ drop_more bytes to 0 within ∙ ap (λ byte. byte ∷ drop (to + 1) bytes) here);
    }

none-passes : (bytes : List ℕ) → position is_feed bytes ≡ None → length bytes ≤ position_or_len is_feed bytes
none-passes bytes is =
    elim (cases_lt (position_or_len is_feed bytes) (length bytes)) [
      | inl low ↦ let e : nat_lt (position_or_len is_feed bytes) (length bytes) ≡ true = grind (arith, nat_tests) in
          absurd (some-none (position_or_len is_feed bytes) (sym (ap (λ b. cond b (Some (position_or_len is_feed bytes)) None) e) ∙ is))
      | inr high ↦ high
    ]
  where
    some-none : (n : ℕ) → (let T : Option ℕ = Some n in T) ≡ None → ⊥
    some-none n e = cc

pub none-found : (bytes : List ℕ) (from scanned : ℕ) → from ≤ scanned → HasNoFeed (slice_range bytes from scanned) → position is_feed (drop scanned bytes) ≡ None
    → HasNoFeed (slice_range bytes from (length bytes))
none-found bytes from scanned order plain is =
    let far = none-passes (drop scanned bytes) is in
    let size = length-drop scanned bytes in
    plain-on bytes from scanned (length bytes) plain order (λ k late early low.
    let off : scanned + (k - scanned) ≡ k = omega (arith, late) in
    ap (λ n. is_feed (get_or bytes n 0)) (sym off) ∙ ap is_feed (sym (get_or-drop scanned bytes (k - scanned) 0))
    ∙ fails_before_first is_feed (drop scanned bytes) (k - scanned) 0 (omega (arith, far, size, late, early)))

-- ---- counts

-- A line that is handed out is one less that may follow.
pub few-cut : (line rest : List ℕ) (count : ℕ) → HasNoFeed line → count < command_count_limit
    → count + length (command_lines (without_last (line ++ 10 ∷ rest))) ≤ command_count_limit → count + 1 + length (command_lines (without_last rest)) ≤ command_count_limit
few-cut line [] count plain room few = omega (arith, room)
few-cut line (byte ∷ bytes) count plain room few =
    let rest = byte ∷ bytes in
    let own : without_last (line ++ 10 ∷ rest) ≡ ended line ++ without_last rest =
    ap without_last (sym (append_assoc line (10 ∷ []) rest)) ∙ last-behind (ended line) byte bytes in
    let lines : command_lines (without_last (line ++ 10 ∷ rest)) ≡ line ∷ command_lines (without_last rest) =
    ap command_lines (own ∙ ap (λ l. l ++ without_last rest) (sym (append-nil (ended line))))
    ∙ command_lines-behind (line ∷ []) (without_last rest) (All-cons HasNoFeed line [] plain (All-nil HasNoFeed)) in
    let size = ap length lines in
    omega (arith, size, few)

-- ---- the buffer

items-len : (bytes : Vec ℕ Global) → vec_len bytes ≡ length bytes.items
items-len bytes = bytes.ok.0

-- The next place is looked for in what wasn't seen yet.
pub position-in : (bytes : Vec ℕ Global) (all : List ℕ) (scanned : ℕ) (answer : Option ℕ) → all ≡ bytes.items
    → answer ≡ position is_feed (take (length all - scanned) (drop scanned all)) → position is_feed (drop scanned bytes.items) ≡ answer
position-in bytes all scanned answer same is = ap (λ l. position is_feed (drop scanned l)) (sym same) ∙ ap (position is_feed) (sym (take_rest all scanned)) ∙ sym is

found-in : (bytes piece : Vec ℕ Global) (line_from line_to from scanned count place : ℕ) → IsBuffered bytes piece line_from line_to from scanned count
    → position is_feed (drop scanned bytes.items) ≡ Some place → Found bytes.items from (scanned + place)
found-in bytes piece line_from line_to from scanned count place it is = found bytes.items from scanned place it.order it.plain is

room-in : (bytes : Vec ℕ Global) (from count place : ℕ) → (0 < length (drop from bytes.items) → count < command_count_limit) → Found bytes.items from place → count < command_count_limit
room-in bytes from count place room it =
    room (let a = ap length it.split in let b = length-append (slice_range bytes.items from place) (10 ∷ drop (place + 1) bytes.items) in omega (arith, a, b))

pub cut-buffered : (bytes piece : Vec ℕ Global) (line_from line_to from scanned count place : ℕ) → IsBuffered bytes piece line_from line_to from scanned count
    → (0 < length (drop from bytes.items) → count < command_count_limit) → position is_feed (drop scanned bytes.items) ≡ Some place
    → IsBuffered bytes piece from (scanned + place) (scanned + place + 1) (scanned + place + 1) (count + 1)
cut-buffered bytes piece line_from line_to from scanned count place it room is =
    let line = found-in bytes piece line_from line_to from scanned count place it is in
    let size = items-len bytes in
    record {
      line = omega (arith, it.order);
      line_within = omega (arith, size, line.within);
      order = omega arith;
      within = omega (arith, size, line.within);
      plain = plain-none bytes.items (scanned + place + 1);
      room = it.room;
      piece_is = it.piece_is;
      low = it.low;
      few = few-cut (slice_range bytes.items from (scanned + place)) (drop (scanned + place + 1) bytes.items) count line.plain
          (room-in bytes from count (scanned + place) room line)
          (subst (λ l. count + length (command_lines (without_last l)) ≤ command_count_limit) line.split it.few);
    }

abbrev pub state_of : Vec ℕ Global → ℕ → ℕ → ℕ → ℕ → CutState
state_of bytes line_from line_to from count = record { line = slice_range bytes.items line_from line_to; pending = drop from bytes.items; count = count }

pub cut-hands : (bytes piece : Vec ℕ Global) (line_from line_to from scanned count place : ℕ) → IsBuffered bytes piece line_from line_to from scanned count
    → position is_feed (drop scanned bytes.items) ≡ Some place
    → HandsOut (state_of bytes line_from line_to from count) (state_of bytes from (scanned + place) (scanned + place + 1) (count + 1))
cut-hands bytes piece line_from line_to from scanned count place it is =
    let line = found-in bytes piece line_from line_to from scanned count place it is in record { split = line.split; plain = line.plain; count = refl }

pub buffer-budget : (bytes piece : Vec ℕ Global) (line_from line_to from scanned count : ℕ) → IsBuffered bytes piece line_from line_to from scanned count
    → HasBudget (state_of bytes line_from line_to from count)
buffer-budget bytes piece line_from line_to from scanned count it =
    record { short = let a = length-drop from bytes.items in let b = items-len bytes in omega (arith, a, b, it.low); few = it.few }

whole-part : (bytes : Vec ℕ Global) (from : ℕ) → slice_range bytes.items from (length bytes.items) ≡ drop from bytes.items
whole-part bytes from = take_rest bytes.items from

pub uncut-buffered : (bytes piece : Vec ℕ Global) (line_from line_to from scanned count : ℕ) → IsBuffered bytes piece line_from line_to from scanned count
    → position is_feed (drop scanned bytes.items) ≡ None → IsBuffered bytes piece line_from line_to from (vec_len bytes) count
uncut-buffered bytes piece line_from line_to from scanned count it is = record {
  line = it.line;
  line_within = it.line_within;
  order = omega (arith, it.order, it.within);
  within = omega arith;
  plain = subst (λ n. HasNoFeed (slice_range bytes.items from n)) (sym (items-len bytes)) (none-found bytes.items from scanned it.order it.plain is);
  room = it.room;
  piece_is = it.piece_is;
  low = it.low;
  few = it.few;
}

pub uncut-plain : (bytes piece : Vec ℕ Global) (line_from line_to from scanned count : ℕ) → IsBuffered bytes piece line_from line_to from scanned count
    → position is_feed (drop scanned bytes.items) ≡ None → HasNoLine (state_of bytes line_from line_to from count) (state_of bytes line_from line_to from count)
uncut-plain bytes piece line_from line_to from scanned count it is =
    record { plain = subst HasNoFeed (whole-part bytes from) (none-found bytes.items from scanned it.order it.plain is); same = refl; count = refl }
