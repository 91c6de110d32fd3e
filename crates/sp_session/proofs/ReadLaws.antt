-- What one read leaves of the bytes that are being cut.
use Rattle.std.proofs.Common.{◌≡◌, ◌≢◌, ℕ, ◌+◌, ◌-◌, ◌<◌, ◌≤◌, List, [], ◌∷◌, ◌++◌, length, take, drop, refl, sym, ap, ◌∙◌, subst, arith, append-nil, length-append, vec_len}
use Rattle.std.specs.Prelude.{slice_range, vec_capacity, Bool, Ok, Err}
use Rattle.std.specs.declared.result.Result.{Result}
use Rattle.std.specs.declared.vec.Vec.{Vec}
use Rattle.std.specs.declared.alloc.Global.{Global}
use Rattle.std.proofs.lemmas.List.{take_at, length-take}
use Rattle.std.proofs.lemmas.List.Elements.{All-take}
use Rattle.sp_kit.specs.Outside.{SourceState}
use Rattle.spec_session.specs.CommandLines.{command_limit, command_count_limit, HasNoFeed, command_lines, without_last}
use Rattle.spec_session.proofs.LimitLaws.{few-behind, last-behind}
use Rattle.sp_session.specs.Reading.{Grows, ReadsBehind}
use Rattle.sp_session.specs.Buffered.{IsBuffered}

-- As many bytes as lines may follow, and one more, make no more lines, but for the last byte.
few-read : (before bytes : List ℕ) (count : ℕ) → HasNoFeed before → length bytes ≤ command_count_limit - count + 1 → count ≤ command_count_limit
    → (0 < length before → count < command_count_limit) → count + length (command_lines (without_last (before ++ bytes))) ≤ command_count_limit
few-read [] [] count plain low within room = omega (arith, within)
few-read (byte ∷ before) [] count plain low within room =
    let front = without_last (byte ∷ before) in
    let own : without_last ((byte ∷ before) ++ []) ≡ front = ap without_last (append-nil (byte ∷ before)) in
    let few = few-behind front [] 1 (front-plain (byte ∷ before) plain) (omega arith) (λ some. omega arith) in
    let size = ap (λ l. length (command_lines l)) (own ∙ sym (append-nil front)) in
    omega (arith, size, few, room (omega arith))
  where
    front-plain : (bytes : List ℕ) → HasNoFeed bytes → HasNoFeed (without_last bytes)
    front-plain bytes plain = All-take (λ b. b ≢ 10) (length bytes - 1) bytes plain
few-read before (byte ∷ bytes) count plain low within room =
    let front = without_last (byte ∷ bytes) in
    let size = length-take (length (byte ∷ bytes) - 1) (byte ∷ bytes) in
    let few = few-behind before front (command_count_limit - count) plain (omega (arith, size, low)) (λ some. let a = room some in omega (arith, a)) in
    let own = ap (λ l. length (command_lines l)) (last-behind before byte bytes) in
    omega (arith, few, own, within)

read-few : {E : Type 0} (old new : SourceState) (most count : ℕ) (before after : List ℕ) (result : Result Bool E) → ReadsBehind old new most before after result
    → HasNoFeed before → most ≤ command_count_limit - count + 1 → count ≤ command_count_limit → (0 < length before → count < command_count_limit)
    → count + length (command_lines (without_last after)) ≤ command_count_limit
read-few old new most count before after (Ok more) (bytes, gave, grows) plain low within room =
    subst (λ l. count + length (command_lines (without_last l)) ≤ command_count_limit) (sym grows.more) (few-read before bytes count plain (omega (arith, grows.low, low)) within room)
read-few old new most count before after (Err failed) (none, same) plain low within room =
    subst (λ l. count + length (command_lines (without_last l)) ≤ command_count_limit) (append-nil before ∙ sym same) (few-read before [] count plain (omega arith) within room)

-- The bytes from before stand in front, and so many at most behind them.
pub record Follows (most : ℕ) (before after : List ℕ) : Type 0 where
  pub bytes : List ℕ
  pub grows : Grows most before after bytes

read-follows : {E : Type 0} (old new : SourceState) (most : ℕ) (before after : List ℕ) (result : Result Bool E) → ReadsBehind old new most before after result → Follows most before after
read-follows old new most before after (Ok more) (bytes, gave, grows) = record { bytes = bytes; grows = grows }
read-follows old new most before after (Err failed) (none, same) = record { bytes = []; grows = record { low = omega arith; more = same ∙ sym (append-nil before) } }

front-part : (before after bytes : List ℕ) → after ≡ before ++ bytes → slice_range after 0 (length before) ≡ before
front-part before after bytes is =
    let size : length before - 0 ≡ length before = omega arith in ap (λ n. take n after) size ∙ ap (take (length before)) is ∙ take_at before bytes (length before) refl

pub read-buffered : {E : Type 0} (old new : SourceState) (bytes front behind piece rest : Vec ℕ Global) (line_from line_to from scanned count most : ℕ) (result : Result Bool E)
    → IsBuffered bytes piece line_from line_to from scanned count → HasNoFeed (drop from bytes.items) → length (drop from bytes.items) ≤ command_limit
    → (0 < length (drop from bytes.items) → count < command_count_limit) → front.items ≡ drop from bytes.items → vec_capacity front ≡ vec_capacity bytes
    → ReadsBehind old new most front.items behind.items result → vec_capacity front ≤ vec_capacity behind
    → most ≤ command_limit + 1 - vec_len front → most ≤ command_count_limit - count + 1 → vec_len rest ≡ 65536
    → IsBuffered behind rest 0 0 0 (vec_len front) count
read-buffered old new bytes front behind piece rest line_from line_to from scanned count most result it plain short room front_is kept reads grown low few rest_is =
    let held : HasNoFeed front.items = subst HasNoFeed (sym front_is) plain in
    let size = ap length front_is in
    let follows = read-follows old new most front.items behind.items result reads in
    let all = ap length follows.grows.more in
    let parts = length-append front.items follows.bytes in
    let a = front.ok.0 in
    let b = behind.ok.0 in
    let within : count ≤ command_count_limit = omega (arith, it.few) in
    record {
      line = omega arith;
      line_within = omega arith;
      order = omega arith;
      within = omega (arith, all, parts, a, b);
      plain = subst (λ n. HasNoFeed (slice_range behind.items 0 n)) (sym a) (subst HasNoFeed (sym (front-part front.items behind.items follows.bytes follows.grows.more)) held);
      room = omega (arith, it.room, kept, grown);
      piece_is = rest_is;
      low = omega (arith, all, parts, a, b, follows.grows.low, low, size, short);
      few = read-few old new most count front.items behind.items result reads held few within (λ some. room (omega (arith, some, size)));
    }
