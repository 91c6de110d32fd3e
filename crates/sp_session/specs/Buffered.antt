-- Bytes that were read and are being cut into lines.
use Rattle.std.specs.Prelude.{◌≡◌, ℕ, ◌+◌, ◌≤◌, length, drop, slice_range, vec_len, vec_capacity}
use Rattle.std.specs.declared.vec.Vec.{Vec}
use Rattle.std.specs.declared.alloc.Global.{Global}
use Rattle.spec_session.specs.CommandLines.{command_limit, command_count_limit, HasNoFeed, command_lines, without_last}

-- The line that was cut last and the place to go on from lie in the bytes; from there on no line feed was seen up to a
-- further place. There is room for one line and a byte, which is all that is ever there.
pub record IsBuffered (bytes piece : Vec ℕ Global) (line_from line_to from scanned count : ℕ) : Type 0 where
  pub line : line_from ≤ line_to
  pub line_within : line_to ≤ vec_len bytes
  pub order : from ≤ scanned
  pub within : scanned ≤ vec_len bytes
  pub plain : HasNoFeed (slice_range bytes.items from scanned)
  pub room : command_limit + 1 ≤ vec_capacity bytes
  pub piece_is : vec_len piece ≡ 65536
  pub low : vec_len bytes ≤ command_limit + 1
  pub few : count + length (command_lines (without_last (drop from bytes.items))) ≤ command_count_limit
