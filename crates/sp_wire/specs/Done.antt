-- The replies that tell what a command did, or that a store failed: their lines are short (docs/RULES.md, "Replies").
use Rattle.std.specs.Prelude.{◌≡◌, ℕ, ◌≤◌, Bool, true, false, List, [], ◌∷◌, ◌++◌, length, ⊤, Vec, vec_capacity}
use Rattle.std.specs.declared.alloc.Global.{Global}
use Rattle.json.specs.Print.{escape, quoted}
use Rattle.serde_json.specs.Data.{Members, no_members, member}
use Rattle.serde_json.specs.Written.{comma_if, compact_text}
use Rattle.spec_wire.specs.Replies.{ReplyOf, edited, set, scenes, pages, round, saved, refused, shelf, reply_members}
use Rattle.spec_wire.specs.Spelling.{ReplyFits}

-- How many bytes of room the line of each of them fits into, also in a room of seats.
abbrev pub line_room : ℕ
line_room = 256

-- An empty buffer with this room.
pub record IsLineBuffer (buffer : Vec ℕ Global) : Type 0 where
  pub empty : buffer.items ≡ []
  pub room : line_room ≤ vec_capacity buffer

-- Behind such a reply a memory or a shelf may have changed: it tells that one was changed, or that a store failed.
abbrev pub may_have_changed : ReplyOf → Bool
may_have_changed (edited lines sheets) = true
may_have_changed (set sheets) = true
may_have_changed (scenes records) = true
may_have_changed (pages records) = true
may_have_changed (round name count) = true
may_have_changed (saved digest) = true
may_have_changed (refused shelf) = true
may_have_changed _ = false

-- A short text that stands in JSON as it is.
pub record IsPlain (text : List ℕ) : Type 0 where
  pub same : escape text ≡ text
  pub short : length text ≤ 80

-- Such a reply's texts are plain.
abbrev pub TellsPlainly : ReplyOf → Type 0
TellsPlainly (round name count) = IsPlain name
TellsPlainly (saved digest) = IsPlain digest
TellsPlainly _ = ⊤

-- Members without the bracket that closes them.
abbrev pub unclosed : Bool → Members → List ℕ
unclosed later no_members = []
unclosed later (member k d ms) = comma_if later ++ (quoted k ++ 58 ∷ (compact_text d ++ unclosed true ms))

-- A reply's line up to that bracket.
abbrev pub line_front : ReplyOf → List ℕ
line_front reply = 123 ∷ unclosed false (reply_members reply)

-- The bytes are this front, and have room for a version behind them.
pub record IsFront (bytes : List ℕ) (reply : ReplyOf) : Type 0 where
  pub is : bytes ≡ line_front reply
  pub fits : ReplyFits reply
  pub short : length bytes ≤ 192
