-- What a shelf knows of the files under names (docs/RULES.md, "The program").
use Rattle.std.specs.Prelude.{◌≡◌, ◌≢◌, ℕ, List, length, take, Some}
use Rattle.std.specs.declared.option.Option.{Option}
use Rattle.std.specs.declared.string.String.{String}
use Rattle.std.specs.declared.alloc.Global.{Global}
use Rattle.std.specs.BTreeMap.{BTreeMap, get_by_text}
use Rattle.sha2.specs.Sha256.{sha256}
use Rattle.sp_kit.specs.Causes.{one_more}
use Rattle.sp_kit.specs.declared.shelf.Fetched.{Fetched}
use Rattle.sp_kit.specs.declared.shelf.Fetched.TheVariants as fetched
use Rattle.sp_system.specs.declared.known.Content.{Content}
use Rattle.sp_system.specs.declared.known.Known.{Known}
use Rattle.sp_system.specs.declared.known.Known.TheVariants as known

-- These bytes have this length and digest.
abbrev pub IsContent : List ℕ → Content → Type 0
IsContent bytes content = (content.length ≡ length bytes) × (content.digest ≡ sha256 bytes)

-- A file of these bytes is as it is known: there was one, and its bytes, as many as there were and one more, have the digest.
abbrev pub IsAsKnown : Known → List ℕ → Type 0
IsAsKnown known.Absent bytes = ⊥
IsAsKnown (known.Bytes content) bytes = sha256 (take (one_more content.length) bytes) ≡ content.digest

-- What is known under a name is that a file has these bytes.
abbrev pub KnowsBytes : Option (Option Known) → List ℕ → Type 0
KnowsBytes (Some (Some (known.Bytes content))) bytes = IsContent bytes content
KnowsBytes _ bytes = ⊥

-- What is known under a name is what a fetch found. Of a file that is longer than was asked for nothing new is known.
abbrev pub KnowsFetched : Option (Option Known) → Fetched → Type 0
KnowsFetched found fetched.Absent = found ≡ Some (Some known.Absent)
KnowsFetched found (fetched.Bytes bytes) = KnowsBytes found bytes.items
KnowsFetched found fetched.Longer = Unit {0}

-- What is known under each name.
abbrev pub Names : Type 0
Names = BTreeMap (String Global) (Option Known)

-- Under all names but this one the same is known.
abbrev pub KnowsOthers : Names → Names → List ℕ → Type 0
KnowsOthers old new name = (other : List ℕ) → other ≢ name → get_by_text new other ≡ get_by_text old other

-- What is known under a name is known still.
abbrev pub KeepsKnown : Names → Names → Type 0
KeepsKnown old new = (name : List ℕ) (it : Known) → get_by_text old name ≡ Some (Some it) → get_by_text new name ≡ Some (Some it)
