-- The texts that a room stands for, one for each version that it remembers, and what an edit does to what its seat saw.
use Rattle.std.specs.Prelude.{◌≡◌, ℕ, ◌+◌, ◌≤◌, ◌==◌, Ok, List, [], ◌∷◌, ◌++◌, length, slice_index_or, if◌then◌else◌}
use Rattle.spec_text.specs.Edits.{stretch}
use Rattle.spec_text.specs.Ranges.{RangeOf}
use Rattle.spec_room.specs.Changes.{Text, Changes, place_of}
use Rattle.spec_room.specs.Kinds.{Kind, edits, undoes, redoes, forgets, looks}
use Rattle.spec_room.specs.Rooms.{RoomState, since, changes_since, last_of, kept_changes, rises}

-- One text for each version: the last is `now`, and each is the one before it but for the change between them.
abbrev pub Stands : List RangeOf → List Text → Text → Type 0
Stands [] (text ∷ []) now = text ≡ now
Stands (change ∷ changes) (text ∷ next ∷ texts) now = Changes change text next × Stands changes (next ∷ texts) now
Stands changes texts now = ⊥

-- A room stands for a list of texts.
pub record StandsFor (room : RoomState) (texts : List Text) : Type 0 where
  pub stands : Stands room.changes texts room.desk.state.lines

-- The text at a version.
abbrev pub text_at : RoomState → List Text → ℕ → Text
text_at room texts seen = slice_index_or texts (since room.changes room.version seen) []

-- The texts after an accepted command: where it raised the version, the new text stands behind the others.
abbrev pub texts_after : List Text → Kind → Text → List Text
texts_after texts kind now = if rises kind == 0 then texts else last_of (kept_changes + 1) (texts ++ now ∷ [])

-- An edit whose seat saw the version `seen`: the lines that it took away or changed are, with id, mark and text, those that stood at its
-- range in the text at that version, and all other lines are as directly before it. Its place is that of the lines that its seat named.
pub record EditsSeen (old : RoomState) (texts : List Text) (seen : ℕ) (range : RangeOf) (new : RoomState) : Type 0 where
  pub place : ℕ
  pub at : place_of seen range.first range.old (changes_since old.changes old.version seen) ≡ Ok place
  pub inside : range.first + range.old ≤ length (text_at old texts seen)
  pub saw : stretch old.desk.state.lines place range.old ≡ stretch (text_at old texts seen) range.first range.old
  pub others : Changes (record { first = place; old = range.old; new = range.new }) old.desk.state.lines new.desk.state.lines

-- What an accepted command does to what its seat saw.
abbrev pub KeepsSeen : RoomState → List Text → ℕ → Kind → RoomState → Type 0
KeepsSeen old texts seen (edits range) new = EditsSeen old texts seen range new
KeepsSeen old texts seen undoes new = Unit {0}
KeepsSeen old texts seen redoes new = Unit {0}
KeepsSeen old texts seen forgets new = new.desk.state.lines ≡ old.desk.state.lines
KeepsSeen old texts seen looks new = new.desk.state.lines ≡ old.desk.state.lines
