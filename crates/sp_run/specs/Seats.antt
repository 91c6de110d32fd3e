-- What each line of a session did to the lines that its seat saw (docs/RULES.md, "The room").
use Rattle.std.specs.Prelude.{◌≡◌, ℕ, ◌⊎◌, List, [], ◌∷◌}
use Rattle.std.specs.declared.result.Result.{Result}
use Rattle.std.specs.declared.result.Result.TheVariants.{Ok}
use Rattle.spec_wire.specs.Commands.{FaultOf, RoomLineOf}
use Rattle.spec_wire.specs.Lines.{room_line_of_line}
use Rattle.spec_session.specs.Runs.{Answered, AtShelf}
use Rattle.spec_room.specs.Changes.{Text}
use Rattle.spec_room.specs.Kinds.{Kind, edits, kind_of}
use Rattle.spec_room.specs.Rooms.{RoomState}
use Rattle.spec_room.specs.Sessions.{Takes, TakesSeen, versions_after}
use Rattle.sp_run.specs.RoomLines.{NamedRoom}

-- An edit took away or changed just the lines that its seat saw, in the text at the version `seen`.
abbrev pub IsSeen : RoomState → List Text → ℕ → Kind → RoomState → Type 0
IsSeen old texts seen (edits range) new = TakesSeen old texts seen range new
IsSeen old texts seen kind new = Unit {0}

-- The room took what was read of a line, where these are the texts of all versions before it and behind it.
pub record TookLine (old : RoomState) (texts : List Text) (asked : Result RoomLineOf FaultOf) (new : RoomState) (behind : List Text) : Type 0 where
  pub it : RoomLineOf
  pub asks : asked ≡ Ok it
  pub takes : Takes old it new
  pub seen : IsSeen old texts it.seen (kind_of it.command) new
  pub are : behind ≡ versions_after texts (kind_of it.command) new.desk.state.lines

-- A line left the room as it was, or the room took it.
abbrev pub IsTakenSeen : RoomState → List Text → Result RoomLineOf FaultOf → RoomState → List Text → Type 0
IsTakenSeen old texts asked new behind = ((new ≡ old) × (behind ≡ texts)) ⊎ TookLine old texts asked new behind

-- So it was with each of these lines in order, which were answered by these steps.
abbrev pub AreTakenSeen : RoomState → List Text → List (List ℕ) → List (Answered (AtShelf NamedRoom)) → Type 0
AreTakenSeen room texts [] steps = Unit {0}
AreTakenSeen room texts (line ∷ lines) [] = Unit {0}
AreTakenSeen room texts (line ∷ lines) (step ∷ steps) =
    (behind : List Text) × IsTakenSeen room texts (room_line_of_line line) step.after.it.room behind × AreTakenSeen step.after.it.room behind lines steps
