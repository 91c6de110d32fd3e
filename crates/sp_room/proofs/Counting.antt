-- What holds of the command that a room asks of its desk.
use Rattle.std.proofs.Common.{◌≡◌, ℕ, List, length, Result, Ok, Err, sym, ap, subst, ◌∙◌}
use Rattle.std.specs.Prelude.{IsErrAnd}
use Rattle.spec_text.specs.Edits.{EditOf}
use Rattle.spec_text.specs.Ranges.{RangeOf}
use Rattle.spec_wire.specs.Commands.{CommandOf, edit}
use Rattle.spec_wire.specs.Replies.{RefusalOf}
use Rattle.spec_room.specs.Kinds.{Kind, edits, undoes, redoes, forgets, looks, edit_range, edit_moved, kind_of, command_at}
use Rattle.spec_room.specs.Rooms.{RoomState, asked_edit, asked_of}
use Rattle.sp_room.specs.Asking.{MakesNoChange}
use Rattle.sp_room.specs.Counts.{OfAsked}
use Rattle.sp_room.proofs.Answering.{same-command}

-- Whatever it asks.
pub of-any : (P : CommandOf → Type 0) (N : Type 0) (command : CommandOf) (asked : Result Kind RefusalOf) → ((it : CommandOf) → P it) → N → OfAsked P N command asked
of-any P N command (Ok kind) holds none = holds (command_at command kind)
of-any P N command (Err reason) holds none = none

-- A command that is asked as it is.
pub of-same : (P : CommandOf → Type 0) (N : Type 0) (command : CommandOf) (asked : Result Kind RefusalOf) → ((kind : Kind) → command_at command kind ≡ command) → P command → N → OfAsked P N command asked
of-same P N command (Ok kind) same holds none = subst P (sym (same kind)) holds
of-same P N command (Err reason) same holds none = none

-- One that makes no change.
pub of-looks : (P : CommandOf → Type 0) (N : Type 0) (room : RoomState) (seat : List ℕ) (seen : ℕ) (command : CommandOf) → MakesNoChange (kind_of command) → P command
    → OfAsked P N command (asked_of room seat seen (kind_of command))
of-looks P N room seat seen command none holds = by (kind_of command) none
  where
    by : (kind : Kind) → MakesNoChange kind → OfAsked P N command (asked_of room seat seen kind)
    by forgets none = subst P (sym (same-command command forgets (λ range is. absurd (let bad : ⊥ = cc in bad)))) holds
    by looks none = subst P (sym (same-command command looks (λ range is. absurd (let bad : ⊥ = cc in bad)))) holds
    by (edits range) none = absurd none
    by undoes none = absurd none
    by redoes none = absurd none

-- What a room asks for an edit, by the parts of the room, the number of its lines and the range of the edit.
pub edit-asks : (parts room : RoomState) (seat : List ℕ) (seen lines : ℕ) (it : EditOf) (range : RangeOf) (asked : Result Kind RefusalOf) → parts ≡ room → lines ≡ length room.desk.state.lines → range ≡ edit_range it
    → asked_edit parts.changes parts.version lines seen range ≡ asked → asked_of room seat seen (kind_of (edit it)) ≡ asked
edit-asks parts room seat seen lines it range asked same lines_is range_is asks =
    ap (λ (r : RoomState). asked_of r seat seen (kind_of (edit it))) (sym same)
    ∙ ap (asked_edit parts.changes parts.version (length parts.desk.state.lines) seen) (sym range_is)
    ∙ ap (λ (n : ℕ). asked_edit parts.changes parts.version n seen range) (ap (λ (r : RoomState). length r.desk.state.lines) same ∙ sym lines_is)
    ∙ asks

-- An edit that it asks at this place.
pub of-edit : (P : CommandOf → Type 0) (N : Type 0) (it moved : EditOf) (range : RangeOf) (asked : Result Kind RefusalOf) → asked ≡ Ok (edits range) → moved ≡ edit_moved it range.first → P (edit moved) → OfAsked P N (edit it) asked
of-edit P N it moved range asked asks moved_is holds = subst (OfAsked P N (edit it)) (sym asks) (subst (λ (e : EditOf). P (edit e)) moved_is holds)

-- An edit that it refuses.
pub of-refused : (P : CommandOf → Type 0) (N : Type 0) (command : CommandOf) (reason : RefusalOf) (asked : Result Kind RefusalOf) → asked ≡ Err reason → N → OfAsked P N command asked
of-refused P N command reason asked asks none = subst (OfAsked P N command) (sym asks) none

-- What holds at an error holds of the result that it is in.
pub is-err : {T E : Type 0} (P : Result T E → Type 0) (error : E) (result : Result T E) → IsErrAnd result (λ e. e ≡ error) → P (Err error) → P result
is-err P error (Ok value) is holds = absurd is
is-err P error (Err other) is holds = subst (λ e. P (Err e)) (sym is) holds
