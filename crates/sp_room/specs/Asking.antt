-- What a room asks of its desk.
use Rattle.std.specs.Prelude.{◌≡◌, ℕ, Bool, true, false}
use Rattle.std.specs.declared.result.Result.{Result}
use Rattle.std.specs.declared.result.Result.TheVariants.{Ok, Err}
use Rattle.spec_text.specs.Ranges.{RangeOf}
use Rattle.spec_wire.specs.Replies.{RefusalOf}
use Rattle.spec_room.specs.Kinds.{Kind, edits, forgets, looks}
use Rattle.sp_wire.specs.declared.reply.Refusal.{Refusal}
use Rattle.sp_wire.specs.Values.{refusal_of}

-- The room asks an edit of its desk at this place, or refuses it.
abbrev pub IsPlace : Result Kind RefusalOf → RangeOf → Result ℕ Refusal → Type 0
IsPlace asked range (Ok place) = asked ≡ Ok (edits (record { first = place; old = range.old; new = range.new }))
IsPlace asked range (Err refusal) = asked ≡ Err (refusal_of refusal)

-- The command empties what can be undone and redone.
abbrev pub is_forgetting : Kind → Bool
is_forgetting forgets = true
is_forgetting kind = false

-- A command that is no edit, undo or redo.
abbrev pub MakesNoChange : Kind → Type 0
MakesNoChange forgets = Unit {0}
MakesNoChange looks = Unit {0}
MakesNoChange kind = ⊥
