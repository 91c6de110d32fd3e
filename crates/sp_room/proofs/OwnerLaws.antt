-- Owners stay beside the entries, and tell what an undo or a redo changes.
use Rattle.std.proofs.Common.{◌≡◌, ℕ, List, [], ◌∷◌, ◌++◌, map, ap, sym, ◌∙◌}
use Rattle.std.proofs.lemmas.List.{map-append}
use Rattle.spec_text.specs.Ranges.{RangeOf}
use Rattle.spec_machine.specs.Machine.{EntryOf, Memory, entry_of}
use Rattle.spec_room.specs.Changes.{turned}
use Rattle.spec_room.specs.Kinds.{edits, undoes, redoes, forgets, looks}
use Rattle.spec_room.specs.Rooms.{last_of, but_last, ranges_of, change_of}
use Rattle.spec_room.proofs.HoldingLaws.{ranges_of-put}
use Rattle.spec_room.proofs.MachineSteps.{Step}
use Rattle.spec_room.proofs.RoomLaws.{last_of-put, but_last-put}
use Rattle.sp_room.specs.Owners.{OwnerOf, seats_of, owned_ranges, Own}

-- Lists that are equal with one item behind are equal without, and so are the items.
same_front : {X : Type 0} (xs ys : List X) (x y : X) → xs ++ x ∷ [] ≡ ys ++ y ∷ [] → xs ≡ ys
same_front xs ys x y e = sym (but_last-put xs x) ∙ ap but_last e ∙ but_last-put ys y

same_last : {X : Type 0} (xs ys : List X) (x y : X) → xs ++ x ∷ [] ≡ ys ++ y ∷ [] → x ≡ y
same_last xs ys x y e = let single : x ∷ [] ≡ y ∷ [] = sym (last_of-put xs x) ∙ ap (last_of 1) e ∙ last_of-put ys y in cc

ranges-put : (owners : List OwnerOf) (owner : OwnerOf) → owned_ranges (owners ++ owner ∷ []) ≡ owned_ranges owners ++ owner.range ∷ []
ranges-put owners owner = map-append (λ (it : OwnerOf). it.range) owners (owner ∷ [])

pub seats-put : (owners : List OwnerOf) (owner : OwnerOf) → seats_of (owners ++ owner ∷ []) ≡ seats_of owners ++ owner.seat ∷ []
seats-put owners owner = map-append (λ (it : OwnerOf). it.seat) owners (owner ∷ [])

-- After an edit.
pub own_edit : (old : Memory) (range : RangeOf) (new : Memory) (done undone : List OwnerOf) (seat : List ℕ) → Own old done undone → Step old (edits range) new → Own new (done ++ record { seat = seat; range = range } ∷ []) []
own_edit old range new done undone seat own step = record {
  done = ranges-put done (record { seat = seat; range = range }) ∙ ap (λ ranges. ranges ++ range ∷ []) own.done
      ∙ sym (ap ranges_of step.done ∙ ranges_of-put old.done (entry_of old.state range));
  undone = sym (ap ranges_of step.undone);
}

-- One list loses its last owner and the other gains it, as the entries do.
moved_from : (from before : List OwnerOf) (owner : OwnerOf) (entries entries' : List EntryOf) (last : EntryOf) → from ≡ before ++ owner ∷ [] → owned_ranges from ≡ ranges_of entries → entries ≡ entries' ++ last ∷ [] → owned_ranges before ++ owner.range ∷ [] ≡ ranges_of entries' ++ last.range ∷ []
moved_from from before owner entries entries' last split own step =
    sym (ap owned_ranges split ∙ ranges-put before owner) ∙ own ∙ ap ranges_of step ∙ ranges_of-put entries' last

moved_to : (to : List OwnerOf) (owner : OwnerOf) (entries entries' : List EntryOf) (entry : EntryOf) → owned_ranges to ≡ ranges_of entries → owner.range ≡ entry.range → entries' ≡ entries ++ entry ∷ [] → owned_ranges (to ++ owner ∷ []) ≡ ranges_of entries'
moved_to to owner entries entries' entry own range step =
    ranges-put to owner ∙ ap (λ ranges. ranges ++ owner.range ∷ []) own ∙ ap (λ (r : RangeOf). ranges_of entries ++ r ∷ []) range
    ∙ sym (ap ranges_of step ∙ ranges_of-put entries entry)

-- After an undo.
pub own_undo : (old new : Memory) (done undone before : List OwnerOf) (owner : OwnerOf) → Own old done undone → done ≡ before ++ owner ∷ [] → Step old undoes new → Own new before (undone ++ owner ∷ [])
own_undo old new done undone before owner own split step =
    let moved = moved_from done before owner old.done new.done step.last split own.done step.done in
    record {
      done = same_front (owned_ranges before) (ranges_of new.done) owner.range step.last.range moved;
      undone = moved_to undone owner old.undone new.undone (entry_of old.state step.last.range) own.undone
          (same_last (owned_ranges before) (ranges_of new.done) owner.range step.last.range moved) step.undone;
    }

-- After a redo.
pub own_redo : (old new : Memory) (done undone before : List OwnerOf) (owner : OwnerOf) → Own old done undone → undone ≡ before ++ owner ∷ [] → Step old redoes new → Own new (done ++ owner ∷ []) before
own_redo old new done undone before owner own split step =
    let moved = moved_from undone before owner old.undone new.undone step.last split own.undone step.undone in
    record {
      done = moved_to done owner old.done new.done (entry_of old.state step.last.range) own.done
          (same_last (owned_ranges before) (ranges_of new.undone) owner.range step.last.range moved) step.done;
      undone = same_front (owned_ranges before) (ranges_of new.undone) owner.range step.last.range moved;
    }

-- After a lock, a new round or a setting.
pub own_forgets : (old new : Memory) → Step old forgets new → Own new [] []
own_forgets old new step = record { done = sym (ap ranges_of step.done); undone = sym (ap ranges_of step.undone) }

-- After any other command.
pub own_looks : (old new : Memory) (done undone : List OwnerOf) → Own old done undone → Step old looks new → Own new done undone
own_looks old new done undone own step = record { done = own.done ∙ sym (ap (λ (m : Memory). ranges_of m.done) step); undone = own.undone ∙ sym (ap (λ (m : Memory). ranges_of m.undone) step) }

-- The change of an undo and of a redo, from the last owner.
pub change_of-undoes : (desk : Memory) (done undone before : List OwnerOf) (owner : OwnerOf) → Own desk done undone → done ≡ before ++ owner ∷ [] → change_of desk undoes ≡ turned owner.range ∷ []
change_of-undoes desk done undone before owner own split =
    ap (λ ranges. map turned (last_of 1 ranges)) (sym own.done ∙ ap owned_ranges split ∙ ranges-put before owner) ∙ ap (map turned) (last_of-put (owned_ranges before) owner.range)

pub change_of-redoes : (desk : Memory) (done undone before : List OwnerOf) (owner : OwnerOf) → Own desk done undone → undone ≡ before ++ owner ∷ [] → change_of desk redoes ≡ owner.range ∷ []
change_of-redoes desk done undone before owner own split =
    ap (last_of 1) (sym own.undone ∙ ap owned_ranges split ∙ ranges-put before owner) ∙ last_of-put (owned_ranges before) owner.range
