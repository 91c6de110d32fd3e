-- What an accepted command does: at most one change of the lines, a room that keeps what it kept, and edits on the lines that were seen.
use Rattle.std.proofs.Common.{◌≡◌, ℕ, ◌+◌, ◌-◌, ◌<◌, ◌≤◌, ◌^◌, min, List, [], ◌∷◌, ◌++◌, length, take, drop, map, ap, sym, ◌∙◌, arith, refl, subst, length-append, length-drop, length-take, append-nil}
use Rattle.std.proofs.Math.Seq.{drop-append_seam, take-append_seam}
use Rattle.spec_text.specs.Ranges.{RangeOf}
use Rattle.spec_state.specs.State.{State}
use Rattle.spec_machine.specs.Machine.{EntryOf, Memory}
use Rattle.spec_room.specs.Changes.{Text, turned, Changes}
use Rattle.spec_room.specs.Kinds.{Kind, edits, undoes, redoes, forgets, looks}
use Rattle.spec_room.specs.Rooms.{RoomState, kept_changes, last_of, but_last, ranges_of, change_of, rises, done_after, undone_after, room_after}
use Rattle.spec_room.specs.Holding.{Linked, LinkedBack, Fits, Holds}
use Rattle.spec_room.proofs.ChangeLaws.{turned_back, length-old, length-new}
use Rattle.spec_room.proofs.HoldingLaws.{linked_put, linked_take, linked_back_put, linked_back_take, ranges_of-put, fits_put, fits_drop}
use Rattle.spec_room.proofs.MachineSteps.{Step}

-- The last of a list with one item behind.
pub last_of-put : {X : Type 0} (items : List X) (item : X) → last_of 1 (items ++ item ∷ []) ≡ item ∷ []
last_of-put items item =
    let long = length-append items (item ∷ []) in
    let n : length (items ++ item ∷ []) - 1 ≡ length items = omega (arith, long) in
    ap (λ k. drop k (items ++ item ∷ [])) n ∙ drop-append_seam items (item ∷ [])

pub but_last-put : {X : Type 0} (items : List X) (item : X) → but_last (items ++ item ∷ []) ≡ items
but_last-put items item =
    let long = length-append items (item ∷ []) in
    let n : length (items ++ item ∷ []) - 1 ≡ length items = omega (arith, long) in
    ap (λ k. take k (items ++ item ∷ [])) n ∙ take-append_seam items (item ∷ [])

-- An accepted command makes no change and leaves the lines, or it makes one.
pub data Makes (old : Memory) (asked : Kind) (new : Memory) : Type 0 where
  none : change_of old asked ≡ [] → new.state.lines ≡ old.state.lines → Makes old asked new
  one : (change : RangeOf) → change_of old asked ≡ change ∷ [] → Changes change old.state.lines new.state.lines → Makes old asked new

last_range : (entries before : List EntryOf) (last : EntryOf) → entries ≡ before ++ last ∷ [] → last_of 1 (ranges_of entries) ≡ last.range ∷ []
last_range entries before last e = ap (λ es. last_of 1 (ranges_of es)) e ∙ ap (last_of 1) (ranges_of-put before last) ∙ last_of-put (ranges_of before) last.range

pub makes : (old : Memory) (asked : Kind) (new : Memory) → Linked old.done old.state.lines → LinkedBack old.undone old.state.lines → Step old asked new → Makes old asked new
makes old (edits range) new linked back step = one range refl step.lines
makes old undoes new linked back step =
    let cut = linked_take new.done step.last old.state.lines (subst (λ (es : List EntryOf). Linked es old.state.lines) step.done linked) in
    let lines = ap (λ (s : _). s.lines) step.state in
    one (turned step.last.range) (ap (map turned) (last_range old.done new.done step.last step.done))
    (subst (λ (text : Text). Changes (turned step.last.range) old.state.lines text) (sym lines) (turned_back cut.made))
makes old redoes new linked back step =
    let cut = linked_back_take new.undone step.last old.state.lines (subst (λ (es : List EntryOf). LinkedBack es old.state.lines) step.undone back) in
    let lines = ap (λ (s : _). s.lines) step.state in
    one step.last.range (last_range old.undone new.undone step.last step.undone)
    (subst (λ (text : Text). Changes step.last.range old.state.lines text) (sym lines) cut.made)
makes old forgets new linked back step = none refl step.lines
makes old looks new linked back step = none refl (ap (λ (m : Memory). m.state.lines) step)

-- How many items are the last of a list, and all but its last.
length-last_of : {X : Type 0} (most : ℕ) (items : List X) → length (last_of most items) ≡ min (length items) most
length-last_of most items =
    let n = length-drop (length items - most) items in
    omega (arith, n)

length-but_last : {X : Type 0} (items : List X) → length (but_last items) ≡ length items - 1
length-but_last items =
    let n = length-take (length items - 1) items in
    omega (arith, n)

-- An accepted command makes as many changes as it raises the version by.
pub length-change_of : (old : Memory) (asked : Kind) (new : Memory) → Step old asked new → length (change_of old asked) ≡ rises asked
length-change_of old (edits range) new step = refl
length-change_of old undoes new step = ap (λ changes. length (map turned changes)) (last_range old.done new.done step.last step.done)
length-change_of old redoes new step = ap length (last_range old.undone new.undone step.last step.undone)
length-change_of old forgets new step = refl
length-change_of old looks new step = refl

-- The seats of the done entries number as many as these.
done_seats : (old : RoomState) (seat : List ℕ) (asked : Kind) (new : Memory) → Holds old → Step old.desk asked new → length (done_after old seat asked) ≡ length new.done
done_seats old seat (edits range) new holds step =
    let seats = length-append old.done (seat ∷ []) in
    let entries = ap length step.done ∙ length-append old.desk.done _ in
    let same = holds.done in
    omega (arith, seats, entries, same)
done_seats old seat undoes new holds step =
    let seats = length-but_last old.done in
    let entries = ap length step.done ∙ length-append new.done (step.last ∷ []) in
    let same = holds.done in
    omega (arith, seats, entries, same)
done_seats old seat redoes new holds step =
    let seats = length-append old.done (last_of 1 old.undone) in
    let seat_moved = length-last_of 1 old.undone in
    let undone = ap length step.undone ∙ length-append new.undone (step.last ∷ []) in
    let entries = ap length step.done ∙ length-append old.desk.done _ in
    let same = holds.done in
    let same_undone = holds.undone in
    omega (arith, seats, seat_moved, undone, entries, same, same_undone)
done_seats old seat forgets new holds step = sym (ap length step.done)
done_seats old seat looks new holds step = holds.done ∙ sym (ap (λ (m : Memory). length m.done) step)

undone_seats : (old : RoomState) (asked : Kind) (new : Memory) → Holds old → Step old.desk asked new → length (undone_after old asked) ≡ length new.undone
undone_seats old (edits range) new holds step = sym (ap length step.undone)
undone_seats old undoes new holds step =
    let seats = length-append old.undone (last_of 1 old.done) in
    let seat_moved = length-last_of 1 old.done in
    let done = ap length step.done ∙ length-append new.done (step.last ∷ []) in
    let entries = ap length step.undone ∙ length-append old.desk.undone _ in
    let same = holds.done in
    let same_undone = holds.undone in
    omega (arith, seats, seat_moved, done, entries, same, same_undone)
undone_seats old redoes new holds step =
    let seats = length-but_last old.undone in
    let entries = ap length step.undone ∙ length-append new.undone (step.last ∷ []) in
    let same = holds.undone in
    omega (arith, seats, entries, same)
undone_seats old forgets new holds step = sym (ap length step.undone)
undone_seats old looks new holds step = holds.undone ∙ sym (ap (λ (m : Memory). length m.undone) step)

-- The entries stay linked.
linked_after : (old : Memory) (asked : Kind) (new : Memory) → Linked old.done old.state.lines → LinkedBack old.undone old.state.lines → Step old asked new → Linked new.done new.state.lines
linked_after old (edits range) new linked back step =
    subst (λ (es : List EntryOf). Linked es new.state.lines) (sym step.done) (linked_put old.done (record { state = old.state; range = range }) new.state.lines linked step.lines)
linked_after old undoes new linked back step =
    let cut = linked_take new.done step.last old.state.lines (subst (λ (es : List EntryOf). Linked es old.state.lines) step.done linked) in
    subst (λ (s : State). Linked new.done s.lines) (sym step.state) cut.linked
linked_after old redoes new linked back step =
    let cut = linked_back_take new.undone step.last old.state.lines (subst (λ (es : List EntryOf). LinkedBack es old.state.lines) step.undone back) in
    let made = subst (λ (s : State). Changes step.last.range old.state.lines s.lines) (sym step.state) cut.made in
    subst (λ (es : List EntryOf). Linked es new.state.lines) (sym step.done) (linked_put old.done (record { state = old.state; range = step.last.range }) new.state.lines linked made)
linked_after old forgets new linked back step = subst (λ (es : List EntryOf). Linked es new.state.lines) (sym step.done) tt
linked_after old looks new linked back step = subst (λ (m : Memory). Linked m.done m.state.lines) (sym step) linked

linked_back_after : (old : Memory) (asked : Kind) (new : Memory) → Linked old.done old.state.lines → LinkedBack old.undone old.state.lines → Step old asked new → LinkedBack new.undone new.state.lines
linked_back_after old (edits range) new linked back step = subst (λ (es : List EntryOf). LinkedBack es new.state.lines) (sym step.undone) tt
linked_back_after old undoes new linked back step =
    let cut = linked_take new.done step.last old.state.lines (subst (λ (es : List EntryOf). Linked es old.state.lines) step.done linked) in
    let made = subst (λ (s : State). Changes step.last.range s.lines old.state.lines) (sym step.state) cut.made in
    subst (λ (es : List EntryOf). LinkedBack es new.state.lines) (sym step.undone) (linked_back_put old.undone (record { state = old.state; range = step.last.range }) new.state.lines back made)
linked_back_after old redoes new linked back step =
    let cut = linked_back_take new.undone step.last old.state.lines (subst (λ (es : List EntryOf). LinkedBack es old.state.lines) step.undone back) in
    subst (λ (s : State). LinkedBack new.undone s.lines) (sym step.state) cut.linked
linked_back_after old forgets new linked back step = subst (λ (es : List EntryOf). LinkedBack es new.state.lines) (sym step.undone) tt
linked_back_after old looks new linked back step = subst (λ (m : Memory). LinkedBack m.undone m.state.lines) (sym step) back

-- The changes still fit.
fits_after : (old : Memory) (asked : Kind) (new : Memory) (changes : List RangeOf) → Makes old asked new → length old.state.lines < 2 ^ 64 → Fits (length old.state.lines) changes → Fits (length new.state.lines) (last_of kept_changes (changes ++ change_of old asked))
fits_after old asked new changes (none is lines) small fits =
    subst (λ (text : Text). Fits (length text) (last_of kept_changes (changes ++ change_of old asked))) (sym lines)
    (subst (λ (more : List RangeOf). Fits (length old.state.lines) (last_of kept_changes (changes ++ more))) (sym is)
    (fits_drop (length (changes ++ []) - kept_changes) (length old.state.lines) (changes ++ []) (subst (Fits (length old.state.lines)) (sym (append-nil changes)) fits)))
fits_after old asked new changes (one change is made) small fits =
    let was = length-old made in
    let now = length-new made in
    let counted : length old.state.lines ≡ length new.state.lines - change.new + change.old = omega (arith, was, now) in
    let within : change.first + change.new ≤ length new.state.lines = omega (arith, now) in
    subst (λ (more : List RangeOf). Fits (length new.state.lines) (last_of kept_changes (changes ++ more))) (sym is)
    (fits_drop (length (changes ++ change ∷ []) - kept_changes) (length new.state.lines) (changes ++ change ∷ [])
    (fits_put (length old.state.lines) (length new.state.lines) changes change counted within small fits))

-- A room keeps what each room keeps.
pub holds_after : (old : RoomState) (seat : List ℕ) (asked : Kind) (new : Memory) → Holds old → Step old.desk asked new → length old.desk.state.lines < 2 ^ 64 → Holds (room_after old seat asked new)
holds_after old seat asked new holds step small =
    let made = length-change_of old.desk asked new step in
    let all = length-append old.changes (change_of old.desk asked) in
    let last = length-last_of kept_changes (old.changes ++ change_of old.desk asked) in
    let kept = holds.kept in
    record {
      kept = omega (arith, made, all, last, kept);
      done = done_seats old seat asked new holds step;
      undone = undone_seats old asked new holds step;
      fits = fits_after old.desk asked new old.changes (makes old.desk asked new holds.linked holds.linked_back step) small holds.fits;
      linked = linked_after old.desk asked new holds.linked holds.linked_back step;
      linked_back = linked_back_after old.desk asked new holds.linked holds.linked_back step;
    }
