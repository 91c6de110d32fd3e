-- The law of seats: an accepted edit takes away or changes just lines that its seat saw, and the room stands for the texts with the new one.
use Rattle.std.proofs.Common.{◌≡◌, ℕ, ◌+◌, ◌-◌, ◌≤◌, List, [], ◌∷◌, ◌++◌, length, drop, get_or, cond, Ok, Err, Result, inl, inr, ap, sym, ◌∙◌, arith, refl, subst, append-nil, ◌==◌}
use Rattle.std.specs.Prelude.{nat_lt}
use Rattle.std.specs.Str.{bytes_eq}
use Rattle.std.proofs.lemmas.Bool.{cases_Bool, ltb-false}
use Rattle.spec_text.specs.Ranges.{RangeOf}
use Rattle.spec_wire.specs.Replies as replies
use Rattle.spec_wire.specs.Replies.{ahead, stale, not_yours}
use Rattle.spec_machine.specs.Machine.{Memory}
use Rattle.spec_room.specs.Changes.{Text, place_of, lines_then}
use Rattle.spec_room.specs.Kinds.{Kind, edits, undoes, redoes, forgets, looks}
use Rattle.spec_room.specs.Rooms.{RoomState, kept_changes, last_of, since, changes_since, edit_at, asked_of, for_owner, change_of, rises, room_after}
use Rattle.spec_room.specs.Standing.{Stands, StandsFor, texts_after, EditsSeen, KeepsSeen}
use Rattle.spec_room.specs.Holding.{Holds}
use Rattle.spec_room.proofs.MachineSteps.{Step}
use Rattle.spec_room.proofs.PlaceLaws.{lines_then-length, place_keeps}
use Rattle.spec_room.proofs.StandingLaws.{stands_from, stands_last}
use Rattle.spec_room.proofs.RoomLaws.{Makes, none, one, makes, length-change_of}

-- What is known of an edit that the room asks of its desk.
pub record AsksEdit (room : RoomState) (seen : ℕ) (range : RangeOf) (asked : Kind) : Type 0 where
  pub not_ahead : seen ≤ room.version
  pub not_stale : room.version - seen ≤ kept_changes
  pub inside : range.first + range.old ≤ lines_then (length room.desk.state.lines) (changes_since room.changes room.version seen)
  pub place : ℕ
  pub found : place_of seen range.first range.old (changes_since room.changes room.version seen) ≡ Ok place
  pub is : asked ≡ edits (record { first = place; old = range.old; new = range.new })

-- The place, and the kind at it.
record AtPlace (range : RangeOf) (found : Result ℕ ℕ) (asked : Kind) : Type 0 where
  place : ℕ
  found_is : found ≡ Ok place
  is : asked ≡ edits (record { first = place; old = range.old; new = range.new })

at_place : (range : RangeOf) (found : Result ℕ ℕ) (asked : Kind) → edit_at range found ≡ Ok asked → AtPlace range found asked
at_place range (Ok place) asked e = record { place = place; found_is = refl; is = let same : edits (record { first = place; old = range.old; new = range.new }) ≡ asked = cc in sym same }
at_place range (Err version) asked e = absurd (cc)

pub asks_edit : (room : RoomState) (seat : List ℕ) (seen : ℕ) (range : RangeOf) (asked : Kind) → asked_of room seat seen (edits range) ≡ Ok asked → AsksEdit room seen range asked
asks_edit room seat seen range asked e =
    let found = place_of seen range.first range.old (changes_since room.changes room.version seen) in
    let third = cond (nat_lt (lines_then (length room.desk.state.lines) (changes_since room.changes room.version seen)) (range.first + range.old)) (Err replies.range) (edit_at range found) in
    let second = cond (nat_lt kept_changes (room.version - seen)) (Err (stale room.version)) third in
    elim (cases_Bool (nat_lt room.version seen)) [
      | inl holds ↦ absurd (let bad : Err (ahead room.version) ≡ Ok asked = sym (ap (λ b. cond b (Err (ahead room.version)) second) holds) ∙ e in cc)
      | inr not_ahead ↦
          let e2 : second ≡ Ok asked = sym (ap (λ b. cond b (Err (ahead room.version)) second) not_ahead) ∙ e in
          elim (cases_Bool (nat_lt kept_changes (room.version - seen))) [
            | inl holds ↦ absurd (let bad : Err (stale room.version) ≡ Ok asked = sym (ap (λ b. cond b (Err (stale room.version)) third) holds) ∙ e2 in cc)
            | inr not_stale ↦
                let e3 : third ≡ Ok asked = sym (ap (λ b. cond b (Err (stale room.version)) third) not_stale) ∙ e2 in
                elim (cases_Bool (nat_lt (lines_then (length room.desk.state.lines) (changes_since room.changes room.version seen)) (range.first + range.old))) [
                  | inl holds ↦ absurd (let bad : Err replies.range ≡ Ok asked = sym (ap (λ b. cond b (Err replies.range) (edit_at range found)) holds) ∙ e3 in cc)
                  | inr inside ↦
                      let at = at_place range found asked (sym (ap (λ b. cond b (Err replies.range) (edit_at range found)) inside) ∙ e3) in
                      record {
                        not_ahead = ltb-false room.version seen not_ahead;
                        not_stale = ltb-false kept_changes (room.version - seen) not_stale;
                        inside = ltb-false (lines_then (length room.desk.state.lines) (changes_since room.changes room.version seen)) (range.first + range.old) inside;
                        place = at.place;
                        found = at.found_is;
                        is = at.is;
                      }
                ]
          ]
    ]

pub for_owner-asks : (kind : Kind) (seat : List ℕ) (owners : List (List ℕ)) (asked : Kind) → for_owner kind seat owners ≡ Ok asked → asked ≡ kind
for_owner-asks kind seat [] asked e = let same : kind ≡ asked = cc in sym same
for_owner-asks kind seat (owner ∷ owners) asked e =
    elim (cases_Bool (bytes_eq owner seat)) [
      | inl own ↦ let same : Ok kind ≡ Ok asked = sym (ap (λ b. cond b (Ok kind) (Err (not_yours owner))) own) ∙ e in let is : kind ≡ asked = cc in sym is
      | inr other ↦ absurd (let bad : Err (not_yours owner) ≡ Ok asked = sym (ap (λ b. cond b (Ok kind) (Err (not_yours owner))) other) ∙ e in cc)
    ]

-- What the room asks of its desk raises the version as the command does.
pub rises-asked : (room : RoomState) (seat : List ℕ) (seen : ℕ) (kind asked : Kind) → asked_of room seat seen kind ≡ Ok asked → rises asked ≡ rises kind
rises-asked room seat seen (edits range) asked e = ap rises (asks_edit room seat seen range asked e).is
rises-asked room seat seen undoes asked e = ap rises (for_owner-asks undoes seat (last_of 1 room.done) asked e)
rises-asked room seat seen redoes asked e = ap rises (for_owner-asks redoes seat (last_of 1 room.undone) asked e)
rises-asked room seat seen forgets asked e = let same : forgets ≡ asked = cc in ap rises (sym same)
rises-asked room seat seen looks asked e = let same : looks ≡ asked = cc in ap rises (sym same)

-- The law of seats: an edit takes away or changes just what its seat saw.
pub edits_seen : (old : RoomState) (seat : List ℕ) (seen : ℕ) (range : RangeOf) (asked : Kind) (new : Memory) (texts : List Text) → Holds old → StandsFor old texts → asked_of old seat seen (edits range) ≡ Ok asked → Step old.desk asked new → EditsSeen old texts seen range (room_after old seat asked new)
edits_seen old seat seen range asked new texts holds stands_for e step =
    let asks = asks_edit old seat seen range asked e in
    let kept = holds.kept in
    let not_ahead = asks.not_ahead in
    let not_stale = asks.not_stale in
    let n : ℕ = since old.changes old.version seen in
    let few : n ≤ length old.changes = omega arith in
    let from = stands_from n old.changes texts old.desk.state.lines few stands_for.stands in
    let counted = lines_then-length (drop n old.changes) (get_or texts n []) from.later old.desk.state.lines from.stands in
    let inside : range.first + range.old ≤ length (get_or texts n []) = subst (λ (k : ℕ). range.first + range.old ≤ k) counted asks.inside in
    let lines = place_keeps (drop n old.changes) (get_or texts n []) from.later old.desk.state.lines seen range.first range.old asks.place from.stands inside asks.found in
    let edited : Step old.desk (edits (record { first = asks.place; old = range.old; new = range.new })) new = subst (λ (kind : Kind). Step old.desk kind new) asks.is step in
    record { place = asks.place; at = asks.found; inside = inside; saw = lines.lines; others = edited.lines }

pub keeps_seen : (old : RoomState) (seat : List ℕ) (seen : ℕ) (kind asked : Kind) (new : Memory) (texts : List Text) → Holds old → StandsFor old texts → asked_of old seat seen kind ≡ Ok asked → Step old.desk asked new → KeepsSeen old texts seen kind (room_after old seat asked new)
keeps_seen old seat seen (edits range) asked new texts holds stands_for e step = edits_seen old seat seen range asked new texts holds stands_for e step
keeps_seen old seat seen undoes asked new texts holds stands_for e step = tt
keeps_seen old seat seen redoes asked new texts holds stands_for e step = tt
keeps_seen old seat seen forgets asked new texts holds stands_for e step =
    let same : forgets ≡ asked = cc in
    let step2 : Step old.desk forgets new = subst (λ (kind : Kind). Step old.desk kind new) (sym same) step in
    step2.lines
keeps_seen old seat seen looks asked new texts holds stands_for e step =
    let same : looks ≡ asked = cc in
    let step2 : Step old.desk looks new = subst (λ (kind : Kind). Step old.desk kind new) (sym same) step in
    ap (λ (m : Memory). m.state.lines) step2

-- The list of texts stands on, with the new text put behind where the version rose.
stands_made : (old : RoomState) (seat : List ℕ) (asked : Kind) (new : Memory) (texts : List Text) → Holds old → StandsFor old texts → Step old.desk asked new → Makes old.desk asked new → StandsFor (room_after old seat asked new) (texts_after texts asked new.state.lines)
stands_made old seat asked new texts holds stands_for step (none is lines) =
    let count : rises asked ≡ 0 = sym (length-change_of old.desk asked new step) ∙ ap length is in
    let kept = holds.kept in
    let n : ℕ = length (old.changes ++ []) - kept_changes in
    let long = ap length (append-nil old.changes) in
    let zero_dropped : n ≡ 0 = omega arith in
    let changes : last_of kept_changes (old.changes ++ change_of old.desk asked) ≡ old.changes =
    ap (λ more. last_of kept_changes (old.changes ++ more)) is ∙ ap (λ k. drop k (old.changes ++ [])) zero_dropped ∙ append-nil old.changes in
    record {
      stands =
          subst (λ (r : ℕ). Stands (last_of kept_changes (old.changes ++ change_of old.desk asked)) (cond (r == 0) texts (last_of (kept_changes + 1) (texts ++ new.state.lines ∷ []))) new.state.lines) (sym count)
          (subst (λ (cs : List RangeOf). Stands cs texts new.state.lines) (sym changes)
          (subst (λ (now : Text). Stands old.changes texts now) (sym lines) stands_for.stands));
    }
stands_made old seat asked new texts holds stands_for step (one change is made) =
    let count : rises asked ≡ 1 = sym (length-change_of old.desk asked new step) ∙ ap length is in
    record {
      stands =
          subst (λ (r : ℕ). Stands (last_of kept_changes (old.changes ++ change_of old.desk asked)) (cond (r == 0) texts (last_of (kept_changes + 1) (texts ++ new.state.lines ∷ []))) new.state.lines) (sym count)
          (subst (λ (more : List RangeOf). Stands (last_of kept_changes (old.changes ++ more)) (last_of (kept_changes + 1) (texts ++ new.state.lines ∷ [])) new.state.lines) (sym is)
          (stands_last kept_changes old.changes texts old.desk.state.lines new.state.lines change stands_for.stands made));
    }

pub stands_after : (old : RoomState) (seat : List ℕ) (seen : ℕ) (kind asked : Kind) (new : Memory) (texts : List Text) → Holds old → StandsFor old texts → asked_of old seat seen kind ≡ Ok asked → Step old.desk asked new → StandsFor (room_after old seat asked new) (texts_after texts kind new.state.lines)
stands_after old seat seen kind asked new texts holds stands_for e step =
    subst (λ (r : ℕ). StandsFor (room_after old seat asked new) (cond (r == 0) texts (last_of (kept_changes + 1) (texts ++ new.state.lines ∷ [])))) (rises-asked old seat seen kind asked e)
    (stands_made old seat asked new texts holds stands_for step (makes old.desk asked new holds.linked holds.linked_back step))
