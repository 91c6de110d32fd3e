-- The law of seats over whole sessions.
use Rattle.std.proofs.Common.{◌≡◌, ℕ, ◌+◌, ◌-◌, ◌≤◌, ◌<◌, ◌^◌, Ok, List, [], ◌∷◌, ◌++◌, length, drop, get_or, ap, sym, ◌∙◌, arith, refl, subst, length-append, length-drop}
use Rattle.std.proofs.lemmas.List.{drop-append-le, drop-drop, get_or-drop}
use Rattle.spec_text.specs.Edits.{EditOf, stretch}
use Rattle.spec_state.specs.State.{State}
use Rattle.spec_state.specs.Keeping.{IsWhole}
use Rattle.spec_wire.specs.Commands.{CommandOf, RoomLineOf, edit}
use Rattle.spec_machine.specs.Machine.{Memory, opened_memory, memory_after, memory_behind}
use Rattle.spec_machine.specs.Sessions.{Accepts, AcceptsAll}
use Rattle.spec_machine.specs.KeptMemories.{IsWholeMemory}
use Rattle.spec_machine.proofs.MachineLaws.{opened-whole, step-whole}
use Rattle.spec_machine.proofs.RefusalLaws.{accepted-can}
use Rattle.spec_room.specs.Changes.{Text}
use Rattle.spec_room.specs.Kinds.{Kind, edits, undoes, redoes, forgets, looks, edit_range, kind_of, command_at}
use Rattle.spec_room.specs.Rooms.{RoomState, opened_room, kept_changes, last_of, since, asked_of, rises, room_after}
use Rattle.spec_room.specs.Standing.{StandsFor, text_at, texts_after}
use Rattle.spec_room.specs.Holding.{Holds}
use Rattle.spec_room.specs.Sessions.{Takes, versions_after, Session, opens, goes, TakesSeen}
use Rattle.spec_room.proofs.RoomLaws.{holds_after}
use Rattle.spec_room.proofs.SeatLaws.{rises-asked, edits_seen, asks_edit, stands_after}
use Rattle.spec_room.proofs.CommandLaws.{accepted-step}

-- The last ones of a list with one more behind, from its last ones.
last_of-last_of : {X : Type 0} (most : ℕ) (items : List X) (item : X) → 0 < most → last_of most (last_of most items ++ item ∷ []) ≡ last_of most (items ++ item ∷ [])
last_of-last_of most items item some =
    let left : ℕ = length items - most in
    let low : left ≤ length items = omega arith in
    let kept = length-drop left items in
    let long = length-append (drop left items) (item ∷ []) in
    let whole = length-append items (item ∷ []) in
    let sum : left + (length (drop left items ++ item ∷ []) - most) ≡ length (items ++ item ∷ []) - most = omega (arith, kept, long, whole, some) in
    ap (drop (length (drop left items ++ item ∷ []) - most)) (sym (drop-append-le left items (item ∷ []) low))
    ∙ drop-drop (length (drop left items ++ item ∷ []) - most) left (items ++ item ∷ [])
    ∙ ap (λ n. drop n (items ++ item ∷ [])) sum

-- How many versions there are after an accepted command, and the last texts of them.
versions-length : (texts : List Text) (kind : Kind) (now : Text) → length (versions_after texts kind now) ≡ length texts + rises kind
versions-length texts (edits range) now = length-append texts (now ∷ [])
versions-length texts undoes now = length-append texts (now ∷ [])
versions-length texts redoes now = length-append texts (now ∷ [])
versions-length texts forgets now = omega arith
versions-length texts looks now = omega arith

versions-last : (texts : List Text) (kind : Kind) (now : Text) → texts_after (last_of (kept_changes + 1) texts) kind now ≡ last_of (kept_changes + 1) (versions_after texts kind now)
versions-last texts (edits range) now = last_of-last_of (kept_changes + 1) texts now (omega arith)
versions-last texts undoes now = last_of-last_of (kept_changes + 1) texts now (omega arith)
versions-last texts redoes now = last_of-last_of (kept_changes + 1) texts now (omega arith)
versions-last texts forgets now = refl
versions-last texts looks now = refl

-- ---- the memory behind commands with one more

behind-more : (memory : Memory) (commands : List CommandOf) (command : CommandOf) → memory_behind memory (commands ++ command ∷ []) ≡ memory_after (memory_behind memory commands) command
behind-more memory [] command = refl
behind-more memory (first ∷ commands) command = behind-more (memory_after memory first) commands command

accepts-more : (memory : Memory) (commands : List CommandOf) (command : CommandOf) → AcceptsAll memory commands → Accepts (memory_behind memory commands) command → AcceptsAll memory (commands ++ command ∷ [])
accepts-more memory [] command all can = (can, tt)
accepts-more memory (first ∷ commands) command all can = (all.0, accepts-more (memory_after memory first) commands command all.1 can)

-- ---- what holds after each session

-- The desk is the machine's after the commands that it was asked, all of which it accepted; the room keeps what each room keeps, there
-- is a text for each version, and it stands for the last 1,001.
pub record Stood (state : State) (commands : List CommandOf) (room : RoomState) (texts : List Text) : Type 0 where
  pub desk : room.desk ≡ memory_behind (opened_memory state) commands
  pub accepts : AcceptsAll (opened_memory state) commands
  pub whole : IsWholeMemory room.desk
  pub holds : Holds room
  pub count : length texts ≡ room.version + 1
  pub stands : StandsFor room (last_of (kept_changes + 1) texts)

stood_open : (state : State) → IsWhole state → Stood state [] (opened_room (opened_memory state)) (state.lines ∷ [])
stood_open state whole = record {
  desk = refl;
  accepts = tt;
  whole = opened-whole state whole;
  holds = record { kept = refl; done = refl; undone = refl; fits = tt; linked = tt; linked_back = tt };
  count = refl;
  stands = record { stands = refl };
}

stood_goes : (state : State) (commands : List CommandOf) (old : RoomState) (texts : List Text) (it : RoomLineOf) (asked : Kind) → Stood state commands old texts
    → asked_of old it.seat it.seen (kind_of it.command) ≡ Ok asked → Accepts old.desk (command_at it.command asked)
    → Stood state (commands ++ command_at it.command asked ∷ []) (room_after old it.seat asked (memory_after old.desk (command_at it.command asked)))
    (versions_after texts (kind_of it.command) (memory_after old.desk (command_at it.command asked)).state.lines)
stood_goes state commands old texts it asked stood asks can =
    let command = command_at it.command asked in
    let new = memory_after old.desk command in
    let kind = kind_of it.command in
    let able = accepted-can old.desk command can in
    let step = accepted-step old it asked asks able in
    let rise = rises-asked old it.seat it.seen kind asked asks in
    let longer = versions-length texts kind new.state.lines in
    let before = stood.count in
    let lines = stood.whole.state.text.count in
    let few : length old.desk.state.lines < 2 ^ 64 = omega (arith, lines) in
    record {
      desk = ap (λ (m : Memory). memory_after m command) stood.desk ∙ sym (behind-more (opened_memory state) commands command);
      accepts = accepts-more (opened_memory state) commands command stood.accepts (subst (λ (m : Memory). Accepts m command) stood.desk can);
      whole = step-whole old.desk command stood.whole able;
      holds = holds_after old it.seat asked new stood.holds step few;
      count = omega (arith, rise, longer, before);
      stands = subst (StandsFor (room_after old it.seat asked new)) (versions-last texts kind new.state.lines)
          (stands_after old it.seat it.seen kind asked new (last_of (kept_changes + 1) texts) stood.holds stood.stands asks step);
    }

pub stood : (state : State) (commands : List CommandOf) (room : RoomState) (texts : List Text) → IsWhole state → Session state commands room texts → Stood state commands room texts
stood state commands room texts whole opens = stood_open state whole
stood state commands room texts whole (goes before old then it new session takes) =
    subst (λ (it_is : RoomState). Stood state (before ++ command_at it.command takes.asked ∷ []) it_is (versions_after then (kind_of it.command) it_is.desk.state.lines)) (sym takes.room)
    (stood_goes state before old then it takes.asked (stood state before old then whole session) takes.asks takes.accepts)

-- The text at a version, among the last 1,001 and among all.
text_at-version : (state : State) (commands : List CommandOf) (room : RoomState) (texts : List Text) (seen : ℕ) → Stood state commands room texts → seen ≤ room.version → room.version - seen ≤ kept_changes → text_at room (last_of (kept_changes + 1) texts) seen ≡ get_or texts seen []
text_at-version state commands room texts seen stands not_ahead not_stale =
    let left : ℕ = length texts - (kept_changes + 1) in
    let kept = stands.holds.kept in
    let count = stands.count in
    let same : left + since room.changes room.version seen ≡ seen = omega (arith, kept, count, not_ahead, not_stale) in
    get_or-drop left texts (since room.changes room.version seen) [] ∙ ap (λ n. get_or texts n []) same

-- For every session of any seats, an accepted edit takes away or changes just lines that its seat saw.
pub session_seen : (state : State) (commands : List CommandOf) (old : RoomState) (texts : List Text) (seat : List ℕ) (seen : ℕ) (it : EditOf) (new : RoomState) → IsWhole state → Session state commands old texts
    → Takes old (record { seat = seat; seen = seen; command = edit it }) new → TakesSeen old texts seen (edit_range it) new
session_seen state commands old texts seat seen it new whole session takes =
    let range = edit_range it in
    let line : RoomLineOf = record { seat = seat; seen = seen; command = edit it } in
    let made = memory_after old.desk (command_at (edit it) takes.asked) in
    let stands = stood state commands old texts whole session in
    let asks = asks_edit old seat seen range takes.asked takes.asks in
    let then = text_at-version state commands old texts seen stands asks.not_ahead asks.not_stale in
    let step = accepted-step old line takes.asked takes.asks (accepted-can old.desk (command_at (edit it) takes.asked) takes.accepts) in
    let law = edits_seen old seat seen range takes.asked made (last_of (kept_changes + 1) texts) stands.holds stands.stands takes.asks step in
    subst (TakesSeen old texts seen range) (sym takes.room) (record {
      place = law.place;
      at = law.at;
      inside = subst (λ (text : Text). range.first + range.old ≤ length text) then law.inside;
      saw = law.saw ∙ ap (λ (text : Text). stretch text range.first range.old) then;
      others = law.others;
    })
