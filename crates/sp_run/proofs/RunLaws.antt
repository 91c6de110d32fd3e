-- What a run did, by what it did for its words: what follows of the contract of `run` (docs/RULES.md, "The program").
use Rattle.std.proofs.Common.{◌≡◌, ℕ, ◌+◌, ◌-◌, ◌^◌, ◌<◌, List, [], ◌∷◌, map, Some, None, slice_get, ◌↔◌, refl, subst}
use Rattle.std.specs.Prelude.{string_bytes}
use Rattle.std.specs.declared.option.Option.{Option}
use Rattle.std.specs.declared.alloc.Global.{Global}
use Rattle.std.specs.declared.string.String.{String}
use Rattle.spec_machine.specs.Machine.{Memory, opened_memory}
use Rattle.spec_machine.specs.Sessions.{LeadsTo}
use Rattle.spec_room.specs.Rooms.{opened_room}
use Rattle.spec_sample.specs.Accepted.{AreAccepted}
use Rattle.spec_sample.proofs.SampleAccepted.{sample-accepted}
use Rattle.spec_session.specs.CommandLines.{command_lines}
use Rattle.spec_session.specs.Runs.{Counts}
use Rattle.spec_session.specs.Sessions.{FailedNothing, streams}
use Rattle.spec_state.specs.State.{State}
use Rattle.spec_state.specs.Keeping.{IsWhole}
use Rattle.spec_state.specs.Printing.{printing_of}
use Rattle.spec_text.specs.Limits.{raw_limit}
use Rattle.sp_kit.specs.Files.{Files}
use Rattle.sp_run.specs.declared.form.View.{View}
use Rattle.sp_run.specs.declared.status.Status.{Status}
use Rattle.sp_run.specs.declared.status.Status.TheVariants as statuses
use Rattle.sp_run.specs.Forms.{OriginOf, from_source, from_file, Asked, show, print, desk, room, sample, collate}
use Rattle.sp_run.specs.Records.{records_name}
use Rattle.sp_run.specs.Saving.{Changes, KeepsAllBut}
use Rattle.sp_run.specs.Unopened.{Outside, ReadFailed, FetchFailed, ReadsUpTo}
use Rattle.sp_run.specs.Showing.{Shown, PartShown, Answers, AnswersFile}
use Rattle.sp_run.specs.ShowCounted.{ShowCounts}
use Rattle.sp_run.specs.DeskEnding.{AnsweredAll, AnsweredCalmly, AnswersDesk, HeldSession, the_desk}
use Rattle.sp_run.specs.DeskLines.{desk_at, desk_itself, memories_of}
use Rattle.sp_run.specs.RoomLines.{AnswersRoomLine, desk_in, room_at}
use Rattle.sp_run.specs.RoomEnding.{HeldRoom, RoomAnsweredAll, RoomAnsweredCalmly, the_room}
use Rattle.sp_run.specs.Answering.{AnswersWords, asked_in}
use Rattle.sp_run.specs.Asking.{AsksOne, CollationAsks, CommandsAsk, SaysMissing, StatusAsks, telling}
use Rattle.sp_run.specs.Collating.{AnswersFate, Collated, fate_of}
use Rattle.sp_run.specs.Ending.{AnswersSample, Ends, SampleEnds, ToldSample}
use Rattle.sp_run.specs.Reopening.{HasSaved}
use Rattle.sp_run.specs.World.{World}
use Rattle.spec_machine.proofs.SessionLaws.{reopened-leads}
use Rattle.sp_run.proofs.Asked.{missing-alone, no-script}
use Rattle.sp_run.proofs.Missing.{commands-missing, show-missing}
use Rattle.sp_run.proofs.Held.{not-risen}
use Rattle.sp_run.proofs.ShownStatus.{answers-ends, answers-file}
use Rattle.sp_run.proofs.DeskAnswers.{commands-answer, held-settles}
use Rattle.sp_run.proofs.DeskSessions.{answered-calmly, by_desk}
use Rattle.sp_run.proofs.HeldSessions.{held-answered}
use Rattle.sp_run.proofs.Reached.{desk-leads, room-leads, runs-few}
use Rattle.sp_run.proofs.Reopened.{saved-reopened}
use Rattle.sp_run.proofs.RoomSessions.{by_room, room-calmly}
use Rattle.sp_run.proofs.Collations.{answers-fate}
use Rattle.sp_run.proofs.SampleRooms.{asked-few}

-- No form ends with the status of other words.
no-usage : (asked : Asked) (old new : Outside) (from to : Counts) → Ends asked old new from to statuses.Usage → ⊥
no-usage (show view origin) old new from to it = it.0
no-usage (desk name) old new from to it = it
no-usage (room name) old new from to it = it
no-usage (sample rooms) old new from to it = it
no-usage (collate one other) old new from to it = it.0.0

-- The status of a sample, where the sink counts no fault.
sample-answers : (rooms : ℕ) (old new : Outside) (from to : Counts) (status : Status) → SampleEnds rooms old new from to status
    → new.sink.faults ≡ old.sink.faults → old.sink.faults < 2 ^ 64 - 1 → AnswersSample status
sample-answers rooms old new from to statuses.Done it writes low = tt
sample-answers rooms old new from to statuses.Usage it writes low = it
sample-answers rooms old new from to (statuses.NoFile name) it writes low = it
sample-answers rooms old new from to (statuses.BadText fault) it writes low = it
sample-answers rooms old new from to statuses.ReadFault it writes low = it
sample-answers rooms old new from to statuses.WriteFault it writes low = not-risen old.sink.faults new.sink.faults it.wrote.rose writes low
sample-answers rooms old new from to statuses.ShelfFault it writes low = it
sample-answers rooms old new from to (statuses.BadRecords fault) it writes low = it
sample-answers rooms old new from to statuses.NoMemory it writes low = tt
sample-answers rooms old new from to (statuses.CommandLong number) it writes low = it
sample-answers rooms old new from to statuses.InputFull it writes low = it
sample-answers rooms old new from to (statuses.BadSheets file sheet) it writes low = it
sample-answers rooms old new from to statuses.NotLocked it writes low = it

module _ {I O F S : Type 0} {words : List (String Global)} {old new : World I O F S} {status : Status} (it : AnswersWords words old new status) where
  -- How a form ended that has this status.
  ended-as : (form : Asked) (so : Status) → asked_in words ≡ Some form → status ≡ so
      → Ends form old.told new.told old.counts new.counts so
  ended-as form so is done = subst (Ends form old.told new.told old.counts new.counts) done (it.form form is).ends

  -- Words of no form, and no others, are Usage, and touch nothing.
  pub run-usage : (status ≡ statuses.Usage) ↔ (asked_in words ≡ None)
  run-usage = (only (asked_in words) refl, λ none. (it.none none).is)
    where
      only : (a : Option Asked) → asked_in words ≡ a → status ≡ statuses.Usage → asked_in words ≡ None
      only None is usage = is
      only (Some form) is usage = absurd (no-usage form old.told new.told old.counts new.counts (ended-as form statuses.Usage is usage))

  pub run-untouched : status ≡ statuses.Usage
      → (new.input ≡ old.input) × (new.output ≡ old.output) × (new.shelf ≡ old.shelf) × (new.steps ≡ old.steps)
  run-untouched usage =
      let all = it.none (run-usage.0 usage) in
      (all.input, all.output, all.shelf, all.steps)

  -- How each status comes, and what it leaves outside.
  pub run-ends : (form : Asked) → asked_in words ≡ Some form → Ends form old.told new.told old.counts new.counts status
  run-ends form is = (it.form form is).ends

  -- ---- a script written

  pub run-shown : (view : View) (origin : OriginOf) → asked_in words ≡ Some (show view origin) → status ≡ statuses.Done
      → Shown view origin old.told new.told
  run-shown view origin is done = (ended-as (show view origin) statuses.Done is done).0

  pub run-read-fault : (view : View) (origin : OriginOf) → asked_in words ≡ Some (show view origin) → status ≡ statuses.ReadFault
      → ReadFailed origin old.told new.told
  run-read-fault view origin is failed = (ended-as (show view origin) statuses.ReadFault is failed).0

  pub run-write-fault : (view : View) (origin : OriginOf) → asked_in words ≡ Some (show view origin) → status ≡ statuses.WriteFault
      → PartShown view origin old.told new.told
  run-write-fault view origin is failed = (ended-as (show view origin) statuses.WriteFault is failed).0

  pub run-shelf-fault : (view : View) (origin : OriginOf) → asked_in words ≡ Some (show view origin) → status ≡ statuses.ShelfFault
      → FetchFailed origin old.told new.told
  run-shelf-fault view origin is failed = (ended-as (show view origin) statuses.ShelfFault is failed).0

  -- The shelf is asked for the script, and then for what stands beside it where the script was there, and nothing else.
  pub run-asked : (view : View) (origin : OriginOf) → asked_in words ≡ Some (show view origin) → StatusAsks origin old.told.shelf new.told.shelf status
  run-asked view origin is = (it.form (show view origin) is).asks

  -- Where it tells that there is no script, the status says so, and nothing else was asked for: it is another only where that call
  -- failed or there was no memory.
  pub run-missing : (view : View) (name : List ℕ) → asked_in words ≡ Some (show view (from_file name)) → (files : Files) → old.told.shelf.files ≡ Some files → files.held name ≡ None
      → SaysMissing name status × AsksOne name old.told.shelf new.told.shelf
  run-missing view name is files told none = (
    show-missing name files old.told new.told told none view status (run-ends (show view (from_file name)) is).0,
    missing-alone name files old.told.shelf new.told.shelf status told none (run-asked view (from_file name) is),
  )

  -- It leaves what it doesn't use, and what the shelf holds.
  pub run-source-kept : (view : View) (name : List ℕ) → asked_in words ≡ Some (show view (from_file name)) → new.input ≡ old.input
  run-source-kept view name is = (it.form (show view (from_file name)) is).leaves.source

  pub run-shelf-kept : asked_in words ≡ Some (print from_source) → new.shelf ≡ old.shelf
  run-shelf-kept is = (it.form (print from_source) is).leaves.shelf

  pub run-files-kept : (view : View) (origin : OriginOf) → asked_in words ≡ Some (show view origin)
      → new.told.shelf.files ≡ old.told.shelf.files
  run-files-kept view origin is = (it.form (show view origin) is).leaves.files

  -- At most one byte past the limit of a script is read.
  pub run-budget : (view : View) (origin : OriginOf) → asked_in words ≡ Some (show view origin)
      → ReadsUpTo old.told.source.unread new.told.source.unread (raw_limit + 1)
  run-budget view origin is = (it.form (show view origin) is).leaves.budget

  -- Where no fault is counted, a script that the source tells has the status that it asks for, or there is no memory.
  pub run-answers : asked_in words ≡ Some (print from_source) → new.told.source.faults ≡ old.told.source.faults
      → new.told.sink.faults ≡ old.told.sink.faults
      → old.told.source.faults < 2 ^ 64 - 1 → old.told.sink.faults < 2 ^ 64 - 1 → (script : List ℕ)
      → old.told.source.unread ≡ Some script → Answers (printing_of script) status
  run-answers is reads writes low below = answers-ends old.told new.told status (run-ends (print from_source) is).0 reads writes low below

  -- So has what a shelf tells that it has under the name and under that of its records.
  pub run-answers-file : (view : View) (name : List ℕ) → asked_in words ≡ Some (show view (from_file name))
      → new.told.shelf.faults ≡ old.told.shelf.faults → new.told.sink.faults ≡ old.told.sink.faults
      → old.told.shelf.faults < 2 ^ 64 - 1 → old.told.sink.faults < 2 ^ 64 - 1 → (files : Files) → old.told.shelf.files ≡ Some files
      → AnswersFile view name (files.held name) (files.held (records_name name)) status
  run-answers-file view name is fetches writes low below = answers-file view name old.told new.told status
      (run-ends (show view (from_file name)) is).0 fetches writes low below

  -- What the steps count: its opening, where it comes to that.
  pub run-counts : (view : View) (origin : OriginOf) → asked_in words ≡ Some (show view origin)
      → ShowCounts view origin old.told new.told old.counts new.counts status
  run-counts view origin is = (run-ends (show view origin) is).1

  -- ---- a desk

  -- It answered all its lines.
  pub run-answered : (name : List ℕ) → asked_in words ≡ Some (desk name) → status ≡ statuses.Done
      → AnsweredAll name old.told new.told old.counts new.counts
  run-answered name is done = held-answered by_desk name old.told new.told old.counts new.counts (ended-as (desk name) statuses.Done is done)

  -- It opened the state that an earlier session saved, where that stands on the shelf.
  pub run-reopened : (name : List ℕ) (saved : State) (is : asked_in words ≡ Some (desk name)) (done : status ≡ statuses.Done) → IsWhole saved
      → HasSaved old.told.shelf name saved → (run-answered name is done).state ≡ saved
  run-reopened name saved is done whole stands =
      saved-reopened old.told.shelf name saved (run-answered name is done).state whole stands (run-answered name is done).has

  -- Accepted commands lead from there to each memory that it had.
  pub run-leads : (name : List ℕ) (is : asked_in words ≡ Some (desk name)) (done : status ≡ statuses.Done) (j : ℕ) (now : Memory)
      → slice_get (memories_of desk_itself (opened_memory (run-answered name is done).state) (run-answered name is done).steps) j ≡ Some now
      → LeadsTo (opened_memory (run-answered name is done).state) now
  run-leads name is done =
      let all = run-answered name is done in
      desk-leads (desk_at name (opened_memory all.state) (telling old.told.shelf all.calls) all.opened) (command_lines all.input) all.steps all.runs

  -- So what led to the memory that was saved leads on to them.
  pub run-goes-on : (earlier saved : Memory) (name : List ℕ) (is : asked_in words ≡ Some (desk name)) (done : status ≡ statuses.Done) → LeadsTo earlier saved
      → IsWhole saved.state → HasSaved old.told.shelf name saved.state → (j : ℕ) (now : Memory)
      → slice_get (memories_of desk_itself (opened_memory (run-answered name is done).state) (run-answered name is done).steps) j ≡ Some now → LeadsTo earlier now
  run-goes-on earlier saved name is done leads whole stands j now there =
      reopened-leads earlier saved now leads
      (subst (λ (state : State). LeadsTo (opened_memory state) now) (run-reopened name saved.state is done whole stands) (run-leads name is done j now there))

  -- Where no store failed, each save was done.
  pub run-saved : (name : List ℕ) → asked_in words ≡ Some (desk name) → status ≡ statuses.Done
      → new.told.shelf.faults ≡ old.told.shelf.faults → old.told.shelf.faults < 2 ^ 64 - 1 → AnsweredCalmly name old.told new.told
  run-saved name is done stores low = answered-calmly name old.told new.told old.counts new.counts (run-answered name is done) stores low

  -- The shelf is asked for both files, and then for the two stores of each save, and nothing else.
  pub run-desk-asked : (name : List ℕ) → asked_in words ≡ Some (desk name) → CommandsAsk name old.told.shelf new.told.shelf status
  run-desk-asked name is = (it.form (desk name) is).asks

  -- A script that the shelf tells it hasn't: the status says so.
  pub run-desk-missing : (name : List ℕ) → asked_in words ≡ Some (desk name) → (files : Files) → old.told.shelf.files ≡ Some files → files.held name ≡ None → SaysMissing name status
  run-desk-missing name is files told none =
      commands-missing name files old.told new.told told none (HeldSession name old.told new.told old.counts new.counts) old.counts new.counts status
      (λ end held. no-script old.told.shelf.files files name held.has.script told none held.has.has) (run-ends (desk name) is)

  -- It leaves what the shelf holds, but for the files of its script.
  pub run-others-kept : (name : List ℕ) → asked_in words ≡ Some (desk name)
      → Changes old.told.shelf.files new.told.shelf.files (λ before after. KeepsAllBut before after name (records_name name))
  run-others-kept name is = (it.form (desk name) is).leaves

  -- Where no fault is counted, it ends as the command lines that the source tells ask for.
  pub run-answers-desk : (name : List ℕ) → asked_in words ≡ Some (desk name)
      → FailedNothing (streams old.told.source old.told.sink) (streams new.told.source new.told.sink)
      → new.told.shelf.faults ≡ old.told.shelf.faults → old.told.shelf.faults < 2 ^ 64 - 1 → (files : Files)
      → old.told.shelf.files ≡ Some files
      → (input : List ℕ) → old.told.source.unread ≡ Some input → AnswersDesk name (files.held name) (files.held (records_name name)) input status
  run-answers-desk name is calm fetches low files has input told =
      commands-answer (HeldSession name old.told new.told old.counts new.counts) name old.told new.told old.counts new.counts status
      (run-ends (desk name) is) fetches low files has input
      (held-settles the_desk name old.told new.told old.counts new.counts calm files has input told)

  -- ---- a room

  -- It answers by the rules of rooms, and each edit that it takes takes away or changes just lines that its seat saw.
  pub run-seats-answered : (name : List ℕ) → asked_in words ≡ Some (room name) → status ≡ statuses.Done
      → RoomAnsweredAll name old.told new.told old.counts new.counts
  run-seats-answered name is done = held-answered by_room name old.told new.told old.counts new.counts (ended-as (room name) statuses.Done is done)

  -- It opened the state that an earlier session saved, where that stands on the shelf.
  pub run-seats-reopened : (name : List ℕ) (saved : State) (is : asked_in words ≡ Some (room name)) (done : status ≡ statuses.Done) → IsWhole saved
      → HasSaved old.told.shelf name saved → (run-seats-answered name is done).state ≡ saved
  run-seats-reopened name saved is done whole stands =
      saved-reopened old.told.shelf name saved (run-seats-answered name is done).state whole stands (run-seats-answered name is done).has

  -- Accepted commands lead from there to each memory that its desk had.
  pub run-seats-lead : (name : List ℕ) (is : asked_in words ≡ Some (room name)) (done : status ≡ statuses.Done) (j : ℕ) (now : Memory)
      → slice_get (memories_of desk_in (opened_memory (run-seats-answered name is done).state) (run-seats-answered name is done).steps) j ≡ Some now
      → LeadsTo (opened_memory (run-seats-answered name is done).state) now
  run-seats-lead name is done =
      let all = run-seats-answered name is done in
      let first = opened_room (opened_memory all.state) in
      room-leads first (all.state.lines ∷ []) (command_lines all.input) all.steps all.seen
      (runs-few AnswersRoomLine (room_at name first (telling old.told.shelf all.calls) all.opened) (command_lines all.input) all.steps all.runs)

  -- So what led to the memory that was saved leads on to them.
  pub run-seats-go-on : (earlier saved : Memory) (name : List ℕ) (is : asked_in words ≡ Some (room name)) (done : status ≡ statuses.Done) → LeadsTo earlier saved
      → IsWhole saved.state → HasSaved old.told.shelf name saved.state → (j : ℕ) (now : Memory)
      → slice_get (memories_of desk_in (opened_memory (run-seats-answered name is done).state) (run-seats-answered name is done).steps) j ≡ Some now → LeadsTo earlier now
  run-seats-go-on earlier saved name is done leads whole stands j now there =
      reopened-leads earlier saved now leads
      (subst (λ (state : State). LeadsTo (opened_memory state) now) (run-seats-reopened name saved.state is done whole stands) (run-seats-lead name is done j now there))

  -- Where no store failed, each save was done.
  pub run-seats-saved : (name : List ℕ) → asked_in words ≡ Some (room name) → status ≡ statuses.Done
      → new.told.shelf.faults ≡ old.told.shelf.faults → old.told.shelf.faults < 2 ^ 64 - 1 → RoomAnsweredCalmly name old.told new.told
  run-seats-saved name is done stores low = room-calmly name old.told new.told old.counts new.counts (run-seats-answered name is done) stores low

  pub run-room-asked : (name : List ℕ) → asked_in words ≡ Some (room name) → CommandsAsk name old.told.shelf new.told.shelf status
  run-room-asked name is = (it.form (room name) is).asks

  pub run-room-missing : (name : List ℕ) → asked_in words ≡ Some (room name) → (files : Files) → old.told.shelf.files ≡ Some files → files.held name ≡ None → SaysMissing name status
  run-room-missing name is files told none =
      commands-missing name files old.told new.told told none (HeldRoom name old.told new.told old.counts new.counts) old.counts new.counts status
      (λ end held. no-script old.told.shelf.files files name held.has.script told none held.has.has) (run-ends (room name) is)

  -- It leaves what the shelf holds, but for the files of its script.
  pub run-room-others-kept : (name : List ℕ) → asked_in words ≡ Some (room name)
      → Changes old.told.shelf.files new.told.shelf.files (λ before after. KeepsAllBut before after name (records_name name))
  run-room-others-kept name is = (it.form (room name) is).leaves

  -- Where no fault is counted, it ends as the command lines that the source tells ask for.
  pub run-answers-room : (name : List ℕ) → asked_in words ≡ Some (room name)
      → FailedNothing (streams old.told.source old.told.sink) (streams new.told.source new.told.sink)
      → new.told.shelf.faults ≡ old.told.shelf.faults → old.told.shelf.faults < 2 ^ 64 - 1 → (files : Files)
      → old.told.shelf.files ≡ Some files
      → (input : List ℕ) → old.told.source.unread ≡ Some input → AnswersDesk name (files.held name) (files.held (records_name name)) input status
  run-answers-room name is calm fetches low files has input told =
      commands-answer (HeldRoom name old.told new.told old.counts new.counts) name old.told new.told old.counts new.counts status
      (run-ends (room name) is) fetches low files has input
      (held-settles the_room name old.told new.told old.counts new.counts calm files has input told)

  -- ---- a sample

  -- Its line was written.
  pub run-sampled : (rooms : ℕ) → asked_in words ≡ Some (sample rooms) → status ≡ statuses.Done
      → ToldSample rooms old.told.sink new.told.sink old.counts new.counts
  run-sampled rooms is done = ended-as (sample rooms) statuses.Done is done

  -- None of its commands is refused but, below three rooms, the undo and the redo.
  pub run-sample-accepted : (rooms : ℕ) → asked_in words ≡ Some (sample rooms) → AreAccepted rooms
  run-sample-accepted rooms is = let few = asked-few (map string_bytes words) rooms is in sample-accepted rooms few.some few.few

  -- It leaves what it doesn't use.
  pub run-others-left : (rooms : ℕ) → asked_in words ≡ Some (sample rooms) → (new.input ≡ old.input) × (new.shelf ≡ old.shelf)
  run-others-left rooms is = (it.form (sample rooms) is).leaves

  -- Where no fault is counted, it is told.
  pub run-answers-sample : (rooms : ℕ) → asked_in words ≡ Some (sample rooms) → new.told.sink.faults ≡ old.told.sink.faults
      → old.told.sink.faults < 2 ^ 64 - 1 → AnswersSample status
  run-answers-sample rooms is writes low = sample-answers rooms old.told new.told old.counts new.counts status
      (run-ends (sample rooms) is) writes low

  -- ---- a collation

  -- It was written.
  pub run-collated : (one other : List ℕ) → asked_in words ≡ Some (collate one other) → status ≡ statuses.Done
      → Collated one other old.told.shelf new.told.shelf old.told.sink new.told.sink
  run-collated one other is done = (ended-as (collate one other) statuses.Done is done).0

  -- The shelf is asked for the old file, and then for the new one where the old one was there, and nothing else.
  pub run-collation-asked : (one other : List ℕ) → asked_in words ≡ Some (collate one other) → CollationAsks one other old.told.shelf new.told.shelf status
  run-collation-asked one other is = (it.form (collate one other) is).asks

  -- It leaves what it doesn't use, and what the shelf holds.
  pub run-collation-left : (one other : List ℕ) → asked_in words ≡ Some (collate one other)
      → (new.input ≡ old.input) × (new.steps ≡ old.steps) × (new.told.shelf.files ≡ old.told.shelf.files)
  run-collation-left one other is = (it.form (collate one other) is).leaves

  -- Where no fault is counted, two files that a shelf tells are collated, or refused as they ask for.
  pub run-answers-collation : (one other : List ℕ) → asked_in words ≡ Some (collate one other)
      → new.told.shelf.faults ≡ old.told.shelf.faults → new.told.sink.faults ≡ old.told.sink.faults
      → old.told.shelf.faults < 2 ^ 64 - 1 → old.told.sink.faults < 2 ^ 64 - 1 → (files : Files) → old.told.shelf.files ≡ Some files
      → AnswersFate (fate_of one other (files.held one) (files.held other)) status
  run-answers-collation one other is fetches writes low below =
      answers-fate one other old.told.shelf new.told.shelf old.told.sink new.told.sink status
      (run-ends (collate one other) is).0 fetches writes low below
