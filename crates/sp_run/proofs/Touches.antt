-- What sessions do to the shelf and the desk that they have, whatever answers their lines: a desk, or the room round it.
use Rattle.std.proofs.Common.{◌≡◌, ℕ, zero, suc, ◌+◌, ◌-◌, ◌^◌, ◌<◌, ◌≤◌, ◌≢◌, ◌⊎◌, Some, None, List, [], ◌∷◌, inl, inr, refl, sym, ap, ◌∙◌, subst, arith}
use Rattle.std.specs.Prelude.{Bool, true, false, ◌&&◌, if◌then◌else◌, IsTrue, slice_get, slice_index_or}
use Rattle.std.specs.Str.{bytes_eq}
use Rattle.std.proofs.lemmas.Slice.Eq.{bytes_eq-Decides}
use Rattle.json.proofs.OnLiterals.{json_on_literals}
use Rattle.serde_json.proofs.OnLiterals.{serde_json_on_literals}
use Rattle.spec_session.specs.Runs.{Answered, AtShelf, Counts, at_shelf, Runs, left_by}
use Rattle.spec_session.specs.Sessions.{Course, EndsAs, SessionEnds, Streams}
use Rattle.spec_session.specs.declared.SessionEnd.{SessionEnd}
use Rattle.spec_session.proofs.KeepLaws.{ends-keep, ends_as-keep}
use Rattle.spec_wire.specs.Replies as replies
use Rattle.spec_wire.specs.Replies.{refused, reply_line}
use Rattle.spec_machine.specs.Machine.{Memory, opened_memory}
use Rattle.spec_machine.specs.KeptMemories.{IsWholeMemory}
use Rattle.spec_locked_pages.specs.Chains.{AreLinked}
use Rattle.spec_state.specs.State.{State}
use Rattle.spec_state.specs.Keeping.{IsWhole}
use Rattle.sp_kit.specs.Files.{Files, ShelfState, HasOldOrNew}
use Rattle.sp_run.specs.Records.{records_name}
use Rattle.sp_run.specs.Saving.{Changes, KeepsAllBut, KeepsOrPuts, LeftFirst, PutBoth, StoreFailed, TwoFiles, files_of}
use Rattle.sp_run.specs.DeskLines.{NamedDesk, Stores, Leaves, memories_of, shelf_behind, unsaved_count}
use Rattle.sp_run.specs.Promises.{ArePromised, Follows, KeepsPromises}
use Rattle.sp_run.specs.DeskEnding.{Answerer, begun_at, CountsUnsaved, HasOldOrOne, IsAmong, KeepsOrSaves, KeepsSaved}
use Rattle.sp_run.proofs.PromiseLaws.{follows-itself, follows-on, follows-promised}
use Rattle.sp_run.proofs.Stores.{changes-both, changes-map, changes-none, changes-on, failed-others, keeps-itself, left-others, names-differ, put-others}

-- The line of a save that wasn't done, since a store failed.
abbrev pub unsaved_line : List ℕ
unsaved_line = reply_line (refused replies.shelf)

-- A line that isn't a save, or one that was done and told so.
pub record Stored (asks : Bool) (before after : AtShelf NamedDesk) (bytes : List ℕ) : Type 0 where
  pub stores : Stores asks before after
  pub told : asks ≡ true → bytes_eq bytes unsaved_line ≡ false

-- A save that wasn't done.
pub record Failed (asks : Bool) (before after : AtShelf NamedDesk) : Type 0 where
  pub saves : asks ≡ true
  pub failed : StoreFailed (files_of before.it.name before.it.memory.state) before.shelf after.shelf

-- What an answer of these bytes does to a desk and the shelf.
pub record Touches (asks : Bool) (before after : AtShelf NamedDesk) (bytes : List ℕ) : Type 0 where
  pub named : after.it.name ≡ before.it.name
  pub stored : Stored asks before after bytes ⊎ Failed asks before after
  pub follows : Follows before.it.memory after.it.memory

-- What want of memory does to them.
pub record Halts (asks : Bool) (before after : AtShelf NamedDesk) : Type 0 where
  pub named : after.it.name ≡ before.it.name
  pub memory : after.it.memory ≡ before.it.memory
  pub leaves : Leaves asks before after

-- A way to answer lines: what an answer does to the desk and the shelf, what want of memory does to them, the desk that it begins with,
-- and that what is said of its seats holds.
pub record Way : Type 1 where
  pub how : Answerer
  pub touches : (before : AtShelf how.It) (line : List ℕ) (after : AtShelf how.It) (bytes : List ℕ) → how.answers before line after bytes
      → Touches (how.saves line) (at_shelf (how.desk before.it) before.shelf before.counts) (at_shelf (how.desk after.it) after.shelf after.counts) bytes
  pub halts : (before : AtShelf how.It) (line : List ℕ) (after : AtShelf how.It) → how.stops before line after
      → Halts (how.saves line) (at_shelf (how.desk before.it) before.shelf before.counts) (at_shelf (how.desk after.it) after.shelf after.counts)
  pub begins : (name : List ℕ) (memory : Memory) → how.desk (how.begins name memory) ≡ record { name = name; memory = memory }
  pub sees : (name : List ℕ) (state : State) (shelf : ShelfState) (counts : Counts) (lines : List (List ℕ)) (steps : List (Answered (AtShelf how.It))) → IsWhole state
      → Runs how.answers (begun_at how name state shelf counts) lines steps → how.seen (how.begins name (opened_memory state)) lines steps

-- The desk of what answers, with the shelf.
abbrev pub desk_seen : (way : Way) → AtShelf way.how.It → AtShelf NamedDesk
desk_seen way at = at_shelf (way.how.desk at.it) at.shelf at.counts

-- ---- how many stores failed

-- A count of faults never falls.
touches-later : (asks : Bool) (before after : AtShelf NamedDesk) (bytes : List ℕ) → Stored asks before after bytes ⊎ Failed asks before after → before.shelf.faults ≤ after.shelf.faults
touches-later asks before after bytes (inl done) = by asks done.stores
  where
    by : (saves : Bool) → Stores saves before after → before.shelf.faults ≤ after.shelf.faults
    by true stores = let same = stores.stored.kept in omega (arith, same)
    by false stores = let same : after.shelf.faults ≡ before.shelf.faults = ap (λ (it : ShelfState). it.faults) stores in omega (arith, same)
touches-later asks before after bytes (inr not) = not.failed.later

runs-later : (way : Way) (before : AtShelf way.how.It) (lines : List (List ℕ)) (steps : List (Answered (AtShelf way.how.It))) → Runs way.how.answers before lines steps
    → before.shelf.faults ≤ (left_by before steps).shelf.faults
runs-later way before [] [] runs = omega arith
runs-later way before [] (step ∷ steps) runs = absurd runs
runs-later way before (line ∷ lines) [] runs = absurd runs
runs-later way before (line ∷ lines) (step ∷ steps) runs =
    let first = touches-later (way.how.saves line) (desk_seen way before) (desk_seen way step.after) step.reply (way.touches before line step.after step.reply runs.0).stored in
    let later = runs-later way step.after lines steps runs.1 in omega (arith, first, later)

-- What is left at the end of a session has no lower count than the last answer left.
stops-later : (before : AtShelf NamedDesk) (asks : Bool) (after : AtShelf NamedDesk) → Leaves asks before after → before.shelf.faults ≤ after.shelf.faults
stops-later before true after leaves = let same = leaves.kept in omega (arith, same)
stops-later before false after leaves = let same : after.shelf.faults ≡ before.shelf.faults = ap (λ (it : ShelfState). it.faults) leaves in omega (arith, same)

ends-later : (way : Way) (old new : Streams) (before after : AtShelf way.how.It) (course : Course (AtShelf way.how.It)) (end : SessionEnd) → EndsAs way.how.stops old new before after course end
    → (left_by before course.steps).shelf.faults ≤ after.shelf.faults
ends-later way old new before after course end ends =
    let least = (left_by before course.steps).shelf.faults in
    ends_as-keep way.how.stops (λ (it : AtShelf way.how.It). least ≤ it.shelf.faults)
    (λ one line other stops low. let later = stops-later (desk_seen way one) (way.how.saves line) (desk_seen way other) (way.halts one line other stops).leaves in omega (arith, low, later))
    old new before after course end ends (omega arith)

-- A reply that is told otherwise isn't that of a save that failed: their lines differ in a letter.
undone-letter : slice_index_or unsaved_line 2 0 ≡ 110
unfolding serde_json_on_literals json_on_literals
undone-letter = refl

pub other-line : (bytes : List ℕ) → slice_index_or bytes 2 0 ≡ 100 → bytes_eq bytes unsaved_line ≡ false
other-line bytes letter = by (bytes_eq bytes unsaved_line) refl
  where
    by : (b : Bool) → bytes_eq bytes unsaved_line ≡ b → bytes_eq bytes unsaved_line ≡ false
    by true is =
        let same : bytes ≡ unsaved_line = (bytes_eq-Decides bytes unsaved_line).0 is in
        let bad : 100 ≡ 110 = sym letter ∙ ap (λ (line : List ℕ). slice_index_or line 2 0) same ∙ undone-letter in absurd (omega (arith, bad))
    by false is = is

-- A save that was answered so raised the count.
told-rises : (asks : Bool) (before after : AtShelf NamedDesk) (bytes : List ℕ) → Stored asks before after bytes ⊎ Failed asks before after → after.shelf.faults < 2 ^ 64 - 1
    → before.shelf.faults + (if asks && bytes_eq bytes unsaved_line then 1 else 0) ≤ after.shelf.faults
told-rises asks before after bytes (inl done) below = by asks done.told (touches-later asks before after bytes (inl done))
  where
    by : (saves : Bool) → (saves ≡ true → bytes_eq bytes unsaved_line ≡ false) → before.shelf.faults ≤ after.shelf.faults
        → before.shelf.faults + (if saves && bytes_eq bytes unsaved_line then 1 else 0) ≤ after.shelf.faults
    by true told later = subst (λ (b : Bool). before.shelf.faults + (if b then 1 else 0) ≤ after.shelf.faults) (sym (told refl)) (omega (arith, later))
    by false told later = omega (arith, later)
told-rises asks before after bytes (inr not) below = most (asks && bytes_eq bytes unsaved_line)
  where
    rose : before.shelf.faults + 1 ≤ after.shelf.faults
    rose = let up = not.failed.rose in omega (arith, up, below)

    most : (b : Bool) → before.shelf.faults + (if b then 1 else 0) ≤ after.shelf.faults
    most true = omega (arith, rose)
    most false = omega (arith, rose)

runs-counted : (way : Way) (before : AtShelf way.how.It) (lines : List (List ℕ)) (steps : List (Answered (AtShelf way.how.It))) → Runs way.how.answers before lines steps
    → (left_by before steps).shelf.faults < 2 ^ 64 - 1 → before.shelf.faults + unsaved_count way.how.saves lines steps ≤ (left_by before steps).shelf.faults
runs-counted way before [] [] runs below = omega arith
runs-counted way before [] (step ∷ steps) runs below = absurd runs
runs-counted way before (line ∷ lines) [] runs below = absurd runs
runs-counted way before (line ∷ lines) (step ∷ steps) runs below =
    let later = runs-later way step.after lines steps runs.1 in
    let low : step.after.shelf.faults < 2 ^ 64 - 1 = omega (arith, later, below) in
    let rest = runs-counted way step.after lines steps runs.1 below in
    let first = told-rises (way.how.saves line) (desk_seen way before) (desk_seen way step.after) step.reply (way.touches before line step.after step.reply runs.0).stored low in
    omega (arith, rest, first)

-- Each save of a session that failed raised the count.
pub session-counted : (way : Way) (streams others : Streams) (begun : AtShelf way.how.It) (left : ShelfState) (after : AtShelf way.how.It) (end : SessionEnd)
    → (ends : SessionEnds way.how.answers way.how.stops streams others begun after end) → left ≡ after.shelf → CountsUnsaved way.how.saves begun.shelf left ends.course.lines ends.course.steps
session-counted way streams others begun left after end ends same low =
    let below : after.shelf.faults < 2 ^ 64 - 1 = subst (λ (it : ShelfState). it.faults < 2 ^ 64 - 1) same low in
    let later = ends-later way streams others begun after ends.course end ends.ends in
    let among = runs-counted way begun ends.course.lines ends.course.steps ends.went.runs (omega (arith, below, later)) in
    let same_count : left.faults ≡ after.shelf.faults = ap (λ (it : ShelfState). it.faults) same in
    omega (arith, later, among, same_count)

-- ---- what is promised of all memories

abbrev seen : (way : Way) → AtShelf way.how.It → Memory
seen way at = (way.how.desk at.it).memory

some-is : (one other : Memory) → Some one ≡ Some other → one ≡ other
some-is one other same = let is : one ≡ other = cc in is

none-some : (memory : Memory) → None ≡ Some memory → ⊥
none-some memory same = let bad : ⊥ = cc in bad

-- From a memory on, each later one follows it.
runs-follow : (way : Way) (earlier : Memory) (before : AtShelf way.how.It) (lines : List (List ℕ)) (steps : List (Answered (AtShelf way.how.It))) → Runs way.how.answers before lines steps → Follows earlier (seen way before)
    → (j : ℕ) (now : Memory) → slice_get (memories_of way.how.desk (seen way before) steps) j ≡ Some now → Follows earlier now
runs-follow way earlier before lines steps runs follows zero now is = subst (Follows earlier) (some-is (seen way before) now is) follows
runs-follow way earlier before [] [] runs follows (suc j) now is = absurd (none-some now is)
runs-follow way earlier before [] (step ∷ steps) runs follows (suc j) now is = absurd runs
runs-follow way earlier before (line ∷ lines) [] runs follows (suc j) now is = absurd runs
runs-follow way earlier before (line ∷ lines) (step ∷ steps) runs follows (suc j) now is =
    runs-follow way earlier step.after lines steps runs.1
    (follows-on earlier (seen way before) (seen way step.after) follows (way.touches before line step.after step.reply runs.0).follows) j now is

pub runs-promised : (way : Way) (before : AtShelf way.how.It) (lines : List (List ℕ)) (steps : List (Answered (AtShelf way.how.It))) → Runs way.how.answers before lines steps → IsWholeMemory (seen way before)
    → AreLinked (seen way before) → ArePromised (memories_of way.how.desk (seen way before) steps)
runs-promised way before lines steps runs whole linked = record { kept = λ i j. by before lines steps runs whole linked i j }
  where
    by : (from : AtShelf way.how.It) (those : List (List ℕ)) (course : List (Answered (AtShelf way.how.It))) → Runs way.how.answers from those course → IsWholeMemory (seen way from) → AreLinked (seen way from)
        → (i j : ℕ) (earlier now : Memory) → i ≤ j → slice_get (memories_of way.how.desk (seen way from) course) i ≡ Some earlier → slice_get (memories_of way.how.desk (seen way from) course) j ≡ Some now
        → KeepsPromises earlier now
    by from those course goes is_whole are_linked zero j earlier now up first second =
        subst (λ (it : Memory). KeepsPromises it now) (some-is (seen way from) earlier first)
        (follows-promised (seen way from) now (runs-follow way (seen way from) from those course goes (follows-itself (seen way from) is_whole are_linked) j now second))
    by from those course goes is_whole are_linked (suc i) zero earlier now up first second = absurd (omega (arith, up))
    by from [] [] goes is_whole are_linked (suc i) (suc j) earlier now up first second = absurd (none-some earlier first)
    by from [] (step ∷ steps) goes is_whole are_linked (suc i) (suc j) earlier now up first second = absurd goes
    by from (line ∷ lines) [] goes is_whole are_linked (suc i) (suc j) earlier now up first second = absurd goes
    by from (line ∷ lines) (step ∷ steps) goes is_whole are_linked (suc i) (suc j) earlier now up first second =
        let follows = (way.touches from line step.after step.reply goes.0).follows in
        by step.after lines steps goes.1 follows.whole follows.linked i j earlier now (omega (arith, up)) first second

-- ---- the last save

-- A line that is no save leaves the shelf.
other-kept : (asks : Bool) (before after : AtShelf NamedDesk) (bytes : List ℕ) → Stored asks before after bytes ⊎ Failed asks before after → (if asks then after.shelf else before.shelf) ≡ after.shelf
other-kept asks before after bytes (inl done) = by asks done.stores
  where
    by : (saves : Bool) → Stores saves before after → (if saves then after.shelf else before.shelf) ≡ after.shelf
    by true stores = refl
    by false stores = sym stores
other-kept asks before after bytes (inr not) = ap (λ (saves : Bool). if saves then after.shelf else before.shelf) not.saves

-- Lines that were answered leave the shelf as the last save of them did.
pub runs-last : (way : Way) (before : AtShelf way.how.It) (lines : List (List ℕ)) (steps : List (Answered (AtShelf way.how.It))) → Runs way.how.answers before lines steps
    → shelf_behind way.how.saves before.shelf lines steps ≡ (left_by before steps).shelf
runs-last way before [] [] runs = refl
runs-last way before [] (step ∷ steps) runs = absurd runs
runs-last way before (line ∷ lines) [] runs = absurd runs
runs-last way before (line ∷ lines) (step ∷ steps) runs =
    ap (λ (files : ShelfState). shelf_behind way.how.saves files lines steps)
    (other-kept (way.how.saves line) (desk_seen way before) (desk_seen way step.after) step.reply (way.touches before line step.after step.reply runs.0).stored)
    ∙ runs-last way step.after lines steps runs.1

-- ---- where no store failed

-- Lines that leave the count of faults as it is leave it so one by one.
pub record Calm (one two three : ℕ) : Type 0 where
  pub first : two ≡ one
  pub later : three ≡ two
  pub low : two < 2 ^ 64 - 1

pub runs-calm : (way : Way) (before : AtShelf way.how.It) (line : List ℕ) (lines : List (List ℕ)) (step : Answered (AtShelf way.how.It)) (steps : List (Answered (AtShelf way.how.It)))
    → Runs way.how.answers before (line ∷ lines) (step ∷ steps) → (left_by step.after steps).shelf.faults ≡ before.shelf.faults → before.shelf.faults < 2 ^ 64 - 1
    → Calm before.shelf.faults step.after.shelf.faults (left_by step.after steps).shelf.faults
runs-calm way before line lines step steps runs same low =
    let up = touches-later (way.how.saves line) (desk_seen way before) (desk_seen way step.after) step.reply (way.touches before line step.after step.reply runs.0).stored in
    let later = runs-later way step.after lines steps runs.1 in
    record { first = omega (arith, up, later, same); later = omega (arith, up, later, same); low = omega (arith, up, later, same, low) }

-- ---- no other file is touched

-- It is the desk of this name, and all other files are as they were.
pub record KeepsTo (name : List ℕ) (old : ShelfState) (now : AtShelf NamedDesk) : Type 0 where
  pub named : now.it.name ≡ name
  pub others : Changes old.files now.shelf.files (λ before after. KeepsAllBut before after name (records_name name))

others-then : (name : List ℕ) (one two three : Files) → KeepsAllBut one two name (records_name name) → KeepsAllBut two three name (records_name name) → KeepsAllBut one three name (records_name name)
others-then name one two three first second = record {
  names = λ other not-first not-second. second.names other not-first not-second ∙ first.names other not-first not-second;
  atomic = second.atomic ∙ first.atomic;
}

-- What a desk did to the shelf kept other files.
abbrev Others : AtShelf NamedDesk → AtShelf NamedDesk → Type 0
Others before after = Changes before.shelf.files after.shelf.files (λ old new. KeepsAllBut old new before.it.name (records_name before.it.name))

same-others : (before after : AtShelf NamedDesk) → after.shelf ≡ before.shelf → Others before after
same-others before after same =
    changes-none before.shelf.files after.shelf.files (λ old new. KeepsAllBut old new before.it.name (records_name before.it.name)) (λ files. keeps-itself files before.it.name (records_name before.it.name))
    (ap (λ (it : ShelfState). it.files) same)

stores-others : (asks : Bool) (before after : AtShelf NamedDesk) → Stores asks before after → Others before after
stores-others true before after stores =
    let it = files_of before.it.name before.it.memory.state in
    changes-map before.shelf.files after.shelf.files (PutBoth it) (λ old new. KeepsAllBut old new it.name it.beside) (put-others it) stores.stored.files
stores-others false before after stores = same-others before after stores

leaves-others : (asks : Bool) (before after : AtShelf NamedDesk) → Leaves asks before after → Others before after
leaves-others true before after leaves = left-others (files_of before.it.name before.it.memory.state) before.shelf after.shelf leaves
leaves-others false before after leaves = same-others before after leaves

touches-others : (asks : Bool) (before after : AtShelf NamedDesk) (bytes : List ℕ) → Stored asks before after bytes ⊎ Failed asks before after → Others before after
touches-others asks before after bytes (inl done) = stores-others asks before after done.stores
touches-others asks before after bytes (inr not) = failed-others (files_of before.it.name before.it.memory.state) before.shelf after.shelf not.failed

keeps-more : (name : List ℕ) (old : ShelfState) (before after : AtShelf NamedDesk) → after.it.name ≡ before.it.name → Others before after → KeepsTo name old before → KeepsTo name old after
keeps-more name old before after same others keeps = record {
  named = same ∙ keeps.named;
  others = changes-on old.files before.shelf.files after.shelf.files (λ one other. KeepsAllBut one other name (records_name name))
      (λ one other. KeepsAllBut one other name (records_name name)) (λ one other. KeepsAllBut one other name (records_name name)) (others-then name) keeps.others
      (subst (λ (n : List ℕ). Changes before.shelf.files after.shelf.files (λ one other. KeepsAllBut one other n (records_name n))) keeps.named others);
}

pub session-others : (way : Way) (streams others : Streams) (begun after : AtShelf way.how.It) (end : SessionEnd) → SessionEnds way.how.answers way.how.stops streams others begun after end
    → Changes begun.shelf.files after.shelf.files (λ one other. KeepsAllBut one other (way.how.desk begun.it).name (records_name (way.how.desk begun.it).name))
session-others way streams others begun after end ends =
    let name = (way.how.desk begun.it).name in
    let start : KeepsTo name begun.shelf (desk_seen way begun) = record { named = refl; others = same-others (desk_seen way begun) (desk_seen way begun) refl } in
    (ends-keep way.how.answers way.how.stops (λ (it : AtShelf way.how.It). KeepsTo name begun.shelf (desk_seen way it))
    (λ one line other reply answers.
    let it = way.touches one line other reply answers in
    keeps-more name begun.shelf (desk_seen way one) (desk_seen way other) it.named (touches-others (way.how.saves line) (desk_seen way one) (desk_seen way other) reply it.stored))
    (λ one line other stops.
    let it = way.halts one line other stops in
    keeps-more name begun.shelf (desk_seen way one) (desk_seen way other) it.named (leaves-others (way.how.saves line) (desk_seen way one) (desk_seen way other) it.leaves))
    streams others begun after end ends start).others

-- ---- what is left of both files, where they are atomic

-- What an answer leaves of both files.
pub record Puts (it : TwoFiles) (old new : Files) : Type 0 where
  pub atomic : new.atomic ≡ old.atomic
  pub files : IsTrue old.atomic → KeepsOrPuts it old new

abbrev Both : AtShelf NamedDesk → AtShelf NamedDesk → Type 0
Both before after = Changes before.shelf.files after.shelf.files (Puts (files_of before.it.name before.it.memory.state))

puts-both : (it : TwoFiles) (old new : Files) → PutBoth it old new → Puts it old new
puts-both it old new put = record { atomic = put.others.atomic; files = λ is. record { first = inr put.first; second = inr put.second; others = put.others } }

puts-none : (it : TwoFiles) (files : Files) → Puts it files files
puts-none it files = record { atomic = refl; files = λ is. record { first = inl refl; second = inl refl; others = keeps-itself files it.name it.beside } }

-- The first file of two that differ in name was stored, or none.
puts-first : (it : TwoFiles) → it.name ≢ it.beside → (old new : Files) → LeftFirst it old new → Puts it old new
puts-first it differ old new left = record {
  atomic = left.others.atomic;
  files = λ is. record {
    first = left.first;
    second = inl (left.others.names it.beside (λ same. differ (sym same)));
    others = record { names = λ name not-first not-second. left.others.names name not-first; atomic = left.others.atomic };
  };
}

puts-failed : (it : TwoFiles) (old new : ShelfState) → StoreFailed it old new → Changes old.files new.files (Puts it)
puts-failed it old new failed = changes-both old.files new.files (λ before now. KeepsAllBut before now it.name it.beside) (λ before now. IsTrue before.atomic → KeepsOrPuts it before now) (Puts it)
    (λ before now others kept. record { atomic = others.atomic; files = kept }) (failed-others it old new failed) failed.kept

same-both : (before after : AtShelf NamedDesk) → after.shelf ≡ before.shelf → Both before after
same-both before after same =
    let it = files_of before.it.name before.it.memory.state in
    changes-none before.shelf.files after.shelf.files (Puts it) (puts-none it) (ap (λ (shelf : ShelfState). shelf.files) same)

stores-both : (asks : Bool) (before after : AtShelf NamedDesk) → Stores asks before after → Both before after
stores-both true before after stores =
    let it = files_of before.it.name before.it.memory.state in changes-map before.shelf.files after.shelf.files (PutBoth it) (Puts it) (puts-both it) stores.stored.files
stores-both false before after stores = same-both before after stores

leaves-both : (asks : Bool) (before after : AtShelf NamedDesk) → Leaves asks before after → Both before after
leaves-both true before after leaves =
    let it = files_of before.it.name before.it.memory.state in
    changes-map before.shelf.files after.shelf.files (LeftFirst it) (Puts it) (puts-first it (names-differ before.it.name)) leaves.files
leaves-both false before after leaves = same-both before after leaves

touches-both : (asks : Bool) (before after : AtShelf NamedDesk) (bytes : List ℕ) → Stored asks before after bytes ⊎ Failed asks before after → Both before after
touches-both asks before after bytes (inl done) = stores-both asks before after done.stores
touches-both asks before after bytes (inr not) = puts-failed (files_of before.it.name before.it.memory.state) before.shelf after.shelf not.failed

-- What stands under both names, with what some answers left of it.
pub record HasSaves (name : List ℕ) (memories : List Memory) (old new : Files) : Type 0 where
  pub atomic : new.atomic ≡ old.atomic
  pub files : IsTrue old.atomic → KeepsOrSaves name memories old new

one-more : (bytes : State → List ℕ) (memories : List Memory) (memory : Memory) (one two three : Files) (name : List ℕ) → IsAmong memories memory → HasOldOrOne bytes memories one two name
    → HasOldOrNew two three name (bytes memory.state) → HasOldOrOne bytes memories one three name
one-more bytes memories memory one two three name among (inl stood) (inl same) = inl (same ∙ stood)
one-more bytes memories memory one two three name among (inr (other, is_among, stands)) (inl same) = inr (other, is_among, same ∙ stands)
one-more bytes memories memory one two three name among before (inr put) = inr (memory, among, put)

saves-more : (name : List ℕ) (memories : List Memory) (memory : Memory) → IsAmong memories memory → (one two three : Files) → HasSaves name memories one two → Puts (files_of name memory.state) two three
    → HasSaves name memories one three
saves-more name memories memory among one two three first second = record {
  atomic = second.atomic ∙ first.atomic;
  files = λ is.
      let before = first.files is in
      let put = second.files (subst IsTrue (sym first.atomic) is) in
      record {
        text = one-more (λ (state : State). (files_of name state).bytes) memories memory one two three name among before.text put.first;
        records = one-more (λ (state : State). (files_of name state).records) memories memory one two three (records_name name) among before.records put.second;
      };
}

-- It is the desk of this name, its memory is one of these, and so are those whose files were stored.
pub record KeepsSaves (name : List ℕ) (memories : List Memory) (old : ShelfState) (now : AtShelf NamedDesk) : Type 0 where
  pub named : now.it.name ≡ name
  pub among : IsAmong memories now.it.memory
  pub files : Changes old.files now.shelf.files (HasSaves name memories)

keeps-saves : (name : List ℕ) (memories : List Memory) (old : ShelfState) (before after : AtShelf NamedDesk) → after.it.name ≡ before.it.name → IsAmong memories after.it.memory → Both before after
    → KeepsSaves name memories old before → KeepsSaves name memories old after
keeps-saves name memories old before after same among both keeps = record {
  named = same ∙ keeps.named;
  among = among;
  files = changes-on old.files before.shelf.files after.shelf.files (HasSaves name memories) (Puts (files_of name before.it.memory.state)) (HasSaves name memories)
      (saves-more name memories before.it.memory keeps.among) keeps.files
      (subst (λ (n : List ℕ). Changes before.shelf.files after.shelf.files (Puts (files_of n before.it.memory.state))) keeps.named both);
}

runs-saves : (way : Way) (name : List ℕ) (memories : List Memory) (old : ShelfState) (before : AtShelf way.how.It) (lines : List (List ℕ)) (steps : List (Answered (AtShelf way.how.It))) → Runs way.how.answers before lines steps
    → ((memory : Memory) → IsAmong (memories_of way.how.desk (seen way before) steps) memory → IsAmong memories memory) → KeepsSaves name memories old (desk_seen way before)
    → KeepsSaves name memories old (desk_seen way (left_by before steps))
runs-saves way name memories old before [] [] runs among keeps = keeps
runs-saves way name memories old before [] (step ∷ steps) runs among keeps = absurd runs
runs-saves way name memories old before (line ∷ lines) [] runs among keeps = absurd runs
runs-saves way name memories old before (line ∷ lines) (step ∷ steps) runs among keeps =
    let it = way.touches before line step.after step.reply runs.0 in
    runs-saves way name memories old step.after lines steps runs.1 (λ memory is. among memory (suc is.0, is.1))
    (keeps-saves name memories old (desk_seen way before) (desk_seen way step.after) it.named (among (seen way step.after) (1, refl))
    (touches-both (way.how.saves line) (desk_seen way before) (desk_seen way step.after) step.reply it.stored) keeps)

pub session-saves : (way : Way) (streams others : Streams) (begun : AtShelf way.how.It) (left : ShelfState) (after : AtShelf way.how.It) (end : SessionEnd)
    → (ends : SessionEnds way.how.answers way.how.stops streams others begun after end) → left ≡ after.shelf
    → KeepsSaved (way.how.desk begun.it).name (memories_of way.how.desk (seen way begun) ends.course.steps) begun.shelf left
session-saves way streams others begun left after end ends same =
    let name = (way.how.desk begun.it).name in
    let memories = memories_of way.how.desk (seen way begun) ends.course.steps in
    let none : (files : Files) → HasSaves name memories files files = λ files. record { atomic = refl; files = λ is. record { text = inl refl; records = inl refl } } in
    let start : KeepsSaves name memories begun.shelf (desk_seen way begun) =
    record { named = refl; among = (0, refl); files = changes-none begun.shelf.files begun.shelf.files (HasSaves name memories) none refl } in
    let behind = runs-saves way name memories begun.shelf begun ends.course.lines ends.course.steps ends.went.runs (λ memory is. is) start in
    let end_keeps = ends_as-keep way.how.stops (λ (it : AtShelf way.how.It). KeepsSaves name memories begun.shelf (desk_seen way it))
    (λ one line other stops keeps.
    let it = way.halts one line other stops in
    keeps-saves name memories begun.shelf (desk_seen way one) (desk_seen way other) it.named (subst (IsAmong memories) (sym it.memory) keeps.among)
    (leaves-both (way.how.saves line) (desk_seen way one) (desk_seen way other) it.leaves) keeps)
    streams others begun after ends.course end ends.ends behind in
    subst (KeepsSaved name memories begun.shelf) (sym same)
    (changes-map begun.shelf.files after.shelf.files (HasSaves name memories) (λ before now. IsTrue before.atomic → KeepsOrSaves name memories before now) (λ before now it. it.files) end_keeps.files)
