-- What comes of the files under two names.
use Rattle.std.proofs.Common.{◌≡◌, ℕ, ◌+◌, ◌-◌, ◌^◌, ◌<◌, ◌≤◌, cond, List, length, Option, Some, None, refl, sym, ap, ◌∙◌, subst, replicate, arith}
use Rattle.std.specs.Prelude.{IfSome, IsSomeAnd, nat_lt, string_bytes}
use Rattle.std.proofs.KnownBytes.{Keeps-refl}
use Rattle.std.proofs.lemmas.Bool.{lt-ltb, le-ltb}
use Rattle.std.proofs.lemmas.List.{length-replicate}
use Rattle.spec_packet.specs.BytesCollated.{Collating, bad_sheets, collating}
use Rattle.sp_packet.specs.Collating.{IsNotCollated}
use Rattle.sp_packet.specs.declared.fault.CollateFault.{CollateFault}
use Rattle.sp_packet.specs.declared.fault.CollateFault.TheVariants as sheets_faults
use Rattle.sp_kit.specs.Causes.{Rose}
use Rattle.sp_kit.specs.Files.{Files, ShelfState}
use Rattle.sp_kit.specs.Outside.{SinkState}
use Rattle.sp_text.specs.declared.fault.TextFault.TheVariants as faults
use Rattle.sp_run.specs.declared.status.Status.{Status}
use Rattle.sp_run.specs.declared.status.Status.TheVariants as statuses
use Rattle.sp_run.specs.Statuses.{status_of_sheets}
use Rattle.sp_run.specs.Opening.{SameShelf}
use Rattle.sp_run.specs.Fetching.{FetchedFile, NotFetched}
use Rattle.sp_run.specs.Collating.{sheets_limit, Fate, lacks, passes_limit, spoils, gives, fate_by, second_fate, fate_of, Comes, NotCollated, TookNothing, CollateEnds, AnswersFate}
use Rattle.sp_run.proofs.Held.{not-risen}

-- What stands under a name, as far as it is known.
held_in : Option Files → List ℕ → Option (List ℕ)
held_in None name = None
held_in (Some files) name = files.held name

holds_in : (o : Option Files) (name : List ℕ) → IfSome o (λ files. files.held name ≡ held_in o name)
unfolding held_in
holds_in None name = tt
holds_in (Some files) name = refl

-- A file that is too long.
record IsLong (o : Option Files) (name : List ℕ) : Type 0 where
  bytes : List ℕ
  has : IfSome o (λ files. files.held name ≡ Some bytes)
  high : sheets_limit < length bytes

-- There is a list longer than any number.
record LongList (n : ℕ) : Type 0 where
  bytes : List ℕ
  high : n < length bytes

long-list : (n : ℕ) → LongList n
long-list n = let size = length-replicate {A = ℕ} (n + 1) 0 in record { bytes = replicate (n + 1) 0; high = omega (arith, size) }

is_long : (o : Option Files) (name : List ℕ) → IfSome o (λ files. IsSomeAnd (files.held name) (λ bytes. sheets_limit < length bytes)) → IsLong o name
is_long None name long = let it = long-list sheets_limit in record { bytes = it.bytes; has = tt; high = it.high }
is_long (Some files) name long = by (files.held name) refl long
  where
    by : (o : Option (List ℕ)) → files.held name ≡ o → IsSomeAnd o (λ bytes. sheets_limit < length bytes) → IsLong (Some files) name
    by None is long = absurd long
    by (Some bytes) is long = record { bytes = bytes; has = is; high = long }

past : (bytes : List ℕ) (one other : Fate) → sheets_limit < length bytes → (cond (nat_lt sheets_limit (length bytes)) one other) ≡ one
past bytes one other high = ap (λ b. cond b one other) (lt-ltb sheets_limit (length bytes) high)

within : (bytes : List ℕ) (one other : Fate) → length bytes ≤ sheets_limit → (cond (nat_lt sheets_limit (length bytes)) one other) ≡ other
within bytes one other low = ap (λ b. cond b one other) (le-ltb sheets_limit (length bytes) low)

module _ (old new : List ℕ) where
  -- The first fetch failed.
  pub first-refused : (shelf after : ShelfState) (status : Status) → NotFetched sheets_limit shelf after old status → NotCollated old new shelf after status
  first-refused shelf after (statuses.NoFile given) (is, finds) = record {
    first = None;
    second = held_in shelf.files new;
    has_first = finds.found;
    has_second = holds_in shelf.files new;
    is = ap lacks (sym is);
    same = record { files = finds.same; faults = finds.kept };
  }
  first-refused shelf after (statuses.BadText faults.TextFull) finds =
      let long = is_long shelf.files old finds.found in
      record {
        first = Some long.bytes;
        second = held_in shelf.files new;
        has_first = long.has;
        has_second = holds_in shelf.files new;
        is = past long.bytes passes_limit (second_fate new long.bytes (held_in shelf.files new)) long.high;
        same = record { files = finds.same; faults = finds.kept };
      }
  first-refused shelf after (statuses.BadText (faults.NotUtf8 place)) it = absurd it
  first-refused shelf after (statuses.BadText (faults.LineFull place)) it = absurd it
  first-refused shelf after (statuses.BadText faults.NoMemory) it = absurd it
  first-refused shelf after statuses.ShelfFault it = it
  first-refused shelf after statuses.NoMemory it = record { files = it.0; faults = it.1 }
  first-refused shelf after statuses.Done it = absurd it
  first-refused shelf after statuses.Usage it = absurd it
  first-refused shelf after statuses.ReadFault it = absurd it
  first-refused shelf after statuses.WriteFault it = absurd it
  first-refused shelf after (statuses.BadRecords fault) it = absurd it
  first-refused shelf after (statuses.CommandLong number) it = absurd it
  first-refused shelf after statuses.InputFull it = absurd it
  first-refused shelf after (statuses.BadSheets file sheet) it = absurd it
  first-refused shelf after statuses.NotLocked it = absurd it

  -- Two fetches leave the shelf as it was.
  both-same : (shelf between after : ShelfState) → SameShelf shelf between → SameShelf between after → SameShelf shelf after
  both-same shelf between after one other = record { files = other.files ∙ one.files; faults = other.faults ∙ one.faults }

  first-same : (shelf between : ShelfState) (bytes : List ℕ) → FetchedFile sheets_limit shelf between old bytes → SameShelf shelf between
  first-same shelf between bytes it = record { files = (it.finds).same; faults = (it.finds).kept }

  -- The second fetch failed.
  pub second-refused : (shelf between after : ShelfState) (bytes : List ℕ) (status : Status) → FetchedFile sheets_limit shelf between old bytes → NotFetched sheets_limit between after new status → NotCollated old new shelf after status
  second-refused shelf between after bytes (statuses.NoFile given) first (is, finds) = record {
    first = Some bytes;
    second = None;
    has_first = (first.finds).found;
    has_second = subst (λ (o : Option Files). IfSome o (λ files. files.held new ≡ None)) (first.finds).same finds.found;
    is = within bytes passes_limit (lacks new) first.low ∙ ap lacks (sym is);
    same = both-same shelf between after (first-same shelf between bytes first) (record { files = finds.same; faults = finds.kept });
  }
  second-refused shelf between after bytes (statuses.BadText faults.TextFull) first finds =
      let long = is_long shelf.files new (subst (λ (o : Option Files). IfSome o (λ files. IsSomeAnd (files.held new) (λ those. sheets_limit < length those))) (first.finds).same finds.found) in
      record {
        first = Some bytes;
        second = Some long.bytes;
        has_first = (first.finds).found;
        has_second = long.has;
        is = within bytes passes_limit (second_fate new bytes (Some long.bytes)) first.low ∙ past long.bytes passes_limit (fate_by (collating bytes long.bytes)) long.high;
        same = both-same shelf between after (first-same shelf between bytes first) (record { files = finds.same; faults = finds.kept });
      }
  second-refused shelf between after bytes (statuses.BadText (faults.NotUtf8 place)) first it = absurd it
  second-refused shelf between after bytes (statuses.BadText (faults.LineFull place)) first it = absurd it
  second-refused shelf between after bytes (statuses.BadText faults.NoMemory) first it = absurd it
  second-refused shelf between after bytes statuses.ShelfFault first (rose, same) =
      (subst (λ (n : ℕ). Rose n after.faults) (first.finds).kept rose, same ∙ (first.finds).same)
  second-refused shelf between after bytes statuses.NoMemory first it = both-same shelf between after (first-same shelf between bytes first) (record { files = it.0; faults = it.1 })
  second-refused shelf between after bytes statuses.Done first it = absurd it
  second-refused shelf between after bytes statuses.Usage first it = absurd it
  second-refused shelf between after bytes statuses.ReadFault first it = absurd it
  second-refused shelf between after bytes statuses.WriteFault first it = absurd it
  second-refused shelf between after bytes (statuses.BadRecords fault) first it = absurd it
  second-refused shelf between after bytes (statuses.CommandLong number) first it = absurd it
  second-refused shelf between after bytes statuses.InputFull first it = absurd it
  second-refused shelf between after bytes (statuses.BadSheets file sheet) first it = absurd it
  second-refused shelf between after bytes statuses.NotLocked first it = absurd it

  -- Both were fetched, and these views of them were collated.
  pub both-come : (shelf between after : ShelfState) (one other seen beside : List ℕ) (fate : Collating) → FetchedFile sheets_limit shelf between old one → FetchedFile sheets_limit between after new other
      → seen ≡ one → beside ≡ other → collating seen beside ≡ fate → Comes old new shelf after (fate_by fate)
  both-come shelf between after one other seen beside fate first second sees views is = record {
    first = Some one;
    second = Some other;
    has_first = (first.finds).found;
    has_second = subst (λ (o : Option Files). IfSome o (λ files. files.held new ≡ Some other)) (first.finds).same (second.finds).found;
    is = within one passes_limit (second_fate new one (Some other)) first.low ∙ within other passes_limit (fate_by (collating one other)) second.low
        ∙ ap fate_by ((λ i. collating (sym sees i) (sym views i)) ∙ is);
    same = both-same shelf between after (first-same shelf between one first) (record { files = (second.finds).same; faults = (second.finds).kept });
  }

  pub collation-refused : (shelf between after : ShelfState) (one other seen beside : List ℕ) (fault : CollateFault) → FetchedFile sheets_limit shelf between old one → FetchedFile sheets_limit between after new other
      → seen ≡ one → beside ≡ other → IsNotCollated (collating seen beside) fault → NotCollated old new shelf after (status_of_sheets fault)
  collation-refused shelf between after one other seen beside (sheets_faults.BadSheets file sheet) first second sees views is =
      both-come shelf between after one other seen beside (bad_sheets file sheet) first second sees views is
  collation-refused shelf between after one other seen beside sheets_faults.NoMemory first second sees views is =
      both-same shelf between after (first-same shelf between one first) (record { files = (second.finds).same; faults = (second.finds).kept })

  -- Nothing was written of what wasn't collated.
  pub refused-ends : (shelf after : ShelfState) (sink : SinkState) (status : Status) → NotCollated old new shelf after status → CollateEnds old new shelf after sink sink status
  refused-ends shelf after sink status it = by status it
    where
      none : TookNothing sink sink
      none = record { taken = Keeps-refl sink.taken; kept = refl }

      by : (status : Status) → NotCollated old new shelf after status → CollateEnds old new shelf after sink sink status
      by statuses.Done it = absurd it
      by statuses.Usage it = absurd it
      by (statuses.NoFile given) it = (it, none)
      by (statuses.BadText fault) it = (it, none)
      by statuses.ReadFault it = absurd it
      by statuses.WriteFault it = absurd it
      by statuses.ShelfFault it = (it, none)
      by (statuses.BadRecords fault) it = absurd it
      by statuses.NoMemory it = (it, none)
      by (statuses.CommandLong number) it = absurd it
      by statuses.InputFull it = absurd it
      by (statuses.BadSheets file sheet) it = (it, none)
      by statuses.NotLocked it = absurd it

  -- What a shelf tells decides.
  told-fate : (o : Option Files) (files : Files) (first second : Option (List ℕ)) → IfSome o (λ fs. fs.held old ≡ first) → IfSome o (λ fs. fs.held new ≡ second) → o ≡ Some files
      → fate_of old new (files.held old) (files.held new) ≡ fate_of old new first second
  told-fate None files first second one other is = absurd (let no_way : ⊥ = cc in no_way)
  told-fate (Some fs) files first second one other is =
      let same : fs ≡ files = cc in
      ap (λ (files : Files). fate_of old new (files.held old) (files.held new)) (sym same) ∙ (λ i. fate_of old new (one i) (other i))

  comes-told : (shelf after : ShelfState) (files : Files) (fate : Fate) → Comes old new shelf after fate → shelf.files ≡ Some files → fate_of old new (files.held old) (files.held new) ≡ fate
  comes-told shelf after files fate it is = told-fate shelf.files files it.first it.second it.has_first it.has_second is ∙ it.is

  -- Where no fault is counted the status is the one that is asked for, or there is no memory.
  pub answers-fate : (shelf after : ShelfState) (sink written : SinkState) (status : Status) → CollateEnds old new shelf after sink written status → after.faults ≡ shelf.faults → written.faults ≡ sink.faults
      → shelf.faults < 2 ^ 64 - 1 → sink.faults < 2 ^ 64 - 1 → (files : Files) → shelf.files ≡ Some files → AnswersFate (fate_of old new (files.held old) (files.held new)) status
  answers-fate shelf after sink written statuses.Done it fetches writes low below files is = (it.bytes, comes-told shelf after files (gives it.bytes) it.comes is)
  answers-fate shelf after sink written statuses.Usage it fetches writes low below files is = it.0
  answers-fate shelf after sink written (statuses.NoFile given) it fetches writes low below files is = comes-told shelf after files (lacks (string_bytes given)) it.0 is
  answers-fate shelf after sink written (statuses.BadText (faults.NotUtf8 place)) it fetches writes low below files is = it.0
  answers-fate shelf after sink written (statuses.BadText (faults.LineFull place)) it fetches writes low below files is = it.0
  answers-fate shelf after sink written (statuses.BadText faults.TextFull) it fetches writes low below files is = comes-told shelf after files passes_limit it.0 is
  answers-fate shelf after sink written (statuses.BadText faults.NoMemory) it fetches writes low below files is = it.0
  answers-fate shelf after sink written statuses.ReadFault it fetches writes low below files is = it.0
  answers-fate shelf after sink written statuses.WriteFault it fetches writes low below files is = absurd (not-risen sink.faults written.faults (it.wrote).rose writes below)
  answers-fate shelf after sink written statuses.ShelfFault it fetches writes low below files is = absurd (not-risen shelf.faults after.faults (it.0).0 fetches low)
  answers-fate shelf after sink written (statuses.BadRecords fault) it fetches writes low below files is = it.0
  answers-fate shelf after sink written statuses.NoMemory it fetches writes low below files is = tt
  answers-fate shelf after sink written (statuses.CommandLong number) it fetches writes low below files is = it.0
  answers-fate shelf after sink written statuses.InputFull it fetches writes low below files is = it.0
  answers-fate shelf after sink written (statuses.BadSheets file sheet) it fetches writes low below files is = comes-told shelf after files (spoils file sheet) it.0 is
  answers-fate shelf after sink written statuses.NotLocked it fetches writes low below files is = it.0
