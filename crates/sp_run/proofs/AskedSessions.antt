-- What a session asks a shelf: the stores of its saves, and nothing else.
use Rattle.std.proofs.Common.{◌≡◌, ℕ, List, [], ◌∷◌, ◌++◌, ◌⊎◌, Bool, true, false, inl, inr, refl, sym, ap, ◌∙◌, subst, append-nil}
use Rattle.std.proofs.lemmas.List.Concat.{flat_map-append}
use Rattle.spec_session.specs.Runs.{AtShelf}
use Rattle.spec_session.specs.Sessions.{SessionEnds, Streams}
use Rattle.spec_session.specs.declared.SessionEnd.{SessionEnd}
use Rattle.spec_session.specs.declared.SessionEnd.TheVariants as endings
use Rattle.spec_session.proofs.KeepLaws.{ends-keep}
use Rattle.sp_kit.specs.Files.{Asks, CallOf, ShelfState, fetch}
use Rattle.sp_run.specs.declared.status.Status.{Status}
use Rattle.sp_run.specs.declared.status.Status.TheVariants as statuses
use Rattle.sp_run.specs.Asking.{AsksTwo, CommandsAsk, OpeningAsks, SessionAsks, calls_saved}
use Rattle.sp_run.specs.DeskLines.{Leaves, NamedDesk, Stores}
use Rattle.sp_run.specs.Forms.{from_file}
use Rattle.sp_run.specs.Records.{records_name}
use Rattle.sp_run.specs.Saving.{StoreFailed, StoreLeft, Tried, both, calls_tried, files_of, first_alone, neither}
use Rattle.sp_run.specs.Statuses.{status_of_end}
use Rattle.sp_run.specs.Unopened.{Outside, Unopened}
use Rattle.sp_run.proofs.Asked.{asks-none, asks-on}
use Rattle.sp_run.proofs.Touches.{Failed, Stored, Way, desk_seen}

-- ---- one line

-- The stores that a line tried.
pub record Tries (before after : AtShelf NamedDesk) : Type 0 where
  pub tried : Tried
  pub asks : Asks before.shelf.calls after.shelf.calls (calls_tried before.it.name (records_name before.it.name) tried)

same-tries : (before after : AtShelf NamedDesk) → after.shelf ≡ before.shelf → Tries before after
same-tries before after same =
    record { tried = neither; asks = subst (λ (it : ShelfState). Asks before.shelf.calls it.calls []) (sym same) (asks-none before.shelf.calls) }

stores-tries : (saves : Bool) (before after : AtShelf NamedDesk) → Stores saves before after → Tries before after
stores-tries true before after stores = record { tried = both; asks = stores.stored.asks }
stores-tries false before after stores = same-tries before after stores

failed-tries : (before after : AtShelf NamedDesk) → StoreFailed (files_of before.it.name before.it.memory.state) before.shelf after.shelf → Tries before after
failed-tries before after failed = by failed.asks
  where
    by : Asks before.shelf.calls after.shelf.calls (calls_tried before.it.name (records_name before.it.name) first_alone)
        ⊎ Asks before.shelf.calls after.shelf.calls (calls_tried before.it.name (records_name before.it.name) both) → Tries before after
    by (inl asks) = record { tried = first_alone; asks = asks }
    by (inr asks) = record { tried = both; asks = asks }

left-tries : (before after : AtShelf NamedDesk) → StoreLeft (files_of before.it.name before.it.memory.state) before.shelf after.shelf → Tries before after
left-tries before after left = by left.asks
  where
    by : Asks before.shelf.calls after.shelf.calls (calls_tried before.it.name (records_name before.it.name) neither)
        ⊎ Asks before.shelf.calls after.shelf.calls (calls_tried before.it.name (records_name before.it.name) first_alone)
        ⊎ Asks before.shelf.calls after.shelf.calls (calls_tried before.it.name (records_name before.it.name) both) → Tries before after
    by (inl asks) = record { tried = neither; asks = asks }
    by (inr (inl asks)) = record { tried = first_alone; asks = asks }
    by (inr (inr asks)) = record { tried = both; asks = asks }

leaves-tries : (saves : Bool) (before after : AtShelf NamedDesk) → Leaves saves before after → Tries before after
leaves-tries true before after leaves = left-tries before after leaves
leaves-tries false before after leaves = same-tries before after leaves

touches-tries : (saves : Bool) (before after : AtShelf NamedDesk) (bytes : List ℕ) → Stored saves before after bytes ⊎ Failed saves before after → Tries before after
touches-tries saves before after bytes (inl done) = stores-tries saves before after done.stores
touches-tries saves before after bytes (inr not) = failed-tries before after not.failed

-- ---- all lines

-- It is the desk of this name, and saves of it were all that the shelf was asked.
pub record HasAsked (name : List ℕ) (old : ShelfState) (now : AtShelf NamedDesk) : Type 0 where
  pub named : now.it.name ≡ name
  pub saves : List Tried
  pub asks : Asks old.calls now.shelf.calls (calls_saved name saves)

one-more : (name : List ℕ) (saves : List Tried) (tried : Tried) → calls_saved name saves ++ calls_tried name (records_name name) tried ≡ calls_saved name (saves ++ tried ∷ [])
one-more name saves tried =
    let calls = calls_tried name (records_name name) in
    ap (λ (behind : List CallOf). calls_saved name saves ++ behind) (sym (append-nil (calls tried))) ∙ sym (flat_map-append calls saves (tried ∷ []))

asked-more : (name : List ℕ) (old : ShelfState) (before after : AtShelf NamedDesk) → after.it.name ≡ before.it.name → Tries before after → HasAsked name old before → HasAsked name old after
asked-more name old before after same tries has = record {
  named = same ∙ has.named;
  saves = has.saves ++ tries.tried ∷ [];
  asks = subst (Asks old.calls after.shelf.calls) (one-more name has.saves tries.tried)
      (asks-on old.calls before.shelf.calls after.shelf.calls (calls_saved name has.saves) (calls_tried name (records_name name) tries.tried) has.asks
      (subst (λ (n : List ℕ). Asks before.shelf.calls after.shelf.calls (calls_tried n (records_name n) tries.tried)) has.named tries.asks));
}

session-asked : (way : Way) (streams others : Streams) (begun after : AtShelf way.how.It) (end : SessionEnd) → SessionEnds way.how.answers way.how.stops streams others begun after end
    → HasAsked (way.how.desk begun.it).name begun.shelf (desk_seen way after)
session-asked way streams others begun after end ends =
    let name = (way.how.desk begun.it).name in
    let start : HasAsked name begun.shelf (desk_seen way begun) = record { named = refl; saves = []; asks = asks-none begun.shelf.calls } in
    ends-keep way.how.answers way.how.stops (λ (it : AtShelf way.how.It). HasAsked name begun.shelf (desk_seen way it))
    (λ one line other reply answers.
    let it = way.touches one line other reply answers in
    asked-more name begun.shelf (desk_seen way one) (desk_seen way other) it.named (touches-tries (way.how.saves line) (desk_seen way one) (desk_seen way other) reply it.stored))
    (λ one line other stops.
    let it = way.halts one line other stops in
    asked-more name begun.shelf (desk_seen way one) (desk_seen way other) it.named (leaves-tries (way.how.saves line) (desk_seen way one) (desk_seen way other) it.leaves))
    streams others begun after end ends start

-- ---- a session behind its opening

-- The session of a script that was opened.
pub opened-asks : (way : Way) (name : List ℕ) (old : ShelfState) (streams others : Streams) (begun after : AtShelf way.how.It) (end : SessionEnd) → (way.how.desk begun.it).name ≡ name
    → SessionEnds way.how.answers way.how.stops streams others begun after end → AsksTwo name (records_name name) old begun.shelf → SessionAsks name old after.shelf
opened-asks way name old streams others begun after end named ends opened =
    let has = session-asked way streams others begun after end ends in
    record {
      bytes = opened.bytes;
      found = opened.found;
      saves = has.saves;
      asks = asks-on old.calls begun.shelf.calls after.shelf.calls (fetch name ∷ fetch (records_name name) ∷ []) (calls_saved name has.saves) opened.asks
          (subst (λ (n : List ℕ). Asks begun.shelf.calls after.shelf.calls (calls_saved n has.saves)) named has.asks);
    }

pub ended-asks : (name : List ℕ) (old new : ShelfState) (end : SessionEnd) → SessionAsks name old new → CommandsAsk name old new (status_of_end end)
ended-asks name old new endings.Done asks = asks
ended-asks name old new endings.ReadFault asks = asks
ended-asks name old new endings.WriteFault asks = asks
ended-asks name old new endings.NoMemory asks = inr asks
ended-asks name old new (endings.CommandLong number) asks = asks
ended-asks name old new endings.InputFull asks = asks

-- A script that wasn't opened.
pub unopened-asks : (name : List ℕ) (old new : Outside) (status : Status) → Unopened (from_file name) old new status → OpeningAsks name old.shelf new.shelf status
    → CommandsAsk name old.shelf new.shelf status
unopened-asks name old new statuses.Done it asks = absurd it
unopened-asks name old new statuses.Usage it asks = absurd it
unopened-asks name old new (statuses.NoFile given) it asks = asks
unopened-asks name old new (statuses.BadText fault) it asks = asks
unopened-asks name old new statuses.ReadFault it asks = absurd it.failed
unopened-asks name old new statuses.WriteFault it asks = absurd it
unopened-asks name old new statuses.ShelfFault it asks = asks
unopened-asks name old new (statuses.BadRecords fault) it asks = asks
unopened-asks name old new statuses.NoMemory it asks = inl asks
unopened-asks name old new (statuses.CommandLong number) it asks = absurd it
unopened-asks name old new statuses.InputFull it asks = absurd it
unopened-asks name old new (statuses.BadSheets file sheet) it asks = absurd it
unopened-asks name old new statuses.NotLocked it asks = absurd it
