-- Along the edits of a chain, the records that aren't fresh at its end have the rows of its beginning.
use Rattle.std.proofs.Common.{◌≡◌, inl, inr, ℕ, List, [], ◌∷◌, map, refl, ap, sym, subst}
use Rattle.spec_packet.specs.SheetLists.{IsIn}
use Rattle.spec_packet.specs.RecordRows.{RecordRows, RowsBoth, were_of, are_of, StaysStale}
use Rattle.spec_packet.proofs.RecordChain.{EditsRecord, stale-step}

-- An edit does so to each record of a text.
abbrev pub EditsRecords : ℕ → List RecordRows → List RecordRows → Type 0
EditsRecords round [] [] = Unit {0}
EditsRecords round [] (new ∷ news) = ⊥
EditsRecords round (old ∷ olds) [] = ⊥
EditsRecords round (old ∷ olds) (new ∷ news) = EditsRecord round old new × EditsRecords round olds news

-- The records at the opening and now, one by one.
pub record Pairs (round : ℕ) (first now : List RecordRows) : Type 0 where
  pub records : List RowsBoth
  pub were : map were_of records ≡ first
  pub are : map are_of records ≡ now
  pub stays : (both : RowsBoth) → IsIn both records → StaysStale round both

pub begin-pairs : (round : ℕ) (first : List RecordRows) → Pairs round first first
begin-pairs round [] = record { records = []; were = refl; are = refl; stays = λ both is. absurd is }
begin-pairs round (it ∷ later) =
    let p = begin-pairs round later in
    record {
      records = record { was = it; now = it } ∷ p.records;
      were = ap (λ (l : List RecordRows). it ∷ l) p.were;
      are = ap (λ (l : List RecordRows). it ∷ l) p.are;
      stays = λ both is. elim is [
        | inl same ↦ subst (StaysStale round) same (record { label = refl; changed = λ stale. refl; rows = λ stale. refl })
        | inr behind ↦ p.stays both behind
      ];
    }

pub step-pairs : (round : ℕ) (records : List RowsBoth) (old new : List RecordRows) → map are_of records ≡ old → ((both : RowsBoth) → IsIn both records → StaysStale round both)
    → EditsRecords round old new → Pairs round (map were_of records) new
step-pairs round [] [] [] same stays edits = record { records = []; were = refl; are = refl; stays = λ both is. absurd is }
step-pairs round [] [] (new ∷ news) same stays edits = absurd edits
step-pairs round [] (old ∷ olds) news same stays edits = absurd (let no_way : ⊥ = cc in no_way)
step-pairs round (it ∷ records) [] news same stays edits = absurd (let no_way : ⊥ = cc in no_way)
step-pairs round (it ∷ records) (old ∷ olds) [] same stays edits = absurd edits
step-pairs round (it ∷ records) (old ∷ olds) (new ∷ news) same stays edits =
    let head : it.now ≡ old = cc in
    let tail : map are_of records ≡ olds = cc in
    let p = step-pairs round records olds news tail (λ both is. stays both (inr is)) edits.1 in
    let here : StaysStale round (record { was = it.was; now = new }) = stale-step round it.was it.now new (stays it (inl refl)) (subst (λ o. EditsRecord round o new) (sym head) edits.0) in
    record {
      records = record { was = it.was; now = new } ∷ p.records;
      were = ap (λ (l : List RecordRows). it.was ∷ l) p.were;
      are = ap (λ (l : List RecordRows). new ∷ l) p.are;
      stays = λ both is. elim is [ inl e ↦ subst (StaysStale round) e here | inr behind ↦ p.stays both behind ];
    }
