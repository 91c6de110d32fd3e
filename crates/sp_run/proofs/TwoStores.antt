-- Two stores, one behind the other, the second of which isn't tried where the first failed.
use Rattle.std.proofs.Common.{◌≡◌, ◌≢◌, ℕ, ◌≤◌, ◌⊎◌, [], ◌∷◌, Option, Some, None, inl, inr, sym, ap, ◌∙◌, subst}
use Rattle.std.specs.Prelude.{IsTrue, Ok, Err}
use Rattle.std.specs.declared.result.Result.{Result}
use Rattle.sp_kit.specs.Causes.{Rose}
use Rattle.sp_kit.specs.Files.{Asks, Files, ShelfState, HasOldOrNew, HasShelfCause, KeepsOthers, StoreLeaves, store}
use Rattle.sp_kit.specs.declared.shelf.ShelfFault.{ShelfFault}
use Rattle.sp_kit.specs.declared.shelf.ShelfFault.TheVariants as shelf_faults
use Rattle.sp_run.specs.Saving.{Changes, KeepsOrPuts, LeftFirst, PutBoth, PutFirst, StoresBoth, TwoFiles}
use Rattle.sp_run.proofs.Asked.{asks-on}

module _ (it : TwoFiles) (differs : it.name ≢ it.beside) where
  beside-other : it.beside ≢ it.name
  beside-other same = differs (sym same)

  -- ---- the first store wasn't done

  open-files : (old new : Option Files) → StoreLeaves old new it.name it.bytes (Err shelf_faults.Failed)
      → Changes old new (λ before now. KeepsOthers before now it.name ⊎ PutFirst it before now)
  open-files None new left = tt
  open-files (Some old) None left = absurd left
  open-files (Some old) (Some new) left = inl left.others

  open-kept : (old new : Option Files) → StoreLeaves old new it.name it.bytes (Err shelf_faults.Failed)
      → Changes old new (λ before now. IsTrue before.atomic → KeepsOrPuts it before now)
  open-kept None new left = tt
  open-kept (Some old) None left = absurd left
  open-kept (Some old) (Some new) left = λ is. record {
    first = left.kept is;
    second = inl (left.others.names it.beside beside-other);
    others = record { names = λ name not-first not-second. left.others.names name not-first; atomic = left.others.atomic };
  }

  none-left : (old new : Option Files) → StoreLeaves old new it.name it.bytes (Err shelf_faults.NoMemory) → Changes old new (LeftFirst it)
  none-left None new left = tt
  none-left (Some old) None left = absurd left
  none-left (Some old) (Some new) same = record {
    first = inl (ap (λ (files : Files). files.held it.name) same);
    others = record { names = λ other not-first. ap (λ (files : Files). files.held other) same; atomic = ap (λ (files : Files). files.atomic) same };
  }

  pub first-failed : (old new : ShelfState) (fault : ShelfFault) → StoreLeaves old.files new.files it.name it.bytes (Err fault) → HasShelfCause {T = Unit {0}} old.faults new.faults (Err fault)
      → Asks old.calls new.calls (store it.name ∷ []) → StoresBoth it old new (Err fault)
  first-failed old new shelf_faults.Failed left cause asks =
      record { later = cause.0; rose = cause.1; files = open-files old.files new.files left; kept = open-kept old.files new.files left; asks = inl asks }
  first-failed old new shelf_faults.NoMemory left cause asks = record { kept = cause; files = none-left old.files new.files left; asks = inr (inl asks) }

  -- ---- the first store was done

  put-both : (old mid new : Option Files) → StoreLeaves old mid it.name it.bytes (Ok tt) → StoreLeaves mid new it.beside it.records (Ok tt) → Changes old new (PutBoth it)
  put-both None mid new first second = tt
  put-both (Some old) None new first second = absurd first
  put-both (Some old) (Some mid) None first second = absurd second
  put-both (Some old) (Some mid) (Some new) (put, others) (placed, rest) = record {
    first = rest.names it.name differs ∙ put;
    second = placed;
    others = record { names = λ name not-first not-second. rest.names name not-second ∙ others.names name not-first; atomic = rest.atomic ∙ others.atomic };
  }

  first-put : (old mid new : Files) → mid.held it.name ≡ Some it.bytes → KeepsOthers old mid it.name → KeepsOthers mid new it.beside → PutFirst it old new
  first-put old mid new put others rest = record {
    first = rest.names it.name differs ∙ put;
    others = record { names = λ name not-first not-second. rest.names name not-second ∙ others.names name not-first; atomic = rest.atomic ∙ others.atomic };
  }

  put-files : (old mid new : Option Files) → StoreLeaves old mid it.name it.bytes (Ok tt) → StoreLeaves mid new it.beside it.records (Err shelf_faults.Failed)
      → Changes old new (λ before now. KeepsOthers before now it.name ⊎ PutFirst it before now)
  put-files None mid new first second = tt
  put-files (Some old) None new first second = absurd first
  put-files (Some old) (Some mid) None first second = absurd second
  put-files (Some old) (Some mid) (Some new) (put, others) left = inr (first-put old mid new put others left.others)

  old-or-new : (old mid new : Files) → KeepsOthers old mid it.name → HasOldOrNew mid new it.beside it.records → HasOldOrNew old new it.beside it.records
  old-or-new old mid new others (inl same) = inl (same ∙ others.names it.beside beside-other)
  old-or-new old mid new others (inr put) = inr put

  put-kept : (old mid new : Option Files) → StoreLeaves old mid it.name it.bytes (Ok tt) → StoreLeaves mid new it.beside it.records (Err shelf_faults.Failed)
      → Changes old new (λ before now. IsTrue before.atomic → KeepsOrPuts it before now)
  put-kept None mid new first second = tt
  put-kept (Some old) None new first second = absurd first
  put-kept (Some old) (Some mid) None first second = absurd second
  put-kept (Some old) (Some mid) (Some new) (put, others) left = λ is.
      let both = first-put old mid new put others left.others in
      record {
        first = inr both.first;
        second = old-or-new old mid new others (left.kept (subst IsTrue (sym others.atomic) is));
        others = both.others;
      }

  put-left : (old mid new : Option Files) → StoreLeaves old mid it.name it.bytes (Ok tt) → StoreLeaves mid new it.beside it.records (Err shelf_faults.NoMemory) → Changes old new (LeftFirst it)
  put-left None mid new first second = tt
  put-left (Some old) None new first second = absurd first
  put-left (Some old) (Some mid) None first second = absurd second
  put-left (Some old) (Some mid) (Some new) (put, others) same = record {
    first = inr (ap (λ (files : Files). files.held it.name) same ∙ put);
    others = record {
      names = λ other not-first. ap (λ (files : Files). files.held other) same ∙ others.names other not-first;
      atomic = ap (λ (files : Files). files.atomic) same ∙ others.atomic;
    };
  }

  pub second-tried : (old mid new : ShelfState) (result : Result (Unit {0}) ShelfFault) → StoreLeaves old.files mid.files it.name it.bytes (Ok tt) → mid.faults ≡ old.faults
      → Asks old.calls mid.calls (store it.name ∷ []) → StoreLeaves mid.files new.files it.beside it.records result → HasShelfCause mid.faults new.faults result
      → Asks mid.calls new.calls (store it.beside ∷ []) → StoresBoth it old new result
  second-tried old mid new (Ok done) first same one second cause other = record {
    kept = cause ∙ same;
    files = put-both old.files mid.files new.files first second;
    asks = asks-on old.calls mid.calls new.calls (store it.name ∷ []) (store it.beside ∷ []) one other;
  }
  second-tried old mid new (Err shelf_faults.Failed) first same one second cause other = record {
    later = subst (λ (count : ℕ). count ≤ new.faults) same cause.0;
    rose = subst (λ (count : ℕ). Rose count new.faults) same cause.1;
    files = put-files old.files mid.files new.files first second;
    kept = put-kept old.files mid.files new.files first second;
    asks = inr (asks-on old.calls mid.calls new.calls (store it.name ∷ []) (store it.beside ∷ []) one other);
  }
  second-tried old mid new (Err shelf_faults.NoMemory) first same one second cause other = record {
    kept = cause ∙ same;
    files = put-left old.files mid.files new.files first second;
    asks = inr (inr (asks-on old.calls mid.calls new.calls (store it.name ∷ []) (store it.beside ∷ []) one other));
  }
