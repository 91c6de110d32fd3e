-- What a shelf tells, and counts that stay.
use Rattle.std.proofs.Common.{◌≡◌, ℕ, ◌-◌, ◌^◌, ◌<◌, List, Some, None, sym, subst, arith}
use Rattle.std.specs.Prelude.{IfSome}
use Rattle.std.specs.declared.option.Option.{Option}
use Rattle.sp_kit.specs.Causes.{Rose}
use Rattle.sp_kit.specs.Files.{Files}
use Rattle.sp_run.specs.Records.{records_name}

-- A count that stayed below its greatest number didn't rise.
pub not-risen : (before now : ℕ) → Rose before now → now ≡ before → before < 2 ^ 64 - 1 → ⊥
not-risen before now rose same low = omega (arith, rose, same, low)

-- What holds of the files that a shelf tells.
pub held : (o : Option Files) (files : Files) (P : Files → Type 0) → IfSome o P → o ≡ Some files → P files
held o files P holds is = subst (λ p. IfSome p P) is holds

-- What stands under both names, as a shelf tells it, is answered so.
pub held-both : (name script : List ℕ) (records : Option (List ℕ)) (shelf : Option Files) (files : Files) (P : List ℕ → Option (List ℕ) → Type 0) (Q : Option (List ℕ) → Option (List ℕ) → Type 0)
    → ((s : List ℕ) (r : Option (List ℕ)) → P s r → Q (Some s) r) → IfSome shelf (λ files. files.held name ≡ Some script) → IfSome shelf (λ files. files.held (records_name name) ≡ records) → shelf ≡ Some files
    → P script records → Q (files.held name) (files.held (records_name name))
held-both name script records shelf files P Q leads has beside is holds =
    let found = held shelf files (λ fs. fs.held name ≡ Some script) has is in
    let stands = held shelf files (λ fs. fs.held (records_name name) ≡ records) beside is in
    subst (λ (o : Option (List ℕ)). Q o (files.held (records_name name))) (sym found) (leads script (files.held (records_name name)) (subst (P script) (sym stands) holds))

-- What stands under the name is answered so, whatever stands beside it.
pub held-one : (name script : List ℕ) (shelf : Option Files) (files : Files) (Q : Option (List ℕ) → Option (List ℕ) → Type 0) → IfSome shelf (λ files. files.held name ≡ Some script) → shelf ≡ Some files
    → ((records : Option (List ℕ)) → Q (Some script) records) → Q (files.held name) (files.held (records_name name))
held-one name script shelf files Q has is holds =
    subst (λ (o : Option (List ℕ)). Q o (files.held (records_name name))) (sym (held shelf files (λ fs. fs.held name ≡ Some script) has is)) (holds (files.held (records_name name)))

pub held-none : (name : List ℕ) (shelf : Option Files) (files : Files) (Q : Option (List ℕ) → Option (List ℕ) → Type 0) → IfSome shelf (λ files. files.held name ≡ None) → shelf ≡ Some files
    → ((records : Option (List ℕ)) → Q None records) → Q (files.held name) (files.held (records_name name))
held-none name shelf files Q has is holds =
    subst (λ (o : Option (List ℕ)). Q o (files.held (records_name name))) (sym (held shelf files (λ fs. fs.held name ≡ None) has is)) (holds (files.held (records_name name)))
