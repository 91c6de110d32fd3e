-- Two stores, and what they leave on a shelf.
use Rattle.std.proofs.Common.{◌≡◌, ◌≢◌, ℕ, ◌⊎◌, inl, inr, List, length, Option, Some, None, refl, sym, ap, subst, arith, length-append}
use Rattle.std.specs.Prelude.{codes, Ok, Err, OnErr}
use Rattle.std.specs.declared.result.Result.{Result}
use Rattle.spec_text.specs.Lines.{text_bytes}
use Rattle.spec_records.specs.RecordFile.{written}
use Rattle.spec_state.specs.State.{State}
use Rattle.spec_state.specs.Keeping.{state_kept}
use Rattle.sp_kit.specs.Files.{Files, ShelfState, KeepsOthers}
use Rattle.sp_run.specs.Records.{records_name}
use Rattle.sp_run.proofs.Asked.{asks-none}
use Rattle.sp_run.specs.Saving.{Changes, KeepsAllBut, TwoFiles, files_of, PutBoth, PutFirst, StoreFailed, LeftFirst, StoreLeft}

-- The record file doesn't stand under the script's name.
pub names-differ : (name : List ℕ) → name ≢ records_name name
names-differ name same =
    let size = length-append name (codes ".desk") in
    let five : length (codes ".desk") ≡ 5 = refl in
    let whole = ap length same in omega (arith, size, five, whole)

-- ---- what changed on a shelf

pub changes-map : (old new : Option Files) (P Q : Files → Files → Type 0) → ((before now : Files) → P before now → Q before now) → Changes old new P → Changes old new Q
changes-map None new P Q map it = tt
changes-map (Some old) None P Q map it = absurd it
changes-map (Some old) (Some new) P Q map it = map old new it

pub changes-none : (old new : Option Files) (P : Files → Files → Type 0) → ((files : Files) → P files files) → new ≡ old → Changes old new P
changes-none old new P stays same = subst (λ (it : Option Files). Changes old it P) (sym same) (own old)
  where
    own : (files : Option Files) → Changes files files P
    own None = tt
    own (Some files) = stays files

pub changes-both : (old new : Option Files) (P Q R : Files → Files → Type 0) → ((before now : Files) → P before now → Q before now → R before now) → Changes old new P → Changes old new Q → Changes old new R
changes-both None new P Q R joins one other = tt
changes-both (Some old) None P Q R joins one other = absurd one
changes-both (Some old) (Some new) P Q R joins one other = joins old new one other

pub changes-on : (old mid new : Option Files) (P Q R : Files → Files → Type 0) → ((one two three : Files) → P one two → Q two three → R one three) → Changes old mid P → Changes mid new Q → Changes old new R
changes-on None mid new P Q R joins first second = tt
changes-on (Some old) None new P Q R joins first second = absurd first
changes-on (Some old) (Some mid) None P Q R joins first second = absurd second
changes-on (Some old) (Some mid) (Some new) P Q R joins first second = joins old mid new first second

-- Files that stay keep all names.
pub keeps-itself : (files : Files) (one other : List ℕ) → KeepsAllBut files files one other
keeps-itself files one other = record { names = λ name not-first not-second. refl; atomic = refl }

-- ---- two stores

-- Each of these changes no name but the two.
pub put-others : (it : TwoFiles) (old new : Files) → PutBoth it old new → KeepsAllBut old new it.name it.beside
put-others it old new put = put.others

failed-one : (it : TwoFiles) (old new : Files) → KeepsOthers old new it.name ⊎ PutFirst it old new → KeepsAllBut old new it.name it.beside
failed-one it old new (inl others) = record { names = λ name not-first not-second. others.names name not-first; atomic = others.atomic }
failed-one it old new (inr put) = put.others

pub failed-others : (it : TwoFiles) (old new : ShelfState) → StoreFailed it old new → Changes old.files new.files (λ before now. KeepsAllBut before now it.name it.beside)
failed-others it old new failed =
    changes-map old.files new.files (λ before now. KeepsOthers before now it.name ⊎ PutFirst it before now) (λ before now. KeepsAllBut before now it.name it.beside) (failed-one it) failed.files

pub left-others : (it : TwoFiles) (old new : ShelfState) → StoreLeft it old new → Changes old.files new.files (λ before now. KeepsAllBut before now it.name it.beside)
left-others it old new left =
    changes-map old.files new.files (LeftFirst it) (λ before now. KeepsAllBut before now it.name it.beside) (λ before now first. failed-one it before now (inl first.others)) left.files

-- The files of a state, by their parts.
pub files-as : (name : List ℕ) (state : State) (it : TwoFiles) → it.name ≡ name → it.bytes ≡ text_bytes state.lines → it.beside ≡ records_name name → it.records ≡ written state.lines (state_kept state)
    → it ≡ files_of name state
files-as name state it named text beside records = λ i. record { name = named i; bytes = text i; beside = beside i; records = records i }

-- ---- before a store

nothing-left : (it : TwoFiles) (same : ShelfState) → StoreLeft it same same
nothing-left it same = record {
  kept = refl;
  files = changes-none same.files same.files (LeftFirst it) (λ files. record { first = inl refl; others = record { names = λ name other. refl; atomic = refl } }) refl;
  asks = inl (asks-none same.calls);
}

-- Where nothing was stored, the shelf is as it was.
pub unstored-left : {T E : Type 0} (result : Result T E) (it : TwoFiles) (same : ShelfState) → OnErr result (StoreLeft it same same)
unstored-left (Ok value) it same = tt
unstored-left (Err fault) it same = nothing-left it same
