-- How many rows stand before the elements that begin from a line on (docs/RULES.md, "Windows").
use Rattle.std.specs.Prelude.{◌≡◌, ℕ, ◌+◌, ◌-◌, ◌≤◌, Bool, true, false, List, length, take}
use Rattle.spec_pages.specs.Rows.{ElementOf}
use Rattle.sp_layout.specs.Bodies.{row_count}
use Rattle.sp_layout.specs.Places.{CountsBefore}

abbrev pub one_if : Bool → ℕ
one_if true = 1
one_if false = 0

-- So many elements begin before a line; where the last of them is relaid, there is one.
pub record HasFront (elements : List ElementOf) (line : ℕ) (relaid : Bool) : Type 0 where
  pub place : ℕ
  pub is : CountsBefore elements line place
  pub some : one_if relaid ≤ place

-- Before these, and before the last where it is relaid, stand so many rows.
pub record RowsBefore (elements : List ElementOf) (line : ℕ) (relaid : Bool) (count : ℕ) : Type 0 where
  pub place : ℕ
  pub is : CountsBefore elements line place
  pub some : one_if relaid ≤ place
  pub are : row_count (take (place - one_if relaid) elements) ≡ count

-- So many elements begin before a line; where the first behind them is relaid, there is one.
pub record HasRest (elements : List ElementOf) (line : ℕ) (relaid : Bool) : Type 0 where
  pub place : ℕ
  pub is : CountsBefore elements line place
  pub some : place + one_if relaid ≤ length elements

-- These, with the first behind them where it is relaid, have so many rows.
pub record RowsUpTo (elements : List ElementOf) (line : ℕ) (relaid : Bool) (count : ℕ) : Type 0 where
  pub place : ℕ
  pub is : CountsBefore elements line place
  pub some : place + one_if relaid ≤ length elements
  pub are : row_count (take (place + one_if relaid) elements) ≡ count
