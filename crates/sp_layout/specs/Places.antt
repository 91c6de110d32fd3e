-- Look-ups in lists that never fall: of places, and of elements by their lines.
use Rattle.std.specs.Prelude.{ℕ, ◌<◌, ◌≤◌, List, length, slice_index, slice_index_or}
use Rattle.spec_pages.specs.Rows.{ElementOf}

-- So many of the places are below a bound.
pub record CountsBelow (places : List ℕ) (bound count : ℕ) : Type 0 where
  pub within : count ≤ length places
  pub below : (i : ℕ) → i < count → slice_index places i < bound
  pub above : (i : ℕ) → count ≤ i → i < length places → bound ≤ slice_index places i

-- The last of what begins at or before a place.
pub record IsLastStart (starts : List ℕ) (place last : ℕ) : Type 0 where
  pub inside : last < length starts
  pub from : slice_index starts last ≤ place
  pub to : (i : ℕ) → last < i → i < length starts → place < slice_index starts i

-- So many elements begin before a line, by the lines that their rows count from, and the others from it on.
pub record CountsBefore (elements : List ElementOf) (line count : ℕ) : Type 0 where
  pub within : count ≤ length elements
  pub before : (i : ℕ) (d : ElementOf) → i < count → (slice_index_or elements i d).first < line
  pub from : (i : ℕ) (d : ElementOf) → count ≤ i → i < length elements → line ≤ (slice_index_or elements i d).first

-- No element that begins from a line on stands before one that doesn't.
pub record ArePartedAt (elements : List ElementOf) (line : ℕ) : Type 0 where
  pub count : ℕ
  pub is : CountsBefore elements line count
