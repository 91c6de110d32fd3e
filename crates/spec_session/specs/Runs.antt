-- What answering lines in order comes to (docs/RULES.md, "Sessions").
use Rattle.std.specs.Prelude.{ℕ, List, [], ◌∷◌, map, flat_map}
use Rattle.sp_kit.specs.Files.{ShelfState}

-- How many stanzas were read, and how many pages were filled.
pub record Counts : Type 0 where
  pub reads : ℕ
  pub fills : ℕ

abbrev pub counts_of : ℕ → ℕ → Counts
counts_of reads fills = record { reads = reads; fills = fills }

-- What answers lines, the shelf that it has, and what was counted.
pub record AtShelf (R : Type 0) : Type 0 where
  pub it : R
  pub shelf : ShelfState
  pub counts : Counts

abbrev pub at_shelf : {R : Type 0} → R → ShelfState → Counts → AtShelf R
at_shelf it shelf counts = record { it = it; shelf = shelf; counts = counts }

-- A line answered: what answers it, as it is then, and the bytes of its reply.
pub record Answered (R : Type 0) : Type 0 where
  pub after : R
  pub reply : List ℕ

-- These steps answer the lines in order, the first from here and each from where the one before it left off.
abbrev pub Runs : {R : Type 0} → (R → List ℕ → R → List ℕ → Type 0) → R → List (List ℕ) → List (Answered R) → Type 0
Runs answers before [] [] = Unit {0}
Runs answers before [] (step ∷ steps) = ⊥
Runs answers before (line ∷ lines) [] = ⊥
Runs answers before (line ∷ lines) (step ∷ steps) = answers before line step.after step.reply × Runs answers step.after lines steps

-- The replies, one behind the other.
abbrev pub output_of : {R : Type 0} → List (Answered R) → List ℕ
output_of {R} steps = flat_map (λ (step : Answered R). step.reply) steps

-- Where the steps leave off.
abbrev pub left_by : {R : Type 0} → R → List (Answered R) → R
left_by before [] = before
left_by before (step ∷ steps) = left_by step.after steps

-- The steps, seen in another way.
abbrev pub steps_seen : {R S : Type 0} → (R → S) → List (Answered R) → List (Answered S)
steps_seen {R} view steps = map (λ (step : Answered R). record { after = view step.after; reply = step.reply }) steps
