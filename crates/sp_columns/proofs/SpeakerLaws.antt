-- Cells with their speakers, cell after cell.
use Rattle.std.proofs.Common.{◌≡◌, ℕ, zero, suc, ◌+◌, Bool, false, List, [], ◌∷◌, ◌++◌, drop, get_or, refl, add-one}
use Rattle.spec_text.specs.Lines.{LineState}
use Rattle.spec_pages.specs.Rows.{Cell, said_cells, spoken_cells}

-- Without a cell nothing is left.
pub spoken_cells-none : (lines : List LineState) (first : ℕ) (speakers : List Bool) → spoken_cells lines first speakers [] ≡ []
spoken_cells-none lines first [] = refl
spoken_cells-none lines first (goes_on ∷ speakers) = refl

-- The next cell has the speaker at its place, if there is one.
next : (lines : List LineState) (first : ℕ) (speakers : List Bool) (place : ℕ) (cell : Cell) (cells : List Cell)
    → spoken_cells lines first (drop place speakers) (cell ∷ cells) ≡ said_cells lines first (get_or speakers place false) cell ++ spoken_cells lines first (drop (suc place) speakers) cells
next lines first [] zero cell cells = refl
next lines first [] (suc place) cell cells = refl
next lines first (goes_on ∷ speakers) zero cell cells = refl
next lines first (goes_on ∷ speakers) (suc place) cell cells = next lines first speakers place cell cells

pub spoken_cells-next : (lines : List LineState) (first : ℕ) (speakers : List Bool) (place : ℕ) (cell : Cell) (cells : List Cell)
    → spoken_cells lines first (drop place speakers) (cell ∷ cells) ≡ said_cells lines first (get_or speakers place false) cell ++ spoken_cells lines first (drop (place + 1) speakers) cells
spoken_cells-next lines first speakers place cell cells = rw (add-one place) (next lines first speakers place cell cells)
