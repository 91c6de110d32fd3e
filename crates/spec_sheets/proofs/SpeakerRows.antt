-- Telling scripts and which of their speakers go on (docs/RULES.md, "Elements").
use Rattle.std.proofs.Common.{◌≡◌, ℕ, Bool, false, true, List, [], ◌∷◌, map, refl}
use Rattle.std.specs.Prelude.{codes}
use Rattle.std.specs.List.{flat_map}
use Rattle.std.specs.Str.{chars}
use Rattle.ucd_derived.specs.Binary.{is_alphabetic, is_lowercase}
use Rattle.ucd_derived.specs.AlphabeticRanges.{alphabetic_ranges}
use Rattle.ucd_derived.specs.LowercaseRanges.{lowercase_ranges}
use Rattle.ucd_table.specs.Rows.{in_ranges}
use Rattle.unicode_segmentation.proofs.Computing.{unicode_segmentation}
use Rattle.unicode_width.proofs.Computing.{unicode_width}
use Rattle.spec_text.specs.Lines.{read_lines}
use Rattle.spec_script.specs.LongestRuns.{members}
use Rattle.spec_pages.specs.Wrapping.{rows_of}
use Rattle.spec_pages.specs.Rows.{Cell, Row}
use Rattle.spec_sheets.specs.Speakers.{Spoken, text_elements}
use Rattle.spec_sheets.specs.Layout.{layout_of, placed_in}

-- Which blocks of a script have a speaker who goes on.
abbrev speakers_in : Bool → List (List ℕ) → List Bool
speakers_in speakers texts = map (λ (it : Spoken). it.continued) (flat_map members (text_elements speakers (read_lines texts)))

-- A speaker goes on behind action.
pub behind_action : speakers_in true (codes "ANNA" ∷ codes "x" ∷ [] ∷ codes "!b" ∷ [] ∷ codes "ANNA" ∷ codes "y" ∷ []) ≡ false ∷ false ∷ true ∷ []
unfolding chars is_lowercase is_alphabetic in_ranges lowercase_ranges alphabetic_ranges rows_of unicode_segmentation unicode_width lib.Utf8.encode
behind_action = refl

-- None does where it is off.
pub switched_off : speakers_in false (codes "ANNA" ∷ codes "x" ∷ [] ∷ codes "!b" ∷ [] ∷ codes "ANNA" ∷ codes "y" ∷ []) ≡ false ∷ false ∷ false ∷ []
unfolding chars is_lowercase is_alphabetic in_ranges lowercase_ranges alphabetic_ranges rows_of unicode_segmentation unicode_width lib.Utf8.encode
switched_off = refl

-- None goes on past a heading.
pub past_heading : speakers_in true (codes "ANNA" ∷ codes "x" ∷ [] ∷ codes ".B" ∷ [] ∷ codes "ANNA" ∷ codes "y" ∷ []) ≡ false ∷ false ∷ false ∷ []
unfolding chars is_lowercase is_alphabetic in_ranges lowercase_ranges alphabetic_ranges rows_of unicode_segmentation unicode_width lib.Utf8.encode
past_heading = refl

-- The last speaker counts: another one between ends a speech.
pub another_between : speakers_in true (codes "ANNA" ∷ codes "x" ∷ [] ∷ codes "BERT" ∷ codes "y" ∷ [] ∷ codes "ANNA" ∷ codes "z" ∷ []) ≡ false ∷ false ∷ false ∷ []
unfolding chars is_lowercase is_alphabetic in_ranges lowercase_ranges alphabetic_ranges rows_of unicode_segmentation unicode_width lib.Utf8.encode
another_between = refl

-- What stands in brackets behind a name is no part of it.
pub name_in_brackets : speakers_in true (codes "ANNA" ∷ codes "x" ∷ [] ∷ codes "!b" ∷ [] ∷ codes "ANNA (V.O.)" ∷ codes "y" ∷ [] ∷ codes "ANNA (O.S.)" ∷ codes "z" ∷ []) ≡ false ∷ false ∷ true ∷ true ∷ []
unfolding chars is_lowercase is_alphabetic in_ranges lowercase_ranges alphabetic_ranges rows_of unicode_segmentation unicode_width lib.Utf8.encode
name_in_brackets = refl

-- A bracket that ends no cue is part of the name.
-- A bracket that doesn't end the cue is part of the name, and so is one that nothing opens.
pub whole_name : speakers_in true (codes "@A (b) C" ∷ codes "x" ∷ [] ∷ codes "@A" ∷ codes "y" ∷ [] ∷ codes "@D)" ∷ codes "x" ∷ [] ∷ codes "@D)" ∷ codes "y" ∷ []) ≡ false ∷ false ∷ false ∷ true ∷ []
unfolding chars is_lowercase is_alphabetic in_ranges lowercase_ranges alphabetic_ranges rows_of unicode_segmentation unicode_width lib.Utf8.encode
whole_name = refl

-- Both speeches of a pair, and its right half alone.
pub both_of_pair : speakers_in true (codes "ANNA" ∷ codes "x" ∷ [] ∷ codes "ANNA" ∷ codes "y" ∷ [] ∷ codes "ANNA ^" ∷ codes "z" ∷ []) ≡ false ∷ true ∷ true ∷ []
unfolding chars is_lowercase is_alphabetic in_ranges lowercase_ranges alphabetic_ranges rows_of unicode_segmentation unicode_width lib.Utf8.encode
both_of_pair = refl

pub right_of_pair : speakers_in true (codes "ANNA" ∷ codes "x" ∷ [] ∷ codes "ANNA ^" ∷ codes "y" ∷ []) ≡ false ∷ true ∷ []
unfolding chars is_lowercase is_alphabetic in_ranges lowercase_ranges alphabetic_ranges rows_of unicode_segmentation unicode_width lib.Utf8.encode
right_of_pair = refl

pub left_of_pair : speakers_in true (codes "ANNA" ∷ codes "x" ∷ [] ∷ codes "ANNA" ∷ codes "y" ∷ [] ∷ codes "BERT ^" ∷ codes "z" ∷ [] ∷ codes "BERT" ∷ codes "x" ∷ []) ≡ false ∷ true ∷ false ∷ true ∷ []
unfolding chars is_lowercase is_alphabetic in_ranges lowercase_ranges alphabetic_ranges rows_of unicode_segmentation unicode_width lib.Utf8.encode
left_of_pair = refl

-- A cue that ends so by the writer's own hand takes no other; its speaker is the last one still.
pub own_hand : speakers_in true (codes "ANNA" ∷ codes "x" ∷ [] ∷ codes "ANNA (CONT'D)" ∷ codes "y" ∷ [] ∷ codes "ANNA" ∷ codes "z" ∷ []) ≡ false ∷ false ∷ true ∷ []
unfolding chars is_lowercase is_alphabetic in_ranges lowercase_ranges alphabetic_ranges rows_of unicode_segmentation unicode_width lib.Utf8.encode
own_hand = refl

-- An empty name goes on nowhere, and hides the one before it.
pub empty_name : speakers_in true (codes "ANNA" ∷ codes "x" ∷ [] ∷ codes "@()" ∷ codes "y" ∷ [] ∷ codes "@()" ∷ codes "z" ∷ [] ∷ codes "ANNA" ∷ codes "x" ∷ []) ≡ false ∷ false ∷ false ∷ false ∷ []
unfolding chars is_lowercase is_alphabetic in_ranges lowercase_ranges alphabetic_ranges rows_of unicode_segmentation unicode_width lib.Utf8.encode
empty_name = refl

-- Boneyards and notes are no part of a name, nor are marks of emphasis.
pub cleaned_name : speakers_in true (codes "ANNA" ∷ codes "x" ∷ [] ∷ codes "AN/* b */NA" ∷ codes "y" ∷ [] ∷ codes "ANNA [[c]]" ∷ codes "z" ∷ [] ∷ codes "@*ANNA*" ∷ codes "x" ∷ []) ≡ false ∷ true ∷ true ∷ true ∷ []
unfolding chars is_lowercase is_alphabetic in_ranges lowercase_ranges alphabetic_ranges rows_of unicode_segmentation unicode_width lib.Utf8.encode
cleaned_name = refl

-- Whether a cue ends so is seen of its last row, at the width that it has there: in a pair this one is cut in its brackets.
pub own_hand_alone : speakers_in true (codes "@BBBBBBBBBBBBBBBBBBBBBBBBB" ∷ codes "x" ∷ [] ∷ codes "@BBBBBBBBBBBBBBBBBBBBBBBBB(CONT'D)" ∷ codes "y" ∷ []) ≡ false ∷ false ∷ []
unfolding chars is_lowercase is_alphabetic in_ranges lowercase_ranges alphabetic_ranges rows_of unicode_segmentation unicode_width lib.Utf8.encode
own_hand_alone = refl

pub own_hand_cut : speakers_in true (codes "@BBBBBBBBBBBBBBBBBBBBBBBBB" ∷ codes "x" ∷ [] ∷ codes "@BBBBBBBBBBBBBBBBBBBBBBBBB(CONT'D)" ∷ codes "y" ∷ [] ∷ codes "@C ^" ∷ codes "z" ∷ []) ≡ false ∷ true ∷ false ∷ []
unfolding chars is_lowercase is_alphabetic in_ranges lowercase_ranges alphabetic_ranges rows_of unicode_segmentation unicode_width lib.Utf8.encode
own_hand_cut = refl

-- The cells of the rows of a script's body: their columns, and whether they are fixed.
abbrev cells_in : List (List ℕ) → List (List (ℕ × Bool))
cells_in texts = map (λ (row : Row). map (λ (cell : Cell). (cell.column, cell.fixed)) row.cells) (placed_in (layout_of true (read_lines texts)).body)

-- `(CONT'D)` stands one column past the end of a cue's first row.
pub continued_cell : cells_in (codes "ANNA" ∷ codes "x" ∷ [] ∷ codes "ANNA" ∷ codes "y" ∷ [])
    ≡ ((37, false) ∷ []) ∷ ((25, false) ∷ []) ∷ ((37, false) ∷ (42, true) ∷ []) ∷ ((25, false) ∷ []) ∷ []
unfolding chars is_lowercase is_alphabetic in_ranges lowercase_ranges alphabetic_ranges rows_of unicode_segmentation unicode_width lib.Utf8.encode
continued_cell = refl

pub continued_pair : cells_in (codes "A" ∷ codes "x" ∷ [] ∷ codes "A" ∷ codes "y" ∷ [] ∷ codes "A ^" ∷ codes "z" ∷ [])
    ≡ ((37, false) ∷ []) ∷ ((25, false) ∷ []) ∷ ((15, false) ∷ (17, true) ∷ (47, false) ∷ (49, true) ∷ []) ∷ ((15, false) ∷ (47, false) ∷ []) ∷ []
unfolding chars is_lowercase is_alphabetic in_ranges lowercase_ranges alphabetic_ranges rows_of unicode_segmentation unicode_width lib.Utf8.encode
continued_pair = refl
