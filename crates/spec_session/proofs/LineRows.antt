-- Telling inputs and their lines (docs/RULES.md, "Sessions").
use Rattle.std.proofs.Common.{◌≡◌, [], ◌∷◌, refl}
use Rattle.spec_session.specs.CommandLines.{command_lines, whole_lines, open_line}

-- No byte is no line.
no_line : command_lines [] ≡ []
no_line = refl

-- A line feed alone is an empty line.
empty_line : command_lines (10 ∷ []) ≡ [] ∷ []
empty_line = refl

-- A last piece counts where it has a byte.
last_piece : command_lines (97 ∷ 10 ∷ 98 ∷ []) ≡ (97 ∷ []) ∷ (98 ∷ []) ∷ []
last_piece = refl

no_last_piece : command_lines (97 ∷ 10 ∷ []) ≡ (97 ∷ []) ∷ []
no_last_piece = refl

-- A CR is a byte of its line.
carriage_return : command_lines (97 ∷ 13 ∷ 10 ∷ 13 ∷ []) ≡ (97 ∷ 13 ∷ []) ∷ (13 ∷ []) ∷ []
carriage_return = refl

-- Empty lines count.
empty_lines : command_lines (10 ∷ 10 ∷ 97 ∷ 10 ∷ 10 ∷ []) ≡ [] ∷ [] ∷ (97 ∷ []) ∷ [] ∷ []
empty_lines = refl

-- A piece is no whole line.
whole : whole_lines (97 ∷ 10 ∷ 98 ∷ 99 ∷ []) ≡ (97 ∷ []) ∷ []
whole = refl

piece : open_line (97 ∷ 10 ∷ 98 ∷ 99 ∷ []) ≡ 98 ∷ 99 ∷ []
piece = refl
