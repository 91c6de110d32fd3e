-- The blocks of a stanza (docs/RULES.md, "Blocks").
use Rattle.std.specs.Prelude.{◌≡◌, Bool, ◌&&◌, MatchBool, List, [], ◌∷◌, if◌then◌else◌}
use Rattle.spec_script.specs.LongestRuns.{longest_runs}
use Rattle.spec_script.specs.Title.{title_opens}
use Rattle.spec_script.specs.BlockValues.{BlockOf}
use Rattle.spec_script.specs.Left.{Cleaned, Left, left_lines}
use Rattle.spec_script.specs.Speeches.{is_speech, speech_of}
use Rattle.spec_script.specs.Divisions.{one_part, pieces_blocks, IsDivision}
use Rattle.spec_script.specs.TitlePages.{one_key, title_of, IsTitle}

-- The blocks of the lines that are left: a title page, a speech, or parts.
abbrev pub AreBlocks : Bool → List Left → List BlockOf → Type 0
AreBlocks first [] blocks = blocks ≡ []
AreBlocks first (line ∷ more) blocks =
    MatchBool (first && title_opens line.text) (IsTitle line more blocks)
    (MatchBool (is_speech line more) (blocks ≡ speech_of line more ∷ [])
    (IsDivision (line ∷ more) blocks))

-- The blocks of a stanza, by its cleaned lines and whether it is the first.
abbrev pub IsStanza : Bool → List Cleaned → List BlockOf → Type 0
IsStanza first lines blocks = AreBlocks first (left_lines lines) blocks

-- The same blocks, computed.

-- The blocks of the lines that are left.
abbrev pub left_blocks : Bool → List Left → List BlockOf
left_blocks first [] = []
left_blocks first (line ∷ more) =
    if first && title_opens line.text then title_of line more (longest_runs one_key (line ∷ more)) ∷ []
    else (if is_speech line more then speech_of line more ∷ []
    else pieces_blocks (longest_runs one_part (line ∷ more)))

-- The blocks of a stanza.
abbrev pub stanza_blocks : Bool → List Cleaned → List BlockOf
stanza_blocks first lines = left_blocks first (left_lines lines)
