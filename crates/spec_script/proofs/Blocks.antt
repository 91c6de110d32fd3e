-- To each stanza exactly one list of blocks stands in the relation, the computed one.
use Rattle.std.proofs.Common.{◌&&◌, ◌≡◌, Bool, true, false, cond, List, [], ◌∷◌, ◌++◌, map, MatchBool, refl, ap, ap₂, ◌∙◌}
use Rattle.spec_script.specs.LongestRuns.{Group, longest_runs}
use Rattle.spec_script.specs.BlockValues.{BlockOf}
use Rattle.spec_script.specs.declared.Kind.TheVariants as kinds
use Rattle.spec_script.specs.Trim.{trim_all}
use Rattle.spec_script.specs.Forms.{is_natural_heading, is_natural_transition}
use Rattle.spec_script.specs.Title.{title_opens}
use Rattle.spec_script.specs.Headings.{heading_of}
use Rattle.spec_script.specs.Speeches.{is_speech, speech_of}
use Rattle.spec_script.specs.Left.{Cleaned, Left, left_lines, trimmed, text_block}
use Rattle.spec_script.specs.Divisions.{ends_part, ending_blocks, group_block, one_block, InRuns, IsPart, IsPiece, ArePieces, one_part, IsDivision, run_blocks, part_blocks, piece_blocks, pieces_blocks}
use Rattle.spec_script.specs.TitlePages.{one_key, title_of, IsTitle}
use Rattle.spec_script.specs.Blocks.{AreBlocks, IsStanza, left_blocks, stanza_blocks}
use Rattle.spec_script.proofs.LongestRuns.{longest_runs-exist, longest_runs-unique}

-- The list meets the condition, and no other list does.
pub record Only (P : List BlockOf → Type 0) (list : List BlockOf) : Type 0 where
  pub meets : P list
  pub only : (blocks : List BlockOf) → P blocks → blocks ≡ list

only_this : (list : List BlockOf) → Only (λ blocks. blocks ≡ list) list
only_this list = record { meets = refl; only = λ blocks same. same }

only_if : (b : Bool) {P Q : List BlockOf → Type 0} {x y : List BlockOf} → Only P x → Only Q y → Only (λ blocks. MatchBool b (P blocks) (Q blocks)) (cond b x y)
only_if true p q = record { meets = p.meets; only = p.only }
only_if false p q = record { meets = q.meets; only = q.only }

only_runs : (lines : List Left) → Only (InRuns lines) (run_blocks lines)
only_runs lines = record {
  meets = record { groups = longest_runs one_block lines; runs = longest_runs-exist one_block lines; made = refl };
  only = λ blocks r. r.made ∙ ap (map group_block) (longest_runs-unique one_block lines r.groups r.runs);
}

only_part : (line : Left) (more : List Left) → Only (IsPart line more) (part_blocks line more)
only_part line [] =
    only_if (is_natural_heading (trimmed line)) (only_this (heading_of line ∷ []))
    (only_if (is_natural_transition line.text) (only_this (text_block kinds.Transition line (trim_all line.text) ∷ []))
    (only_runs (line ∷ [])))
only_part line (next ∷ more) = only_runs (line ∷ next ∷ more)

only_piece : (group : Group Left) → Only (IsPiece group) (piece_blocks group)
only_piece group = only_if (ends_part group.first) (only_this (ending_blocks group.first)) (only_part group.first group.more)

only_pieces : (groups : List (Group Left)) → Only (ArePieces groups) (pieces_blocks groups)
only_pieces [] = only_this []
only_pieces (group ∷ groups) = record {
  meets = (piece_blocks group, pieces_blocks groups, (only_piece group).meets, (only_pieces groups).meets, refl);
  only = λ blocks (here, rest, piece, pieces, made). made ∙ ap₂ (λ a b. a ++ b) ((only_piece group).only here piece) ((only_pieces groups).only rest pieces);
}

only_division : (lines : List Left) → Only (IsDivision lines) (pieces_blocks (longest_runs one_part lines))
only_division lines = record {
  meets = record { pieces = longest_runs one_part lines; runs = longest_runs-exist one_part lines; made = (only_pieces (longest_runs one_part lines)).meets };
  only = λ blocks d. (only_pieces d.pieces).only blocks d.made ∙ ap pieces_blocks (longest_runs-unique one_part lines d.pieces d.runs);
}

only_title : (line : Left) (more : List Left) → Only (IsTitle line more) (title_of line more (longest_runs one_key (line ∷ more)) ∷ [])
only_title line more = record {
  meets = record { keys = longest_runs one_key (line ∷ more); runs = longest_runs-exist one_key (line ∷ more); made = refl };
  only = λ blocks t. t.made ∙ ap (λ keys. title_of line more keys ∷ []) (longest_runs-unique one_key (line ∷ more) t.keys t.runs);
}

only_left : (first : Bool) (lines : List Left) → Only (AreBlocks first lines) (left_blocks first lines)
only_left first [] = only_this []
only_left first (line ∷ more) =
    only_if (first && title_opens line.text) (only_title line more)
    (only_if (is_speech line more) (only_this (speech_of line more ∷ [])) (only_division (line ∷ more)))

-- To each stanza exactly one list of blocks.
pub only-stanza : (first : Bool) (lines : List Cleaned) → Only (IsStanza first lines) (stanza_blocks first lines)
only-stanza first lines = only_left first (left_lines lines)
