-- Telling pages and what is printed of them (docs/RULES.md, "Sheets").
use Rattle.std.proofs.Common.{◌≡◌, ℕ, zero, suc, ◌+◌, ◌==◌, Bool, true, false, cond, Option, Some, None, List, [], ◌∷◌, ◌++◌, length, map, refl}
use Rattle.std.specs.Prelude.{codes, slice_range}
use Rattle.std.specs.List.{flat_map}
use Rattle.std.specs.Fmt.{digits}
use Rattle.unicode_segmentation.proofs.Computing.{unicode_segmentation}
use Rattle.unicode_width.proofs.Computing.{unicode_width}
use Rattle.spec_text.specs.Lines.{LineState}
use Rattle.spec_pages.specs.declared.RowKind.{RowKind}
use Rattle.spec_pages.specs.declared.RowKind.TheVariants.{Heading, Action, Cue, Parenthetical, Dialogue, Sung, Dual, Lyric, Transition, Centred}
use Rattle.spec_pages.specs.Pages.{page_starts}
use Rattle.spec_pages.specs.Rows.{Cell, Row, ElementOf}
use Rattle.spec_labels.specs.Labels.{LabelOf, plain_label}
use Rattle.spec_sheets.specs.Shown.{Shown, shown_rows, shape_of}
use Rattle.spec_sheets.specs.RowBytes.{spaces, row_line}
use Rattle.spec_sheets.specs.PageRows.{page_body, omitted_rows}
use Rattle.spec_sheets.specs.Rounds.{round_name}
use Rattle.spec_sheets.specs.Sheets.{sheet_bytes}

-- ---- rows of lines

abbrev text_line : List ℕ → LineState
text_line text = record { id = 0; mark = 0; text = text }

-- A cell of a part of a line.
abbrev part_cell : ℕ → ℕ → ℕ → ℕ → Cell
part_cell column line from to = record { column = column; line = line; runs = record { from = from; to = to; style = 0 } ∷ []; fixed = false; number = false }

-- A row with a place among the rows of its element. The first one has a lead.
abbrev row_of : RowKind → ℕ → ℕ → ℕ → List Cell → Row
row_of kind line index rest cells = record {
  line = line;
  row = 0;
  mark = 0;
  shape = record { lead = cond (index == 0) 1 0; kind = kind; index = index; rest = rest; sentence_end = true };
  cells = cells;
}

-- The bytes of rows of a page.
abbrev page_bytes : List Shown → List ℕ
page_bytes rows = flat_map row_line (page_body 0 rows)

-- ---- sheets of one row

abbrev one_row : ℕ → ℕ → ℕ → List ElementOf
one_row mark from to = record { first = 0; rows = record (row_of Action 0 0 0 (part_cell 15 0 from to ∷ [])) { mark = mark } ∷ [] } ∷ []

-- The sheet of one row, with this round and label.
abbrev one_sheet_of : LabelOf → ℕ → List ℕ → List ElementOf → List ℕ
one_sheet_of label round text elements = sheet_bytes (record {
  label = Some (record { first = label; last = label });
  round = round;
  rows = page_body round (shown_rows (text_line text ∷ []) None elements);
})

-- The sheet of one row has 100 bytes; a tab is written as four spaces.
pub one_sheet : one_sheet_of (plain_label 1) 0 (codes "!Hello.") (one_row 0 1 7) ≡ spaces 73 ++ codes "1.\n\n" ++ spaces 15 ++ codes "Hello.\n" ++ 12 ∷ []
unfolding digits
one_sheet = refl

pub tab_sheet : one_sheet_of (plain_label 1) 0 (codes "!\tx") (one_row 0 1 3) ≡ spaces 73 ++ codes "1.\n\n" ++ spaces 19 ++ codes "x\n" ++ 12 ∷ []
unfolding digits
tab_sheet = refl

-- A row that the first round changed has a star, and the round's name stands in the header.
pub blue_sheet : one_sheet_of (record { number = 2; path = 0 ∷ 1 ∷ [] }) 1 (codes "!e") (one_row 1 1 2)
    ≡ spaces 15 ++ codes "Blue" ++ spaces 52 ++ codes "2.A.\n\n" ++ spaces 15 ++ codes "e" ++ spaces 64 ++ codes "*\n" ++ 12 ∷ []
unfolding digits unicode_segmentation unicode_width
blue_sheet = refl

-- A sheet for omitted pages.
pub omitted_sheet : sheet_bytes (record { label = Some (record { first = plain_label 2; last = plain_label 3 }); round = 0; rows = omitted_rows })
    ≡ spaces 71 ++ codes "2-3.\n\n" ++ spaces 15 ++ codes "OMITTED\n" ++ 12 ∷ []
unfolding digits
omitted_sheet = refl

-- The last round.
pub last_round : round_name 99 ≡ codes "11th Tan"
unfolding digits
last_round = refl

-- ---- scene labels

-- A heading with a written number. A label stands in its place, known by the cell and not by its column.
abbrev heading : ElementOf
heading = record {
  first = 0;
  rows = row_of Heading 0 0 0 (record (part_cell 7 0 4 5) { number = true } ∷ part_cell 76 0 1 2 ∷ record (part_cell 76 0 4 5) { number = true } ∷ []) ∷ [];
}

abbrev two_headings : Option (List LabelOf) → List ℕ
two_headings labels = page_bytes (shown_rows (text_line (codes ".A #9#") ∷ []) labels (heading ∷ heading ∷ []))

pub written_numbers : two_headings None ≡ spaces 7 ++ codes "9" ++ spaces 68 ++ codes "A 9\n\n" ++ spaces 7 ++ codes "9" ++ spaces 68 ++ codes "A 9\n"
unfolding unicode_segmentation unicode_width
written_numbers = refl

pub own_labels : two_headings (Some (plain_label 1 ∷ record { number = 1; path = 1 ∷ [] } ∷ []))
    ≡ spaces 7 ++ codes "1" ++ spaces 68 ++ codes "A 1\n\n" ++ spaces 7 ++ codes "1A" ++ spaces 67 ++ codes "A 1A\n"
unfolding digits unicode_segmentation unicode_width
own_labels = refl

-- ---- a speech over two pages

-- Rows of dialogue that end a sentence.
abbrev said_rows : ℕ → ℕ → List Row
said_rows index zero = []
said_rows index (suc rest) = row_of Dialogue 1 index rest (part_cell 25 1 0 4 ∷ []) ∷ said_rows (index + 1) rest

abbrev action_rows : ℕ → ℕ → List Row
action_rows index zero = []
action_rows index (suc rest) = row_of Action 0 index rest (part_cell 15 0 1 2 ∷ []) ∷ action_rows (index + 1) rest

-- Forty-five rows of action and a speech of twelve rows: the page ends behind six of them, and says so; the next one says who goes on.
abbrev cut_speech : List Shown
cut_speech = shown_rows (map text_line (codes "!a" ∷ codes "BOB" ∷ codes "One." ∷ [])) None
    (record { first = 0; rows = action_rows 0 45 } ∷ record { first = 1; rows = row_of Cue 0 0 12 (part_cell 37 0 0 3 ∷ []) ∷ said_rows 1 12 } ∷ [])

pub cut_pages : page_starts 54 (map shape_of cut_speech) [] ≡ 0 ∷ 52 ∷ []
cut_pages = refl

abbrev said_line : List ℕ
said_line = spaces 25 ++ codes "One.\n"

pub first_rows : flat_map row_line (slice_range (page_body 0 (slice_range cut_speech 0 52)) 44 54)
    ≡ spaces 15 ++ codes "a\n\n" ++ spaces 37 ++ codes "BOB\n" ++ said_line ++ said_line ++ said_line ++ said_line ++ said_line ++ said_line ++ spaces 37 ++ codes "(MORE)\n"
first_rows = refl

pub first_size : length (page_body 0 (slice_range cut_speech 0 52)) ≡ 54
first_size = refl

pub second_rows : page_bytes (slice_range cut_speech 52 58) ≡ spaces 37 ++ codes "BOB (CONT'D)\n" ++ said_line ++ said_line ++ said_line ++ said_line ++ said_line ++ said_line
unfolding unicode_segmentation unicode_width
second_rows = refl

-- ---- pages that end inside an element

-- An element of two rows: their kinds and texts, whether `(CONT'D)` stands behind the first, what is printed of them, and what stands below and
-- above a page that ends between them.
record Case : Type 0 where
  first : RowKind
  second : RowKind
  one : List ℕ
  two : List ℕ
  fixed : Bool
  printed : List ℕ
  below : List ℕ
  above : List ℕ

abbrev more_line : List ℕ
more_line = spaces 37 ++ codes "(MORE)\n"

abbrev quiet_case : RowKind → Case
quiet_case kind = record { first = kind; second = kind; one = codes "One"; two = codes "two"; fixed = false; printed = codes "One"; below = []; above = [] }

abbrev speech_case : RowKind → List ℕ → List ℕ → List ℕ → Case
speech_case kind cue text above =
    record { first = Cue; second = kind; one = cue; two = text; fixed = false; printed = cue; below = more_line; above = spaces 15 ++ above ++ codes "\n" }

-- A speech whose speaker goes on.
abbrev continued_case : RowKind → List ℕ → List ℕ → Case
continued_case kind cue text =
    record {
      first = Cue;
      second = kind;
      one = cue;
      two = text;
      fixed = true;
      printed = cue ++ codes " (CONT'D)";
      below = more_line;
      above = spaces 15 ++ cue ++ codes " (CONT'D)\n";
    }

-- A cue may stand alone, and take two rows.
abbrev cases : List Case
cases =
    quiet_case Heading ∷ quiet_case Action ∷ quiet_case Dual ∷ quiet_case Lyric ∷ quiet_case Transition ∷ quiet_case Centred
    ∷ speech_case Dialogue (codes "BOB") (codes "Hi.") (codes "BOB (CONT'D)")
    ∷ speech_case Parenthetical (codes "BOB") (codes "(low)") (codes "BOB (CONT'D)")
    ∷ speech_case Sung (codes "BOB") (codes "La") (codes "BOB (CONT'D)")
    ∷ speech_case Dialogue (codes "BOB (CONT'D)") (codes "Hi.") (codes "BOB (CONT'D)")
    ∷ speech_case Cue (codes "OLD") (codes "BOB") (codes "OLD (CONT'D)")
    ∷ speech_case Cue (codes "OLD") (codes "BOB (CONT'D)") (codes "OLD")
    ∷ continued_case Dialogue (codes "BOB") (codes "Hi.")
    ∷ continued_case Cue (codes "OLD") (codes "BOB")
    ∷ []

abbrev case_lines : Case → List LineState
case_lines it = text_line it.one ∷ text_line it.two ∷ []

abbrev continued_cells : Case → List Cell
continued_cells it = cond it.fixed (record { column = 15 + length it.one + 1; line = 0; runs = []; fixed = true; number = false } ∷ []) []

abbrev case_element : ℕ → Case → ElementOf
case_element first it = record {
  first = first;
  rows = row_of it.first 0 0 1 (part_cell 15 0 0 (length it.one) ∷ continued_cells it) ∷ row_of it.second 1 1 0 (part_cell 15 1 0 (length it.two) ∷ []) ∷ [];
}

-- An element and one behind it, and the pages that end inside each of them.
abbrev two_elements : Case → Case → List Shown
two_elements a b = shown_rows (case_lines a ++ case_lines b) None (case_element 0 a ∷ case_element 2 b ∷ [])

abbrev pages_of : Case → Case → List (List ℕ)
pages_of a b = let rows = two_elements a b in page_bytes (slice_range rows 0 1) ∷ page_bytes (slice_range rows 1 3) ∷ page_bytes (slice_range rows 3 4) ∷ []

abbrev told_pages : Case → Case → List (List ℕ)
told_pages a b =
    (spaces 15 ++ a.printed ++ codes "\n" ++ a.below)
    ∷ (a.above ++ spaces 15 ++ a.two ++ codes "\n\n" ++ spaces 15 ++ b.printed ++ codes "\n" ++ b.below)
    ∷ (b.above ++ spaces 15 ++ b.two ++ codes "\n")
    ∷ []

-- Each element is printed the same, whatever stands before it and behind it.
pub cut_inside : map (λ a. map (pages_of a) cases) cases ≡ map (λ a. map (told_pages a) cases) cases
unfolding unicode_segmentation unicode_width
cut_inside = refl
