-- Where pages end (docs/RULES.md, "Pages").
use Rattle.std.specs.Prelude.{ℕ, ◌+◌, ◌-◌, Bool, true, false, ◌&&◌, ◌||◌, not, ◌==◌, nat_lt, nat_le, if◌then◌else◌, List, length, slice_get, slice_range, sum_by, Option, Some, None}
use Rattle.spec_pages.specs.declared.Paper.{Paper}
use Rattle.spec_pages.specs.declared.Paper.TheVariants.{Letter, A4}
use Rattle.spec_pages.specs.declared.RowKind.{RowKind}
use Rattle.spec_pages.specs.declared.RowKind.TheVariants.{Heading, Action, Cue, Parenthetical, Dialogue, Sung, Lyric, Transition}
use Rattle.spec_pages.specs.declared.Shape.{Shape}
use Rattle.spec_pages.specs.Heights.{Heights, fits, ends, end_of, next_stop, starts_behind, starts_of}

-- The row stands in a speech of its own.
abbrev pub is_speech : RowKind → Bool
is_speech Cue = true
is_speech Parenthetical = true
is_speech Dialogue = true
is_speech Sung = true
is_speech _ = false

abbrev pub is_heading : RowKind → Bool
is_heading Heading = true
is_heading _ = false

abbrev pub is_transition : RowKind → Bool
is_transition Transition = true
is_transition _ = false

abbrev pub is_dialogue : RowKind → Bool
is_dialogue Dialogue = true
is_dialogue _ = false

-- Both rows are of action, or both of a lyric.
abbrev pub are_paragraph : RowKind → RowKind → Bool
are_paragraph Action Action = true
are_paragraph Lyric Lyric = true
are_paragraph _ _ = false

-- A row of a speech after its first.
abbrev pub continues_speech : Shape → Bool
continues_speech row = is_speech row.kind && nat_lt 0 row.index

-- A row behind which its speech goes on.
abbrev pub goes_on : Shape → Bool
goes_on row = is_speech row.kind && nat_lt 0 row.rest

-- The first row of a heading.
abbrev pub begins_heading : Shape → Bool
begins_heading row = is_heading row.kind && (row.index == 0)

-- A page may end between these two rows.
abbrev pub may_part : Shape → Shape → Bool
may_part above below =
    if below.index == 0 then not (is_heading above.kind || is_transition below.kind)
    else (if are_paragraph above.kind below.kind then nat_le 2 below.index && nat_le 1 below.rest
    else (if continues_speech below then is_dialogue above.kind && above.sentence_end && nat_le 3 below.index && nat_le 1 below.rest
    else false))

abbrev pub may_part_at : Option Shape → Option Shape → Bool
may_part_at (Some above) (Some below) = may_part above below
may_part_at _ _ = false

-- A page may end before row q.
abbrev pub is_legal : List Shape → ℕ → Bool
is_legal shapes q = may_part_at (slice_get shapes (q - 1)) (slice_get shapes q)

abbrev pub lead_of : Shape → ℕ
lead_of row = row.lead

-- The row that a speech takes at the top or the bottom of a page where it is cut before this row.
abbrev pub carried : Option Shape → ℕ
carried None = 0
carried (Some row) = if continues_speech row then 1 else 0

-- How many rows a page from row p to before row q has.
abbrev pub height_of : List Shape → ℕ → ℕ → ℕ
height_of shapes p q = (q - p) + sum_by lead_of (slice_range shapes (p + 1) q) + carried (slice_get shapes p) + carried (slice_get shapes q)

-- The rows of a text as pages ask for them.
abbrev pub text_heights : List Shape → Heights
text_heights shapes = record { height = height_of shapes; legal = is_legal shapes }

-- The page from row p to before row q isn't empty and isn't too high, where a page has at most so many rows.
abbrev pub fits_page : ℕ → List Shape → ℕ → ℕ → Bool
fits_page limit shapes p q = fits limit (text_heights shapes) p q

-- The page from row p may end before row q, where it has to end before row stop.
abbrev pub ends_page : ℕ → List Shape → ℕ → ℕ → ℕ → Bool
ends_page limit shapes p stop q = ends limit (text_heights shapes) p stop q

-- The end of the page from row p: the greatest place up to the stop where it may end, else the greatest where it fits.
abbrev pub page_end : ℕ → List Shape → ℕ → ℕ → ℕ
page_end limit shapes p stop = end_of limit (text_heights shapes) p stop

-- The first stop above row p, or the end of the rows.
abbrev pub stop_above : List Shape → List ℕ → ℕ → ℕ
stop_above shapes stops p = next_stop (length shapes) stops p

-- The row after the page from row p.
abbrev pub next_page : ℕ → List Shape → List ℕ → ℕ → ℕ
next_page limit shapes stops p = page_end limit shapes p (stop_above shapes stops p)

-- The page starts from row p on, of at most so many pages.
abbrev pub starts_from : ℕ → List Shape → List ℕ → ℕ → ℕ → List ℕ
starts_from limit shapes stops pages p = starts_behind limit (text_heights shapes) (length shapes) stops pages p

-- The first row of each page.
abbrev pub page_starts : ℕ → List Shape → List ℕ → List ℕ
page_starts limit shapes stops = starts_of limit (text_heights shapes) (length shapes) stops

-- How many body rows a page of the paper has.
abbrev pub rows_on : Paper → ℕ
rows_on Letter = 54
rows_on A4 = 58
