-- Rows of the rules, computed.
use Rattle.std.specs.Prelude.{◌≡◌, true, false, [], ◌∷◌, Some, None, codes, refl}
use Rattle.spec_script.specs.declared.Sort.TheVariants as sorts
use Rattle.spec_script.specs.Boneyards.{yards, scanned}
use Rattle.spec_script.specs.Notes.{noted, notes, note_scanned, sort_without}
use Rattle.spec_script.specs.Spans.{bytes_left}

-- A mark is used up as a whole, so `/*/` closes nothing, and what follows is inside.
slash_star_slash : scanned (codes "/*/") false ≡ record { kept = []; inside = true; sort = sorts.Absent }
slash_star_slash = refl

-- The `*/` after a `/*` that it shares no character with closes it; the one before it is text.
close_before_open : scanned (codes "*//**/a") false ≡ record { kept = (0, 2) ∷ (6, 7) ∷ []; inside = false; sort = sorts.Plain }
close_before_open = refl

open_close : scanned (codes "a/*b*/c") false ≡ record { kept = (0, 1) ∷ (6, 7) ∷ []; inside = false; sort = sorts.Plain }
open_close = refl

star_slash_slash_star : scanned (codes "*//*") false ≡ record { kept = (0, 2) ∷ []; inside = true; sort = sorts.Plain }
star_slash_slash_star = refl

-- After a boneyard the search goes on behind it.
goes_on : scanned (codes "/**/*/a") false ≡ record { kept = (4, 7) ∷ []; inside = false; sort = sorts.Plain }
goes_on = refl

-- A line that begins inside a boneyard and has only spaces left is absent, and is never a held one.
ends_inside : scanned (codes "b */  ") true ≡ record { kept = (4, 6) ∷ []; inside = false; sort = sorts.Absent }
ends_inside = refl

held : scanned (codes "  ") false ≡ record { kept = (0, 2) ∷ []; inside = false; sort = sorts.Held }
held = refl

one_space : scanned (codes " ") false ≡ record { kept = (0, 1) ∷ []; inside = false; sort = sorts.Empty }
one_space = refl

-- A tab is a space, and no line with one is held.
tabbed : scanned (9 ∷ codes "  ") false ≡ record { kept = (0, 3) ∷ []; inside = false; sort = sorts.Empty }
tabbed = refl

nothing : scanned [] false ≡ record { kept = []; inside = false; sort = sorts.Empty }
nothing = refl

-- A line feed stands between the two bytes of a mark, so the lines open no boneyard.
mark_over_lines : yards (codes "a/" ∷ codes "*b" ∷ []) ≡ record { began = false; gone = false ∷ false ∷ [] } ∷ record { began = false; gone = false ∷ false ∷ [] } ∷ []
mark_over_lines = refl

-- The boneyard from the second line to the third: `a`, `/* b`, `c */ d`.
yard_over_lines : yards (codes "a" ∷ codes "/* b" ∷ codes "c */ d" ∷ [])
    ≡ record { began = false; gone = false ∷ [] }
    ∷ record { began = false; gone = true ∷ true ∷ true ∷ true ∷ [] }
    ∷ record { began = true; gone = true ∷ true ∷ true ∷ true ∷ false ∷ false ∷ [] } ∷ []
yard_over_lines = refl

-- Notes.
empty_note : noted false (codes "[[]]") ≡ true ∷ true ∷ true ∷ true ∷ []
empty_note = refl

three_brackets : noted false (codes "[[[]]") ≡ true ∷ true ∷ true ∷ true ∷ true ∷ []
three_brackets = refl

-- The closing mark begins two characters after the opening one, or later.
close_ends_first : noted false (codes "[[]]]") ≡ true ∷ true ∷ true ∷ true ∷ false ∷ []
close_ends_first = refl

-- An unclosed `[[` is literal, and nothing after it is in a note.
unclosed : bytes_left (codes "a [[b") (noted false (codes "a [[b")) ≡ codes "a [[b"
unclosed = refl

closed_then_unclosed : bytes_left (codes "[[a]][[b") (noted false (codes "[[a]][[b")) ≡ codes "[[b"
closed_then_unclosed = refl

-- A note over two lines: `a [[b`, `c]] d`.
note_over_lines : notes (codes "a [[b" ∷ codes "c]] d" ∷ [])
    ≡ (false ∷ false ∷ true ∷ true ∷ true ∷ []) ∷ (true ∷ true ∷ true ∷ false ∷ false ∷ []) ∷ []
note_over_lines = refl

-- The two characters of a mark stand in one line.
mark_over_two_lines : notes (codes "[" ∷ codes "[a]]" ∷ []) ≡ (false ∷ []) ∷ (false ∷ false ∷ false ∷ false ∷ []) ∷ []
mark_over_two_lines = refl

-- The characters of a mark are neighbours in the kept text, so a boneyard may stand between them.
mark_round_yard : note_scanned (codes "[/*x*/[a]]b") ((0, 1) ∷ (6, 11) ∷ []) false
    ≡ record { gone = (0, 1) ∷ (6, 10) ∷ []; inside = false; unclosed = None }
mark_round_yard = refl

-- An opening that the line doesn't close is taken as closed later, and its place in the line is told.
opened_after_yard : note_scanned (codes "/**/a [[b") ((4, 9) ∷ []) false
    ≡ record { gone = (6, 9) ∷ []; inside = true; unclosed = Some 6 }
opened_after_yard = refl

closed_and_opened : note_scanned (codes "c]] d[[") ((0, 7) ∷ []) true
    ≡ record { gone = (0, 3) ∷ (5, 7) ∷ []; inside = true; unclosed = Some 5 }
closed_and_opened = refl

-- A line that lies in a note as a whole leaves the opening to an earlier line.
inside_whole : note_scanned (codes "ab") ((0, 2) ∷ []) true ≡ record { gone = (0, 2) ∷ []; inside = true; unclosed = None }
inside_whole = refl

-- A held line inside a note is absent; one from which no note took a part stays what it is.
held_in_note : sort_without sorts.Held (codes "  ") (true ∷ true ∷ []) ≡ sorts.Absent
held_in_note = refl

held_alone : sort_without sorts.Held (codes "  ") (false ∷ false ∷ []) ≡ sorts.Held
held_alone = refl
