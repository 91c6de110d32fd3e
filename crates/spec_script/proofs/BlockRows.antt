-- Rows of the rules on blocks, computed.
use Rattle.std.specs.Prelude.{◌≡◌, ℕ, Bool, true, false, List, [], ◌∷◌, ◌++◌, ◌+◌, map, flat_map, slice_range, slice_index_or, codes, refl}
use Rattle.std.specs.Str.{chars}
use Rattle.ucd_derived.specs.Binary.{is_lowercase, is_alphabetic}
use Rattle.ucd_derived.specs.LowercaseRanges.{lowercase_ranges}
use Rattle.ucd_derived.specs.AlphabeticRanges.{alphabetic_ranges}
use Rattle.ucd_table.specs.Rows.{in_ranges, value_in}
use Rattle.ucd_category.specs.GeneralCategory.{general_category}
use Rattle.ucd_category.specs.GeneralCategoryRows.{general_category_rows}
use Rattle.spec_script.specs.declared.Run.{Run}
use Rattle.spec_script.specs.declared.Kind.{Kind}
use Rattle.spec_script.specs.declared.Kind.TheVariants.{Heading, Action, Speech, Lyric, Transition, Centred, PageBreak, Section, Synopsis, Title}
use Rattle.spec_script.specs.declared.Part.{Part}
use Rattle.spec_script.specs.declared.Part.TheVariants as parts
use Rattle.spec_script.specs.BlockValues.{LineOf, BlockOf, StanzaOf}
use Rattle.spec_script.specs.Stanzas.{PlacedBlock, stanza_at, blocks_of}

-- A block as a reader sees it: its kind, the places of its first and last line in the text, and the texts of its lines.
record Seen : Type 0 where
  kind : Kind
  first : ℕ
  last : ℕ
  texts : List (List ℕ)

abbrev seen_line : List (List ℕ) → ℕ → LineOf → List ℕ
seen_line lines first line =
    flat_map (λ (run : Run). slice_range (slice_index_or lines (first + line.offset) []) run.from run.to) line.runs

abbrev seen_block : List (List ℕ) → PlacedBlock → Seen
seen_block lines placed = record {
  kind = placed.block.kind;
  first = placed.first + placed.block.first;
  last = placed.first + placed.block.last;
  texts = map (seen_line lines placed.first) placed.block.lines;
}

abbrev seen : List (List ℕ) → List Seen
seen lines = map (seen_block lines) (blocks_of lines)

abbrev block : Kind → ℕ → ℕ → List (List ℕ) → Seen
block kind first last texts = record { kind = kind; first = first; last = last; texts = texts }

-- A name before an empty line is action: no line is left after it.
name_alone : seen (codes "BOB" ∷ [] ∷ codes "Hi." ∷ [])
    ≡ block Action 0 0 (codes "BOB" ∷ [])
    ∷ block Action 2 2 (codes "Hi." ∷ [])
    ∷ []
unfolding chars is_lowercase in_ranges lowercase_ranges is_alphabetic alphabetic_ranges general_category value_in general_category_rows
name_alone = refl

-- A held line counts as the line that a cue needs after it.
name_held : seen (codes "BOB" ∷ codes "  " ∷ [])
    ≡ block Speech 0 1 (codes "BOB" ∷ [] ∷ [])
    ∷ []
unfolding chars is_lowercase in_ranges lowercase_ranges is_alphabetic alphabetic_ranges general_category value_in general_category_rows
name_held = refl

-- Digits may stand in a name, and alone they are none.
letters_and_digits : seen (codes "R2D2" ∷ codes "Beep." ∷ [] ∷ codes "23" ∷ codes "Beep." ∷ [])
    ≡ block Speech 0 1 (codes "R2D2" ∷ codes "Beep." ∷ [])
    ∷ block Action 3 4 (codes "23" ∷ codes "Beep." ∷ [])
    ∷ []
unfolding chars is_lowercase in_ranges lowercase_ranges is_alphabetic alphabetic_ranges general_category value_in general_category_rows
letters_and_digits = refl

-- A heading is forced by `.` and an alphanumeric alone.
dots : seen (codes "...and then" ∷ [] ∷ codes ".and then" ∷ [])
    ≡ block Action 0 0 (codes "...and then" ∷ [])
    ∷ block Heading 2 2 (codes "and then" ∷ [])
    ∷ []
unfolding chars is_lowercase in_ranges lowercase_ranges is_alphabetic alphabetic_ranges general_category value_in general_category_rows
dots = refl

-- `!` and `.` come before the natural transition.
forced_transitions : seen (codes "!CUT TO:" ∷ [] ∷ codes ".CUT TO:" ∷ [])
    ≡ block Action 0 0 (codes "CUT TO:" ∷ [])
    ∷ block Heading 2 2 (codes "CUT TO:" ∷ [])
    ∷ []
unfolding chars is_lowercase in_ranges lowercase_ranges is_alphabetic alphabetic_ranges general_category value_in general_category_rows
forced_transitions = refl

-- A space after the colon makes the line no transition.
transition_space : seen (codes "CUT TO: " ∷ [])
    ≡ block Action 0 0 (codes "CUT TO:" ∷ [])
    ∷ []
unfolding chars is_lowercase in_ranges lowercase_ranges is_alphabetic alphabetic_ranges general_category value_in general_category_rows
transition_space = refl

-- A note closes in its stanza or is literal.
open_note : seen (codes "a [[b" ∷ [] ∷ codes "c]] d" ∷ [])
    ≡ block Action 0 0 (codes "a [[b" ∷ [])
    ∷ block Action 2 2 (codes "c]] d" ∷ [])
    ∷ []
unfolding chars is_lowercase in_ranges lowercase_ranges is_alphabetic alphabetic_ranges general_category value_in general_category_rows
open_note = refl

-- Action keeps the spaces at its beginning.
closed_note : seen (codes "a [[b" ∷ codes "c]] d" ∷ [])
    ≡ block Action 0 1 (codes "a" ∷ codes " d" ∷ [])
    ∷ []
unfolding chars is_lowercase in_ranges lowercase_ranges is_alphabetic alphabetic_ranges general_category value_in general_category_rows
closed_note = refl

-- A line of a boneyard alone is absent.
yard_line : seen (codes "a" ∷ codes "/* b" ∷ codes "c */ d" ∷ [])
    ≡ block Action 0 2 (codes "a" ∷ codes " d" ∷ [])
    ∷ []
unfolding chars is_lowercase in_ranges lowercase_ranges is_alphabetic alphabetic_ranges general_category value_in general_category_rows
yard_line = refl

-- A page break ends a part, and has no line.
break_between : seen (codes "!a" ∷ codes "===" ∷ codes "!b" ∷ [])
    ≡ block Action 0 0 (codes "a" ∷ [])
    ∷ block PageBreak 1 1 ([])
    ∷ block Action 2 2 (codes "b" ∷ [])
    ∷ []
unfolding chars is_lowercase in_ranges lowercase_ranges is_alphabetic alphabetic_ranges general_category value_in general_category_rows
break_between = refl

-- A line alone that is a natural heading and a natural transition at once is a heading.
heading_and_transition : seen (codes "INT. CUT TO:" ∷ [])
    ≡ block Heading 0 0 (codes "INT. CUT TO:" ∷ [])
    ∷ []
unfolding chars is_lowercase in_ranges lowercase_ranges is_alphabetic alphabetic_ranges general_category value_in general_category_rows
heading_and_transition = refl

-- `=` alone is a synopsis with an empty text, `==` is action.
bare_equals : seen (codes "=" ∷ codes "==" ∷ [])
    ≡ block Synopsis 0 0 ([] ∷ [])
    ∷ block Action 1 1 (codes "==" ∷ [])
    ∷ []
unfolding chars is_lowercase in_ranges lowercase_ranges is_alphabetic alphabetic_ranges general_category value_in general_category_rows
bare_equals = refl

-- `@` doesn't exclude a natural transition, where the line is a part of its own.
at_transition : seen (codes "= x" ∷ codes "@CUT TO:" ∷ [])
    ≡ block Synopsis 0 0 (codes "x" ∷ [])
    ∷ block Transition 1 1 (codes "@CUT TO:" ∷ [])
    ∷ []
unfolding chars is_lowercase in_ranges lowercase_ranges is_alphabetic alphabetic_ranges general_category value_in general_category_rows
at_transition = refl

-- Directly before another line `CUT TO:` is a natural cue.
transition_then_line : seen (codes "CUT TO:" ∷ codes "x" ∷ [])
    ≡ block Speech 0 1 (codes "CUT TO:" ∷ codes "x" ∷ [])
    ∷ []
unfolding chars is_lowercase in_ranges lowercase_ranges is_alphabetic alphabetic_ranges general_category value_in general_category_rows
transition_then_line = refl

-- The text of a natural transition is trimmed.
transition_trimmed : seen (codes "  CUT TO:" ∷ [])
    ≡ block Transition 0 0 (codes "CUT TO:" ∷ [])
    ∷ []
unfolding chars is_lowercase in_ranges lowercase_ranges is_alphabetic alphabetic_ranges general_category value_in general_category_rows
transition_trimmed = refl

-- The text of a held line in a speech is empty.
held_in_speech : seen (codes "BOB" ∷ codes "Hi." ∷ codes "   " ∷ codes "Ho." ∷ [])
    ≡ block Speech 0 3 (codes "BOB" ∷ codes "Hi." ∷ [] ∷ codes "Ho." ∷ [])
    ∷ []
unfolding chars is_lowercase in_ranges lowercase_ranges is_alphabetic alphabetic_ranges general_category value_in general_category_rows
held_in_speech = refl

-- Held lines at the start of a stanza are passed over.
held_at_start : seen (codes "   " ∷ codes "BOB" ∷ codes "Hi." ∷ [])
    ≡ block Speech 1 2 (codes "BOB" ∷ codes "Hi." ∷ [])
    ∷ []
unfolding chars is_lowercase in_ranges lowercase_ranges is_alphabetic alphabetic_ranges general_category value_in general_category_rows
held_at_start = refl

-- A held line ends a part, and is no block.
held_between : seen (codes "a" ∷ codes "b" ∷ codes "  " ∷ codes "c" ∷ [])
    ≡ block Action 0 1 (codes "a" ∷ codes "b" ∷ [])
    ∷ block Action 3 3 (codes "c" ∷ [])
    ∷ []
unfolding chars is_lowercase in_ranges lowercase_ranges is_alphabetic alphabetic_ranges general_category value_in general_category_rows
held_between = refl

-- Lines of a part, each by the first form that fits.
all_kinds : seen (codes ".one" ∷ codes "!two" ∷ codes "three" ∷ codes "> four <" ∷ codes "> five" ∷ codes "~six" ∷ codes "~ seven" ∷ codes "><" ∷ codes ">" ∷ [])
    ≡ block Heading 0 0 (codes "one" ∷ [])
    ∷ block Action 1 2 (codes "two" ∷ codes "three" ∷ [])
    ∷ block Centred 3 3 (codes "four" ∷ [])
    ∷ block Transition 4 4 (codes "five" ∷ [])
    ∷ block Lyric 5 6 (codes "six" ∷ codes "seven" ∷ [])
    ∷ block Centred 7 7 ([] ∷ [])
    ∷ block Transition 8 8 ([] ∷ [])
    ∷ []
unfolding chars is_lowercase in_ranges lowercase_ranges is_alphabetic alphabetic_ranges general_category value_in general_category_rows
all_kinds = refl

-- Each heading and each transition is a block.
two_transitions : seen (codes ">a" ∷ codes ">b" ∷ codes ".c" ∷ codes ".d" ∷ [])
    ≡ block Transition 0 0 (codes "a" ∷ [])
    ∷ block Transition 1 1 (codes "b" ∷ [])
    ∷ block Heading 2 2 (codes "c" ∷ [])
    ∷ block Heading 3 3 (codes "d" ∷ [])
    ∷ []
unfolding chars is_lowercase in_ranges lowercase_ranges is_alphabetic alphabetic_ranges general_category value_in general_category_rows
two_transitions = refl

-- Sections, synopses and page breaks need no empty lines around them.
sections : seen (codes "# A" ∷ codes "INT. X" ∷ codes "===" ∷ codes "a" ∷ codes "b" ∷ codes "## B" ∷ [])
    ≡ block Section 0 0 (codes "A" ∷ [])
    ∷ block Heading 1 1 (codes "INT. X" ∷ [])
    ∷ block PageBreak 2 2 ([])
    ∷ block Action 3 4 (codes "a" ∷ codes "b" ∷ [])
    ∷ block Section 5 5 (codes "B" ∷ [])
    ∷ []
unfolding chars is_lowercase in_ranges lowercase_ranges is_alphabetic alphabetic_ranges general_category value_in general_category_rows
sections = refl

-- Four `=` break the page too.
many_equals : seen (codes "====" ∷ [])
    ≡ block PageBreak 0 0 ([])
    ∷ []
unfolding chars is_lowercase in_ranges lowercase_ranges is_alphabetic alphabetic_ranges general_category value_in general_category_rows
many_equals = refl

-- A cue loses one `^` at its end, a forced one its `@`.
caret_cue : seen (codes "BOB ^" ∷ codes "x" ∷ [] ∷ codes "@bob^^" ∷ [])
    ≡ block Speech 0 1 (codes "BOB" ∷ codes "x" ∷ [])
    ∷ block Speech 3 3 (codes "bob^" ∷ [])
    ∷ []
unfolding chars is_lowercase in_ranges lowercase_ranges is_alphabetic alphabetic_ranges general_category value_in general_category_rows
caret_cue = refl

-- What stands in brackets is no part of a cue's name.
cue_marks : seen (codes "BOB (o.s.)" ∷ codes "x" ∷ [] ∷ codes "bob (O.S.)" ∷ codes "x" ∷ [])
    ≡ block Speech 0 1 (codes "BOB (o.s.)" ∷ codes "x" ∷ [])
    ∷ block Action 3 4 (codes "bob (O.S.)" ∷ codes "x" ∷ [])
    ∷ []
unfolding chars is_lowercase in_ranges lowercase_ranges is_alphabetic alphabetic_ranges general_category value_in general_category_rows
cue_marks = refl

-- Brackets stay, `~` goes.
speech_parts : seen (codes "BOB" ∷ codes " (softly) " ∷ codes "~la " ∷ codes "(a) b" ∷ [])
    ≡ block Speech 0 3 (codes "BOB" ∷ codes "(softly)" ∷ codes "la" ∷ codes "(a) b" ∷ [])
    ∷ []
unfolding chars is_lowercase in_ranges lowercase_ranges is_alphabetic alphabetic_ranges general_category value_in general_category_rows
speech_parts = refl

-- `@` alone is action.
lone_at : seen (codes "@" ∷ [])
    ≡ block Action 0 0 (codes "@" ∷ [])
    ∷ []
unfolding chars is_lowercase in_ranges lowercase_ranges is_alphabetic alphabetic_ranges general_category value_in general_category_rows
lone_at = refl

-- A word of a heading wants `.` or U+0020 behind it.
heading_mark : seen (codes "int. a" ∷ [] ∷ codes "INTX" ∷ [] ∷ codes "I/E x" ∷ [] ∷ codes "est x" ∷ [])
    ≡ block Heading 0 0 (codes "int. a" ∷ [])
    ∷ block Action 2 2 (codes "INTX" ∷ [])
    ∷ block Heading 4 4 (codes "I/E x" ∷ [])
    ∷ block Heading 6 6 (codes "est x" ∷ [])
    ∷ []
unfolding chars is_lowercase in_ranges lowercase_ranges is_alphabetic alphabetic_ranges general_category value_in general_category_rows
heading_mark = refl

-- A line of a note alone is absent, also where a boneyard stands beside it.
note_line : seen (codes "a" ∷ codes "[[b]]" ∷ codes "/*c*/ [[d]]" ∷ codes "e" ∷ [])
    ≡ block Action 0 3 (codes "a" ∷ codes "e" ∷ [])
    ∷ []
unfolding chars is_lowercase in_ranges lowercase_ranges is_alphabetic alphabetic_ranges general_category value_in general_category_rows
note_line = refl

-- A held line inside a note is absent.
held_note : seen (codes "a [[b" ∷ codes "  " ∷ codes "c]]" ∷ codes "d" ∷ [])
    ≡ block Action 0 3 (codes "a" ∷ codes "d" ∷ [])
    ∷ []
unfolding chars is_lowercase in_ranges lowercase_ranges is_alphabetic alphabetic_ranges general_category value_in general_category_rows
held_note = refl

-- The characters of a mark are neighbours in the kept text.
mark_over_span : seen (codes "a[/*x*/[b]]c" ∷ [])
    ≡ block Action 0 0 (codes "ac" ∷ [])
    ∷ []
unfolding chars is_lowercase in_ranges lowercase_ranges is_alphabetic alphabetic_ranges general_category value_in general_category_rows
mark_over_span = refl

-- A boneyard reaches over empty lines, which are absent in it.
yard_over_stanzas : seen (codes "a /*" ∷ [] ∷ codes "*/ b" ∷ [])
    ≡ block Action 0 2 (codes "a" ∷ codes " b" ∷ [])
    ∷ []
unfolding chars is_lowercase in_ranges lowercase_ranges is_alphabetic alphabetic_ranges general_category value_in general_category_rows
yard_over_stanzas = refl

-- The first colon counts: at the beginning it makes no key. What stands before it is the key, untrimmed.
title_keys : seen (codes "Title: x" ∷ codes "Title : y" ∷ codes ":a:b" ∷ codes " Title: z" ∷ [])
    ≡ block Title 0 3 (codes "x" ∷ codes "y" ∷ codes ":a:b" ∷ codes "z" ∷ [])
    ∷ []
unfolding chars is_lowercase in_ranges lowercase_ranges is_alphabetic alphabetic_ranges general_category value_in general_category_rows
title_keys = refl

-- A held line at the end of a title page counts, one at its start does not.
title_held : seen (codes "  " ∷ codes "Title: x" ∷ codes "  " ∷ [])
    ≡ block Title 1 2 (codes "x" ∷ [])
    ∷ []
unfolding chars is_lowercase in_ranges lowercase_ranges is_alphabetic alphabetic_ranges general_category value_in general_category_rows
title_held = refl

-- A key has several values, or none.
title_values : seen (codes "Title: x" ∷ codes "Author:" ∷ codes "   A" ∷ (9 ∷ [] ++ codes "B") ∷ codes "Draft date: today" ∷ [])
    ≡ block Title 0 4 (codes "x" ∷ codes "A" ∷ codes "B" ∷ codes "today" ∷ [])
    ∷ []
unfolding chars is_lowercase in_ranges lowercase_ranges is_alphabetic alphabetic_ranges general_category value_in general_category_rows
title_values = refl

-- Only the first stanza is a title page.
title_later : seen (codes "a" ∷ [] ∷ codes "Title: x" ∷ [])
    ≡ block Action 0 0 (codes "a" ∷ [])
    ∷ block Action 2 2 (codes "Title: x" ∷ [])
    ∷ []
unfolding chars is_lowercase in_ranges lowercase_ranges is_alphabetic alphabetic_ranges general_category value_in general_category_rows
title_later = refl

-- A first line with another key is none.
no_title : seen (codes "FADE IN:" ∷ [])
    ≡ block Action 0 0 (codes "FADE IN:" ∷ [])
    ∷ []
unfolding chars is_lowercase in_ranges lowercase_ranges is_alphabetic alphabetic_ranges general_category value_in general_category_rows
no_title = refl

-- A written number and its marks are cut off.
number_cut : seen (codes "INT. A #1-a.B#" ∷ [] ∷ codes ".A#2#" ∷ [] ∷ codes "INT. A ##" ∷ [] ∷ codes "INT. A #1" ∷ [] ∷ codes "INT. A #a b#" ∷ [])
    ≡ block Heading 0 0 (codes "INT. A" ∷ [])
    ∷ block Heading 2 2 (codes "A" ∷ [])
    ∷ block Heading 4 4 (codes "INT. A ##" ∷ [])
    ∷ block Heading 6 6 (codes "INT. A #1" ∷ [])
    ∷ block Heading 8 8 (codes "INT. A #a b#" ∷ [])
    ∷ []
unfolding chars is_lowercase in_ranges lowercase_ranges is_alphabetic alphabetic_ranges general_category value_in general_category_rows
number_cut = refl

-- A section may have no text.
empty_section : seen (codes "###" ∷ [])
    ≡ block Section 0 0 ([] ∷ [])
    ∷ []
unfolding chars is_lowercase in_ranges lowercase_ranges is_alphabetic alphabetic_ranges general_category value_in general_category_rows
empty_section = refl

-- Forced action keeps the spaces behind its mark.
forced_action : seen (codes "  !  a " ∷ codes "b " ∷ [])
    ≡ block Action 0 1 (codes "  a" ∷ codes "b" ∷ [])
    ∷ []
unfolding chars is_lowercase in_ranges lowercase_ranges is_alphabetic alphabetic_ranges general_category value_in general_category_rows
forced_action = refl

-- A script from its title page to its last scene.
whole_script : seen (codes "Title: The Lamp" ∷ codes "Author: A. Writer" ∷ [] ∷ codes "FADE IN:" ∷ [] ∷ codes "INT. KITCHEN - DAY #1#" ∷ [] ∷ codes "ANNA (30) lights a lamp. [[check prop]]" ∷ [] ∷ codes "ANNA" ∷ codes "(softly)" ∷ codes "It is late." ∷ [] ∷ codes "BERT" ∷ codes "Go." ∷ [] ∷ codes "ANNA ^" ∷ codes "Stay." ∷ [] ∷ codes "~La la la" ∷ [] ∷ codes "> CUT TO:" ∷ [] ∷ codes "= Anna leaves." ∷ [] ∷ codes "EXT. STREET - NIGHT" ∷ [])
    ≡ block Title 0 1 (codes "The Lamp" ∷ codes "A. Writer" ∷ [])
    ∷ block Action 3 3 (codes "FADE IN:" ∷ [])
    ∷ block Heading 5 5 (codes "INT. KITCHEN - DAY" ∷ [])
    ∷ block Action 7 7 (codes "ANNA (30) lights a lamp." ∷ [])
    ∷ block Speech 9 11 (codes "ANNA" ∷ codes "(softly)" ∷ codes "It is late." ∷ [])
    ∷ block Speech 13 14 (codes "BERT" ∷ codes "Go." ∷ [])
    ∷ block Speech 16 17 (codes "ANNA" ∷ codes "Stay." ∷ [])
    ∷ block Lyric 19 19 (codes "La la la" ∷ [])
    ∷ block Transition 21 21 (codes "CUT TO:" ∷ [])
    ∷ block Synopsis 23 23 (codes "Anna leaves." ∷ [])
    ∷ block Heading 25 25 (codes "EXT. STREET - NIGHT" ∷ [])
    ∷ []
unfolding chars is_lowercase in_ranges lowercase_ranges is_alphabetic alphabetic_ranges general_category value_in general_category_rows
whole_script = refl

-- Emphasis doesn't apply to sections and synopses.
marks_stay : seen (codes "# *A*" ∷ codes "= _b_ **c**" ∷ codes "*d* _e_" ∷ [])
    ≡ block Section 0 0 (codes "*A*" ∷ [])
    ∷ block Synopsis 1 1 (codes "_b_ **c**" ∷ [])
    ∷ block Action 2 2 (codes "d e" ∷ [])
    ∷ []
unfolding chars is_lowercase in_ranges lowercase_ranges is_alphabetic alphabetic_ranges general_category value_in general_category_rows
marks_stay = refl

-- A mark in a title page's key doesn't pair with one in its value, which is read as a line of its own.
mark_in_key : seen (codes "Title: x" ∷ codes "K*y: a*b" ∷ [])
    ≡ block Title 0 1 (codes "x" ∷ codes "a*b" ∷ [])
    ∷ []
unfolding chars is_lowercase in_ranges lowercase_ranges is_alphabetic alphabetic_ranges general_category value_in general_category_rows
mark_in_key = refl

-- Whole blocks, with the places of what is visible of their lines.

abbrev run : ℕ → ℕ → ℕ → Run
run from to style = record { from = from; to = to; style = style }

abbrev line : ℕ → Part → Bool → List Run → LineOf
line offset part opens runs = record { offset = offset; part = part; opens = opens; runs = runs }

abbrev made : Kind → ℕ → ℕ → List LineOf → BlockOf
made kind first last lines =
    record { kind = kind; first = first; last = last; depth = 0; caret = false; number = []; lines = lines }

abbrev stanza : ℕ → List BlockOf → StanzaOf
stanza lines blocks = record { lines = lines; blocks = blocks }

-- A speech with each of its parts, and the empty line behind it.
whole_speech : stanza_at (codes "x" ∷ [] ∷ codes "@*Bob* ^" ∷ codes "(a)" ∷ codes "  " ∷ codes "/*y*/~la" ∷ codes "Hi _you_. " ∷ [] ∷ codes "z" ∷ []) 2
    ≡ stanza 6 (record (made Speech 0 4
    (line 0 parts.Cue false (run 2 5 1 ∷ [])
    ∷ line 1 parts.Parenthetical false (run 0 3 0 ∷ [])
    ∷ line 2 parts.Held false []
    ∷ line 3 parts.Sung false (run 6 8 0 ∷ [])
    ∷ line 4 parts.Dialogue false (run 0 3 0 ∷ run 4 7 4 ∷ run 8 9 0 ∷ [])
    ∷ [])) { caret = true } ∷ [])
unfolding chars is_lowercase in_ranges lowercase_ranges is_alphabetic alphabetic_ranges general_category value_in general_category_rows
whole_speech = refl

-- A written number may have a boneyard in it, and then has two parts.
whole_heading : stanza_at (codes ".A *b* #1/*x*/2# " ∷ []) 0
    ≡ stanza 1 (record (made Heading 0 0 (line 0 parts.Text false (run 1 3 0 ∷ run 4 5 1 ∷ []) ∷ [])) {
      number = (8, 9) ∷ (14, 15) ∷ [];
    } ∷ [])
unfolding chars is_lowercase in_ranges lowercase_ranges is_alphabetic alphabetic_ranges general_category value_in general_category_rows
whole_heading = refl

-- A section's depth, and its text without its marks.
whole_section : stanza_at (codes "a" ∷ codes " ## [[n]]B " ∷ []) 0
    ≡ stanza 2 (made Action 0 0 (line 0 parts.Text false (run 0 1 0 ∷ []) ∷ [])
    ∷ record (made Section 1 1 (line 1 parts.Text false (run 9 10 0 ∷ []) ∷ [])) { depth = 2 }
    ∷ [])
unfolding chars is_lowercase in_ranges lowercase_ranges is_alphabetic alphabetic_ranges general_category value_in general_category_rows
whole_section = refl

-- The first value of each key opens, but for the first key that has a value.
whole_title : stanza_at (codes "Title:" ∷ codes "Credit: *x*" ∷ codes "  y" ∷ codes "Contact:" ∷ codes "   z" ∷ codes "w" ∷ codes "Source: s" ∷ []) 0
    ≡ stanza 7 (made Title 0 6
    (line 1 parts.TitleCentred false (run 9 10 1 ∷ [])
    ∷ line 2 parts.TitleCentred false (run 2 3 0 ∷ [])
    ∷ line 4 parts.TitleLeft true (run 3 4 0 ∷ [])
    ∷ line 5 parts.TitleLeft false (run 0 1 0 ∷ [])
    ∷ line 6 parts.TitleCentred true (run 8 9 0 ∷ [])
    ∷ []) ∷ [])
unfolding chars is_lowercase in_ranges lowercase_ranges is_alphabetic alphabetic_ranges general_category value_in general_category_rows
whole_title = refl

-- The marks of a value pair among themselves, in further values too, and the text of a value keeps those without a pair.
whole_values : stanza_at (codes "Title: **a" ∷ codes "E_mail: a_b" ∷ codes "_c:_ _d_" ∷ codes "   \\*g[[n]]*h*" ∷ codes "C: *" ∷ []) 0
    ≡ stanza 5 (made Title 0 4
    (line 0 parts.TitleCentred false (run 7 10 0 ∷ [])
    ∷ line 1 parts.TitleLeft true (run 8 11 0 ∷ [])
    ∷ line 2 parts.TitleLeft true (run 3 5 0 ∷ run 6 7 4 ∷ [])
    ∷ line 3 parts.TitleLeft false (run 4 6 0 ∷ run 12 13 1 ∷ [])
    ∷ line 4 parts.TitleLeft true (run 3 4 0 ∷ [])
    ∷ []) ∷ [])
unfolding chars is_lowercase in_ranges lowercase_ranges is_alphabetic alphabetic_ranges general_category value_in general_category_rows
whole_values = refl

-- A page break has no line, and a stanza of held lines no block.
no_lines : stanza_at (codes "===" ∷ []) 0 ≡ stanza 1 (made PageBreak 0 0 [] ∷ [])
unfolding chars is_lowercase in_ranges lowercase_ranges is_alphabetic alphabetic_ranges general_category value_in general_category_rows
no_lines = refl

no_blocks : stanza_at (codes "  " ∷ codes "/*x*/" ∷ [] ∷ []) 0 ≡ stanza 3 []
unfolding chars is_lowercase in_ranges lowercase_ranges is_alphabetic alphabetic_ranges general_category value_in general_category_rows
no_blocks = refl
