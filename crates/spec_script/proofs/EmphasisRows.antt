-- Rows of the rules of emphasis, computed.
use Rattle.std.specs.Prelude.{◌≡◌, ℕ, List, [], ◌∷◌, length, map, codes, refl}
use Rattle.spec_script.specs.declared.Run.{Run}
use Rattle.spec_script.specs.Spans.{text_in}
use Rattle.spec_script.specs.Runs.{span_of}
use Rattle.spec_script.specs.Emphasis.{runs_of}

-- A run from a place to another. Styles are sums of 1 for italic, 2 for bold and 4 for underlined.
abbrev run : ℕ → ℕ → ℕ → Run
run from to style = record { from = from; to = to; style = style }

-- The runs of a text that is kept as a whole.
abbrev whole_runs : List ℕ → List Run
whole_runs text = runs_of text ((0, length text) ∷ [])

-- What is visible of a text that is kept as a whole.
abbrev visible : List ℕ → List ℕ
visible text = text_in text (map span_of (whole_runs text))

-- Layers pair by themselves, so their pairs may cross.
bold_and_italic_cross : whole_runs (codes "**a *b** c*") ≡ run 2 4 2 ∷ run 5 6 3 ∷ run 8 10 1 ∷ []
bold_and_italic_cross = refl

bold_into_italic : whole_runs (codes "**bold *both** still*") ≡ run 2 7 2 ∷ run 8 12 3 ∷ run 14 20 1 ∷ []
bold_into_italic = refl

underlined_and_italic_cross : whole_runs (codes "_a *b_ c*") ≡ run 1 3 4 ∷ run 4 5 5 ∷ run 6 8 1 ∷ []
underlined_and_italic_cross = refl

-- Pairs of one layer cross too: the first marker pairs with the first later one that closes.
italic_pairs_cross : whole_runs (codes "*a *b* c*") ≡ run 1 3 1 ∷ run 4 5 1 ∷ run 6 8 1 ∷ []
italic_pairs_cross = refl

three_marks : whole_runs (codes "***a***") ≡ run 3 4 3 ∷ []
three_marks = refl

-- `*` and `***` round one place give italic once.
italic_once : whole_runs (codes "*a ***b* c***") ≡ run 1 3 1 ∷ run 6 7 3 ∷ run 8 10 3 ∷ []
italic_once = refl

-- Runs of three, one and two marks are markers of three layers, and none has a partner.
no_partners : whole_runs (codes "***a* b**") ≡ run 0 9 0 ∷ []
no_partners = refl

-- A marker is used once.
used_once : whole_runs (codes "*a*b*") ≡ run 1 2 1 ∷ run 3 5 0 ∷ []
used_once = refl

inside_a_word : whole_runs (codes "a*b*c") ≡ run 0 1 0 ∷ run 2 3 1 ∷ run 4 5 0 ∷ []
inside_a_word = refl

-- A marker before a space doesn't open, and one after a space doesn't close. The line's ends count as spaces.
times : whole_runs (codes "2 * 3 * 4") ≡ run 0 9 0 ∷ []
times = refl

before_a_space : whole_runs (codes "* a*") ≡ run 0 4 0 ∷ []
before_a_space = refl

before_a_tab : whole_runs (42 ∷ 9 ∷ codes "a*") ≡ run 0 4 0 ∷ []
before_a_tab = refl

after_a_space : whole_runs (codes "*a * b*") ≡ run 1 6 1 ∷ []
after_a_space = refl

-- Longer runs of marks are literal.
four_stars : whole_runs (codes "****") ≡ run 0 4 0 ∷ []
four_stars = refl

two_underscores : whole_runs (codes "__a__") ≡ run 0 5 0 ∷ []
two_underscores = refl

-- A `\` before a mark makes it literal and is removed.
escaped : whole_runs (codes "\\*a* _b c_") ≡ run 1 5 0 ∷ run 6 9 4 ∷ []
escaped = refl

escaped_is_visible : visible (codes "\\*a* _b c_") ≡ codes "*a* b c"
escaped_is_visible = refl

escaped_inside : whole_runs (codes "*a\\*b*") ≡ run 1 2 1 ∷ run 3 5 1 ∷ []
escaped_inside = refl

-- A `\` before a `\` stays.
two_backslashes : whole_runs (codes "\\\\*a*") ≡ run 0 1 0 ∷ run 2 5 0 ∷ []
two_backslashes = refl

-- A literal mark ends a run of marks, and begins none.
after_a_literal_mark : whole_runs (codes "*\\**") ≡ run 2 3 1 ∷ []
after_a_literal_mark = refl

-- Places are of bytes, here of two characters of two bytes each.
two_byte_characters : whole_runs (195 ∷ 169 ∷ 42 ∷ 195 ∷ 188 ∷ 42 ∷ []) ≡ run 0 2 0 ∷ run 3 5 1 ∷ []
two_byte_characters = refl

-- Neighbours are those of the cleaned text, so with the note gone the stars are one marker of two.
stars_round_a_note : runs_of (codes "*[[n]]*") ((0, 1) ∷ (6, 7) ∷ []) ≡ run 0 1 0 ∷ run 6 7 0 ∷ []
stars_round_a_note = refl

bold_over_a_note : runs_of (codes "*[[n]]*a**") ((0, 1) ∷ (6, 10) ∷ []) ≡ run 7 8 2 ∷ []
bold_over_a_note = refl

-- Parts that touch are joined, and a part without a byte has no run.
touching_parts : runs_of (codes "abcd") ((0, 2) ∷ (2, 2) ∷ (2, 3) ∷ []) ≡ run 0 3 0 ∷ []
touching_parts = refl

-- Where a line is cut at its ends, at `!`, `~`, `>` or `<`, what is left has the runs that it has in the line.
whole_action : whole_runs (codes "!*a*") ≡ run 0 1 0 ∷ run 2 3 1 ∷ []
whole_action = refl

cut_action : runs_of (codes "!*a*") ((1, 4) ∷ []) ≡ run 2 3 1 ∷ []
cut_action = refl

whole_lyric : whole_runs (codes "~_la la_") ≡ run 0 1 0 ∷ run 2 7 4 ∷ []
whole_lyric = refl

cut_lyric : runs_of (codes "~_la la_") ((1, 8) ∷ []) ≡ run 2 7 4 ∷ []
cut_lyric = refl

whole_centred : whole_runs (codes ">**a**<") ≡ run 0 1 0 ∷ run 3 4 2 ∷ run 6 7 0 ∷ []
whole_centred = refl

cut_centred : runs_of (codes ">**a**<") ((1, 6) ∷ []) ≡ run 3 4 2 ∷ []
cut_centred = refl

nothing : whole_runs [] ≡ []
nothing = refl
