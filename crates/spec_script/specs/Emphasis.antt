-- Emphasis (docs/RULES.md, "Emphasis"). A line is its cleaned text. Marks and spaces are ASCII, so its bytes tell what
-- its characters are, and all places are of bytes.
use Rattle.std.specs.Prelude.{◌==◌, ℕ, ◌+◌, ◌-◌, nat_lt, nat_le, bit_or, Bool, not, ◌&&◌, ◌||◌, List, [], ◌∷◌, ◌++◌, length, map, flat_map, filter, take, drop, slice_index_or, find, Option, Some, None, if◌then◌else◌}
use Rattle.std.specs.List.{list_all, list_any, range_with_len}
use Rattle.std.specs.Option.{option_map_or}
use Rattle.spec_text.specs.Parts.{SpanOf}
use Rattle.spec_script.specs.declared.Layer.{Layer}
use Rattle.spec_script.specs.declared.Layer.TheVariants.{Italic, Bold, BoldItalic, Underline}
use Rattle.spec_script.specs.declared.Pair.{Pair}
use Rattle.spec_script.specs.declared.Run.{Run}
use Rattle.spec_script.specs.Trim.{is_space}
use Rattle.spec_script.specs.Spans.{span_len, text_in}
use Rattle.spec_script.specs.LongestRuns.{Group, last_of, longest_runs}

-- The mark of a layer: `_` underlines, and `*` does the rest.
abbrev pub mark_of : Layer → ℕ
mark_of Italic = 42
mark_of Bold = 42
mark_of BoldItalic = 42
mark_of Underline = 95

-- How many marks are one marker of the layer.
abbrev pub size_of : Layer → ℕ
size_of Italic = 1
size_of Bold = 2
size_of BoldItalic = 3
size_of Underline = 1

-- The style that a pair of the layer gives: the sum of 1 for italic, 2 for bold and 4 for underlined.
abbrev pub style_of : Layer → ℕ
style_of Italic = 1
style_of Bold = 2
style_of BoldItalic = 3
style_of Underline = 4

-- The byte is a mark of some layer, or `\`: in a text without such bytes nothing is emphasized or removed.
abbrev pub is_markup : ℕ → Bool
is_markup byte = (byte == 42) || (byte == 95) || (byte == 92)

-- The byte at a place of the line; behind the line's end stand spaces.
abbrev pub byte_at : List ℕ → ℕ → ℕ
byte_at line place = slice_index_or line place 32

-- The byte directly before a place; before the line's first byte stands a space.
abbrev pub byte_before : List ℕ → ℕ → ℕ
byte_before line place = if place == 0 then 32 else byte_at line (place - 1)

-- At the place stands the layer's mark, and no `\` directly before it, which would make it literal.
abbrev pub is_mark : Layer → List ℕ → ℕ → Bool
is_mark layer line place = (byte_at line place == mark_of layer) && not (byte_before line place == 92)

-- At the place stands a `\` that is removed: it is directly before `*` or `_`.
abbrev pub is_escape : List ℕ → ℕ → Bool
is_escape line place = (byte_at line place == 92) && ((byte_at line (place + 1) == 42) || (byte_at line (place + 1) == 95))

-- At the place begins a marker of the layer: a longest run of marks, of the layer's size.
abbrev pub is_marker : Layer → List ℕ → ℕ → Bool
is_marker layer line place =
    list_all (is_mark layer line) (range_with_len place (size_of layer))
    && not (is_mark layer line (place + size_of layer))
    && not (nat_lt 0 place && is_mark layer line (place - 1))

-- The markers of the layer by their places, from left to right.
abbrev pub markers_of : Layer → List ℕ → List ℕ
markers_of layer line = filter (is_marker layer line) (range_with_len 0 (length line))

-- The marker stands directly before a character that is no space.
abbrev pub opens : Layer → List ℕ → ℕ → Bool
opens layer line marker = not (is_space (byte_at line (marker + size_of layer)))

-- The marker stands directly after a character that is no space.
abbrev pub closes : List ℕ → ℕ → Bool
closes line marker = not (is_space (byte_before line marker))

-- The marker is one of the used ones.
abbrev pub is_used : List ℕ → ℕ → Bool
is_used used marker = list_any (λ place. place == marker) used

-- The first of these markers that closes and isn't used.
abbrev pub first_close : List ℕ → List ℕ → List ℕ → Option ℕ
first_close line used markers = find (λ marker. closes line marker && not (is_used used marker)) markers

-- The pairs among these markers, some of which may be used already. From left to right, a marker that isn't used and
-- opens pairs with the first later one that isn't used and closes.
abbrev pub pairs_among : Layer → List ℕ → List ℕ → List ℕ → List Pair
pairs_among layer line used [] = []
pairs_among layer line used (first ∷ later) =
    if is_used used first || not (opens layer line first) then pairs_among layer line used later
    else option_map_or (λ second. record { first = first; second = second } ∷ pairs_among layer line (second ∷ used) later)
    (first_close line used later) (pairs_among layer line used later)

-- The pairs of a layer. No other layer has a say in them.
abbrev pub pairs_of : Layer → List ℕ → List Pair
pairs_of layer line = pairs_among layer line [] (markers_of layer line)

-- The place lies between the two markers of one of the pairs.
abbrev pub is_inside : Layer → List Pair → ℕ → Bool
is_inside layer pairs place = list_any (λ pair. nat_le (pair.first + size_of layer) place && nat_lt place pair.second) pairs

-- The place lies on the marker.
abbrev pub is_on : Layer → ℕ → ℕ → Bool
is_on layer marker place = nat_le marker place && nat_lt place (marker + size_of layer)

-- The place lies on a marker of one of the pairs.
abbrev pub is_spent : Layer → List Pair → ℕ → Bool
is_spent layer pairs place = list_any (λ pair. is_on layer pair.first place || is_on layer pair.second place) pairs

-- The byte at the place is removed: it is such a `\`, or belongs to a marker that is used in its layer.
abbrev pub is_removed : List ℕ → ℕ → Bool
is_removed line place =
    is_escape line place
    || is_spent Italic (pairs_of Italic line) place
    || is_spent Bold (pairs_of Bold line) place
    || is_spent BoldItalic (pairs_of BoldItalic line) place
    || is_spent Underline (pairs_of Underline line) place

-- A style, together with that of a layer at a place inside a pair of it.
abbrev pub with_layer : Layer → List ℕ → ℕ → ℕ → ℕ
with_layer layer line place style = if is_inside layer (pairs_of layer line) place then bit_or style (style_of layer) else style

-- The style at the place: those of all layers with a pair round it, together.
abbrev pub style_at : List ℕ → ℕ → ℕ
style_at line place =
    with_layer Underline line place (with_layer BoldItalic line place (with_layer Bold line place (with_layer Italic line place 0)))

-- What is seen of each byte of a line: its style, or nothing where it is removed.
abbrev pub looks_of : List ℕ → List (Option ℕ)
looks_of line = map (λ place. if is_removed line place then None else Some (style_at line place)) (range_with_len 0 (length line))

-- A piece of a text as a run, if anything is seen of it.
abbrev pub seen_run : ℕ → ℕ → Option ℕ → List Run
seen_run from to None = []
seen_run from to (Some style) = record { from = from; to = to; style = style } ∷ []

-- The runs of the bytes of a part that begins at a place, by what is seen of them.
abbrev pub byte_runs : ℕ → List (Option ℕ) → List Run
byte_runs place [] = []
byte_runs place (look ∷ looks) = seen_run place (place + 1) look ++ byte_runs (place + 1) looks

-- The same of all parts.
abbrev pub byte_runs_in : List SpanOf → List (Option ℕ) → List Run
byte_runs_in [] looks = []
byte_runs_in (span ∷ spans) looks =
    byte_runs span.0 (take (span_len span) looks) ++ byte_runs_in spans (drop (span_len span) looks)

-- The next run goes on with a run: it touches it, and has its style.
abbrev pub goes_on : Run → Run → Bool
goes_on run next = (run.to == next.from) && (run.style == next.style)

-- One run in place of several that go on with one another.
abbrev pub whole_run : Group Run → Run
whole_run runs =
    record { from = runs.first.from; to = (last_of runs.first runs.more).to; style = runs.first.style }

-- Runs, joined as far as they go on with one another.
abbrev pub joined : List Run → List Run
joined runs = map whole_run (longest_runs goes_on runs)

-- The runs of a text whose cleaned text has these parts: the longest pieces of it without a removed byte, and with one style.
abbrev pub runs_of : List ℕ → List SpanOf → List Run
runs_of text kept = joined (byte_runs_in kept (looks_of (text_in text kept)))

-- A part as a run without a style, if it has a byte.
abbrev pub part_run : SpanOf → List Run
part_run span = if nat_lt span.0 span.1 then record { from = span.0; to = span.1; style = 0 } ∷ [] else []

-- Parts that are seen as they stand.
abbrev pub part_runs : List SpanOf → List Run
part_runs kept = flat_map part_run kept
