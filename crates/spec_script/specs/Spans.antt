-- Parts of a line against flags of its bytes (docs/RULES.md, "Places and parts").
use Rattle.std.specs.Prelude.{ℕ, Bool, true, false, if◌then◌else◌, List, [], ◌∷◌, ◌++◌, Option, Some, None, take, drop, slice_range, nat_lt, ◌+◌, ◌-◌}
use Rattle.std.specs.List.{list_any, flat_map}
use Rattle.spec_text.specs.Parts.{SpanOf}

-- The part from one place to another, if it has a byte.
abbrev pub part : ℕ → ℕ → List SpanOf
part from to = if nat_lt from to then (from, to) ∷ [] else []

-- How many bytes a part has.
abbrev pub span_len : SpanOf → ℕ
span_len span = span.1 - span.0

-- The longest runs of places that aren't gone; the first flag is that of `at`, and the places from `from` to `at` are a run so far.
abbrev pub runs_left : ℕ → ℕ → List Bool → List SpanOf
runs_left from at [] = part from at
runs_left from at (true ∷ gone) = part from at ++ runs_left (at + 1) (at + 1) gone
runs_left from at (false ∷ gone) = runs_left from (at + 1) gone

-- Some byte is gone.
abbrev pub is_touched : List Bool → Bool
is_touched gone = list_any (λ (flag : Bool). flag) gone

-- The bytes that aren't gone.
abbrev pub bytes_left : List ℕ → List Bool → List ℕ
bytes_left [] gone = []
bytes_left (b ∷ bytes) [] = b ∷ bytes
bytes_left (b ∷ bytes) (true ∷ gone) = bytes_left bytes gone
bytes_left (b ∷ bytes) (false ∷ gone) = b ∷ bytes_left bytes gone

-- The bytes of the parts, one part after the other.
abbrev pub text_in : List ℕ → List SpanOf → List ℕ
text_in text spans = flat_map (λ (span : SpanOf). slice_range text span.0 span.1) spans

-- What is left of the parts; the flags are those of their bytes, in order.
abbrev pub cut_spans : List SpanOf → List Bool → List SpanOf
cut_spans [] gone = []
cut_spans (span ∷ spans) gone =
    runs_left span.0 span.0 (take (span_len span) gone) ++ cut_spans spans (drop (span_len span) gone)

-- The place in the text of the k-th byte of the parts.
abbrev pub place_in : List SpanOf → ℕ → Option ℕ
place_in [] k = None
place_in (span ∷ spans) k =
    if nat_lt k (span_len span) then Some (span.0 + k) else place_in spans (k - span_len span)
