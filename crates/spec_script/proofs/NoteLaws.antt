-- Notes: what holds of every line.
use Rattle.std.specs.Prelude.{◌≡◌, ℕ, Bool, true, false, not, ◌==◌, List, [], ◌∷◌, ◌++◌, Some, None, map, length, take, drop, replicate, slice_range, option_and_then, ◌<◌, ◌+◌, ◌-◌}
use Rattle.std.specs.List.{list_any, sum_by}
use Rattle.std.proofs.Common.{cond, zero, suc, refl, sym, ap, ◌∙◌, inl, inr, arith}
use Rattle.std.specs.Str.{IsUtf8}
use Rattle.std.proofs.lemmas.Bool.{and_parts, and_left, and_right, or_parts, or_from, eqb-true, le-ltb, cases_lt}
use Rattle.std.proofs.lemmas.List.{length-map, length-append, length-replicate, take-append-drop, take-replicate, drop-replicate, take_all}
use Rattle.std.proofs.lemmas.List.Folds.{list_any-append}
use Rattle.std.proofs.lemmas.List.Sums.{sum_by-cons}
use Rattle.spec_text.specs.Parts.{SpanOf, Parts}
use Rattle.spec_script.specs.Marked.{covered, inside_after, open_at}
use Rattle.spec_script.specs.Notes.{note_turns, note_scanned}
use Rattle.spec_script.specs.Spans.{span_len, runs_left, text_in, cut_spans, place_in}
use Rattle.spec_script.proofs.MarkedLaws.{KeepsLines, length-covered}
use Rattle.spec_script.proofs.SpanLaws.{length-slice_range}
use Rattle.spec_script.proofs.PartsLeft.{HasAsciiMarks, covered-edges, edges-not, cut_spans-Parts}

first_below : (inside : Bool) (a b : ℕ) → note_turns inside a b ≡ true → a < 128
first_below true a b t = omega (arith, eqb-true a 93 (and_parts (a == 93) (b == 93) t).0)
first_below false a b t = omega (arith, eqb-true a 91 (and_parts (a == 91) (b == 91) t).0)

second_below : (inside : Bool) (a b : ℕ) → note_turns inside a b ≡ true → b < 128
second_below true a b t = omega (arith, eqb-true b 93 (and_parts (a == 93) (b == 93) t).1)
second_below false a b t = omega (arith, eqb-true b 91 (and_parts (a == 91) (b == 91) t).1)

-- The marks of notes are ASCII.
pub note_marks : HasAsciiMarks note_turns
note_marks = record { first = first_below; second = second_below }

feed_before : (inside : Bool) (a : ℕ) → note_turns inside a 10 ≡ false
feed_before true a = and_right (a == 93) (10 == 93) refl
feed_before false a = and_right (a == 91) (10 == 91) refl

feed_after : (inside : Bool) (b : ℕ) → note_turns inside 10 b ≡ false
feed_after true b = refl
feed_after false b = refl

-- A mark of a note stands in one line.
pub note_lines : KeepsLines note_turns
note_lines = record { before = feed_before; after = feed_after }

-- The parts in notes are parts of the line.
pub gone-Parts : (text : List ℕ) (kept : List SpanOf) (inside : Bool) → IsUtf8 text → Parts text 0 kept → Parts text 0 (cut_spans kept (map not (covered note_turns inside (text_in text kept))))
gone-Parts text kept inside u p =
    let bytes = text_in text kept in
    let flags = covered note_turns inside bytes in
    let same = length-covered note_turns inside bytes in
    cut_spans-Parts text kept 0 (map not flags) u p (length-map flags not ∙ same) (edges-not bytes flags same (covered-edges note_turns note_marks inside bytes))

-- The parts have as many bytes as their places say.
pub length-text_in-sum : (text : List ℕ) (kept : List SpanOf) (at : ℕ) → Parts text at kept → length (text_in text kept) ≡ sum_by span_len kept
length-text_in-sum text [] at p = refl
length-text_in-sum text (span ∷ kept) at p =
    let len = length-slice_range text span.0 span.1 p.1.order p.1.end.0 in
    let rest = length-text_in-sum text kept span.1 p.2 in
    omega (arith, length-append (slice_range text span.0 span.1) (text_in text kept), sum_by-cons span_len span kept)

-- A text without `[` has no note.
abbrev pub NoBracket : List ℕ → Type 0
NoBracket text = list_any (λ b. b == 91) text ≡ false

no_turn : (a b : ℕ) (rest : List ℕ) → NoBracket (a ∷ b ∷ rest) → note_turns false a b ≡ false
no_turn a b rest none = and_left (a == 91) (b == 91) (or_parts _ _ none).0

no_covered : (text : List ℕ) → NoBracket text → covered note_turns false text ≡ replicate (length text) false
no_covered [] none = refl
no_covered (a ∷ []) none = refl
no_covered (a ∷ b ∷ rest) none =
    ap (λ t. cond t (true ∷ true ∷ covered note_turns true rest) (false ∷ covered note_turns false (b ∷ rest))) (no_turn a b rest none)
    ∙ ap (λ (l : List Bool). false ∷ l) (no_covered (b ∷ rest) (or_parts _ _ none).1)

no_inside : (text : List ℕ) → NoBracket text → inside_after note_turns false text ≡ false
no_inside [] none = refl
no_inside (a ∷ []) none = refl
no_inside (a ∷ b ∷ rest) none =
    ap (λ t. cond t (inside_after note_turns true rest) (inside_after note_turns false (b ∷ rest))) (no_turn a b rest none)
    ∙ no_inside (b ∷ rest) (or_parts _ _ none).1

no_open : (text : List ℕ) (at : ℕ) → NoBracket text → open_at note_turns false None at text ≡ None
no_open [] at none = refl
no_open (a ∷ []) at none = refl
no_open (a ∷ b ∷ rest) at none =
    ap (λ t. cond t (open_at note_turns true (Some at) (at + 2) rest) (open_at note_turns false None (at + 1) (b ∷ rest))) (no_turn a b rest none)
    ∙ no_open (b ∷ rest) (at + 1) (or_parts _ _ none).1

-- Parts of such a text have none either.
no_part : (text : List ℕ) (from to : ℕ) → NoBracket text → NoBracket (slice_range text from to)
no_part text from to none =
    let p : ℕ → Bool = λ b. b == 91 in
    let behind : list_any p (drop from text) ≡ false =
    (or_parts (list_any p (take from text)) _ (sym (list_any-append p (take from text) (drop from text)) ∙ ap (list_any p) (take-append-drop from text) ∙ none)).1 in
    (or_parts (list_any p (take (to - from) (drop from text))) _
    (sym (list_any-append p (take (to - from) (drop from text)) (drop (to - from) (drop from text))) ∙ ap (list_any p) (take-append-drop (to - from) (drop from text)) ∙ behind)).0

no_parts : (text : List ℕ) (kept : List SpanOf) → NoBracket text → NoBracket (text_in text kept)
no_parts text [] none = refl
no_parts text (span ∷ kept) none =
    list_any-append (λ b. b == 91) (slice_range text span.0 span.1) (text_in text kept) ∙ or_from _ _ (no_part text span.0 span.1 none) (no_parts text kept none)

-- Where all is gone, no part is left.
runs_left-none : (at n : ℕ) → runs_left at at (replicate n true) ≡ []
runs_left-none at zero = ap (λ b. cond b ((at, at) ∷ []) []) (le-ltb at at (omega arith))
runs_left-none at (suc n) =
    ap (λ (b : Bool). cond b ((at, at) ∷ []) [] ++ runs_left (at + 1) (at + 1) (replicate n true)) (le-ltb at at (omega arith)) ∙ runs_left-none (at + 1) n

runs_left-take : (at m n : ℕ) → runs_left at at (take m (replicate n true)) ≡ []
runs_left-take at m n =
    elim (cases_lt n m) [
      | inl low ↦ ap (runs_left at at) (take_all m (replicate n true) (omega (arith, length-replicate n true))) ∙ runs_left-none at n
      | inr high ↦ ap (runs_left at at) (take-replicate m n true high) ∙ runs_left-none at m
    ]

cut_spans-none : (kept : List SpanOf) (n : ℕ) → cut_spans kept (replicate n true) ≡ []
cut_spans-none [] n = refl
cut_spans-none (span ∷ kept) n =
    ap (λ (l : List SpanOf). l ++ cut_spans kept (drop (span_len span) (replicate n true))) (runs_left-take span.0 (span_len span) n)
    ∙ ap (cut_spans kept) (drop-replicate (span_len span) n true) ∙ cut_spans-none kept (n - span_len span)

map_not : (n : ℕ) → map not (replicate n false) ≡ replicate n true
map_not zero = refl
map_not (suc n) = ap (λ (l : List Bool). true ∷ l) (map_not n)

-- A line without `[` that begins outside notes has none.
pub note_scanned-plain : (text : List ℕ) (kept : List SpanOf) → NoBracket text → note_scanned text kept false ≡ record { gone = []; inside = false; unclosed = None }
note_scanned-plain text kept none =
    let bytes = text_in text kept in
    let plain = no_parts text kept none in
    let gone : cut_spans kept (map not (covered note_turns false bytes)) ≡ [] =
    ap (λ l. cut_spans kept (map not l)) (no_covered bytes plain) ∙ ap (cut_spans kept) (map_not (length bytes)) ∙ cut_spans-none kept (length bytes) in
    let inside = no_inside bytes plain in
    let unclosed : option_and_then (place_in kept) (open_at note_turns false None 0 bytes) ≡ None = ap (option_and_then (place_in kept)) (no_open bytes 0 plain) in
    cc
