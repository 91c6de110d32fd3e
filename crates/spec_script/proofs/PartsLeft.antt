-- What is left of parts of a text, where bytes are gone, are parts of it: a mark is ASCII, so they end between characters.
use Rattle.std.specs.Prelude.{◌≡◌, ℕ, Bool, true, false, not, List, [], ◌∷◌, ◌++◌, map, length, take, drop, slice_index, slice_index_or, slice_range, ◌<◌, ◌≤◌, ◌+◌}
use Rattle.std.proofs.Common.{◌⊎◌, cond, zero, suc, refl, sym, ap, subst, ◌∙◌, append_assoc, add-zero, zero-add, inl, inr, arith, length-drop, length-append}
use Rattle.std.specs.Str.{IsUtf8, IsCharBoundary}
use Rattle.std.proofs.lemmas.Str.{IsCharBoundary-start, IsCharBoundary-end, IsCharBoundary-before_ascii, IsCharBoundary-after_ascii}
use Rattle.std.proofs.lemmas.Bool.{cases_lt, cases_Bool, lt-ltb, le-ltb, false_from_ne_true, false≢true, true≢false}
use Rattle.std.proofs.lemmas.List.{append-nil, get_or-map, get_or-take, get_or-drop, get_or_append_left, get_or-append-add, length-take-le}
use Rattle.std.proofs.lemmas.List.Edits.{get_or-between}
use Rattle.spec_text.specs.Parts.{SpanOf, Parts}
use Rattle.spec_text.proofs.PartsLaws.{Parts-lower}
use Rattle.spec_script.specs.Marked.{Turns, covered}
use Rattle.spec_script.specs.Spans.{part, span_len, runs_left, text_in, cut_spans}
use Rattle.spec_script.proofs.SpanLaws.{length-slice_range}

-- Where two neighbouring flags differ, one of their bytes is ASCII.
abbrev pub HasAsciiEdges : List ℕ → List Bool → Type 0
HasAsciiEdges bytes flags =
    (k : ℕ) → suc k < length bytes →
    (slice_index_or flags k false ≡ slice_index_or flags (suc k) false) ⊎ ((slice_index bytes k < 128) ⊎ (slice_index bytes (suc k) < 128))

-- Marks are ASCII.
pub record HasAsciiMarks (turns : Turns) : Type 0 where
  pub first : (inside : Bool) (a b : ℕ) → turns inside a b ≡ true → a < 128
  pub second : (inside : Bool) (a b : ℕ) → turns inside a b ≡ true → b < 128

-- The first flag differs from the state only at a mark.
covered-head : (turns : Turns) (m : HasAsciiMarks turns) (inside : Bool) (b : ℕ) (rest : List ℕ) → (inside ≡ slice_index_or (covered turns inside (b ∷ rest)) 0 false) ⊎ (b < 128)
covered-head turns m inside b [] = inl refl
covered-head turns m inside b (c ∷ rest) =
    elim (cases_Bool (turns inside b c)) [
      | inl t ↦ inr (m.first inside b c t)
      | inr t ↦ inl (sym (ap (λ x. slice_index_or (cond x (true ∷ true ∷ covered turns (not inside) rest) (inside ∷ covered turns inside (c ∷ rest))) 0 false) t))
    ]

-- A mark in front.
pub edges_mark : (a b : ℕ) (rest : List ℕ) (flags : List Bool) → b < 128 → HasAsciiEdges rest flags → HasAsciiEdges (a ∷ b ∷ rest) (true ∷ true ∷ flags)
edges_mark a b rest flags p h zero low = inl refl
edges_mark a b rest flags p h (suc zero) low = inr (inl p)
edges_mark a b rest flags p h (suc (suc k)) low = h k (omega arith)

-- One byte in front.
pub edges_byte : (a b : ℕ) (rest : List ℕ) (flag : Bool) (flags : List Bool) → (flag ≡ slice_index_or flags 0 false) ⊎ (b < 128) → HasAsciiEdges (b ∷ rest) flags → HasAsciiEdges (a ∷ b ∷ rest) (flag ∷ flags)
edges_byte a b rest flag flags p h zero low = elim p [ inl same ↦ inl same | inr small ↦ inr (inr small) ]
edges_byte a b rest flag flags p h (suc k) low = h k (omega arith)

-- Flags of a text that ASCII marks cover.
pub covered-edges : (turns : Turns) (m : HasAsciiMarks turns) (inside : Bool) (text : List ℕ) → HasAsciiEdges text (covered turns inside text)
covered-edges turns m inside [] = λ k h. absurd (omega arith)
covered-edges turns m inside (a ∷ []) = λ k h. absurd (omega arith)
covered-edges turns m inside (a ∷ b ∷ rest) =
    let P : List Bool → Type 0 = HasAsciiEdges (a ∷ b ∷ rest) in
    let opened : Bool → List Bool = λ x. cond x (true ∷ true ∷ covered turns (not inside) rest) (inside ∷ covered turns inside (b ∷ rest)) in
    elim (cases_Bool (turns inside a b)) [
      | inl t ↦ subst P (sym (ap opened t)) (edges_mark a b rest (covered turns (not inside) rest) (m.second inside a b t) (covered-edges turns m (not inside) rest))
      | inr t ↦ subst P (sym (ap opened t)) (edges_byte a b rest inside (covered turns inside (b ∷ rest)) (covered-head turns m inside b rest) (covered-edges turns m inside (b ∷ rest)))
    ]

-- The flags turned round have the same edges.
pub edges-not : (bytes : List ℕ) (flags : List Bool) → length flags ≡ length bytes → HasAsciiEdges bytes flags → HasAsciiEdges bytes (map not flags)
edges-not bytes flags same h k low =
    elim (h k low) [
      | inl e ↦ inl (get_or-map not flags k false false (omega arith) ∙ ap not e ∙ sym (get_or-map not flags (suc k) false false (omega arith)))
      | inr small ↦ inr small
    ]

-- A part ends between characters where two neighbouring flags differ.
abbrev CutsText : List ℕ → ℕ → List Bool → Type 0
CutsText text at flags =
    (k : ℕ) → suc k < length flags →
    (slice_index_or flags k false ≡ slice_index_or flags (suc k) false) ⊎ IsCharBoundary text (at + suc k)

-- Before the first flag: it is as the one before it, or the text may be cut there.
abbrev Edge : List ℕ → ℕ → Bool → List Bool → Type 0
Edge text at before [] = IsCharBoundary text at
Edge text at before (flag ∷ flags) = (before ≡ flag) ⊎ IsCharBoundary text at

edge_next : (text : List ℕ) (at : ℕ) (flag : Bool) (flags : List Bool) → CutsText text at (flag ∷ flags) → IsCharBoundary text (at + suc (length flags)) → Edge text (at + 1) flag flags
edge_next text at flag [] cuts end = end
edge_next text at flag (next ∷ flags) cuts end =
    cuts 0 (omega arith)

cuts_next : (text : List ℕ) (at : ℕ) (flag : Bool) (flags : List Bool) → CutsText text at (flag ∷ flags) → CutsText text (at + 1) flags
cuts_next text at flag flags cuts k low =
    let same : at + suc (suc k) ≡ at + 1 + suc k = omega arith in
    elim (cuts (suc k) (omega arith)) [
      | inl e ↦ inl e
      | inr b ↦ inr (subst (IsCharBoundary text) same b)
    ]

-- The part so far, and what comes after it.
part_then : (text : List ℕ) (low from at : ℕ) (after : List SpanOf) → low ≤ from → from ≤ at → (from < at → IsCharBoundary text from × IsCharBoundary text at) → Parts text at after → Parts text low (part from at ++ after)
part_then text low from at after h order ends p =
    elim (cases_lt from at) [
      | inl some ↦ subst (λ b. Parts text low (cond b ((from, at) ∷ []) [] ++ after)) (sym (lt-ltb from at some))
          (h, record { order = order; start = (ends some).0; end = (ends some).1 }, p)
      | inr none ↦ subst (λ b. Parts text low (cond b ((from, at) ∷ []) [] ++ after)) (sym (le-ltb from at none))
          (Parts-lower text after low at (omega arith) p)
    ]

opens : (before : Bool) (from at : ℕ) → (before ≡ true → from ≡ at) → from < at → before ≡ false
opens before from at closed some = false_from_ne_true before (λ e. omega (arith, closed e))

from_edge : (before flag : Bool) (B : Type 0) → (before ≡ flag) ⊎ B → (before ≡ flag → ⊥) → B
from_edge before flag B edge other = elim edge [ inl e ↦ absurd (other e) | inr b ↦ b ]

-- The runs left from a place on are parts, and so is what comes after them.
pub runs_left-Parts : (text : List ℕ) (low from at : ℕ) (before : Bool) (flags : List Bool) (after : List SpanOf) → low ≤ from → from ≤ at → (before ≡ true → from ≡ at) → (before ≡ false → IsCharBoundary text from) → Edge text at before flags → CutsText text at flags → IsCharBoundary text (at + length flags) → Parts text (at + length flags) after → Parts text low (runs_left from at flags ++ after)
runs_left-Parts text low from at before [] after h order closed start edge cuts end p =
    part_then text low from at after h order (λ some. (start (opens before from at closed some), edge))
    (subst (λ n. Parts text n after) (add-zero at) p)
runs_left-Parts text low from at before (true ∷ flags) after h order closed start edge cuts end p =
    let further : at + suc (length flags) ≡ at + 1 + length flags = omega arith in
    subst (Parts text low) (sym (append_assoc (part from at) (runs_left (at + 1) (at + 1) flags) after))
    (part_then text low from at (runs_left (at + 1) (at + 1) flags ++ after) h order
    (λ some.
    let left = opens before from at closed some in
    (start left, from_edge before true (IsCharBoundary text at) edge (λ e. true≢false (sym e ∙ left))))
    (runs_left-Parts text at (at + 1) (at + 1) true flags after (omega arith) (omega arith) (λ _. refl) (λ e. absurd (true≢false e))
    (edge_next text at true flags cuts end) (cuts_next text at true flags cuts)
    (subst (IsCharBoundary text) further end) (subst (λ n. Parts text n after) further p)))
runs_left-Parts text low from at before (false ∷ flags) after h order closed start edge cuts end p =
    let further : at + suc (length flags) ≡ at + 1 + length flags = omega arith in
    let begins : IsCharBoundary text from =
    elim (cases_Bool before) [
      | inl e ↦ subst (IsCharBoundary text) (sym (closed e)) (from_edge before false (IsCharBoundary text at) edge (λ f. true≢false (sym e ∙ f)))
      | inr e ↦ start e
    ] in
    runs_left-Parts text low from (at + 1) false flags after h (omega arith) (λ e. absurd (false≢true e)) (λ _. begins)
    (edge_next text at false flags cuts end) (cuts_next text at false flags cuts)
    (subst (IsCharBoundary text) further end) (subst (λ n. Parts text n after) further p)

-- The text may be cut beside an ASCII byte.
cuts_from_edges : (text : List ℕ) (u : IsUtf8 text) (at : ℕ) (bytes : List ℕ) (flags : List Bool) → length flags ≡ length bytes → at + length bytes ≤ length text → ((k : ℕ) → k < length bytes → slice_index bytes k ≡ slice_index text (at + k)) → HasAsciiEdges bytes flags → CutsText text at flags
cuts_from_edges text u at bytes flags same fits here edges k low =
    let further : at + k + 1 ≡ at + suc k = omega arith in
    elim (edges k (omega arith)) [
      | inl e ↦ inl e
      | inr small ↦ inr (elim small [
        | inl first ↦ subst (IsCharBoundary text) further
            (IsCharBoundary-after_ascii text (at + k) u (omega arith) (subst (λ b. b < 128) (here k (omega arith)) first))
        | inr second ↦
            IsCharBoundary-before_ascii text (at + suc k) (omega arith) (subst (λ b. b < 128) (here (suc k) (omega arith)) second)
      ])
    ]

edge_at : (text : List ℕ) (at : ℕ) (flags : List Bool) → IsCharBoundary text at → Edge text at true flags
edge_at text at [] b = b
edge_at text at (flag ∷ flags) b = inr b

-- The runs left of a whole text are parts of it.
pub runs_left-whole : (text : List ℕ) (flags : List Bool) → IsUtf8 text → length flags ≡ length text → HasAsciiEdges text flags → Parts text 0 (runs_left 0 0 flags)
runs_left-whole text flags u same edges =
    let start = IsCharBoundary-start text u in
    let end : IsCharBoundary text (0 + length flags) = subst (IsCharBoundary text) (sym (zero-add (length flags) ∙ same)) (IsCharBoundary-end text) in
    subst (Parts text 0) (append-nil (runs_left 0 0 flags))
    (runs_left-Parts text 0 0 0 true flags [] (omega arith) (omega arith) (λ _. refl) (λ _. start) (edge_at text 0 flags start)
    (cuts_from_edges text u 0 text flags same (omega arith) (λ k h. ap (slice_index text) (sym (zero-add k))) edges) end tt)

pub edges-left : (xs ys : List ℕ) (flags : List Bool) → HasAsciiEdges (xs ++ ys) flags → length xs ≤ length flags → HasAsciiEdges xs (take (length xs) flags)
edges-left xs ys flags edges low k h =
    let all = length-append xs ys in
    let first : slice_index_or flags k false ≡ slice_index_or (take (length xs) flags) k false = sym (get_or-take (length xs) flags k false (omega arith)) in
    let second : slice_index_or flags (suc k) false ≡ slice_index_or (take (length xs) flags) (suc k) false = sym (get_or-take (length xs) flags (suc k) false h) in
    let a = get_or_append_left xs ys 0 k (omega arith) in
    let b = get_or_append_left xs ys 0 (suc k) h in
    elim (edges k (omega arith)) [
      | inl e ↦ inl (sym first ∙ e ∙ second)
      | inr small ↦ inr (elim small [ inl f ↦ inl (subst (λ n. n < 128) a f) | inr f ↦ inr (subst (λ n. n < 128) b f) ])
    ]

pub edges-right : (xs ys : List ℕ) (flags : List Bool) → HasAsciiEdges (xs ++ ys) flags → HasAsciiEdges ys (drop (length xs) flags)
edges-right xs ys flags edges k h =
    let all = length-append xs ys in
    let further : length xs + suc k ≡ suc (length xs + k) = omega arith in
    let first = get_or-drop (length xs) flags k false in
    let second : slice_index_or (drop (length xs) flags) (suc k) false ≡ slice_index_or flags (suc (length xs + k)) false = get_or-drop (length xs) flags (suc k) false ∙ ap (λ n. slice_index_or flags n false) further in
    let a : slice_index (xs ++ ys) (length xs + k) ≡ slice_index ys k = get_or-append-add xs ys k 0 in
    let b : slice_index (xs ++ ys) (suc (length xs + k)) ≡ slice_index ys (suc k) = ap (slice_index (xs ++ ys)) (sym further) ∙ get_or-append-add xs ys (suc k) 0 in
    elim (edges (length xs + k) (omega arith)) [
      | inl e ↦ inl (first ∙ e ∙ sym second)
      | inr small ↦ inr (elim small [ inl f ↦ inl (subst (λ n. n < 128) a f) | inr f ↦ inr (subst (λ n. n < 128) b f) ])
    ]

-- What is left of parts are parts.
pub cut_spans-Parts : (text : List ℕ) (kept : List SpanOf) (low : ℕ) (flags : List Bool) → IsUtf8 text → Parts text low kept → length flags ≡ length (text_in text kept) → HasAsciiEdges (text_in text kept) flags → Parts text low (cut_spans kept flags)
cut_spans-Parts text [] low flags u p same edges = tt
cut_spans-Parts text (span ∷ kept) low flags u p same edges =
    let bytes = slice_range text span.0 span.1 in
    let rest = text_in text kept in
    let n = span_len span in
    let order = p.1.order in
    let fits = p.1.end.0 in
    let len : length bytes ≡ n = length-slice_range text span.0 span.1 order fits in
    let whole = length-append bytes rest in
    let few : length (take n flags) ≡ n = length-take-le n flags (omega arith) in
    let ends : span.1 ≡ span.0 + length (take n flags) = omega arith in
    let here : (k : ℕ) → k < length bytes → slice_index bytes k ≡ slice_index text (span.0 + k) = λ k h. get_or-between text span.0 span.1 k 0 (omega arith) in
    let inside : HasAsciiEdges bytes (take n flags) = subst (λ m. HasAsciiEdges bytes (take m flags)) len (edges-left bytes rest flags edges (omega arith)) in
    let after : Parts text span.1 (cut_spans kept (drop n flags)) =
    cut_spans-Parts text kept span.1 (drop n flags) u p.2 (omega (arith, length-drop n flags))
    (subst (λ m. HasAsciiEdges rest (drop m flags)) len (edges-right bytes rest flags edges)) in
    runs_left-Parts text low span.0 span.0 true (take n flags) (cut_spans kept (drop n flags)) p.0 (omega arith) (λ _. refl) (λ _. p.1.start)
    (edge_at text span.0 (take n flags) p.1.start)
    (cuts_from_edges text u span.0 bytes (take n flags) (few ∙ sym len) (omega arith) here inside)
    (subst (IsCharBoundary text) ends p.1.end)
    (subst (λ m. Parts text m (cut_spans kept (drop n flags))) ends after)
