-- The bytes of parts, against flags of the bytes.
use Rattle.std.specs.Prelude.{◌≡◌, ℕ, Bool, true, false, List, [], ◌∷◌, ◌++◌, length, take, drop, slice_index, slice_index_or, slice_range, ◌<◌, ◌≤◌, ◌+◌, ◌-◌}
use Rattle.std.proofs.Common.{cond, suc, refl, sym, ap, ◌∙◌, append_assoc, inl, inr, arith, length-take, length-drop, length-append}
use Rattle.std.proofs.lemmas.Bool.{cases_lt, lt-ltb, le-ltb}
use Rattle.std.proofs.lemmas.List.{append-nil, drop_more, take_all, length-take-le, at_drop_more}
use Rattle.std.proofs.lemmas.List.Edits.{between_more}
use Rattle.std.specs.Str.{IsUtf8}
use Rattle.std.proofs.lemmas.Str.{IsUtf8-nil, IsUtf8-append, IsUtf8-between}
use Rattle.std.proofs.lemmas.List.Concat.{flat_map-append}
use Rattle.spec_text.specs.Parts.{SpanOf, Parts}
use Rattle.spec_script.specs.Spans.{part, span_len, runs_left, text_in, bytes_left, cut_spans}

-- A part that lies in a text has as many bytes as its places say.
pub length-slice_range : (text : List ℕ) (from to : ℕ) → from ≤ to → to ≤ length text → length (slice_range text from to) ≡ to - from
length-slice_range text from to order low = omega (arith, length-take (to - from) (drop from text), length-drop from text)

slice-none : (text : List ℕ) (from to : ℕ) → to ≤ from → slice_range text from to ≡ []
slice-none text from to h =
    let none : to - from ≡ 0 = omega arith in
    ap (λ n. take n (drop from text)) none

-- The bytes of the part from one place to another, if it has a byte.
text_in-part : (text : List ℕ) (from to : ℕ) → text_in text (part from to) ≡ slice_range text from to
text_in-part text from to =
    elim (cases_lt from to) [
      | inl some ↦ ap (λ b. text_in text (cond b ((from, to) ∷ []) [])) (lt-ltb from to some) ∙ append-nil (slice_range text from to)
      | inr none ↦ ap (λ b. text_in text (cond b ((from, to) ∷ []) [])) (le-ltb from to none) ∙ sym (slice-none text from to none)
    ]

-- One byte more.
slice-more : (text : List ℕ) (from at : ℕ) → from ≤ at → at < length text → slice_range text from (at + 1) ≡ slice_range text from at ++ slice_index text at ∷ []
slice-more text from at order low = between_more text from at 0 order low

text_in-runs_left : (text : List ℕ) (from at : ℕ) (gone : List Bool) → from ≤ at → at + length gone ≤ length text → text_in text (runs_left from at gone) ≡ slice_range text from at ++ bytes_left (take (length gone) (drop at text)) gone
text_in-runs_left text from at [] order low = text_in-part text from at ∙ sym (append-nil (slice_range text from at))
text_in-runs_left text from at (true ∷ gone) order low =
    let byte = drop_more text at 0 (omega arith) in
    flat_map-append (λ (s : SpanOf). slice_range text s.0 s.1) (part from at) (runs_left (at + 1) (at + 1) gone)
    ∙ ap (λ (l : List ℕ). l ++ text_in text (runs_left (at + 1) (at + 1) gone)) (text_in-part text from at)
    ∙ ap (λ (l : List ℕ). slice_range text from at ++ l)
    (text_in-runs_left text (at + 1) (at + 1) gone (omega arith) (omega arith)
    ∙ ap (λ (l : List ℕ). l ++ bytes_left (take (length gone) (drop (at + 1) text)) gone) (slice-none text (at + 1) (at + 1) (omega arith))
    ∙ sym (ap (λ l. bytes_left (take (suc (length gone)) l) (true ∷ gone)) byte))
text_in-runs_left text from at (false ∷ gone) order low =
    let byte = drop_more text at 0 (omega arith) in
    text_in-runs_left text from (at + 1) gone (omega arith) (omega arith)
    ∙ ap (λ (l : List ℕ). l ++ bytes_left (take (length gone) (drop (at + 1) text)) gone) (slice-more text from at order (omega arith))
    ∙ append_assoc (slice_range text from at) (slice_index text at ∷ []) (bytes_left (take (length gone) (drop (at + 1) text)) gone)
    ∙ sym (ap (λ l. slice_range text from at ++ bytes_left (take (suc (length gone)) l) (false ∷ gone)) byte)

-- The parts left of a text have the bytes left.
pub text_in-left : (text : List ℕ) (gone : List Bool) → length gone ≡ length text → text_in text (runs_left 0 0 gone) ≡ bytes_left text gone
text_in-left text gone same =
    text_in-runs_left text 0 0 gone (omega arith) (omega arith) ∙ ap (λ l. bytes_left l gone) (take_all (length gone) text (omega arith))

-- Flags of two texts, one after the other.
bytes_left-append : (xs ys : List ℕ) (gone : List Bool) → length xs ≤ length gone → bytes_left (xs ++ ys) gone ≡ bytes_left xs (take (length xs) gone) ++ bytes_left ys (drop (length xs) gone)
bytes_left-append [] ys gone low = refl
bytes_left-append (x ∷ xs) ys [] low = absurd (omega arith)
bytes_left-append (x ∷ xs) ys (true ∷ gone) low = bytes_left-append xs ys gone (omega arith)
bytes_left-append (x ∷ xs) ys (false ∷ gone) low = ap (λ (l : List ℕ). x ∷ l) (bytes_left-append xs ys gone (omega arith))

-- What is left of parts has the bytes that are left of theirs.
pub text_in-cut : (text : List ℕ) (kept : List SpanOf) (at : ℕ) (gone : List Bool) → Parts text at kept → length gone ≡ length (text_in text kept) → text_in text (cut_spans kept gone) ≡ bytes_left (text_in text kept) gone
text_in-cut text [] at gone p same = refl
text_in-cut text (span ∷ kept) at gone p same =
    let bytes = slice_range text span.0 span.1 in
    let rest = text_in text kept in
    let n = span_len span in
    let len : length bytes ≡ n = length-slice_range text span.0 span.1 p.1.order p.1.end.0 in
    let whole = length-append bytes rest in
    let order = p.1.order in
    let fits = p.1.end.0 in
    let first : length (take n gone) ≡ n = length-take-le n gone (omega arith) in
    flat_map-append (λ (s : SpanOf). slice_range text s.0 s.1) (runs_left span.0 span.0 (take n gone)) (cut_spans kept (drop n gone))
    ∙ ap (λ (l : List ℕ). l ++ text_in text (cut_spans kept (drop n gone)))
    (text_in-runs_left text span.0 span.0 (take n gone) (omega arith) (omega arith)
    ∙ ap (λ (l : List ℕ). l ++ bytes_left (take (length (take n gone)) (drop span.0 text)) (take n gone)) (slice-none text span.0 span.0 (omega arith))
    ∙ ap (λ k. bytes_left (take k (drop span.0 text)) (take n gone)) first)
    ∙ ap (λ (l : List ℕ). bytes_left bytes (take n gone) ++ l) (text_in-cut text kept span.1 (drop n gone) p.2 (omega (arith, length-drop n gone)))
    ∙ ap (λ k. bytes_left bytes (take k gone) ++ bytes_left rest (drop k gone)) (sym len)
    ∙ sym (bytes_left-append bytes rest gone (omega arith))

-- The bytes of parts from one of them on.
pub text_in-step : (text : List ℕ) (spans : List SpanOf) (i : ℕ) (d : SpanOf) → i < length spans → text_in text (drop i spans) ≡ slice_range text (slice_index_or spans i d).0 (slice_index_or spans i d).1 ++ text_in text (drop (i + 1) spans)
text_in-step text spans i d h = at_drop_more (text_in text) spans i d h

-- Parts have no more bytes than the text.
pub length-text_in : (text : List ℕ) (spans : List SpanOf) (at : ℕ) → at ≤ length text → Parts text at spans → at + length (text_in text spans) ≤ length text
length-text_in text [] at h p = omega arith
length-text_in text (span ∷ spans) at h p =
    let fits = p.1.end.0 in
    let order = p.1.order in
    let begins = p.0 in
    let len = length-slice_range text span.0 span.1 order fits in
    let rest = length-text_in text spans span.1 fits p.2 in
    omega (arith, length-append (slice_range text span.0 span.1) (text_in text spans))

-- The bytes of parts are a text.
pub IsUtf8-text_in : (text : List ℕ) (spans : List SpanOf) (at : ℕ) → IsUtf8 text → Parts text at spans → IsUtf8 (text_in text spans)
IsUtf8-text_in text [] at u p = IsUtf8-nil
IsUtf8-text_in text (span ∷ spans) at u p =
    IsUtf8-append (slice_range text span.0 span.1) (text_in text spans)
    (IsUtf8-between text span.0 span.1 u p.1.order p.1.start p.1.end)
    (IsUtf8-text_in text spans span.1 u p.2)
