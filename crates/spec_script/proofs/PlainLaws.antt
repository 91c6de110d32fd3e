-- A line without marks and `\` is seen as it stands.
use Rattle.std.proofs.Common.{◌≡◌, ℕ, zero, suc, ◌+◌, ◌-◌, ◌≤◌, ◌==◌, Bool, false, ◌||◌, cond, List, [], ◌∷◌, ◌++◌, length, map, filter, replicate, take, drop, slice_range, sum_by, Option, Some, None, refl, sym, ap, ◌∙◌, inl, inr, arith}
use Rattle.std.specs.Prelude.{bit_or}
use Rattle.std.specs.Option.{option_to_list}
use Rattle.std.specs.List.{list_any, range_with_len}
use Rattle.std.proofs.lemmas.Bool.{cases_lt, eqb-true, and_parts, or_from, or_parts, lt-ltb, le-ltb, false_from_ne_true, true≢false}
use Rattle.std.proofs.lemmas.List.{get_or_past, take-replicate, drop-replicate}
use Rattle.std.proofs.lemmas.List.Folds.{list_any-append, list_any_at}
use Rattle.std.proofs.lemmas.List.Sums.{sum_by-cons}
use Rattle.spec_text.specs.Parts.{SpanOf, Parts}
use Rattle.spec_script.specs.declared.Layer.{Layer}
use Rattle.spec_script.specs.declared.Layer.TheVariants.{Italic, Bold, BoldItalic, Underline}
use Rattle.spec_script.specs.declared.Run.{Run}
use Rattle.spec_script.specs.Spans.{span_len, text_in}
use Rattle.spec_script.specs.Emphasis.{is_markup, style_of, byte_at, is_escape, is_marker, pairs_among, pairs_of, is_inside, is_spent, is_removed, with_layer, style_at, looks_of, byte_runs, byte_runs_in, joined, runs_of, part_runs}
use Rattle.spec_script.proofs.PairLaws.{marker-markup}
use Rattle.spec_script.proofs.JoinLaws.{joined-behind, joined-bytes}
use Rattle.spec_script.proofs.RunLaws.{sum_by-span_len}

-- None of the bytes is a mark or a `\`.
pub record IsPlain (bytes : List ℕ) : Type 0 where
  pub none : list_any is_markup bytes ≡ false

IsPlain-take : (n : ℕ) (bytes : List ℕ) → list_any is_markup bytes ≡ false → list_any is_markup (take n bytes) ≡ false
IsPlain-take zero bytes none = refl
IsPlain-take (suc n) [] none = refl
IsPlain-take (suc n) (b ∷ bytes) none =
    let both = or_parts (is_markup b) (list_any is_markup bytes) none in
    or_from (is_markup b) (list_any is_markup (take n bytes)) both.0 (IsPlain-take n bytes both.1)

IsPlain-drop : (n : ℕ) (bytes : List ℕ) → list_any is_markup bytes ≡ false → list_any is_markup (drop n bytes) ≡ false
IsPlain-drop zero bytes none = none
IsPlain-drop (suc n) [] none = refl
IsPlain-drop (suc n) (b ∷ bytes) none = IsPlain-drop n bytes (or_parts (is_markup b) (list_any is_markup bytes) none).1

IsPlain-text_in : (text : List ℕ) (kept : List SpanOf) → list_any is_markup text ≡ false → list_any is_markup (text_in text kept) ≡ false
IsPlain-text_in text [] none = refl
IsPlain-text_in text (span ∷ kept) none =
    list_any-append is_markup (slice_range text span.0 span.1) (text_in text kept)
    ∙ or_from (list_any is_markup (slice_range text span.0 span.1)) (list_any is_markup (text_in text kept))
    (IsPlain-take (span.1 - span.0) (drop span.0 text) (IsPlain-drop span.0 text none)) (IsPlain-text_in text kept none)

filter-none : (p : ℕ → Bool) (xs : List ℕ) → ((x : ℕ) → p x ≡ false) → filter p xs ≡ []
filter-none p [] none = refl
filter-none p (x ∷ xs) none = ap (λ b. cond b (x ∷ filter p xs) (filter p xs)) (none x) ∙ filter-none p xs none

map-constant : {X : Type 0} (f : ℕ → X) (x : X) (at n : ℕ) → ((k : ℕ) → f k ≡ x) → map f (range_with_len at n) ≡ replicate n x
map-constant f x at zero all = refl
map-constant f x at (suc n) all = ap (λ y. y ∷ map f (range_with_len (at + 1) n)) (all at) ∙ ap (λ ys. x ∷ ys) (map-constant f x (at + 1) n all)

module _ (line : List ℕ) (none : list_any is_markup line ≡ false) where
  -- No byte of the line is a mark or a `\`, and neither is the space beyond its ends.
  no_markup : (place : ℕ) → is_markup (byte_at line place) ≡ false
  no_markup place =
      elim (cases_lt place (length line)) [
        | inl inside ↦ false_from_ne_true (is_markup (byte_at line place)) (λ e. true≢false (sym (list_any_at is_markup line place 32 inside e) ∙ none))
        | inr behind ↦ ap is_markup (get_or_past line place 32 behind)
      ]

  no_pairs : (layer : Layer) → pairs_of layer line ≡ []
  no_pairs layer =
      ap (pairs_among layer line []) (filter-none (is_marker layer line) (range_with_len 0 (length line)) (λ place.
      false_from_ne_true (is_marker layer line place) (λ e.
      true≢false (sym (marker-markup layer line place (record { holds = e })) ∙ no_markup place))))

  no_escape : (place : ℕ) → is_escape line place ≡ false
  no_escape place =
      false_from_ne_true (is_escape line place) (λ e.
      let byte = eqb-true (byte_at line place) 92 (and_parts (byte_at line place == 92) ((byte_at line (place + 1) == 42) || (byte_at line (place + 1) == 95)) e).0 in
      true≢false (sym (ap is_markup byte) ∙ no_markup place))

  no_removed : (place : ℕ) → is_removed line place ≡ false
  no_removed place =
      let spent = λ (layer : Layer). ap (λ pairs. is_spent layer pairs place) (no_pairs layer) in
      or_from _ _ (or_from _ _ (or_from _ _ (or_from _ _ (no_escape place) (spent Italic)) (spent Bold)) (spent BoldItalic)) (spent Underline)

  no_style : (place : ℕ) → style_at line place ≡ 0
  no_style place =
      let same : (layer : Layer) (style : ℕ) → with_layer layer line place style ≡ style =
      λ layer style. ap (λ pairs. cond (is_inside layer pairs place) (bit_or style (style_of layer)) style) (no_pairs layer) in
      same Underline _ ∙ same BoldItalic _ ∙ same Bold _ ∙ same Italic 0

  looks-plain : looks_of line ≡ replicate (length line) (Some 0)
  looks-plain =
      map-constant (λ place. cond (is_removed line place) None (Some (style_at line place))) (Some 0) 0 (length line) (λ place.
      ap (λ b. cond b None (Some (style_at line place))) (no_removed place) ∙ ap Some (no_style place))

-- Where nothing is emphasized or removed, the bytes of a part are one run, if there are any.
joined-parts : (kept : List SpanOf) (n : ℕ) (last : Option Run) → sum_by span_len kept ≤ n
    → joined (option_to_list last ++ byte_runs_in kept (replicate n (Some 0))) ≡ joined (option_to_list last ++ part_runs kept)
joined-parts [] n last fits = refl
joined-parts (span ∷ kept) n last fits =
    let len = span_len span in
    let sum = sum_by-cons span_len span kept in
    let rest = byte_runs_in kept (replicate (n - len) (Some 0)) in
    let run : Run = record { from = span.0; to = span.1; style = 0 } in
    let alike = λ (last : Option Run). joined-parts kept (n - len) last (omega arith) in
    ap (λ (looks : List (Option ℕ)). joined (option_to_list last ++ (byte_runs span.0 looks ++ byte_runs_in kept (drop len (replicate n (Some 0)))))) (take-replicate len n (Some 0) (omega arith))
    ∙ ap (λ (looks : List (Option ℕ)). joined (option_to_list last ++ (byte_runs span.0 (replicate len (Some 0)) ++ byte_runs_in kept looks))) (drop-replicate len n (Some 0))
    ∙ elim (cases_lt span.0 span.1) [
      | inl some ↦ (let end : span.0 + len ≡ span.1 = omega arith in
          joined-bytes last len span.0 0 rest (omega arith)
          ∙ ap (λ to. joined (option_to_list last ++ record { from = span.0; to = to; style = 0 } ∷ rest)) end
          ∙ joined-behind last run rest (part_runs kept) alike
          ∙ sym (ap (λ b. joined (option_to_list last ++ (cond b (run ∷ []) [] ++ part_runs kept))) (lt-ltb span.0 span.1 some)))
      | inr none ↦ (let empty : len ≡ 0 = omega arith in
          ap (λ m. joined (option_to_list last ++ (byte_runs span.0 (replicate m (Some 0)) ++ rest))) empty
          ∙ alike last
          ∙ sym (ap (λ b. joined (option_to_list last ++ (cond b (run ∷ []) [] ++ part_runs kept))) (le-ltb span.0 span.1 none)))
    ]

pub runs_of-plain : (text : List ℕ) (kept : List SpanOf) → Parts text 0 kept → list_any is_markup text ≡ false → runs_of text kept ≡ joined (part_runs kept)
runs_of-plain text kept parts none =
    let line = text_in text kept in
    let size = sum_by-span_len text kept 0 parts in
    ap (λ looks. joined (byte_runs_in kept looks)) (looks-plain line (IsPlain-text_in text kept none))
    ∙ joined-parts kept (length line) None (omega arith)
