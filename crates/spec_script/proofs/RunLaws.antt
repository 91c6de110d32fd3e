-- The runs of a line are parts of it in order, and show what is left of its cleaned text.
use Rattle.std.proofs.Common.{◌≡◌, ℕ, zero, suc, ◌+◌, ◌<◌, ◌≤◌, ◌⊎◌, ◌==◌, true, false, ◌&&◌, List, [], ◌∷◌, ◌++◌, length, sum_by, map, get_or, slice_index, slice_range, take, drop, Option, Some, None, refl, sym, ap, subst, ◌∙◌, inl, inr, arith, length-append, length-drop}
use Rattle.std.specs.Str.{IsUtf8, IsCharBoundary}
use Rattle.std.proofs.lemmas.Bool.{cases_Bool, and_parts, and_from, eqb-true, eq-eqb}
use Rattle.std.proofs.lemmas.List.{drop_all, drop_more, get_or-take, get_or-drop, get_or_append_left, get_or-append-add, length-take-le}
use Rattle.std.proofs.lemmas.List.Edits.{get_or-between}
use Rattle.std.proofs.lemmas.Str.{IsCharBoundary-before_ascii, IsCharBoundary-after_ascii}
use Rattle.std.proofs.lemmas.List.Sums.{sum_by-cons}
use Rattle.std.proofs.lemmas.List.FromFn.{length-map-range_with_len}
use Rattle.spec_text.specs.Parts.{SpanOf, Parts}
use Rattle.spec_script.specs.declared.Run.{Run}
use Rattle.spec_script.specs.Runs.{span_of, RunParts}
use Rattle.spec_script.specs.Spans.{span_len, text_in}
use Rattle.spec_script.specs.Emphasis.{looks_of, byte_runs, byte_runs_in, goes_on, joined, runs_of}
use Rattle.spec_script.proofs.SpanLaws.{length-slice_range}
use Rattle.spec_script.proofs.JoinLaws.{union, joined-on, joined-off}
use Rattle.spec_script.proofs.LookLaws.{HasAsciiEdges, looks-edges}

-- Parts have as many bytes as their places say.
pub sum_by-span_len : (text : List ℕ) (kept : List SpanOf) (at : ℕ) → Parts text at kept → sum_by span_len kept ≡ length (text_in text kept)
sum_by-span_len text [] at parts = refl
sum_by-span_len text (span ∷ kept) at parts =
    sum_by-cons span_len span kept
    ∙ ap (λ n. span_len span + n) (sum_by-span_len text kept span.1 parts.2)
    ∙ ap (λ n. n + length (text_in text kept)) (sym (length-slice_range text span.0 span.1 parts.1.order parts.1.end.0))
    ∙ sym (length-append (slice_range text span.0 span.1) (text_in text kept))

-- Each byte has a look.
pub length-looks_of : (line : List ℕ) → length (looks_of line) ≡ length line
length-looks_of line = length-map-range_with_len _ 0 (length line)

-- Runs behind a run: each begins where the one before it ends or later, and where they don't go on, both lie between characters.
abbrev pub Follow : List ℕ → Run → List Run → Type 0
Follow text run [] = IsCharBoundary text run.to
Follow text run (next ∷ more) =
    (run.to ≤ next.from) × (next.from ≤ next.to)
    × ((goes_on run next ≡ true) ⊎ (IsCharBoundary text run.to × IsCharBoundary text next.from))
    × Follow text next more

-- Such runs, of which the first doesn't begin before a place.
abbrev pub AreRunsFrom : List ℕ → ℕ → List Run → Type 0
AreRunsFrom text at [] = Unit {0}
AreRunsFrom text at (run ∷ more) = (at ≤ run.from) × (run.from ≤ run.to) × IsCharBoundary text run.from × Follow text run more

Follow-alike : (text : List ℕ) (run other : Run) (runs : List Run) → run.to ≡ other.to → run.style ≡ other.style → Follow text run runs → Follow text other runs
Follow-alike text run other [] to style f = subst (IsCharBoundary text) to f
Follow-alike text run other (next ∷ more) to style f = (
  subst (λ n. n ≤ next.from) to f.0,
  f.1,
  elim f.2 [
    | inl on ↦ inl (ap (λ n. (n == next.from) && (other.style == next.style)) (sym to) ∙ ap (λ s. (run.to == next.from) && (s == next.style)) (sym style) ∙ on)
    | inr apart ↦ inr (subst (IsCharBoundary text) to apart.0, apart.1)
  ],
  f.3,
)

module _ (text : List ℕ) where
  -- Joined, they are parts of the text.
  joined-Parts : (run : Run) (runs : List Run) (at : ℕ) → at ≤ run.from → run.from ≤ run.to → IsCharBoundary text run.from → Follow text run runs
      → Parts text at (map span_of (joined (run ∷ runs)))
  joined-Parts run [] at behind order start f = (behind, record { order = order; start = start; end = f }, tt)
  joined-Parts run (next ∷ more) at behind order start f =
      let size = f.1 in
      let gap = f.0 in
      elim (cases_Bool (goes_on run next)) [
        | inl on ↦ subst (λ (rs : List Run). Parts text at (map span_of rs)) (sym (joined-on run next more on))
            (joined-Parts (union run next) more at behind (omega arith) start
            (Follow-alike text next (union run next) more refl (sym (eqb-true run.style next.style (and_parts (run.to == next.from) (run.style == next.style) on).1)) f.3))
        | inr off ↦ elim f.2 [
          | inl on ↦ (let e : true ≡ false = sym on ∙ off in cc)
          | inr apart ↦ subst (λ (rs : List Run). Parts text at (map span_of rs)) (sym (joined-off run next more off)) (
            behind,
            record { order = order; start = start; end = apart.0 },
            joined-Parts next more run.to f.0 f.1 apart.1 f.3,
          )
        ]
      ]

  pub joined-RunParts : (runs : List Run) → AreRunsFrom text 0 runs → RunParts text (joined runs)
  joined-RunParts [] are = tt
  joined-RunParts (run ∷ more) are = joined-Parts run more 0 are.0 are.1 are.2 are.3

  AreRunsFrom-lower : (runs : List Run) (low at : ℕ) → low ≤ at → AreRunsFrom text at runs → AreRunsFrom text low runs
  AreRunsFrom-lower [] low at h are = tt
  AreRunsFrom-lower (run ∷ more) low at h are = (omega (arith, are.0), are.1, are.2, are.3)

  Follow-apart : (run : Run) (runs : List Run) (at : ℕ) → run.to ≤ at → IsCharBoundary text run.to → AreRunsFrom text at runs → Follow text run runs
  Follow-apart run [] at h end are = end
  Follow-apart run (next ∷ more) at h end are = (omega (arith, are.0), are.1, inr (end, are.2), are.3)

  -- From a look on, the next ones: where two differ, and at the end, a character ends. The first of them stands at a place.
  abbrev CutsText : ℕ → Option ℕ → List (Option ℕ) → Type 0
  CutsText at look [] = IsCharBoundary text at
  CutsText at look (next ∷ looks) = ((look ≡ next) ⊎ IsCharBoundary text at) × CutsText (at + 1) next looks

  differ : {P : Type 0} (look next : Option ℕ) → (look ≡ next) ⊎ P → (look ≡ next → ⊥) → P
  differ look next (inl same) other = absurd (other same)
  differ look next (inr p) other = p

  -- The look of the byte before, which is the last of a run, or hidden.
  abbrev look_of : Option Run → Option ℕ
  look_of None = None
  look_of (Some run) = Some run.style

  abbrev EndsAt : ℕ → Option Run → Type 0
  EndsAt at None = Unit {0}
  EndsAt at (Some run) = run.to ≡ at

  abbrev AreBehind : ℕ → Option Run → List Run → Type 0
  AreBehind at None runs = AreRunsFrom text at runs
  AreBehind at (Some run) runs = Follow text run runs

  further : (at : ℕ) (looks : List (Option ℕ)) (rest : List Run) → AreRunsFrom text (at + suc (length looks)) rest → AreRunsFrom text (at + 1 + length looks) rest
  further at looks rest are = let e : at + suc (length looks) ≡ at + 1 + length looks = omega arith in subst (λ n. AreRunsFrom text n rest) e are

  -- The runs of a part's bytes from one on, and those of the parts behind it.
  byte_runs-behind : (looks : List (Option ℕ)) (last : Option Run) (at : ℕ) (rest : List Run) → EndsAt at last → CutsText at (look_of last) looks
      → AreRunsFrom text (at + length looks) rest → AreBehind at last (byte_runs at looks ++ rest)
  byte_runs-behind [] None at rest to cuts are = AreRunsFrom-lower rest at (at + 0) (omega arith) are
  byte_runs-behind [] (Some run) at rest to cuts are = Follow-apart run rest (at + 0) (omega arith) (subst (IsCharBoundary text) (sym to) cuts) are
  byte_runs-behind (None ∷ looks) None at rest to cuts are =
      AreRunsFrom-lower (byte_runs (at + 1) looks ++ rest) at (at + 1) (omega arith)
      (byte_runs-behind looks None (at + 1) rest tt cuts.1 (further at looks rest are))
  byte_runs-behind (None ∷ looks) (Some run) at rest to cuts are =
      Follow-apart run (byte_runs (at + 1) looks ++ rest) (at + 1) (omega arith)
      (subst (IsCharBoundary text) (sym to) (differ (Some run.style) None cuts.0 (λ e. cc)))
      (byte_runs-behind looks None (at + 1) rest tt cuts.1 (further at looks rest are))
  byte_runs-behind (Some style ∷ looks) None at rest to cuts are = (
    omega arith,
    omega arith,
    differ None (Some style) cuts.0 (λ e. cc),
    byte_runs-behind looks (Some (record { from = at; to = at + 1; style = style })) (at + 1) rest refl cuts.1 (further at looks rest are),
  )
  byte_runs-behind (Some style ∷ looks) (Some run) at rest to cuts are = (
    omega arith,
    omega arith,
    elim cuts.0 [
      | inl same ↦ (let alike : run.style ≡ style = cc in inl (and_from (run.to == at) (run.style == style) (eq-eqb run.to at to) (eq-eqb run.style style alike)))
      | inr apart ↦ inr (subst (IsCharBoundary text) (sym to) apart, apart)
    ],
    byte_runs-behind looks (Some (record { from = at; to = at + 1; style = style })) (at + 1) rest refl cuts.1 (further at looks rest are),
  )

  -- The looks of a part's bytes behind the j-th one.
  inner_cuts : (bytes : List ℕ) (looks : List (Option ℕ)) (at m j : ℕ) → IsUtf8 text → j + 1 + m ≡ length bytes → length looks ≡ length bytes → at + length bytes ≤ length text
      → ((k : ℕ) → k < length bytes → slice_index bytes k ≡ slice_index text (at + k)) → HasAsciiEdges bytes looks → IsCharBoundary text (at + length bytes)
      → CutsText (at + (j + 1)) (get_or looks j None) (drop (j + 1) looks)
  inner_cuts bytes looks at zero j u all same low here edges end =
      let e : at + length bytes ≡ at + (j + 1) = omega arith in
      subst (CutsText (at + (j + 1)) (get_or looks j None)) (sym (drop_all (j + 1) looks (omega arith))) (subst (IsCharBoundary text) e end)
  inner_cuts bytes looks at (suc m) j u all same low here edges end =
      let next : suc j ≡ j + 1 = omega arith in
      let behind : at + j + 1 ≡ at + (j + 1) = omega arith in
      let before : at + suc j ≡ at + (j + 1) = omega arith in
      let further : at + (j + 1 + 1) ≡ at + (j + 1) + 1 = omega arith in
      let look : get_or looks (suc j) None ≡ get_or looks (j + 1) None = ap (λ k. get_or looks k None) next in
      let edge : (get_or looks j None ≡ get_or looks (j + 1) None) ⊎ IsCharBoundary text (at + (j + 1)) =
      elim (edges.at j (omega arith)) [
        | inl alike ↦ inl (alike ∙ look)
        | inr small ↦ inr (elim small [
          | inl first ↦ subst (IsCharBoundary text) behind (IsCharBoundary-after_ascii text (at + j) u (omega arith) (subst (λ b. b < 128) (here j (omega arith)) first))
          | inr second ↦ subst (IsCharBoundary text) before (IsCharBoundary-before_ascii text (at + suc j) (omega arith) (subst (λ b. b < 128) (here (suc j) (omega arith)) second))
        ])
      ] in
      subst (CutsText (at + (j + 1)) (get_or looks j None)) (sym (drop_more looks (j + 1) None (omega arith))) (
        edge,
        subst (λ n. CutsText n (get_or looks (j + 1) None) (drop (j + 1 + 1) looks)) further
            (inner_cuts bytes looks at m (j + 1) u (omega arith) same low here edges end),
      )

  part_cuts : (bytes : List ℕ) (looks : List (Option ℕ)) (at : ℕ) → IsUtf8 text → length looks ≡ length bytes → at + length bytes ≤ length text
      → ((k : ℕ) → k < length bytes → slice_index bytes k ≡ slice_index text (at + k)) → HasAsciiEdges bytes looks → IsCharBoundary text at → IsCharBoundary text (at + length bytes)
      → CutsText at None looks
  part_cuts bytes [] at u same low here edges start end = start
  part_cuts bytes (look ∷ looks) at u same low here edges start end =
      (inr start, inner_cuts bytes (look ∷ looks) at (length looks) 0 u (omega arith) same low here edges end)

  edges-left : (xs ys : List ℕ) (looks : List (Option ℕ)) → HasAsciiEdges (xs ++ ys) looks → HasAsciiEdges xs (take (length xs) looks)
  edges-left xs ys looks edges = record {
    at = λ k h.
        let all = length-append xs ys in
        let first : get_or looks k None ≡ get_or (take (length xs) looks) k None = sym (get_or-take (length xs) looks k None (omega arith)) in
        let second : get_or looks (suc k) None ≡ get_or (take (length xs) looks) (suc k) None = sym (get_or-take (length xs) looks (suc k) None h) in
        elim (edges.at k (omega arith)) [
          | inl e ↦ inl (sym first ∙ e ∙ second)
          | inr small ↦ inr (elim small [
            | inl f ↦ inl (subst (λ n. n < 128) (get_or_append_left xs ys 0 k (omega arith)) f)
            | inr f ↦ inr (subst (λ n. n < 128) (get_or_append_left xs ys 0 (suc k) h) f)
          ])
        ];
  }

  edges-right : (xs ys : List ℕ) (looks : List (Option ℕ)) → HasAsciiEdges (xs ++ ys) looks → HasAsciiEdges ys (drop (length xs) looks)
  edges-right xs ys looks edges = record {
    at = λ k h.
        let all = length-append xs ys in
        let further : length xs + suc k ≡ suc (length xs + k) = omega arith in
        let first = get_or-drop (length xs) looks k None in
        let second = get_or-drop (length xs) looks (suc k) None ∙ ap (λ n. get_or looks n None) further in
        elim (edges.at (length xs + k) (omega arith)) [
          | inl e ↦ inl (first ∙ e ∙ sym second)
          | inr small ↦ inr (elim small [
            | inl f ↦ inl (subst (λ n. n < 128) (get_or-append-add xs ys k 0) f)
            | inr f ↦ inr (subst (λ n. n < 128) (ap (slice_index (xs ++ ys)) (sym further) ∙ get_or-append-add xs ys (suc k) 0) f)
          ])
        ];
  }

  byte_runs_in-are : (spans : List SpanOf) (looks : List (Option ℕ)) (at : ℕ) → IsUtf8 text → Parts text at spans → length looks ≡ length (text_in text spans)
      → HasAsciiEdges (text_in text spans) looks → AreRunsFrom text at (byte_runs_in spans looks)
  byte_runs_in-are [] looks at u parts same edges = tt
  byte_runs_in-are (span ∷ spans) looks at u parts same edges =
      let bytes = slice_range text span.0 span.1 in
      let rest = text_in text spans in
      let n = span_len span in
      let order = parts.1.order in
      let fits = parts.1.end.0 in
      let len : length bytes ≡ n = length-slice_range text span.0 span.1 order fits in
      let whole = length-append bytes rest in
      let few : length (take n looks) ≡ n = length-take-le n looks (omega arith) in
      let ends : span.1 ≡ span.0 + length bytes = omega arith in
      let ends' : span.1 ≡ span.0 + length (take n looks) = omega arith in
      let here : (k : ℕ) → k < length bytes → slice_index bytes k ≡ slice_index text (span.0 + k) = λ k h. get_or-between text span.0 span.1 k 0 (omega arith) in
      let left = subst (λ m. HasAsciiEdges bytes (take m looks)) len (edges-left bytes rest looks edges) in
      let right = subst (λ m. HasAsciiEdges rest (drop m looks)) len (edges-right bytes rest looks edges) in
      let after = byte_runs_in-are spans (drop n looks) span.1 u parts.2 (omega (arith, length-drop n looks)) right in
      AreRunsFrom-lower (byte_runs span.0 (take n looks) ++ byte_runs_in spans (drop n looks)) at span.0 parts.0
      (byte_runs-behind (take n looks) None span.0 (byte_runs_in spans (drop n looks)) tt
      (part_cuts bytes (take n looks) span.0 u (few ∙ sym len) (omega arith) here left parts.1.start (subst (IsCharBoundary text) ends parts.1.end))
      (subst (λ m. AreRunsFrom text m (byte_runs_in spans (drop n looks))) ends' after))

-- The runs of a line are parts of it, in order.
pub RunParts-runs_of : (text : List ℕ) (kept : List SpanOf) → IsUtf8 text → Parts text 0 kept → RunParts text (runs_of text kept)
RunParts-runs_of text kept u parts =
    let line = text_in text kept in
    joined-RunParts text (byte_runs_in kept (looks_of line))
    (byte_runs_in-are text kept (looks_of line) 0 u parts (length-looks_of line) (looks-edges line))
