-- The lines of a stanza, read one after the other from a fresh point.
use Rattle.std.proofs.Common.{◌≡◌, ℕ, ◌-◌, zero, suc, Bool, true, false, cond, not, if◌then◌else◌, List, [], ◌∷◌, map, take, drop, slice_get, Some, refl, sym, ap, subst, ◌∙◌, inl, inr, arith, All}
use Rattle.std.proofs.lemmas.Bool.{cases_Bool, cond-true, cond-false}
use Rattle.std.specs.Str.{IsUtf8}
use Rattle.std.proofs.lemmas.List.Elements.{All-nil, All-cons, All-head, All-tail, All-take, All-drop}
use Rattle.spec_text.specs.Parts.{Parts}
use Rattle.spec_script.specs.declared.Sort.TheVariants as sorts
use Rattle.spec_script.specs.Marked.{covered, inside_after, line_by_line}
use Rattle.spec_script.specs.Boneyards.{yard_turns, sort_of}
use Rattle.spec_script.specs.LongestRuns.{run_more, run_len}
use Rattle.spec_script.specs.Stanzas.{Kept, kept_line, kept_each, kept_lines, is_empty, one_stanza, sort_at, IsFresh, lines_from, stanza_lines}
use Rattle.spec_script.proofs.YardLaws.{yards-line_by_line, empty-outside, kept-Parts}

-- The lines outside boneyards, where the first begins inside one or not.
abbrev pub kept_by_line : Bool → List (List ℕ) → List Kept
kept_by_line inside texts = kept_each texts (line_by_line yard_turns inside texts)

-- The lines up to the first empty one, and that too.
abbrev pub up_to_empty : List Kept → List Kept
up_to_empty [] = []
up_to_empty (line ∷ lines) = if is_empty line.sort then line ∷ [] else line ∷ up_to_empty lines

after-empty : (inside : Bool) (texts : List (List ℕ)) (n : ℕ) → slice_get (map sort_at (kept_by_line inside texts)) n ≡ Some sorts.Empty → drop (suc n) (kept_by_line inside texts) ≡ kept_by_line false (drop (suc n) texts)
after-empty inside [] n is = absurd (cc (is))
after-empty inside (text ∷ texts) zero is =
    let empty : sort_of text inside (covered yard_turns inside text) ≡ sorts.Empty = cc (is) in
    ap (λ t. kept_by_line t texts) (empty-outside text inside empty)
after-empty inside (text ∷ texts) (suc n) is = after-empty (inside_after yard_turns inside text) texts n is

-- The lines from a fresh point on are read as if no boneyard were before them.
pub fresh-lines : (texts : List (List ℕ)) (first : ℕ) → IsFresh texts first → lines_from texts first ≡ kept_by_line false (drop first texts)
fresh-lines texts zero fresh = ap (kept_each texts) (yards-line_by_line texts)
fresh-lines texts (suc n) (inl never) = absurd (omega (arith, never))
fresh-lines texts (suc n) (inr empty) =
    let read : kept_lines texts ≡ kept_by_line false texts = ap (kept_each texts) (yards-line_by_line texts) in
    let before : suc n - 1 ≡ n = omega arith in
    let here : slice_get (map sort_at (kept_by_line false texts)) n ≡ Some sorts.Empty =
    sym (ap (λ ls. slice_get (map sort_at ls) n) read) ∙ sym (ap (slice_get (map sort_at (kept_lines texts))) before) ∙ empty in
    ap (drop (suc n)) read ∙ after-empty false texts n here

-- A stanza reaches up to the first empty line.
pub stanza-up_to_empty : (lines : List Kept) → take (run_len one_stanza lines) lines ≡ up_to_empty lines
stanza-up_to_empty [] = refl
stanza-up_to_empty (line ∷ []) = same (is_empty line.sort)
  where
    same : (b : Bool) → line ∷ [] ≡ cond b (line ∷ []) (line ∷ [])
    same true = refl
    same false = refl
stanza-up_to_empty (line ∷ next ∷ lines) =
    elim (cases_Bool (is_empty line.sort)) [
      | inl empty ↦
          ap (λ n. take (suc n) (line ∷ next ∷ lines)) (cond-false (not (is_empty line.sort)) (suc (run_more one_stanza next lines)) 0 (ap not empty))
          ∙ sym (cond-true (is_empty line.sort) (line ∷ []) (line ∷ up_to_empty (next ∷ lines)) empty)
      | inr some ↦
          ap (λ n. take (suc n) (line ∷ next ∷ lines)) (cond-true (not (is_empty line.sort)) (suc (run_more one_stanza next lines)) 0 (ap not some))
          ∙ ap (λ ls. line ∷ ls) (stanza-up_to_empty (next ∷ lines))
          ∙ sym (cond-false (is_empty line.sort) (line ∷ []) (line ∷ up_to_empty (next ∷ lines)) some)
    ]

-- The lines of the stanza that begins at a fresh point.
pub stanza_lines-read : (texts : List (List ℕ)) (first : ℕ) → IsFresh texts first → stanza_lines texts first ≡ up_to_empty (kept_by_line false (drop first texts))
stanza_lines-read texts first fresh = stanza-up_to_empty (lines_from texts first) ∙ ap up_to_empty (fresh-lines texts first fresh)

-- A line whose kept parts are parts of it.
abbrev pub HasParts : Kept → Type 0
HasParts line = Parts line.line 0 line.spans

kept_by_line-parts : (inside : Bool) (texts : List (List ℕ)) → All IsUtf8 texts → All HasParts (kept_by_line inside texts)
kept_by_line-parts inside [] utf8 = All-nil HasParts
kept_by_line-parts inside (text ∷ texts) utf8 =
    All-cons HasParts (kept_line text (record { began = inside; gone = covered yard_turns inside text })) (kept_by_line (inside_after yard_turns inside text) texts)
    (kept-Parts text inside (All-head IsUtf8 text texts utf8))
    (kept_by_line-parts (inside_after yard_turns inside text) texts (All-tail IsUtf8 text texts utf8))

-- The kept parts of each line of a stanza are parts of it.
pub stanza_lines-parts : (texts : List (List ℕ)) (first : ℕ) → All IsUtf8 texts → All HasParts (stanza_lines texts first)
stanza_lines-parts texts first utf8 =
    let all : All HasParts (kept_lines texts) = subst (All HasParts) (sym (ap (kept_each texts) (yards-line_by_line texts))) (kept_by_line-parts false texts utf8) in
    All-take HasParts (run_len one_stanza (lines_from texts first)) (lines_from texts first) (All-drop HasParts first (kept_lines texts) all)
