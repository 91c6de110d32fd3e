-- The stanzas of a text follow one another from fresh point to fresh point.
use Rattle.std.proofs.Common.{◌≡◌, ◌==◌, ℕ, ◌+◌, ◌-◌, ◌<◌, ◌≤◌, zero, suc, Bool, true, false, List, [], ◌∷◌, map, length, take, drop, slice_get, Some, refl, sym, ap, subst, ◌∙◌, inl, inr, arith, length-take, length-drop}
use Rattle.std.proofs.lemmas.Bool.{cases_Bool, cond-true, cond-false, ne_eqb, true≢false}
use Rattle.std.proofs.lemmas.List.{drop_all, drop-map}
use Rattle.spec_script.specs.declared.Sort.{Sort}
use Rattle.spec_script.specs.declared.Sort.TheVariants as sorts
use Rattle.spec_script.specs.Marked.{inside_after}
use Rattle.spec_script.specs.Boneyards.{yard_turns}
use Rattle.spec_script.specs.LongestRuns.{Group, members, longest_runs, run_len}
use Rattle.spec_script.specs.Stanzas.{Kept, kept_each, kept_lines, is_empty, one_stanza, sort_at, lines_from, stanza_lines, stanza_of, stanza_at, stanzas_in, stanzas_from, LeadsOn}
use Rattle.spec_script.proofs.YardLaws.{yards-line_by_line}
use Rattle.spec_script.proofs.LongestRuns.{first_run, run_at}
use Rattle.spec_script.proofs.StanzaLines.{kept_by_line, up_to_empty, stanza-up_to_empty}

length-by_line : (inside : Bool) (texts : List (List ℕ)) → length (kept_by_line inside texts) ≡ length texts
length-by_line inside [] = refl
length-by_line inside (text ∷ texts) = ap suc (length-by_line (inside_after yard_turns inside text) texts)

-- A text has as many lines outside its boneyards as it has lines.
pub length-kept : (texts : List (List ℕ)) → length (kept_lines texts) ≡ length texts
length-kept texts = ap length (ap (kept_each texts) (yards-line_by_line texts)) ∙ length-by_line false texts

is_empty-Empty : (sort : Sort) → is_empty sort ≡ true → sort ≡ sorts.Empty
is_empty-Empty sorts.Empty h = refl
is_empty-Empty sorts.Held h = absurd (true≢false (sym h))
is_empty-Empty sorts.Absent h = absurd (true≢false (sym h))
is_empty-Empty sorts.Plain h = absurd (true≢false (sym h))

some-up_to_empty : (line : Kept) (lines : List Kept) → 0 < length (up_to_empty (line ∷ lines))
some-up_to_empty line lines =
    elim (cases_Bool (is_empty line.sort)) [
      | inl empty ↦ subst (λ l. 0 < length l) (sym (cond-true (is_empty line.sort) (line ∷ []) (line ∷ up_to_empty lines) empty)) (omega arith)
      | inr other ↦ subst (λ l. 0 < length l) (sym (cond-false (is_empty line.sort) (line ∷ []) (line ∷ up_to_empty lines) other)) (omega arith)
    ]

abbrev Ends : List Kept → Type 0
Ends lines = length (up_to_empty lines) < length lines → slice_get (map sort_at lines) (length (up_to_empty lines) - 1) ≡ Some sorts.Empty

ends_behind : (line : Kept) (rest : List Kept) → Ends rest → length (line ∷ up_to_empty rest) < length (line ∷ rest) → slice_get (map sort_at (line ∷ rest)) (length (line ∷ up_to_empty rest) - 1) ≡ Some sorts.Empty
ends_behind line [] ends less = absurd (omega (arith, less))
ends_behind line (next ∷ rest) ends less =
    let n = length (up_to_empty (next ∷ rest)) in
    let some = some-up_to_empty next rest in
    let at : suc n - 1 ≡ suc (n - 1) = omega arith in
    ap (slice_get (map sort_at (line ∷ next ∷ rest))) at ∙ ends (omega arith)

-- The last line up to the first empty one is empty, where lines are left behind it.
ends-empty : (lines : List Kept) → Ends lines
ends-empty [] h = absurd (omega (arith, h))
ends-empty (line ∷ lines) h =
    let P : List Kept → Type 0 = λ l. length l < length (line ∷ lines) → slice_get (map sort_at (line ∷ lines)) (length l - 1) ≡ Some sorts.Empty in
    elim (cases_Bool (is_empty line.sort)) [
      | inl empty ↦ subst P (sym (cond-true (is_empty line.sort) (line ∷ []) (line ∷ up_to_empty lines) empty)) (λ _. ap (λ s. Some s) (is_empty-Empty line.sort empty)) h
      | inr other ↦ subst P (sym (cond-false (is_empty line.sort) (line ∷ []) (line ∷ up_to_empty lines) other)) (ends_behind line lines (ends-empty lines)) h
    ]

slice_get-drop : {X : Type 0} (xs : List X) (i j : ℕ) → slice_get (drop i xs) j ≡ slice_get xs (i + j)
slice_get-drop xs zero j = let same : j ≡ 0 + j = omega arith in ap (slice_get xs) same
slice_get-drop [] (suc i) j = refl
slice_get-drop (x ∷ xs) (suc i) j = let same : suc (i + j) ≡ suc i + j = omega arith in slice_get-drop xs i j ∙ ap (slice_get (x ∷ xs)) same

-- What the stanza at a place is, as a run of lines.
record StanzaRun (texts : List (List ℕ)) (first : ℕ) : Type 0 where
  group : Group Kept
  lines : members group ≡ stanza_lines texts first
  split : longest_runs one_stanza (lines_from texts first) ≡ group ∷ longest_runs one_stanza (lines_from texts (first + length (stanza_lines texts first)))
  some : 0 < length (stanza_lines texts first)
  within : first + length (stanza_lines texts first) ≤ length texts

stanza_run : (texts : List (List ℕ)) (first : ℕ) → first < length texts → StanzaRun texts first
stanza_run texts first low =
    let all = kept_lines texts in
    let rest = lines_from texts first in
    let n = run_len one_stanza rest in
    let count : length rest ≡ length texts - first = length-drop first all ∙ ap (λ m. m - first) (length-kept texts) in
    let r = first_run one_stanza rest (omega arith) in
    let len : length (stanza_lines texts first) ≡ n = omega (arith, length-take n rest, r.low) in
    let a = run_at one_stanza all first (first + n) (omega (arith, length-kept texts)) refl in
    let same : first + n - first ≡ n = omega arith in
    record {
      group = record { first = a.first; more = a.more };
      lines = sym a.slice ∙ ap (λ k. take k rest) same;
      split = a.split ∙ ap (λ k. record { first = a.first; more = a.more } ∷ longest_runs one_stanza (lines_from texts (first + k))) (sym len);
      some = omega (arith, r.some);
      within = omega (arith, r.low);
    }

-- Behind a stanza the next one begins.
pub stanza-leads_on : (texts : List (List ℕ)) (first : ℕ) → first < length texts → LeadsOn texts first (stanza_at texts first)
stanza-leads_on texts first low =
    let r = stanza_run texts first low in
    let lines = stanza_lines texts first in
    let n = length lines in
    let rest = lines_from texts first in
    let later = longest_runs one_stanza (lines_from texts (first + n)) in
    let more : ((first + n) == 0) ≡ false = ne_eqb (first + n) 0 (λ e. omega (arith, r.some)) in
    let ends : first + n < length texts → slice_get (map sort_at (kept_lines texts)) (first + n - 1) ≡ Some sorts.Empty = λ less.
    let up : length (up_to_empty rest) ≡ n = ap length (sym (stanza-up_to_empty rest)) in
    let count : length rest ≡ length texts - first = length-drop first (kept_lines texts) ∙ ap (λ m. m - first) (length-kept texts) in
    let at : first + n - 1 ≡ first + (length (up_to_empty rest) - 1) = omega (arith, r.some) in
    ap (slice_get (map sort_at (kept_lines texts))) at
    ∙ sym (slice_get-drop (map sort_at (kept_lines texts)) first (length (up_to_empty rest) - 1))
    ∙ ap (λ ls. slice_get ls (length (up_to_empty rest) - 1)) (drop-map sort_at first (kept_lines texts))
    ∙ ends-empty rest (omega arith) in
    record {
      some = r.some;
      within = r.within;
      fresh = λ less. inr (ends less);
      rest =
          ap (stanzas_in (first == 0)) r.split
          ∙ ap (λ ls. stanza_of (first == 0) ls ∷ stanzas_in false later) r.lines
          ∙ ap (λ b. stanza_at texts first ∷ stanzas_in b later) (sym more);
    }

-- At the end of the text no stanza begins.
pub stanzas-end : (texts : List (List ℕ)) (first : ℕ) → length texts ≤ first → stanzas_from texts first ≡ []
stanzas-end texts first h =
    ap (λ ls. stanzas_in (first == 0) (longest_runs one_stanza ls)) (drop_all first (kept_lines texts) (omega (arith, length-kept texts)))
