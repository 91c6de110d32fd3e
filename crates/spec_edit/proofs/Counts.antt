-- How many lines the stanzas of a text have.
use Rattle.std.proofs.Common.{◌≡◌, ◌==◌, ℕ, ◌+◌, ◌-◌, ◌≤◌, Bool, false, List, [], ◌∷◌, length, take, refl, sym, ap, ◌∙◌, arith, length-take, length-drop, length-append, All}
use Rattle.std.specs.List.{flat_map}
use Rattle.std.proofs.lemmas.List.Sums.{sum_by-cons}
use Rattle.std.proofs.lemmas.List.Elements.{All-nil, All-cons}
use Rattle.spec_script.specs.BlockValues.{StanzaOf}
use Rattle.spec_script.specs.LongestRuns.{Group, members, longest_runs}
use Rattle.spec_script.specs.Stanzas.{Kept, kept_lines, one_stanza, lines_from, stanza_of, stanzas_in, stanzas_from}
use Rattle.spec_script.proofs.LongestRuns.{longest_runs-exist}
use Rattle.spec_script.proofs.StanzaList.{length-kept}
use Rattle.spec_edit.specs.Windows.{stanza_lines_in, stanzas_between, HasLines}

abbrev lines_of : StanzaOf → ℕ
lines_of s = s.lines

count-in : (first : Bool) (groups : List (Group Kept)) → stanza_lines_in (stanzas_in first groups) ≡ length (flat_map members groups)
count-in first [] = refl
count-in first (g ∷ gs) =
    sum_by-cons lines_of (stanza_of first (members g)) (stanzas_in false gs)
    ∙ ap (λ n. length (members g) + n) (count-in false gs)
    ∙ sym (length-append (members g) (flat_map members gs))

count-lines : (first : Bool) (lines : List Kept) → stanza_lines_in (stanzas_in first (longest_runs one_stanza lines)) ≡ length lines
count-lines first lines = count-in first (longest_runs one_stanza lines) ∙ ap length (longest_runs-exist one_stanza lines).all

-- The stanzas from a place on have the lines from there on.
pub count-from : (texts : List (List ℕ)) (p : ℕ) → stanza_lines_in (stanzas_from texts p) ≡ length texts - p
count-from texts p = count-lines (p == 0) (lines_from texts p) ∙ length-drop p (kept_lines texts) ∙ ap (λ n. n - p) (length-kept texts)

pub count-between : (texts : List (List ℕ)) (a b : ℕ) → b ≤ length texts → stanza_lines_in (stanzas_between texts a b) ≡ b - a
count-between texts a b low =
    count-lines (a == 0) (take (b - a) (lines_from texts a)) ∙ omega (arith, low, length-take (b - a) (lines_from texts a), length-drop a (kept_lines texts), length-kept texts)

lines-in : (first : Bool) (groups : List (Group Kept)) → All HasLines (stanzas_in first groups)
lines-in first [] = All-nil HasLines
lines-in first (g ∷ gs) = All-cons HasLines (stanza_of first (members g)) (stanzas_in false gs) (record { some = omega arith }) (lines-in false gs)

-- Each stanza has a line.
pub lines-from : (texts : List (List ℕ)) (p : ℕ) → All HasLines (stanzas_from texts p)
lines-from texts p = lines-in (p == 0) (longest_runs one_stanza (lines_from texts p))
