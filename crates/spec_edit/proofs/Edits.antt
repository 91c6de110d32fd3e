-- Exchanged lines are an edit.
use Rattle.std.proofs.Common.{◌≡◌, ℕ, ◌+◌, ◌≤◌, List, ◌++◌, length, take, drop, sym, ap, ap₂, subst, ◌∙◌, arith, append_assoc, length-append, length-take}
use Rattle.std.proofs.lemmas.List.{take_at, drop_at, take-map, drop-map, map-append, length-map}
use Rattle.spec_text.specs.Lines.{LineState, line_texts}
use Rattle.spec_edit.specs.Windows.{IsEdited}

pub edited-exchange : (before others : List (List ℕ)) (first old : ℕ) → first + old ≤ length before → IsEdited before (take first before ++ (others ++ drop (first + old) before)) first old (length others)
edited-exchange before others first old low =
    let front = take first before in
    let rest = drop (first + old) before in
    let count : length front ≡ first = omega (arith, length-take first before, low) in
    let both : length (front ++ others) ≡ first + length others = length-append front others ∙ ap (λ n. n + length others) count in
    record {
      taken = low;
      put = omega (arith, length-append front (others ++ rest), length-append others rest, count);
      start = sym (take_at front (others ++ rest) first count);
      rest = sym (ap (drop (first + length others)) (sym (append_assoc front others rest)) ∙ drop_at (front ++ others) rest (first + length others) both);
    }

-- The same of the lines of a state, whose ids and marks don't matter here.
pub edited-lines : (lines others : List LineState) (first old : ℕ) → first + old ≤ length lines → IsEdited (line_texts lines) (line_texts (take first lines ++ (others ++ drop (first + old) lines))) first old (length others)
edited-lines lines others first old low =
    let text : LineState → List ℕ = λ (line : LineState). line.text in
    let count : length (line_texts others) ≡ length others = length-map others text in
    let texts : line_texts (take first lines ++ (others ++ drop (first + old) lines)) ≡ take first (line_texts lines) ++ (line_texts others ++ drop (first + old) (line_texts lines)) =
    map-append text (take first lines) (others ++ drop (first + old) lines)
    ∙ ap₂ (λ (x y : List (List ℕ)). x ++ y) (sym (take-map text first lines)) (map-append text others (drop (first + old) lines) ∙ ap (λ (ts : List (List ℕ)). line_texts others ++ ts) (sym (drop-map text (first + old) lines))) in
    subst (λ n. IsEdited (line_texts lines) (line_texts (take first lines ++ (others ++ drop (first + old) lines))) first old n) count
    (subst (λ ts. IsEdited (line_texts lines) ts first old (length (line_texts others))) (sym texts)
    (edited-exchange (line_texts lines) (line_texts others) first old (omega (arith, low, length-map lines text))))

-- An edit taken back is an edit.
pub edited-back : (before after : List (List ℕ)) (first old new : ℕ) → IsEdited before after first old new → IsEdited after before first new old
edited-back before after first old new e = record { taken = e.put; put = e.taken; start = sym e.start; rest = sym e.rest }
