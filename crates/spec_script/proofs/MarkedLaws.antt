-- Marked texts, read line by line.
use Rattle.std.specs.Prelude.{◌≡◌, ℕ, Bool, true, false, not, List, [], ◌∷◌, ◌++◌, length, take, drop, slice_index_or, ◌+◌}
use Rattle.std.proofs.Common.{cond, suc, refl, sym, ap, ◌∙◌, append_assoc, inl, inr, arith}
use Rattle.std.proofs.lemmas.Bool.{cases_Bool}
use Rattle.std.proofs.lemmas.List.{length-append, take_all, take_at, drop_at, get_or_at}
use Rattle.spec_script.specs.Marked.{Turns, Covered, covered, inside_after, joined, cut, line_by_line}

-- Each byte has its flag.
pub length-covered : (turns : Turns) (inside : Bool) (text : List ℕ) → length (covered turns inside text) ≡ length text
length-covered turns inside [] = refl
length-covered turns inside (a ∷ []) = refl
length-covered turns inside (a ∷ b ∷ rest) =
    elim (cases_Bool (turns inside a b)) [
      | inl t ↦ ap (λ x. length (cond x (true ∷ true ∷ covered turns (not inside) rest) (inside ∷ covered turns inside (b ∷ rest)))) t
          ∙ ap (λ n. suc (suc n)) (length-covered turns (not inside) rest)
      | inr t ↦ ap (λ x. length (cond x (true ∷ true ∷ covered turns (not inside) rest) (inside ∷ covered turns inside (b ∷ rest)))) t
          ∙ ap suc (length-covered turns inside (b ∷ rest))
    ]

-- A line feed is in no mark.
pub record KeepsLines (turns : Turns) : Type 0 where
  pub before : (inside : Bool) (a : ℕ) → turns inside a 10 ≡ false
  pub after : (inside : Bool) (b : ℕ) → turns inside 10 b ≡ false

-- What follows a line feed is read from the state that the line leaves.
covered_one : (turns : Turns) (keeps : KeepsLines turns) (inside : Bool) (rest : List ℕ) → covered turns inside (10 ∷ rest) ≡ inside ∷ covered turns inside rest
covered_one turns keeps inside [] = refl
covered_one turns keeps inside (b ∷ rest) = ap (λ x. cond x (true ∷ true ∷ covered turns (not inside) rest) (inside ∷ covered turns inside (b ∷ rest))) (keeps.after inside b)

pub covered-feed : (turns : Turns) (keeps : KeepsLines turns) (inside : Bool) (line rest : List ℕ) → covered turns inside (line ++ 10 ∷ rest) ≡ covered turns inside line ++ inside_after turns inside line ∷ covered turns (inside_after turns inside line) rest
covered-feed turns keeps inside [] rest = covered_one turns keeps inside rest
covered-feed turns keeps inside (a ∷ []) rest =
    ap (λ x. cond x (true ∷ true ∷ covered turns (not inside) rest) (inside ∷ covered turns inside (10 ∷ rest))) (keeps.before inside a)
    ∙ ap (λ (l : List Bool). inside ∷ l) (covered_one turns keeps inside rest)
covered-feed turns keeps inside (a ∷ b ∷ line) rest =
    feed_step (turns inside a b) (true ∷ true ∷ covered turns (not inside) (line ++ 10 ∷ rest)) (inside ∷ covered turns inside (b ∷ line ++ 10 ∷ rest))
    (true ∷ true ∷ covered turns (not inside) line) (inside ∷ covered turns inside (b ∷ line))
    (inside_after turns (not inside) line) (inside_after turns inside (b ∷ line)) turns rest
    (ap (λ (l : List Bool). true ∷ true ∷ l) (covered-feed turns keeps (not inside) line rest))
    (ap (λ (l : List Bool). inside ∷ l) (covered-feed turns keeps inside (b ∷ line) rest))
  where
    feed_step : (t : Bool) (x y v w : List Bool) (i j : Bool) (turns : Turns) (rest : List ℕ) → x ≡ v ++ i ∷ covered turns i rest → y ≡ w ++ j ∷ covered turns j rest → cond t x y ≡ cond t v w ++ cond t i j ∷ covered turns (cond t i j) rest
    feed_step true x y v w i j turns rest p q = p
    feed_step false x y v w i j turns rest p q = q

-- The flags of the joined lines, cut at the line ends, are those of each line by itself.
pub cut-covered : (turns : Turns) (keeps : KeepsLines turns) (inside : Bool) (lines : List (List ℕ)) → cut inside lines (covered turns inside (joined lines)) ≡ line_by_line turns inside lines
cut-covered turns keeps inside [] = refl
cut-covered turns keeps inside (line ∷ []) =
    ap (λ l. record { began = inside; gone = l } ∷ []) (take_all (length line) (covered turns inside line) (omega (arith, length-covered turns inside line)))
cut-covered turns keeps inside (line ∷ next ∷ lines) =
    let here = covered turns inside line in
    let state = inside_after turns inside line in
    let rest = covered turns state (joined (next ∷ lines)) in
    let same = length-covered turns inside line in
    let further : List Bool = state ∷ rest in
    let one : length (here ++ state ∷ []) ≡ length line + 1 = length-append here (state ∷ []) ∙ ap (λ n. n + 1) same in
    let began : slice_index_or (here ++ further) (length line) false ≡ state = get_or_at here state rest false (length line) same in
    let gone : take (length line) (here ++ further) ≡ here = take_at here further (length line) same in
    let left : drop (length line + 1) (here ++ further) ≡ rest = ap (drop (length line + 1)) (sym (append_assoc here (state ∷ []) rest)) ∙ drop_at (here ++ state ∷ []) rest (length line + 1) one in
    ap (cut inside (line ∷ next ∷ lines)) (covered-feed turns keeps inside line (joined (next ∷ lines)))
    ∙ ap (λ l. record { began = inside; gone = l } ∷ cut (slice_index_or (here ++ further) (length line) false) (next ∷ lines) (drop (length line + 1) (here ++ further))) gone
    ∙ ap (λ b. record { began = inside; gone = here } ∷ cut b (next ∷ lines) (drop (length line + 1) (here ++ further))) began
    ∙ ap (λ l. record { began = inside; gone = here } ∷ cut state (next ∷ lines) l) left
    ∙ ap (λ (l : List Covered). record { began = inside; gone = here } ∷ l) (cut-covered turns keeps state (next ∷ lines))
