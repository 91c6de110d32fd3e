-- A walk over a line, from one end of a boneyard to the next.
use Rattle.std.specs.Prelude.{◌≡◌, ℕ, Bool, true, false, not, ◌||◌, ◌==◌, List, [], ◌∷◌, ◌++◌, length, drop, replicate, ◌<◌, ◌≤◌, ◌+◌}
use Rattle.std.specs.List.{list_any}
use Rattle.std.proofs.Common.{cond, zero, suc, refl, sym, ap, ◌∙◌, append_assoc, add-zero, zero-add, arith}
use Rattle.std.proofs.lemmas.Bool.{and_left, le-ltb, or_left, or_parts, or_right, false≢true}
use Rattle.spec_text.specs.Parts.{SpanOf}
use Rattle.spec_script.specs.Marked.{covered, inside_after, turns_at}
use Rattle.spec_script.specs.Boneyards.{yard_turns}
use Rattle.spec_script.specs.Spans.{part, runs_left, is_touched}
use Rattle.spec_script.proofs.MarkedSteps.{turn-low, covered-turn, covered-on, inside_after-turn, inside_after-on}

-- The walk stands at a place: the parts made and those to come are the line's, and so are the state after it and the touch.
pub record Walked (text : List ℕ) (began inside touched : Bool) (from at : ℕ) (made : List SpanOf) : Type 0 where
  pub order : from ≤ at
  pub low : at ≤ length text
  pub closed : inside ≡ true → from ≡ at
  pub parts : made ++ runs_left from at (covered yard_turns inside (drop at text)) ≡ runs_left 0 0 (covered yard_turns began text)
  pub state : inside_after yard_turns inside (drop at text) ≡ inside_after yard_turns began text
  pub opened : inside ≡ true → touched ≡ true
  pub any : (touched || is_touched (covered yard_turns inside (drop at text))) ≡ (began || is_touched (covered yard_turns began text))

-- A part with no byte is none.
part-none : (at : ℕ) → part at at ≡ []
part-none at = ap (λ b. cond b ((at, at) ∷ []) []) (le-ltb at at (omega arith))

-- Behind a mark.
pub walked-turn : (text : List ℕ) (began inside touched : Bool) (from at : ℕ) (made more : List SpanOf) → Walked text began inside touched from at made → turns_at yard_turns inside text at ≡ true → more ≡ made ++ part from at → Walked text began (not inside) true (at + 2) (at + 2) more
walked-turn text began inside touched from at made more w t e =
    let turned = covered-turn yard_turns inside text at t in
    let rest : List SpanOf = runs_left (at + 2) (at + 2) (covered yard_turns (not inside) (drop (at + 2) text)) in
    let two : at + 1 + 1 ≡ at + 2 = omega arith in
    let left : runs_left from at (covered yard_turns inside (drop at text)) ≡ part from at ++ rest =
    ap (runs_left from at) turned
    ∙ ap (λ (l : List SpanOf). part from at ++ (l ++ runs_left (at + 1 + 1) (at + 1 + 1) (covered yard_turns (not inside) (drop (at + 2) text)))) (part-none (at + 1))
    ∙ ap (λ n. part from at ++ runs_left n n (covered yard_turns (not inside) (drop (at + 2) text))) two in
    let low = turn-low yard_turns inside text at t in
    record {
      order = omega arith;
      low = omega arith;
      closed = λ _. refl;
      parts = ap (λ (l : List SpanOf). l ++ rest) e ∙ append_assoc made (part from at) rest ∙ ap (λ (l : List SpanOf). made ++ l) (sym left) ∙ w.parts;
      state = sym (inside_after-turn yard_turns inside text at t) ∙ w.state;
      opened = λ _. refl;
      any = sym (or_right touched true refl) ∙ ap (λ l. touched || is_touched l) (sym turned) ∙ w.any;
    }

-- One byte on, inside a boneyard.
pub walked-inside : (text : List ℕ) (began inside touched : Bool) (from at : ℕ) (made : List SpanOf) → Walked text began inside touched from at made → at < length text → turns_at yard_turns inside text at ≡ false → inside ≡ true → Walked text began inside touched (at + 1) (at + 1) made
walked-inside text began inside touched from at made w h t i =
    let on = covered-on yard_turns inside text at h t in
    let rest : List Bool = covered yard_turns inside (drop (at + 1) text) in
    let gone : covered yard_turns inside (drop at text) ≡ true ∷ rest = on ∙ ap (λ (b : Bool). b ∷ rest) i in
    let none : part from at ≡ [] = ap (λ n. part n at) (w.closed i) ∙ part-none at in
    let left : runs_left from at (covered yard_turns inside (drop at text)) ≡ runs_left (at + 1) (at + 1) rest =
    ap (runs_left from at) gone ∙ ap (λ (l : List SpanOf). l ++ runs_left (at + 1) (at + 1) rest) none in
    record {
      order = omega arith;
      low = omega arith;
      closed = λ _. refl;
      parts = ap (λ (l : List SpanOf). made ++ l) (sym left) ∙ w.parts;
      state = sym (inside_after-on yard_turns inside text at h t) ∙ w.state;
      opened = w.opened;
      any = or_left touched (is_touched rest) (w.opened i) ∙ sym (or_left touched (is_touched (covered yard_turns inside (drop at text))) (w.opened i)) ∙ w.any;
    }

-- One byte on, outside.
pub walked-on : (text : List ℕ) (began inside touched : Bool) (from at : ℕ) (made : List SpanOf) → Walked text began inside touched from at made → at < length text → turns_at yard_turns inside text at ≡ false → inside ≡ false → Walked text began inside touched from (at + 1) made
walked-on text began inside touched from at made w h t i =
    let on = covered-on yard_turns inside text at h t in
    let rest : List Bool = covered yard_turns inside (drop (at + 1) text) in
    let kept : covered yard_turns inside (drop at text) ≡ false ∷ rest = on ∙ ap (λ (b : Bool). b ∷ rest) i in
    let order = w.order in
    record {
      order = omega arith;
      low = omega arith;
      closed = λ e. absurd (false≢true (sym i ∙ e));
      parts = ap (λ (l : List SpanOf). made ++ l) (sym (ap (runs_left from at) kept)) ∙ w.parts;
      state = sym (inside_after-on yard_turns inside text at h t) ∙ w.state;
      opened = w.opened;
      any = ap (λ l. touched || is_touched l) (sym kept) ∙ w.any;
    }

-- A text without `/` that begins outside boneyards has none.
abbrev pub NoSlash : List ℕ → Type 0
NoSlash text = list_any (λ b. b == 47) text ≡ false

no_turn : (a b : ℕ) (rest : List ℕ) → NoSlash (a ∷ b ∷ rest) → yard_turns false a b ≡ false
no_turn a b rest none = and_left (a == 47) (b == 42) (or_parts _ _ none).0

pub no_covered : (text : List ℕ) → NoSlash text → covered yard_turns false text ≡ replicate (length text) false
no_covered [] none = refl
no_covered (a ∷ []) none = refl
no_covered (a ∷ b ∷ rest) none =
    ap (λ t. cond t (true ∷ true ∷ covered yard_turns true rest) (false ∷ covered yard_turns false (b ∷ rest))) (no_turn a b rest none)
    ∙ ap (λ (l : List Bool). false ∷ l) (no_covered (b ∷ rest) (or_parts _ _ none).1)

pub no_inside : (text : List ℕ) → NoSlash text → false ≡ inside_after yard_turns false text
no_inside [] none = refl
no_inside (a ∷ []) none = refl
no_inside (a ∷ b ∷ rest) none =
    no_inside (b ∷ rest) (or_parts _ _ none).1
    ∙ sym (ap (λ t. cond t (inside_after yard_turns true rest) (inside_after yard_turns false (b ∷ rest))) (no_turn a b rest none))

untouched : (n : ℕ) → is_touched (replicate n false) ≡ false
untouched zero = refl
untouched (suc n) = untouched n

pub no_touch : (text : List ℕ) → NoSlash text → false ≡ is_touched (covered yard_turns false text)
no_touch text none = sym (ap is_touched (no_covered text none) ∙ untouched (length text))

runs_left-all : (from at n : ℕ) → runs_left from at (replicate n false) ≡ part from (at + n)
runs_left-all from at zero = ap (part from) (sym (add-zero at))
runs_left-all from at (suc n) = let next : at + 1 + n ≡ at + suc n = omega arith in runs_left-all from (at + 1) n ∙ ap (part from) next

-- Such a text is one part.
pub no_cut : (text : List ℕ) → NoSlash text → part 0 (length text) ≡ runs_left 0 0 (covered yard_turns false text)
no_cut text none = sym (ap (runs_left 0 0) (no_covered text none) ∙ runs_left-all 0 0 (length text) ∙ ap (part 0) (zero-add (length text)))
