-- One step of a reading by marks, at a place of the text.
use Rattle.std.specs.Prelude.{◌≡◌, ℕ, Bool, true, false, not, ◌&&◌, List, [], ◌∷◌, Option, Some, None, length, drop, slice_index, ◌<◌, ◌≤◌, ◌+◌}
use Rattle.std.proofs.Common.{cond, refl, sym, ap, ◌∙◌, arith, inl, inr}
use Rattle.std.proofs.lemmas.Bool.{cases_lt, lt-ltb, ltb-true, and_parts}
use Rattle.std.proofs.lemmas.List.{drop_more, drop_all}
use Rattle.spec_script.specs.Marked.{Turns, covered, inside_after, turns_at, open_at}

-- Two bytes or more are left of the text.
pub two_left : (text : List ℕ) (at : ℕ) → at + 1 < length text → drop at text ≡ slice_index text at ∷ slice_index text (at + 1) ∷ drop (at + 2) text
two_left text at h =
    let same : at + 1 + 1 ≡ at + 2 = omega arith in
    drop_more text at 0 (omega arith)
    ∙ ap (λ (l : List ℕ). slice_index text at ∷ l) (drop_more text (at + 1) 0 h ∙ ap (λ n. slice_index text (at + 1) ∷ drop n text) same)

-- From the second of them on.
pub one_left : (text : List ℕ) (at : ℕ) → at + 1 < length text → slice_index text (at + 1) ∷ drop (at + 2) text ≡ drop (at + 1) text
one_left text at h =
    let same : at + 1 + 1 ≡ at + 2 = omega arith in
    ap (λ n. slice_index text (at + 1) ∷ drop n text) (sym same) ∙ sym (drop_more text (at + 1) 0 h)

-- The last byte of the text is left.
pub last_left : (text : List ℕ) (at : ℕ) → at < length text → length text ≤ at + 1 → drop at text ≡ slice_index text at ∷ []
last_left text at h e = drop_more text at 0 h ∙ ap (λ (l : List ℕ). slice_index text at ∷ l) (drop_all (at + 1) text e)

pub turn_test : (turns : Turns) (inside : Bool) (text : List ℕ) (at : ℕ) → at + 1 < length text → turns_at turns inside text at ≡ turns inside (slice_index text at) (slice_index text (at + 1))
turn_test turns inside text at h =
    ap (λ b. b && turns inside (slice_index text at) (slice_index text (at + 1))) (lt-ltb (at + 1) (length text) h)

-- Where two bytes end the state, both are left of the text.
pub turn-low : (turns : Turns) (inside : Bool) (text : List ℕ) (at : ℕ) → turns_at turns inside text at ≡ true → at + 1 < length text
turn-low turns inside text at t = ltb-true (at + 1) (length text) (and_parts _ _ t).0

-- A reading F of what is left, by its equations: T from behind a mark on, G from the next byte on.
module _ {Y : Type 0} (turns : Turns) (inside : Bool) (F T G : List ℕ → Y)
    (two : (a b : ℕ) (rest : List ℕ) → F (a ∷ b ∷ rest) ≡ cond (turns inside a b) (T rest) (G (b ∷ rest)))
    (one : (a : ℕ) → F (a ∷ []) ≡ G []) where
  reads : (text : List ℕ) (at : ℕ) → at + 1 < length text → F (drop at text) ≡ cond (turns_at turns inside text at) (T (drop (at + 2) text)) (G (drop (at + 1) text))
  reads text at low =
      ap F (two_left text at low)
      ∙ two (slice_index text at) (slice_index text (at + 1)) (drop (at + 2) text)
      ∙ ap (λ l. cond (turns inside (slice_index text at) (slice_index text (at + 1))) (T (drop (at + 2) text)) (G l)) (one_left text at low)
      ∙ ap (λ b. cond b (T (drop (at + 2) text)) (G (drop (at + 1) text))) (sym (turn_test turns inside text at low))

  pub reads_turn : (text : List ℕ) (at : ℕ) → turns_at turns inside text at ≡ true → F (drop at text) ≡ T (drop (at + 2) text)
  reads_turn text at t =
      reads text at (turn-low turns inside text at t) ∙ ap (λ b. cond b (T (drop (at + 2) text)) (G (drop (at + 1) text))) t

  pub reads_on : (text : List ℕ) (at : ℕ) → at < length text → turns_at turns inside text at ≡ false → F (drop at text) ≡ G (drop (at + 1) text)
  reads_on text at h t =
      elim (cases_lt (at + 1) (length text)) [
        | inl low ↦ reads text at low ∙ ap (λ b. cond b (T (drop (at + 2) text)) (G (drop (at + 1) text))) t
        | inr end ↦ ap F (last_left text at h end) ∙ one (slice_index text at) ∙ ap G (sym (drop_all (at + 1) text end))
      ]

pub covered-turn : (turns : Turns) (inside : Bool) (text : List ℕ) (at : ℕ) → turns_at turns inside text at ≡ true → covered turns inside (drop at text) ≡ true ∷ true ∷ covered turns (not inside) (drop (at + 2) text)
covered-turn turns inside =
    reads_turn turns inside (covered turns inside) (λ l. true ∷ true ∷ covered turns (not inside) l) (λ l. inside ∷ covered turns inside l) (λ _ _ _. refl) (λ _. refl)

pub covered-on : (turns : Turns) (inside : Bool) (text : List ℕ) (at : ℕ) → at < length text → turns_at turns inside text at ≡ false → covered turns inside (drop at text) ≡ inside ∷ covered turns inside (drop (at + 1) text)
covered-on turns inside =
    reads_on turns inside (covered turns inside) (λ l. true ∷ true ∷ covered turns (not inside) l) (λ l. inside ∷ covered turns inside l) (λ _ _ _. refl) (λ _. refl)

pub inside_after-turn : (turns : Turns) (inside : Bool) (text : List ℕ) (at : ℕ) → turns_at turns inside text at ≡ true → inside_after turns inside (drop at text) ≡ inside_after turns (not inside) (drop (at + 2) text)
inside_after-turn turns inside =
    reads_turn turns inside (inside_after turns inside) (inside_after turns (not inside)) (inside_after turns inside) (λ _ _ _. refl) (λ _. refl)

pub inside_after-on : (turns : Turns) (inside : Bool) (text : List ℕ) (at : ℕ) → at < length text → turns_at turns inside text at ≡ false → inside_after turns inside (drop at text) ≡ inside_after turns inside (drop (at + 1) text)
inside_after-on turns inside =
    reads_on turns inside (inside_after turns inside) (inside_after turns (not inside)) (inside_after turns inside) (λ _ _ _. refl) (λ _. refl)

pub open_at-turn : (turns : Turns) (inside : Bool) (opened : Option ℕ) (start : ℕ) (text : List ℕ) (at : ℕ) → turns_at turns inside text at ≡ true → open_at turns inside opened start (drop at text) ≡ open_at turns (not inside) (cond inside None (Some start)) (start + 2) (drop (at + 2) text)
open_at-turn turns inside opened start =
    reads_turn turns inside (open_at turns inside opened start) (open_at turns (not inside) (cond inside None (Some start)) (start + 2)) (open_at turns inside opened (start + 1)) (λ _ _ _. refl) (λ _. refl)

pub open_at-on : (turns : Turns) (inside : Bool) (opened : Option ℕ) (start : ℕ) (text : List ℕ) (at : ℕ) → at < length text → turns_at turns inside text at ≡ false → open_at turns inside opened start (drop at text) ≡ open_at turns inside opened (start + 1) (drop (at + 1) text)
open_at-on turns inside opened start =
    reads_on turns inside (open_at turns inside opened start) (open_at turns (not inside) (cond inside None (Some start)) (start + 2)) (open_at turns inside opened (start + 1)) (λ _ _ _. refl) (λ _. refl)
