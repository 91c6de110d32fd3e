-- Boneyards: what holds of every line.
use Rattle.std.specs.Prelude.{◌≡◌, ℕ, Bool, true, false, ◌&&◌, ◌||◌, ◌==◌, List, [], ◌∷◌, length, nat_le, ◌<◌}
use Rattle.std.specs.List.{list_all}
use Rattle.std.proofs.Common.{cond, refl, sym, ap, ◌∙◌, inl, inr, arith}
use Rattle.std.specs.Str.{IsUtf8}
use Rattle.std.proofs.lemmas.Bool.{cases_Bool, and_parts, and_right, eqb-true, true≢false}
use Rattle.spec_text.specs.Parts.{Parts}
use Rattle.spec_script.specs.declared.Sort.TheVariants as sorts
use Rattle.spec_script.specs.Marked.{covered, inside_after, line_by_line}
use Rattle.spec_script.specs.Boneyards.{yard_turns, yards, sort_of}
use Rattle.spec_script.specs.Trim.{is_space}
use Rattle.spec_script.specs.Spans.{runs_left, is_touched, bytes_left}
use Rattle.spec_script.proofs.MarkedLaws.{KeepsLines, length-covered, cut-covered}
use Rattle.spec_script.proofs.PartsLeft.{HasAsciiMarks, covered-edges, runs_left-whole}

first_below : (inside : Bool) (a b : ℕ) → yard_turns inside a b ≡ true → a < 128
first_below true a b t = omega (arith, eqb-true a 42 (and_parts (a == 42) (b == 47) t).0)
first_below false a b t = omega (arith, eqb-true a 47 (and_parts (a == 47) (b == 42) t).0)

second_below : (inside : Bool) (a b : ℕ) → yard_turns inside a b ≡ true → b < 128
second_below true a b t = omega (arith, eqb-true b 47 (and_parts (a == 42) (b == 47) t).1)
second_below false a b t = omega (arith, eqb-true b 42 (and_parts (a == 47) (b == 42) t).1)

-- The marks of boneyards are ASCII.
pub yard_marks : HasAsciiMarks yard_turns
yard_marks = record { first = first_below; second = second_below }

feed_before : (inside : Bool) (a : ℕ) → yard_turns inside a 10 ≡ false
feed_before true a = and_right (a == 42) (10 == 47) refl
feed_before false a = and_right (a == 47) (10 == 42) refl

feed_after : (inside : Bool) (b : ℕ) → yard_turns inside 10 b ≡ false
feed_after true b = refl
feed_after false b = refl

-- A mark of a boneyard stands in one line.
pub yard_lines : KeepsLines yard_turns
yard_lines = record { before = feed_before; after = feed_after }

-- The parts outside boneyards are parts of the line.
pub kept-Parts : (text : List ℕ) (inside : Bool) → IsUtf8 text → Parts text 0 (runs_left 0 0 (covered yard_turns inside text))
kept-Parts text inside u =
    runs_left-whole text (covered yard_turns inside text) u (length-covered yard_turns inside text) (covered-edges yard_turns yard_marks inside text)

-- Reading line after line with one bit finds what the boneyards of the whole text cover of each line.
pub yards-line_by_line : (lines : List (List ℕ)) → yards lines ≡ line_by_line yard_turns false lines
yards-line_by_line lines = cut-covered yard_turns yard_lines false lines

-- After a line that nothing touches the text is outside boneyards.
untouched : (inside : Bool) (text : List ℕ) → (inside || is_touched (covered yard_turns inside text)) ≡ false → inside_after yard_turns inside text ≡ false
untouched true text h = absurd (true≢false h)
untouched false [] h = refl
untouched false (a ∷ []) h = refl
untouched false (a ∷ b ∷ rest) h =
    let opened : Bool → List Bool = λ t. cond t (true ∷ true ∷ covered yard_turns true rest) (false ∷ covered yard_turns false (b ∷ rest)) in
    elim (cases_Bool (yard_turns false a b)) [
      | inl t ↦ absurd (true≢false (sym (ap (λ l. is_touched (opened l)) t) ∙ h))
      | inr t ↦
          ap (λ l. cond l (inside_after yard_turns true rest) (inside_after yard_turns false (b ∷ rest))) t
          ∙ untouched false (b ∷ rest) (sym (ap (λ l. is_touched (opened l)) t) ∙ h)
    ]

-- The line after an empty one begins outside boneyards.
pub empty-outside : (text : List ℕ) (began : Bool) → sort_of text began (covered yard_turns began text) ≡ sorts.Empty → inside_after yard_turns began text ≡ false
empty-outside text began h = untouched began text (not_touched (list_all is_space (bytes_left text (covered yard_turns began text))) (began || is_touched (covered yard_turns began text)) (nat_le 2 (length text) && list_all (λ b. b == 32) text) h)
  where
    not_touched : (spaces touched held : Bool) → cond spaces (cond touched sorts.Absent (cond held sorts.Held sorts.Empty)) sorts.Plain ≡ sorts.Empty → touched ≡ false
    not_touched true true held h = cc
    not_touched true false held h = refl
    not_touched false touched held h = cc
