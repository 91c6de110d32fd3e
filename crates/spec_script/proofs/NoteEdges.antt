-- The notes of a stanza begin and end beside ASCII bytes, in each of its lines.
use Rattle.std.specs.Prelude.{◌≡◌, ℕ, suc, ◌+◌, ◌<◌, Bool, true, false, not, ◌&&◌, ◌||◌, List, [], ◌∷◌, ◌++◌, length, take, drop, slice_index_or}
use Rattle.std.proofs.Common.{◌⊎◌, cond, refl, sym, ap, subst, ◌∙◌, inl, inr, arith, append_assoc, length-append, length-drop, length-take-le, take_all}
use Rattle.std.proofs.lemmas.Bool.{cases_Bool, and_parts}
use Rattle.spec_script.specs.Marked.{joined, cut_flags}
use Rattle.spec_script.specs.Notes.{note_turns, has_close, noted, notes}
use Rattle.spec_script.proofs.PartsLeft.{HasAsciiEdges, edges_mark, edges_byte, edges-left, edges-right}
use Rattle.spec_script.proofs.NoteLaws.{note_marks}

-- The first flag differs from the state only at a mark.
noted-head : (inside : Bool) (b : ℕ) (rest : List ℕ) → (inside ≡ slice_index_or (noted inside (b ∷ rest)) 0 false) ⊎ (b < 128)
noted-head inside b [] = inl refl
noted-head inside b (c ∷ rest) =
    elim (cases_Bool (note_turns inside b c && (inside || has_close rest))) [
      | inl t ↦ inr (note_marks.first inside b c (and_parts (note_turns inside b c) (inside || has_close rest) t).0)
      | inr t ↦ inl (sym (ap (λ x. slice_index_or (cond x (true ∷ true ∷ noted (not inside) rest) (inside ∷ noted inside (c ∷ rest))) 0 false) t))
    ]

noted-edges : (inside : Bool) (text : List ℕ) → HasAsciiEdges text (noted inside text)
noted-edges inside [] = λ k h. absurd (omega arith)
noted-edges inside (a ∷ []) = λ k h. absurd (omega arith)
noted-edges inside (a ∷ b ∷ rest) =
    let P : List Bool → Type 0 = HasAsciiEdges (a ∷ b ∷ rest) in
    let made : Bool → List Bool = λ x. cond x (true ∷ true ∷ noted (not inside) rest) (inside ∷ noted inside (b ∷ rest)) in
    elim (cases_Bool (note_turns inside a b && (inside || has_close rest))) [
      | inl t ↦
          let second = note_marks.second inside a b (and_parts (note_turns inside a b) (inside || has_close rest) t).0 in
          subst P (sym (ap made t)) (edges_mark a b rest (noted (not inside) rest) second (noted-edges (not inside) rest))
      | inr t ↦ subst P (sym (ap made t)) (edges_byte a b rest inside (noted inside (b ∷ rest)) (noted-head inside b rest) (noted-edges inside (b ∷ rest)))
    ]

pub length-noted : (inside : Bool) (text : List ℕ) → length (noted inside text) ≡ length text
length-noted inside [] = refl
length-noted inside (a ∷ []) = refl
length-noted inside (a ∷ b ∷ rest) =
    let made : Bool → List Bool = λ x. cond x (true ∷ true ∷ noted (not inside) rest) (inside ∷ noted inside (b ∷ rest)) in
    elim (cases_Bool (note_turns inside a b && (inside || has_close rest))) [
      | inl t ↦ ap (λ x. length (made x)) t ∙ ap (λ n. suc (suc n)) (length-noted (not inside) rest)
      | inr t ↦ ap (λ x. length (made x)) t ∙ ap suc (length-noted inside (b ∷ rest))
    ]

-- Flags of the bytes of a line, which differ only beside ASCII.
pub record LineFlags (line : List ℕ) (flags : List Bool) : Type 0 where
  pub same : length flags ≡ length line
  pub edges : HasAsciiEdges line flags

-- Such flags for each of the lines.
abbrev pub AllFlags : List (List ℕ) → List (List Bool) → Type 0
AllFlags [] flags = Unit {0}
AllFlags (line ∷ lines) [] = ⊥
AllFlags (line ∷ lines) (here ∷ flags) = LineFlags line here × AllFlags lines flags

cut_flags-all : (lines : List (List ℕ)) (flags : List Bool) → length flags ≡ length (joined lines) → HasAsciiEdges (joined lines) flags → AllFlags lines (cut_flags lines flags)
cut_flags-all [] flags same edges = tt
cut_flags-all (line ∷ []) flags same edges =
    let all : take (length line) flags ≡ flags = take_all (length line) flags (omega arith) in
    (subst (LineFlags line) (sym all) (record { same = same; edges = edges }), tt)
cut_flags-all (line ∷ next ∷ lines) flags same edges =
    let rest = joined (next ∷ lines) in
    let whole = length-append line (10 ∷ rest) in
    let one : length (line ++ 10 ∷ []) ≡ length line + 1 = length-append line (10 ∷ []) in
    let split : HasAsciiEdges ((line ++ 10 ∷ []) ++ rest) flags = subst (λ t. HasAsciiEdges t flags) (sym (append_assoc line (10 ∷ []) rest)) edges in
    let few : length (take (length line) flags) ≡ length line = length-take-le (length line) flags (omega arith) in
    let left : length (drop (length line + 1) flags) ≡ length rest = omega (arith, length-drop (length line + 1) flags) in (
      record { same = few; edges = edges-left line (10 ∷ rest) flags edges (omega arith) },
      cut_flags-all (next ∷ lines) (drop (length line + 1) flags) left
          (subst (λ n. HasAsciiEdges rest (drop n flags)) one (edges-right (line ++ 10 ∷ []) rest flags split)),
    )

-- The notes of lines.
pub notes-all : (lines : List (List ℕ)) → AllFlags lines (notes lines)
notes-all lines = cut_flags-all lines (noted false (joined lines)) (length-noted false (joined lines)) (noted-edges false (joined lines))
