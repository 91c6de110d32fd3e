-- The notes of a text are those from each first `[[` to the first `]]` behind it; an unclosed `[[` is literal.
use Rattle.std.specs.Prelude.{◌≡◌, ◌==◌, ℕ, zero, suc, Bool, true, false, ◌&&◌, ◌||◌, List, [], ◌∷◌, length, drop, replicate, codes, slice_index, slice_index_or, nat_lt, ◌<◌, ◌≤◌, ◌+◌}
use Rattle.std.proofs.Common.{cond, refl, sym, ap, subst, ◌∙◌, inl, inr, arith}
use Rattle.std.proofs.lemmas.Bool.{cases_lt, cases_Bool, le-ltb, lt-ltb, or_left, and_parts, eqb-true, true≢false, false≢true}
use Rattle.std.proofs.lemmas.List.{drop_all}
use Rattle.spec_text.specs.Parts.{SpanOf}
use Rattle.spec_script.specs.Marked.{turns_at}
use Rattle.spec_script.specs.Notes.{note_turns, has_close, noted}
use Rattle.spec_script.specs.FirstMarks.{stands, IsFirst, StandsNowhere, IsClosed, IsUnclosed, AreNotes, lies_in}
use Rattle.spec_script.proofs.MarkedSteps.{turn-low, turn_test, two_left, one_left, last_left, reads_turn, reads_on}
use Rattle.spec_script.proofs.NoteLines.{noted-none, open_no_close}
use Rattle.spec_script.proofs.FirstMarks.{stands-two, nowhere-past, and-true, first-here, first-later, nowhere-later, first-unique, first-somewhere, lies-within, lies-before, one_flag, two_flags}

-- A mark stands where two bytes end the state.
note-opens : (text : List ℕ) (k : ℕ) → stands (codes "[[") text k ≡ turns_at note_turns false text k
note-opens text k = stands-two 91 91 text k

note-closes : (text : List ℕ) (k : ℕ) → stands (codes "]]") text k ≡ turns_at note_turns true text k
note-closes text k = stands-two 93 93 text k

or_cond : (x y : Bool) → (x || y) ≡ cond x true y
or_cond true y = refl
or_cond false y = refl

-- What is left of a text has a closing mark.
close-turn : (text : List ℕ) (at : ℕ) → turns_at note_turns true text at ≡ true → has_close (drop at text) ≡ true
close-turn = reads_turn note_turns true has_close (λ _. true) has_close (λ a b rest. or_cond (note_turns true a b) (has_close (b ∷ rest))) (λ _. refl)

close-on : (text : List ℕ) (at : ℕ) → at < length text → turns_at note_turns true text at ≡ false → has_close (drop at text) ≡ has_close (drop (at + 1) text)
close-on = reads_on note_turns true has_close (λ _. true) has_close (λ a b rest. or_cond (note_turns true a b) (has_close (b ∷ rest))) (λ _. refl)

no_close_from : (text : List ℕ) (n at : ℕ) → length text ≤ at + n → has_close (drop at text) ≡ false → StandsNowhere (codes "]]") text at
no_close_from text zero at high none = nowhere-past 93 93 text at (omega arith)
no_close_from text (suc n) at high none =
    elim (cases_lt at (length text)) [
      | inl more ↦ elim (cases_Bool (turns_at note_turns true text at)) [
        | inl t ↦ absurd (true≢false (sym (close-turn text at t) ∙ none))
        | inr t ↦ nowhere-later (codes "]]") text at (note-closes text at ∙ t) (no_close_from text n (at + 1) (omega arith) (sym (close-on text at more t) ∙ none))
      ]
      | inr end ↦ nowhere-past 93 93 text at (omega arith)
    ]

-- The flags of notes, a mark or a byte on.
inside_two : (a b : ℕ) (rest : List ℕ) → noted true (a ∷ b ∷ rest) ≡ cond (note_turns true a b) (true ∷ true ∷ noted false rest) (true ∷ noted true (b ∷ rest))
inside_two a b rest = ap (λ t. cond t (true ∷ true ∷ noted false rest) (true ∷ noted true (b ∷ rest))) (and-true (note_turns true a b))

noted-close : (text : List ℕ) (at : ℕ) → turns_at note_turns true text at ≡ true → noted true (drop at text) ≡ true ∷ true ∷ noted false (drop (at + 2) text)
noted-close = reads_turn note_turns true (noted true) (λ l. true ∷ true ∷ noted false l) (λ l. true ∷ noted true l) inside_two (λ _. refl)

noted-inside : (text : List ℕ) (at : ℕ) → at < length text → turns_at note_turns true text at ≡ false → noted true (drop at text) ≡ true ∷ noted true (drop (at + 1) text)
noted-inside = reads_on note_turns true (noted true) (λ l. true ∷ true ∷ noted false l) (λ l. true ∷ noted true l) inside_two (λ _. refl)

noted-open : (text : List ℕ) (at : ℕ) → turns_at note_turns false text at ≡ true → has_close (drop (at + 2) text) ≡ true → noted false (drop at text) ≡ true ∷ true ∷ noted true (drop (at + 2) text)
noted-open text at t close =
    let low = turn-low note_turns false text at t in
    let rest = drop (at + 2) text in
    let F : Bool → List Bool = λ x. cond x (true ∷ true ∷ noted true rest) (false ∷ noted false (slice_index text (at + 1) ∷ rest)) in
    ap (noted false) (two_left text at low)
    ∙ ap (λ x. F (x && has_close rest)) (sym (turn_test note_turns false text at low) ∙ t) ∙ ap F close

noted-outside : (text : List ℕ) (at : ℕ) → at < length text → turns_at note_turns false text at ≡ false → noted false (drop at text) ≡ false ∷ noted false (drop (at + 1) text)
noted-outside text at h t =
    elim (cases_lt (at + 1) (length text)) [
      | inl low ↦
          let rest = drop (at + 2) text in
          let F : Bool → List Bool = λ x. cond x (true ∷ true ∷ noted true rest) (false ∷ noted false (slice_index text (at + 1) ∷ rest)) in
          ap (noted false) (two_left text at low)
          ∙ ap (λ x. F (x && has_close rest)) (sym (turn_test note_turns false text at low) ∙ t)
          ∙ ap (λ l. false ∷ noted false l) (one_left text at low)
      | inr end ↦ ap (noted false) (last_left text at h end) ∙ ap (λ l. false ∷ noted false l) (sym (drop_all (at + 1) text end))
    ]

no_flag : (n k : ℕ) → slice_index_or (replicate n false) k false ≡ false
no_flag zero k = refl
no_flag (suc n) zero = refl
no_flag (suc n) (suc k) = no_flag n k

-- Where a `[[` is unclosed, nothing is a note from it on.
literal : (text : List ℕ) (at k : ℕ) → turns_at note_turns false text at ≡ true → has_close (drop (at + 2) text) ≡ false → slice_index_or (noted false (drop at text)) k false ≡ false
literal text at k t none =
    let low = turn-low note_turns false text at t in
    let rest = drop (at + 2) text in
    let open_test = sym (turn_test note_turns false text at low) ∙ t in
    let a = slice_index text at in
    let b = slice_index text (at + 1) in
    let bracket : a ≡ 91 = eqb-true a 91 (and_parts (a == 91) (b == 91) open_test).0 in
    let later = open_no_close a b rest open_test none in
    let all : has_close (a ∷ b ∷ rest) ≡ false = ap (λ n. ((n == 93) && (b == 93)) || has_close (b ∷ rest)) bracket ∙ later in
    ap (λ l. slice_index_or (noted false l) k false) (two_left text at low)
    ∙ ap (λ l. slice_index_or l k false) (noted-none (a ∷ b ∷ rest) all) ∙ no_flag (suc (suc (length rest))) k

-- The notes from a place outside on.
pub record Outside (text : List ℕ) (at : ℕ) : Type 0 where
  pub notes : List SpanOf
  pub are : AreNotes text at notes
  pub flags : (k : ℕ) → at + k < length text → slice_index_or (noted false (drop at text)) k false ≡ lies_in notes (at + k)

-- The rest of a note from a place inside on, and those after it.
pub record Inside (text : List ℕ) (at : ℕ) : Type 0 where
  pub close : ℕ
  pub first : IsFirst (codes "]]") text at close
  pub notes : List SpanOf
  pub are : AreNotes text (close + 2) notes
  pub flags : (k : ℕ) → at + k < length text → slice_index_or (noted true (drop at text)) k false ≡ (nat_lt (at + k) (close + 2) || lies_in notes (at + k))

-- Notes from a place on don't reach before it.
none-before : (text : List ℕ) (at k : ℕ) (notes : List SpanOf) → AreNotes text at notes → k < at → lies_in notes k ≡ false
none-before text at k [] are early = refl
none-before text at k (note ∷ notes) are early =
    let begins = (are.0).after in
    let closed = are.1 in
    let after = (closed.1).after in
    let end = closed.2 in
    lies-before note.0 note.1 k notes (omega arith) (none-before text note.1 k notes are.2 (omega arith))

first-next : (mark text : List ℕ) (at place : ℕ) → stands mark text at ≡ false → IsFirst mark text at place → IsFirst mark text (at + 1) place
first-next mark text at place none f =
    let after = f.after in
    elim (cases_lt at place) [
      | inl more ↦ record { after = omega arith; here = f.here; before = λ k low high. f.before k (omega arith) high }
      | inr same ↦ let e : place ≡ at = omega arith in absurd (true≢false (sym f.here ∙ ap (stands mark text) e ∙ none))
    ]

end_outside : (text : List ℕ) (at : ℕ) → length text ≤ at → Outside text at
end_outside text at h = record {
  notes = [];
  are = λ place f. absurd (first-somewhere (codes "[[") text at place f (nowhere-past 91 91 text at (omega arith)));
  flags = λ k low. absurd (omega arith);
}

-- At a `[[` that is closed, and at one that isn't.
opens_note : (text : List ℕ) (at : ℕ) → turns_at note_turns false text at ≡ true → has_close (drop (at + 2) text) ≡ true → Inside text (at + 2) → Outside text at
opens_note text at t close tail =
    let after = (tail.first).after in
    let to = tail.close + 2 in
    let F : ℕ → Bool = λ k. nat_lt k to || lies_in tail.notes k in
    record {
      notes = (at, to) ∷ tail.notes;
      are = (first-here (codes "[[") text at (note-opens text at ∙ t), (tail.close, tail.first, refl), tail.are);
      flags = λ k h.
          ap (λ l. slice_index_or l k false) (noted-open text at t close)
          ∙ two_flags (length text) at F (noted true (drop (at + 2) text))
          (or_left _ _ (lt-ltb at to (omega arith))) (or_left _ _ (lt-ltb (at + 1) to (omega arith))) tail.flags k h
          ∙ sym (lies-within at to (at + k) tail.notes (omega arith));
    }

leaves_open : (text : List ℕ) (at : ℕ) → turns_at note_turns false text at ≡ true → has_close (drop (at + 2) text) ≡ false → Outside text at
leaves_open text at t none =
    let here = first-here (codes "[[") text at (note-opens text at ∙ t) in
    let nowhere = no_close_from text (length text) (at + 2) (omega arith) none in
    record {
      notes = [];
      are = λ place f. subst (IsUnclosed (codes "]]") text) (first-unique (codes "[[") text at at place here f) nowhere;
      flags = λ k h. literal text at k t none;
    }

-- At any other byte outside.
stays_outside : (text : List ℕ) (at : ℕ) → at < length text → turns_at note_turns false text at ≡ false → Outside text (at + 1) → Outside text at
stays_outside text at low t rest =
    let none = note-opens text at ∙ t in
    record {
      notes = rest.notes;
      are = later text at rest.notes none rest.are;
      flags = λ k h.
          ap (λ l. slice_index_or l k false) (noted-outside text at low t)
          ∙ one_flag (length text) at (lies_in rest.notes) false (noted false (drop (at + 1) text))
          (sym (none-before text (at + 1) at rest.notes rest.are (omega arith))) rest.flags k h;
    }
  where
    later : (text : List ℕ) (at : ℕ) (notes : List SpanOf) → stands (codes "[[") text at ≡ false → AreNotes text (at + 1) notes → AreNotes text at notes
    later text at [] none are = λ place f. are place (first-next (codes "[[") text at place none f)
    later text at (note ∷ notes) none are = (first-later (codes "[[") text at note.0 none are.0, are.1, are.2)

-- At a `]]`.
closes_note : (text : List ℕ) (at : ℕ) → turns_at note_turns true text at ≡ true → Outside text (at + 2) → Inside text at
closes_note text at t rest =
    let F : ℕ → Bool = λ k. nat_lt k (at + 2) || lies_in rest.notes k in
    record {
      close = at;
      first = first-here (codes "]]") text at (note-closes text at ∙ t);
      notes = rest.notes;
      are = rest.are;
      flags = λ k h.
          ap (λ l. slice_index_or l k false) (noted-close text at t)
          ∙ two_flags (length text) at F (noted false (drop (at + 2) text))
          (or_left _ _ (lt-ltb at (at + 2) (omega arith))) (or_left _ _ (lt-ltb (at + 1) (at + 2) (omega arith)))
          (λ j low. rest.flags j low ∙ sym (ap (λ b. b || lies_in rest.notes (at + 2 + j)) (le-ltb (at + 2 + j) (at + 2) (omega arith)))) k h;
    }

-- At any other byte inside.
stays_inside : (text : List ℕ) (at : ℕ) → at < length text → turns_at note_turns true text at ≡ false → Inside text (at + 1) → Inside text at
stays_inside text at low t rest =
    let after = (rest.first).after in
    let F : ℕ → Bool = λ k. nat_lt k (rest.close + 2) || lies_in rest.notes k in
    record {
      close = rest.close;
      first = first-later (codes "]]") text at rest.close (note-closes text at ∙ t) rest.first;
      notes = rest.notes;
      are = rest.are;
      flags = λ k h.
          ap (λ l. slice_index_or l k false) (noted-inside text at low t)
          ∙ one_flag (length text) at F true (noted true (drop (at + 1) text))
          (sym (or_left _ _ (lt-ltb at (rest.close + 2) (omega arith)))) rest.flags k h;
    }

-- What is found from a place on, inside a note that is closed, or outside.
abbrev Found : Bool → List ℕ → ℕ → Type 0
Found true text at = has_close (drop at text) ≡ true → Inside text at
Found false text at = Outside text at

found : (inside : Bool) (text : List ℕ) (n at : ℕ) → length text ≤ at + n → Found inside text at
found true text zero at high = λ close. absurd (false≢true (sym (ap has_close (drop_all at text (omega arith))) ∙ close))
found false text zero at high = end_outside text at (omega arith)
found true text (suc n) at high = λ close.
    elim (cases_lt at (length text)) [
      | inl more ↦ elim (cases_Bool (turns_at note_turns true text at)) [
        | inl t ↦ closes_note text at t (found false text n (at + 2) (omega arith))
        | inr t ↦ stays_inside text at more t (found true text n (at + 1) (omega arith) (sym (close-on text at more t) ∙ close))
      ]
      | inr end ↦ absurd (false≢true (sym (ap has_close (drop_all at text end)) ∙ close))
    ]
found false text (suc n) at high =
    elim (cases_lt at (length text)) [
      | inl more ↦ elim (cases_Bool (turns_at note_turns false text at)) [
        | inl t ↦ elim (cases_Bool (has_close (drop (at + 2) text))) [
          | inl close ↦ opens_note text at t close (found true text n (at + 2) (omega arith) close)
          | inr none ↦ leaves_open text at t none
        ]
        | inr t ↦ stays_outside text at more t (found false text n (at + 1) (omega arith))
      ]
      | inr end ↦ end_outside text at end
    ]

-- A text has notes in this sense, and has them only in one way.
pub notes-exist : (text : List ℕ) → (notes : List SpanOf) × AreNotes text 0 notes
notes-exist text = let all = found false text (length text) 0 (omega arith) in (all.notes, all.are)

pub notes-unique : (text : List ℕ) (at : ℕ) (xs ys : List SpanOf) → AreNotes text at xs → AreNotes text at ys → xs ≡ ys
notes-unique text at [] [] p q = refl
notes-unique text at [] (y ∷ ys) p q = absurd (first-somewhere (codes "]]") text (y.0 + 2) (q.1).0 (q.1).1 (p y.0 q.0))
notes-unique text at (x ∷ xs) [] p q = absurd (first-somewhere (codes "]]") text (x.0 + 2) (p.1).0 (p.1).1 (q x.0 p.0))
notes-unique text at (x ∷ xs) (y ∷ ys) p q =
    let from = first-unique (codes "[[") text at x.0 y.0 p.0 q.0 in
    let closed = subst (λ k. IsClosed (codes "]]") text k y.1) (sym from) q.1 in
    let close = first-unique (codes "]]") text (x.0 + 2) (p.1).0 closed.0 (p.1).1 closed.1 in
    let to : x.1 ≡ y.1 = omega (arith, (p.1).2, closed.2) in
    let rest = notes-unique text x.1 xs ys p.2 (subst (λ n. AreNotes text n ys) (sym to) q.2) in
    let span : ℕ → ℕ → SpanOf = λ m n. (m, n) in
    ap (λ m. span m x.1 ∷ xs) from ∙ ap (λ n. span y.0 n ∷ xs) to ∙ ap (λ (l : List SpanOf). y ∷ l) rest

-- The bytes that are in notes are those that lie in one of them.
pub notes-noted : (text : List ℕ) (notes : List SpanOf) → AreNotes text 0 notes → (k : ℕ) → k < length text → slice_index_or (noted false text) k false ≡ lies_in notes k
notes-noted text notes are k low =
    let all = found false text (length text) 0 (omega arith) in
    let zero_k : 0 + k ≡ k = omega arith in
    all.flags k (omega arith) ∙ ap (lies_in all.notes) zero_k ∙ ap (λ l. lies_in l k) (notes-unique text 0 all.notes notes all.are are)
