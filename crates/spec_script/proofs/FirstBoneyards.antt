-- The boneyards of a text are those from each first `/*` to the first `*/` behind it.
use Rattle.std.specs.Prelude.{◌≡◌, ℕ, zero, suc, Bool, true, false, ◌||◌, ◌⊎◌, List, [], ◌∷◌, length, drop, codes, slice_index_or, nat_lt, ◌<◌, ◌≤◌, ◌+◌}
use Rattle.std.proofs.Common.{refl, sym, ap, subst, ◌∙◌, inl, inr, arith}
use Rattle.std.proofs.lemmas.Bool.{cases_lt, cases_Bool, le-ltb, lt-ltb, or_left}
use Rattle.spec_text.specs.Parts.{SpanOf}
use Rattle.spec_script.specs.Marked.{covered, turns_at}
use Rattle.spec_script.specs.Boneyards.{yard_turns}
use Rattle.spec_script.specs.FirstMarks.{stands, IsFirst, StandsNowhere, IsClosed, IsUnclosed, AreBoneyards, lies_in}
use Rattle.spec_script.proofs.MarkedSteps.{turn-low, covered-turn, covered-on}
use Rattle.spec_script.proofs.FirstMarks.{stands-two, nowhere-past, first-here, first-later, nowhere-later, first-unique, first-somewhere, lies-within, lies-before, one_flag, two_flags}

-- The boneyards from a place outside on.
pub record Outside (text : List ℕ) (at : ℕ) : Type 0 where
  pub yards : List SpanOf
  pub are : AreBoneyards text at yards
  pub flags : (k : ℕ) → at + k < length text → slice_index_or (covered yard_turns false (drop at text)) k false ≡ lies_in yards (at + k)

-- The rest of a boneyard from a place inside on, and those after it.
pub record Inside (text : List ℕ) (at : ℕ) : Type 0 where
  pub to : ℕ
  pub ends : ((close : ℕ) × IsFirst (codes "*/") text at close × (to ≡ close + 2)) ⊎ (StandsNowhere (codes "*/") text at × (to ≡ length text))
  pub low : at ≤ to
  pub yards : List SpanOf
  pub are : AreBoneyards text to yards
  pub flags : (k : ℕ) → at + k < length text → slice_index_or (covered yard_turns true (drop at text)) k false ≡ (nat_lt (at + k) to || lies_in yards (at + k))

-- A mark stands where two bytes end the state.
yard-opens : (text : List ℕ) (k : ℕ) → stands (codes "/*") text k ≡ turns_at yard_turns false text k
yard-opens text k = stands-two 47 42 text k

yard-closes : (text : List ℕ) (k : ℕ) → stands (codes "*/") text k ≡ turns_at yard_turns true text k
yard-closes text k = stands-two 42 47 text k

-- Boneyards from a place on don't reach before it.
none-before : (text : List ℕ) (at k : ℕ) (yards : List SpanOf) → AreBoneyards text at yards → k < at → lies_in yards k ≡ false
none-before text at k [] are early = refl
none-before text at k (yard ∷ yards) are early =
    let begins = (are.0).after in
    let behind : yard.0 ≤ yard.1 =
    elim are.1 [
      | inl closed ↦ let after = (closed.1).after in omega (arith, closed.2)
      | inr unclosed ↦ let some = turn-low yard_turns false text yard.0 (sym (yard-opens text yard.0) ∙ (are.0).here) in omega (arith, unclosed.1)
    ] in
    lies-before yard.0 yard.1 k yards (omega arith) (none-before text yard.1 k yards are.2 (omega arith))

-- At the end of the text.
end_outside : (text : List ℕ) (at : ℕ) → length text ≤ at → Outside text at
end_outside text at h = record { yards = []; are = nowhere-past 47 42 text at (omega arith); flags = λ k low. absurd (omega arith) }

end_inside : (text : List ℕ) (at : ℕ) → length text ≡ at → Inside text at
end_inside text at h = record {
  to = length text;
  ends = inr (nowhere-past 42 47 text at (omega arith), refl);
  low = omega arith;
  yards = [];
  are = nowhere-past 47 42 text (length text) (omega arith);
  flags = λ k low. absurd (omega arith);
}

-- At a `/*`.
opens_yard : (text : List ℕ) (at : ℕ) → turns_at yard_turns false text at ≡ true → Inside text (at + 2) → Outside text at
opens_yard text at t tail =
    let low = tail.low in
    let F : ℕ → Bool = λ k. nat_lt k tail.to || lies_in tail.yards k in
    record {
      yards = (at, tail.to) ∷ tail.yards;
      are = (first-here (codes "/*") text at (yard-opens text at ∙ t), tail.ends, tail.are);
      flags = λ k h.
          ap (λ l. slice_index_or l k false) (covered-turn yard_turns false text at t)
          ∙ two_flags (length text) at F (covered yard_turns true (drop (at + 2) text))
          (or_left _ _ (lt-ltb at tail.to (omega arith))) (or_left _ _ (lt-ltb (at + 1) tail.to (omega arith))) tail.flags k h
          ∙ sym (lies-within at tail.to (at + k) tail.yards (omega arith));
    }

-- At any other byte outside.
stays_outside : (text : List ℕ) (at : ℕ) → at < length text → turns_at yard_turns false text at ≡ false → Outside text (at + 1) → Outside text at
stays_outside text at low t rest =
    let none = yard-opens text at ∙ t in
    record {
      yards = rest.yards;
      are = later text at rest.yards none rest.are;
      flags = λ k h.
          ap (λ l. slice_index_or l k false) (covered-on yard_turns false text at low t)
          ∙ one_flag (length text) at (lies_in rest.yards) false (covered yard_turns false (drop (at + 1) text))
          (sym (none-before text (at + 1) at rest.yards rest.are (omega arith))) rest.flags k h;
    }
  where
    later : (text : List ℕ) (at : ℕ) (yards : List SpanOf) → stands (codes "/*") text at ≡ false → AreBoneyards text (at + 1) yards → AreBoneyards text at yards
    later text at [] none are = nowhere-later (codes "/*") text at none are
    later text at (yard ∷ yards) none are = (first-later (codes "/*") text at yard.0 none are.0, are.1, are.2)

-- At a `*/`.
closes_yard : (text : List ℕ) (at : ℕ) → turns_at yard_turns true text at ≡ true → Outside text (at + 2) → Inside text at
closes_yard text at t rest =
    let F : ℕ → Bool = λ k. nat_lt k (at + 2) || lies_in rest.yards k in
    record {
      to = at + 2;
      ends = inl (at, first-here (codes "*/") text at (yard-closes text at ∙ t), refl);
      low = omega arith;
      yards = rest.yards;
      are = rest.are;
      flags = λ k h.
          ap (λ l. slice_index_or l k false) (covered-turn yard_turns true text at t)
          ∙ two_flags (length text) at F (covered yard_turns false (drop (at + 2) text))
          (or_left _ _ (lt-ltb at (at + 2) (omega arith))) (or_left _ _ (lt-ltb (at + 1) (at + 2) (omega arith)))
          (λ j low. rest.flags j low ∙ sym (ap (λ b. b || lies_in rest.yards (at + 2 + j)) (le-ltb (at + 2 + j) (at + 2) (omega arith)))) k h;
    }

-- At any other byte inside.
stays_inside : (text : List ℕ) (at : ℕ) → at < length text → turns_at yard_turns true text at ≡ false → Inside text (at + 1) → Inside text at
stays_inside text at low t rest =
    let none = yard-closes text at ∙ t in
    let behind = rest.low in
    let F : ℕ → Bool = λ k. nat_lt k rest.to || lies_in rest.yards k in
    record {
      to = rest.to;
      ends = elim rest.ends [
        | inl closed ↦ inl (closed.0, first-later (codes "*/") text at closed.0 none closed.1, closed.2)
        | inr unclosed ↦ inr (nowhere-later (codes "*/") text at none unclosed.0, unclosed.1)
      ];
      low = omega arith;
      yards = rest.yards;
      are = rest.are;
      flags = λ k h.
          ap (λ l. slice_index_or l k false) (covered-on yard_turns true text at low t)
          ∙ one_flag (length text) at F true (covered yard_turns true (drop (at + 1) text))
          (sym (or_left _ _ (lt-ltb at rest.to (omega arith)))) rest.flags k h;
    }

-- What is found from a place on.
abbrev Found : Bool → List ℕ → ℕ → Type 0
Found true text at = Inside text at
Found false text at = Outside text at

found : (inside : Bool) (text : List ℕ) (n at : ℕ) → at ≤ length text → length text ≤ at + n → Found inside text at
found true text zero at low high = end_inside text at (omega arith)
found false text zero at low high = end_outside text at (omega arith)
found true text (suc n) at low high =
    elim (cases_lt at (length text)) [
      | inl more ↦ elim (cases_Bool (turns_at yard_turns true text at)) [
        | inl t ↦ let both = turn-low yard_turns true text at t in closes_yard text at t (found false text n (at + 2) (omega arith) (omega arith))
        | inr t ↦ stays_inside text at more t (found true text n (at + 1) (omega arith) (omega arith))
      ]
      | inr end ↦ end_inside text at (omega arith)
    ]
found false text (suc n) at low high =
    elim (cases_lt at (length text)) [
      | inl more ↦ elim (cases_Bool (turns_at yard_turns false text at)) [
        | inl t ↦ let both = turn-low yard_turns false text at t in opens_yard text at t (found true text n (at + 2) (omega arith) (omega arith))
        | inr t ↦ stays_outside text at more t (found false text n (at + 1) (omega arith) (omega arith))
      ]
      | inr end ↦ end_outside text at (omega arith)
    ]

-- A text has boneyards in this sense, and has them only in one way.
pub boneyards-exist : (text : List ℕ) → (yards : List SpanOf) × AreBoneyards text 0 yards
boneyards-exist text = let all = found false text (length text) 0 (omega arith) (omega arith) in (all.yards, all.are)

pub boneyards-unique : (text : List ℕ) (at : ℕ) (xs ys : List SpanOf) → AreBoneyards text at xs → AreBoneyards text at ys → xs ≡ ys
boneyards-unique text at [] [] p q = refl
boneyards-unique text at [] (y ∷ ys) p q = absurd (first-somewhere (codes "/*") text at y.0 q.0 p)
boneyards-unique text at (x ∷ xs) [] p q = absurd (first-somewhere (codes "/*") text at x.0 p.0 q)
boneyards-unique text at (x ∷ xs) (y ∷ ys) p q =
    let from = first-unique (codes "/*") text at x.0 y.0 p.0 q.0 in
    let to = same_end text x.0 y.0 x.1 y.1 from p.1 q.1 in
    let rest = boneyards-unique text x.1 xs ys p.2 (subst (λ n. AreBoneyards text n ys) (sym to) q.2) in
    let span : ℕ → ℕ → SpanOf = λ m n. (m, n) in
    ap (λ m. span m x.1 ∷ xs) from ∙ ap (λ n. span y.0 n ∷ xs) to ∙ ap (λ (l : List SpanOf). y ∷ l) rest
  where
    same_end : (text : List ℕ) (p q m n : ℕ) → p ≡ q → IsClosed (codes "*/") text p m ⊎ (IsUnclosed (codes "*/") text p × (m ≡ length text)) → IsClosed (codes "*/") text q n ⊎ (IsUnclosed (codes "*/") text q × (n ≡ length text)) → m ≡ n
    same_end text p q m n e first second =
        let moved = subst (λ k. IsClosed (codes "*/") text k n ⊎ (IsUnclosed (codes "*/") text k × (n ≡ length text))) (sym e) second in
        elim first [
          | inl f ↦ elim moved [
            | inl g ↦ let same = first-unique (codes "*/") text (p + 2) f.0 g.0 f.1 g.1 in omega (arith, f.2, g.2)
            | inr g ↦ absurd (first-somewhere (codes "*/") text (p + 2) f.0 f.1 g.0)
          ]
          | inr f ↦ elim moved [
            | inl g ↦ absurd (first-somewhere (codes "*/") text (p + 2) g.0 g.1 f.0)
            | inr g ↦ f.1 ∙ sym g.1
          ]
        ]

-- The bytes that the boneyards of a text cover are those that lie in one of them.
pub boneyards-covered : (text : List ℕ) (yards : List SpanOf) → AreBoneyards text 0 yards → (k : ℕ) → k < length text → slice_index_or (covered yard_turns false text) k false ≡ lies_in yards k
boneyards-covered text yards are k low =
    let all = found false text (length text) 0 (omega arith) (omega arith) in
    let zero_k : 0 + k ≡ k = omega arith in
    all.flags k (omega arith) ∙ ap (lies_in all.yards) zero_k ∙ ap (λ l. lies_in l k) (boneyards-unique text 0 all.yards yards all.are are)
