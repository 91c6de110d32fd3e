-- What an edit displaced in a list of stanzas stood in its window, by what leads back to the list before it.
use Rattle.std.proofs.Common.{◌≡◌, ℕ, ◌+◌, ◌-◌, ◌≤◌, List, [], ◌∷◌, ◌++◌, length, take, drop, refl, sym, ap, ap₂, subst, ◌∙◌, inl, arith}
use Rattle.std.specs.Prelude.{All}
use Rattle.std.proofs.lemmas.List.{append_cancel_left, append_cancel_right, take_at, drop_at, drop-drop, length-take-le}
use Rattle.std.proofs.lemmas.List.Elements.{All-head, All-tail, All-take}
use Rattle.std.proofs.lemmas.List.Sums.{sum_by-cons}
use Rattle.spec_script.specs.BlockValues.{StanzaOf}
use Rattle.spec_script.specs.Stanzas.{stanzas_from, stanzas_of}
use Rattle.spec_edit.specs.Windows.{IsEdited, IsWindow, CountsWindow, HasLines, stanza_lines_in, stanzas_between}
use Rattle.spec_edit.specs.Displaced.{AreOfWindow, DisplacesWindow}
use Rattle.spec_edit.proofs.Counts.{count-between, lines-from}
use Rattle.spec_edit.proofs.Splits.{split}
use Rattle.spec_edit.proofs.Resync.{window-one, window-rest, resync, old-cuts}

abbrev lines_of : StanzaOf → ℕ
lines_of s = s.lines

-- Two fronts of one list with as many lines are one, where each stanza has a line.
front-one : (xs ys us vs : List StanzaOf) → All HasLines xs → All HasLines ys → xs ++ us ≡ ys ++ vs → stanza_lines_in xs ≡ stanza_lines_in ys → xs ≡ ys
front-one [] [] us vs hx hy e s = refl
front-one [] (y ∷ ys) us vs hx hy e s = let some = (All-head HasLines y ys hy).some in absurd (omega (arith, some, sum_by-cons lines_of y ys, s))
front-one (x ∷ xs) [] us vs hx hy e s = let some = (All-head HasLines x xs hx).some in absurd (omega (arith, some, sum_by-cons lines_of x xs, s))
front-one (x ∷ xs) (y ∷ ys) us vs hx hy e s =
    let whole : x ∷ (xs ++ us) ≡ y ∷ (ys ++ vs) = e in
    let here : x ≡ y = cc (whole) in
    let later : xs ++ us ≡ ys ++ vs = cc (whole) in
    let lines = ap lines_of here in
    let sum : stanza_lines_in xs ≡ stanza_lines_in ys = omega (arith, lines, s, sum_by-cons lines_of x xs, sum_by-cons lines_of y ys) in
    ap₂ (λ (z : StanzaOf) (zs : List StanzaOf). z ∷ zs) here (front-one xs ys us vs (All-tail HasLines x xs hx) (All-tail HasLines y ys hy) later sum)

front-lines : (xs ys : List StanzaOf) → All HasLines (xs ++ ys) → All HasLines xs
front-lines xs ys all = subst (All HasLines) (take_at xs ys (length xs) refl) (All-take HasLines (length xs) (xs ++ ys) all)

pub displaces-window : (before after : List (List ℕ)) (first old new at stands : ℕ) (gone : List StanzaOf) → IsEdited before after first old new
    → CountsWindow (stanzas_of before) after first old new at stands → at + stands ≤ length (stanzas_of after)
    → take at (stanzas_of after) ++ (gone ++ drop (at + stands) (stanzas_of after)) ≡ stanzas_of before
    → DisplacesWindow before after first old new at stands gone
displaces-window before after first old new at stands gone e counts within gives = record { are = by }
  where
    by : (a b : ℕ) → IsWindow before after first old new a b → AreOfWindow before after a b (b + old - new) at stands gone
    by a b w =
        let same = window-one before after first old new a b counts.a counts.b w (counts.is before (record { edited = e; all = refl })) in
        let cuts = old-cuts before after first old new a b e w in
        let was = b + old - new in
        let front = stanzas_between before 0 a in
        let middle = stanzas_between before a was in
        let come = stanzas_between after a b in
        let rest = stanzas_from before was in
        let olds : stanzas_of before ≡ front ++ (middle ++ rest) =
        split before 0 a (omega arith) (inl cuts.1) ∙ ap (λ (ss : List StanzaOf). front ++ ss) (split before a was cuts.0 cuts.2) in
        let news : stanzas_of after ≡ front ++ (come ++ rest) = resync before after first old new a b e w in
        let lines : stanza_lines_in front ≡ a = count-between before 0 a (omega (arith, cuts.0, cuts.3)) ∙ omega arith in
        let size : length (take at (stanzas_of after)) ≡ at = length-take-le at (stanzas_of after) (omega (arith, within)) in
        let taken : take at (stanzas_of before) ≡ take at (stanzas_of after) = ap (take at) (sym gives) ∙ take_at (take at (stanzas_of after)) (gone ++ drop (at + stands) (stanzas_of after)) at size in
        let sum : stanza_lines_in (take at (stanzas_of after)) ≡ stanza_lines_in front = sym (ap stanza_lines_in taken) ∙ sym counts.begins ∙ sym same.0 ∙ sym lines in
        let front_is : take at (stanzas_of after) ≡ front =
        front-one (take at (stanzas_of after)) front (gone ++ drop (at + stands) (stanzas_of after)) (middle ++ rest)
        (All-take HasLines at (stanzas_of after) (lines-from after 0)) (front-lines front (middle ++ rest) (subst (All HasLines) olds (lines-from before 0))) (gives ∙ olds) sum in
        let long : length front ≡ at = sym (ap length front_is) ∙ size in
        let behind : drop at (stanzas_of after) ≡ come ++ rest = ap (drop at) news ∙ drop_at front (come ++ rest) at long in
        let count : length come ≡ stands = ap₂ (λ (p q : ℕ). length (stanzas_between after p q)) same.0 same.1 ∙ sym counts.counted in
        let rest_is : drop (at + stands) (stanzas_of after) ≡ rest = sym (drop-drop stands at (stanzas_of after)) ∙ ap (drop stands) behind ∙ drop_at come rest stands count in
        let both : front ++ (gone ++ rest) ≡ front ++ (middle ++ rest) =
        sym (ap₂ (λ (p q : List StanzaOf). p ++ (gone ++ q)) front_is rest_is) ∙ gives ∙ olds in
        record {
          within = within;
          front = front_is;
          come = ap (take stands) behind ∙ take_at come rest stands count;
          rest = rest_is ∙ sym (window-rest before after first old new b e w.end);
          gone_are = append_cancel_right gone middle rest (append_cancel_left front (gone ++ rest) (middle ++ rest) both);
        }
