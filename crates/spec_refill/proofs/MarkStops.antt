-- Rows and stops of a text that an edit leaves before and behind some rows.
use Rattle.std.proofs.Common.{◌≡◌, ℕ, ◌+◌, ◌<◌, ◌≤◌, ◌↔◌, List, [], ◌∷◌, ◌++◌, length, map, take, drop, inl, inr, refl, sym, ap, ap₂, subst, ◌∙◌, arith, take_at, drop_at, drop-drop, append_assoc}
use Rattle.std.specs.Prelude.{All, Contains, IsPermutation, min}
use Rattle.std.proofs.lemmas.Bool.{cases_lt}
use Rattle.std.proofs.lemmas.List.Elements.{Contains-append_left, Contains-append_right, Contains-append_cases}
use Rattle.std.proofs.lemmas.List.Sorted.{Contains-permutation, IsPermutation-sym}
use Rattle.spec_text.specs.Ranges.{RangeOf}
use Rattle.spec_text.proofs.ListLaws.{Contains-first, Contains-later, Contains-either}
use Rattle.spec_pages.specs.declared.Shape.{Shape}
use Rattle.spec_labels.specs.Spots.{Spot, Follows}
use Rattle.spec_edit.specs.PageWindows.{Exchange, moved, AreStops, AreExchanged}
use Rattle.spec_refill.proofs.Marks.{Mark, shapes, rows, breaks, start, mark_after, shapes-append, rows-append, breaks-append, start-append, shapes-moved, breaks-moved, none-there, breaks-among, breaks-shift}
use Rattle.spec_refill.proofs.MarkStarts.{IsLeft, AreRising, start-moved, start-low, rising-front, start-full}

-- Spots of two texts, each of which follows an edit.
abbrev pub AllFollow : RangeOf → List Spot → List Spot → Type 0
AllFollow range [] [] = Unit {0}
AllFollow range (old ∷ olds) (new ∷ news) = Follows range old new × AllFollow range olds news
AllFollow range _ _ = ⊥

-- Marks of both texts of an edit: those before the relaid ones and behind them are moved at most.
pub record Sides (range : RangeOf) (front gone come back olds news : List Mark) : Type 0 where
  pub old_are : olds ≡ front ++ (gone ++ back)
  pub new_are : news ≡ map (mark_after range) front ++ (come ++ map (mark_after range) back)
  pub front_left : All (IsLeft range) front
  pub back_left : All (IsLeft range) back
  pub old_rise : AreRising olds
  pub new_rise : AreRising news

module _ (range : RangeOf) (front gone come back olds news : List Mark) (sides : Sides range front gone come back olds news) where
  abbrev move : List Mark → List Mark
  move marks = map (mark_after range) marks

  abbrev next : ℕ
  next = min 1 (rows back)

  -- The rows that the edit exchanges.
  abbrev pub mark_exchange : Exchange
  mark_exchange = record { first = rows front; old = rows gone + next; new = rows come + next }

  old-shapes : shapes olds ≡ shapes front ++ (shapes gone ++ shapes back)
  old-shapes = ap shapes sides.old_are ∙ shapes-append front (gone ++ back) ∙ ap (λ (l : List Shape). shapes front ++ l) (shapes-append gone back)

  new-shapes : shapes news ≡ shapes front ++ (shapes come ++ shapes back)
  new-shapes =
      ap shapes sides.new_are ∙ shapes-append (move front) (come ++ move back)
      ∙ ap₂ (λ (a b : List Shape). a ++ b) (shapes-moved range front) (shapes-append come (move back) ∙ ap (λ (l : List Shape). shapes come ++ l) (shapes-moved range back))

  pub old-rows : rows olds ≡ rows front + rows gone + rows back
  old-rows = let a = ap rows sides.old_are in let b = rows-append front (gone ++ back) in let c = rows-append gone back in omega (arith, a, b, c)

  pub new-rows : rows news ≡ rows front + rows come + rows back
  new-rows =
      let a = ap rows sides.new_are in
      let b = rows-append (move front) (come ++ move back) in
      let c = rows-append come (move back) in
      let d = ap length (shapes-moved range front) in
      let e = ap length (shapes-moved range back) in
      omega (arith, a, b, c, d, e)

  rows-front : take (rows front) (shapes news) ≡ take (rows front) (shapes olds)
  rows-front =
      ap (take (rows front)) new-shapes ∙ take_at (shapes front) (shapes come ++ shapes back) (rows front) refl
      ∙ sym (ap (take (rows front)) old-shapes ∙ take_at (shapes front) (shapes gone ++ shapes back) (rows front) refl)

  behind : (xs ys zs : List Shape) (more : ℕ) → drop (length xs + (length ys + more)) (xs ++ (ys ++ zs)) ≡ drop more zs
  behind xs ys zs more =
      sym (drop-drop (length ys + more) (length xs) (xs ++ (ys ++ zs))) ∙ ap (drop (length ys + more)) (drop_at xs (ys ++ zs) (length xs) refl)
      ∙ sym (drop-drop more (length ys) (ys ++ zs)) ∙ ap (drop more) (drop_at ys zs (length ys) refl)

  rows-back : drop (rows front + (rows come + next)) (shapes news) ≡ drop (rows front + (rows gone + next)) (shapes olds)
  rows-back =
      ap (drop (rows front + (rows come + next))) new-shapes ∙ behind (shapes front) (shapes come) (shapes back) next
      ∙ sym (ap (drop (rows front + (rows gone + next))) old-shapes ∙ behind (shapes front) (shapes gone) (shapes back) next)

  -- ---- page breaks

  old-breaks : breaks 0 olds ≡ breaks 0 front ++ (breaks (rows front) gone ++ breaks (rows front + rows gone) back)
  old-breaks =
      ap (breaks 0) sides.old_are ∙ breaks-append 0 front (gone ++ back)
      ∙ (let e : 0 + rows front ≡ rows front = omega arith in ap (λ n. breaks 0 front ++ breaks n (gone ++ back)) e)
      ∙ ap (λ (l : List ℕ). breaks 0 front ++ l) (breaks-append (rows front) gone back)

  new-breaks : breaks 0 news ≡ breaks 0 front ++ (breaks (rows front) come ++ breaks (rows front + rows come) back)
  new-breaks =
      ap (breaks 0) sides.new_are ∙ breaks-append 0 (move front) (come ++ move back)
      ∙ (let e : 0 + rows (move front) ≡ rows front = let d = ap length (shapes-moved range front) in omega (arith, d) in ap (λ n. breaks 0 (move front) ++ breaks n (come ++ move back)) e)
      ∙ ap₂ (λ (a b : List ℕ). a ++ b) (breaks-moved range 0 front)
      (breaks-append (rows front) come (move back) ∙ ap (λ (l : List ℕ). breaks (rows front) come ++ l) (breaks-moved range (rows front + rows come) back))

  -- Of three lists of page breaks.
  in-front : (middle : List Mark) (q : ℕ) → q < rows front → Contains (breaks 0 front ++ (breaks (rows front) middle ++ breaks (rows front + rows middle) back)) q → Contains (breaks 0 front) q
  in-front middle q less found = elim (Contains-append_cases (breaks 0 front) (breaks (rows front) middle ++ breaks (rows front + rows middle) back) q found) [
    | inl is ↦ is
    | inr rest ↦ elim (Contains-append_cases (breaks (rows front) middle) (breaks (rows front + rows middle) back) q rest) [
      | inl inner ↦ absurd (let among = breaks-among (rows front) middle q inner in let low = among.0 in omega (arith, low, less))
      | inr last ↦ absurd (let among = breaks-among (rows front + rows middle) back q last in let low = among.0 in omega (arith, low, less))
    ]
  ]

  in-back : (middle : List Mark) (q : ℕ) → rows front + rows middle < q → Contains (breaks 0 front ++ (breaks (rows front) middle ++ breaks (rows front + rows middle) back)) q → Contains (breaks (rows front + rows middle) back) q
  in-back middle q more found = elim (Contains-append_cases (breaks 0 front) (breaks (rows front) middle ++ breaks (rows front + rows middle) back) q found) [
    | inl is ↦ absurd (let among = breaks-among 0 front q is in let high = among.1 in omega (arith, high, more))
    | inr rest ↦ elim (Contains-append_cases (breaks (rows front) middle) (breaks (rows front + rows middle) back) q rest) [
      | inl inner ↦ absurd (let among = breaks-among (rows front) middle q inner in let high = among.1 in omega (arith, high, more))
      | inr last ↦ last
    ]
  ]

  breaks-before : (q : ℕ) → q < rows front → Contains (breaks 0 news) q ↔ Contains (breaks 0 olds) q
  breaks-before q less = (
    λ found. subst (λ l. Contains l q) (sym old-breaks) (Contains-append_left (breaks 0 front) (breaks (rows front) gone ++ breaks (rows front + rows gone) back) q
        (in-front come q less (subst (λ l. Contains l q) new-breaks found))),
    λ found. subst (λ l. Contains l q) (sym new-breaks) (Contains-append_left (breaks 0 front) (breaks (rows front) come ++ breaks (rows front + rows come) back) q
        (in-front gone q less (subst (λ l. Contains l q) old-breaks found))),
  )

  breaks-behind : (q : ℕ) → rows front + (rows gone + next) ≤ q → q < rows olds → Contains (breaks 0 news) (moved mark_exchange q) ↔ Contains (breaks 0 olds) q
  breaks-behind q low high =
      let all = old-rows in
      let more : rows front + rows gone < q = omega (arith, low, high, all) in
      let more_new : rows front + rows come < moved mark_exchange q = omega (arith, low, high, all) in (
        λ found. subst (λ l. Contains l q) (sym old-breaks)
            (Contains-append_right (breaks 0 front) (breaks (rows front) gone ++ breaks (rows front + rows gone) back) q
            (Contains-append_right (breaks (rows front) gone) (breaks (rows front + rows gone) back) q
            (breaks-shift (rows front + rows come) (rows front + rows gone) back (moved mark_exchange q) q (omega (arith, low, high, all))
            (in-back come (moved mark_exchange q) more_new (subst (λ l. Contains l (moved mark_exchange q)) new-breaks found))))),
        λ found. subst (λ l. Contains l (moved mark_exchange q)) (sym new-breaks)
            (Contains-append_right (breaks 0 front) (breaks (rows front) come ++ breaks (rows front + rows come) back) (moved mark_exchange q)
            (Contains-append_right (breaks (rows front) come) (breaks (rows front + rows come) back) (moved mark_exchange q)
            (breaks-shift (rows front + rows gone) (rows front + rows come) back q (moved mark_exchange q) (omega (arith, low, high, all))
            (in-back gone q more (subst (λ l. Contains l q) old-breaks found))))),
      )

  -- ---- rows at which records start

  pub record Parts (old new : Spot) : Type 0 where
    pub old_is : start olds old ≡ start front old + start gone old + start back old
    pub new_is : start news new ≡ start front old + start come new + start back old
    pub front_low : start front old ≤ rows front
    pub gone_low : start gone old ≤ rows gone
    pub come_low : start come new ≤ rows come
    pub old_none : start front old < rows front → (start gone old ≡ 0) × (start back old ≡ 0)
    pub new_none : start front old < rows front → (start come new ≡ 0) × (start back old ≡ 0)
    pub old_some : start gone old < rows gone → start back old ≡ 0
    pub new_some : start come new < rows come → start back old ≡ 0

  parts : (old new : Spot) → Follows range old new → Parts old new
  parts old new follow =
      let fronts = start-moved range old new front follow sides.front_left in
      let backs = start-moved range old new back follow sides.back_left in
      let old_front = rising-front old (front ++ (gone ++ back)) (subst AreRising sides.old_are sides.old_rise) in
      let new_front = rising-front new (move front ++ (come ++ move back)) (subst AreRising sides.new_are sides.new_rise) in
      let old_front2 = rising-front old ((front ++ gone) ++ back) (subst AreRising (sides.old_are ∙ sym (append_assoc front gone back)) sides.old_rise) in
      let new_front2 = rising-front new ((move front ++ come) ++ move back) (subst AreRising (sides.new_are ∙ sym (append_assoc (move front) come (move back))) sides.new_rise) in
      let count = ap length (shapes-moved range front) in
      let old_sum = start-append gone back old in
      let new_sum = start-append come (move back) new in
      let old_pair = start-append front gone old in
      let new_pair = start-append (move front) come new in
      let old_count = rows-append front gone in
      let new_count = rows-append (move front) come in
      let low = start-low front old in
      record {
        old_is = let a = ap (λ l. start l old) sides.old_are in let b = start-append front (gone ++ back) old in omega (arith, a, b, old_sum);
        new_is = let a = ap (λ l. start l new) sides.new_are in let b = start-append (move front) (come ++ move back) new in omega (arith, a, b, new_sum, fronts, backs);
        front_low = low;
        gone_low = start-low gone old;
        come_low = start-low come new;
        old_none = λ less. let none = start-full front (gone ++ back) old old_front less in (omega (arith, none, old_sum), omega (arith, none, old_sum));
        new_none = λ less. let none = start-full (move front) (come ++ move back) new new_front (omega (arith, less, fronts, count)) in (omega (arith, none, new_sum), omega (arith, none, new_sum, backs));
        old_some = λ less. start-full (front ++ gone) back old old_front2 (omega (arith, less, old_pair, old_count, low));
        new_some = λ less. let none = start-full (move front ++ come) (move back) new new_front2 (omega (arith, less, new_pair, new_count, low, fronts, count)) in omega (arith, none, backs);
      }

  -- A start before the relaid rows stays, and only such a one stands there after the edit.
  start-before : (old new : Spot) (q : ℕ) → Follows range old new → q < rows front → (start news new ≡ q) ↔ (start olds old ≡ q)
  start-before old new q follow less =
      let p = parts old new follow in
      let a = p.old_is in
      let b = p.new_is in (
        λ is. let under : start front old < rows front = omega (arith, is, b, less) in let o = p.old_none under in let n = p.new_none under in omega (arith, is, a, b, o.0, o.1, n.0, n.1),
        λ is. let under : start front old < rows front = omega (arith, is, a, less) in let o = p.old_none under in let n = p.new_none under in omega (arith, is, a, b, o.0, o.1, n.0, n.1),
      )

  -- Where a start stands behind a row behind the relaid ones, all these stand before it.
  full : (old new : Spot) → Parts old new → 0 < start back old → (start front old ≡ rows front) × (start gone old ≡ rows gone) × (start come new ≡ rows come)
  full old new p some =
      let fl = p.front_low in
      let gl = p.gone_low in
      let cl = p.come_low in (
        elim (cases_lt (start front old) (rows front)) [ inl less ↦ absurd (let n = (p.old_none less).1 in omega (arith, n, some)) | inr not ↦ omega (arith, not, fl) ],
        elim (cases_lt (start gone old) (rows gone)) [ inl less ↦ absurd (let n = p.old_some less in omega (arith, n, some)) | inr not ↦ omega (arith, not, gl) ],
        elim (cases_lt (start come new) (rows come)) [ inl less ↦ absurd (let n = p.new_some less in omega (arith, n, some)) | inr not ↦ omega (arith, not, cl) ],
      )

  start-behind : (old new : Spot) (q : ℕ) → Follows range old new → rows front + (rows gone + next) ≤ q → q < rows olds → (start news new ≡ moved mark_exchange q) ↔ (start olds old ≡ q)
  start-behind old new q follow low high =
      let p = parts old new follow in
      let a = p.old_is in
      let b = p.new_is in
      let all = old-rows in
      let fl = p.front_low in
      let gl = p.gone_low in
      let cl = p.come_low in (
        λ is. let f = full old new p (omega (arith, is, b, fl, cl, low, high, all)) in omega (arith, is, a, b, f.0, f.1, f.2, low, high, all),
        λ is. let f = full old new p (omega (arith, is, a, fl, gl, low, high, all)) in omega (arith, is, a, b, f.0, f.1, f.2, low, high, all),
      )

  -- Over all records.
  starts-new : (ss ts : List Spot) (p q : ℕ) → AllFollow range ss ts → ((old new : Spot) → Follows range old new → start olds old ≡ p → start news new ≡ q)
      → Contains (map (start olds) ss) p → Contains (map (start news) ts) q
  starts-new [] [] p q follow to found = absurd (none-there p found)
  starts-new [] (t ∷ ts) p q follow to found = absurd follow
  starts-new (s ∷ ss) [] p q follow to found = absurd follow
  starts-new (s ∷ ss) (t ∷ ts) p q follow to found = elim (Contains-either (start olds s) p (map (start olds) ss) found) [
    | inl is ↦ Contains-first (start news t) q (map (start news) ts) (to s t follow.0 is)
    | inr rest ↦ Contains-later (start news t) q (map (start news) ts) (starts-new ss ts p q follow.1 to rest)
  ]

  starts-old : (ss ts : List Spot) (p q : ℕ) → AllFollow range ss ts → ((old new : Spot) → Follows range old new → start news new ≡ q → start olds old ≡ p)
      → Contains (map (start news) ts) q → Contains (map (start olds) ss) p
  starts-old [] [] p q follow to found = absurd (none-there q found)
  starts-old [] (t ∷ ts) p q follow to found = absurd follow
  starts-old (s ∷ ss) [] p q follow to found = absurd follow
  starts-old (s ∷ ss) (t ∷ ts) p q follow to found = elim (Contains-either (start news t) q (map (start news) ts) found) [
    | inl is ↦ Contains-first (start olds s) p (map (start olds) ss) (to s t follow.0 is)
    | inr rest ↦ Contains-later (start olds s) p (map (start olds) ss) (starts-old ss ts p q follow.1 to rest)
  ]

  -- ---- both

  either : (xs ys us vs : List ℕ) (p q : ℕ) → (Contains xs p → Contains us q) → (Contains ys p → Contains vs q) → Contains (xs ++ ys) p → Contains (us ++ vs) q
  either xs ys us vs p q one other found = elim (Contains-append_cases xs ys p found) [
    | inl is ↦ Contains-append_left us vs q (one is)
    | inr is ↦ Contains-append_right us vs q (other is)
  ]

  -- Rows and stops of both texts are exchanged, where the stops are those of page breaks and of records that follow the edit.
  pub marks-exchanged : (ss ts : List Spot) (old_stops stops : List ℕ) → AllFollow range ss ts
      → AreStops (rows olds) old_stops → AreStops (rows news) stops
      → IsPermutation (breaks 0 olds ++ map (start olds) ss) old_stops → IsPermutation (breaks 0 news ++ map (start news) ts) stops
      → AreExchanged mark_exchange (shapes olds) old_stops (shapes news) stops
  marks-exchanged ss ts old_stops stops follow old_are are old_same same =
      let olds_all : List ℕ = breaks 0 olds ++ map (start olds) ss in
      let news_all : List ℕ = breaks 0 news ++ map (start news) ts in
      record {
        old_inside = let all = old-rows in omega (arith, all);
        inside = let all = new-rows in omega (arith, all);
        rows_before = rows-front;
        rows_behind = rows-back;
        old_stops_are = old_are;
        stops_are = are;
        stops_before = λ q less. (
          λ found. Contains-permutation olds_all old_stops q old_same
              (either (breaks 0 news) (map (start news) ts) (breaks 0 olds) (map (start olds) ss) q q (breaks-before q less).0
              (starts-old ss ts q q follow (λ o n f. (start-before o n q f less).0))
              (Contains-permutation stops news_all q (IsPermutation-sym news_all stops same) found)),
          λ found. Contains-permutation news_all stops q same
              (either (breaks 0 olds) (map (start olds) ss) (breaks 0 news) (map (start news) ts) q q (breaks-before q less).1
              (starts-new ss ts q q follow (λ o n f. (start-before o n q f less).1))
              (Contains-permutation old_stops olds_all q (IsPermutation-sym olds_all old_stops old_same) found)),
        );
        stops_behind = λ q low high. (
          λ found. Contains-permutation olds_all old_stops q old_same
              (either (breaks 0 news) (map (start news) ts) (breaks 0 olds) (map (start olds) ss) (moved mark_exchange q) q (breaks-behind q low high).0
              (starts-old ss ts q (moved mark_exchange q) follow (λ o n f. (start-behind o n q f low high).0))
              (Contains-permutation stops news_all (moved mark_exchange q) (IsPermutation-sym news_all stops same) found)),
          λ found. Contains-permutation news_all stops (moved mark_exchange q) same
              (either (breaks 0 olds) (map (start olds) ss) (breaks 0 news) (map (start news) ts) q (moved mark_exchange q) (breaks-behind q low high).1
              (starts-new ss ts q (moved mark_exchange q) follow (λ o n f. (start-behind o n q f low high).1))
              (Contains-permutation old_stops olds_all q (IsPermutation-sym olds_all old_stops old_same) found)),
        );
      }
