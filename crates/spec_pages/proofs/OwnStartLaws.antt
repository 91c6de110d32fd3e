-- The page starts in a segment are those of its own rows.
use Rattle.std.proofs.Common.{◌≡◌, ℕ, zero, suc, ◌+◌, ◌<◌, ◌≤◌, true, false, ◌&&◌, cond, ltb, List, [], ◌∷◌, map, inl, inr, refl, sym, ap, ap₂, ◌∙◌, arith}
use Rattle.std.specs.Prelude.{filter}
use Rattle.std.proofs.lemmas.Bool.{cases_lt, lt-ltb, le-ltb, le-leb, lt-leb}
use Rattle.spec_pages.specs.Heights.{Heights, next_of, starts_behind, starts_of}
use Rattle.spec_pages.specs.OwnPages.{lies_in, StopsAt}
use Rattle.spec_pages.proofs.OwnPageLaws.{Agree, next_stop-is, next_of-by, next_of-stop, next_of-shift}

lies-yes : (start end page : ℕ) → start ≤ page → page < end → lies_in start end page ≡ true
lies-yes start end page h g = ap₂ (λ a b. a && b) (le-leb start page h) (lt-ltb page end g)

lies-before : (start end page : ℕ) → page < start → lies_in start end page ≡ false
lies-before start end page h = ap (λ a. a && ltb page end) (lt-leb start page h)

lies-behind : (start end page : ℕ) → start ≤ page → end ≤ page → lies_in start end page ≡ false
lies-behind start end page h g = ap₂ (λ a b. a && b) (le-leb start page h) (le-ltb page end g)

-- A text, a segment of it, and how pages go on in both.
pub record Segment : Type 0 where
  pub limit : ℕ
  pub rows : Heights
  pub own : Heights
  pub count : ℕ
  pub stops : List ℕ
  pub s : ℕ
  pub len : ℕ
  pub breaks : List ℕ

-- The segment's rows and stops are those of the text there.
pub record Matches (it : Segment) : Type 0 where
  pub agree : Agree it.rows it.own it.s it.len
  pub stops : StopsAt it.count it.stops it.s it.len it.breaks

abbrev pages_from : Segment → ℕ → ℕ → List ℕ
pages_from it pages p = starts_behind it.limit it.rows it.count it.stops pages p

abbrev own_pages_from : Segment → ℕ → ℕ → List ℕ
own_pages_from it pages p = starts_behind it.limit it.own it.len it.breaks pages p

abbrev kept : Segment → List ℕ → List ℕ
kept it pages = filter (lies_in it.s (it.s + it.len)) pages

pages-step : (it : Segment) (pages p : ℕ) → p < it.count → pages_from it (suc pages) p ≡ p ∷ pages_from it pages (next_of it.limit it.rows it.count it.stops p)
pages-step it pages p h = ap (λ b. cond b (p ∷ pages_from it pages (next_of it.limit it.rows it.count it.stops p)) []) (lt-ltb p it.count h)

pages-end : (it : Segment) (pages p : ℕ) → it.count ≤ p → pages_from it pages p ≡ []
pages-end it zero p h = refl
pages-end it (suc pages) p h = ap (λ b. cond b (p ∷ pages_from it pages (next_of it.limit it.rows it.count it.stops p)) []) (le-ltb p it.count h)

own-step : (it : Segment) (pages p : ℕ) → p < it.len → own_pages_from it (suc pages) p ≡ p ∷ own_pages_from it pages (next_of it.limit it.own it.len it.breaks p)
own-step it pages p h = ap (λ b. cond b (p ∷ own_pages_from it pages (next_of it.limit it.own it.len it.breaks p)) []) (lt-ltb p it.len h)

own-end : (it : Segment) (pages p : ℕ) → it.len ≤ p → own_pages_from it pages p ≡ []
own-end it zero p h = refl
own-end it (suc pages) p h = ap (λ b. cond b (p ∷ own_pages_from it pages (next_of it.limit it.own it.len it.breaks p)) []) (le-ltb p it.len h)

keep-front : (it : Segment) (p : ℕ) (pages : List ℕ) → lies_in it.s (it.s + it.len) p ≡ true → kept it (p ∷ pages) ≡ p ∷ kept it pages
keep-front it p pages is = ap (λ b. cond b (p ∷ kept it pages) (kept it pages)) is

keep-not : (it : Segment) (p : ℕ) (pages : List ℕ) → lies_in it.s (it.s + it.len) p ≡ false → kept it (p ∷ pages) ≡ kept it pages
keep-not it p pages is = ap (λ b. cond b (p ∷ kept it pages) (kept it pages)) is

-- Behind the segment no page is one of it.
behind : (it : Segment) (pages p : ℕ) → it.s + it.len ≤ p → kept it (pages_from it pages p) ≡ []
behind it zero p h = refl
behind it (suc pages) p h =
    elim (cases_lt p it.count) [
      | inl inside ↦
          let by = next_of-by it.limit it.rows it.count it.stops p inside in
          let above = by.above in
          ap (kept it) (pages-step it pages p inside)
          ∙ keep-not it p (pages_from it pages (next_of it.limit it.rows it.count it.stops p)) (lies-behind it.s (it.s + it.len) p (omega (arith, h)) h)
          ∙ behind it pages (next_of it.limit it.rows it.count it.stops p) (omega (arith, h, above))
      | inr past ↦ ap (kept it) (pages-end it (suc pages) p past)
    ]

-- In the segment both go on together.
inside-both : (it : Segment) → Matches it → (pages own r : ℕ) → r ≤ it.len → it.count ≤ it.s + r + pages → it.len ≤ r + own
    → kept it (pages_from it pages (it.s + r)) ≡ map (λ q. it.s + q) (own_pages_from it own r)
inside-both it m pages zero r low enough few = behind it pages (it.s + r) (omega (arith, few))
inside-both it m zero (suc own) r low enough few =
    let w = (m.stops).within in
    sym (ap (map (λ q. it.s + q)) (own-end it (suc own) r (omega (arith, enough, w))))
inside-both it m (suc pages) (suc own) r low enough few =
    elim (cases_lt r it.len) [
      | inl inside ↦
          let w = (m.stops).within in
          let next = next_of it.limit it.own it.len it.breaks r in
          let same = next_of-shift it.limit it.rows it.own it.count it.stops it.s it.len it.breaks r m.agree m.stops inside in
          let by = next_of-by it.limit it.own it.len it.breaks r inside in
          let above = by.above in
          let stop = next_stop-is r it.len it.breaks in
          let sw = stop.within in
          let bw = by.within in
          ap (kept it) (pages-step it pages (it.s + r) (omega (arith, inside, w)))
          ∙ keep-front it (it.s + r) (pages_from it pages (next_of it.limit it.rows it.count it.stops (it.s + r))) (lies-yes it.s (it.s + it.len) (it.s + r) (omega arith) (omega (arith, inside)))
          ∙ ap (λ n. (it.s + r) ∷ kept it (pages_from it pages n)) same
          ∙ ap (λ (zs : List ℕ). (it.s + r) ∷ zs) (inside-both it m pages own next (omega (arith, bw, sw)) (omega (arith, enough, above)) (omega (arith, few, above)))
          ∙ sym (ap (map (λ q. it.s + q)) (own-step it own r inside))
      | inr past ↦
          behind it (suc pages) (it.s + r) (omega (arith, past)) ∙ sym (ap (map (λ q. it.s + q)) (own-end it (suc own) r past))
    ]

-- Up to the segment no page is one of it, and none passes its start.
up_to : (it : Segment) → Matches it → (pages p : ℕ) → p ≤ it.s → it.count ≤ p + pages
    → kept it (pages_from it pages p) ≡ map (λ q. it.s + q) (own_pages_from it it.len 0)
up_to it m zero p low enough =
    let w = (m.stops).within in
    let none : it.len ≤ 0 = omega (arith, w, low, enough) in
    sym (ap (map (λ q. it.s + q)) (own-end it it.len 0 none))
up_to it m (suc pages) p low enough =
    elim (cases_lt p it.s) [
      | inl before ↦
          let w = (m.stops).within in
          let inside : p < it.count = omega (arith, before, w) in
          let next = next_of it.limit it.rows it.count it.stops p in
          let by = next_of-by it.limit it.rows it.count it.stops p inside in
          let above = by.above in
          let not_past : next ≤ it.s = elim ((m.stops).begin) [
            | inl none ↦ absurd (omega (arith, none, before))
            | inr among ↦ next_of-stop it.limit it.rows it.count it.stops p it.s inside before among
          ] in
          ap (kept it) (pages-step it pages p inside)
          ∙ keep-not it p (pages_from it pages next) (lies-before it.s (it.s + it.len) p before)
          ∙ up_to it m pages next not_past (omega (arith, enough, above))
      | inr here ↦
          let same : p ≡ it.s + 0 = omega (arith, here, low) in
          ap (λ n. kept it (pages_from it (suc pages) n)) same
          ∙ inside-both it m (suc pages) it.len 0 (omega arith) (omega (arith, enough, same)) (omega arith)
    ]

-- The page starts of a text that lie in the segment are those of its own rows, from its start on.
pub starts_of-segment : (it : Segment) → Matches it
    → filter (lies_in it.s (it.s + it.len)) (starts_of it.limit it.rows it.count it.stops) ≡ map (λ q. it.s + q) (starts_of it.limit it.own it.len it.breaks)
starts_of-segment it m = up_to it m it.count 0 (omega arith) (omega arith)
