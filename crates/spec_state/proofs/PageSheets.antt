-- The pages of a segment are sheets of one page each.
use Rattle.std.proofs.Common.{◌≡◌, ℕ, ◌+◌, ◌<◌, ◌≤◌, Bool, true, false, ◌&&◌, ◌||◌, cond, leb, ltb, List, [], ◌∷◌, ◌++◌, map, get_or, inl, inr, refl, sym, ap, ap₂, subst, ◌∙◌, arith, append_assoc}
use Rattle.std.specs.Prelude.{filter, slice_index_or, All}
use Rattle.std.proofs.lemmas.Bool.{cases_Bool, cases_lt, cases_eq, and_parts, lt-ltb, le-leb, lt-leb, ne_eqb, ltb-true}
use Rattle.std.proofs.lemmas.List.Elements.{All-head, All-tail, filter_passes}
use Rattle.std.proofs.lemmas.List.Kept.{AllPairs-filter}
use Rattle.spec_text.proofs.ListLaws.{pairs-head, pairs-tail}
use Rattle.spec_labels.specs.PageRecords.{SegmentOf, segment_pages, page_sheets}
use Rattle.spec_pages.specs.OwnPages.{is_among, lies_in}
use Rattle.spec_pages.proofs.StartLists.{AreAbove}
use Rattle.spec_state.proofs.OnePages.{one-page}
use Rattle.spec_state.proofs.OpenSheets.{start_of_sheet, AreOpen}

-- What passes a test inside another.
pub filter-twice : {X : Type 0} (f g : X → Bool) (xs : List X) → ((x : X) → f x ≡ true → g x ≡ true) → filter f (filter g xs) ≡ filter f xs
filter-twice f g [] inner = refl
filter-twice {X} f g (x ∷ xs) inner = elim (cases_Bool (f x)) [
  | inl yes_is ↦
      ap (λ b. filter f (cond b (x ∷ filter g xs) (filter g xs))) (inner x yes_is)
      ∙ ap₂ (λ b (l : List X). cond b (x ∷ l) l) yes_is (filter-twice f g xs inner)
      ∙ sym (ap (λ b. cond b (x ∷ filter f xs) (filter f xs)) yes_is)
  | inr no_is ↦ by (g x) no_is (filter-twice f g xs inner) ∙ sym (ap (λ b. cond b (x ∷ filter f xs) (filter f xs)) no_is)
]
  where
    by : (b : Bool) → f x ≡ false → filter f (filter g xs) ≡ filter f xs → filter f (cond b (x ∷ filter g xs) (filter g xs)) ≡ filter f xs
    by true is rest = ap (λ b. cond b (x ∷ filter f (filter g xs)) (filter f (filter g xs))) is ∙ rest
    by false is rest = rest

-- A page start of the pages, from a row on, stands first among those of a segment that begins there.
pub first-page : (segment : SegmentOf) (pages : List ℕ) → segment.start < segment.end → AreAbove pages → is_among pages segment.start ≡ true
    → (later : List ℕ) × (segment_pages segment pages ≡ segment.start ∷ later)
first-page segment [] some rising there = cc
first-page segment (page ∷ pages) some rising there = elim (cases_eq page segment.start) [
  | inl same ↦
      let test : lies_in segment.start segment.end page ≡ true =
      ap₂ (λ a b. a && b) (le-leb segment.start page (omega (arith, same))) (lt-ltb page segment.end (omega (arith, same, some))) in (
        filter (lies_in segment.start segment.end) pages,
        ap (λ b. cond b (page ∷ filter (lies_in segment.start segment.end) pages) (filter (lies_in segment.start segment.end) pages)) test
            ∙ ap (λ p. p ∷ filter (lies_in segment.start segment.end) pages) same,
      )
  | inr other ↦
      let behind : is_among pages segment.start ≡ true = sym (ap (λ b. b || is_among pages segment.start) (ne_eqb page segment.start other)) ∙ there in
      let low : page < segment.start = among-above page segment.start pages (pairs-head (λ one other. one < other) page pages rising) behind in
      let test : lies_in segment.start segment.end page ≡ false = ap (λ b. b && ltb page segment.end) (lt-leb segment.start page low) in
      let rest = first-page segment pages some (pairs-tail (λ one other. one < other) page pages rising) behind in
      (rest.0, ap (λ b. cond b (page ∷ filter (lies_in segment.start segment.end) pages) (filter (lies_in segment.start segment.end) pages)) test ∙ rest.1)
]
  where
    among-above : (low q : ℕ) (ps : List ℕ) → All (λ p. low < p) ps → is_among ps q ≡ true → low < q
    among-above low q [] all is = absurd (let bad : ⊥ = cc in bad)
    among-above low q (p ∷ ps) all is = elim (cases_eq p q) [
      | inl same ↦ let h = All-head (λ p. low < p) p ps all in omega (arith, h, same)
      | inr differ ↦ among-above low q ps (All-tail (λ p. low < p) p ps all) (sym (ap (λ b. b || is_among ps q) (ne_eqb p q differ)) ∙ is)
    ]

pub starts-pages : (segment : SegmentOf) (m : ℕ) (pages : List ℕ) → map start_of_sheet (page_sheets segment m pages) ≡ pages
starts-pages segment m [] = refl
starts-pages segment m (page ∷ later) = ap (λ (ps : List ℕ). page ∷ ps) (starts-pages segment (m + 1) later)

end-within : (front : List ℕ) (p : ℕ) (later : List ℕ) (end : ℕ) → All (λ page. page < end) (front ++ (p ∷ later)) → slice_index_or later 0 end ≤ end
end-within (f ∷ front) p later end all = end-within front p later end (All-tail (λ page. page < end) f (front ++ (p ∷ later)) all)
end-within [] p [] end all = omega arith
end-within [] p (q ∷ later) end all = let h = All-head (λ page. page < end) q later (All-tail (λ page. page < end) p (q ∷ later) all) in omega (arith, h)

-- One page of pages, up to the next one or an end.
pub page-one : (low end : ℕ) (pages front : List ℕ) (p : ℕ) (later : List ℕ) → AreAbove pages → filter (lies_in low end) pages ≡ front ++ (p ∷ later)
    → filter (lies_in p (slice_index_or later 0 end)) pages ≡ p ∷ []
page-one low end pages front p later rising are =
    let test : ℕ → Bool = lies_in low end in
    let all : All (λ page. page < end) (front ++ (p ∷ later)) = subst (All (λ page. page < end)) are
    (λ k d h. ltb-true (get_or (filter test pages) k d) end (and_parts (leb low (get_or (filter test pages) k d)) (ltb (get_or (filter test pages) k d) end) (filter_passes test pages k d h)).1) in
    let least : low ≤ p = at-least front (subst (All (λ page. low ≤ page)) are
    (λ k d h. leb-low low (get_or (filter test pages) k d) (and_parts (leb low (get_or (filter test pages) k d)) (ltb (get_or (filter test pages) k d) end) (filter_passes test pages k d h)).0)) in
    let rises : AreAbove (front ++ (p ∷ later)) = subst AreAbove are (AllPairs-filter (λ one other. one < other) test pages rising) in
    let within = end-within front p later end all in
    let inner : (x : ℕ) → lies_in p (slice_index_or later 0 end) x ≡ true → test x ≡ true = λ x is.
    let parts = and_parts (leb p x) (ltb x (slice_index_or later 0 end)) is in
    let a = leb-low p x parts.0 in
    let b = ltb-true x (slice_index_or later 0 end) parts.1 in
    ap₂ (λ a b. a && b) (le-leb low x (omega (arith, a, least))) (lt-ltb x end (omega (arith, b, within))) in
    sym (filter-twice (lies_in p (slice_index_or later 0 end)) test pages inner)
    ∙ ap (filter (lies_in p (slice_index_or later 0 end))) are
    ∙ one-page front p later end rises all
  where
    leb-low : (a b : ℕ) → leb a b ≡ true → a ≤ b
    leb-low a b is = elim (cases_lt b a) [ inl less ↦ absurd (let e : true ≡ false = sym is ∙ lt-leb a b less in let bad : ⊥ = cc in bad) | inr le ↦ le ]

    at-least : (front : List ℕ) → All (λ page. low ≤ page) (front ++ (p ∷ later)) → low ≤ p
    at-least [] all = All-head (λ page. low ≤ page) p later all
    at-least (f ∷ front) all = at-least front (All-tail (λ page. low ≤ page) f (front ++ (p ∷ later)) all)

pub lies-some : (p e : ℕ) (pages : List ℕ) → filter (lies_in p e) pages ≡ p ∷ [] → p < e
lies-some p e pages are =
    let all : All (λ x. lies_in p e x ≡ true) (p ∷ []) = subst (All (λ x. lies_in p e x ≡ true)) are (filter_passes (lies_in p e) pages) in
    ltb-true p e (and_parts (leb p p) (ltb p e) (All-head (λ x. lies_in p e x ≡ true) p [] all)).1

-- So the sheets of a segment's pages are of one page each.
pub pages-open : (segment : SegmentOf) (pages front : List ℕ) (p : ℕ) (later : List ℕ) (m : ℕ) → AreAbove pages → segment_pages segment pages ≡ front ++ (p ∷ later)
    → AreOpen pages segment.end (page_sheets segment m (p ∷ later))
pages-open segment pages front p [] m rising are =
    let one = page-one segment.start segment.end pages front p [] rising are in
    (record { label = refl; ends = refl; shown = refl; some = lies-some p segment.end pages one; one = one }, tt)
pages-open segment pages front p (q ∷ later) m rising are =
    let one = page-one segment.start segment.end pages front p (q ∷ later) rising are in (
      record { label = refl; ends = refl; shown = refl; some = lies-some p q pages one; one = one },
      pages-open segment pages (front ++ (p ∷ [])) q later (m + 1) rising (are ∙ sym (append_assoc front (p ∷ []) (q ∷ later))),
    )
