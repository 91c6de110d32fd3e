-- A state has sheets by relations, in one way only, and they are what is computed.
use Rattle.std.proofs.Common.{◌≡◌, ℕ, zero, suc, ◌+◌, ◌-◌, ◌<◌, ◌≤◌, List, [], ◌∷◌, ◌++◌, map, length, take, drop, inl, inr, refl, sym, ap, ap₂, subst, ◌∙◌, arith, length-append, length-drop, take-append-drop}
use Rattle.std.specs.Prelude.{slice_range, slice_index_or, None}
use Rattle.std.specs.List.{flat_map}
use Rattle.std.proofs.lemmas.Bool.{cases_lt}
use Rattle.std.proofs.lemmas.List.{length-map, length-take-le, drop_all, drop-drop, take_at, drop_at, take-append-le}
use Rattle.std.proofs.lemmas.List.Concat.{flat_map-cons}
use Rattle.spec_text.specs.Lines.{IsText, line_texts}
use Rattle.spec_script.specs.Stanzas.{PlacedBlock, blocks_of}
use Rattle.spec_script.proofs.TextBlocks.{text-blocks, text-blocks-only}
use Rattle.spec_pages.specs.declared.Paper.{Paper}
use Rattle.spec_pages.specs.declared.Paper.TheVariants.{Letter, A4}
use Rattle.spec_pages.specs.declared.Shape.{Shape}
use Rattle.spec_pages.specs.Pages.{height_of, next_page, rows_on}
use Rattle.spec_pages.specs.OwnPages.{AreJoined}
use Rattle.spec_pages.proofs.PageLaws.{Fits, PagesFrom, page_starts-PagesFrom}
use Rattle.spec_pages.proofs.TitleEnds.{AreTitleShapes, title-ends-late, title-end}
use Rattle.spec_sheets.specs.Shown.{Shown, shape_of}
use Rattle.spec_sheets.specs.PageRows.{page_height}
use Rattle.spec_sheets.specs.Sheets.{Sheet}
use Rattle.spec_sheets.proofs.ShownLaws.{shown_rows-shapes}
use Rattle.spec_sheets.proofs.TitleRows.{layout_of-title_shapes}
use Rattle.spec_state.specs.State.{State, text_of}
use Rattle.spec_state.specs.StateSheets.{title_sheet, title_sheets, layout_in, titles_in, title_starts, sheets_of_state}
use Rattle.spec_state.specs.RelatedSheets.{titles_by, body_by, FitSheet, AreFull, AreTitleSheets, AreSheetsOf}
use Rattle.spec_state.proofs.SheetHeights.{titles-joined, slice-height}

-- ---- rows of a list

-- The rows of sheets, one sheet behind the other.
abbrev all_rows : List (List Shown) → List Shown
all_rows sheets = flat_map (λ (rows : List Shown). rows) sheets

take-one : (n : ℕ) (xs : List Shown) → 0 < n → take 1 (take n xs) ≡ take 1 xs
take-one zero xs h = absurd (omega (arith, h))
take-one (suc n) [] h = refl
take-one (suc n) (x ∷ xs) h = refl

take-more : (n m : ℕ) (xs : List Shown) → m ≡ n + 1 → take n xs ++ take 1 (drop n xs) ≡ take m xs
take-more zero m xs is = ap (λ k. take k xs) (sym is)
take-more (suc n) zero xs is = absurd (omega (arith, is))
take-more (suc n) (suc m) [] is = refl
take-more (suc n) (suc m) (x ∷ xs) is = ap (λ (l : List Shown). x ∷ l) (take-more n m xs (omega (arith, is)))

-- From one place to before another, and from there on.
drop-slice : (rows : List Shown) (p q : ℕ) → p ≤ q → drop (q - p) (drop p rows) ≡ drop q rows
drop-slice rows p q h = let there : p + (q - p) ≡ q = omega (arith, h) in drop-drop (q - p) p rows ∙ ap (λ n. drop n rows) there

slice-rest : (rows : List Shown) (p q : ℕ) → p ≤ q → slice_range rows p q ++ drop q rows ≡ drop p rows
slice-rest rows p q h = ap (λ (l : List Shown). slice_range rows p q ++ l) (sym (drop-slice rows p q h)) ∙ take-append-drop (q - p) (drop p rows)

slice-more : (rows : List Shown) (p q : ℕ) → p ≤ q → slice_range rows p q ++ take 1 (drop q rows) ≡ slice_range rows p (q + 1)
slice-more rows p q h =
    let size : q + 1 - p ≡ q - p + 1 = omega (arith, h) in
    ap (λ (l : List Shown). slice_range rows p q ++ take 1 l) (sym (drop-slice rows p q h)) ∙ take-more (q - p) (q + 1 - p) (drop p rows) size

length-slice : (rows : List Shown) (p q : ℕ) → p ≤ q → q ≤ length rows → length (slice_range rows p q) ≡ q - p
length-slice rows p q h within = let left = length-drop p rows in length-take-le (q - p) (drop p rows) (omega (arith, left, h, within))

first-sheet : (limit : ℕ) (own : List Shown) (later : List (List Shown)) → AreFull limit (own ∷ later) → FitSheet limit own
first-sheet limit own [] full = full
first-sheet limit own (next ∷ later) full = full.0

later-full : (limit : ℕ) (own : List Shown) (later : List (List Shown)) → AreFull limit (own ∷ later) → AreFull limit later
later-full limit own [] full = tt
later-full limit own (next ∷ later) full = full.2

-- ---- the rows of a title page

-- The rows from each of these first rows to before the next.
abbrev pieces : List Shown → List ℕ → List (List Shown)
pieces rows [] = []
pieces rows (p ∷ later) = slice_range rows p (slice_index_or later 0 (length rows)) ∷ pieces rows later

pieces-sheets : (rows : List Shown) (starts : List ℕ) → title_sheets rows starts ≡ map title_sheet (pieces rows starts)
pieces-sheets rows [] = refl
pieces-sheets rows (p ∷ later) = ap (λ (l : List Sheet). title_sheet (slice_range rows p (slice_index_or later 0 (length rows))) ∷ l) (pieces-sheets rows later)

module _ (limit : ℕ) (most : 3 ≤ limit) (rows : List Shown) (titled : AreTitleShapes (map shape_of rows)) (joined : AreJoined (map shape_of rows)) where
  abbrev shapes : List Shape
  shapes = map shape_of rows

  abbrev next : ℕ → ℕ
  next p = next_page limit shapes [] p

  size : length shapes ≡ length rows
  size = length-map rows shape_of

  -- Where the sheet from a row on ends.
  fits-at : (p : ℕ) → p < length rows → Fits limit shapes p (length shapes) (next p)
  fits-at p inside = (title-ends-late limit most shapes p titled (omega (arith, inside, size))).fits

  fit-at : (p : ℕ) → p < length rows → FitSheet limit (slice_range rows p (next p))
  fit-at p inside =
      let fits = fits-at p inside in
      let within : next p ≤ length rows = omega (arith, fits.within, size) in
      let tall = slice-height rows p (next p) joined fits.above within in
      let count = length-slice rows p (next p) (omega (arith, fits.above)) within in
      record { some = omega (arith, count, fits.above); low = omega (arith, tall, fits.low) }

  more-at : (p : ℕ) → p < length rows → next p < length rows → limit < page_height (slice_range rows p (next p) ++ take 1 (drop (next p) rows))
  more-at p inside left =
      let late = title-ends-late limit most shapes p titled (omega (arith, inside, size)) in
      let above = (late.fits).above in
      let q = next p in
      let tall = ap page_height (slice-more rows p q (omega (arith, above))) ∙ slice-height rows p (q + 1) joined (omega (arith, above)) (omega (arith, left)) in
      elim (cases_lt limit (height_of shapes p (q + 1))) [
        | inl high ↦ omega (arith, high, tall)
        | inr low ↦ let no = late.latest (q + 1) (omega (arith, above)) (omega (arith, left, size)) low in absurd (omega (arith, no))
      ]

  -- The next sheet begins there, or the rows end.
  next-is : (p : ℕ) (later : List ℕ) → p < length rows → PagesFrom limit shapes [] (next p) later → slice_index_or later 0 (length rows) ≡ next p
  next-is p [] inside past = let fits = fits-at p inside in omega (arith, past, size, fits.within)
  next-is p (t ∷ later) inside (left, at, rest) = at

  all-rows : (p : ℕ) (starts : List ℕ) → PagesFrom limit shapes [] p starts → all_rows (pieces rows starts) ≡ drop p rows
  all-rows p [] past = sym (drop_all p rows (omega (arith, past, size)))
  all-rows p (s ∷ later) (inside, at, rest) =
      let here : p < length rows = omega (arith, inside, size) in
      let fits = fits-at p here in
      flat_map-cons (λ (l : List Shown). l) (slice_range rows s (slice_index_or later 0 (length rows))) (pieces rows later)
      ∙ ap₂ (λ m n. slice_range rows m n ++ all_rows (pieces rows later)) at (next-is p later here rest)
      ∙ ap (λ (l : List Shown). slice_range rows p (next p) ++ l) (all-rows (next p) later rest)
      ∙ slice-rest rows p (next p) (omega (arith, fits.above))

  all-full : (p : ℕ) (starts : List ℕ) → PagesFrom limit shapes [] p starts → AreFull limit (pieces rows starts)
  all-full p [] past = tt
  all-full p (s ∷ []) (inside, at, rest) =
      let here : p < length rows = omega (arith, inside, size) in
      let end = next-is p [] here rest in
      subst (λ m. FitSheet limit (slice_range rows m (length rows))) (sym at) (subst (λ n. FitSheet limit (slice_range rows p n)) (sym end) (fit-at p here))
  all-full p (s ∷ t ∷ later) (inside, at, (left, begins, rest)) =
      let here : p < length rows = omega (arith, inside, size) in
      let there : next p < length rows = omega (arith, left, size) in
      let behind = fits-at (next p) there in
      let end = next-is (next p) later there rest in
      let P : ℕ → ℕ → ℕ → Type 0 = λ m n k. limit < page_height (slice_range rows m n ++ take 1 (slice_range rows n k)) in
      let first : take 1 (slice_range rows (next p) (next (next p))) ≡ take 1 (drop (next p) rows) = take-one (next (next p) - next p) (drop (next p) rows) (omega (arith, behind.above)) in
      let over : P p (next p) (next (next p)) = subst (λ (l : List Shown). limit < page_height (slice_range rows p (next p) ++ l)) (sym first) (more-at p here there) in (
        subst (λ m. FitSheet limit (slice_range rows m t)) (sym at) (subst (λ n. FitSheet limit (slice_range rows p n)) (sym begins) (fit-at p here)),
        subst (λ m. P m t (slice_index_or later 0 (length rows))) (sym at) (subst (λ n. P p n (slice_index_or later 0 (length rows))) (sym begins) (subst (P p (next p)) (sym end) over)),
        all-full (next p) (t ∷ later) (left, begins, rest),
      )

  -- Sheets that are full end there too.
  full-end : (p : ℕ) (own : List Shown) (later : List (List Shown)) → p < length rows → AreFull limit (own ∷ later) → own ++ all_rows later ≡ drop p rows → next p ≡ p + length own
  full-end p own later inside full all = title-end limit most shapes p q titled (omega (arith, inside, size)) fits (high later full all)
    where
      q : ℕ
      q = p + length own

      cut : (others : List Shown) → own ++ others ≡ drop p rows → own ≡ slice_range rows p q
      cut others is =
          let count : length own ≡ q - p = omega arith in
          sym (take_at own others (length own) refl) ∙ ap (take (length own)) is ∙ ap (λ n. take n (drop p rows)) count

      within : (others : List Shown) → own ++ others ≡ drop p rows → q ≤ length rows
      within others is = let sum = sym (length-append own others) ∙ ap length is in let left = length-drop p rows in omega (arith, sum, left, inside)

      some : 0 < length own
      some = (first-sheet limit own later full).some

      fits : Fits limit shapes p (length shapes) q
      fits =
          let low = (first-sheet limit own later full).low in
          let inner = within (all_rows later) all in
          let tall = ap page_height (cut (all_rows later) all) ∙ slice-height rows p q joined (omega (arith, some)) inner in
          record { above = omega (arith, some); within = omega (arith, inner, size); low = omega (arith, low, tall) }

      high : (others : List (List Shown)) → AreFull limit (own ∷ others) → own ++ all_rows others ≡ drop p rows → q < length shapes → limit < height_of shapes p (q + 1)
      high [] all-own is left =
          let sum = sym (length-append own []) ∙ ap length is in
          let behind = length-drop p rows in
          absurd (omega (arith, sum, behind, left, size, inside))
      high (other ∷ others) both is left =
          let over = both.1 in
          let next_some = (first-sheet limit other others both.2).some in
          let rest : all_rows (other ∷ others) ≡ drop q rows = sym (drop_at own (all_rows (other ∷ others)) (length own) refl) ∙ ap (drop (length own)) is ∙ drop-drop (length own) p rows in
          let head : take 1 other ≡ take 1 (drop q rows) =
          sym (take-append-le 1 other (all_rows others) next_some) ∙ ap (take 1) (sym (flat_map-cons (λ (l : List Shown). l) other others) ∙ rest) in
          let whole : own ++ take 1 other ≡ slice_range rows p (q + 1) =
          ap₂ (λ (a b : List Shown). a ++ b) (cut (all_rows (other ∷ others)) is) head ∙ slice-more rows p q (omega arith) in
          let tall = ap page_height whole ∙ slice-height rows p (q + 1) joined (omega arith) (omega (arith, left, size)) in
          omega (arith, over, tall)

  only-cut : (p : ℕ) (starts : List ℕ) (sheets : List (List Shown)) → PagesFrom limit shapes [] p starts → all_rows sheets ≡ drop p rows → AreFull limit sheets → sheets ≡ pieces rows starts
  only-cut p [] [] past all full = refl
  only-cut p [] (own ∷ later) past all full =
      let some = (first-sheet limit own later full).some in
      let whole = sym (length-append own (all_rows later)) ∙ ap length (sym (flat_map-cons (λ (l : List Shown). l) own later) ∙ all) in
      let left = length-drop p rows in
      absurd (omega (arith, some, whole, left, past, size))
  only-cut p (s ∷ starts) [] (inside, at, rest) all full =
      let whole = ap length all in
      let left = length-drop p rows in
      absurd (omega (arith, whole, left, inside, size))
  only-cut p (s ∷ starts) (own ∷ later) (inside, at, rest) all full =
      let here : p < length rows = omega (arith, inside, size) in
      let parts : own ++ all_rows later ≡ drop p rows = sym (flat_map-cons (λ (l : List Shown). l) own later) ∙ all in
      let end : next p ≡ p + length own = full-end p own later here full parts in
      let count : length own ≡ next p - p = omega (arith, end) in
      let first : own ≡ slice_range rows p (next p) = sym (take_at own (all_rows later) (length own) refl) ∙ ap (take (length own)) parts ∙ ap (λ n. take n (drop p rows)) count in
      let behind : all_rows later ≡ drop (next p) rows = sym (drop_at own (all_rows later) (length own) refl) ∙ ap (drop (length own)) parts ∙ drop-drop (length own) p rows ∙ ap (λ n. drop n rows) (sym end) in
      ap₂ (λ (a : List Shown) (b : List (List Shown)). a ∷ b)
      (first ∙ ap₂ (slice_range rows) (sym at) (sym (next-is p starts here rest)))
      (only-cut (next p) starts later rest behind (later-full limit own later full))

-- ---- all sheets

paper-room : (paper : Paper) → 3 ≤ rows_on paper
paper-room Letter = omega arith
paper-room A4 = omega arith

titles-shaped : (state : State) → IsText (text_of state) → AreTitleShapes (map shape_of (titles_in state))
titles-shaped state is = subst AreTitleShapes (sym (shown_rows-shapes state.lines None (layout_in state).titles)) (layout_of-title_shapes state.speakers (text_of state) is)

title-pages : (state : State) → PagesFrom (rows_on state.paper) (map shape_of (titles_in state)) [] 0 (title_starts state)
title-pages state = page_starts-PagesFrom (rows_on state.paper) (paper-room state.paper) (map shape_of (titles_in state)) []

-- A state has the sheets that are computed.
pub sheets-related : (state : State) → IsText (text_of state) → AreSheetsOf state (sheets_of_state state)
sheets-related state is =
    let limit = rows_on state.paper in
    let titles = titles_in state in
    let blocks = blocks_of (line_texts state.lines) in
    record {
      blocks = blocks;
      read = text-blocks (line_texts state.lines);
      titles = pieces titles (title_starts state);
      cut = record {
        all = all-rows limit (paper-room state.paper) titles (titles-shaped state is) (titles-joined state is) 0 (title_starts state) (title-pages state);
        full = all-full limit (paper-room state.paper) titles (titles-shaped state is) (titles-joined state is) 0 (title_starts state) (title-pages state);
      };
      made = ap (λ (l : List Sheet). l ++ body_by state blocks) (pieces-sheets titles (title_starts state));
    }

-- And no others.
pub sheets-related-only : (state : State) → IsText (text_of state) → (sheets : List Sheet) → AreSheetsOf state sheets → sheets ≡ sheets_of_state state
sheets-related-only state is sheets it = subst P (sym (text-blocks-only (line_texts state.lines) it.blocks it.read)) here it.titles it.cut it.made
  where
    P : List PlacedBlock → Type 0
    P blocks = (own : List (List Shown)) → AreTitleSheets (rows_on state.paper) (titles_by state blocks) own → sheets ≡ map title_sheet own ++ body_by state blocks → sheets ≡ sheets_of_state state

    here : P (blocks_of (line_texts state.lines))
    here own cut made =
        let titles = titles_in state in
        let starts = title_starts state in
        let same = only-cut (rows_on state.paper) (paper-room state.paper) titles (titles-shaped state is) (titles-joined state is) 0 starts own (title-pages state) cut.all cut.full in
        made ∙ ap (λ (l : List Sheet). l ++ body_by state (blocks_of (line_texts state.lines))) (ap (map title_sheet) same ∙ sym (pieces-sheets titles starts))
