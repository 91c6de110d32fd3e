-- Title sheets cut row after row are pages.
use Rattle.std.proofs.Common.{◌≡◌, ℕ, zero, suc, ◌+◌, ◌-◌, ◌<◌, ◌≤◌, ◌⊎◌, cond, Some, List, [], ◌∷◌, ◌++◌, length, take, drop, slice_get, sum_by, inl, inr, refl, sym, ap, ap₂, subst, ◌∙◌, arith, append_assoc}
use Rattle.std.proofs.lemmas.Bool.{lt-ltb, le-ltb}
use Rattle.spec_pages.specs.declared.Shape.{Shape}
use Rattle.spec_pages.specs.Pages.{lead_of, height_of, next_page, page_starts, starts_from}
use Rattle.spec_pages.proofs.TitleEnds.{AreTitleShapes, never-carried, title-end}
use Rattle.sp_fill.proofs.Scans.{leads-more}

-- The last sheet of those that begin before a row has so many rows up to there.
pub record Cut (limit : ℕ) (shapes : List Shape) (row rows : ℕ) (starts : List ℕ) : Type 0 where
  pub front : List ℕ
  pub p : ℕ
  pub pages : ℕ
  pub are : starts ≡ front ++ (p ∷ [])
  pub above : p < row
  pub within : row ≤ length shapes
  pub height : rows ≡ height_of shapes p row
  pub low : rows ≤ limit
  pub enough : length shapes ≤ p + suc pages
  pub all : page_starts limit shapes [] ≡ front ++ starts_from limit shapes [] (suc pages) p

-- Before row 0 there is none: then a sheet is as good as full.
pub record Uncut (limit row rows : ℕ) (starts : List ℕ) : Type 0 where
  pub first : row ≡ 0
  pub full : rows ≡ limit
  pub none : starts ≡ []

abbrev pub IsCut : ℕ → List Shape → ℕ → ℕ → List ℕ → Type 0
IsCut limit shapes row rows starts = Uncut limit row rows starts ⊎ Cut limit shapes row rows starts

module _ (limit : ℕ) (most : 3 ≤ limit) (shapes : List Shape) (titles : AreTitleShapes shapes) where
  height-one : (p : ℕ) → height_of shapes p (p + 1) ≡ 1
  height-one p =
      let none : p + 1 - (p + 1) ≡ 0 = omega arith in
      omega (arith, ap (λ n. sum_by lead_of (take n (drop (p + 1) shapes))) none, never-carried shapes titles p, never-carried shapes titles (p + 1))

  height-more : (p row : ℕ) (shape : Shape) → p < row → slice_get shapes row ≡ Some shape → height_of shapes p (row + 1) ≡ height_of shapes p row + (1 + lead_of shape)
  height-more p row shape above found =
      omega (arith, leads-more shapes (p + 1) row shape (omega (arith, above)) found, never-carried shapes titles p, never-carried shapes titles row, never-carried shapes titles (row + 1))

  -- The row fits on the sheet.
  pub cut-fits : (row rows more : ℕ) (shape : Shape) (starts : List ℕ) → IsCut limit shapes row rows starts → slice_get shapes row ≡ Some shape → row < length shapes → more ≡ rows + (1 + lead_of shape) → more ≤ limit → IsCut limit shapes (row + 1) more starts
  cut-fits row rows more shape starts cut found inside is low = elim cut [
    | inl none ↦ absurd (omega (arith, none.full, is, low))
    | inr it ↦ inr (record {
      front = it.front;
      p = it.p;
      pages = it.pages;
      are = it.are;
      above = omega (arith, it.above);
      within = omega (arith, inside);
      height = omega (arith, is, it.height, height-more it.p row shape it.above found);
      low = low;
      enough = it.enough;
      all = it.all;
    })
  ]

  -- The pages from a sheet that ends before a row.
  starts-end : (p row pages : ℕ) → p < row → row ≤ length shapes → height_of shapes p row ≤ limit → (row < length shapes → limit < height_of shapes p (row + 1))
      → starts_from limit shapes [] (suc pages) p ≡ p ∷ starts_from limit shapes [] pages row
  starts-end p row pages above within low high =
      let inside : p < length shapes = omega (arith, above, within) in
      let end = title-end limit most shapes p row titles inside (record { above = above; within = within; low = low }) high in
      ap (λ b. cond b (p ∷ starts_from limit shapes [] pages (next_page limit shapes [] p)) []) (lt-ltb p (length shapes) inside)
      ∙ ap (λ n. p ∷ starts_from limit shapes [] pages n) end

  -- It doesn't, and begins the next one.
  pub cut-ends : (row rows more : ℕ) (shape : Shape) (starts : List ℕ) → IsCut limit shapes row rows starts → slice_get shapes row ≡ Some shape → row < length shapes → more ≡ rows + (1 + lead_of shape) → limit < more → IsCut limit shapes (row + 1) 1 (starts ++ row ∷ [])
  cut-ends row rows more shape starts cut found inside is high = elim cut [
    | inl none ↦ inr (first none)
    | inr it ↦ inr (next it)
  ]
    where
      first : Uncut limit row rows starts → Cut limit shapes (row + 1) 1 (starts ++ row ∷ [])
      first none = record {
        front = [];
        p = row;
        pages = length shapes - 1;
        are = ap (λ (front : List ℕ). front ++ row ∷ []) none.none;
        above = omega arith;
        within = omega (arith, inside);
        height = sym (height-one row);
        low = omega (arith, most);
        enough = omega (arith, inside);
        all = ap₂ (starts_from limit shapes []) (let count : length shapes ≡ suc (length shapes - 1) = omega (arith, inside) in count) (sym none.first);
      }

      next : Cut limit shapes row rows starts → Cut limit shapes (row + 1) 1 (starts ++ row ∷ [])
      next it =
          let over : row < length shapes → limit < height_of shapes it.p (row + 1) = λ _. omega (arith, high, is, it.height, height-more it.p row shape it.above found) in
          let from = starts-end it.p row it.pages it.above it.within (omega (arith, it.height, it.low)) over in
          let left : it.pages ≡ suc (it.pages - 1) = omega (arith, it.enough, it.above, inside) in
          record {
            front = starts;
            p = row;
            pages = it.pages - 1;
            are = refl;
            above = omega arith;
            within = omega (arith, inside);
            height = sym (height-one row);
            low = omega (arith, most);
            enough = omega (arith, it.enough, it.above, left);
            all = it.all
                ∙ ap (λ (those : List ℕ). it.front ++ those) (from ∙ ap (λ n. it.p ∷ starts_from limit shapes [] n row) left)
                ∙ sym (append_assoc it.front (it.p ∷ []) (starts_from limit shapes [] (suc (it.pages - 1)) row))
                ∙ ap (λ (front : List ℕ). front ++ starts_from limit shapes [] (suc (it.pages - 1)) row) (sym it.are);
          }

  none-left : (pages row : ℕ) → row ≡ length shapes → starts_from limit shapes [] pages row ≡ []
  none-left zero row last = refl
  none-left (suc pages) row last = ap (λ b. cond b (row ∷ starts_from limit shapes [] pages (next_page limit shapes [] row)) []) (le-ltb row (length shapes) (omega (arith, last)))

  -- After the last row the sheets are the pages.
  pub cut-all : (row rows : ℕ) (starts : List ℕ) → IsCut limit shapes row rows starts → row ≡ length shapes → starts ≡ page_starts limit shapes []
  cut-all row rows starts cut last = elim cut [
    | inl none ↦
        let empty : 0 ≡ length shapes = omega (arith, none.first, last) in
        none.none ∙ ap (λ pages. starts_from limit shapes [] pages 0) empty
    | inr it ↦
        let high : row < length shapes → limit < height_of shapes it.p (row + 1) = λ inside. absurd (omega (arith, inside, last)) in
        let from = starts-end it.p row it.pages it.above it.within (omega (arith, it.height, it.low)) high in
        it.are ∙ ap (λ (those : List ℕ). it.front ++ those) (sym (from ∙ ap (λ (those : List ℕ). it.p ∷ those) (none-left it.pages row last))) ∙ sym it.all
  ]

pub none-cut : (limit : ℕ) (shapes : List Shape) → IsCut limit shapes 0 limit []
none-cut limit shapes = inl (record { first = refl; full = refl; none = refl })

pub same-cut : (limit : ℕ) (shapes : List Shape) (row rows others : ℕ) (starts those : List ℕ) → rows ≡ others → starts ≡ those → IsCut limit shapes row others those → IsCut limit shapes row rows starts
same-cut limit shapes row rows others starts those rows_are are cut =
    subst (λ (n : ℕ). IsCut limit shapes row n starts) (sym rows_are) (subst (IsCut limit shapes row others) (sym are) cut)
