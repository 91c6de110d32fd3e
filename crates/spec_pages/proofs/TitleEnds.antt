-- Pages of the rows of title pages: none may end between these, so each ends as late as its height allows (docs/RULES.md, "Pages").
use Rattle.std.proofs.Common.{◌≡◌, ℕ, ◌+◌, ◌-◌, ◌<◌, ◌≤◌, true, false, Option, Some, None, List, [], length, get_or, slice_get, inl, inr, refl, sym, ap, ap₂, ◌∙◌, arith}
use Rattle.std.specs.Prelude.{All}
use Rattle.std.proofs.lemmas.Bool.{cases_eq, cases_lt}
use Rattle.std.proofs.lemmas.Option.{slice_get-get_or, slice_get_past}
use Rattle.spec_pages.specs.declared.RowKind.TheVariants.{Action}
use Rattle.spec_pages.specs.declared.Shape.{Shape}
use Rattle.spec_pages.specs.Pages.{may_part_at, is_legal, carried, height_of, next_page}
use Rattle.spec_pages.specs.Rows.{title_shape}
use Rattle.spec_pages.proofs.PageLaws.{height_of-rises, Fits, page_end-IsPageEnd}

-- The rows have the shape of rows of title pages.
abbrev pub AreTitleShapes : List Shape → Type 0
AreTitleShapes shapes = All (λ shape. shape ≡ title_shape shape) shapes

no_shape : Shape
no_shape = record { lead = 0; kind = Action; index = 0; rest = 0; sentence_end = false }

title-at : (shapes : List Shape) → AreTitleShapes shapes → (k : ℕ) → k < length shapes → slice_get shapes k ≡ Some (title_shape (get_or shapes k no_shape))
title-at shapes are k inside = slice_get-get_or shapes k no_shape inside ∙ ap Some (are k no_shape inside)

-- No page may end between them.
pub never-legal : (shapes : List Shape) → AreTitleShapes shapes → (q : ℕ) → is_legal shapes q ≡ false
never-legal shapes are q = elim (cases_lt q (length shapes)) [
  | inl inside ↦ ap₂ may_part_at (title-at shapes are (q - 1) (omega (arith, inside))) (title-at shapes are q inside)
  | inr past ↦ ap (may_part_at (slice_get shapes (q - 1))) (slice_get_past shapes q past) ∙ none (slice_get shapes (q - 1))
]
  where
    none : (above : Option Shape) → may_part_at above None ≡ false
    none None = refl
    none (Some above) = refl

-- Nor is one of them carried over.
pub never-carried : (shapes : List Shape) → AreTitleShapes shapes → (q : ℕ) → carried (slice_get shapes q) ≡ 0
never-carried shapes are q = elim (cases_lt q (length shapes)) [
  | inl inside ↦ ap carried (title-at shapes are q inside)
  | inr past ↦ ap carried (slice_get_past shapes q past)
]

-- The page from row p ends at the greatest place where it fits.
pub record EndsLate (limit : ℕ) (shapes : List Shape) (p end : ℕ) : Type 0 where
  pub fits : Fits limit shapes p (length shapes) end
  pub latest : (q : ℕ) → p < q → q ≤ length shapes → height_of shapes p q ≤ limit → q ≤ end

pub title-ends-late : (limit : ℕ) → 3 ≤ limit → (shapes : List Shape) (p : ℕ) → AreTitleShapes shapes → p < length shapes → EndsLate limit shapes p (next_page limit shapes [] p)
title-ends-late limit most shapes p are inside =
    let it = page_end-IsPageEnd limit most shapes p (length shapes) inside in
    let end = next_page limit shapes [] p in
    record {
      fits = it.fits;
      latest = λ q some within low.
          let other : Fits limit shapes p (length shapes) q = record { above = some; within = within; low = low } in
          elim it.kind [
            | inl good ↦ elim good.ends [
              | inl legal ↦ absurd (let bad : true ≡ false = sym legal ∙ never-legal shapes are end in let no_more : ⊥ = cc in no_more)
              | inr last ↦ omega (arith, last, within)
            ]
            | inr rest ↦ rest.1 q other
          ];
    }

-- So it ends before a row up to which it fits, where it is too high with this one or there is none.
pub title-end : (limit : ℕ) → 3 ≤ limit → (shapes : List Shape) (p q : ℕ) → AreTitleShapes shapes → p < length shapes → Fits limit shapes p (length shapes) q → (q < length shapes → limit < height_of shapes p (q + 1))
    → next_page limit shapes [] p ≡ q
title-end limit most shapes p q are inside fits high =
    let end = next_page limit shapes [] p in
    let late = title-ends-late limit most shapes p are inside in
    let own = late.fits in
    let least = late.latest q fits.above fits.within fits.low in
    elim (cases_lt q end) [
      | inl less ↦
          let over = high (omega (arith, less, own.within)) in
          let rises : height_of shapes p (q + 1) ≤ height_of shapes p end = elim (cases_eq (q + 1) end) [
            | inl same ↦ let e = ap (height_of shapes p) same in omega arith
            | inr other ↦ height_of-rises shapes p (q + 1) end (omega (arith, fits.above)) (omega (arith, less, other))
          ]
          in
          absurd (omega (arith, over, rises, own.low))
      | inr le ↦ omega (arith, least, le)
    ]
