-- The rows of a text as pages are filled of them.
use Rattle.std.specs.Prelude.{◌≡◌, ◌⊎◌, ℕ, List, length}
use Rattle.spec_pages.specs.declared.Shape.{Shape}
use Rattle.spec_pages.specs.Pages.{page_starts}
use Rattle.spec_edit.specs.PageWindows.{AreStops}

-- What page ends see of each row, the stops among them, and how many rows a page has.
pub record GalleyOf : Type 0 where
  pub shapes : List Shape
  pub stops : List ℕ
  pub limit : ℕ

-- What always holds of them.
pub record IsGalley (galley : GalleyOf) : Type 0 where
  pub limit : (galley.limit ≡ 54) ⊎ (galley.limit ≡ 58)
  pub stops : AreStops (length galley.shapes) galley.stops

-- The first rows of its pages.
abbrev pub starts_in : GalleyOf → List ℕ
starts_in galley = page_starts galley.limit galley.shapes galley.stops
