-- The first rows of the title sheets of a layout, and parts of it that leave these.
use Rattle.std.specs.Prelude.{◌≡◌, ℕ, List, []}
use Rattle.spec_pages.specs.declared.Paper.{Paper}
use Rattle.spec_pages.specs.Pages.{page_starts, rows_on}
use Rattle.sp_layout.specs.Bodies.{shapes_in}
use Rattle.sp_layout.specs.LaidOut.{LayoutOf}
use Rattle.sp_layout.specs.declared.kept.PartPlaces.{PartPlaces}

-- Those that its title page has on a paper.
abbrev pub laid_titles : LayoutOf → Paper → List ℕ
laid_titles layout paper = page_starts (rows_on paper) (shapes_in layout.titles.elements) []

-- No element of a title page comes, and none goes.
pub record LeavesTitles (at : PartPlaces) (part : LayoutOf) : Type 0 where
  pub none_come : part.titles.elements ≡ []
  pub none_go : at.title_from ≡ at.title_to
