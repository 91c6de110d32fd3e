-- The HTML of all sheets shows the sheets, one behind the other.
use Rattle.std.proofs.Common.{◌≡◌, List, [], ◌∷◌, ◌++◌, append-nil, refl, subst}
use Rattle.std.specs.List.{flat_map}
use Rattle.spec_sheets.specs.Sheets.{Sheet}
use Rattle.spec_html.specs.Marks.{no_marks}
use Rattle.spec_html.specs.HtmlSheets.{before_sheets, behind_sheets, pages_html, sheet_html}
use Rattle.spec_html.specs.HtmlReading.{StyledByte, styled_text}
use Rattle.spec_html.specs.StyledSheets.{sheet_styled}
use Rattle.spec_html.proofs.ReadingLaws.{nothing, joined}
use Rattle.spec_html.proofs.SheetLaws.{ShowsPlainly, sheet-shown, shown-read}

-- What stands before and behind the sheets shows nothing.
front-shown : ShowsPlainly before_sheets []
front-shown = record { left = []; tags = λ rest. refl; escapes = λ rest. refl }

end-shown : ShowsPlainly behind_sheets []
end-shown = record { left = []; tags = λ rest. refl; escapes = λ rest. refl }

sheets-shown : (sheets : List Sheet) → ShowsPlainly (flat_map sheet_html sheets) (flat_map sheet_styled sheets)
sheets-shown [] = nothing no_marks
sheets-shown (sheet ∷ sheets) =
    joined no_marks no_marks no_marks (sheet_html sheet) (flat_map sheet_html sheets) (sheet_styled sheet) (flat_map sheet_styled sheets) (sheet-shown sheet) (sheets-shown sheets)

pub pages-styles : (sheets : List Sheet) → styled_text (pages_html sheets) ≡ flat_map sheet_styled sheets
pages-styles sheets =
    let html = flat_map sheet_html sheets in
    let text = flat_map sheet_styled sheets in
    let end = joined no_marks no_marks no_marks html behind_sheets text [] (sheets-shown sheets) end-shown in
    let whole = joined no_marks no_marks no_marks before_sheets (html ++ behind_sheets) [] (text ++ []) front-shown end in
    shown-read (pages_html sheets) text (subst (λ (ts : List StyledByte). ShowsPlainly (pages_html sheets) ts) (append-nil text) whole)
