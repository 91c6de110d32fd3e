-- Sheets as HTML: a row with a style and an escape, a title sheet, and how they are read back.
use Rattle.std.proofs.Common.{◌≡◌, refl}
use Rattle.std.specs.Prelude.{codes}
use Rattle.spec_sheets.specs.Cells.{slice}
use Rattle.spec_html.specs.HtmlSheets.{part_html}
use Rattle.spec_html.specs.HtmlReading.{plain_text}

-- `a` in italics, and ` < b`.
pub italic-part : part_html (record { style = 1; text = slice (codes "a") }) ≡ codes "<i>a</i>"
italic-part = refl

pub escaped-part : part_html (record { style = 0; text = slice (codes " < b") }) ≡ codes " &lt; b"
escaped-part = refl

pub all-marks : part_html (record { style = 7; text = slice (codes "&") }) ≡ codes "<i><b><u>&amp;</u></b></i>"
all-marks = refl

-- The escapes are read back in one pass.
pub one-pass : plain_text (codes "<i>a</i> &amp;lt; &lt;b&gt;") ≡ codes "a &lt; <b>"
one-pass = refl
