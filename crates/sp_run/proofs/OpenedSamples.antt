-- The lines that reading the script of a sample comes to.
use Rattle.std.proofs.Common.{◌≡◌, ℕ, ◌+◌, List, [], ◌∷◌, length, ap, sym, ◌∙◌, refl}
use Rattle.std.proofs.lemmas.List.{length-map}
use Rattle.spec_text.specs.Lines.{LineState, lines, reading_of, lines_from, read_lines, line_texts}
use Rattle.spec_sample.specs.Sample.{sample_lines}
use Rattle.sp_text.specs.Gap.{LinesState}
use Rattle.sp_text.specs.Reading.{IsRead}

texts-from : (id : ℕ) (texts : List (List ℕ)) → line_texts (lines_from id texts) ≡ texts
texts-from id [] = refl
texts-from id (text ∷ texts) = ap (λ (ts : List (List ℕ)). text ∷ ts) (texts-from (id + 1) texts)

-- The lines were just read, and are those of the sample.
pub record IsOpening (n : ℕ) (text : LinesState) : Type 0 where
  pub are : line_texts text.lines ≡ sample_lines n
  pub read : text.lines ≡ read_lines (line_texts text.lines)
  pub next : text.next ≡ length text.lines

pub opening : (n : ℕ) (script given : List ℕ) (text : LinesState) → given ≡ script → reading_of script ≡ lines (sample_lines n) → IsRead (reading_of given) text → IsOpening n text
opening n script given text same reads read =
    let texts : line_texts text.lines ≡ read.texts = ap line_texts read.lines_are ∙ texts-from 0 read.texts in
    let both : lines read.texts ≡ lines (sample_lines n) = sym read.came_to ∙ ap reading_of same ∙ reads in
    let one : read.texts ≡ sample_lines n = cc in
    record {
      are = texts ∙ one;
      read = read.lines_are ∙ ap read_lines (sym texts);
      next = read.next_is ∙ sym (ap length texts) ∙ length-map text.lines (λ (line : LineState). line.text);
    }
