use Rattle.std.proofs.Common.{◌≡◌, ℕ, List, length, ap, sym, ◌∙◌}
use Rattle.std.proofs.lemmas.List.{length-map}
use Rattle.spec_text.specs.Lines.{LineState, lines, reading_of, read_lines, line_texts}
use Rattle.sp_text.specs.Gap.{LinesState}
use Rattle.sp_text.specs.Reading.{IsRead}
use Rattle.sp_run.specs.Unopened.{HasLines}
use Rattle.sp_run.proofs.SavedTexts.{texts-from}
use Rattle.sp_run.proofs.script.read_lines.Goals as goal

-- A script that was read, by its lines.
lines-read : (script : List ℕ) (text : LinesState) → IsRead (reading_of script) text → HasLines script text
lines-read script text read =
    let same : line_texts text.lines ≡ read.texts = ap line_texts read.lines_are ∙ texts-from 0 read.texts in
    record {
      reads = read.came_to ∙ ap lines (sym same);
      fresh = record {
        read = read.lines_are ∙ ap read_lines (sym same);
        next = read.next_is ∙ sym (ap length same) ∙ length-map text.lines (λ (line : LineState). line.text);
      };
    }

pub returns : goal.returns
returns c = lines-read c.args.script.now c.in_ok-read.field-0 c.in_ok-read.ensures
