-- Sheets of locked pages that stay but for their rounds.
use Rattle.std.proofs.Common.{◌≡◌, ℕ, zero, suc, ◌+◌, ◌-◌, List, [], ◌∷◌, length, map, get_or, sym, ap, ◌∙◌, arith}
use Rattle.spec_labels.specs.PageRecords.{PageRecordOf, SheetOf, Covers, sheets_of_records}
use Rattle.sp_locks.specs.Rounds.{AreButForRounds, in_round}
use Rattle.sp_locks.proofs.RoundLaws.{but-for-rounds}
use Rattle.sp_sheets.specs.Locked.{AreSheetsBefore}
use Rattle.sp_sheets.specs.Numbered.{numbered_sheet}

-- The last of sheets that follow one another ends where they do.
last-ends : (at n : ℕ) (sheets : List SheetOf) (rows : ℕ) (other : SheetOf) → Covers at sheets rows → n + 1 ≡ length sheets → (get_or sheets n other).end ≡ rows
last-ends at n [] rows other covers is = absurd (omega (arith, is))
last-ends at zero (sheet ∷ []) rows other covers is = covers.1
last-ends at (suc n) (sheet ∷ []) rows other covers is = absurd (omega (arith, is))
last-ends at zero (sheet ∷ next ∷ later) rows other covers is = absurd (omega (arith, is))
last-ends at (suc n) (sheet ∷ next ∷ later) rows other covers is = last-ends sheet.end n (next ∷ later) rows other covers.1 (omega (arith, is))

-- Where the last one still ends behind the last row, the sheets are those of the records but for their rounds.
pub kept-sheets : (rows : ℕ) (records : List PageRecordOf) (firsts pages : List ℕ) (sheets : List SheetOf) → AreSheetsBefore records firsts pages sheets
    → ((other : SheetOf) → (get_or sheets (length sheets - 1) other).end ≡ rows) → AreButForRounds sheets (sheets_of_records rows records firsts pages)
kept-sheets rows records firsts pages [] were ends = absurd (omega (arith, ends (numbered_sheet 0 0 (rows + 1) 0)))
kept-sheets rows records firsts pages (sheet ∷ later) were ends =
    let count : (length (sheet ∷ later) - 1) + 1 ≡ length (sheet ∷ later) = omega arith in
    let same : were.rows ≡ rows = sym (last-ends 0 (length (sheet ∷ later) - 1) (sheet ∷ later) were.rows sheet were.cover count) ∙ ends sheet in
    record {
      same = ap (map (in_round 0)) were.are
          ∙ (but-for-rounds were.rows were.olds records firsts pages were.labels).same
          ∙ ap (λ n. map (in_round 0) (sheets_of_records n records firsts pages)) same;
    }
