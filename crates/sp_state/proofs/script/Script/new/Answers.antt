use Rattle.std.proofs.Common.{sym, subst}
use Rattle.spec_records.specs.Kept.{RecordsOf}
use Rattle.spec_state.specs.Keeping.{IsWhole, state_of}
use Rattle.sp_text.specs.Gap.{text_of}
use Rattle.sp_sheets.proofs.MadeLaws.{opened-whole}
use Rattle.sp_state.proofs.script.Script.new.Goals as goal

pub open-requires : goal.open-requires
open-requires g c =
    subst (λ (records : RecordsOf). IsWhole (state_of (text_of c.args.lines) records)) (sym c.none.ensures)
    (opened-whole (text_of c.args.lines) c.len-count.ensures.keeps c.requires.read c.requires.next)
