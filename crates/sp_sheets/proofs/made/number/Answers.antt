use Rattle.std.proofs.Common.{ap₂, sym, subst, ◌∙◌}
use Rattle.spec_text.specs.Lines.{TextState}
use Rattle.spec_records.specs.Kept.{RecordsOf}
use Rattle.spec_state.specs.Headings.{heading_labels}
use Rattle.spec_state.specs.State.{text_of as state_text}
use Rattle.spec_state.specs.Keeping.{IsWhole, records_of, state_of}
use Rattle.sp_sheets.proofs.made.number.Goals as goal

pub made_labels-requires : goal.made_labels-requires
made_labels-requires c =
    let whole : IsWhole (state_of (state_text c.args.laid.now) (records_of c.args.laid.now)) = record { text = c.records.ensures.whole.text; rules = c.records.ensures.whole.rules } in
    subst IsWhole (sym (ap₂ state_of c.text.ensures c.records.ensures.records)) whole

pub returns : goal.returns
returns c = record {
  labels = c.in_ok-labels.ensures ∙ ap₂ (λ (text : TextState) (records : RecordsOf). heading_labels text.lines records.scenes) c.text.ensures c.records.ensures.records;
  title_starts = c.requires.titles;
  sheets = c.in_ok-renew_body_sheets.ensures.made;
}
