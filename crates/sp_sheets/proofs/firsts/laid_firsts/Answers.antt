use Rattle.std.proofs.Common.{◌≡◌, ℕ, List, ap, sym, subst, ◌∙◌}
use Rattle.std.specs.Prelude.{IfOk, option_map}
use Rattle.spec_labels.specs.declared.RowKey.{RowKey}
use Rattle.spec_records.specs.Kept.{RecordsOf}
use Rattle.spec_state.specs.State.{State}
use Rattle.spec_state.specs.Keeping.{state_of}
use Rattle.spec_state.specs.StateSheets.{keys_in}
use Rattle.spec_state.proofs.StateKeys.{state-row_keys}
use Rattle.sp_text.specs.Gap.{text_of}
use Rattle.sp_layout.specs.LaidOut.{LayoutOf}
use Rattle.sp_layout.specs.Kept.{laid_of}
use Rattle.sp_sheets.specs.Firsts.{key_starts}
use Rattle.sp_sheets.proofs.FirstsLaws.{anchored}
use Rattle.sp_sheets.proofs.firsts.laid_firsts.Goals as goal

pub record_starts-requires : goal.record_starts-requires
record_starts-requires c =
    let state : State = state_of (text_of c.args.lines.now) c.args.records.now in
    let laid = ap laid_of c.layout.view_is ∙ c.requires.laid in
    let keys : c.keys.result.now.items ≡ keys_in state = c.keys.ensures.keys ∙ ap (λ (l : LayoutOf). l.body.keys) laid ∙ sym (state-row_keys state) in
    anchored (λ those. those.items) state c.keys.result.now.items c.records.inside.pages c.requires.whole keys (sym (ap (λ (r : RecordsOf). r.pages) c.records.view_is))

pub returns : goal.returns
returns c =
    let state : State = state_of (text_of c.args.lines.now) c.args.records.now in
    let laid = ap laid_of c.layout.view_is ∙ c.requires.laid in
    let keys : c.keys.result.now.items ≡ keys_in state = c.keys.ensures.keys ∙ ap (λ (l : LayoutOf). l.body.keys) laid ∙ sym (state-row_keys state) in
    let records = option_map (λ those. those.items) c.records.inside.pages in
    subst (λ (ns : List ℕ). IfOk c.record_starts.result (λ firsts. firsts.items ≡ ns))
    (ap (λ (ks : List RowKey). key_starts state.lines ks records) keys ∙ ap (key_starts state.lines (keys_in state)) (ap (λ (r : RecordsOf). r.pages) c.records.view_is))
    c.record_starts.ensures
