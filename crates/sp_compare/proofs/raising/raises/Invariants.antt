use Rattle.std.proofs.Common.{◌≡◌, ◌++◌, List, Option, drop}
use Rattle.spec_labels.specs.Labels.{LabelOf}
use Rattle.spec_sheets.specs.Shown.{shown_rows}
use Rattle.spec_state.specs.Changes.{segment_rows}
use Rattle.sp_compare.specs.Raised.{raises}
use Rattle.sp_compare.proofs.raising.raises.Given as goal

abbrev pub invariant-loop-index : goal.invariant-loop-index
invariant-loop-index l = (olds news : Option (List LabelOf)) →
    l.moved.items
    ++ raises l.round l.index (segment_rows (shown_rows l.texts.old olds l.texts.olds) (drop l.index l.before)) (segment_rows (shown_rows l.texts.new news l.texts.news) (drop l.index l.after)) (drop l.index l.records)
    ≡ raises l.round 0 (segment_rows (shown_rows l.texts.old olds l.texts.olds) l.before) (segment_rows (shown_rows l.texts.new news l.texts.news) l.after) l.records
