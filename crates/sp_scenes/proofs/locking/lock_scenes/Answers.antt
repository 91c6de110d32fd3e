use Rattle.std.proofs.Common.{◌≡◌, List, ap, sym, ◌∙◌, subst}
use Rattle.spec_labels.specs.Scenes.{SceneRecordOf, AreSceneRecords, locked_records, records_of}
use Rattle.spec_labels.specs.Scenes.{AreWithin}
use Rattle.spec_labels.proofs.LockedRecords.{locked_records-kept, locked_records-within}
use Rattle.sp_scenes.proofs.locking.lock_scenes.Goals as goal

pub returns-clause-records : goal.returns-clause-records
returns-clause-records c =
    let made : c.in_ok-records_of.field-0.items ≡ locked_records c.args.headings.now = c.in_ok-records_of.ensures ∙ ap (records_of c.args.headings.now) c.in_ok-labels.ensures.numbers in
    subst AreSceneRecords (sym made) (locked_records-kept c.args.headings.now c.requires (sym c.in_default.ensures) (sym c.in_default-disordered_place.ensures))

pub returns-clause-low : goal.returns-clause-low
returns-clause-low c =
    let made : c.in_ok-records_of.field-0.items ≡ locked_records c.args.headings.now = c.in_ok-records_of.ensures ∙ ap (records_of c.args.headings.now) c.in_ok-labels.ensures.numbers in
    subst (λ (records : List SceneRecordOf). AreWithin 999999999 records) (sym made) (locked_records-within c.args.headings.now c.requires)
