use Rattle.std.proofs.Common.{◌≡◌, ◌<◌, Vec, Global, List, [], length, drop, get_or, ap, sym, ◌∙◌, subst, arith}
use Rattle.std.specs.Prelude.{All}
use Rattle.std.proofs.lemmas.Grind.{common_steps}
use Rattle.spec_labels.specs.Labels.{LabelOf, IsLabel}
use Rattle.sp_labels.specs.declared.label.Label.{Label}
use Rattle.sp_scenes.proofs.NewLabels.{Labelled, Labelled-none, Labelled-waiting, Labelled-recorded, Labelled-all}
use Rattle.sp_scenes.proofs.LineLabels.{bare_heading, bare_headings, labels-bare, length-bare, bare-at, line_labels-IsLabel, length-line_labels}
use Rattle.sp_scenes.proofs.numbering.locked_lines.Goals as goal
use Rattle.sp_scenes.proofs.numbering.locked_lines.Goals.{in-Some+in_ok-push_recorded-in-Some, in-None}

pub loop-line-init : goal.loop-line-init
loop-line-init c =
    let headings = bare_headings c.args.lines.now in
    record {
      labelled = subst (λ (all : List LabelOf). Labelled c.args.records.now headings c.in_ok-labels.labels.items 0 0 all) (labels-bare c.args.records.now c.args.lines.now)
          (Labelled-none c.args.records.now headings c.in_ok-labels.labels.items c.in_ok-labels.ensures.items);
      few = omega arith;
    }

pub loop-line-preserved : goal.loop-line-preserved
loop-line-preserved c =
    let lines = c.args.lines.now in
    let i = c.loop-line.line-index in
    let here : get_or lines i 0 ≡ (get_or (bare_headings lines) i (bare_heading 0)).id = sym (bare-at lines i 0 c.loop-line-test.true) in
    let within : i < length (bare_headings lines) = omega (arith, length-bare lines, c.loop-line-test.true) in
    elim c.match-place_of.branch [
      | in-Some+in_ok-push_recorded-in-Some w ↦ record {
        labelled =
            Labelled-recorded c.args.records.now (bare_headings lines) c.loop-line.labels.items c.match-place_of.labels.items c.loop-line.waiting c.match-place_of.waiting i
            (get_or lines i 0) w.in-Some.place _ (bare_heading 0) within here (sym w.in-Some.ensures)
            (ap (λ (v : Vec Label Global). v.items) w.labels-is ∙ w.in_ok-push_recorded-in-Some.ensures) w.waiting-is c.loop-line.invariant.labelled;
        few = omega arith;
      }
      | in-None w ↦ record {
        labelled =
            Labelled-waiting c.args.records.now (bare_headings lines) c.loop-line.labels.items c.match-place_of.labels.items c.loop-line.waiting c.match-place_of.waiting i
            (get_or lines i 0) _ (bare_heading 0) within here (sym w.in-None.ensures)
            (ap (λ (v : Vec Label Global). v.items) w.labels-is) w.waiting-is c.loop-line.invariant.labelled;
        few = omega arith;
      }
    ]

pub returns-clause-numbers : goal.returns-clause-numbers
returns-clause-numbers c =
    let many = length-bare c.args.lines.now in
    let end : drop c.loop-line.line-index (bare_headings c.args.lines.now) ≡ [] = grind (arith, common_steps, many) in
    c.in_ok-push_new.ensures ∙ Labelled-all c.args.records.now (bare_headings c.args.lines.now) c.loop-line.labels.items c.loop-line.waiting c.loop-line.line-index _ end c.loop-line.invariant.labelled

pub returns-clause-labels : goal.returns-clause-labels
returns-clause-labels c = subst (λ (ls : List LabelOf). All IsLabel ls) (sym (returns-clause-numbers c)) (line_labels-IsLabel c.args.records.now c.args.lines.now c.requires.records)

pub returns-clause-count : goal.returns-clause-count
returns-clause-count c = ap length (returns-clause-numbers c) ∙ length-line_labels c.args.records.now c.args.lines.now

pub push_recorded-requires-clause-few : goal.push_recorded-requires-clause-few
push_recorded-requires-clause-few c = omega (arith, c.loop-line.invariant.few, c.requires.few)

pub push_new-requires-clause-few : goal.push_new-requires-clause-few
push_new-requires-clause-few c = omega (arith, c.loop-line.invariant.few, c.requires.few)

pub overflow_add-waiting : goal.overflow_add-waiting
overflow_add-waiting c = omega (arith, c.loop-line.invariant.few, c.requires.few)
