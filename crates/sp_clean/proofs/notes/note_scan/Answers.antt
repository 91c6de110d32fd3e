use Rattle.std.proofs.Common.{rules, ◌≡◌, sym, ap, subst, ◌∙◌, ◌==◌, not, map, length, arith}
use Rattle.std.specs.List.{list_any}
use Rattle.spec_text.specs.Parts.{Parts}
use Rattle.spec_text.proofs.PartsLaws.{Parts-Lies}
use Rattle.spec_script.specs.Marked.{covered}
use Rattle.spec_script.specs.Notes.{note_turns, note_scanned}
use Rattle.spec_script.specs.Spans.{text_in, cut_spans}
use Rattle.spec_script.proofs.MarkedLaws.{length-covered}
use Rattle.spec_script.proofs.NoteLaws.{note_scanned-plain, length-text_in-sum, gone-Parts}
use Rattle.sp_clean.proofs.notes.note_scan.Goals as goal
use Rattle.sp_clean.proofs.notes.note_scan.Goals.{After-deref}

pub returns-then-not-contains-clause-value : goal.returns-then-not-contains-clause-value
returns-then-not-contains-clause-value c =
    let none = ap (list_any (λ b. b == 91)) (sym c.as_bytes.ensures.value) ∙ sym c.contains.ensures.value ∙ c.if-not-contains.true in
    let plain = note_scanned-plain c.args.text.now c.args.kept.now none in
    let outside = ap (note_scanned c.args.text.now c.args.kept.now) c.if-not-inside.true in
    let made = c.new.ensures.items in
    cc

flags-is : (c : After-deref) → c.deref.result.now ≡ covered note_turns c.args.inside (text_in c.args.text.now c.args.kept.now)
flags-is c =
    c.deref.ensures.value ∙ c.in_ok-notes.ensures.flags ∙ ap (covered note_turns c.args.inside) (c.as_bytes-bytes.ensures.value ∙ c.joined_text.ensures)

pub flagged_parts-requires-clause-order : goal.flagged_parts-requires-clause-order
flagged_parts-requires-clause-order c = λ k d h.
    let lies = Parts-Lies c.args.text.now c.args.kept.now k d c.requires.kept h in
    let order = lies.order in
    let fits = lies.end.0 in
    let long = c.requires.long in
    (order, omega arith)

pub flagged_parts-requires-clause-all : goal.flagged_parts-requires-clause-all
flagged_parts-requires-clause-all c =
    ap length (flags-is c) ∙ length-covered note_turns c.args.inside (text_in c.args.text.now c.args.kept.now)
    ∙ length-text_in-sum c.args.text.now c.args.kept.now 0 c.requires.kept

pub returns-clause-parts : goal.returns-clause-parts
returns-clause-parts c =
    subst (Parts c.args.text.now 0)
    (sym (c.in_ok-gone.ensures ∙ ap (λ l. cut_spans c.args.kept.now (map not l)) (flags-is (goal.at.returns-clause-parts c).After-deref)))
    (gone-Parts c.args.text.now c.args.kept.now c.args.inside c.utf8.text c.requires.kept)

pub returns-clause-value : goal.returns-clause-value
returns-clause-value c = search rules
