use Rattle.std.proofs.Common.{◌≡◌, ◌++◌, map, ap, subst, ◌∙◌}
use Rattle.std.specs.Prelude.{slice_range}
use Rattle.spec_text.specs.Lines.{line_texts}
use Rattle.sp_outline.specs.Entries.{entry_of}
use Rattle.sp_contents.specs.Walks.{IsAbove, label_at, omitted_of}
use Rattle.sp_contents.proofs.EntryLaws.{adds-heading}
use Rattle.sp_contents.proofs.entries.add_heading.Goals as goal

pub returns : goal.returns
returns c =
    let scenes = c.args.scenes.now in
    let i = c.args.walk.headings in
    let p = c.args.walk.gone in
    let q = c.gone_below-to.result in
    let old = c.args.entries.now.items in
    let same : c.gone_in-gone.result.now ≡ scenes.gone = c.gone_in-gone.ensures in
    let above : IsAbove (label_at scenes.labels i) scenes.gone p q =
    subst (λ gone. IsAbove (label_at scenes.labels i) gone p q) same (subst (λ label. IsAbove label c.gone_in-gone.result.now p q) c.label_of.ensures.label c.gone_below-to.ensures) in
    adds-heading scenes (line_texts c.args.lines.now.lines) c.args.placed.now old c.add_gone.new.entries.items c.push.new.self.items c.in_ok-scene_entry.field-0 i p q c.requires.heading c.requires.inside c.requires.rising c.requires.walked above
    (c.in_ok-add_gone.ensures ∙ ap (λ gone. map entry_of old ++ map omitted_of gone) (c.gone_part.ensures ∙ ap (λ gone. slice_range gone p q) same))
    c.in_ok-scene_entry.ensures c.in_ok-push.ensures.items
