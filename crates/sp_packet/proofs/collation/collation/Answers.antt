use Rattle.std.proofs.Common.{List, ℕ, map, Bor, ap, ◌∙◌}
use Rattle.spec_packet.specs.SheetLists.{SheetListOf}
use Rattle.sp_packet.proofs.MergeLaws.{gather}
use Rattle.sp_packet.proofs.collation.collation.Goals as goal

pub returns : goal.returns
returns c =
    gather (λ (t : Bor (List ℕ)). t.now) c.write_merged.new.bytes.items c.write_titles.new.bytes.items c.new-bytes.result.items c.deref.result.now c.deref-3.result.now c.deref-2.result.now
    c.args.old.now c.args.new.now
    c.in_ok-write_merged.ensures c.in_ok-write_titles.ensures c.new-bytes.ensures.items
    (ap (map (λ (t : Bor (List ℕ)). t.now)) c.deref.ensures.value ∙ ap (λ (l : SheetListOf). l.titles) c.new.view_is)
    (c.deref-3.ensures.value ∙ ap (λ (l : SheetListOf). l.labelled) c.new.view_is)
    (c.deref-2.ensures.value ∙ ap (λ (l : SheetListOf). l.labelled) c.old.view_is)
