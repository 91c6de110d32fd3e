use Rattle.std.proofs.Common.{◌≡◌, ◌/◌, ◌∙◌, ◌++◌, List, ap, ap₂, sym, length, reverse, arith, vec_capacity, length-append, take_all, append-nil}
use Rattle.std.proofs.lemmas.List.{length-reverse, nil_from_length}
use Rattle.spec_text.specs.Lines.{LineState}
use Rattle.spec_text.specs.Edits.{relabelled}
use Rattle.sp_text.specs.Gap.{GapState, least_room}
use Rattle.sp_text.specs.Index.{index_room}
use Rattle.sp_text.proofs.Exchanges.{poured-put}
use Rattle.sp_text.proofs.Relabels.{differ-relabelled}
use Rattle.sp_text.proofs.sides.Sides.relabel.Goals as goal

pub rebuild-requires-clause-distinct : goal.rebuild-requires-clause-distinct
rebuild-requires-clause-distinct c =
    let inside = c.self.inside in
    let total = ap (λ (g : GapState). length g.lines) c.self.view_is in
    let parts = length-append inside.front.items (reverse inside.back.items) in
    let turned = length-reverse inside.back.items in
    let many : length c.pour.new.to.items ≡ length c.args.self.now.lines = omega (arith, vec_capacity, total, parts, turned, c.pour.ensures.to_len, c.len-behind.ensures, inside.front.ok.0, inside.back.ok.0, c.pour.new.to.ok.0) in
    let empty = nil_from_length c.pour.new.from.items (omega (arith, vec_capacity, c.pour.ensures.from_len, c.len-behind.ensures, c.pour.new.from.ok.0)) in
    differ-relabelled c.as_slice.result.now c.as_slice-2.result.now c.pour.new.to.items c.args.ids.now c.args.marks.now (c.requires.ids ∙ sym many) (c.requires.marks ∙ sym many) (c.as_slice.ensures.value ∙ c.relabel_lines.ensures.lines) (c.as_slice-2.ensures.value ∙ empty) c.requires.distinct

pub returns-clause-lines : goal.returns-clause-lines
returns-clause-lines c =
    let front = c.self.inside.front.items in
    let back = c.self.inside.back in
    let empty = nil_from_length c.pour.new.from.items (omega (arith, vec_capacity, c.pour.ensures.from_len, c.len-behind.ensures, c.pour.new.from.ok.0)) in
    let all = poured-put back.items front c.pour.new.from.items c.pour.new.to.items c.len-behind.result c.pour.ensures.poured ∙ ap (λ xs. front ++ xs) (take_all c.len-behind.result (reverse back.items) (omega (arith, vec_capacity, length-reverse back.items, c.len-behind.ensures, back.ok.0))) ∙ ap (λ (g : GapState). g.lines) c.self.view_is in
    ap₂ (λ xs ys. xs ++ reverse ys) (c.relabel_lines.ensures.lines ∙ ap (λ (lines : List LineState). relabelled lines c.args.ids.now c.args.marks.now) all) empty ∙ append-nil (relabelled c.args.self.now.lines c.args.ids.now c.args.marks.now)

pub returns-clause-room : goal.returns-clause-room
returns-clause-room c =
    ap₂ (λ front back. least_room front back (index_room c.rebuild.new.self)) (c.relabel_lines.ensures.capacity ∙ c.pour.ensures.to_room) c.pour.ensures.from_room ∙ ap (λ n. least_room (vec_capacity c.self.inside.front) (vec_capacity c.self.inside.back) (n / 2)) c.rebuild.ensures.len ∙ ap (λ (g : GapState). g.room) c.self.view_is
