use Rattle.std.proofs.Common.{◌≡◌, ◌↔◌, subst, sym, ◌∙◌}
use Rattle.std.specs.Prelude.{IsTrue}
use Rattle.sp_layout.specs.Bodies.{KeyedElements, keyed_elements}
use Rattle.sp_layout.specs.Exchanges.{with_run}
use Rattle.sp_layout.specs.declared.kept.PartPlaces.{PartPlaces}
use Rattle.sp_layout.specs.Changes.{ChangeOf}
use Rattle.sp_layout.specs.Kept.{KeptOf, PartOf, laid_of}
use Rattle.sp_sheets.specs.HeadingIds.{body_headings}
use Rattle.sp_sheets.proofs.LaidHeadings.{spoken-headings}
use Rattle.sp_sheets.proofs.heading_rows.keeps_headings.Goals as goal

pub returns : goal.returns
returns c =
    let layout = c.args.layout.now in
    let keeps : KeyedElements → PartPlaces → KeyedElements → Type 0 = λ (body : KeyedElements) (at : PartPlaces) (others : KeyedElements).
    IsTrue c.keeps_body_headings.result ↔ body_headings (with_run body at.from at.to others at.less at.more) ≡ body_headings body in
    let at = c.part.inside.places in
    let read : keeps (keyed_elements layout.body) at (keyed_elements c.part.inside.kept.body) =
    subst (λ (k : KeptOf). keeps (keyed_elements layout.body) at (keyed_elements k.body)) c.others.view_is
    (subst (λ (k : KeptOf). keeps (keyed_elements k.body) at (keyed_elements c.others.inside.body)) c.layout.view_is (c.keeps_body_headings.ensures at.less at.more)) in
    let own : keeps (keyed_elements layout.body) c.args.change.now.part.places (keyed_elements c.args.change.now.part.kept.body) =
    subst (λ (it : ChangeOf). keeps (keyed_elements layout.body) it.part.places (keyed_elements it.part.kept.body)) c.change.view_is
    (subst (λ (p : PartOf). keeps (keyed_elements layout.body) p.places (keyed_elements p.kept.body)) c.part.view_is read) in
    let same = spoken-headings (laid_of layout) c.args.change.now c.requires in
    (λ h. same ∙ own.0 h, λ h. own.1 (sym same ∙ h))
