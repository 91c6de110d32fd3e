use Rattle.std.proofs.Common.{◌-◌, drop, inl, inr, sym, subst, ◌∙◌, arith}
use Rattle.std.proofs.lemmas.Bool.{cases_eq, true≢false}
use Rattle.spec_edit.specs.RelaidStanzas.{OpensApart}
use Rattle.sp_layout.specs.Kept.{laid_of}
use Rattle.sp_layout.specs.Edges.{CanPart}
use Rattle.sp_layout.proofs.StanzaLists.{closes-before, closes-before-of, opens-at, opens-first, opens-slice}
use Rattle.sp_layout.proofs.EdgeLaws.{start-found}
use Rattle.sp_layout.proofs.edges.part_start.Goals as goal

pub edge_at-requires : goal.edge_at-requires
edge_at-requires c =
    let place = c.loop-place.place in
    let closes = closes-before c.args.stanzas.now.stanzas (place - 1) place c.stanza.result.now (omega arith) c.stanza.ensures (sym c.closes_apart.ensures ∙ c.if-closes_apart.true) in
    subst (CanPart (laid_of c.args.kept.now)) (sym c.lines_before.ensures) (c.requires.can.closes place c.loop-place.invariant.within closes)

pub returns-then-closes_apart-clause-is : goal.returns-then-closes_apart-clause-is
returns-then-closes_apart-clause-is c =
    let place = c.loop-place.place in
    let closes = closes-before c.args.stanzas.now.stanzas (place - 1) place c.stanza.result.now (omega arith) c.stanza.ensures (sym c.closes_apart.ensures ∙ c.if-closes_apart.true) in
    start-found c.args.stanzas.now.stanzas c.args.at (laid_of c.args.kept.now) c.edge_at.result place c.lines_before.result c.edge_at.ensures.stanza c.loop-place.invariant.within (inl closes) c.lines_before.ensures c.edge_at.ensures.is

pub edge_at-requires-then-opens_apart : goal.edge_at-requires-then-opens_apart
edge_at-requires-then-opens_apart c =
    let place = c.loop-place.place - 1 in
    let within = c.loop-place.invariant.within in
    let opens = opens-at c.args.stanzas.now.stanzas place c.stanza-in-loop-place.result.now c.stanza-in-loop-place.ensures (sym c.opens_apart.ensures ∙ c.if-opens_apart.true) in
    subst (CanPart (laid_of c.args.kept.now)) (sym c.lines_before-then-opens_apart.ensures) (c.requires.can.opens place (omega (arith, within)) opens)

pub returns-then-opens_apart-clause-is : goal.returns-then-opens_apart-clause-is
returns-then-opens_apart-clause-is c =
    let stanzas = c.args.stanzas.now.stanzas in
    let place = c.loop-place.place - 1 in
    let within = c.loop-place.invariant.within in
    let opens = opens-at stanzas place c.stanza-in-loop-place.result.now c.stanza-in-loop-place.ensures (sym c.opens_apart.ensures ∙ c.if-opens_apart.true) in
    start-found stanzas c.args.at (laid_of c.args.kept.now) c.edge_at-then-opens_apart.result place c.lines_before-then-opens_apart.result c.edge_at-then-opens_apart.ensures.stanza (omega (arith, within))
    (inr (opens-slice stanzas place c.args.at (omega (arith, within)) opens)) c.lines_before-then-opens_apart.ensures c.edge_at-then-opens_apart.ensures.is

pub returns-then-opens_apart-clause-nearest : goal.returns-then-opens_apart-clause-nearest
returns-then-opens_apart-clause-nearest c =
    let stanzas = c.args.stanzas.now.stanzas in
    let place = c.loop-place.place in
    record {
      opens = λ i low high opens. c.loop-place.invariant.opens i (omega (arith, low, c.edge_at-then-opens_apart.ensures.stanza)) high opens;
      closes = λ i low high closes. elim (cases_eq i place) [
        | inl same ↦
            let here = closes-before-of stanzas (place - 1) i c.stanza.result.now (omega (arith, same)) c.stanza.ensures closes in
            true≢false (sym here ∙ sym c.closes_apart.ensures ∙ c.if-closes_apart.false)
        | inr other ↦ c.loop-place.invariant.closes i (omega (arith, low, other, c.edge_at-then-opens_apart.ensures.stanza)) high closes
      ];
    }

pub loop-place-preserved : goal.loop-place-preserved
loop-place-preserved c =
    let stanzas = c.args.stanzas.now.stanzas in
    let place = c.loop-place.place in
    let within = c.loop-place.invariant.within in
    record {
      within = omega (arith, within);
      opens = λ i low high opens. elim (cases_eq i (place - 1)) [
        | inl same ↦
            let here = opens-first stanzas (place - 1) c.stanza-in-loop-place.result.now c.stanza-in-loop-place.ensures (subst (λ n. OpensApart (drop n stanzas)) same opens) in
            true≢false (sym here ∙ sym c.opens_apart.ensures ∙ c.if-opens_apart.false)
        | inr other ↦ c.loop-place.invariant.opens i (omega (arith, low, other)) high opens
      ];
      closes = λ i low high closes. elim (cases_eq i place) [
        | inl same ↦
            let here = closes-before-of stanzas (place - 1) i c.stanza.result.now (omega (arith, same)) c.stanza.ensures closes in
            true≢false (sym here ∙ sym c.closes_apart.ensures ∙ c.if-closes_apart.false)
        | inr other ↦ c.loop-place.invariant.closes i (omega (arith, low, other)) high closes
      ];
    }
