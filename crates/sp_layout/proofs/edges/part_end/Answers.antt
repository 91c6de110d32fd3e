use Rattle.std.proofs.Common.{◌-◌, ◌+◌, drop, inl, inr, sym, ap, subst, ◌∙◌, arith}
use Rattle.std.proofs.lemmas.Bool.{cases_eq, true≢false}
use Rattle.spec_edit.specs.RelaidStanzas.{OpensApart}
use Rattle.sp_layout.specs.Kept.{laid_of}
use Rattle.sp_layout.specs.Edges.{CanPart}
use Rattle.sp_layout.proofs.StanzaLists.{closes-slice, closes-slice-of, opens-at, opens-first}
use Rattle.sp_layout.proofs.EdgeLaws.{end-found, lines-rise}
use Rattle.sp_layout.proofs.edges.part_end.Goals as goal

pub overflow_sub-line : goal.overflow_sub-line
overflow_sub-line c =
    let rise = lines-rise c.args.stanzas.now.stanzas c.args.to c.loop-place.place (omega arith) in
    omega (arith, rise, c.requires.end, c.lines_before.ensures)

pub edge_at-requires : goal.edge_at-requires
edge_at-requires c =
    let opens = opens-at c.args.stanzas.now.stanzas c.loop-place.place c.stanza.result.now c.stanza.ensures (sym c.opens_apart.ensures ∙ c.if-opens_apart.true) in
    subst (λ n. CanPart (laid_of c.args.kept.now) (n - c.args.end + c.args.was)) (sym c.lines_before.ensures) (c.requires.can.opens c.loop-place.place (omega arith) (omega (arith, c.len-place-end.ensures.len)) opens)

pub returns-then-opens_apart-clause-is : goal.returns-then-opens_apart-clause-is
returns-then-opens_apart-clause-is c =
    let opens = opens-at c.args.stanzas.now.stanzas c.loop-place.place c.stanza.result.now c.stanza.ensures (sym c.opens_apart.ensures ∙ c.if-opens_apart.true) in
    end-found c.args.stanzas.now.stanzas c.args.to c.args.was c.args.end (laid_of c.args.kept.now) c.edge_at.result c.loop-place.place (c.lines_before.result - c.args.end + c.args.was) c.edge_at.ensures.stanza (omega arith)
    (omega (arith, c.len-place-end.ensures.len)) (inr opens) (ap (λ n. n - c.args.end + c.args.was) c.lines_before.ensures) c.edge_at.ensures.is

pub overflow_sub-line-then-closes_apart : goal.overflow_sub-line-then-closes_apart
overflow_sub-line-then-closes_apart c =
    let rise = lines-rise c.args.stanzas.now.stanzas c.args.to (c.loop-place.place + 1) (omega arith) in
    omega (arith, rise, c.requires.end, c.lines_before-then-closes_apart.ensures)

pub edge_at-requires-then-closes_apart : goal.edge_at-requires-then-closes_apart
edge_at-requires-then-closes_apart c =
    let place = c.loop-place.place in
    let closes = closes-slice c.args.stanzas.now.stanzas c.args.to place (place + 1) c.stanza-in-loop-place.result.now (omega arith) (omega arith) c.stanza-in-loop-place.ensures (sym c.closes_apart.ensures ∙ c.if-closes_apart.true) in
    subst (λ n. CanPart (laid_of c.args.kept.now) (n - c.args.end + c.args.was)) (sym c.lines_before-then-closes_apart.ensures) (c.requires.can.closes (place + 1) (omega arith) (omega (arith, c.len-place-end.ensures.len)) closes)

pub returns-then-closes_apart-clause-is : goal.returns-then-closes_apart-clause-is
returns-then-closes_apart-clause-is c =
    let place = c.loop-place.place in
    let closes = closes-slice c.args.stanzas.now.stanzas c.args.to place (place + 1) c.stanza-in-loop-place.result.now (omega arith) (omega arith) c.stanza-in-loop-place.ensures (sym c.closes_apart.ensures ∙ c.if-closes_apart.true) in
    end-found c.args.stanzas.now.stanzas c.args.to c.args.was c.args.end (laid_of c.args.kept.now) c.edge_at-then-closes_apart.result (place + 1) (c.lines_before-then-closes_apart.result - c.args.end + c.args.was) c.edge_at-then-closes_apart.ensures.stanza (omega arith)
    (omega (arith, c.len-place-end.ensures.len)) (inl closes) (ap (λ n. n - c.args.end + c.args.was) c.lines_before-then-closes_apart.ensures) c.edge_at-then-closes_apart.ensures.is

pub returns-then-closes_apart-clause-nearest : goal.returns-then-closes_apart-clause-nearest
returns-then-closes_apart-clause-nearest c =
    let stanzas = c.args.stanzas.now.stanzas in
    let place = c.loop-place.place in
    record {
      opens = λ i low high opens. elim (cases_eq i place) [
        | inl same ↦
            let here = opens-first stanzas place c.stanza.result.now c.stanza.ensures (subst (λ n. OpensApart (drop n stanzas)) same opens) in
            true≢false (sym here ∙ sym c.opens_apart.ensures ∙ c.if-opens_apart.false)
        | inr other ↦ c.loop-place.invariant.opens i low (omega (arith, high, other, c.edge_at-then-closes_apart.ensures.stanza)) opens
      ];
      closes = λ i low high closes. c.loop-place.invariant.closes i low (omega (arith, high, c.edge_at-then-closes_apart.ensures.stanza)) closes;
    }

pub loop-place-preserved : goal.loop-place-preserved
loop-place-preserved c =
    let stanzas = c.args.stanzas.now.stanzas in
    let place = c.loop-place.place in
    record {
      opens = λ i low high opens. elim (cases_eq i place) [
        | inl same ↦
            let here = opens-first stanzas place c.stanza.result.now c.stanza.ensures (subst (λ n. OpensApart (drop n stanzas)) same opens) in
            true≢false (sym here ∙ sym c.opens_apart.ensures ∙ c.if-opens_apart.false)
        | inr other ↦ c.loop-place.invariant.opens i low (omega (arith, high, other)) opens
      ];
      closes = λ i low high closes. elim (cases_eq i (place + 1)) [
        | inl same ↦
            let here = closes-slice-of stanzas c.args.to place i c.stanza-in-loop-place.result.now same (omega arith) c.stanza-in-loop-place.ensures closes in
            true≢false (sym here ∙ sym c.closes_apart.ensures ∙ c.if-closes_apart.false)
        | inr other ↦ c.loop-place.invariant.closes i low (omega (arith, high, other)) closes
      ];
    }
