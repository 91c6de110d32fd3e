use Rattle.std.proofs.Common.{ℕ, List, ◌∷◌, [], ◌++◌, length, ◌∙◌, ap, ap₂, arith}
use Rattle.std.proofs.lemmas.Grind.{common_steps}
use Rattle.spec_pages.specs.Rows.{ElementOf, placed_rows}
use Rattle.sp_layout.specs.RowFacts.{FactsOf, both_facts, facts_of}
use Rattle.sp_layout.specs.Bodies.{BodyOf, BodyParts, row_count}
use Rattle.sp_layout.proofs.BodyLaws.{headings-few, IsBody-push}
use Rattle.sp_layout.proofs.body.Body.push.Goals as goal

pub push_reserved-requires-clause-low : goal.push_reserved-requires-clause-low
push_reserved-requires-clause-low c =
    omega (
      arith,
      c.in_ok-reserve_element.ensures.row_starts.1,
      c.self.invariant.rows,
      ap (λ (b : BodyOf). row_count b.elements) c.self.view_is,
      c.len-room.ensures.row_enough,
      c.len-room.ensures.row_small,
      c.len-2.ensures,
      c.element.inside.rows.small,
      c.element.inside.rows.ok,
    )

pub push_reserved-requires-2-clause-low : goal.push_reserved-requires-2-clause-low
push_reserved-requires-2-clause-low c =
    let few = headings-few c.self.inside.elements.items in
    omega (arith, c.in_ok-reserve_element.ensures.heading_starts.1, c.self.invariant.headings, few, c.headings_of.ensures.few, c.self.inside.elements.small, c.self.inside.elements.ok)

pub invariant_of-self-2 : goal.invariant_of-self-2
invariant_of-self-2 c =
    let old : BodyParts = record {
      elements = c.self.inside.elements.items;
      facts = c.self.inside.facts.facts;
      row_starts = c.self.inside.row_starts.items;
      heading_starts = c.self.inside.heading_starts.items;
      rows = c.self.inside.row_starts.end;
      headings = c.self.inside.heading_starts.end;
    } in
    let element = c.args.element in
    let rows = placed_rows element in
    let room = c.in_ok-reserve.ensures in
    let next = c.in_ok-reserve_element.ensures in
    IsBody-push c.args.lines.now.lines element old _ c.self.invariant (record {
      elements = c.push_reserved-3.ensures.items ∙ ap (λ (those : List ElementOf). those ++ element ∷ []) next.elements;
      facts = c.push_rows.ensures.facts ∙ ap (λ (those : FactsOf). both_facts those (facts_of c.args.lines.now.lines element)) room.facts;
      row_starts = c.push_reserved.ensures.items ∙ ap₂ (λ (those : List ℕ) n. those ++ n ∷ []) next.row_starts.0 next.row_starts.1;
      heading_starts = c.push_reserved-2.ensures.items ∙ ap₂ (λ (those : List ℕ) n. those ++ n ∷ []) next.heading_starts.0 next.heading_starts.1;
      rows = omega (arith, c.push_reserved.ensures.end, next.row_starts.1, c.len-2.ensures, c.element.inside.rows.ok.0, ap (λ (e : ElementOf). length e.rows) c.element.view_is);
      headings = omega (arith, c.push_reserved-2.ensures.end, next.heading_starts.1, c.headings_of.ensures.value);
    })

pub push_rows-requires-clause-room : goal.push_rows-requires-clause-room
push_rows-requires-clause-room c = grind (arith, common_steps)

pub returns-clause-err : goal.returns-clause-err
returns-clause-err c = grind (arith, common_steps)

pub returns-clause-ok : goal.returns-clause-ok
returns-clause-ok c = grind (arith, common_steps)
