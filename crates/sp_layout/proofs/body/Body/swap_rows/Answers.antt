use Rattle.std.proofs.Common.{sym, subst}
use Rattle.sp_layout.specs.Bodies.{BodyParts, BodyOf}
use Rattle.sp_layout.specs.Exchanges.{AreRowsAlike, rows_at}
use Rattle.sp_layout.proofs.RowSwaps.{IsBody-rows}
use Rattle.sp_layout.proofs.body.Body.swap_rows.Goals as goal

pub invariant_of-self : goal.invariant_of-self
invariant_of-self c =
    let old : BodyParts = record {
      elements = c.self.inside.elements.items;
      facts = c.self.inside.facts.facts;
      row_starts = c.self.inside.row_starts.items;
      heading_starts = c.self.inside.heading_starts.items;
      rows = c.self.inside.row_starts.end;
      headings = c.self.inside.heading_starts.end;
    } in
    let rows = c.args.rows.now.items in
    let alike = subst (λ (b : BodyOf). AreRowsAlike rows (rows_at b.elements c.args.place)) (sym c.self.view_is) c.requires.alike in
    IsBody-rows old c.args.place rows c.swap_rows_at.new.elements.items c.self.invariant alike c.swap_rows_at.ensures.elements
