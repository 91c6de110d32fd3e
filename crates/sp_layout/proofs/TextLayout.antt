-- What holds of the layout of a text.
use Rattle.std.proofs.Common.{◌≡◌, ◌+◌, ◌≤◌, Bool, filter, length, refl, sym, subst, arith}
use Rattle.std.proofs.lemmas.List.{length-map}
use Rattle.spec_text.specs.Lines.{TextState, IsText}
use Rattle.spec_sheets.specs.Speakers.{text_elements}
use Rattle.spec_sheets.specs.Layout.{in_body, laid_out, layout_of}
use Rattle.spec_sheets.proofs.JoinLaws.{layout-joined}
use Rattle.spec_sheets.proofs.LayoutLaws.{layout_of-show}
use Rattle.spec_sheets.proofs.RowCounts.{layout_of-few}
use Rattle.sp_layout.specs.LaidOut.{LayoutOf, IsLayoutOf, keyed}
use Rattle.sp_layout.proofs.BreakPlaces.{bodies_in, break_places-lie, break-rows}

pub layout-is : (speakers : Bool) (text : TextState) (layout : LayoutOf) → IsText text → layout ≡ keyed text.lines (text_elements speakers text.lines) → IsLayoutOf text.lines speakers layout
layout-is speakers text layout is same =
    let shows = layout_of-show speakers text is in
    let elements = text_elements speakers text.lines in
    let count : 0 + bodies_in elements ≤ length (layout_of speakers text.lines).body = omega (arith, length-map (filter in_body elements) (laid_out text.lines)) in
    let lie = break_places-lie 0 (length (layout_of speakers text.lines).body) elements count in
    subst (IsLayoutOf text.lines speakers) (sym same) (record {
      is = refl;
      titles = shows.0;
      body = shows.1;
      few = layout_of-few speakers text is;
      breaks = lie.below;
      rise = lie.rise;
      stops = break-rows text.lines elements;
      joined = layout-joined speakers text is;
    })
