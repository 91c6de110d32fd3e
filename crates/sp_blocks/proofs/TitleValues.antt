-- The parts of a line that its value is made of.
use Rattle.std.proofs.Common.{◌≡◌, ℕ, List, sym, subst}
use Rattle.std.specs.Str.{IsUtf8}
use Rattle.spec_text.specs.Parts.{SpanOf, Parts}
use Rattle.spec_script.specs.declared.Cut.{Cut}
use Rattle.spec_script.specs.Spans.{text_in}
use Rattle.spec_script.specs.Visible.{window, clip_spans}
use Rattle.spec_script.specs.Title.{value_cut}
use Rattle.spec_script.proofs.SpanLaws.{IsUtf8-text_in}
use Rattle.spec_script.proofs.CutEnds.{EndsFit}
use Rattle.spec_script.proofs.WindowParts.{window-ends, clip_spans-Parts}
use Rattle.spec_script.proofs.LineCuts.{value-fit}

pub value-Parts : (line text : List ℕ) (spans parts : List SpanOf) (cut : Cut) → IsUtf8 line → Parts line 0 spans → text ≡ text_in line spans → cut ≡ value_cut text → parts ≡ clip_spans (window spans cut) spans → Parts line 0 parts
value-Parts line text spans parts cut u p is_text is_value made =
    let whole : IsUtf8 text = subst IsUtf8 (sym is_text) (IsUtf8-text_in line spans 0 u p) in
    let fit : EndsFit text cut = subst (EndsFit text) (sym is_value) (value-fit text whole) in
    let ends = window-ends line spans cut u p (subst (λ t. EndsFit t cut) is_text fit) in
    subst (Parts line 0) (sym made) (clip_spans-Parts line (window spans cut) spans 0 ends.0 ends.1 p)
