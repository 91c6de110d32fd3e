use Rattle.std.proofs.Common.{◌≡◌, sym, subst, ◌∙◌}
use Rattle.std.specs.Cow.{cow_str_bytes}
use Rattle.std.specs.Str.{IsUtf8}
use Rattle.spec_text.specs.Parts.{Parts}
use Rattle.spec_script.specs.Visible.{window, clip_spans}
use Rattle.spec_script.specs.Title.{value_cut}
use Rattle.sp_blocks.proofs.TitleValues.{value-Parts}
use Rattle.sp_blocks.proofs.left.LeftLine.value.Goals as goal

pub runs-requires-clause-parts : goal.runs-requires-clause-parts
runs-requires-clause-parts c =
    let (short, parts, text) = c.self.invariant in
    let line : c.written.result.now ≡ c.self.inside.line.now = rw (← c.self.view_is) at c.written.ensures in
    let cut : c.value_cut.result ≡ value_cut (cow_str_bytes c.self.inside.text) = rw (← c.self.view_is) at c.value_cut.ensures.value in
    let made : c.in_ok-parts.parts.items ≡ clip_spans (window c.self.inside.spans.items c.value_cut.result) c.self.inside.spans.items =
    rw (← c.self.view_is) at c.in_ok-parts.ensures in
    let are = value-Parts c.self.inside.line.now (cow_str_bytes c.self.inside.text) c.self.inside.spans.items c.deref.result.now c.value_cut.result
    (subst IsUtf8 line c.written.utf8) parts text cut (c.deref.ensures.value ∙ made) in
    subst (λ written. Parts written 0 c.deref.result.now) (sym line) are
