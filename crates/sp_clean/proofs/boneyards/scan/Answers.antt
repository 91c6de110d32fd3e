use Rattle.std.proofs.Common.{◌≡◌, sym, ap, subst, ◌∙◌, ◌||◌}
use Rattle.spec_text.specs.Parts.{Parts}
use Rattle.spec_script.specs.Marked.{covered, inside_after}
use Rattle.spec_script.specs.Boneyards.{yard_turns, sort_by, sort_of}
use Rattle.spec_script.specs.Spans.{runs_left, text_in, bytes_left, is_touched}
use Rattle.spec_script.proofs.MarkedLaws.{length-covered}
use Rattle.spec_script.proofs.SpanLaws.{text_in-left}
use Rattle.spec_script.proofs.YardLaws.{kept-Parts}
use Rattle.sp_clean.proofs.boneyards.scan.Goals as goal
use Rattle.sp_clean.proofs.boneyards.scan.Goals.{In_ok-outside}

kept-is : (c : In_ok-outside) → c.in_ok-outside.outside.kept.items ≡ runs_left 0 0 (covered yard_turns c.args.inside c.args.text.now)
kept-is c = c.in_ok-outside.ensures.kept ∙ ap (λ t. runs_left 0 0 (covered yard_turns c.args.inside t)) c.as_bytes-bytes.ensures.value

pub sort-sort-requires : goal.sort-sort-requires
sort-sort-requires c =
    subst (Parts c.args.text.now 0) (sym (c.deref.ensures.value ∙ kept-is (goal.at.sort-sort-requires c).In_ok-outside))
    (kept-Parts c.args.text.now c.args.inside c.utf8.text)

pub returns-clause-parts : goal.returns-clause-parts
returns-clause-parts c =
    subst (Parts c.args.text.now 0) (sym (kept-is (goal.at.returns-clause-parts c).In_ok-outside)) (kept-Parts c.args.text.now c.args.inside c.utf8.text)

pub returns-clause-value : goal.returns-clause-value
returns-clause-value c =
    let text = c.args.text.now in
    let gone = covered yard_turns c.args.inside text in
    let kept = kept-is (goal.at.returns-clause-value c).In_ok-outside in
    let inside : c.in_ok-outside.outside.inside ≡ inside_after yard_turns c.args.inside text =
    c.in_ok-outside.ensures.inside ∙ ap (inside_after yard_turns c.args.inside) c.as_bytes-bytes.ensures.value in
    let touched : c.in_ok-outside.outside.touched ≡ (c.args.inside || is_touched gone) =
    c.in_ok-outside.ensures.touched ∙ ap (λ t. c.args.inside || is_touched (covered yard_turns c.args.inside t)) c.as_bytes-bytes.ensures.value in
    let left = ap (text_in text) (c.deref.ensures.value ∙ kept) ∙ text_in-left text gone (length-covered yard_turns c.args.inside text) in
    let sort : c.sort-sort.result ≡ sort_of text c.args.inside gone =
    c.sort-sort.ensures ∙ ap (λ l. sort_by text l c.in_ok-outside.outside.touched) left ∙ ap (sort_by text (bytes_left text gone)) touched in
    cc
