use Rattle.std.proofs.Common.{◌≡◌, ℕ, ◌+◌, ◌<◌, List, ◌∷◌, ◌++◌, length, get_or, drop, sym, ap, ap₂, ◌∙◌, append_assoc}
use Rattle.std.proofs.lemmas.List.{drop_more, get_or_default}
use Rattle.spec_text.specs.Parts.{SpanOf}
use Rattle.sp_blocks.specs.Outside.{between, later, outside}
use Rattle.sp_blocks.proofs.spans.outside.Goals as goal

-- What is outside in one span more.
outside-more : (spans gone : List SpanOf) (i next n : ℕ) (span : SpanOf) (done more all : List SpanOf) → i < length spans → span ≡ get_or spans i span → more ≡ done ++ between span.0 span.1 (drop next gone)
    → drop n gone ≡ later span.1 (drop next gone) → done ++ outside (drop i spans) (drop next gone) ≡ all → more ++ outside (drop (i + 1) spans) (drop n gone) ≡ all
outside-more spans gone i next n span done more all inside is put left same =
    let rest = drop (i + 1) spans in
    let here : drop i spans ≡ span ∷ rest = drop_more spans i span inside ∙ ap (λ x. x ∷ rest) (sym is) in
    ap₂ (λ parts others. parts ++ outside rest others) put left
    ∙ append_assoc done (between span.0 span.1 (drop next gone)) (outside rest (later span.1 (drop next gone)))
    ∙ sym (ap (λ those. done ++ outside those (drop next gone)) here)
    ∙ same

pub loop-span-preserved : goal.loop-span-preserved
loop-span-preserved c =
    let spans = c.args.spans.now in
    let i = c.loop-span.span-index in
    let span = get_or spans i (0, 0) in
    let inside = c.loop-span-test.true in
    let put = c.in_ok-next.ensures in
    record {
      low = put.within;
      same = outside-more spans c.args.gone.now i c.loop-span.next c.in_ok-next.next span _ _ _ inside (get_or_default spans i (0, 0) span inside) put.parts put.next c.loop-span.invariant.same;
    }
