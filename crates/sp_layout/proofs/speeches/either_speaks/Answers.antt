use Rattle.std.proofs.Common.{◌≡◌, true, sym, ap, ◌∙◌, take}
use Rattle.std.proofs.lemmas.Bool.{true≢false}
use Rattle.spec_text.specs.Lines.{line_texts}
use Rattle.sp_layout.specs.Speaking.{speakers_after}
use Rattle.sp_layout.specs.Speeches.{LastOf}
use Rattle.sp_layout.proofs.SpokenAnew.{neither-speaks}
use Rattle.sp_layout.proofs.speeches.either_speaks.Goals as goal
use Rattle.sp_layout.proofs.speeches.either_speaks.Goals.{then-are_same, else-are_same}

pub returns : goal.returns
returns c none =
    let texts = line_texts c.args.lines.now.lines in
    let speech = c.args.speech.now in
    let last = c.args.last.now in
    let view = c.last.view_is in
    elim c.if-are_same.branch [
      | then-are_same w ↦ absurd (true≢false (sym w.if-are_same.true ∙ sym w.result-is ∙ none))
      | else-are_same w ↦
          let own : c.in_ok-own.own ≡ speakers_after texts true (take 1 speech) = c.in_ok-own.ensures in
          neither-speaks texts last.before.last last.after.last c.in_ok-own.own speech c.requires.says own
          (λ same. true≢false (sym (c.are_same.ensures.1 (same ∙ sym (ap (λ (l : LastOf). l.before.last) view))) ∙ w.if-are_same.false))
          (λ same. true≢false (sym (w.are_same-else-are_same.ensures.1 (same ∙ sym (ap (λ (l : LastOf). l.after.last) view))) ∙ sym w.result-is ∙ none))
    ]
