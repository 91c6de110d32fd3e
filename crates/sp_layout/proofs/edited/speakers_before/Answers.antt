use Rattle.std.proofs.Common.{◌≡◌, ◌⊎◌, ◌-◌, true, inl, inr, sym, ap, subst, ◌∙◌, arith, take, slice_range, All}
use Rattle.std.specs.List.{list_any}
use Rattle.std.proofs.lemmas.Result.{IfOk-weaker}
use Rattle.spec_text.specs.Lines.{line_texts}
use Rattle.spec_script.specs.Elements.{PlacedLies}
use Rattle.spec_script.specs.Stanzas.{blocks_from}
use Rattle.spec_edit.specs.Settling.{stanza_settles}
use Rattle.sp_text.specs.Gap.{text_of}
use Rattle.sp_layout.specs.Speaking.{speakers_after}
use Rattle.sp_layout.proofs.EditedLaws.{slice-lies, speakers-kept, speakers-told}
use Rattle.sp_layout.proofs.edited.speakers_before.Goals as goal

pub behind-requires : goal.behind-requires
behind-requires c =
    subst (All (PlacedLies (line_texts c.args.lines.now.lines))) (sym (c.deref.ensures.value ∙ c.in_ok-blocks.ensures))
    (slice-lies (text_of c.args.lines.now) c.args.stanzas.now.stanzas c.saturating_sub.result c.settled_before-past.result c.len-count.ensures.keeps c.requires.list (omega (arith, c.saturating_sub.ensures)))

pub returns : goal.returns
returns c =
    let texts = line_texts c.args.lines.now.lines in
    let stanzas = c.args.stanzas.now.stanzas in
    let past = c.settled_before-past.result in
    let from = c.saturating_sub.result in
    let from_is : from ≡ past - 1 = c.saturating_sub.ensures in
    let told : (from ≡ 0) ⊎ (list_any stanza_settles (slice_range stanzas from past) ≡ true) = elim c.settled_before-past.ensures.settles [
      | inl zero ↦ inl (omega (arith, from_is, zero))
      | inr some ↦ inr (ap (λ n. list_any stanza_settles (slice_range stanzas n past)) from_is ∙ some)
    ] in
    let same = ap (speakers_after texts c.args.speakers) (c.deref.ensures.value ∙ c.in_ok-blocks.ensures) ∙ speakers-told texts c.args.speakers stanzas from past (omega (arith, from_is)) told
    ∙ speakers-kept texts c.args.speakers stanzas past c.args.to c.settled_before-past.ensures.within c.settled_before-past.ensures.last in
    IfOk-weaker c.behind.result (λ it. it ≡ speakers_after texts c.args.speakers c.deref.result.now) (λ it. it ≡ speakers_after texts c.args.speakers (blocks_from 0 (take c.args.to stanzas)))
    (λ it is. is ∙ same) c.behind.ensures
