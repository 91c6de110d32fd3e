use Rattle.std.proofs.Common.{◌≡◌, ◌&&◌, false, None, refl, sym, subst, ◌∙◌, take}
use Rattle.std.specs.List.{list_any}
use Rattle.std.proofs.lemmas.Bool.{and_left, and_right}
use Rattle.spec_text.specs.Lines.{line_texts}
use Rattle.spec_script.specs.Stanzas.{blocks_from}
use Rattle.spec_script.specs.Elements.{is_speech_block}
use Rattle.sp_layout.specs.Speaking.{SpeakersOf, speakers_after}
use Rattle.sp_layout.specs.Edited.{AreAlike}
use Rattle.sp_layout.proofs.SpeakerLaws.{spoken-alike}
use Rattle.sp_layout.proofs.edited.speakers_for.Goals as goal
use Rattle.sp_layout.proofs.edited.speakers_for.Goals.{else-speakers-via-then-speakers+else-has_speech, else-speakers-via-else-speakers}

pub returns-else-speakers : goal.returns-else-speakers
returns-else-speakers c =
    let lines = c.args.lines.now.lines in
    let blocks = c.args.blocks.now in
    let on = c.args.speakers in
    let others = speakers_after (line_texts lines) on (blocks_from 0 (take c.args.to c.args.stanzas.now.stanzas)) in
    let none : (on && list_any is_speech_block blocks) ≡ false = elim c.else-speakers.branch [
      | else-speakers-via-then-speakers+else-has_speech w ↦ and_right on (list_any is_speech_block blocks) (sym w.has_speech.ensures ∙ w.if-has_speech.false)
      | else-speakers-via-else-speakers w ↦ and_left on (list_any is_speech_block blocks) w.if-speakers.false
    ] in
    subst (λ (it : SpeakersOf). AreAlike lines blocks it others) (sym c.new.ensures) (record { on = refl; same = spoken-alike on lines None others.last blocks none })
