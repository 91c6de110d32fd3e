use Rattle.std.proofs.Common.{◌≡◌, ◌+◌, Bool, true, false, cond, Option, None, List, ◌++◌, ℕ, take, slice_range, refl, sym, ap, ap₂, ◌∙◌, arith}
use Rattle.std.specs.List.{list_any}
use Rattle.std.proofs.lemmas.Bool.{or_parts}
use Rattle.spec_text.specs.Lines.{line_texts}
use Rattle.spec_script.specs.Stanzas.{blocks_from}
use Rattle.spec_edit.specs.Moved.{speaker_behind}
use Rattle.spec_edit.specs.Settling.{stanza_settles}
use Rattle.spec_edit.proofs.Parts.{behind-settled}
use Rattle.spec_edit.proofs.StanzaBlocks.{any-blocks}
use Rattle.sp_layout.specs.Speaking.{SpeakersOf, last_speaker, speakers_after}
use Rattle.sp_layout.specs.Edited.{old_speakers, window_end, windows_settle}
use Rattle.sp_layout.specs.Speeches.{LastOf}
use Rattle.sp_layout.proofs.SpeakerLaws.{behind-quiet}
use Rattle.sp_layout.proofs.WindowSpeakers.{stays-quiet}
use Rattle.sp_layout.proofs.edited.last_speakers.Goals as goal
use Rattle.sp_layout.proofs.edited.last_speakers.Goals.{
  then-not-speakers-via-then-not-speakers,
  then-not-speakers-via-else-not-speakers+then-not-windows_settle,
  then-not-speakers-via-else-not-speakers+else-not-windows_settle+then-settles_between,
}

off-same : (on : Bool) (one other : Option (List ℕ)) → on ≡ false → cond on one None ≡ cond on other None
off-same true one other off = cc
off-same false one other off = refl

pub returns-then-not-speakers : goal.returns-then-not-speakers
returns-then-not-speakers c =
    let olds = line_texts c.args.old.now in
    let news = line_texts c.args.lines.now.lines in
    let stanzas = c.args.stanzas.now.stanzas in
    let swapped = c.args.swapped.now in
    let on = c.args.speakers in
    let to = swapped.at + swapped.stands in
    let between = blocks_from (window_end stanzas swapped) (slice_range stanzas to c.args.from) in
    let was = old_speakers olds stanzas swapped on in
    let now = speakers_after news on (blocks_from 0 (take to stanzas)) in
    let It : Option (List ℕ) → SpeakersOf = λ last. record { on = on; last = last } in
    elim c.then-not-speakers.branch [
      | then-not-speakers-via-then-not-speakers w ↦
          ap (λ last. It (speaker_behind news last between)) (off-same on (last_speaker olds (blocks_from 0 (take swapped.at stanzas ++ swapped.stanzas))) (last_speaker news (blocks_from 0 (take to stanzas))) w.if-not-speakers.true)
      | then-not-speakers-via-else-not-speakers+then-not-windows_settle w ↦
          let gone = list_any stanza_settles swapped.stanzas in
          let come = list_any stanza_settles (slice_range stanzas swapped.at to) in
          let none : windows_settle stanzas swapped ≡ false = sym w.windows_settle.ensures ∙ w.if-not-windows_settle.true in
          let both = or_parts gone come none in
          ap (λ (s : SpeakersOf). It (speaker_behind news s.last between)) (sym (stays-quiet c.args.old.now c.args.lines.now.lines stanzas swapped c.requires.edit on both.0 both.1))
      | then-not-speakers-via-else-not-speakers+else-not-windows_settle+then-settles_between w ↦
          let to_is : c.at.result + c.stands.result ≡ to = omega (arith, c.at.ensures, c.stands.ensures) in
          let some : list_any stanza_settles (slice_range stanzas to c.args.from) ≡ true = sym (w.settles_between.ensures ∙ ap (λ n. list_any stanza_settles (slice_range stanzas n c.args.from)) to_is) ∙ w.if-settles_between.true in
          ap It (behind-settled news was.last now.last between (any-blocks (window_end stanzas swapped) (slice_range stanzas to c.args.from) ∙ some))
    ]

pub returns : goal.returns
returns c =
    let news = line_texts c.args.lines.now.lines in
    let stanzas = c.args.stanzas.now.stanzas in
    let swapped = c.args.swapped.now in
    let on = c.args.speakers in
    let to = swapped.at + swapped.stands in
    let between = blocks_from (window_end stanzas swapped) (slice_range stanzas to c.args.from) in
    let to_is : c.at.result + c.stands.result ≡ to = omega (arith, c.at.ensures, c.stands.ensures) in
    let none : list_any stanza_settles (slice_range stanzas to c.args.from) ≡ false =
    sym (c.settles_between.ensures ∙ ap (λ n. list_any stanza_settles (slice_range stanzas n c.args.from)) to_is) ∙ c.if-settles_between.false in
    let quiet = any-blocks (window_end stanzas swapped) (slice_range stanzas to c.args.from) ∙ none in
    let It : Option (List ℕ) → SpeakersOf = λ last. record { on = on; last = last } in
    let was = old_speakers (line_texts c.args.old.now) stanzas swapped on in
    let now = speakers_after news on (blocks_from 0 (take to stanzas)) in
    let after : c.in_ok-after.after ≡ now = c.in_ok-after.ensures ∙ ap (λ n. speakers_after news on (blocks_from 0 (take n stanzas))) to_is in
    ap₂ (λ (one other : SpeakersOf). let It : LastOf = record { before = one; after = other } in It) (c.in_ok-before.ensures ∙ ap It (sym (behind-quiet news was.last between quiet))) (after ∙ ap It (sym (behind-quiet news now.last between quiet)))
