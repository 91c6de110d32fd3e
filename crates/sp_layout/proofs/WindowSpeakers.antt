-- Who spoke last behind the window of an edit, in the texts before and after it.
use Rattle.std.proofs.Common.{◌≡◌, ℕ, ◌+◌, ◌≤◌, Bool, true, false, cond, Option, None, List, ◌++◌, take, drop, slice_range, refl, sym, ap, subst, ◌∙◌, arith, All}
use Rattle.std.specs.List.{list_any}
use Rattle.spec_text.specs.Lines.{LineState, line_texts}
use Rattle.spec_text.proofs.ListLaws.{All-front, All-back}
use Rattle.spec_script.specs.BlockValues.{StanzaOf}
use Rattle.spec_script.specs.Elements.{PlacedLies}
use Rattle.spec_script.specs.Stanzas.{PlacedBlock, blocks_from, blocks_of, stanzas_of}
use Rattle.spec_script.proofs.BlockPlaces.{blocks_of-lie}
use Rattle.spec_sheets.proofs.RowLaws.{IsText-texts}
use Rattle.spec_edit.specs.Settling.{stanza_settles}
use Rattle.spec_edit.specs.Windows.{stanza_lines_in}
use Rattle.spec_edit.specs.Moved.{speaker_behind}
use Rattle.spec_edit.proofs.Parts.{behind-settled}
use Rattle.spec_edit.proofs.StanzaBlocks.{any-blocks, blocks-three, lines-append}
use Rattle.sp_layout.specs.Speaking.{SpeakersOf, speakers_after}
use Rattle.sp_reread.specs.Cache.{SwappedState}
use Rattle.sp_layout.specs.Edited.{IsEdited, old_speakers, window_start}
use Rattle.sp_layout.proofs.EditedLaws.{behind-window, few-lines, speakers-kept, still-by}
use Rattle.sp_layout.proofs.QuietLaws.{front-same}
use Rattle.sp_layout.proofs.SpeakerLaws.{behind-quiet}

module _ (olds lines : List LineState) (stanzas : List StanzaOf) (swapped : SwappedState) (it : IsEdited olds lines stanzas swapped) where
  abbrev front : List StanzaOf
  front = take swapped.at stanzas

  abbrev gone : List PlacedBlock
  gone = blocks_from (window_start stanzas swapped) swapped.stanzas

  abbrev behind : List StanzaOf
  behind = drop (swapped.at + swapped.stands) stanzas

  old-stanzas : stanzas_of (line_texts it.before.lines) ≡ front ++ (swapped.stanzas ++ behind)
  old-stanzas = subst (λ (ls : List LineState). stanzas_of (line_texts ls) ≡ front ++ (swapped.stanzas ++ behind)) (sym it.is) (sym it.back.gives)

  -- They end where a text ends at the latest.
  pub gone-few : window_start stanzas swapped + stanza_lines_in swapped.stanzas ≤ 200000
  gone-few =
      let few = few-lines it.before (stanzas_of (line_texts it.before.lines)) it.keeps refl in
      omega (arith, few.all, ap stanza_lines_in old-stanzas, lines-append front (swapped.stanzas ++ behind), lines-append swapped.stanzas behind)

  -- The blocks that went lie in the text before the edit.
  pub gone-lie : All (PlacedLies (line_texts olds)) gone
  gone-lie =
      let texts = line_texts it.before.lines in
      let are = IsText-texts it.before it.keeps in
      let start : 0 + window_start stanzas swapped ≡ window_start stanzas swapped = omega arith in
      let own = blocks_from 0 front in
      let last = blocks_from (window_start stanzas swapped + stanza_lines_in swapped.stanzas) behind in
      let blocks : blocks_of texts ≡ own ++ (gone ++ last) =
      ap (blocks_from 0) old-stanzas ∙ blocks-three 0 front swapped.stanzas behind ∙ ap (λ n. own ++ (blocks_from n swapped.stanzas ++ blocks_from (n + stanza_lines_in swapped.stanzas) behind)) start in
      let lie = subst (All (PlacedLies texts)) blocks (blocks_of-lie texts are.utf8 are.few).lie in
      subst (λ (ls : List LineState). All (PlacedLies (line_texts ls)) gone) it.is
      (All-front (PlacedLies texts) gone last (All-back (PlacedLies texts) own (gone ++ last) lie))

  early : speaker_behind (line_texts lines) None (blocks_from 0 front) ≡ speaker_behind (line_texts olds) None (blocks_from 0 front)
  early =
      let are = IsText-texts it.before it.keeps in
      let same = subst (λ (ls : List LineState). take (window_start stanzas swapped) ls ≡ take (window_start stanzas swapped) lines) (sym it.is) it.front in
      front-same it.before.lines lines front (swapped.stanzas ++ behind) are.utf8 are.few old-stanzas (still-by it.before.lines lines (window_start stanzas swapped) same)
      ∙ ap (λ (ls : List LineState). speaker_behind (line_texts ls) None (blocks_from 0 front)) it.is

  -- A heading or a speech among them tells it.
  pub told-by-gone : (on : Bool) → list_any stanza_settles swapped.stanzas ≡ true → speakers_after (line_texts olds) on gone ≡ old_speakers (line_texts olds) stanzas swapped on
  told-by-gone on some =
      let texts = line_texts olds in
      let P : Option (List ℕ) → SpeakersOf = λ last. record { on = on; last = cond on last None } in
      let last = speaker_behind texts None (blocks_from 0 front) in
      ap P (sym (behind-window texts stanzas swapped ∙ behind-settled texts last None gone (any-blocks (window_start stanzas swapped) swapped.stanzas ∙ some)))

  -- Else it is the one who spoke last before the window, in both texts.
  pub told-before : (on : Bool) → list_any stanza_settles swapped.stanzas ≡ false → speakers_after (line_texts lines) on (blocks_from 0 front) ≡ old_speakers (line_texts olds) stanzas swapped on
  told-before on none =
      let texts = line_texts olds in
      let P : Option (List ℕ) → SpeakersOf = λ last. record { on = on; last = cond on last None } in
      let last = speaker_behind texts None (blocks_from 0 front) in
      ap P (early ∙ sym (behind-window texts stanzas swapped ∙ behind-quiet texts last gone (any-blocks (window_start stanzas swapped) swapped.stanzas ∙ none)))

  -- Where neither window has a heading or a speech it is the same one.
  pub stays-quiet : (on : Bool) → list_any stanza_settles swapped.stanzas ≡ false → list_any stanza_settles (slice_range stanzas swapped.at (swapped.at + swapped.stands)) ≡ false
      → speakers_after (line_texts lines) on (blocks_from 0 (take (swapped.at + swapped.stands) stanzas)) ≡ old_speakers (line_texts olds) stanzas swapped on
  stays-quiet on none_gone none_come =
      sym (speakers-kept (line_texts lines) on stanzas swapped.at (swapped.at + swapped.stands) (omega arith) none_come) ∙ told-before on none_gone
