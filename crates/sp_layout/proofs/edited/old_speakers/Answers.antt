use Rattle.std.proofs.Common.{◌≡◌, true, false, List, take, sym, ap, ap₂, subst, ◌∙◌, arith, All}
use Rattle.std.specs.List.{list_any}
use Rattle.std.proofs.lemmas.Result.{IfOk-weaker}
use Rattle.spec_text.specs.Lines.{line_texts}
use Rattle.spec_script.specs.BlockValues.{StanzaOf}
use Rattle.spec_script.specs.Elements.{PlacedLies}
use Rattle.spec_script.specs.Stanzas.{blocks_from}
use Rattle.spec_edit.specs.Settling.{stanza_settles}
use Rattle.spec_edit.specs.Windows.{stanza_lines_in}
use Rattle.sp_layout.specs.Speaking.{speakers_after}
use Rattle.sp_layout.specs.Edited.{old_speakers, window_start}
use Rattle.sp_layout.proofs.WindowSpeakers.{gone-few, gone-lie, told-before, told-by-gone}
use Rattle.sp_layout.proofs.edited.old_speakers.Goals as goal

pub placed_blocks_of-requires : goal.placed_blocks_of-requires
placed_blocks_of-requires c =
    let few = gone-few c.args.old.now c.args.lines.now.lines c.args.stanzas.now.stanzas c.args.swapped.now c.requires.edit in
    let first : c.lines_before-first.result ≡ window_start c.args.stanzas.now.stanzas c.args.swapped.now = c.lines_before-first.ensures ∙ ap (λ n. stanza_lines_in (take n c.args.stanzas.now.stanzas)) c.at-at.ensures in
    omega (arith, few, first, ap stanza_lines_in c.stanzas-then-any_settles.ensures)

pub behind_old-requires : goal.behind_old-requires
behind_old-requires c =
    let stanzas = c.args.stanzas.now.stanzas in
    let first : c.lines_before-first.result ≡ window_start stanzas c.args.swapped.now = c.lines_before-first.ensures ∙ ap (λ n. stanza_lines_in (take n stanzas)) c.at-at.ensures in
    let blocks = c.deref.ensures.value ∙ c.in_ok-blocks.ensures ∙ ap₂ (λ n (ss : List StanzaOf). blocks_from n ss) first c.stanzas-then-any_settles.ensures in
    subst (All (PlacedLies (line_texts c.args.old.now))) (sym blocks) (gone-lie c.args.old.now c.args.lines.now.lines stanzas c.args.swapped.now c.requires.edit)

pub returns-in_ok-blocks : goal.returns-in_ok-blocks
returns-in_ok-blocks c =
    let stanzas = c.args.stanzas.now.stanzas in
    let texts = line_texts c.args.old.now in
    let on = c.args.speakers in
    let first : c.lines_before-first.result ≡ window_start stanzas c.args.swapped.now = c.lines_before-first.ensures ∙ ap (λ n. stanza_lines_in (take n stanzas)) c.at-at.ensures in
    let blocks = c.deref.ensures.value ∙ c.in_ok-blocks.ensures ∙ ap₂ (λ n (ss : List StanzaOf). blocks_from n ss) first c.stanzas-then-any_settles.ensures in
    let some : list_any stanza_settles c.args.swapped.now.stanzas ≡ true = sym (c.any_settles.ensures ∙ ap (list_any stanza_settles) c.stanzas.ensures) ∙ c.if-any_settles.true in
    IfOk-weaker c.behind_old.result (λ it. it ≡ speakers_after texts on c.deref.result.now) (λ it. it ≡ old_speakers texts stanzas c.args.swapped.now on)
    (λ it is. is ∙ ap (speakers_after texts on) blocks ∙ told-by-gone c.args.old.now c.args.lines.now.lines stanzas c.args.swapped.now c.requires.edit on some) c.behind_old.ensures

pub returns-else-any_settles : goal.returns-else-any_settles
returns-else-any_settles c =
    let stanzas = c.args.stanzas.now.stanzas in
    let news = line_texts c.args.lines.now.lines in
    let on = c.args.speakers in
    let none : list_any stanza_settles c.args.swapped.now.stanzas ≡ false = sym (c.any_settles.ensures ∙ ap (list_any stanza_settles) c.stanzas.ensures) ∙ c.if-any_settles.false in
    IfOk-weaker c.speakers_before.result (λ it. it ≡ speakers_after news on (blocks_from 0 (take c.at-at.result stanzas))) (λ it. it ≡ old_speakers (line_texts c.args.old.now) stanzas c.args.swapped.now on)
    (λ it is. is ∙ ap (λ n. speakers_after news on (blocks_from 0 (take n stanzas))) c.at-at.ensures ∙ told-before c.args.old.now c.args.lines.now.lines stanzas c.args.swapped.now c.requires.edit on none) c.speakers_before.ensures
