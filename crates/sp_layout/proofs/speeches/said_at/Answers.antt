use Rattle.std.proofs.Common.{◌≡◌, ℕ, Option, List, ◌∷◌, length, length-drop, length-take, take, drop, slice_range, sym, ap, subst, ◌∙◌, arith, All}
use Rattle.std.proofs.lemmas.List.Elements.{All-drop, All-take}
use Rattle.std.proofs.lemmas.Option.{slice_get_within}
use Rattle.spec_text.specs.Lines.{line_texts}
use Rattle.spec_script.specs.Elements.{PlacedLies, PlacesRise}
use Rattle.spec_script.specs.Stanzas.{PlacedBlock, blocks_from}
use Rattle.spec_edit.specs.Windows.{stanza_lines_in}
use Rattle.sp_text.specs.Gap.{text_of}
use Rattle.sp_layout.specs.Exchanges.{rows_at}
use Rattle.sp_layout.specs.LaidOut.{LayoutOf, layout_behind}
use Rattle.sp_layout.specs.Speeches.{LastOf, Speaks, blocks_behind, first_goes_on}
use Rattle.sp_layout.proofs.EditedLaws.{slice-lies}
use Rattle.sp_layout.proofs.SpokenAnew.{goes-speech}
use Rattle.sp_layout.proofs.SpeechLaws.{blocks_past, from-speech, goes-at, speech_at, two-are, two-rise}
use Rattle.sp_layout.proofs.speeches.said_at.Goals as goal

pub overflow_add-place : goal.overflow_add-place
overflow_add-place c =
    let stanzas = c.args.stanzas.now.stanzas in
    let place = c.args.place in
    let it = c.requires.first.is in
    let inside = slice_get_within stanzas place.stanza it.stanza it.there in
    omega (arith, inside, c.len-len.ensures.len, c.len-len.ensures.small)

pub next_filled-until-requires : goal.next_filled-until-requires
next_filled-until-requires c =
    let stanzas = c.args.stanzas.now.stanzas in
    let place = c.args.place in
    let it = c.requires.first.is in
    let inside = slice_get_within stanzas place.stanza it.stanza it.there in
    omega (arith, inside)

pub two_from-speech-requires : goal.two_from-speech-requires
two_from-speech-requires c =
    let stanzas = c.args.stanzas.now.stanzas in
    let place = c.args.place in
    let it = c.requires.first.is in
    let inside = slice_get_within stanzas place.stanza it.stanza it.there in
    let blocks : c.deref.result.now ≡ blocks_from (stanza_lines_in (take place.stanza stanzas)) (slice_range stanzas place.stanza c.next_filled-until.result) = c.deref.ensures.value ∙ c.in_ok-blocks.ensures in
    let own = blocks_from (stanza_lines_in (take place.stanza stanzas)) (slice_range stanzas place.stanza c.next_filled-until.result) in
    let two = two-are stanzas c.args.from place it c.next_filled-until.result c.next_filled-until.ensures.low c.next_filled-until.ensures.within c.next_filled-until.ensures.filled in
    omega (arith, ap (λ (bs : List PlacedBlock). length bs) two, length-take 2 (drop place.block own), length-drop place.block own, ap (λ (bs : List PlacedBlock). length bs) blocks)

pub either_speaks-requires-clause-says : goal.either_speaks-requires-clause-says
either_speaks-requires-clause-says c =
    let stanzas = c.args.stanzas.now.stanzas in
    let place = c.args.place in
    let it = c.requires.first.is in
    let inside = slice_get_within stanzas place.stanza it.stanza it.there in
    let blocks : c.deref.result.now ≡ blocks_from (stanza_lines_in (take place.stanza stanzas)) (slice_range stanzas place.stanza c.next_filled-until.result) = c.deref.ensures.value ∙ c.in_ok-blocks.ensures in
    let two : c.two_from-speech.result.now ≡ speech_at stanzas c.args.from place it ∷ take 1 (blocks_past stanzas c.args.from place it) =
    c.two_from-speech.ensures ∙ ap (λ (bs : List PlacedBlock). take 2 (drop place.block bs)) blocks
    ∙ two-are stanzas c.args.from place it c.next_filled-until.result c.next_filled-until.ensures.low c.next_filled-until.ensures.within c.next_filled-until.ensures.filled in
    subst Speaks (sym two) c.requires.first.says

pub either_speaks-requires-clause-some : goal.either_speaks-requires-clause-some
either_speaks-requires-clause-some c =
    let stanzas = c.args.stanzas.now.stanzas in
    let place = c.args.place in
    let it = c.requires.first.is in
    let inside = slice_get_within stanzas place.stanza it.stanza it.there in
    let blocks : c.deref.result.now ≡ blocks_from (stanza_lines_in (take place.stanza stanzas)) (slice_range stanzas place.stanza c.next_filled-until.result) = c.deref.ensures.value ∙ c.in_ok-blocks.ensures in
    let two : c.two_from-speech.result.now ≡ speech_at stanzas c.args.from place it ∷ take 1 (blocks_past stanzas c.args.from place it) =
    c.two_from-speech.ensures ∙ ap (λ (bs : List PlacedBlock). take 2 (drop place.block bs)) blocks
    ∙ two-are stanzas c.args.from place it c.next_filled-until.result c.next_filled-until.ensures.low c.next_filled-until.ensures.within c.next_filled-until.ensures.filled in
    omega (arith, ap (λ (bs : List PlacedBlock). length bs) two)

pub either_speaks-requires-clause-lie : goal.either_speaks-requires-clause-lie
either_speaks-requires-clause-lie c =
    let stanzas = c.args.stanzas.now.stanzas in
    let place = c.args.place in
    let it = c.requires.first.is in
    let inside = slice_get_within stanzas place.stanza it.stanza it.there in
    let blocks : c.deref.result.now ≡ blocks_from (stanza_lines_in (take place.stanza stanzas)) (slice_range stanzas place.stanza c.next_filled-until.result) = c.deref.ensures.value ∙ c.in_ok-blocks.ensures in
    let P = PlacedLies (line_texts c.args.lines.now.lines) in
    let low = c.next_filled-until.ensures.low in
    let all = slice-lies (text_of c.args.lines.now) stanzas place.stanza c.next_filled-until.result c.len-count.ensures.keeps c.requires.list (omega (arith, low)) in
    subst (All P) (sym (c.two_from-speech.ensures ∙ ap (λ (bs : List PlacedBlock). take 2 (drop place.block bs)) blocks))
    (All-take P 2 (drop place.block (blocks_from (stanza_lines_in (take place.stanza stanzas)) (slice_range stanzas place.stanza c.next_filled-until.result))) (All-drop P place.block (blocks_from (stanza_lines_in (take place.stanza stanzas)) (slice_range stanzas place.stanza c.next_filled-until.result)) all))

pub lay_out_behind-requires-clause-lie : goal.lay_out_behind-requires-clause-lie
lay_out_behind-requires-clause-lie c =
    let stanzas = c.args.stanzas.now.stanzas in
    let place = c.args.place in
    let it = c.requires.first.is in
    let inside = slice_get_within stanzas place.stanza it.stanza it.there in
    let blocks : c.deref.result.now ≡ blocks_from (stanza_lines_in (take place.stanza stanzas)) (slice_range stanzas place.stanza c.next_filled-until.result) = c.deref.ensures.value ∙ c.in_ok-blocks.ensures in
    let P = PlacedLies (line_texts c.args.lines.now.lines) in
    let low = c.next_filled-until.ensures.low in
    let all = slice-lies (text_of c.args.lines.now) stanzas place.stanza c.next_filled-until.result c.len-count.ensures.keeps c.requires.list (omega (arith, low)) in
    subst (All P) (sym (c.two_from-speech.ensures ∙ ap (λ (bs : List PlacedBlock). take 2 (drop place.block bs)) blocks))
    (All-take P 2 (drop place.block (blocks_from (stanza_lines_in (take place.stanza stanzas)) (slice_range stanzas place.stanza c.next_filled-until.result))) (All-drop P place.block (blocks_from (stanza_lines_in (take place.stanza stanzas)) (slice_range stanzas place.stanza c.next_filled-until.result)) all))

pub lay_out_behind-requires-clause-rise : goal.lay_out_behind-requires-clause-rise
lay_out_behind-requires-clause-rise c =
    let stanzas = c.args.stanzas.now.stanzas in
    let place = c.args.place in
    let it = c.requires.first.is in
    let inside = slice_get_within stanzas place.stanza it.stanza it.there in
    let blocks : c.deref.result.now ≡ blocks_from (stanza_lines_in (take place.stanza stanzas)) (slice_range stanzas place.stanza c.next_filled-until.result) = c.deref.ensures.value ∙ c.in_ok-blocks.ensures in
    let two : c.two_from-speech.result.now ≡ speech_at stanzas c.args.from place it ∷ take 1 (blocks_past stanzas c.args.from place it) =
    c.two_from-speech.ensures ∙ ap (λ (bs : List PlacedBlock). take 2 (drop place.block bs)) blocks
    ∙ two-are stanzas c.args.from place it c.next_filled-until.result c.next_filled-until.ensures.low c.next_filled-until.ensures.within c.next_filled-until.ensures.filled in
    subst (PlacesRise 0) (sym two) (two-rise stanzas c.args.from place it)

pub returns-then-not-branch : goal.returns-then-not-branch
returns-then-not-branch c =
    let stanzas = c.args.stanzas.now.stanzas in
    let place = c.args.place in
    let it = c.requires.first.is in
    let inside = slice_get_within stanzas place.stanza it.stanza it.there in
    let blocks : c.deref.result.now ≡ blocks_from (stanza_lines_in (take place.stanza stanzas)) (slice_range stanzas place.stanza c.next_filled-until.result) = c.deref.ensures.value ∙ c.in_ok-blocks.ensures in
    let two : c.two_from-speech.result.now ≡ speech_at stanzas c.args.from place it ∷ take 1 (blocks_past stanzas c.args.from place it) =
    c.two_from-speech.ensures ∙ ap (λ (bs : List PlacedBlock). take 2 (drop place.block bs)) blocks
    ∙ two-are stanzas c.args.from place it c.next_filled-until.result c.next_filled-until.ensures.low c.next_filled-until.ensures.within c.next_filled-until.ensures.filled in
    let texts = line_texts c.args.lines.now.lines in
    let last = c.args.last in
    let speech = speech_at stanzas c.args.from place it in
    let past = blocks_past stanzas c.args.from place it in
    let both = c.in_ok-either_speaks.ensures c.if-not-branch.true in
    let told : (who : Option (List ℕ)) → first_goes_on texts who (blocks_behind stanzas c.args.from) ≡ first_goes_on texts who c.two_from-speech.result.now = λ who.
    goes-at stanzas c.args.from place it texts who ∙ goes-speech texts who speech past c.requires.first.says
    ∙ sym (ap (first_goes_on texts who) two ∙ goes-speech texts who speech (take 1 past) c.requires.first.says) in
    told last.before.last ∙ both ∙ sym (told last.after.last)

pub returns : goal.returns
returns c =
    let stanzas = c.args.stanzas.now.stanzas in
    let place = c.args.place in
    let it = c.requires.first.is in
    let inside = slice_get_within stanzas place.stanza it.stanza it.there in
    let blocks : c.deref.result.now ≡ blocks_from (stanza_lines_in (take place.stanza stanzas)) (slice_range stanzas place.stanza c.next_filled-until.result) = c.deref.ensures.value ∙ c.in_ok-blocks.ensures in
    let two : c.two_from-speech.result.now ≡ speech_at stanzas c.args.from place it ∷ take 1 (blocks_past stanzas c.args.from place it) =
    c.two_from-speech.ensures ∙ ap (λ (bs : List PlacedBlock). take 2 (drop place.block bs)) blocks
    ∙ two-are stanzas c.args.from place it c.next_filled-until.result c.next_filled-until.ensures.low c.next_filled-until.ensures.within c.next_filled-until.ensures.filled in
    let lines = c.args.lines.now.lines in
    let rows = c.first_rows.ensures ∙ ap (λ (l : LayoutOf). rows_at l.body.elements 0) c.in_ok-layout.ensures
    ∙ ap (λ (last : LastOf). rows_at (layout_behind lines last.after c.two_from-speech.result.now).body.elements 0) c.last.view_is
    ∙ ap (λ (bs : List PlacedBlock). rows_at (layout_behind lines c.args.last.after bs).body.elements 0) (two ∙ sym (ap (take 2) (from-speech stanzas c.args.from place it))) in
    record { first = c.requires.first; rows = rows }
