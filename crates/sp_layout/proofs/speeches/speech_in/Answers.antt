use Rattle.std.proofs.Common.{◌≡◌, ◌<◌, ◌≤◌, false, List, length, take, slice_get, get_or, Some, refl, sym, ap, subst, ◌∙◌, arith}
use Rattle.std.specs.List.{list_any}
use Rattle.std.proofs.lemmas.Bool.{true≢false}
use Rattle.std.proofs.lemmas.List.{take_all}
use Rattle.std.proofs.lemmas.Option.{slice_get_read}
use Rattle.spec_script.specs.BlockValues.{BlockOf, StanzaOf}
use Rattle.spec_script.specs.Elements.{is_speech_kind}
use Rattle.spec_edit.specs.Settling.{block_settles}
use Rattle.sp_layout.specs.declared.speeches.BlockPlace.{BlockPlace}
use Rattle.sp_layout.specs.Speeches.{IsFirstSettling}
use Rattle.sp_reread.proofs.SettlingLaws.{settles-one}
use Rattle.sp_layout.proofs.SpeechLaws.{heading-first}
use Rattle.sp_layout.proofs.speeches.speech_in.Goals as goal
use Rattle.sp_layout.proofs.speeches.speech_in.Goals.{else-block-len-via-then-block-len+else-is_speech_kind, else-block-len-via-else-block-len}

pub returns-else-block-len-clause-none : goal.returns-else-block-len-clause-none
returns-else-block-len-clause-none c =
    let stanzas = c.args.stanzas.now.stanzas in
    let s = c.stanza-own.result.now in
    let i = c.first_settling-block.result in
    let blocks : c.deref.result.now ≡ s.blocks = c.deref.ensures.value ∙ ap (λ (own : StanzaOf). own.blocks) c.own.view_is in
    let none : list_any block_settles (take i s.blocks) ≡ false = subst (λ (bs : List BlockOf). list_any block_settles (take i bs) ≡ false) blocks c.first_settling-block.ensures.first in
    let size = ap (λ (own : StanzaOf). length own.blocks) c.own.view_is in
    λ texts last. elim c.else-block-len.branch [
      | else-block-len-via-then-block-len+else-is_speech_kind w ↦
          let x = w.index.result.now in
          let low : i < length s.blocks = omega (arith, w.if-block-len.true, c.len.ensures, c.own.inside.blocks.ok.0, size) in
          let read : x ≡ get_or s.blocks i x = w.index.ensures ∙ ap (λ (own : StanzaOf). get_or own.blocks i x) c.own.view_is in
          let at : slice_get s.blocks i ≡ Some x = slice_get_read s.blocks (length s.blocks) i x refl low read in
          let place : BlockPlace = record { stanza = c.args.stanza; block = i } in
          let first : IsFirstSettling stanzas c.args.from place = record { low = c.requires.behind; stanza = s; there = c.stanza-own.ensures; quiet = c.requires.first; block = x; at = at; none = none } in
          let settles = c.first_settling-block.ensures.settles x (subst (λ (bs : List BlockOf). slice_get bs i ≡ Some x) (sym blocks) at) in
          let kind = ap (λ (block : BlockOf). is_speech_kind block.kind) w.behind-own.view_is in
          heading-first stanzas c.args.from place first settles (sym kind ∙ (sym w.is_speech_kind.ensures ∙ w.if-is_speech_kind.false)) texts last
      | else-block-len-via-else-block-len w ↦
          let high : length s.blocks ≤ i = omega (arith, w.if-block-len.false, c.len.ensures, c.own.inside.blocks.ok.0, size) in
          absurd (true≢false (sym (sym (settles-one stanzas c.args.stanza s c.stanza-own.ensures) ∙ c.requires.settles) ∙ ap (list_any block_settles) (sym (take_all i s.blocks high)) ∙ none))
    ]

pub returns-then-is_speech_kind-clause-some : goal.returns-then-is_speech_kind-clause-some
returns-then-is_speech_kind-clause-some c =
    let stanzas = c.args.stanzas.now.stanzas in
    let s = c.stanza-own.result.now in
    let i = c.first_settling-block.result in
    let blocks : c.deref.result.now ≡ s.blocks = c.deref.ensures.value ∙ ap (λ (own : StanzaOf). own.blocks) c.own.view_is in
    let none : list_any block_settles (take i s.blocks) ≡ false = subst (λ (bs : List BlockOf). list_any block_settles (take i bs) ≡ false) blocks c.first_settling-block.ensures.first in
    let x = c.index.result.now in
    let low : i < length s.blocks = omega (arith, c.if-block-len.true, c.len.ensures, c.own.inside.blocks.ok.0, ap (λ (own : StanzaOf). length own.blocks) c.own.view_is) in
    let read : x ≡ get_or s.blocks i x = c.index.ensures ∙ ap (λ (own : StanzaOf). get_or own.blocks i x) c.own.view_is in
    record {
      is = record { low = c.requires.behind; stanza = s; there = c.stanza-own.ensures; quiet = c.requires.first; block = x; at = slice_get_read s.blocks (length s.blocks) i x refl low read; none = none };
      says = sym (ap (λ (block : BlockOf). is_speech_kind block.kind) c.behind-own.view_is) ∙ (sym c.is_speech_kind.ensures ∙ c.if-is_speech_kind.true);
    }
