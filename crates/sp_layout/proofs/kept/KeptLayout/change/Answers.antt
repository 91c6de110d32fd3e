use Rattle.std.proofs.Common.{◌≡◌, ◌+◌, ◌<◌, ◌^◌, length, sym, ap, subst, ◌∙◌, arith}
use Rattle.sp_layout.specs.LaidOut.{LayoutOf}
use Rattle.sp_layout.specs.declared.kept.PartPlaces.{PartPlaces}
use Rattle.sp_layout.specs.Kept.{KeptOf, PartOf, laid_of, with_part}
use Rattle.sp_layout.specs.Changes.{CanChange, CanSpeak, ChangeOf, moved_speech, with_change, with_speech}
use Rattle.sp_layout.proofs.ChangeLaws.{changed, room-spoken, speak-from, undo-can, undone}
use Rattle.sp_layout.proofs.kept.KeptLayout.change.Goals as goal

pub moved_speech-moved-requires-clause-behind : goal.moved_speech-moved-requires-clause-behind
moved_speech-moved-requires-clause-behind c =
    let old = laid_of c.args.self.now in
    let speech = c.back.inside.speech in
    let part = c.back.inside.part in
    let change : ChangeOf = record { speech = speech; part = part } in
    let mid = laid_of c.swap.new.self in
    let can : CanChange old change = subst (CanChange old) (sym c.back.view_is) c.requires in
    let to : c.part.inside.places.to ≡ part.places.to = ap (λ (p : PartOf). p.places.to) c.part.view_is in
    let back_to : c.part-in-Ok.inside.places.to ≡ c.in-Ok.part.places.to = ap (λ (p : PartOf). p.places.to) c.part-in-Ok.view_is in
    let end : c.part-in-Ok.inside.places.to ≡ part.places.from + length part.kept.body.elements = back_to ∙ ap (λ (p : PartPlaces). p.to) c.in-Ok.ensures.places in
    let few : length mid.body.elements < 2 ^ 64 = omega (arith, c.len-len.ensures.enough, c.len-len.ensures.small, ap (λ (k : KeptOf). length k.body.elements) c.self.view_is) in
    let done = changed old change mid c.part.inside.places.to c.part-in-Ok.inside.places.to can c.in-Ok.ensures.layout to end few in
    done.behind

pub moved_speech-moved-requires-clause-low : goal.moved_speech-moved-requires-clause-low
moved_speech-moved-requires-clause-low c =
    let old = laid_of c.args.self.now in
    let speech = c.back.inside.speech in
    let part = c.back.inside.part in
    let change : ChangeOf = record { speech = speech; part = part } in
    let mid = laid_of c.swap.new.self in
    let can : CanChange old change = subst (CanChange old) (sym c.back.view_is) c.requires in
    let to : c.part.inside.places.to ≡ part.places.to = ap (λ (p : PartOf). p.places.to) c.part.view_is in
    let back_to : c.part-in-Ok.inside.places.to ≡ c.in-Ok.part.places.to = ap (λ (p : PartOf). p.places.to) c.part-in-Ok.view_is in
    let end : c.part-in-Ok.inside.places.to ≡ part.places.from + length part.kept.body.elements = back_to ∙ ap (λ (p : PartPlaces). p.to) c.in-Ok.ensures.places in
    let few : length mid.body.elements < 2 ^ 64 = omega (arith, c.len-len.ensures.enough, c.len-len.ensures.small, ap (λ (k : KeptOf). length k.body.elements) c.self.view_is) in
    let done = changed old change mid c.part.inside.places.to c.part-in-Ok.inside.places.to can c.in-Ok.ensures.layout to end few in
    done.can_move

pub exchange_speech-speech-requires : goal.exchange_speech-speech-requires
exchange_speech-speech-requires c =
    let old = laid_of c.args.self.now in
    let speech = c.back.inside.speech in
    let part = c.back.inside.part in
    let change : ChangeOf = record { speech = speech; part = part } in
    let mid = laid_of c.swap.new.self in
    let can : CanChange old change = subst (CanChange old) (sym c.back.view_is) c.requires in
    let to : c.part.inside.places.to ≡ part.places.to = ap (λ (p : PartOf). p.places.to) c.part.view_is in
    let back_to : c.part-in-Ok.inside.places.to ≡ c.in-Ok.part.places.to = ap (λ (p : PartOf). p.places.to) c.part-in-Ok.view_is in
    let end : c.part-in-Ok.inside.places.to ≡ part.places.from + length part.kept.body.elements = back_to ∙ ap (λ (p : PartPlaces). p.to) c.in-Ok.ensures.places in
    let few : length mid.body.elements < 2 ^ 64 = omega (arith, c.len-len.ensures.enough, c.len-len.ensures.small, ap (λ (k : KeptOf). length k.body.elements) c.self.view_is) in
    let done = changed old change mid c.part.inside.places.to c.part-in-Ok.inside.places.to can c.in-Ok.ensures.layout to end few in
    subst (CanSpeak mid 0) (sym c.moved_speech-moved.ensures) (speak-from mid 0 c.part-in-Ok.inside.places.to (moved_speech c.part.inside.places.to c.part-in-Ok.inside.places.to speech) (omega arith) done.can_speak)

pub returns-in-Ok-clause-layout : goal.returns-in-Ok-clause-layout
returns-in-Ok-clause-layout c =
    let old = laid_of c.args.self.now in
    let speech = c.back.inside.speech in
    let part = c.back.inside.part in
    let change : ChangeOf = record { speech = speech; part = part } in
    let mid = laid_of c.swap.new.self in
    let can : CanChange old change = subst (CanChange old) (sym c.back.view_is) c.requires in
    let to : c.part.inside.places.to ≡ part.places.to = ap (λ (p : PartOf). p.places.to) c.part.view_is in
    let back_to : c.part-in-Ok.inside.places.to ≡ c.in-Ok.part.places.to = ap (λ (p : PartOf). p.places.to) c.part-in-Ok.view_is in
    let end : c.part-in-Ok.inside.places.to ≡ part.places.from + length part.kept.body.elements = back_to ∙ ap (λ (p : PartPlaces). p.to) c.in-Ok.ensures.places in
    let few : length mid.body.elements < 2 ^ 64 = omega (arith, c.len-len.ensures.enough, c.len-len.ensures.small, ap (λ (k : KeptOf). length k.body.elements) c.self.view_is) in
    let done = changed old change mid c.part.inside.places.to c.part-in-Ok.inside.places.to can c.in-Ok.ensures.layout to end few in
    c.exchange_speech-speech.ensures.kept ∙ ap (with_speech mid) c.moved_speech-moved.ensures ∙ done.layout ∙ ap (with_change old) c.back.view_is

pub returns-in-Ok-clause-back : goal.returns-in-Ok-clause-back
returns-in-Ok-clause-back c =
    let old = laid_of c.args.self.now in
    let speech = c.back.inside.speech in
    let part = c.back.inside.part in
    let change : ChangeOf = record { speech = speech; part = part } in
    let mid = laid_of c.swap.new.self in
    let can : CanChange old change = subst (CanChange old) (sym c.back.view_is) c.requires in
    let to : c.part.inside.places.to ≡ part.places.to = ap (λ (p : PartOf). p.places.to) c.part.view_is in
    let back_to : c.part-in-Ok.inside.places.to ≡ c.in-Ok.part.places.to = ap (λ (p : PartOf). p.places.to) c.part-in-Ok.view_is in
    let end : c.part-in-Ok.inside.places.to ≡ part.places.from + length part.kept.body.elements = back_to ∙ ap (λ (p : PartPlaces). p.to) c.in-Ok.ensures.places in
    let few : length mid.body.elements < 2 ^ 64 = omega (arith, c.len-len.ensures.enough, c.len-len.ensures.small, ap (λ (k : KeptOf). length k.body.elements) c.self.view_is) in
    let done = changed old change mid c.part.inside.places.to c.part-in-Ok.inside.places.to can c.in-Ok.ensures.layout to end few in
    ap (λ (l : LayoutOf). with_part l c.in-Ok.part.places (laid_of c.in-Ok.part.kept)) (undone mid (laid_of c.exchange_speech-speech.new.kept) c.moved_speech-moved.result c.exchange_speech-speech.result c.exchange_speech-speech.ensures.kept c.exchange_speech-speech.ensures.back)
    ∙ c.in-Ok.ensures.back

pub returns-in-Ok-clause-can : goal.returns-in-Ok-clause-can
returns-in-Ok-clause-can c =
    let old = laid_of c.args.self.now in
    let speech = c.back.inside.speech in
    let part = c.back.inside.part in
    let change : ChangeOf = record { speech = speech; part = part } in
    let mid = laid_of c.swap.new.self in
    let can : CanChange old change = subst (CanChange old) (sym c.back.view_is) c.requires in
    let to : c.part.inside.places.to ≡ part.places.to = ap (λ (p : PartOf). p.places.to) c.part.view_is in
    let back_to : c.part-in-Ok.inside.places.to ≡ c.in-Ok.part.places.to = ap (λ (p : PartOf). p.places.to) c.part-in-Ok.view_is in
    let end : c.part-in-Ok.inside.places.to ≡ part.places.from + length part.kept.body.elements = back_to ∙ ap (λ (p : PartPlaces). p.to) c.in-Ok.ensures.places in
    let few : length mid.body.elements < 2 ^ 64 = omega (arith, c.len-len.ensures.enough, c.len-len.ensures.small, ap (λ (k : KeptOf). length k.body.elements) c.self.view_is) in
    let done = changed old change mid c.part.inside.places.to c.part-in-Ok.inside.places.to can c.in-Ok.ensures.layout to end few in
    let moved = c.moved_speech-moved.result in
    let speak : CanSpeak mid c.in-Ok.part.places.to moved =
    subst (λ n. CanSpeak mid n moved) back_to (subst (CanSpeak mid c.part-in-Ok.inside.places.to) (sym c.moved_speech-moved.ensures) done.can_speak) in
    let both = undo-can mid (laid_of c.exchange_speech-speech.new.kept) moved c.exchange_speech-speech.result c.in-Ok.part.places (laid_of c.in-Ok.part.kept) c.exchange_speech-speech.ensures.kept c.exchange_speech-speech.ensures.back speak c.in-Ok.ensures.can in
    record { part = both.0; speech = both.1 }

pub returns-in-Ok-clause-returns : goal.returns-in-Ok-clause-returns
returns-in-Ok-clause-returns c =
    let old = laid_of c.args.self.now in
    let speech = c.back.inside.speech in
    let part = c.back.inside.part in
    let change : ChangeOf = record { speech = speech; part = part } in
    let mid = laid_of c.swap.new.self in
    let can : CanChange old change = subst (CanChange old) (sym c.back.view_is) c.requires in
    let to : c.part.inside.places.to ≡ part.places.to = ap (λ (p : PartOf). p.places.to) c.part.view_is in
    let back_to : c.part-in-Ok.inside.places.to ≡ c.in-Ok.part.places.to = ap (λ (p : PartOf). p.places.to) c.part-in-Ok.view_is in
    let end : c.part-in-Ok.inside.places.to ≡ part.places.from + length part.kept.body.elements = back_to ∙ ap (λ (p : PartPlaces). p.to) c.in-Ok.ensures.places in
    let few : length mid.body.elements < 2 ^ 64 = omega (arith, c.len-len.ensures.enough, c.len-len.ensures.small, ap (λ (k : KeptOf). length k.body.elements) c.self.view_is) in
    let done = changed old change mid c.part.inside.places.to c.part-in-Ok.inside.places.to can c.in-Ok.ensures.layout to end few in
    let moved = c.moved_speech-moved.result in
    let speak : CanSpeak mid c.in-Ok.part.places.to moved =
    subst (λ n. CanSpeak mid n moved) back_to (subst (CanSpeak mid c.part-in-Ok.inside.places.to) (sym c.moved_speech-moved.ensures) done.can_speak) in
    room-spoken c.swap.new.self c.exchange_speech-speech.new.kept c.in-Ok.part.places c.in-Ok.part.kept moved c.exchange_speech-speech.ensures.kept c.exchange_speech-speech.ensures.room c.in-Ok.ensures.can.body.order speak c.in-Ok.ensures.returns
