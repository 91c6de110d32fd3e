use Rattle.std.proofs.Common.{◌≡◌, ◌+◌, ◌-◌, None, Some, length, refl, take, drop, sym, ap, subst, ◌∙◌, arith}
use Rattle.std.proofs.lemmas.List.{get_or_read_under}
use Rattle.spec_script.specs.declared.Kind.{Kind}
use Rattle.spec_script.specs.BlockValues.{BlockOf}
use Rattle.spec_script.specs.Stanzas.{PlacedBlock}
use Rattle.spec_sheets.specs.Speakers.{name_in, cue_text, speaker_by}
use Rattle.sp_layout.specs.Speaking.{last_speaker}
use Rattle.sp_layout.proofs.LastSpeakers.{IsQuiet, last_speaker-at, quiet-more}
use Rattle.sp_layout.proofs.speakers.last_speech.Goals as goal

pub returns-in-Heading-clause-none : goal.returns-in-Heading-clause-none
returns-in-Heading-clause-none c texts =
    let blocks = c.args.blocks.now in
    let place = c.loop-count.count - 1 in
    let block = c.index-blocks-count.result in
    let next : c.loop-count.count ≡ place + 1 = omega arith in
    let quiet = subst (λ n. IsQuiet texts (drop n blocks)) next (c.loop-count.invariant.quiet texts) in
    let before = last_speaker texts (take place blocks) in
    let kind = ap (λ (it : PlacedBlock). it.block.kind) (sym c.placed.view_is) ∙ ap (λ (it : BlockOf). it.kind) (sym c.block.view_is) ∙ c.in-Heading.is in
    last_speaker-at texts blocks place block (omega arith) c.index-blocks-count.is quiet ∙ ap (λ (it : Kind). speaker_by it (name_in (cue_text texts block)) before) kind

pub returns-in-Speech-clause-some : goal.returns-in-Speech-clause-some
returns-in-Speech-clause-some c =
    let blocks = c.args.blocks.now in
    let place = c.loop-count.count - 1 in
    let block = c.index-blocks-count.result in
    let next : c.loop-count.count ≡ place + 1 = omega arith in
    let kind = ap (λ (it : PlacedBlock). it.block.kind) (sym c.placed.view_is) ∙ ap (λ (it : BlockOf). it.kind) (sym c.block.view_is) ∙ c.in-Speech.is in
    record {
      inside = omega arith;
      is = λ texts d.
          let quiet = subst (λ n. IsQuiet texts (drop n blocks)) next (c.loop-count.invariant.quiet texts) in
          last_speaker-at texts blocks place block (omega arith) c.index-blocks-count.is quiet ∙ ap (λ (it : Kind). speaker_by it (name_in (cue_text texts block)) (last_speaker texts (take place blocks))) kind
          ∙ ap (λ it. Some (name_in (cue_text texts it))) (get_or_read_under blocks place (length blocks) block d c.index-blocks-count.is (omega arith) refl);
    }

pub returns-clause-none : goal.returns-clause-none
returns-clause-none c texts =
    let blocks = c.args.blocks.now in
    let none : c.loop-count.count ≡ 0 = omega arith in
    (subst (λ n. IsQuiet texts (drop n blocks)) none (c.loop-count.invariant.quiet texts)).same None

pub loop-count-preserved : goal.loop-count-preserved
loop-count-preserved c =
    let blocks = c.args.blocks.now in
    let place = c.loop-count.count - 1 in
    let block = c.index-blocks-count.result in
    let next : c.loop-count.count ≡ place + 1 = omega arith in
    let within = c.loop-count.invariant.within in
    let kind : block.block.kind ≡ c.block.inside.kind = ap (λ (it : PlacedBlock). it.block.kind) (sym c.placed.view_is) ∙ ap (λ (it : BlockOf). it.kind) (sym c.block.view_is) in
    record {
      within = omega (arith, within);
      quiet = λ texts. quiet-more texts blocks place block (omega (arith, within)) c.index-blocks-count.is (λ is. c.in_default.not-Heading (sym kind ∙ is)) (λ is. c.in_default.not-Speech (sym kind ∙ is))
          (subst (λ n. IsQuiet texts (drop n blocks)) next (c.loop-count.invariant.quiet texts));
    }
