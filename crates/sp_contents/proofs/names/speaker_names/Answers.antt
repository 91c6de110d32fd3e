use Rattle.std.proofs.Common.{true, false, ◌++◌, ◌∷◌, [], List, ℕ, map, string_bytes, ap, sym, ◌∙◌, append-nil}
use Rattle.std.proofs.lemmas.List.{map_push}
use Rattle.spec_text.specs.Lines.{line_texts}
use Rattle.sp_contents.proofs.Pushes.{names-step}
use Rattle.sp_contents.proofs.names.speaker_names.Goals.{then-is_speech_block+in_ok-speaker_name+in_ok-push, else-is_speech_block}
use Rattle.sp_contents.proofs.names.speaker_names.Goals as goal

pub loop-placed-preserved : goal.loop-placed-preserved
loop-placed-preserved c =
    let texts = line_texts c.args.lines.now.lines in
    let blocks = c.args.blocks.now in
    let i = c.loop-placed.placed-index in
    let placed = c.placed-item.result in
    let names = c.loop-placed.names.items in
    let old = map string_bytes names in
    let inside = c.loop-placed-test.true in
    elim c.if-is_speech_block.branch [
      | then-is_speech_block+in_ok-speaker_name+in_ok-push w ↦
          names-step texts blocks i placed old _ true inside c.placed-item.is c.loop-placed.invariant (sym w.if-is_speech_block.true ∙ c.is_speech_block.ensures)
          (ap (λ v. map string_bytes v.items) w.names-is ∙ ap (map string_bytes) w.in_ok-push.ensures.items ∙ map_push string_bytes names _ ∙ ap (λ (name : List ℕ). old ++ name ∷ []) w.in_ok-speaker_name.ensures)
      | else-is_speech_block w ↦
          names-step texts blocks i placed old _ false inside c.placed-item.is c.loop-placed.invariant (sym w.if-is_speech_block.false ∙ c.is_speech_block.ensures) (ap (λ v. map string_bytes v.items) w.names-is ∙ sym (append-nil old))
    ]
