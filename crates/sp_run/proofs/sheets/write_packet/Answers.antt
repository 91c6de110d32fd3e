use Rattle.std.proofs.Common.{ℕ, ◌<◌, List, length, ap, sym, subst, ◌∙◌}
use Rattle.std.specs.Prelude.{All}
use Rattle.std.specs.List.{flat_map}
use Rattle.spec_sheets.specs.Sheets.{sheet_bytes}
use Rattle.spec_state.specs.StateSheets.{sheets_of_state}
use Rattle.spec_packet.specs.StatePackets.{sheets_at}
use Rattle.spec_packet.proofs.PlaceLaws.{places-packet}
use Rattle.sp_run.specs.Written.{IsWritten}
use Rattle.sp_run.proofs.PacketSheets.{places-within}
use Rattle.sp_run.proofs.sheets.write_packet.Goals as goal

pub write_places-requires : goal.write_places-requires
write_places-requires g c =
    let state = c.args.script.now in
    subst (All (λ (place : ℕ). place < length (sheets_of_state state))) (sym (c.deref.ensures.value ∙ c.in-Ok.ensures.places)) (places-within state c.requires)

pub returns-in-Ok : goal.returns-in-Ok
returns-in-Ok g c =
    let state = c.args.script.now in
    subst (λ (bytes : List ℕ). IsWritten (g.O.Sink.state c.args.output.now) (g.O.Sink.state c.write_places.new.output) bytes c.write_places.result)
    (ap (λ (places : List ℕ). flat_map sheet_bytes (sheets_at (sheets_of_state state) places)) (c.deref.ensures.value ∙ c.in-Ok.ensures.places) ∙ places-packet state c.requires)
    c.write_places.ensures
