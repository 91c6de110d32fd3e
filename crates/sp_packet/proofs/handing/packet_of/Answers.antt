use Rattle.std.proofs.Common.{◌≡◌, ◌-◌, ◌++◌, List, length, map, ap, ap₂, ◌∙◌, arith}
use Rattle.std.specs.Prelude.{is_some}
use Rattle.spec_records.specs.Kept.{RecordsOf}
use Rattle.spec_state.specs.StateSheets.{body_sheets, sheets_of_state}
use Rattle.spec_packet.specs.SheetFacts.{SheetFactsOf, laid_facts}
use Rattle.spec_packet.specs.StatePackets.{laid_of, places_from}
use Rattle.sp_packet.specs.Fresh.{FreshCounts, counts_of, is_handed_by, is_of_round}
use Rattle.sp_packet.proofs.PlaceWalk.{body-few, facts-count, packet-is}
use Rattle.sp_packet.proofs.handing.packet_of.Goals as goal

pub add_handed-requires-clause-few : goal.add_handed-requires-clause-few
add_handed-requires-clause-few c =
    let state = c.args.script.now in
    let count = facts-count state c.body_sheets.ensures.whole (ap is_some c.requires) in
    let facts = ap length c.in_ok-facts.ensures.facts in
    let body = ap length c.body_sheets.ensures.sheets in
    let few = body-few state in
    let sheets = c.sheets.ensures in
    let deref = ap length c.deref.ensures.value in
    omega (arith, count, facts, body, few, sheets, deref)

pub returns : goal.returns
returns c =
    let state = c.args.script.now in
    let titles = c.sheets.result - length c.body_sheets.result.now in
    let count : titles ≡ length (sheets_of_state state) - length (body_sheets state) = ap₂ (λ a b. a - b) c.sheets.ensures (ap length c.body_sheets.ensures.sheets) in
    let round = ap (λ (r : RecordsOf). r.round) (c.behind-script.view_is ∙ c.records.ensures) in
    let fresh : c.in_ok-fresh.fresh ≡ counts_of (map (is_of_round state.round) c.args.records.now) = c.in_ok-fresh.ensures ∙ ap (λ r. counts_of (map (is_of_round r) c.args.records.now)) round in
    let facts = c.deref.ensures.value ∙ c.in_ok-facts.ensures.facts in
    c.in_ok-add_handed.ensures
    ∙ ap₂ (λ (f : FreshCounts) (those : List SheetFactsOf). c.in_ok-places.places.items ++ places_from titles (map (is_handed_by f) those)) fresh facts
    ∙ ap (λ l. l ++ places_from titles (map (is_handed_by (counts_of (map (is_of_round state.round) c.args.records.now))) (laid_facts (laid_of state)))) c.in_ok-places.ensures
    ∙ packet-is state c.body_sheets.ensures.whole c.args.records.now c.requires titles count
