use Rattle.std.proofs.Common.{◌≡◌, ◌∙◌, length, get_or, ltb-true, ap, sym, rules, arith}
use Rattle.std.proofs.lemmas.List.Sorted.{answers_always}
use Rattle.spec_labels.specs.Scenes.{SceneRecordOf}
use Rattle.sp_scenes.specs.declared.places.LinePlace.{LinePlace}
use Rattle.sp_scenes.proofs.LinePlaces.{place-only, place-found, place-missing}
use Rattle.sp_scenes.proofs.places.place_of.Goals as goal

pub returns-then-record-line : goal.returns-then-record-line
returns-then-record-line c =
    let found = c.in-Some.ensures.lookup in
    let here : c.in-Some.record.now ≡ get_or c.args.records.now c.args.guess c.in-Some.record.now = found.1 in
    let is = ap (λ (it : SceneRecordOf). it.line) (sym here ∙ sym c.record.view_is) ∙ c.if-record-line.true in
    place-only c.args.records.now c.args.guess c.args.line c.in-Some.record.now c.requires.records (omega (arith, ltb-true c.args.guess (length c.args.records.now) (sym found.0))) is

pub returns-in-Ok : goal.returns-in-Ok
returns-in-Ok c =
    let facts = c.in-Ok.ensures in
    let by_line = facts.position (λ (entry : LinePlace). entry.line) (answers_always _ _ _ (λ f a r g called. search rules)) in
    place-found c.args.records.now c.args.places.now c.requires.places c.args.line c.in-Ok.found _ c.requires.records facts.bound by_line

pub returns-in-Err : goal.returns-in-Err
returns-in-Err c =
    let facts = c.in-Err.ensures in
    let by_line = facts.position (λ (entry : LinePlace). entry.line) (answers_always _ _ _ (λ f a r g called. search rules)) in
    place-missing c.args.records.now c.args.places.now c.requires.places c.args.line _ by_line
