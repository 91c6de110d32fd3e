use Rattle.std.proofs.Common.{◌+◌, sym}
use Rattle.std.proofs.lemmas.Result.{on_ok_weaker}
use Rattle.sp_emph.specs.Markers.{AreBelow, HasOneMore}
use Rattle.sp_emph.proofs.MarkerLaws.{AreBelow-none, AreBelow-more}
use Rattle.sp_emph.proofs.markers.Markers.add.Goals as goal

pub returns-in-Some : goal.returns-in-Some
returns-in-Some c =
    let line = c.args.line.now in
    let place = c.args.place in
    let old = c.args.self.now in
    let new = c.push.new.self in
    let step : HasOneMore c.in-Some.layer place old new → AreBelow line (place + 1) new =
    λ more. AreBelow-more line place old new c.in-Some.layer (sym c.in-Some.ensures) more c.requires.below in
    on_ok_weaker c.push.result step c.push.ensures

pub returns-in-None : goal.returns-in-None
returns-in-None c = AreBelow-none c.args.line.now c.args.place c.args.self.now (sym c.in-None.ensures) c.requires.below
