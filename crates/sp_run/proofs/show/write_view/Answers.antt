use Rattle.std.proofs.Common.{sym}
use Rattle.sp_run.proofs.show.write_view.Goals as goal

pub returns-in-Sheets : goal.returns-in-Sheets
returns-in-Sheets g c = rw c.in-Sheets.is (assumption c)

pub returns-in-Outline : goal.returns-in-Outline
returns-in-Outline g c = rw (c.in-Outline.is, sym c.view.ensures) (assumption c)

pub returns-in-Html : goal.returns-in-Html
returns-in-Html g c = rw c.in-Html.is (assumption c)

pub returns-in-Cast : goal.returns-in-Cast
returns-in-Cast g c = rw (c.in-Cast.is, sym c.view-in-Cast.ensures) (assumption c)

pub returns-in-Packet : goal.returns-in-Packet
returns-in-Packet g c = rw c.in-Packet.is (assumption c)
