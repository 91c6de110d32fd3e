-- What is written of a script, by its view (docs/RULES.md, "The program").
use Rattle.std.specs.Prelude.{◌≡◌, ℕ, true, is_some, List, None}
use Rattle.spec_machine.specs.Outlines.{outline_of}
use Rattle.spec_state.specs.Printing.{printed_state}
use Rattle.spec_state.specs.State.{State}
use Rattle.spec_state.specs.StateSheets.{sheets_of_state}
use Rattle.spec_html.specs.HtmlSheets.{pages_html}
use Rattle.spec_cast.specs.Said.{said_of}
use Rattle.spec_cast.specs.Sides.{sides_of}
use Rattle.spec_packet.specs.StatePackets.{packet_bytes}
use Rattle.sp_run.specs.declared.form.View.{View}
use Rattle.sp_run.specs.declared.form.View.TheVariants as views

-- What is written of a script that opened as this state.
abbrev pub view_bytes : View → State → List ℕ
view_bytes views.Sheets state = printed_state state
view_bytes views.Outline state = outline_of state
view_bytes views.Html state = pages_html (sheets_of_state state)
view_bytes views.Cast state = sides_of (said_of state)
view_bytes views.Packet state = packet_bytes state

-- A state has this view: a packet where its pages are locked, and all others always. One that it has not.
abbrev pub HasView : View → State → Type 0
HasView views.Packet state = is_some state.pages ≡ true
HasView _ state = Unit {0}

abbrev pub LacksView : View → State → Type 0
LacksView views.Packet state = state.pages ≡ None
LacksView _ state = ⊥
