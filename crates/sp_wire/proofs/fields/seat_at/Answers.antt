use Rattle.std.proofs.Common.{rules}
use Rattle.sp_wire.proofs.fields.seat_at.Goals as goal

pub returns-in_ok-bad_field-in_default : goal.returns-in_ok-bad_field-in_default
returns-in_ok-bad_field-in_default c = search rules
