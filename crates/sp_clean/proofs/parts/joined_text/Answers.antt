use Rattle.std.proofs.Common.{sym, subst}
use Rattle.std.specs.Str.{IsUtf8}
use Rattle.spec_script.proofs.SpanLaws.{IsUtf8-text_in}
use Rattle.sp_clean.proofs.parts.joined_text.Goals as goal

pub unreachable-requires : goal.unreachable-requires
unreachable-requires c =
    c.in-Err.ensures.cases.0
    (subst IsUtf8 (sym c.copy_parts-used.ensures.copied) (IsUtf8-text_in c.args.text.now c.args.kept.now 0 c.utf8.text c.requires.kept))
