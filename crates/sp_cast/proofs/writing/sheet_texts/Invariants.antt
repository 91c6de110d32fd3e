use Rattle.std.proofs.Common.{◌≡◌, map, take}
use Rattle.std.specs.Prelude.{string_bytes}
use Rattle.spec_labels.specs.Labels.{label_text}
use Rattle.spec_cast.specs.Sides.{sheets_in}
use Rattle.sp_cast.specs.Keys.{label_of}
use Rattle.sp_cast.proofs.writing.sheet_texts.Given as goal

-- The set has the labels so far, each once, and the texts are theirs.
abbrev pub invariant-loop-spoken : goal.invariant-loop-spoken
invariant-loop-spoken l = record {
  labels : map label_of l.sheets.keys ≡ sheets_in (take l.spoken-index l.group);
  texts : map string_bytes l.texts.items ≡ map label_text (sheets_in (take l.spoken-index l.group));
}
