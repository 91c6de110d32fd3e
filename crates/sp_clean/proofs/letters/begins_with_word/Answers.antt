use Rattle.std.proofs.Common.{take, length}
use Rattle.std.specs.Char.{eq_ignore_ascii_case}
use Rattle.std.specs.List.{starts_with}
use Rattle.std.proofs.lemmas.Bool.Decides.{same_from_decides}
use Rattle.sp_clean.proofs.FormLaws.{same_case, same_lowercase}
use Rattle.sp_clean.proofs.letters.begins_with_word.Goals as goal

pub returns-then-text-word : goal.returns-then-text-word
returns-then-text-word c =
    let word = c.args.word.now in
    let front = take (length word) c.args.text.now in
    same_from_decides _ (starts_with eq_ignore_ascii_case c.args.text.now word) c.eq_ignore_ascii_case.ensures.test (same_case word front, same_lowercase word front)
