use Rattle.std.proofs.Common.{◌≡◌, drop, fold}
use Rattle.spec_pages.specs.Sentences.{ends_sentence, shown_chars}
use Rattle.sp_columns.specs.Sentences.{ends_after}
use Rattle.sp_columns.proofs.sentences.ends_sentence.Given as goal

-- What is left of the runs decides with what was shown so far.
abbrev pub invariant-loop-run : goal.invariant-loop-run
invariant-loop-run l = fold ends_after l.ends (shown_chars l.text (drop l.run-index l.runs)) ≡ ends_sentence (shown_chars l.text l.runs)
