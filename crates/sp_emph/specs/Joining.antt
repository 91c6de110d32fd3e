-- Runs that are joined one by one.
use Rattle.std.specs.Prelude.{List, ◌++◌}
use Rattle.std.specs.Option.{option_to_list}
use Rattle.spec_script.specs.declared.Run.{Run}
use Rattle.spec_script.specs.Emphasis.{joined}
use Rattle.sp_emph.specs.declared.joins.Joiner.{Joiner}

-- The runs that there are in the end, if these follow.
abbrev pub joined_with : Joiner → List Run → List Run
joined_with joiner more = joiner.done.items ++ joined (option_to_list joiner.last ++ more)
