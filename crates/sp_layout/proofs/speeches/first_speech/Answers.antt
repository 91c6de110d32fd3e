use Rattle.std.proofs.Common.{take, drop, ◌∙◌}
use Rattle.spec_edit.specs.Windows.{stanza_lines_in}
use Rattle.spec_edit.proofs.StanzaBlocks.{any-blocks}
use Rattle.sp_layout.specs.Speeches.{blocks_behind}
use Rattle.sp_layout.proofs.SpokenAnew.{goes-none}
use Rattle.sp_layout.proofs.speeches.first_speech.Goals as goal

pub returns-in-None-clause-none : goal.returns-in-None-clause-none
returns-in-None-clause-none c texts last =
    let stanzas = c.args.stanzas.now.stanzas in
    goes-none texts last (blocks_behind stanzas c.args.from) (any-blocks (stanza_lines_in (take c.args.from stanzas)) (drop c.args.from stanzas) ∙ c.in-None.ensures.none)
