use Rattle.sp_text.specs.Gap.{text_of}
use Rattle.sp_state.proofs.RefilledLaws.{speakers-pages}
use Rattle.sp_state.proofs.TitleLaws.{speakers-titles}
use Rattle.sp_state.proofs.editing.made_with_speakers.Goals as goal

pub remade-requires-clause-pages : goal.remade-requires-clause-pages
remade-requires-clause-pages c =
    speakers-pages (text_of c.args.text.now.lines) c.args.records.now _ c.args.on c.args.pages.now.starts c.set_speakers-before.ensures.records c.requires.whole c.requires.pages

pub remade-requires-clause-titles : goal.remade-requires-clause-titles
remade-requires-clause-titles c =
    speakers-titles (text_of c.args.text.now.lines) c.args.records.now _ c.args.on c.args.titles.now c.set_speakers-before.ensures.records c.requires.titles

pub returns-in-Ok-clause-pages : goal.returns-in-Ok-clause-pages
returns-in-Ok-clause-pages c =
    speakers-pages (text_of c.args.text.now.lines) c.args.records.now _ c.args.on c.args.pages.now.starts c.set_speakers-before.ensures.records c.requires.whole c.requires.pages
