use Rattle.std.proofs.Common.{ℕ, List, [], ◌∷◌, ◌++◌, All, map, string_bytes, sym, ap, ◌∙◌, subst}
use Rattle.std.proofs.lemmas.List.Elements.{All-cons, All-nil}
use Rattle.spec_text.specs.Lines.{IsClean, line_text}
use Rattle.spec_text.specs.Edits.{spliced}
use Rattle.sp_text.proofs.Splices.{IsClean-spliced}
use Rattle.sp_text.proofs.edit.spliced_texts.Goals as goal

pub returns-clause-texts : goal.returns-clause-texts
returns-clause-texts c =
    let whole = c.in_ok-whole.ensures ∙ ap (spliced c.args.line.now c.args.from c.args.to) (c.as_str.ensures.value ∙ c.in_ok-text.ensures.text) in
    ap (map string_bytes) (c.push_reserved.ensures.items ∙ ap (λ xs. xs ++ c.in_ok-whole.whole ∷ []) c.in_ok-texts.ensures.items) ∙ ap (λ (t : List ℕ). t ∷ []) whole

pub returns-clause-clean : goal.returns-clause-clean
returns-clause-clean c =
    let a = c.args in
    let text = line_text (string_bytes a.text) in
    let clean = subst IsClean c.in_ok-text.ensures.text c.in_ok-text.ensures.clean in
    let made = IsClean-spliced a.line.now a.from a.to text c.requires.clean clean c.requires.order c.requires.within c.requires.from c.requires.to in
    subst (All IsClean) (sym (returns-clause-texts c)) (All-cons IsClean (spliced a.line.now a.from a.to text) [] made (All-nil IsClean))
