use Rattle.std.proofs.Common.{◌≡◌, ℕ, ◌+◌, ◌<◌, List, ◌∷◌, ◌++◌, length, get_or, drop, sym, ap, subst, ◌∙◌, append_assoc, arith}
use Rattle.std.specs.List.{flat_map}
use Rattle.std.proofs.lemmas.List.{drop_more}
use Rattle.std.proofs.lemmas.Grind.{common_steps}
use Rattle.spec_script.specs.BlockValues.{BlockOf}
use Rattle.spec_pages.specs.Rows.{LineContext, line_rows, text_rows}
use Rattle.sp_columns.proofs.lines.block_rows.Goals as goal

-- The rows of one more line.
rows-more : {X A : Type 0} (f : X → List A) (lines items : List X) (i : ℕ) (line : X) (made more added all : List A) → i < length items → line ≡ get_or items i line → items ≡ lines → added ≡ f line → more ≡ made ++ added → made ++ flat_map f (drop i lines) ≡ all → more ++ flat_map f (drop (i + 1) lines) ≡ all
rows-more f lines items i line made more added all inside is same told put so_far =
    let here = subst (λ ls. drop i ls ≡ line ∷ drop (i + 1) ls) same (drop_more items i line inside ∙ ap (λ l. l ∷ drop (i + 1) items) (sym is)) in
    let rest = flat_map f (drop (i + 1) lines) in
    ap (λ l. l ++ rest) (put ∙ ap (λ l. made ++ l) told) ∙ append_assoc made (f line) rest ∙ sym (ap (λ ls. made ++ flat_map f ls) here) ∙ so_far

pub loop-line-preserved : goal.loop-line-preserved
loop-line-preserved c =
    let rows = line_rows c.args.lines.now.lines c.args.first c.args.shift c.args.side in
    let line = c.line-item.result in
    let same = c.deref-line-items.ensures.value ∙ ap (λ (b : BlockOf). b.lines) c.block.view_is in
    let told = ap (λ (x : LineContext). text_rows x line) c.line_context-context.ensures.context ∙ ap (λ (b : BlockOf). rows b.kind line) c.block.view_is in
    let added = c.in_ok-add_rows.ensures in record {
      items = rows-more (rows c.args.block.now.kind) _ _ _ line _ _ _ _ c.loop-line-test.true c.line-item.is same told added.items c.loop-line.invariant.items;
      few = omega (arith, added.few, c.loop-line.invariant.few);
    }

pub add_rows-requires-clause-fits : goal.add_rows-requires-clause-fits
add_rows-requires-clause-fits c = grind (arith, common_steps)

pub add_rows-requires-clause-parts : goal.add_rows-requires-clause-parts
add_rows-requires-clause-parts c = grind (arith, common_steps)

pub add_rows-requires-clause-short : goal.add_rows-requires-clause-short
add_rows-requires-clause-short c = grind (arith, common_steps)

pub line_context-context-requires-clause-lies : goal.line_context-context-requires-clause-lies
line_context-context-requires-clause-lies c = grind (arith, common_steps)

pub loop-line-init : goal.loop-line-init
loop-line-init c = grind (arith, common_steps)

pub returns-clause-rows : goal.returns-clause-rows
returns-clause-rows c = grind (arith, common_steps)

pub returns-clause-few : goal.returns-clause-few
returns-clause-few c = grind (arith, common_steps)
