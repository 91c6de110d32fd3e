use Rattle.std.proofs.Common.{◌≡◌, ℕ, [], ◌∷◌, ◌++◌, List, All, map, string_bytes, sym, ap, ◌∙◌, subst, append_assoc}
use Rattle.std.proofs.lemmas.List.{map_push}
use Rattle.std.proofs.lemmas.List.Elements.{All-push}
use Rattle.std.specs.Vec.Iter.{into_iter_items}
use Rattle.spec_text.specs.Lines.{line_text, IsClean}
use Rattle.sp_text.proofs.edit.clean_texts.Goals as goal

pub loop-text-preserved : goal.loop-text-preserved
loop-text-preserved c =
    let so_far = c.loop-text.invariant in
    let done : List (List ℕ) = map string_bytes c.loop-text.clean.items in
    let text : List ℕ = line_text (string_bytes c.in-Some.text) in
    let rest : List (List ℕ) = map line_text (map string_bytes (into_iter_items c.next.new.self)) in
    let clean = c.in_ok-clean_text.ensures in
    let pushed : map string_bytes c.push.new.self.items ≡ done ++ text ∷ [] =
    ap (map string_bytes) c.in_ok-push.ensures.items ∙ map_push string_bytes c.loop-text.clean.items c.in_ok-clean_text.field-0 ∙ ap (λ (t : List ℕ). done ++ t ∷ []) clean.text in (
      tt,
      tt,
      ap (λ (texts : List (List ℕ)). texts ++ rest) pushed ∙ append_assoc done (text ∷ []) rest ∙ ap (λ texts. done ++ map line_text (map string_bytes texts)) (sym c.in-Some.ensures.steps.0) ∙ so_far.2,
      subst (All IsClean) (sym pushed) (All-push IsClean done text so_far.3 (subst IsClean clean.text clean.clean)),
    )
