-- The written form of a path, step by step.
use Rattle.std.proofs.Common.{◌≡◌, ℕ, ◌+◌, ◌<◌, List, ◌++◌, length, take, drop, get_or, ap, sym, ◌∙◌}
use Rattle.std.specs.Prelude.{flat_map}
use Rattle.std.proofs.lemmas.Grind.{flat_map-append}
use Rattle.std.proofs.lemmas.List.{take-append-drop, drop_more}
use Rattle.spec_labels.specs.Labels.{step_text}

-- The steps before a place, the step there, and the steps behind it.
pub steps-split : (path : List ℕ) (i d : ℕ) → i < length path
    → flat_map step_text (take i path) ++ (step_text (get_or path i d) ++ flat_map step_text (drop (i + 1) path)) ≡ flat_map step_text path
steps-split path i d less =
    ap (λ rest. flat_map step_text (take i path) ++ flat_map step_text rest) (sym (drop_more path i d less))
    ∙ sym (flat_map-append step_text (take i path) (drop i path)) ∙ ap (flat_map step_text) (take-append-drop i path)
