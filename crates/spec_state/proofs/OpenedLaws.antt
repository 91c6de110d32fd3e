-- The state of a text without records keeps all rules.
use Rattle.std.proofs.Common.{ℕ, ◌+◌, ◌≤◌, List, [], ◌∷◌, arith}
use Rattle.std.specs.Prelude.{All}
use Rattle.std.proofs.lemmas.List.Elements.{All-nil, All-cons}
use Rattle.spec_text.specs.Lines.{LineState, IsText, lines_from}
use Rattle.spec_state.specs.State.{opened_state, text_of}
use Rattle.spec_state.specs.KeptStates.{IsKept}
use Rattle.spec_state.specs.Keeping.{IsWhole}
use Rattle.spec_state.proofs.RulesLaws.{parts-whole}

read-marks : (id : ℕ) (texts : List (List ℕ)) → All (λ (line : LineState). line.mark ≤ 0) (lines_from id texts)
read-marks id [] = All-nil (λ (line : LineState). line.mark ≤ 0)
read-marks id (text ∷ texts) = All-cons (λ (line : LineState). line.mark ≤ 0) _ (lines_from (id + 1) texts) (omega arith) (read-marks (id + 1) texts)

pub opening-whole : (texts : List (List ℕ)) → IsText (text_of (opened_state texts)) → IsWhole (opened_state texts)
opening-whole texts text =
    let kept : IsKept (opened_state texts) = record {
      text = text;
      round = omega arith;
      marks = read-marks 0 texts;
      scenes = tt;
      scened = λ h. absurd (let bad : ⊥ = cc in bad);
      pages = tt;
    } in
    parts-whole (opened_state texts) (record { kept = kept; pages = tt })
