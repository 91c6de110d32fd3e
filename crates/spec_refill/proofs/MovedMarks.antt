-- The marks of elements that an edit leaves.
use Rattle.std.proofs.Common.{◌≡◌, false, None, List, [], ◌∷◌, ◌++◌, map, refl, sym, ap, ap₂, subst, ◌∙◌}
use Rattle.std.specs.Prelude.{All}
use Rattle.std.proofs.lemmas.List.{map-append}
use Rattle.std.proofs.lemmas.List.Elements.{All-nil, All-head, All-tail, All-append}
use Rattle.spec_text.specs.Lines.{LineState}
use Rattle.spec_text.specs.Ranges.{IsOutside, place_after}
use Rattle.spec_script.specs.LongestRuns.{Group}
use Rattle.spec_script.specs.Stanzas.{PlacedBlock}
use Rattle.spec_edit.specs.WindowBlocks.{WindowBlocks}
use Rattle.spec_edit.specs.Touched.{EditBlocks}
use Rattle.spec_edit.specs.TextItems.{Script, element_items}
use Rattle.spec_edit.proofs.ItemMoves.{LinesMoved}
use Rattle.spec_edit.proofs.ElementMoves.{element_after, items-moved, items-left}
use Rattle.spec_edit.proofs.FairElements.{ElementSound, AllIn}
use Rattle.spec_edit.proofs.AsideBlocks.{IsAside, left-element}
use Rattle.spec_edit.proofs.WindowPartners.{Around}
use Rattle.spec_refill.proofs.Marks.{Mark, mark_after}
use Rattle.spec_refill.proofs.MarkStarts.{IsLeft}
use Rattle.spec_refill.proofs.ElementMarks.{element_marks, marks_of, mark_of, items-marks, after-marks, marks-left}

-- A text where nobody goes on, without labels.
abbrev pub silent_script : List LineState → Script
silent_script lines = record { lines = lines; continued = λ line. false; label = λ line. None }

module _ (edit : EditBlocks) (w : WindowBlocks) (it : Around edit w) (lines later : List LineState) (moved : LinesMoved (IsOutside edit.range) (place_after edit.range) lines later) where
  one-moved : (element : Group PlacedBlock) → ElementSound element → AllIn (IsAside edit) element
      → element_marks later (element_after edit.range element) ≡ map (mark_after edit.range) (element_marks lines element)
  one-moved element sound aside =
      let left = left-element edit w it element sound aside in
      sym (items-marks (silent_script later) (element_after edit.range element))
      ∙ ap (map mark_of) (items-moved edit.range (silent_script lines) (silent_script later) moved element left (λ k d h. refl) refl)
      ∙ after-marks edit.range (element_items (silent_script lines) element)
      ∙ ap (map (mark_after edit.range)) (items-marks (silent_script lines) element)

  one-left : (element : Group PlacedBlock) → ElementSound element → AllIn (IsAside edit) element → All (IsLeft edit.range) (element_marks lines element)
  one-left element sound aside =
      subst (All (IsLeft edit.range)) (items-marks (silent_script lines) element)
      (marks-left edit.range (element_items (silent_script lines) element)
      (items-left edit.range (silent_script lines) (silent_script later) moved element (left-element edit w it element sound aside)))

  -- They are moved at most.
  pub all-moved : (elements : List (Group PlacedBlock)) → All ElementSound elements → All (AllIn (IsAside edit)) elements
      → marks_of later (map (element_after edit.range) elements) ≡ map (mark_after edit.range) (marks_of lines elements)
  all-moved [] sound aside = refl
  all-moved (element ∷ elements) sound aside =
      ap₂ (λ (a b : List Mark). a ++ b) (one-moved element (All-head ElementSound element elements sound) (All-head (AllIn (IsAside edit)) element elements aside))
      (all-moved elements (All-tail ElementSound element elements sound) (All-tail (AllIn (IsAside edit)) element elements aside))
      ∙ sym (map-append (mark_after edit.range) (element_marks lines element) (marks_of lines elements))

  pub all-left : (elements : List (Group PlacedBlock)) → All ElementSound elements → All (AllIn (IsAside edit)) elements → All (IsLeft edit.range) (marks_of lines elements)
  all-left [] sound aside = All-nil (IsLeft edit.range)
  all-left (element ∷ elements) sound aside =
      All-append (IsLeft edit.range) (element_marks lines element) (marks_of lines elements)
      (one-left element (All-head ElementSound element elements sound) (All-head (AllIn (IsAside edit)) element elements aside))
      (all-left elements (All-tail ElementSound element elements sound) (All-tail (AllIn (IsAside edit)) element elements aside))
