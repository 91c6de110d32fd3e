-- The marks of both texts of an edit: those before the relaid elements, their own, and those behind them.
use Rattle.std.proofs.Common.{◌≡◌, ℕ, true, false, ◌||◌, cond, List, [], ◌∷◌, ◌++◌, map, take, drop, inl, inr, refl, sym, ap, ap₂, subst, ◌∙◌, take-append-drop}
use Rattle.std.specs.Prelude.{All}
use Rattle.std.specs.List.{prefix_len, take_while}
use Rattle.std.proofs.lemmas.Bool.{cases_Bool, and_parts}
use Rattle.std.proofs.lemmas.List.{map-append}
use Rattle.std.proofs.lemmas.List.Elements.{All-append}
use Rattle.spec_text.specs.Lines.{LineState}
use Rattle.spec_text.specs.Ranges.{IsOutside, place_after}
use Rattle.spec_text.proofs.ListLaws.{All-front, All-back}
use Rattle.spec_script.specs.LongestRuns.{Group}
use Rattle.spec_script.specs.Stanzas.{PlacedBlock}
use Rattle.spec_script.specs.Elements.{is_dual, elements_in}
use Rattle.spec_script.proofs.RunSteps.{longest_runs-map}
use Rattle.spec_edit.specs.WindowBlocks.{pushed, WindowBlocks, old_blocks, new_blocks, is_nil, joins, only_last, front_half, rest_half, front_kept, rest_kept, old_relaid, new_relaid}
use Rattle.spec_edit.proofs.WindowElements.{pushed_group, elements-pushed}
use Rattle.spec_edit.proofs.RelaidElements.{IsSome, relaid-old, relaid-new}
use Rattle.spec_edit.specs.Touched.{EditBlocks}
use Rattle.spec_edit.proofs.ItemMoves.{LinesMoved}
use Rattle.spec_edit.proofs.ElementMoves.{block_after, element_after}
use Rattle.spec_edit.proofs.FairElements.{ElementSound, AllIn, elements-all}
use Rattle.spec_edit.proofs.AsideBlocks.{IsAside, front-aside, pushed-aside, kept-aside, fronts-same, rests-same, rests-moved, fronts-moved, front-before, kept-before}
use Rattle.spec_edit.proofs.WindowPartners.{Around}
use Rattle.spec_refill.specs.Exchanges.{count_rows, begins_before, relays_none, elements_before}
use Rattle.spec_refill.proofs.Marks.{Mark, rows}
use Rattle.spec_refill.proofs.MarkStarts.{AreRising}
use Rattle.spec_refill.proofs.MarkStops.{Sides}
use Rattle.spec_refill.proofs.ElementMarks.{marks_of, count-marks, marks-append}
use Rattle.spec_refill.proofs.MovedMarks.{all-moved, all-left}

-- Marks of both texts, where so many rows stand before the relaid elements, and these have so many.
pub record EditSides (edit : EditBlocks) (first old new : ℕ) (olds news : List Mark) : Type 0 where
  pub front : List Mark
  pub gone : List Mark
  pub come : List Mark
  pub back : List Mark
  pub sides : Sides edit.range front gone come back olds news
  pub first_is : first ≡ rows front
  pub old_is : old ≡ rows gone
  pub new_is : new ≡ rows come

nil-is : (blocks : List PlacedBlock) → is_nil blocks ≡ true → blocks ≡ []
nil-is [] h = refl
nil-is (block ∷ blocks) h = absurd (let bad : ⊥ = cc (h) in bad)

module _ (edit : EditBlocks) (w : WindowBlocks) (it : Around edit w) (lines later : List LineState) (moved : LinesMoved (IsOutside edit.range) (place_after edit.range) lines later)
    (sound : All ElementSound (elements_in (old_blocks w)))
    (old_rise : AreRising (marks_of lines (elements_in (old_blocks w)))) (new_rise : AreRising (marks_of later (elements_in (new_blocks w)))) where
  abbrev move : List (Group PlacedBlock) → List (Group PlacedBlock)
  move elements = map (element_after edit.range) elements

  abbrev Found : ℕ → ℕ → ℕ → Type 0
  Found first old new = EditSides edit first old new (marks_of lines (elements_in (old_blocks w))) (marks_of later (elements_in (new_blocks w)))

  -- Where a block stands in a window.
  some : IsSome w → Found (count_rows lines (elements_in (front_kept w))) (count_rows lines (elements_in (old_relaid w))) (count_rows later (elements_in (new_relaid w)))
  some is =
      let front = elements_in (front_kept w) in
      let gone = elements_in (old_relaid w) in
      let come = elements_in (new_relaid w) in
      let back = map (pushed_group w.old_end) (elements_in (rest_kept w)) in
      let old_are = relaid-old w is in
      let new_are : elements_in (new_blocks w) ≡ move front ++ (come ++ move back) =
      relaid-new w is
      ∙ ap₂ (λ (a b : List (Group PlacedBlock)). a ++ (come ++ b)) (sym (fronts-moved edit w it (front_kept w) (kept-before edit w it))) (sym (rests-moved edit w it (elements_in (rest_kept w)))) in
      let all = subst (All ElementSound) old_are sound in
      let front_sound = All-front ElementSound front (gone ++ back) all in
      let back_sound = All-back ElementSound gone back (All-back ElementSound front (gone ++ back) all) in
      let front_aside = elements-all (IsAside edit) (front_kept w) (kept-aside edit w it) in
      let back_aside = subst (All (AllIn (IsAside edit))) (elements-pushed w.old_end (rest_kept w)) (elements-all (IsAside edit) (map (pushed w.old_end) (rest_kept w)) (pushed-aside edit w it (rest_kept w))) in
      record {
        front = marks_of lines front;
        gone = marks_of lines gone;
        come = marks_of later come;
        back = marks_of lines back;
        sides = record {
          old_are = ap (marks_of lines) old_are ∙ marks-append lines front (gone ++ back) ∙ ap (λ (l : List Mark). marks_of lines front ++ l) (marks-append lines gone back);
          new_are =
              ap (marks_of later) new_are ∙ marks-append later (move front) (come ++ move back)
              ∙ ap₂ (λ (a b : List Mark). a ++ b) (all-moved edit w it lines later moved front front_sound front_aside)
              (marks-append later come (move back) ∙ ap (λ (l : List Mark). marks_of later come ++ l) (all-moved edit w it lines later moved back back_sound back_aside));
          front_left = all-left edit w it lines later moved front front_sound front_aside;
          back_left = all-left edit w it lines later moved back back_sound back_aside;
          old_rise = old_rise;
          new_rise = new_rise;
        };
        first_is = sym (count-marks lines front);
        old_is = sym (count-marks lines gone);
        new_is = sym (count-marks later come);
      }

  -- Where none does, all elements stay.
  none : w.gone ≡ [] → w.come ≡ [] → (line : ℕ) → Found (count_rows lines (take_while (begins_before line) (elements_in (old_blocks w)))) 0 0
  none no_gone no_come line =
      let es = elements_in (old_blocks w) in
      let k = prefix_len (begins_before line) es in
      let front = take k es in
      let back = drop k es in
      let both : front ++ back ≡ es = take-append-drop k es in
      let blocks : new_blocks w ≡ map (block_after edit.range) (old_blocks w) =
      ap (λ (l : List PlacedBlock). w.front ++ (l ++ map (pushed w.new_end) w.rest)) no_come
      ∙ ap₂ (λ (a b : List PlacedBlock). a ++ b) (sym (fronts-same edit w it w.front (front-before edit w it))) (sym (rests-same edit w it w.rest))
      ∙ sym (map-append (block_after edit.range) w.front (map (pushed w.old_end) w.rest))
      ∙ ap (λ (l : List PlacedBlock). map (block_after edit.range) (w.front ++ (l ++ map (pushed w.old_end) w.rest))) (sym no_gone) in
      let moved_all : elements_in (new_blocks w) ≡ move es = ap elements_in blocks ∙ sym (longest_runs-map (block_after edit.range) is_dual (old_blocks w)) in
      let aside : All (IsAside edit) (old_blocks w) =
      All-append (IsAside edit) w.front (w.gone ++ map (pushed w.old_end) w.rest) (front-aside edit w it)
      (subst (λ (l : List PlacedBlock). All (IsAside edit) (l ++ map (pushed w.old_end) w.rest)) (sym no_gone) (pushed-aside edit w it w.rest)) in
      let each_aside = subst (All (AllIn (IsAside edit))) (sym both) (elements-all (IsAside edit) (old_blocks w) aside) in
      let each_sound = subst (All ElementSound) (sym both) sound in
      let front_sound = All-front ElementSound front back each_sound in
      let back_sound = All-back ElementSound front back each_sound in
      let front_aside = All-front (AllIn (IsAside edit)) front back each_aside in
      let back_aside = All-back (AllIn (IsAside edit)) front back each_aside in
      record {
        front = marks_of lines front;
        gone = [];
        come = [];
        back = marks_of lines back;
        sides = record {
          old_are = ap (marks_of lines) (sym both) ∙ marks-append lines front back;
          new_are =
              ap (marks_of later) (moved_all ∙ ap move (sym both) ∙ map-append (element_after edit.range) front back) ∙ marks-append later (move front) (move back)
              ∙ ap₂ (λ (a b : List Mark). a ++ b) (all-moved edit w it lines later moved front front_sound front_aside) (all-moved edit w it lines later moved back back_sound back_aside);
          front_left = all-left edit w it lines later moved front front_sound front_aside;
          back_left = all-left edit w it lines later moved back back_sound back_aside;
          old_rise = old_rise;
          new_rise = new_rise;
        };
        first_is = sym (count-marks lines front);
        old_is = refl;
        new_is = refl;
      }

  -- Then no block next to the window is relaid.
  relaid-none : relays_none w ≡ true → (old_relaid w ≡ []) × (new_relaid w ≡ [])
  relaid-none is =
      let both = and_parts (is_nil w.gone) (is_nil w.come) is in
      let front : front_half w ≡ [] = ap (λ b. cond (cond b false (joins w.front (w.gone ++ w.rest) || joins w.front (w.come ++ w.rest))) (only_last w.front) []) is in
      let rest : rest_half w ≡ [] = ap (λ b. cond (cond b false (joins (w.front ++ w.gone) w.rest || joins (w.front ++ w.come) w.rest)) (take 1 w.rest) []) is in (
        ap₂ (λ (a b : List PlacedBlock). a ++ b) front (ap₂ (λ (a b : List PlacedBlock). a ++ map (pushed w.old_end) b) (nil-is w.gone both.0) rest),
        ap₂ (λ (a b : List PlacedBlock). a ++ b) front (ap₂ (λ (a b : List PlacedBlock). a ++ map (pushed w.new_end) b) (nil-is w.come both.1) rest),
      )

  pub edit-sides : (line : ℕ) → Found (count_rows lines (elements_before line w)) (count_rows lines (elements_in (old_relaid w))) (count_rows later (elements_in (new_relaid w)))
  edit-sides line = elim (cases_Bool (relays_none w)) [
    | inl is ↦
        let both = and_parts (is_nil w.gone) (is_nil w.come) is in
        let relaid = relaid-none is in
        let before : elements_before line w ≡ take_while (begins_before line) (elements_in (old_blocks w)) = ap (λ b. cond b (take_while (begins_before line) (elements_in (old_blocks w))) (elements_in (front_kept w))) is in
        subst (λ n. Found n (count_rows lines (elements_in (old_relaid w))) (count_rows later (elements_in (new_relaid w)))) (sym (ap (count_rows lines) before))
        (subst (λ (l : List PlacedBlock). Found (count_rows lines (take_while (begins_before line) (elements_in (old_blocks w)))) (count_rows lines (elements_in l)) (count_rows later (elements_in (new_relaid w)))) (sym relaid.0)
        (subst (λ (l : List PlacedBlock). Found (count_rows lines (take_while (begins_before line) (elements_in (old_blocks w)))) 0 (count_rows later (elements_in l))) (sym relaid.1)
        (none (nil-is w.gone both.0) (nil-is w.come both.1) line)))
    | inr is ↦
        let before : elements_before line w ≡ elements_in (front_kept w) = ap (λ b. cond b (take_while (begins_before line) (elements_in (old_blocks w))) (elements_in (front_kept w))) is in
        subst (λ n. Found n (count_rows lines (elements_in (old_relaid w))) (count_rows later (elements_in (new_relaid w)))) (sym (ap (count_rows lines) before)) (some is)
  ]
