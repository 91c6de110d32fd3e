-- The elements of both texts of an edit: those that stay, those that go, and those that come.
use Rattle.std.proofs.Common.{◌≡◌, ℕ, Bool, true, false, ◌&&◌, Option, List, [], ◌∷◌, ◌++◌, map, inl, inr, refl, sym, ap, ap₂, subst, ◌∙◌}
use Rattle.std.specs.Prelude.{All}
use Rattle.std.specs.List.{list_any}
use Rattle.std.proofs.lemmas.Bool.{cases_Bool, and_parts, or_parts}
use Rattle.std.proofs.lemmas.List.{append-nil, map-append}
use Rattle.std.proofs.lemmas.List.Elements.{All-nil, All-cons, All-head, All-tail, All-append}
use Rattle.spec_text.specs.Lines.{LineState}
use Rattle.spec_script.specs.LongestRuns.{Group, members}
use Rattle.spec_script.specs.Stanzas.{PlacedBlock}
use Rattle.spec_script.specs.Elements.{line_of_block, is_dual, elements_in}
use Rattle.spec_labels.specs.Labels.{LabelOf}
use Rattle.spec_edit.specs.WindowBlocks.{pushed, WindowBlocks, old_blocks, new_blocks, is_nil, front_kept, rest_kept, old_relaid, new_relaid}
use Rattle.spec_edit.proofs.WindowElements.{pushed_group, elements-pushed}
use Rattle.spec_edit.proofs.RelaidElements.{IsSome, relaid-old, relaid-new}
use Rattle.spec_text.specs.Ranges.{RangeOf, IsOutside, place_after}
use Rattle.spec_edit.specs.Touched.{is_continued, differs, EditBlocks, changes_partner, changes_speaker, is_touched_old, is_touched_new}
use Rattle.spec_text.proofs.ListLaws.{All-front, All-back}
use Rattle.spec_edit.proofs.Steps.{TextOf, touches}
use Rattle.spec_script.proofs.RunSteps.{longest_runs-map}
use Rattle.spec_edit.proofs.ElementLaw.{Fair, Remains, Lost, Elements}
use Rattle.spec_edit.specs.TextItems.{Script}
use Rattle.spec_edit.proofs.ItemMoves.{LinesMoved}
use Rattle.spec_edit.proofs.ElementMoves.{block_after, element_after, BlockLeft, line-after, SpeaksSame, items-moved, items-left}
use Rattle.spec_edit.proofs.FairElements.{text_with, IsKnown, AllIn, elements-all}
use Rattle.spec_edit.proofs.TouchedRuns.{HasTouched}
use Rattle.spec_edit.proofs.WindowPartners.{Around}
use Rattle.spec_edit.proofs.KeptPartners.{nil-is}
use Rattle.spec_edit.proofs.RelaidTouched.{relaid-touched-old, relaid-touched-new}
use Rattle.spec_edit.proofs.AsideBlocks.{IsAside, left-element, old-touch, touch-same, all-left, front-aside, pushed-aside, kept-aside, fronts-same, rests-same, rests-moved, fronts-moved, front-before, kept-before}

-- The elements of both texts as the edit law asks for them.
pub record Parted (range : RangeOf) (old new : TextOf (Group PlacedBlock)) (olds news : List (Group PlacedBlock)) : Type 0 where
  pub front : List (Group PlacedBlock)
  pub gone : List (Group PlacedBlock)
  pub come : List (Group PlacedBlock)
  pub back : List (Group PlacedBlock)
  pub old_are : olds ≡ front ++ (gone ++ back)
  pub new_are : news ≡ map (element_after range) front ++ (come ++ map (element_after range) back)
  pub elements : Elements range old new (element_after range) (element_after range) front gone come back

same-flags : (one other : Bool) → differs one other ≡ false → other ≡ one
same-flags true true h = refl
same-flags true false h = absurd (let bad : ⊥ = cc (h) in bad)
same-flags false true h = absurd (let bad : ⊥ = cc (h) in bad)
same-flags false false h = refl

module _ (edit : EditBlocks) (w : WindowBlocks) (it : Around edit w) where
  -- Both texts: lines that are moved, speeches as the edit has them, and labels that are kept.
  module _ (lines later : List LineState) (label after_label : ℕ → Option LabelOf)
      (moved : LinesMoved (IsOutside edit.range) (place_after edit.range) lines later)
      (labels : (placed : PlacedBlock) → BlockLeft edit.range placed → after_label (line_of_block (block_after edit.range placed)) ≡ label (line_of_block placed)) where
    abbrev old_script : Script
    old_script = record { lines = lines; continued = is_continued edit.old; label = label }

    abbrev new_script : Script
    new_script = record { lines = later; continued = is_continued edit.new; label = after_label }

    abbrev old_text : TextOf (Group PlacedBlock)
    old_text = text_with old_script (touches (is_touched_old edit))

    abbrev new_text : TextOf (Group PlacedBlock)
    new_text = text_with new_script (touches (is_touched_new edit))

    speaks : (those : List PlacedBlock) → All (BlockLeft edit.range) those → All (IsAside edit) those → list_any (is_touched_old edit) those ≡ false
        → All (SpeaksSame edit.range old_script new_script moved) those
    speaks [] left all untouched = All-nil (SpeaksSame edit.range old_script new_script moved)
    speaks (placed ∷ those) left all untouched =
        let here = All-head (BlockLeft edit.range) placed those left in
        let aside = All-head (IsAside edit) placed those all in
        let parts = or_parts (is_touched_old edit placed) (list_any (is_touched_old edit) those) untouched in
        let same = (or_parts (changes_partner edit (line_of_block placed)) (changes_speaker edit (line_of_block placed)) (sym (old-touch edit w it placed aside) ∙ parts.0)).1 in
        All-cons (SpeaksSame edit.range old_script new_script moved) placed those
        (ap (is_continued edit.new) (line-after edit.range placed here)
        ∙ same-flags (is_continued edit.old (line_of_block placed)) (is_continued edit.new (place_after edit.range (line_of_block placed))) same)
        (speaks those (All-tail (BlockLeft edit.range) placed those left) (All-tail (IsAside edit) placed those all) parts.1)

    remains : (element : Group PlacedBlock) → IsKnown old_script (touches (is_touched_old edit)) element → Fair new_text (element_after edit.range element) → AllIn (IsAside edit) element
        → Remains edit.range old_text new_text (element_after edit.range) element
    remains element known fair aside =
        let left = left-element edit w it element known.sound aside in
        let each = all-left edit w it element left in
        let same = touch-same edit w it (members element) each aside in
        record {
          before = known.fair;
          after = fair;
          touched = λ h. same ∙ h;
          left = λ h. items-left edit.range old_script new_script moved element left;
          moved = λ h. items-moved edit.range old_script new_script moved element left (speaks (members element) each aside h) (labels element.first left.first);
        }

    remains-all : (elements : List (Group PlacedBlock)) → All (IsKnown old_script (touches (is_touched_old edit))) elements → All (Fair new_text) (map (element_after edit.range) elements) → All (AllIn (IsAside edit)) elements
        → All (Remains edit.range old_text new_text (element_after edit.range)) elements
    remains-all [] known fair aside = All-nil (Remains edit.range old_text new_text (element_after edit.range))
    remains-all (element ∷ elements) known fair aside =
        All-cons (Remains edit.range old_text new_text (element_after edit.range)) element elements
        (remains element (All-head (IsKnown old_script (touches (is_touched_old edit))) element elements known) (All-head (Fair new_text) (element_after edit.range element) (map (element_after edit.range) elements) fair)
        (All-head (AllIn (IsAside edit)) element elements aside))
        (remains-all elements (All-tail (IsKnown old_script (touches (is_touched_old edit))) element elements known) (All-tail (Fair new_text) (element_after edit.range element) (map (element_after edit.range) elements) fair)
        (All-tail (AllIn (IsAside edit)) element elements aside))

    abbrev KnownOld : List (Group PlacedBlock) → Type 0
    KnownOld elements = All (IsKnown old_script (touches (is_touched_old edit))) elements

    abbrev KnownNew : List (Group PlacedBlock) → Type 0
    KnownNew elements = All (IsKnown new_script (touches (is_touched_new edit))) elements

    fairs-new : (elements : List (Group PlacedBlock)) → KnownNew elements → All (Fair new_text) elements
    fairs-new elements known k d h = (known k d h).fair

    lost-old : (elements : List (Group PlacedBlock)) → KnownOld elements → All (HasTouched (is_touched_old edit)) elements → All (Lost old_text) elements
    lost-old elements known touched k d h = record { fair = (known k d h).fair; touched = touched k d h }

    lost-new : (elements : List (Group PlacedBlock)) → KnownNew elements → All (HasTouched (is_touched_new edit)) elements → All (Lost new_text) elements
    lost-new elements known touched k d h = record { fair = (known k d h).fair; touched = touched k d h }

    -- Where a block stands in a window.
    parted-some : IsSome w → KnownOld (elements_in (old_blocks w)) → KnownNew (elements_in (new_blocks w))
        → Parted edit.range old_text new_text (elements_in (old_blocks w)) (elements_in (new_blocks w))
    parted-some some olds news =
        let P = IsKnown old_script (touches (is_touched_old edit)) in
        let Q = IsKnown new_script (touches (is_touched_new edit)) in
        let move = element_after edit.range in
        let front = elements_in (front_kept w) in
        let gone = elements_in (old_relaid w) in
        let come = elements_in (new_relaid w) in
        let back = map (pushed_group w.old_end) (elements_in (rest_kept w)) in
        let old_are : elements_in (old_blocks w) ≡ front ++ (gone ++ back) = relaid-old w some in
        let new_are : elements_in (new_blocks w) ≡ map move front ++ (come ++ map move back) =
        relaid-new w some
        ∙ ap₂ (λ (a b : List (Group PlacedBlock)). a ++ (come ++ b)) (sym (fronts-moved edit w it (front_kept w) (kept-before edit w it))) (sym (rests-moved edit w it (elements_in (rest_kept w)))) in
        let olds_parted = subst (All P) old_are olds in
        let news_parted = subst (All Q) new_are news in
        let olds_behind = All-back P front (gone ++ back) olds_parted in
        let news_behind = All-back Q (map move front) (come ++ map move back) news_parted in
        record {
          front = front;
          gone = gone;
          come = come;
          back = back;
          old_are = old_are;
          new_are = new_are;
          elements = record {
            front_stays = remains-all front (All-front P front (gone ++ back) olds_parted) (fairs-new (map move front) (All-front Q (map move front) (come ++ map move back) news_parted))
                (elements-all (IsAside edit) (front_kept w) (kept-aside edit w it));
            back_stays = remains-all back (All-back P gone back olds_behind) (fairs-new (map move back) (All-back Q come (map move back) news_behind))
                (subst (All (AllIn (IsAside edit))) (elements-pushed w.old_end (rest_kept w)) (elements-all (IsAside edit) (map (pushed w.old_end) (rest_kept w)) (pushed-aside edit w it (rest_kept w))));
            gone_goes = lost-old gone (All-front P gone back olds_behind) (relaid-touched-old edit w it some);
            come_comes = lost-new come (All-front Q come (map move back) news_behind) (relaid-touched-new edit w it some);
          };
        }

    -- Where none does, all elements stay.
    parted-none : w.gone ≡ [] → w.come ≡ [] → KnownOld (elements_in (old_blocks w)) → KnownNew (elements_in (new_blocks w))
        → Parted edit.range old_text new_text (elements_in (old_blocks w)) (elements_in (new_blocks w))
    parted-none no_gone no_come olds news =
        let move = element_after edit.range in
        let front = elements_in (old_blocks w) in
        let blocks : new_blocks w ≡ map (block_after edit.range) (old_blocks w) =
        ap (λ (l : List PlacedBlock). w.front ++ (l ++ map (pushed w.new_end) w.rest)) no_come
        ∙ ap₂ (λ (a b : List PlacedBlock). a ++ b) (sym (fronts-same edit w it w.front (front-before edit w it))) (sym (rests-same edit w it w.rest))
        ∙ sym (map-append (block_after edit.range) w.front (map (pushed w.old_end) w.rest))
        ∙ ap (λ (l : List PlacedBlock). map (block_after edit.range) (w.front ++ (l ++ map (pushed w.old_end) w.rest))) (sym no_gone) in
        let moved_all : elements_in (new_blocks w) ≡ map move front = ap elements_in blocks ∙ sym (longest_runs-map (block_after edit.range) is_dual (old_blocks w)) in
        let aside : All (IsAside edit) (old_blocks w) =
        All-append (IsAside edit) w.front (w.gone ++ map (pushed w.old_end) w.rest) (front-aside edit w it)
        (subst (λ (l : List PlacedBlock). All (IsAside edit) (l ++ map (pushed w.old_end) w.rest)) (sym no_gone) (pushed-aside edit w it w.rest)) in
        record {
          front = front;
          gone = [];
          come = [];
          back = [];
          old_are = sym (append-nil front);
          new_are = moved_all ∙ sym (append-nil (map move front));
          elements = record {
            front_stays = remains-all front olds (subst (All (Fair new_text)) moved_all (fairs-new (elements_in (new_blocks w)) news)) (elements-all (IsAside edit) (old_blocks w) aside);
            back_stays = All-nil (Remains edit.range old_text new_text move);
            gone_goes = All-nil (Lost old_text);
            come_comes = All-nil (Lost new_text);
          };
        }

    -- The elements of both texts: those that the edit leaves are moved at most, and all others are touched.
    pub parted : KnownOld (elements_in (old_blocks w)) → KnownNew (elements_in (new_blocks w))
        → Parted edit.range old_text new_text (elements_in (old_blocks w)) (elements_in (new_blocks w))
    parted olds news = elim (cases_Bool (is_nil w.gone && is_nil w.come)) [
      | inl none ↦
          let both = and_parts (is_nil w.gone) (is_nil w.come) none in
          parted-none (nil-is w.gone both.0) (nil-is w.come both.1) olds news
      | inr some ↦ parted-some some olds news
    ]
