-- What stands in a segment that no touched element stands in stays.
use Rattle.std.proofs.Common.{◌≡◌, ◌≤◌, true, List, [], ◌++◌, length, map, refl, sym, ap, subst, ◌∙◌}
use Rattle.std.specs.Prelude.{All}
use Rattle.std.specs.List.{flat_map}
use Rattle.spec_script.specs.LongestRuns.{Group}
use Rattle.spec_script.specs.Stanzas.{PlacedBlock}
use Rattle.spec_labels.specs.Spots.{Bounds, BoundsFollow}
use Rattle.spec_text.specs.Ranges.{RangeOf}
use Rattle.spec_edit.specs.Items.{Item, sights_in, rows_among, start_of}
use Rattle.spec_edit.proofs.Steps.{Step, before_of, after_of, was_there, is_there, Keeps, AreRising, NoneStepStands, TextOf, edit_steps, NoneTouchedStands}
use Rattle.spec_edit.proofs.SegmentLaws.{segment-same}
use Rattle.spec_edit.proofs.StandLaws.{IsElement, none-stands}
use Rattle.spec_edit.proofs.ElementStepLaws.{TouchedBoth, steps-before, steps-after, none-before, none-after}
use Rattle.spec_edit.proofs.ElementLaw.{Remains, Lost, Elements, all-weaker, each-step, never, none-kind}
use Rattle.spec_edit.proofs.ElementMoves.{element_after}
use Rattle.spec_edit.proofs.KeptElements.{Parted}
use Rattle.spec_edit.proofs.StandingLaws.{rows-kept}

-- The elements of both texts of an edit, as steps.
module _ {E : Type 0} (range : RangeOf) (old new : TextOf E) (one other : E → E) (front gone come back : List E) (es : Elements range old new one other front gone come back) where
  abbrev steps : List Step
  steps = edit_steps old new one other front gone come back

  abbrev all_old : List E
  all_old = front ++ (gone ++ back)

  abbrev all_new : List E
  all_new = map one front ++ (come ++ map other back)

  before-are : flat_map old.items all_old ≡ flat_map before_of steps
  before-are = sym (steps-before old new one other front gone come back)

  after-are : flat_map new.items all_new ≡ flat_map after_of steps
  after-are = sym (steps-after old new one other front gone come back)

  keeps : All (Keeps range) steps
  keeps =
      each-step (Keeps range) range old new one other front gone come back
      (λ move it r. record { left = r.left; moved = r.moved }) (λ it l. record { left = λ h. never h; moved = λ h. never h }) (λ it l. record { left = λ h. never h; moved = λ h. never h }) es

  fair-old : All (IsElement was_there before_of) steps
  fair-old =
      each-step (IsElement was_there before_of) range old new one other front gone come back
      (λ move it r. record { kind = (r.before).kind; none = (r.before).none }) (λ it l. record { kind = (l.fair).kind; none = (l.fair).none }) (λ it l. record { kind = none-kind; none = λ h. refl }) es

  fair-new : All (IsElement is_there after_of) steps
  fair-new =
      each-step (IsElement is_there after_of) range old new one other front gone come back
      (λ move it r. record { kind = (r.after).kind; none = (r.after).none }) (λ it l. record { kind = none-kind; none = λ h. refl }) (λ it l. record { kind = (l.fair).kind; none = (l.fair).none }) es

  -- Nothing touched stands in the segment before the edit, and after it.
  clear-old : (bounds : Bounds) → AreRising (flat_map old.items all_old)
      → NoneTouchedStands old (start_of (flat_map old.items all_old) bounds.low) (start_of (flat_map old.items all_old) bounds.high) 0 all_old
      → All (λ (step : Step). step.touched ≡ true → sights_in bounds step.before ≡ []) steps
  clear-old bounds rise none =
      none-stands bounds was_there before_of steps (subst AreRising before-are rise) fair-old
      (subst (λ l. NoneStepStands was_there before_of (start_of l bounds.low) (start_of l bounds.high) 0 steps) before-are
      (none-before old new one other (start_of (flat_map old.items all_old) bounds.low) (start_of (flat_map old.items all_old) bounds.high) 0 front gone come back
      (all-weaker (Lost old) (λ it. old.touched it ≡ true) (λ it l. l.touched) gone es.gone_goes) none))

  clear-new : (after : Bounds) → AreRising (flat_map new.items all_new)
      → NoneTouchedStands new (start_of (flat_map new.items all_new) after.low) (start_of (flat_map new.items all_new) after.high) 0 all_new
      → All (λ (step : Step). step.touched ≡ true → sights_in after step.after ≡ []) steps
  clear-new after rise none =
      none-stands after is_there after_of steps (subst AreRising after-are rise) fair-new
      (subst (λ l. NoneStepStands is_there after_of (start_of l after.low) (start_of l after.high) 0 steps) after-are
      (none-after old new one other (start_of (flat_map new.items all_new) after.low) (start_of (flat_map new.items all_new) after.high) 0 front gone come back
      (all-weaker (Lost new) (λ it. new.touched it ≡ true) (λ it l. l.touched) come es.come_comes)
      (all-weaker (Remains range old new one) (TouchedBoth old new one) (λ it r. r.touched) front es.front_stays)
      (all-weaker (Remains range old new other) (TouchedBoth old new other) (λ it r. r.touched) back es.back_stays) none))

  -- So it shows what it showed.
  pub locked-sights : (bounds after : Bounds) → BoundsFollow range bounds after → AreRising (flat_map old.items all_old) → AreRising (flat_map new.items all_new)
      → NoneTouchedStands old (start_of (flat_map old.items all_old) bounds.low) (start_of (flat_map old.items all_old) bounds.high) 0 all_old
      → NoneTouchedStands new (start_of (flat_map new.items all_new) after.low) (start_of (flat_map new.items all_new) after.high) 0 all_new
      → sights_in after (flat_map new.items all_new) ≡ sights_in bounds (flat_map old.items all_old)
  locked-sights bounds after follow rise_old rise_new none_old none_new =
      let before = clear-old bounds rise_old none_old in
      let behind = clear-new after rise_new none_new in
      ap (sights_in after) after-are
      ∙ segment-same range bounds after steps follow keeps (λ k d inside. record { before = before k d inside; after = behind k d inside })
      ∙ ap (sights_in bounds) (sym before-are)

  -- And it loses no row, where nothing touched stands in it before the edit.
  pub locked-rows : (bounds after : Bounds) → BoundsFollow range bounds after → AreRising (flat_map old.items all_old)
      → NoneTouchedStands old (start_of (flat_map old.items all_old) bounds.low) (start_of (flat_map old.items all_old) bounds.high) 0 all_old
      → length (rows_among (sights_in bounds (flat_map old.items all_old))) ≤ length (rows_among (sights_in after (flat_map new.items all_new)))
  locked-rows bounds after follow rise none =
      subst (λ (l : List Item). length (rows_among (sights_in bounds l)) ≤ length (rows_among (sights_in after (flat_map new.items all_new)))) (sym before-are)
      (subst (λ (l : List Item). length (rows_among (sights_in bounds (flat_map before_of steps))) ≤ length (rows_among (sights_in after l))) (sym after-are)
      (rows-kept range bounds after steps follow keeps (clear-old bounds rise none)))

-- The same for texts whose elements are parted by an edit.
pub parted-rows : (range : RangeOf) (old new : TextOf (Group PlacedBlock)) (olds news : List (Group PlacedBlock)) (bounds after : Bounds) → Parted range old new olds news → BoundsFollow range bounds after
    → AreRising (flat_map old.items olds) → NoneTouchedStands old (start_of (flat_map old.items olds) bounds.low) (start_of (flat_map old.items olds) bounds.high) 0 olds
    → length (rows_among (sights_in bounds (flat_map old.items olds))) ≤ length (rows_among (sights_in after (flat_map new.items news)))
parted-rows range old new olds news bounds after parts follow rise_old none_old =
    let move = element_after range in
    let a = parts.old_are in
    subst (λ es. length (rows_among (sights_in bounds (flat_map old.items olds))) ≤ length (rows_among (sights_in after (flat_map new.items es)))) (sym parts.new_are)
    (subst (λ es. length (rows_among (sights_in bounds (flat_map old.items es))) ≤ length (rows_among (sights_in after (flat_map new.items (map move parts.front ++ (parts.come ++ map move parts.back)))))) (sym a)
    (locked-rows range old new move move parts.front parts.gone parts.come parts.back parts.elements bounds after follow
    (subst (λ es. AreRising (flat_map old.items es)) a rise_old)
    (subst (λ es. NoneTouchedStands old (start_of (flat_map old.items es) bounds.low) (start_of (flat_map old.items es) bounds.high) 0 es) a none_old)))

pub parted-sights : (range : RangeOf) (old new : TextOf (Group PlacedBlock)) (olds news : List (Group PlacedBlock)) (bounds after : Bounds) → Parted range old new olds news → BoundsFollow range bounds after
    → AreRising (flat_map old.items olds) → AreRising (flat_map new.items news)
    → NoneTouchedStands old (start_of (flat_map old.items olds) bounds.low) (start_of (flat_map old.items olds) bounds.high) 0 olds
    → NoneTouchedStands new (start_of (flat_map new.items news) after.low) (start_of (flat_map new.items news) after.high) 0 news
    → sights_in after (flat_map new.items news) ≡ sights_in bounds (flat_map old.items olds)
parted-sights range old new olds news bounds after parts follow rise_old rise_new none_old none_new =
    let move = element_after range in
    let a = parts.old_are in
    let b = parts.new_are in
    ap (λ es. sights_in after (flat_map new.items es)) b
    ∙ locked-sights range old new move move parts.front parts.gone parts.come parts.back parts.elements bounds after follow
    (subst (λ es. AreRising (flat_map old.items es)) a rise_old) (subst (λ es. AreRising (flat_map new.items es)) b rise_new)
    (subst (λ es. NoneTouchedStands old (start_of (flat_map old.items es) bounds.low) (start_of (flat_map old.items es) bounds.high) 0 es) a none_old)
    (subst (λ es. NoneTouchedStands new (start_of (flat_map new.items es) after.low) (start_of (flat_map new.items es) after.high) 0 es) b none_new)
    ∙ sym (ap (λ es. sights_in bounds (flat_map old.items es)) a)
