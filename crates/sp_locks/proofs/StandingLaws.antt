-- Records that stand in order do so when they were carried, and those that are extended stand at lines of the text.
use Rattle.std.proofs.Common.{◌≡◌, ℕ, ◌<◌, Bool, true, false, not, List, [], ◌∷◌, ◌++◌, length, get_or, inl, inr, refl, sym, ap, subst, ◌∙◌, arith}
use Rattle.std.specs.Prelude.{All, AllPairs, Result, Ok, Err, OnOk, drop, filter}
use Rattle.std.proofs.lemmas.Bool.{and_parts}
use Rattle.std.proofs.lemmas.List.Elements.{All-map, All-drop, All-append, All-filter, filter_passes}
use Rattle.std.proofs.lemmas.List.Sorted.{All-permutation}
use Rattle.spec_text.specs.Lines.{LineState}
use Rattle.spec_text.specs.EditedLines.{HasIds}
use Rattle.spec_text.proofs.ListLaws.{pairs-map, pairs-unmap}
use Rattle.spec_labels.specs.declared.RowKey.{RowKey}
use Rattle.spec_labels.specs.PageRecords.{PageRecordOf, SheetOf, InOrder, end_line, line_at, carried, carried_records, is_recorded, is_new, record_of_sheet, new_page_records, extended_page_records}
use Rattle.spec_labels.specs.Spots.{AtMost}
use Rattle.spec_labels.specs.Anchors.{IsAnchored, NotBehind, ArePresent, spot_of, end_spot, Anchored}
use Rattle.spec_labels.proofs.SpotLaws.{Lower, ahead-not, ahead-from}
use Rattle.spec_labels.proofs.CarryLaws.{Edited, end-nowhere}
use Rattle.spec_labels.proofs.AnchorLaws.{anchored-after, carried-anchored}
use Rattle.spec_labels.proofs.PageRecordLaws.{extended_page_records-permutation}
use Rattle.sp_locks.specs.Standing.{StayInOrder}

module _ (next : ℕ) (lines : List LineState) (ids : HasIds next lines) where
  -- The order of anchors is that of the spots of records that stand in the text or at the end.
  in-order : (one other : PageRecordOf) → IsAnchored lines other → NotBehind lines one other → InOrder lines one other
  in-order one other anchored order = record {
    inside = λ some end. elim anchored [
      | inl at ↦ some at.0
      | inr there ↦
          let e = ap (line_at lines) end ∙ end-nowhere next lines ids in
          let ahead = ahead-from (spot_of lines other) (spot_of lines one) (inl (omega (arith, there, e))) in
          let bad : true ≡ false = sym ahead ∙ order in
          cc
    ];
    never = λ some. order;
  }

  not-behind : (one other : PageRecordOf) → IsAnchored lines one → IsAnchored lines other → InOrder lines one other → NotBehind lines one other
  not-behind one other first second order = elim second [
    | inl end ↦ ahead-not (spot_of lines other) (spot_of lines one) (λ low. by first (ap (line_at lines) end.0 ∙ end-nowhere next lines ids) end.1 low)
    | inr there ↦ order.never (λ end. let e = ap (line_at lines) end ∙ end-nowhere next lines ids in omega (arith, there, e))
  ]
    where
      by : IsAnchored lines one → line_at lines other.line ≡ length lines → other.row ≡ 0 → Lower (spot_of lines other) (spot_of lines one) → ⊥
      by (inl end) at row (inl less) = let e = ap (line_at lines) end.0 ∙ end-nowhere next lines ids in omega (arith, e, at, less)
      by (inl end) at row (inr level) = omega (arith, end.1, level.1)
      by (inr there) at row (inl less) = omega (arith, there, at, less)
      by (inr there) at row (inr level) = omega (arith, there, at, level.0)

  within : (it : PageRecordOf) → IsAnchored lines it → AtMost (spot_of lines it) (end_spot lines)
  within it anchored = ahead-not (end_spot lines) (spot_of lines it) (λ less. by anchored less)
    where
      by : IsAnchored lines it → Lower (end_spot lines) (spot_of lines it) → ⊥
      by (inl end) (inl less) = let e = ap (line_at lines) end.0 ∙ end-nowhere next lines ids in omega (arith, e, less)
      by (inl end) (inr level) = omega (arith, end.1, level.1)
      by (inr there) (inl less) = omega (arith, there, less)
      by (inr there) (inr level) = omega (arith, there, level.0)

  -- Anchors in order are spots in order, up to the end, and these are anchors in order.
  spots-in-order : (records : List PageRecordOf) → All (IsAnchored lines) records → AllPairs (InOrder lines) records → Anchored lines records
  spots-in-order records anchored order = record {
    each = anchored;
    order = pairs-map AtMost (spot_of lines) records
        (λ i j d less inside. not-behind (get_or records i d) (get_or records j d) (anchored i d (omega (arith, less, inside))) (anchored j d inside) (order i j d less inside));
    within = All-map (λ s. AtMost s (end_spot lines)) (spot_of lines) records (λ k d h. within (get_or records k d) (anchored k d h));
  }

  anchors-in-order : (records : List PageRecordOf) → Anchored lines records → AllPairs (InOrder lines) records
  anchors-in-order records are =
      let order = pairs-unmap AtMost (spot_of lines) records are.order in
      λ i j d less inside. in-order (get_or records i d) (get_or records j d) (are.each j d inside) (order i j d less inside)

drop-one : (lines : List LineState) (place : ℕ) (records : List PageRecordOf) → carried_records lines place (drop 1 records) ≡ drop 1 (carried_records lines place records)
drop-one lines place [] = refl
drop-one lines place (it ∷ records) = refl

pub carried-in-order : (lines : List LineState) (place : ℕ) (records : List PageRecordOf) → StayInOrder lines place records (carried_records lines place records)
carried-in-order lines place records range next later before at edit old_ids new_ids stand =
    let edited : Edited range next later before lines = record { edit = edit; old_ids = old_ids; new_ids = new_ids } in
    let rest = drop 1 records in
    let was = spots-in-order next before old_ids rest (All-drop (IsAnchored before) 1 records stand.anchored) stand.order in
    let is : Anchored lines (carried_records lines place rest) =
    subst (λ n. Anchored lines (carried_records lines n rest)) at (anchored-after range next later before lines rest edited was) in
    record {
      anchored = All-map (IsAnchored lines) (carried lines place) records (λ k d h. carried-anchored range next later before lines place (get_or records k d) edited (stand.anchored k d h));
      order = subst (AllPairs (InOrder lines)) (drop-one lines place records) (anchors-in-order later lines new_ids (carried_records lines place rest) is);
    }

pub kept-in-order : {T E : Type 0} (lines : List LineState) (place : ℕ) (old new : List PageRecordOf) (result : Result T E) → OnOk result (new ≡ carried_records lines place old)
    → OnOk result (StayInOrder lines place old new)
kept-in-order lines place old new (Ok it) ok = subst (StayInOrder lines place old) (sym ok) (carried-in-order lines place old)
kept-in-order lines place old new (Err e) ok = tt

-- ---- records that are extended

new-shown : (records : List PageRecordOf) (sheet : SheetOf) → is_new records sheet ≡ true → sheet.omitted ≡ false
new-shown records sheet new = shown sheet.omitted (and_parts (not sheet.omitted) (not (is_recorded records sheet.first)) new).0
  where
    shown : (omitted : Bool) → not omitted ≡ true → omitted ≡ false
    shown true is = sym is
    shown false is = refl

-- A sheet with rows is anchored at the line of its first row.
pub extended-anchored : (lines : List LineState) (records : List PageRecordOf) (sheets : List SheetOf) (keys : List RowKey) → All (IsAnchored lines) records → ArePresent lines keys
    → All (λ (sheet : SheetOf). sheet.omitted ≡ false → sheet.start < length keys) sheets → All (IsAnchored lines) (extended_page_records records sheets keys)
extended-anchored lines records sheets keys anchored present starts =
    let P = IsAnchored lines in
    let news = new_page_records records sheets keys in
    let some = filter (is_new records) sheets in
    let inside = All-filter (is_new records) (λ (sheet : SheetOf). sheet.omitted ≡ false → sheet.start < length keys) sheets starts in
    All-permutation P (records ++ news) (extended_page_records records sheets keys) (extended_page_records-permutation records sheets keys)
    (All-append P records news anchored
    (All-map P (record_of_sheet keys) some
    (λ k d h. inr (present.all (get_or some k d).start (record { line = end_line; row = 0 }) (inside k d h (new-shown records (get_or some k d) (filter_passes (is_new records) sheets k d h)))))))
