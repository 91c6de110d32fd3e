-- An edit keeps what a state keeps.
use Rattle.std.proofs.Common.{◌≡◌, ℕ, ◌+◌, ◌<◌, ◌≤◌, Bool, true, false, cond, Option, Some, None, List, [], ◌∷◌, ◌++◌, map, length, take, drop, get_or, refl, sym, ap, ap₂, subst, ◌∙◌, arith}
use Rattle.std.specs.Prelude.{All, IfSome, option_map, is_some}
use Rattle.std.proofs.lemmas.List.{length-map, get_or-map}
use Rattle.std.proofs.lemmas.List.Elements.{All-nil, All-cons, All-append, All-take, All-drop}
use Rattle.spec_text.specs.Lines.{LineState, TextState}
use Rattle.spec_text.specs.Edits.{Replacement, stretch, line_ids, lines_put, put_by, changed}
use Rattle.spec_labels.specs.Labels.{LabelOf, IsLabel, Below}
use Rattle.spec_labels.specs.Scenes.{SceneRecordOf}
use Rattle.spec_labels.specs.PageRecords.{PageRecordOf, carried_records}
use Rattle.spec_labels.proofs.PageRecordLaws.{carried-labels}
use Rattle.spec_records.specs.Kept.{KeptOf, KeepsScenes, AreKeptScenes, scene_steps}
use Rattle.spec_sheets.specs.Shown.{Shown}
use Rattle.spec_state.specs.State.{State, text_of}
use Rattle.spec_state.specs.SoundStates.{AreLocked}
use Rattle.spec_state.specs.SameRows.{same_rows}
use Rattle.spec_state.specs.Changes.{text_after, raised, raised_records, carried_state, rows_by_record, pages_raised, edited_state, CanEdit}
use Rattle.spec_state.specs.StateLabels.{page_label_of, labels_of_pages}
use Rattle.spec_state.specs.Keeping.{state_kept}
use Rattle.spec_state.specs.KeptStates.{IsKept}

-- ---- marks

abbrev pub LowMark : ℕ → LineState → Type 0
LowMark round line = line.mark ≤ round

put-marks : (ids : List ℕ) (next round : ℕ) (texts : List (List ℕ)) → All (LowMark round) (lines_put ids next round texts)
put-marks ids next round [] = All-nil (LowMark round)
put-marks [] next round (text ∷ texts) =
    All-cons (LowMark round) (record { id = next; mark = round; text = text }) (lines_put [] (next + 1) round texts) (omega arith) (put-marks [] (next + 1) round texts)
put-marks (id ∷ ids) next round (text ∷ texts) =
    All-cons (LowMark round) (record { id = id; mark = round; text = text }) (lines_put ids next round texts) (omega arith) (put-marks ids next round texts)

pub changed-marks : (text : TextState) (it : Replacement) (round : ℕ) → All (LowMark round) text.lines → All (LowMark round) (changed text it round).lines
changed-marks text it round all =
    let put = put_by text it round in
    All-append (LowMark round) (take it.first text.lines) (put ++ drop (it.first + it.old) text.lines) (All-take (LowMark round) it.first text.lines all)
    (All-append (LowMark round) put (drop (it.first + it.old) text.lines) (put-marks (stretch (line_ids text.lines) it.first it.old) text.next round it.texts)
    (All-drop (LowMark round) (it.first + it.old) text.lines all))

-- ---- labels

raised-label : (round : ℕ) (same : Bool) (it : PageRecordOf) → (raised round same it).label ≡ it.label
raised-label round true it = refl
raised-label round false it = refl

pub raised-labels : (round : ℕ) (olds news : List (List Shown)) (records : List PageRecordOf) → map page_label_of (raised_records round olds news records) ≡ map page_label_of records
raised-labels round [] news records = refl
raised-labels round (old ∷ olds) [] records = refl
raised-labels round (old ∷ olds) (new ∷ news) [] = refl
raised-labels round (old ∷ olds) (new ∷ news) (it ∷ records) =
    ap₂ (λ (l : LabelOf) (ls : List LabelOf). l ∷ ls) (raised-label round (same_rows old new) it) (raised-labels round olds news records)

-- The labels of page records stay in an edit.
pub edited-labels : (state : State) (it : Replacement) → labels_of_pages (edited_state state it).pages ≡ labels_of_pages state.pages
edited-labels state it = by state.pages
  where
    by : (pages : Option (List PageRecordOf)) → labels_of_pages (pages_raised state (carried_state state it) pages (option_map (carried_records (text_after state it).lines (it.first + length it.texts)) pages)) ≡ labels_of_pages pages
    by None = refl
    by (Some records) =
        raised-labels state.round (rows_by_record state records) (rows_by_record (carried_state state it) (carried_records (text_after state it).lines (it.first + length it.texts) records)) (carried_records (text_after state it).lines (it.first + length it.texts) records)
        ∙ carried-labels (text_after state it).lines (it.first + length it.texts) records

edited-some : (state : State) (it : Replacement) → is_some (edited_state state it).pages ≡ is_some state.pages
edited-some state it = by state.pages
  where
    by : (pages : Option (List PageRecordOf)) → is_some (pages_raised state (carried_state state it) pages (option_map (carried_records (text_after state it).lines (it.first + length it.texts)) pages)) ≡ is_some pages
    by None = refl
    by (Some records) = refl

-- Records with the labels of others keep what these keep of labels.
pub same-locked : (ones others : List PageRecordOf) → map page_label_of ones ≡ map page_label_of others → AreLocked others → AreLocked ones
same-locked ones others same are =
    let count : length ones ≡ length others = sym (length-map ones page_label_of) ∙ ap length same ∙ length-map others page_label_of in
    let some = are.some in
    let at : (k : ℕ) (d : PageRecordOf) → k < length ones → (get_or ones k d).label ≡ (get_or others k d).label = λ k d h.
    sym (get_or-map page_label_of ones k d d.label h) ∙ ap (λ (ls : List LabelOf). get_or ls k d.label) same ∙ get_or-map page_label_of others k d d.label (omega (arith, h, count)) in
    record {
      some = omega (arith, some, count);
      labels = λ k d h. subst IsLabel (sym (at k d h)) (are.labels k d (omega (arith, h, count)));
      rising = λ i j d less h.
          subst (λ l. Below l (get_or ones j d).label) (sym (at i d (omega (arith, less, h))))
          (subst (Below (get_or others i d).label) (sym (at j d h)) (are.rising i j d less (omega (arith, h, count))));
    }

edited-locked : (state : State) (it : Replacement) → IfSome state.pages AreLocked → IfSome (edited_state state it).pages AreLocked
edited-locked state it are = by state.pages are
  where
    by : (pages : Option (List PageRecordOf)) → IfSome pages AreLocked
        → IfSome (pages_raised state (carried_state state it) pages (option_map (carried_records (text_after state it).lines (it.first + length it.texts)) pages)) AreLocked
    by None locked = tt
    by (Some records) locked =
        same-locked _ records
        (raised-labels state.round (rows_by_record state records) (rows_by_record (carried_state state it) (carried_records (text_after state it).lines (it.first + length it.texts) records)) (carried_records (text_after state it).lines (it.first + length it.texts) records)
        ∙ carried-labels (text_after state it).lines (it.first + length it.texts) records) locked

-- ---- scenes

later-next : (next later steps : ℕ) (records : List SceneRecordOf) → next ≤ later → AreKeptScenes next steps records → AreKeptScenes later steps records
later-next next later steps records more are = record {
  few = are.few;
  locked = are.locked;
  rising = are.rising;
  distinct = are.distinct;
  below = λ k d h. (let b = are.below k d h in omega (arith, b, more));
}

scenes-later : (old new : KeptOf) (scenes : Option (List SceneRecordOf)) → old.next ≤ new.next → scene_steps old.records ≡ scene_steps new.records → KeepsScenes old scenes → KeepsScenes new scenes
scenes-later old new None more same are = are
scenes-later old new (Some records) more same are = later-next old.next new.next (scene_steps new.records) records more (subst (λ n. AreKeptScenes old.next n records) same are)

-- So an edit keeps all of it.
pub edit-keeps : (state : State) (it : Replacement) → IsKept state → CanEdit state it → IsKept (edited_state state it)
edit-keeps state it kept can = record {
  text = can.text;
  round = kept.round;
  marks = changed-marks (text_of state) it state.round kept.marks;
  scenes = scenes-later (state_kept state) (state_kept (edited_state state it)) state.scenes (omega arith)
      (sym (ap (λ b. 16 + state.round + cond b 1 0) (edited-some state it))) kept.scenes;
  scened = λ h. kept.scened (sym (edited-some state it) ∙ h);
  pages = edited-locked state it kept.pages;
}
