-- Scene numbers: the labels of headings, and the records that keep them (docs/RULES.md, "Scene numbers").
use Rattle.std.specs.Prelude.{◌≢◌, ℕ, zero, suc, ◌+◌, ◌<◌, ◌≤◌, Bool, true, IsTrue, ◌&&◌, not, ◌==◌, List, [], ◌∷◌, length, map, fold, filter, zip, drop, find, position, slice_get, All, AllPairs, IfSome, OnSome, Option, Some, None, unwrap_or, option_map, option_and_then, is_some}
use Rattle.std.specs.Ordering.{is_lt}
use Rattle.std.specs.Option.{option_map_or}
use Rattle.spec_text.specs.Limits.{line_count_limit}
use Rattle.spec_labels.specs.Labels.{LabelOf, plain_label, IsLabel, label_cmp, Below, between, placed_by}
use Rattle.spec_labels.specs.LabelReading.{step_limit}

-- The greatest number, and the most steps, of a scene number that is written in a script.
abbrev pub scene_number_limit : ℕ
scene_number_limit = 999999999

abbrev pub scene_step_limit : ℕ
scene_step_limit = 16

-- Scene records.
abbrev pub scene_record_limit : ℕ
scene_record_limit = 100000

-- The greatest number of a label that is recorded.
abbrev pub record_number_limit : ℕ
record_number_limit = 2000000000

-- A label that may stand as a scene number in a script.
pub record IsSceneLabel (it : LabelOf) : Type 0 where
  pub is_label : IsLabel it
  pub low : it.number ≤ scene_number_limit
  pub short : length it.path ≤ scene_step_limit
  pub steps : All (λ step. step ≤ step_limit) it.path

-- A heading: the place and the id of its line, whether a number is written in it, and that number where it is such a label.
pub record HeadingOf : Type 0 where
  pub place : ℕ
  pub id : ℕ
  pub written : Bool
  pub number : Option LabelOf

-- A scene record: a label, and the id of the line that has it.
pub record SceneRecordOf : Type 0 where
  pub label : LabelOf
  pub line : ℕ

-- A number that is there is a label that may stand in a script, and is written.
pub record IsNumbered (heading : HeadingOf) : Type 0 where
  pub is_label : IfSome heading.number IsSceneLabel
  pub is_written : OnSome heading.number (IsTrue heading.written)

-- What the headings of a text keep: they are no more than its lines, their places rise, their ids are distinct, and their numbers are scene labels.
pub record AreHeadings (headings : List HeadingOf) : Type 0 where
  pub few : length headings ≤ line_count_limit
  pub rising : AllPairs (λ (one other : HeadingOf). one.place < other.place) headings
  pub distinct : AllPairs (λ (one other : HeadingOf). one.id ≢ other.id) headings
  pub numbered : All IsNumbered headings

-- What scene records keep: they have labels above label 0, which rise strictly and have low numbers, and distinct lines.
pub record AreSceneRecords (records : List SceneRecordOf) : Type 0 where
  pub labels : All (λ (it : SceneRecordOf). IsLabel it.label) records
  pub above : All (λ (it : SceneRecordOf). Below (plain_label 0) it.label) records
  pub low : All (λ (it : SceneRecordOf). it.label.number ≤ record_number_limit) records
  pub rising : AllPairs (λ (one other : SceneRecordOf). Below one.label other.label) records
  pub distinct : AllPairs (λ (one other : SceneRecordOf). one.line ≢ other.line) records

-- The numbers of records pass this limit by no more than there are records.
pub record AreWithin (limit : ℕ) (records : List SceneRecordOf) : Type 0 where
  pub low : All (λ (it : SceneRecordOf). it.label.number ≤ limit + length records) records

-- A record's label is below that of another.
abbrev pub is_before : SceneRecordOf → SceneRecordOf → Bool
is_before one other = is_lt (label_cmp one.label other.label)

-- Without records a heading has its written number, where that is a label, or else the number of the label before it plus 1.
abbrev pub numbers_after : ℕ → List HeadingOf → List LabelOf
numbers_after before [] = []
numbers_after before (heading ∷ later) =
    let own = unwrap_or heading.number (plain_label (before + 1)) in
    own ∷ numbers_after own.number later

abbrev pub unlocked_labels : List HeadingOf → List LabelOf
unlocked_labels headings = numbers_after 0 headings

-- The place in the list of the record of a line, where it has one.
abbrev pub line_place : List SceneRecordOf → ℕ → Option ℕ
line_place records line = position (λ (it : SceneRecordOf). it.line == line) records

-- The place in the list of the record of a heading, where it has one.
abbrev pub record_place : List SceneRecordOf → HeadingOf → Option ℕ
record_place records heading = line_place records heading.id

abbrev pub record_places : List SceneRecordOf → List HeadingOf → List (Option ℕ)
record_places records headings = map (record_place records) headings

-- The first of these places, or the end where there is none.
abbrev pub first_place : ℕ → List (Option ℕ) → ℕ
first_place end [] = end
first_place end (place ∷ places) = unwrap_or place (first_place end places)

-- The label of the record at a place of the list.
abbrev pub label_at : List SceneRecordOf → ℕ → Option LabelOf
label_at records place = option_map (λ (it : SceneRecordOf). it.label) (slice_get records place)

-- The label of the record directly before a place, or label 0 where there is none.
abbrev pub label_before : List SceneRecordOf → ℕ → LabelOf
label_before records zero = plain_label 0
label_before records (suc place) = unwrap_or (label_at records place) (plain_label 0)

-- The m-th label before the record at a place, or behind all records at the list's end.
abbrev pub label_between : List SceneRecordOf → ℕ → ℕ → LabelOf
label_between records place m = between (label_before records place) (label_at records place) m

-- The labels of headings by the places of their records. A heading with a record has its label. Any other has the next
-- label before the first record that a later heading has; `since` counts the headings without one directly before it.
abbrev pub labels_since : List SceneRecordOf → ℕ → List (Option ℕ) → List LabelOf
labels_since records since [] = []
labels_since records since (Some place ∷ later) = unwrap_or (label_at records place) (plain_label 0) ∷ labels_since records 0 later
labels_since records since (None ∷ later) = label_between records (first_place (length records) later) (since + 1) ∷ labels_since records (since + 1) later

abbrev pub locked_labels : List SceneRecordOf → List HeadingOf → List LabelOf
locked_labels records headings = labels_since records 0 (record_places records headings)

-- The labels of the headings of a text, with the records where scenes are locked.
abbrev pub scene_labels : List HeadingOf → Option (List SceneRecordOf) → List LabelOf
scene_labels headings None = unlocked_labels headings
scene_labels headings (Some records) = locked_labels records headings

-- A written number that can't be locked: it is no label, or it is label 0.
abbrev pub is_unlockable : HeadingOf → Bool
is_unlockable heading =
    heading.written && option_map_or (λ (it : LabelOf). (it.number == 0) && (length it.path == 0)) heading.number true

-- The place of the first heading with such a number.
abbrev pub unlockable_place : List HeadingOf → Option ℕ
unlockable_place headings = option_map (λ (it : HeadingOf). it.place) (find is_unlockable headings)

-- The first label that isn't above the one directly before it, by its place in the list.
abbrev pub first_fall : List LabelOf → Option ℕ
first_fall labels =
    option_map (λ place. place + 1) (position (λ (pair : LabelOf × LabelOf). not (is_lt (label_cmp pair.0 pair.1))) (zip labels (drop 1 labels)))

-- The place of the first heading whose label isn't above that of the heading before it.
abbrev pub disordered_place : List HeadingOf → Option ℕ
disordered_place headings =
    option_map (λ (it : HeadingOf). it.place) (option_and_then (λ place. slice_get headings place) (first_fall (unlocked_labels headings)))

-- Headings and their labels, as records.
abbrev pub records_of : List HeadingOf → List LabelOf → List SceneRecordOf
records_of headings labels = map (λ (pair : HeadingOf × LabelOf). record { label = pair.1; line = pair.0.id }) (zip headings labels)

-- The records that locking makes.
abbrev pub locked_records : List HeadingOf → List SceneRecordOf
locked_records headings = records_of headings (unlocked_labels headings)

-- A record goes into the list by its label.
abbrev pub placed : List SceneRecordOf → SceneRecordOf → List SceneRecordOf
placed = placed_by (λ (it : SceneRecordOf). it.label)

-- The records of the headings that have none yet, with the labels that they have.
abbrev pub new_records : List SceneRecordOf → List HeadingOf → List SceneRecordOf
new_records records headings =
    filter (λ (new : SceneRecordOf). not (is_some (line_place records new.line))) (records_of headings (locked_labels records headings))

-- The list with a record for every heading.
abbrev pub extended_records : List SceneRecordOf → List HeadingOf → List SceneRecordOf
extended_records records headings = fold placed records (new_records records headings)
