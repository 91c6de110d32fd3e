-- A walk over the blocks of a text, past the scenes that are gone.
use Rattle.std.specs.Prelude.{◌≡◌, ℕ, ◌<◌, ◌≤◌, true, false, List, ◌++◌, length, map, slice_index_or}
use Rattle.std.specs.Ordering.{is_lt}
use Rattle.spec_script.specs.Stanzas.{PlacedBlock}
use Rattle.spec_labels.specs.Labels.{LabelOf, plain_label, label_cmp, label_text}
use Rattle.spec_machine.specs.Outline.{EntryOf, omitted}
use Rattle.spec_machine.specs.Outlines.{Scenes, first_above, block_entries, headings_behind}
use Rattle.sp_outline.specs.declared.entry.Entry.{Entry}
use Rattle.sp_outline.specs.Entries.{entry_of}

abbrev pub omitted_of : LabelOf → EntryOf
omitted_of gone = omitted (label_text gone)

-- The label at a place.
abbrev pub label_at : List LabelOf → ℕ → LabelOf
label_at labels place = slice_index_or labels place (plain_label 0)

-- So many of the scenes that are gone stand before the heading behind so many others.
pub record IsWalked (labels gone : List LabelOf) (headings count : ℕ) : Type 0 where
  pub within : count ≤ length gone
  pub before : (i : ℕ) → i < count → first_above labels (label_at gone i) < headings
  pub behind : (i : ℕ) → count ≤ i → i < length gone → headings ≤ first_above labels (label_at gone i)

-- A label is above those from a place to before another, and not above the one there.
pub record IsAbove (label : LabelOf) (gone : List LabelOf) (from to : ℕ) : Type 0 where
  pub order : from ≤ to
  pub within : to ≤ length gone
  pub above : (i : ℕ) → from ≤ i → i < to → is_lt (label_cmp (label_at gone i) label) ≡ true
  pub next : to < length gone → is_lt (label_cmp (label_at gone to) label) ≡ false

-- The entries at a block were added, and the walk goes on behind it.
pub record AddsBlock (scenes : Scenes) (texts : List (List ℕ)) (placed : PlacedBlock) (old new : List Entry) (headings next count : ℕ) : Type 0 where
  pub entries : map entry_of new ≡ map entry_of old ++ block_entries scenes texts headings placed
  pub headings_are : next ≡ headings_behind headings placed
  pub walked : IsWalked scenes.labels scenes.gone next count
