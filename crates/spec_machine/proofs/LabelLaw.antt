-- The label law: no locked label is given twice.
use Rattle.std.proofs.Common.{◌≡◌, ℕ, zero, suc, ◌+◌, ◌<◌, Option, Some, None, List, [], ◌∷◌, length, get_or, ap, subst, ◌∙◌, arith}
use Rattle.std.specs.Prelude.{IfSome}
use Rattle.spec_text.proofs.ListLaws.{pairs-map}
use Rattle.spec_labels.specs.Labels.{plain_label, Below, Rising}
use Rattle.spec_labels.specs.Scenes.{SceneRecordOf, AreSceneRecords}
use Rattle.spec_labels.specs.PageRecords.{PageRecordOf, SheetOf, AreSheets, record_starts}
use Rattle.spec_labels.proofs.SceneLabels.{locked_labels-distinct, locked_labels-owner}
use Rattle.spec_labels.proofs.SheetLaws.{numbered-AreSheets, sheets-AreSheets}
use Rattle.spec_sheets.specs.Shown.{Shown}
use Rattle.spec_state.specs.State.{State}
use Rattle.spec_pages.specs.Pages.{rows_on}
use Rattle.spec_state.specs.Headings.{headings_of}
use Rattle.spec_state.specs.StateSheets.{numbered_sheets, layout_in, rows_in, keys_in, pages_in, sheets_in, body_sheets}
use Rattle.spec_state.specs.SoundStates.{AreLocked}
use Rattle.spec_wire.specs.Commands.{CommandOf}
use Rattle.spec_machine.specs.Machine.{opened_memory, memory_behind}
use Rattle.spec_machine.specs.Sessions.{AcceptsAll}
use Rattle.spec_state.specs.StateLabels.{page_label_of, scene_label_of, labels_of_pages, labels_of_scenes}
use Rattle.spec_state.specs.Keeping.{IsWhole}
use Rattle.spec_machine.specs.LabelPromises.{AreLabelled, LosesNone}
use Rattle.spec_state.proofs.StateKeys.{text-headings}
use Rattle.spec_state.proofs.StateLaws.{whole-sound}
use Rattle.spec_machine.proofs.MachineLaws.{opened-whole, steps-whole, steps-lost}

pages-rise : (pages : Option (List PageRecordOf)) → IfSome pages AreLocked → Rising (labels_of_pages pages)
pages-rise None are = λ i j d less inside. absurd (omega (arith, less, inside))
pages-rise (Some records) are = pairs-map Below page_label_of records are.rising

scenes-rise : (scenes : Option (List SceneRecordOf)) → IfSome scenes AreSceneRecords → Rising (labels_of_scenes scenes)
scenes-rise None are = λ i j d less inside. absurd (omega (arith, less, inside))
scenes-rise (Some records) are = pairs-map Below scene_label_of records are.rising

-- The sheets of a text without records are numbered.
numbered-first : (rows : List Shown) (number : ℕ) (pages : List ℕ) (k : ℕ) (d : SheetOf) → k < length (numbered_sheets rows number pages)
    → (get_or (numbered_sheets rows number pages) k d).first ≡ plain_label (number + k)
numbered-first rows number [] k d h = absurd (omega (arith, h))
numbered-first rows number (page ∷ later) zero d h = ap plain_label (omega arith)
numbered-first rows number (page ∷ later) (suc k) d h = numbered-first rows (number + 1) later k d (omega (arith, h)) ∙ ap plain_label (omega arith)

numbered-last : (rows : List Shown) (number : ℕ) (pages : List ℕ) (k : ℕ) (d : SheetOf) → k < length (numbered_sheets rows number pages)
    → (get_or (numbered_sheets rows number pages) k d).last ≡ plain_label (number + k)
numbered-last rows number [] k d h = absurd (omega (arith, h))
numbered-last rows number (page ∷ later) zero d h = ap plain_label (omega arith)
numbered-last rows number (page ∷ later) (suc k) d h = numbered-last rows (number + 1) later k d (omega (arith, h)) ∙ ap plain_label (omega arith)

pub numbered-are : (rows : List Shown) (pages : List ℕ) → AreSheets (numbered_sheets rows 1 pages)
numbered-are rows pages = numbered-AreSheets (numbered_sheets rows 1 pages) (record {
  first = λ k d h. numbered-first rows 1 pages k d h ∙ ap plain_label (omega arith);
  last = λ k d h. numbered-last rows 1 pages k d h ∙ ap plain_label (omega arith);
})

-- The labels of the sheets of a state rise strictly.
pub state-sheets : (state : State) → IfSome state.pages AreLocked → AreSheets (body_sheets state)
state-sheets state are = by state.pages are
  where
    by : (pages : Option (List PageRecordOf)) → IfSome pages AreLocked → AreSheets (sheets_in (rows_on state.paper) state.lines (rows_in state) (layout_in state).breaks pages)
    by None locked = numbered-are (rows_in state) (pages_in (rows_on state.paper) state.lines (rows_in state) (layout_in state).breaks None)
    by (Some records) locked =
        sheets-AreSheets (length (rows_in state)) records (record_starts state.lines (keys_in state) records) (pages_in (rows_on state.paper) state.lines (rows_in state) (layout_in state).breaks (Some records)) locked.labels locked.rising

-- The labels of one state.
pub state-labelled : (state : State) → IsWhole state → AreLabelled state
state-labelled state whole =
    let sound = whole-sound state whole in
    let known = text-headings state whole.text in
    record {
      pages = pages-rise state.pages sound.pages;
      scenes = scenes-rise state.scenes sound.scenes;
      sheets = state-sheets state sound.pages;
      headings = λ records is.
          let are : AreSceneRecords records = subst (λ (s : Option (List SceneRecordOf)). IfSome s AreSceneRecords) is sound.scenes in
          record {
            distinct = locked_labels-distinct records (headings_of state.lines) are known;
            owner = λ i place heading it. locked_labels-owner records (headings_of state.lines) i place heading it are;
          };
    }

-- The whole law, for every list of accepted commands on a whole state: each state's labels, and from each state to each later one.
pub label-law : (state : State) (earlier later : List CommandOf) → IsWhole state → AcceptsAll (opened_memory state) earlier → AcceptsAll (memory_behind (opened_memory state) earlier) later
    → AreLabelled (memory_behind (opened_memory state) earlier).state
    × LosesNone (memory_behind (opened_memory state) earlier).state (memory_behind (memory_behind (opened_memory state) earlier) later).state
label-law state earlier later is first second =
    let whole = steps-whole (opened_memory state) earlier (opened-whole state is) first in (
      state-labelled (memory_behind (opened_memory state) earlier).state whole.state,
      steps-lost (memory_behind (opened_memory state) earlier) later whole second,
    )
