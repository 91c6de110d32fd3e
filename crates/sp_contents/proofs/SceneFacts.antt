-- What the headings and the records of a state are.
use Rattle.std.proofs.Common.{◌≡◌, List, Option, Some, None, length, filter, refl, sym, ◌∙◌, subst}
use Rattle.std.specs.Prelude.{All, AllPairs, IfSome}
use Rattle.std.proofs.lemmas.List.{length-map}
use Rattle.spec_text.specs.Lines.{TextState, IsText, line_texts}
use Rattle.spec_script.specs.Stanzas.{PlacedBlock, blocks_of}
use Rattle.spec_script.specs.Elements.{PlacedLies}
use Rattle.spec_script.proofs.BlockPlaces.{blocks_of-lie}
use Rattle.spec_sheets.proofs.RowLaws.{IsText-texts}
use Rattle.spec_labels.specs.Labels.{Below}
use Rattle.spec_labels.specs.Scenes.{SceneRecordOf, AreSceneRecords}
use Rattle.spec_state.specs.State.{State}
use Rattle.spec_state.specs.Headings.{headings_of, heading_of, is_heading_block}
use Rattle.spec_state.specs.Keeping.{IsWhole}
use Rattle.spec_state.proofs.StateLaws.{state-AreSceneRecords}
use Rattle.spec_machine.specs.Outlines.{scenes_of}
use Rattle.sp_contents.proofs.Counts.{label-count, gone-rising}

scenes-are : (state : State) (o : Option (List SceneRecordOf)) → IsWhole state → state.scenes ≡ o → IfSome o AreSceneRecords
scenes-are state None whole is = tt
scenes-are state (Some those) whole is = state-AreSceneRecords state those whole is

-- As many labels as headings, and the labels of scenes that are gone rise.
pub labels-counted : (state : State) → length (scenes_of state).labels ≡ length (filter is_heading_block (blocks_of (line_texts state.lines)))
labels-counted state = label-count (headings_of state.lines) state.scenes ∙ length-map (filter is_heading_block (blocks_of (line_texts state.lines))) (heading_of state.lines)

pub gone-rises : (state : State) → IsWhole state → AllPairs Below (scenes_of state).gone
gone-rises state whole = gone-rising (headings_of state.lines) state.scenes (scenes-are state state.scenes whole refl)

-- The blocks of a text lie in it.
pub lie-in : (text : TextState) (blocks : List PlacedBlock) → IsText text → blocks ≡ blocks_of (line_texts text.lines) → All (PlacedLies (line_texts text.lines)) blocks
lie-in text blocks is same =
    let are = IsText-texts text is in subst (All (PlacedLies (line_texts text.lines))) (sym same) (blocks_of-lie (line_texts text.lines) are.utf8 are.few).lie
