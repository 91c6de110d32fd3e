-- Elements that are laid out anew after an edit (docs/RULES.md, "Windows").
use Rattle.std.specs.Prelude.{◌≡◌, ℕ, ◌+◌, List, ◌++◌, length, map, All}
use Rattle.spec_text.specs.Lines.{LineState}
use Rattle.spec_script.specs.LongestRuns.{Group}
use Rattle.spec_script.specs.Stanzas.{PlacedBlock}
use Rattle.spec_sheets.specs.Speakers.{Spoken, spoken_elements, text_elements}
use Rattle.spec_sheets.specs.Layout.{is_title_element, in_body}
use Rattle.spec_edit.specs.Moved.{moved_group}
use Rattle.spec_edit.proofs.MovedElements.{GroupStays}
use Rattle.spec_edit.proofs.LayoutParts.{laid_of}
use Rattle.sp_layout.specs.Speaking.{SpeakersOf}
use Rattle.sp_layout.specs.LaidOut.{LayoutOf, break_places, keyed}
use Rattle.sp_layout.specs.declared.kept.PartPlaces.{PartPlaces}

-- Where the elements of a text that an edit takes away stand, and how it moves those behind them.
abbrev pub places_of : List LineState → List (Group Spoken) → List (Group Spoken) → ℕ → ℕ → PartPlaces
places_of lines front gone less more = record {
  title_from = length (laid_of is_title_element lines front);
  title_to = length (laid_of is_title_element lines front) + length (laid_of is_title_element lines gone);
  from = length (laid_of in_body lines front);
  to = length (laid_of in_body lines front) + length (laid_of in_body lines gone);
  break_from = length (break_places 0 front);
  break_to = length (break_places 0 front) + length (break_places (length (laid_of in_body lines front)) gone);
  less = less;
  more = more;
}

-- The layout is that of a text before an edit. Of its elements some in front stay, some go, and some behind those are moved; after
-- the edit these blocks, behind these speakers, stand in the place of those that go. So the part stands at those places. Those behind
-- may be others in the text after the edit, where another one spoke last before them.
pub record IsRelaid (before lines : List LineState) (speakers : SpeakersOf) (blocks : List PlacedBlock) (places : PartPlaces) (layout : LayoutOf) : Type 0 where
  pub front : List (Group Spoken)
  pub gone : List (Group Spoken)
  pub rest : List (Group Spoken)
  pub said : List (Group Spoken)
  pub was : layout ≡ keyed before (text_elements speakers.on before)
  pub old : text_elements speakers.on before ≡ front ++ (gone ++ rest)
  pub new : text_elements speakers.on lines ≡ front ++ (spoken_elements speakers.on lines speakers.last blocks ++ said)
  pub still : All (GroupStays 0 0 before lines) front
  pub moved : All (GroupStays places.less places.more before lines) rest
  pub at : places ≡ places_of before front gone places.less places.more

-- The elements in front, those of the blocks, and those behind as they were, moved.
abbrev pub relaid_elements : (before lines : List LineState) (speakers : SpeakersOf) (blocks : List PlacedBlock) (places : PartPlaces) (layout : LayoutOf) → IsRelaid before lines speakers blocks places layout → List (Group Spoken)
relaid_elements before lines speakers blocks places layout it =
    it.front ++ (spoken_elements speakers.on lines speakers.last blocks ++ map (moved_group places.less places.more) it.rest)

-- Where the layout is that of a text before an edit, it becomes that of these elements.
abbrev pub IsLaidAnew : List LineState → SpeakersOf → List PlacedBlock → PartPlaces → LayoutOf → LayoutOf → Type 0
IsLaidAnew lines speakers blocks places old new =
    (before : List LineState) (it : IsRelaid before lines speakers blocks places old) → new ≡ keyed lines (relaid_elements before lines speakers blocks places old it)
