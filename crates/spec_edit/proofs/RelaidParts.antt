-- The elements of a text before and after an edit, of which those at both ends stay.
use Rattle.std.proofs.Common.{◌≡◌, ℕ, Bool, List, [], ◌∷◌, ◌++◌, map, Option, None, inl, inr, refl, sym, ap, ◌∙◌}
use Rattle.std.specs.Prelude.{All}
use Rattle.spec_text.specs.Lines.{LineState, line_texts}
use Rattle.spec_script.specs.LongestRuns.{Group}
use Rattle.spec_script.specs.Stanzas.{PlacedBlock}
use Rattle.spec_sheets.specs.Speakers.{Spoken, spoken_elements, text_elements}
use Rattle.spec_edit.specs.Moved.{moved_block, speaker_behind, AreApart, BeginsApart}
use Rattle.spec_edit.specs.RelaidBlocks.{AreRelaid}
use Rattle.spec_edit.proofs.Parts.{spoken-apart, behind-append}
use Rattle.spec_edit.proofs.MovedElements.{GroupStays, SpokenStays, spoken-stays}
use Rattle.spec_edit.proofs.LayoutParts.{still-blocks, still-groups}

-- The elements in front, those that go, those that come and those behind.
-- `stay` tells of those behind whoever else spoke last before them.
pub record ElementsRelaid (on : Bool) (before lines : List LineState) (less more : ℕ) (front gone come rest : List PlacedBlock) : Type 0 where
  pub elements_front : List (Group Spoken)
  pub elements_gone : List (Group Spoken)
  pub elements_rest : List (Group Spoken)
  pub front_is : elements_front ≡ spoken_elements on before None front
  pub gone_is : elements_gone ≡ spoken_elements on before (speaker_behind (line_texts before) None front) gone
  pub rest_is : elements_rest ≡ spoken_elements on before (speaker_behind (line_texts before) None (front ++ gone)) rest
  pub old : text_elements on before ≡ elements_front ++ (elements_gone ++ elements_rest)
  pub new : text_elements on lines
      ≡ elements_front ++ (spoken_elements on lines (speaker_behind (line_texts lines) None front) come ++ spoken_elements on lines (speaker_behind (line_texts lines) None (front ++ come)) (map (moved_block less more) rest))
  pub still : All (GroupStays 0 0 before lines) elements_front
  pub moved : All (GroupStays less more before lines) elements_rest
  pub stay : (last : Option (List ℕ)) → SpokenStays less more before lines on last rest

three-parts : (on : Bool) (lines : List LineState) (front mid rest : List PlacedBlock) → AreApart mid rest
    → spoken_elements on lines None (front ++ (mid ++ rest)) ≡ spoken_elements on lines None front ++ spoken_elements on lines (speaker_behind (line_texts lines) None front) (mid ++ rest)
    → spoken_elements on lines None (front ++ (mid ++ rest))
    ≡ spoken_elements on lines None front ++ (spoken_elements on lines (speaker_behind (line_texts lines) None front) mid ++ spoken_elements on lines (speaker_behind (line_texts lines) None (front ++ mid)) rest)
three-parts on lines front mid rest apart split =
    let texts = line_texts lines in
    let last = speaker_behind texts None front in
    split ∙ ap (λ (those : List (Group Spoken)). spoken_elements on lines None front ++ those)
    (spoken-apart on lines last mid rest apart ∙ ap (λ it. spoken_elements on lines last mid ++ spoken_elements on lines it rest) (sym (behind-append texts None front mid)))

moved-apart : (less more : ℕ) (rest : List PlacedBlock) → BeginsApart rest → BeginsApart (map (moved_block less more) rest)
moved-apart less more [] apart = tt
moved-apart less more (block ∷ rest) apart = apart

pub elements-relaid : (on : Bool) (before lines : List LineState) (less more : ℕ) (front gone come rest : List PlacedBlock) → AreRelaid before lines less more front gone come rest
    → ElementsRelaid on before lines less more front gone come rest
elements-relaid on before lines less more front gone come rest it =
    let texts = line_texts before in
    let later = line_texts lines in
    let moved = map (moved_block less more) rest in
    let behind = speaker_behind texts None (front ++ gone) in
    let own = spoken_elements on before None front in
    let last = spoken_elements on before behind rest in
    let still = spoken-stays 0 0 before lines on None 0 front it.still it.front_rise in
    let stays : (who : Option (List ℕ)) → SpokenStays less more before lines on who rest = λ who. spoken-stays less more before lines on who it.place rest it.moved it.rest_rise in
    let old_split : spoken_elements on before None (front ++ (gone ++ rest)) ≡ own ++ spoken_elements on before (speaker_behind texts None front) (gone ++ rest) =
    spoken-apart on before None front (gone ++ rest) it.front_apart.0 in
    let new_split : spoken_elements on lines None (front ++ (come ++ moved)) ≡ spoken_elements on lines None front ++ spoken_elements on lines (speaker_behind later None front) (come ++ moved) =
    spoken-apart on lines None front (come ++ moved) it.front_apart.1 in
    let old_apart : AreApart gone rest = elim it.rest_apart [
      | inl both ↦ inr (inl both.0)
      | inr begins ↦ inr (inr begins)
    ] in
    let new_apart : AreApart come moved = elim it.rest_apart [
      | inl both ↦ inr (inl both.1)
      | inr begins ↦ inr (inr (moved-apart less more rest begins))
    ] in
    let same_front : spoken_elements on lines None front ≡ own = ap (spoken_elements on lines None) (sym (still-blocks front)) ∙ still.same ∙ still-groups own in
    record {
      elements_front = own;
      elements_gone = spoken_elements on before (speaker_behind texts None front) gone;
      elements_rest = last;
      front_is = refl;
      gone_is = refl;
      rest_is = refl;
      old = ap (spoken_elements on before None) it.old ∙ three-parts on before front gone rest old_apart old_split;
      new = ap (spoken_elements on lines None) it.new ∙ three-parts on lines front come moved new_apart new_split
          ∙ ap (λ (xs : List (Group Spoken)). xs ++ (spoken_elements on lines (speaker_behind later None front) come ++ spoken_elements on lines (speaker_behind later None (front ++ come)) moved)) same_front;
      still = still.each;
      moved = (stays behind).each;
      stay = stays;
    }
