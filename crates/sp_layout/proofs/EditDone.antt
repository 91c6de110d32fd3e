-- The layout of the text after an edit, once the part and the speech behind it are exchanged.
use Rattle.std.proofs.Common.{◌≡◌, ℕ, Bool, Option, Some, None, List, ◌++◌, length, filter, sym, ap, ◌∙◌, arith, append_assoc, length-append}
use Rattle.std.proofs.lemmas.List.{length-map}
use Rattle.std.proofs.lemmas.Option.{slice_get_within}
use Rattle.spec_text.specs.Lines.{LineState, TextState, IsText, line_texts}
use Rattle.spec_script.specs.BlockValues.{StanzaOf}
use Rattle.spec_script.specs.LongestRuns.{Group}
use Rattle.spec_script.specs.Stanzas.{PlacedBlock, stanzas_of}
use Rattle.spec_pages.specs.Rows.{ElementOf}
use Rattle.spec_sheets.specs.Speakers.{Spoken, spoken_elements, text_elements}
use Rattle.spec_sheets.specs.Layout.{in_body, laid_out}
use Rattle.spec_edit.proofs.LayoutParts.{laid_of, laid-append}
use Rattle.sp_layout.specs.LaidOut.{LayoutOf, keyed, layout_behind}
use Rattle.sp_layout.specs.Speaking.{SpeakersOf}
use Rattle.sp_reread.specs.Cache.{SwappedState}
use Rattle.sp_layout.specs.declared.edges.PartEdge.{PartEdge}
use Rattle.sp_layout.specs.declared.kept.PartPlaces.{PartPlaces}
use Rattle.sp_layout.specs.Kept.{places_back}
use Rattle.sp_layout.specs.Changes.{CanSpeak, SpeechOf, with_speech}
use Rattle.sp_layout.specs.Relaid.{relaid_elements}
use Rattle.sp_layout.specs.Speeches.{CanStandIn, IsSaidAnew, LastOf, SaidOf, IsPlacedIn, blocks_behind}
use Rattle.sp_layout.specs.Edited.{last_behind}
use Rattle.sp_layout.proofs.EditedLaws.{EditedPart}
use Rattle.sp_layout.proofs.SpokenAnew.{spoken-same}
use Rattle.sp_layout.proofs.SpeechLaws.{parted-at, speech-done}
use Rattle.sp_layout.proofs.StanzaLists.{one-there}

-- However many rows they have, elements are so many.
same-count : (one other : List LineState) (groups : List (Group Spoken)) → length (laid_of in_body one groups) ≡ length (laid_of in_body other groups)
same-count one other groups = length-map (filter in_body groups) (laid_out one) ∙ sym (length-map (filter in_body groups) (laid_out other))

module _ (olds before : List LineState) (text : TextState) (stanzas : List StanzaOf) (swapped : SwappedState) (on : Bool) (stop : PartEdge) (layout : LayoutOf) (speakers : SpeakersOf) (blocks : List PlacedBlock) (places : PartPlaces)
    (it : EditedPart olds before text.lines stanzas swapped on stop layout speakers blocks places) (mid : LayoutOf)
    (is : mid ≡ keyed text.lines (relaid_elements before text.lines speakers blocks places layout it.relaid)) (keeps : IsText text) (list : stanzas ≡ stanzas_of (line_texts text.lines)) (same : speakers.on ≡ on) where
  abbrev ls : List LineState
  ls = text.lines

  abbrev last : LastOf
  last = last_behind olds ls stanzas swapped on stop.stanza

  abbrev come : List (Group Spoken)
  come = spoken_elements speakers.on ls speakers.last blocks

  abbrev fore : List (Group Spoken)
  fore = it.relaid.front ++ come

  abbrev behind : List PlacedBlock
  behind = blocks_behind stanzas stop.stanza

  mid-was : mid ≡ keyed ls (fore ++ spoken_elements on ls last.before.last behind)
  mid-was =
      is ∙ ap (λ (gs : List (Group Spoken)). keyed ls gs) (ap (λ (gs : List (Group Spoken)). it.relaid.front ++ (come ++ gs)) it.behind.rest_now ∙ sym (append_assoc it.relaid.front come (spoken_elements on ls last.before.last behind)))

  text-is : fore ++ spoken_elements on ls last.after.last behind ≡ text_elements on ls
  text-is =
      append_assoc it.relaid.front come (spoken_elements on ls last.after.last behind) ∙ ap (λ (gs : List (Group Spoken)). it.relaid.front ++ (come ++ gs)) (sym it.behind.said_now)
      ∙ sym it.relaid.new ∙ ap (λ whose. text_elements whose ls) same

  -- Where the part ends that came.
  abbrev to : ℕ
  to = (places_back places (layout_behind ls speakers blocks)).to

  to-is : to ≡ length (laid_of in_body ls fore)
  to-is =
      let from = ap (λ (p : PartPlaces). p.from) it.relaid.at in
      omega (arith, from, same-count before ls it.relaid.front, ap (λ (es : List ElementOf). length es) (laid-append in_body ls it.relaid.front come), length-append (laid_of in_body ls it.relaid.front) (laid_of in_body ls come))

  pub can-stand : (said : Option SaidOf) → IsSaidAnew ls stanzas stop.stanza last said → CanStandIn stanzas mid.body.elements said
  can-stand None anew = tt
  can-stand (Some said) anew =
      let first = anew.first.is in
      record {
        inside = slice_get_within stanzas said.place.stanza first.stanza first.there;
        block = λ s there.
            let own = one-there stanzas said.place.stanza s first.stanza there first.there in
            let within = slice_get_within first.stanza.blocks said.place.block first.block first.at in
            omega (arith, within, ap (λ (one : StanzaOf). length one.blocks) own);
        parted = parted-at stanzas stop.stanza said.place first anew.first.says text keeps list on last.before.last last.after.last fore mid mid-was it.behind.low;
      }

  -- What the speech's exchange needs, and makes.
  pub record IsEditDone (speech : Option SpeechOf) : Type 0 where
    pub can : CanSpeak mid to speech
    pub layout_is : with_speech mid speech ≡ keyed ls (text_elements on ls)

  pub edit-done : (said : Option SaidOf) (speech : Option SpeechOf) → IsSaidAnew ls stanzas stop.stanza last said → IsPlacedIn stanzas mid.body.elements said speech → IsEditDone speech
  edit-done None None anew there = record {
    can = tt;
    layout_is = mid-was ∙ ap (λ (gs : List (Group Spoken)). keyed ls gs) (ap (λ (gs : List (Group Spoken)). fore ++ gs) (spoken-same on ls last.before.last last.after.last behind anew) ∙ text-is);
  }
  edit-done None (Some speech) anew there = absurd there
  edit-done (Some said) None anew there = absurd there
  edit-done (Some said) (Some speech) anew there =
      let first = anew.first.is in
      let done = speech-done stanzas stop.stanza said.place first anew.first.says text keeps list on last.before.last last.after.last fore mid mid-was it.behind.low speech there.element (there.rows ∙ anew.rows) in
      let low = done.in_it.behind in
      record {
        can = record { behind = omega (arith, low, to-is); inside = done.in_it.inside; alike = done.in_it.alike };
        layout_is = done.laid ∙ ap (λ (gs : List (Group Spoken)). keyed ls gs) text-is;
      }
