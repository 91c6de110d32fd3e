use Rattle.std.proofs.Common.{◌≡◌, ℕ, ◌≤◌, Option, Some, None, List, drop, length, ap, refl, sym, ◌∙◌, subst, arith}
use Rattle.std.specs.Prelude.{All, IfSome}
use Rattle.spec_text.specs.Limits.{size_limit}
use Rattle.spec_text.specs.Lines.{LineState}
use Rattle.spec_text.specs.Edits.{restored}
use Rattle.sp_text.specs.DisplacedLines.{displaced_of}
use Rattle.sp_text.specs.Gap.{text_of}
use Rattle.sp_compare.specs.declared.old_rows.RunPlaces.{RunPlaces}
use Rattle.sp_compare.specs.BareRows.{AreLaid, Both, StayOutside}
use Rattle.sp_compare.specs.OldElements.{AreOtherRows, OtherRowsOf, old_elements}
use Rattle.sp_layout.specs.Bodies.{KeyedElements, keyed_elements, row_count}
use Rattle.sp_layout.specs.Exchanges.{CanMove}
use Rattle.sp_layout.specs.LaidOut.{LayoutOf}
use Rattle.sp_layout.specs.declared.kept.PartPlaces.{PartPlaces}
use Rattle.sp_layout.specs.Changes.{CanChange, CanSpeak, ChangeOf, SpeechOf}
use Rattle.sp_layout.specs.Kept.{KeptOf, PartOf, laid_of}
use Rattle.sp_layout.specs.Outside.{StaysOutside}
use Rattle.sp_layout.proofs.RunsBack.{later-can}
use Rattle.sp_compare.proofs.StayLaws.{stay-outside}
use Rattle.sp_text_entry.specs.Relaid.{body_before, others_of}
use Rattle.sp_text_entry.proofs.carrying.both_texts.Goals as goal

-- A body, the elements that were taken out of it, and the rows that one behind them had.
record OfChange : Type 0 where
  body : KeyedElements
  gone : KeyedElements
  at : PartPlaces
  others : Option OtherRowsOf

abbrev run_places : PartPlaces → RunPlaces
run_places places = record { from = places.from; to = places.to; less = places.less; more = places.more }

abbrev olds_of : OfChange → KeyedElements
olds_of it = old_elements it.body it.others (run_places it.at) it.gone

abbrev of_change : LayoutOf → ChangeOf → OfChange
of_change layout change = record { body = layout.body; gone = keyed_elements change.part.kept.body; at = change.part.places; others = others_of change.speech }

-- What is asked of them.
record AskedOf (before lines : List LineState) (it : OfChange) : Type 0 where
  order : it.at.from ≤ it.at.to
  within : it.at.to ≤ length it.body.elements
  later : All (CanMove it.at.less it.at.more) (drop it.at.to it.body.elements)
  others : IfSome it.others (AreOtherRows it.body.elements it.at.to)
  few : row_count (olds_of it).elements ≤ size_limit
  olds : AreLaid before (olds_of it)
  news : AreLaid lines it.body
  outside : StayOutside before lines it.body.elements it.at.from it.at.to it.at.less it.at.more

-- The rows of a speech are those that its element had.
speech-others : (layout : LayoutOf) (to : ℕ) (speech : Option SpeechOf) → CanSpeak layout to speech → IfSome (others_of speech) (AreOtherRows layout.body.elements to)
speech-others layout to None can = tt
speech-others layout to (Some speech) can = record { behind = can.behind; inside = can.inside; alike = can.alike }

change-before : (layout : LayoutOf) (change : ChangeOf) → olds_of (of_change layout change) ≡ body_before layout change
change-before layout change = by change.speech
  where
    by : (speech : Option SpeechOf) → olds_of (of_change layout (record { speech = speech; part = change.part })) ≡ body_before layout (record { speech = speech; part = change.part })
    by None = refl
    by (Some speech) = refl

change-asked : (before lines : List LineState) (layout : LayoutOf) (change : ChangeOf) → CanChange layout change → row_count (body_before layout change).elements ≤ size_limit → AreLaid before (body_before layout change)
    → AreLaid lines layout.body → StaysOutside before lines layout.body.elements change.part.places → AskedOf before lines (of_change layout change)
change-asked before lines layout change can few olds news outside =
    let places = change.part.places in
    let elements = layout.body.elements in
    let body = can.part.body in
    let later = later-can places.less places.more (drop places.to elements) body.later in
    let was = sym (change-before layout change) in
    record {
      order = body.order;
      within = body.within;
      later = later;
      others = speech-others layout places.to change.speech can.speech;
      few = subst (λ (them : KeyedElements). row_count them.elements ≤ size_limit) was few;
      olds = subst (AreLaid before) was olds;
      news = news;
      outside = stay-outside before lines elements places.from places.to places.less places.more outside.front outside.behind later;
    }

-- What was read of a layout and of a change is theirs.
read-is : (read layout olds : KeptOf) (part own : PartOf) (speech : Option SpeechOf) (change : ChangeOf) (others : Option OtherRowsOf) → read ≡ layout → olds ≡ part.kept → part ≡ own
    → (let it : ChangeOf = record { speech = speech; part = own } in it ≡ change) → others ≡ others_of speech
    → (let it : OfChange = record { body = keyed_elements read.body; gone = keyed_elements olds.body; at = part.places; others = others } in it ≡ of_change (laid_of layout) change)
read-is read layout olds part own speech change others one two three four five =
    ap (λ (k : KeptOf). let it : OfChange = record { body = keyed_elements k.body; gone = keyed_elements olds.body; at = part.places; others = others } in it) one
    ∙ ap (λ (k : KeptOf). let it : OfChange = record { body = keyed_elements layout.body; gone = keyed_elements k.body; at = part.places; others = others } in it) two
    ∙ ap (λ (p : PartOf). let it : OfChange = record { body = keyed_elements layout.body; gone = keyed_elements p.kept.body; at = p.places; others = others } in it) three
    ∙ ap (λ (o : Option OtherRowsOf). let it : OfChange = record { body = keyed_elements layout.body; gone = keyed_elements own.kept.body; at = own.places; others = o } in it) five
    ∙ ap (of_change (laid_of layout)) four

pub exchanged-requires : goal.exchanged-requires
exchanged-requires c =
    let layout : LayoutOf = laid_of c.args.layout.now in
    let change = c.args.gone.now in
    let lines = c.args.lines.now.lines in
    let olds = subst (λ (was : List LineState). AreLaid was (body_before layout change)) (sym c.new.ensures) c.requires.olds in
    let outside = subst (λ (was : List LineState). StaysOutside was lines layout.body.elements change.part.places) (sym c.new.ensures) c.requires.outside in
    let is = read-is _ _ _ _ _ _ _ _ c.layout.view_is c.olds.view_is c.part.view_is c.gone.view_is c.other_rows-others.ensures in
    let asked = subst (AskedOf c.new.result lines) (sym is) (change-asked c.new.result lines layout change c.requires.can_change c.requires.few olds c.requires.news outside) in
    let few = asked.few in
    record {
      order = asked.order;
      within = asked.within;
      later = asked.later;
      others = asked.others;
      few = omega (arith, few);
      olds = asked.olds;
      news = asked.news;
      outside = asked.outside;
    }

pub returns : goal.returns
returns c =
    let layout : LayoutOf = laid_of c.args.layout.now in
    let change = c.args.gone.now in
    let old = (restored (text_of c.args.lines.now) (displaced_of c.args.displaced.now)).lines in
    let lines = c.args.lines.now.lines in
    let both : List LineState → OfChange → Both = λ (was : List LineState) (it : OfChange). record { old = was; olds = (olds_of it).elements; new = lines; news = it.body.elements } in
    let is = read-is _ _ _ _ _ _ _ _ c.layout.view_is c.olds.view_is c.part.view_is c.gone.view_is c.other_rows-others.ensures in
    let was : Both = record { old = old; olds = (body_before layout change).elements; new = lines; news = layout.body.elements } in
    let end : both old (of_change layout change) ≡ was =
    ap (λ (olds : KeyedElements). let it : Both = record { old = old; olds = olds.elements; new = lines; news = layout.body.elements } in it) (change-before layout change) in
    c.exchanged.ensures
    ∙ ap (λ (was : List LineState). both was (record { body = keyed_elements c.layout.inside.body; gone = keyed_elements c.olds.inside.body; at = c.part.inside.places; others = c.other_rows-others.result })) c.new.ensures
    ∙ ap (both old) is ∙ end
