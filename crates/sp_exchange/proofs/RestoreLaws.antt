-- What an edit displaced can be put back, and putting it back twice changes nothing.
use Rattle.std.proofs.Common.{◌≡◌, ℕ, ◌+◌, ◌-◌, ◌≤◌, List, length, take, drop, sym, ap, ap₂, subst, ◌∙◌, arith}
use Rattle.std.proofs.lemmas.List.{append_cancel_left, append_cancel_right, length-map}
use Rattle.spec_text.specs.Lines.{LineState, TextState, IsText, line_texts}
use Rattle.spec_text.specs.Edits.{Displacement, displaced_again, restored}
use Rattle.spec_text.proofs.ExchangeLaws.{length-exchanged, length-stretch, stretch-exchanged}
use Rattle.spec_script.specs.BlockValues.{StanzaOf}
use Rattle.spec_edit.specs.Windows.{WasList, stanza_lines_in}
use Rattle.spec_edit.proofs.Counts.{count-from}
use Rattle.spec_edit.proofs.Edits.{edited-back, edited-lines}
use Rattle.sp_text.specs.DisplacedLines.{DisplacedState, displaced_of}
use Rattle.sp_text.specs.Gap.{LinesState, text_of}
use Rattle.sp_reread.specs.Cache.{GivesBack, SwappedState, exchanged}
use Rattle.sp_exchange.specs.Restoring.{CanRestoreText, HasRoomFor, IsSameText, IsTurned, Swap, TextOf, stanzas_in, swap_of, text_before, text_stanzas}

-- The stanzas before an edit are those of some text that the edit made this one.
pub was-list : (old new : TextState) (back : Displacement) (stanzas : List StanzaOf) → back.first + back.stands ≤ length new.lines → restored new back ≡ old → stanzas ≡ text_stanzas old
    → WasList stanzas (line_texts new.lines) back.first (length back.lines) back.stands
was-list old new back stanzas place leads is =
    let there = edited-lines new.lines back.lines back.first back.stands place in
    let before = line_texts (restored new back).lines in
    let edited = edited-back (line_texts new.lines) before back.first back.stands (length back.lines) there in
    record {
      before = before;
      is = record { edited = edited; all = is ∙ ap text_stanzas (sym leads) };
    }

-- A text has no more lines than its limit, and so have its stanzas.
pub text-low : (text : TextState) → IsText text → stanza_lines_in (text_stanzas text) ≤ 18446744073709551615
text-low text is = omega (arith, is.count, count-from (line_texts text.lines) 0, length-map text.lines (λ (line : LineState). line.text))

-- How many stanzas there are after an exchange.
pub gives-length : (swapped : SwappedState) (now before : List StanzaOf) → GivesBack swapped now before → length before + swapped.stands ≡ length now + length swapped.stanzas
gives-length swapped now before g =
    ap (λ (xs : List StanzaOf). length xs + swapped.stands) (sym g.gives) ∙ length-exchanged now swapped.at swapped.stands swapped.stanzas g.within

-- Putting back gives a text's stanzas, which have few lines.
pub gives-low : (swapped : SwappedState) (now : List StanzaOf) (text : TextState) → IsText text → GivesBack swapped now (text_stanzas text)
    → stanza_lines_in (exchanged now swapped.at swapped.stands swapped.stanzas) ≤ 18446744073709551615
gives-low swapped now text is g = subst (λ (xs : List StanzaOf). stanza_lines_in xs ≤ 18446744073709551615) (sym g.gives) (text-low text is)

-- What stands in a place of a list is told by the list.
exchange-same : (list xs ys : List StanzaOf) (at stands : ℕ) → exchanged list at stands xs ≡ exchanged list at stands ys → xs ≡ ys
exchange-same list xs ys at stands same =
    append_cancel_right xs ys (drop (at + stands) list) (append_cancel_left (take at list) _ _ same)

swap-same : (one other : SwappedState) → one.at ≡ other.at → one.stands ≡ other.stands → one.stanzas ≡ other.stanzas → swap_of one ≡ swap_of other
swap-same one other at stands stanzas =
    ap₂ (λ (a n : ℕ). let it : Swap = record { at = a; stands = n; stanzas = one.stanzas } in it) at stands
    ∙ ap (λ (xs : List StanzaOf). let it : Swap = record { at = other.at; stands = other.stands; stanzas = xs } in it) stanzas

-- Stanzas put back, and what that displaced, and what this displaced.
pub swapped-twice : (list after : List StanzaOf) (entry other back : SwappedState) → GivesBack entry list after → GivesBack other after list → GivesBack back list after
    → other.at ≡ entry.at → other.stands ≡ length entry.stanzas → back.at ≡ other.at → back.stands ≡ length other.stanzas → swap_of back ≡ swap_of entry
swapped-twice list after entry other back first second third at stands at_again stands_again =
    let place = at_again ∙ at in
    let many : back.stands ≡ entry.stands = omega (arith, stands, stands_again, gives-length entry list after first, gives-length other after list second) in
    swap-same back entry place many
    (exchange-same list back.stanzas entry.stanzas entry.at entry.stands (sym (ap₂ (λ (a n : ℕ). exchanged list a n back.stanzas) place many) ∙ third.gives ∙ sym first.gives))

-- What is displaced by restoring what was displaced.
displaced-twice : (text : TextState) (back : Displacement) → back.first + back.stands ≤ length text.lines → displaced_again (restored text back) (displaced_again text back) ≡ back
displaced-twice text back inside =
    ap₂ (λ (count : ℕ) (lines : List LineState). let it : Displacement = record { first = back.first; stands = count; lines = lines; next = back.next } in it)
    (length-stretch text.lines back.first back.stands inside)
    (stretch-exchanged text.lines back.first back.stands back.lines (omega (arith, inside)))

-- What was put back and displaced again is that again.
pub turned-twice : (text : TextState) (entry other back : DisplacedState) (swapped others backs : SwappedState) → CanRestoreText text entry swapped → IsTurned text entry swapped other others
    → IsTurned (text_before text entry) other others back backs → IsSameText back backs entry swapped
turned-twice text entry other back swapped others backs can turned again =
    let there = text_before text entry in
    let first = can.stanzas in
    let second = subst (GivesBack others (text_stanzas there)) (ap text_stanzas turned.leads) turned.can.stanzas in
    let third =
    subst (GivesBack backs (text_stanzas text)) (ap text_stanzas again.leads)
    (subst (λ (xs : List StanzaOf). GivesBack backs xs (text_stanzas (text_before (text_before there other) back))) (ap text_stanzas turned.leads) again.can.stanzas) in
    record {
      lines = again.are ∙ ap (displaced_again there) turned.are ∙ displaced-twice text (displaced_of entry) can.place;
      stanzas = swapped-twice (text_stanzas text) (text_stanzas there) swapped others backs first second third turned.at turned.stands again.at again.stands;
    }

-- There is room to put displaced lines back.
pub lines-room : (old new : LinesState) (back : DisplacedState) → back.first + back.stands ≤ length new.lines → text_before (text_of new) back ≡ text_of old → length old.lines ≤ old.room → old.room ≤ new.room
    → length new.lines - back.stands + length back.lines ≤ new.room
lines-room old new back place leads fits grows =
    let count = ap (λ (t : TextState). length t.lines) leads in
    let many = length-exchanged new.lines back.first back.stands back.lines place in
    omega (arith, count, many, place, fits, grows)

-- There is room to put displaced stanzas back.
pub stanzas-room : (swapped : SwappedState) (now before : List StanzaOf) (old new : ℕ) → GivesBack swapped now before → length before ≤ old → old ≤ new → length now - swapped.stands + length swapped.stanzas ≤ new
stanzas-room swapped now before old new g fits grows = omega (arith, gives-length swapped now before g, g.within, fits, grows)

-- There is room to take a change back.
pub room-back : (old new : TextOf) (back : DisplacedState) (swapped : SwappedState) → CanRestoreText (text_of new.lines) back swapped → text_before (text_of new.lines) back ≡ text_of old.lines
    → length old.lines.lines ≤ old.lines.room → old.lines.room ≤ new.lines.room → length (stanzas_in old) ≤ old.room → old.room ≤ new.room → back.stands ≤ back.room → swapped.stands ≤ swapped.room
    → HasRoomFor new back swapped
room-back old new back swapped can leads fits grows stanzas_fit stanzas_grow room swapped_room = record {
  lines_room = lines-room old.lines new.lines back can.place leads fits grows;
  displaced_room = room;
  stanzas_room =
      stanzas-room swapped (stanzas_in new) (stanzas_in old) old.room new.room
      (subst (λ (t : TextState). GivesBack swapped (stanzas_in new) (text_stanzas t)) leads can.stanzas) stanzas_fit stanzas_grow;
  swapped_room = swapped_room;
}

same-gives : (this that : SwappedState) (now before : List StanzaOf) → swap_of this ≡ swap_of that → GivesBack that now before → GivesBack this now before
same-gives this that now before is g = record {
  within = subst (λ (s : Swap). s.at + s.stands ≤ length now) (sym is) g.within;
  gives = ap (λ (s : Swap). exchanged now s.at s.stands s.stanzas) is ∙ g.gives;
}

-- The same can be put back.
pub same-can : (text : TextState) (one other : DisplacedState) (ones others : SwappedState) → IsSameText one ones other others → CanRestoreText text other others → CanRestoreText text one ones
same-can text one other ones others same can = record {
  place = subst (λ (d : Displacement). d.first + d.stands ≤ length text.lines) (sym same.lines) can.place;
  keeps = subst (λ (d : Displacement). IsText (restored text d)) (sym same.lines) can.keeps;
  stanzas =
      subst (λ (d : Displacement). GivesBack ones (text_stanzas text) (text_stanzas (restored text d))) (sym same.lines)
      (same-gives ones others (text_stanzas text) (text_stanzas (text_before text other)) same.stanzas can.stanzas);
}
