-- An entry that is turned twice is the same again, the same entry leads to the same state, and an entry has the range of its edit.
use Rattle.std.proofs.Common.{◌≡◌, ◌≢◌, ℕ, zero, suc, ◌+◌, ◌<◌, Bool, cond, Option, Some, None, List, [], ◌∷◌, length, map, get_or, ne_eqb, eq-eqb, refl, ap, ap₂, sym, ◌∙◌, subst, arith}
use Rattle.std.specs.Prelude.{All, AllPairs, IfSome, slice_get, unwrap_or, option_map}
use Rattle.std.proofs.lemmas.List.Elements.{All-head, All-tail}
use Rattle.spec_text.specs.Lines.{TextState}
use Rattle.spec_text.specs.Edits.{EditOf, Displacement, displaced_by, refusal_of, replacement_of, restored}
use Rattle.spec_text.specs.Ranges.{RangeOf, range_of}
use Rattle.spec_text.proofs.ExchangeLaws.{length-stretch}
use Rattle.spec_text.proofs.TakenEdits.{taken-inside}
use Rattle.spec_labels.specs.declared.Moved.{Moved}
use Rattle.spec_labels.specs.PageRecords.{PageRecordOf, moved_of, moved_at, with_anchor, put_back_from, put_back_records, taken_back}
use Rattle.spec_labels.proofs.PutBackLaws.{put_back-twice}
use Rattle.spec_state.specs.State.{State, text_of}
use Rattle.sp_exchange.proofs.RestoreLaws.{turned-twice as text-twice, same-can as same-restores}
use Rattle.sp_text_entry.specs.TextEntries.{TextEntryState, CanTurnText, FitRecords, IsSameTextEntry, IsTextTurned, displaced, done_lines, had_by, turned_lines, turned_text, with_text}

-- ---- turning twice

moved_at-found : (moved : List Moved) (k : ℕ) (d : Moved) → k < length moved → AllPairs (λ (one other : Moved). one.index ≢ other.index) moved → moved_at moved (get_or moved k d).index ≡ Some (get_or moved k d)
moved_at-found [] k d within distinct = absurd (omega (arith, within))
moved_at-found (it ∷ moved) zero d within distinct = ap (λ (b : Bool). cond b (Some it) (moved_at moved it.index)) (eq-eqb it.index it.index refl)
moved_at-found (it ∷ moved) (suc k) d within distinct =
    ap (λ (b : Bool). cond b (Some it) (moved_at moved (get_or moved k d).index)) (ne_eqb it.index (get_or moved k d).index (distinct 0 (suc k) d (omega arith) within))
    ∙ moved_at-found moved k d (omega (arith, within)) (λ i j e less inside. distinct (suc i) (suc j) e (omega (arith, less)) (omega (arith, inside)))

slice_get-put_back : (moved : List Moved) (index k : ℕ) (records : List PageRecordOf)
    → slice_get (put_back_from moved index records) k ≡ option_map (λ (it : PageRecordOf). with_anchor it (moved_at moved (index + k))) (slice_get records k)
slice_get-put_back moved index k [] = refl
slice_get-put_back moved index zero (it ∷ records) = ap (λ (n : ℕ). Some (with_anchor it (moved_at moved n))) (let e : index ≡ index + 0 = omega arith in e)
slice_get-put_back moved index (suc k) (it ∷ records) =
    slice_get-put_back moved (index + 1) k records
    ∙ ap (λ (n : ℕ). option_map (λ (one : PageRecordOf). with_anchor one (moved_at moved n)) (slice_get records k)) (let e : index + 1 + k ≡ index + suc k = omega arith in e)

-- What was taken for something that is kept is that again.
taken-again : (records : List PageRecordOf) (moved : List Moved) (it : Moved) → moved_at moved it.index ≡ Some it → taken_back (put_back_records moved records) (taken_back records it) ≡ it
taken-again records moved it found = by (slice_get records it.index) refl
  where
    all : List PageRecordOf
    all = put_back_records moved records

    there : slice_get all it.index ≡ option_map (λ (one : PageRecordOf). with_anchor one (Some it)) (slice_get records it.index)
    there =
        slice_get-put_back moved 0 it.index records
        ∙ ap (λ (o : Option Moved). option_map (λ (one : PageRecordOf). with_anchor one o) (slice_get records it.index))
        (ap (moved_at moved) (let e : 0 + it.index ≡ it.index = omega arith in e) ∙ found)

    by : (o : Option PageRecordOf) → slice_get records it.index ≡ o → taken_back all (taken_back records it) ≡ it
    by None is =
        ap (taken_back all) (ap (λ (o : Option PageRecordOf). unwrap_or (option_map (moved_of it.index) o) it) is)
        ∙ ap (λ (o : Option PageRecordOf). unwrap_or (option_map (moved_of it.index) o) it)
        (there ∙ ap (option_map (λ (one : PageRecordOf). with_anchor one (Some it))) is)
    by (Some one) is =
        ap (taken_back all) (ap (λ (o : Option PageRecordOf). unwrap_or (option_map (moved_of it.index) o) it) is)
        ∙ ap (λ (o : Option PageRecordOf). unwrap_or (option_map (moved_of it.index) o) (moved_of it.index one))
        (there ∙ ap (option_map (λ (other : PageRecordOf). with_anchor other (Some it))) is)

map-back : {X : Type 0} (f g : X → X) (xs : List X) → All (λ (x : X). f (g x) ≡ x) xs → map f (map g xs) ≡ xs
map-back f g [] all = refl
map-back {X = X} f g (x ∷ xs) all =
    ap₂ (λ (y : X) (ys : List X). y ∷ ys) (All-head (λ (y : X). f (g y) ≡ y) x xs all) (map-back f g xs (All-tail (λ (y : X). f (g y) ≡ y) x xs all))

-- What is taken by putting back what was taken.
pub taken-twice : (records : List PageRecordOf) (moved : List Moved) → AllPairs (λ (one other : Moved). one.index ≢ other.index) moved
    → map (taken_back (put_back_records moved records)) (map (taken_back records) moved) ≡ moved
taken-twice records moved distinct =
    map-back (taken_back (put_back_records moved records)) (taken_back records) moved
    (λ k d within. taken-again records moved (get_or moved k d) (moved_at-found moved k d within distinct))

-- Two lists that are put back, one after the other, and then what each took, in the other order.
had-twice : (pages : Option (List PageRecordOf)) (first second : List Moved) → IfSome pages (FitRecords first) → IfSome pages (λ records. FitRecords second (put_back_records first records))
    → let others = had_by pages first in let laters = had_by (option_map (put_back_records first) pages) second in
    let after = option_map (λ records. put_back_records second (put_back_records first records)) pages in
    (had_by (option_map (put_back_records laters) after) others ≡ first) × (had_by after laters ≡ second)
had-twice None first second fits later_fits = (refl, refl)
had-twice (Some records) first second fits later_fits =
    let middle = put_back_records first records in (
      ap (λ (rs : List PageRecordOf). map (taken_back rs) (map (taken_back records) first)) (put_back-twice middle second) ∙ taken-twice records first fits.distinct,
      taken-twice middle second later_fits.distinct,
    )

-- What turning an entry left leads back to that entry.
pub turned-twice : (state : State) (entry other back : TextEntryState) → CanTurnText state entry → IsTextTurned state entry other → IsTextTurned (turned_text state entry) other back → IsSameTextEntry back entry
turned-twice state entry other back can turned again =
    let both = had-twice state.pages entry.first entry.second can.first_fits can.second_fits in
    let after = (turned_text state entry).pages in
    record {
      text = text-twice (text_of state) entry.lines other.lines back.lines entry.stanzas other.stanzas back.stanzas can.text turned.text again.text;
      first = again.first ∙ ap₂ (λ (first second : List Moved). had_by (option_map (put_back_records first) after) second) turned.first turned.second ∙ both.0;
      second = again.second ∙ ap (had_by after) turned.first ∙ both.1;
    }

-- ---- the same entry

pub same-turned_text : (state : State) (one other : TextEntryState) → IsSameTextEntry one other → turned_text state one ≡ turned_text state other
same-turned_text state one other same =
    ap₂ (λ (d : Displacement) (pages : Option (List PageRecordOf)). with_text state (restored (text_of state) d) pages) same.text.lines
    (ap₂ (λ (first second : List Moved). option_map (λ records. put_back_records second (put_back_records first records)) state.pages) same.first same.second)

pub same-done_lines : (one other : TextEntryState) → IsSameTextEntry one other → done_lines one ≡ done_lines other
same-done_lines one other same = ap (λ (d : Displacement). record { first = d.first; old = length d.lines; new = d.stands }) same.text.lines

pub same-turned_lines : (one other : TextEntryState) → IsSameTextEntry one other → turned_lines one ≡ turned_lines other
same-turned_lines one other same = ap (λ (d : Displacement). record { first = d.first; old = d.stands; new = length d.lines }) same.text.lines

pub same-CanTurnText : (state : State) (one other : TextEntryState) → IsSameTextEntry one other → CanTurnText state other → CanTurnText state one
same-CanTurnText state one other same can = record {
  text = same-restores (text_of state) one.lines other.lines one.stanzas other.stanzas same.text can.text;
  first_fits = subst (λ (first : List Moved). IfSome state.pages (FitRecords first)) (sym same.first) can.first_fits;
  second_fits = subst (λ (first : List Moved). IfSome state.pages (λ records. FitRecords one.second (put_back_records first records))) (sym same.first)
      (subst (λ (second : List Moved). IfSome state.pages (λ records. FitRecords second (put_back_records other.first records))) (sym same.second) can.second_fits);
}

-- ---- the entry of an edit

-- The range of an entry is that of its edit.
pub edited-range : (text : TextState) (edit : EditOf) (entry : TextEntryState) → refusal_of text edit ≡ None → displaced entry ≡ displaced_by text (replacement_of text.lines edit)
    → done_lines entry ≡ range_of (replacement_of text.lines edit)
edited-range text edit entry taken is =
    let it = replacement_of text.lines edit in
    ap (λ (d : Displacement). let range : RangeOf = record { first = d.first; old = length d.lines; new = d.stands } in range) is
    ∙ ap (λ (old : ℕ). let range : RangeOf = record { first = it.first; old = old; new = length it.texts } in range) (length-stretch text.lines it.first it.old (taken-inside text edit taken))
