-- The rows that an edit of a state exchanges, by what is found.
use Rattle.std.proofs.Common.{◌≡◌, ℕ, ◌+◌, ◌-◌, ◌≤◌, Bool, Option, List, [], ◌∷◌, ◌++◌, length, map, take, drop, refl, sym, ap, ap₂, subst, ◌∙◌, arith, take-add}
use Rattle.std.specs.Prelude.{filter, min}
use Rattle.std.proofs.lemmas.List.Sums.{sum_by-cons}
use Rattle.spec_text.specs.Lines.{IsText, LineState, line_texts}
use Rattle.spec_text.specs.Edits.{Replacement, stretch, line_ids, put_by}
use Rattle.spec_text.specs.Ranges.{range_of}
use Rattle.spec_text.proofs.EditLaws.{length-lines_put}
use Rattle.spec_script.specs.BlockValues.{BlockOf, StanzaOf}
use Rattle.spec_script.specs.LongestRuns.{Group}
use Rattle.spec_script.specs.Stanzas.{stanzas_of, stanzas_from}
use Rattle.spec_script.specs.Elements.{elements_in}
use Rattle.spec_pages.specs.Rows.{ElementOf}
use Rattle.spec_sheets.specs.Speakers.{Spoken}
use Rattle.spec_sheets.specs.Layout.{in_body, laid_out}
use Rattle.spec_state.specs.State.{State, text_of}
use Rattle.spec_state.specs.Keeping.{IsWhole}
use Rattle.spec_state.specs.StateSheets.{layout_in, rows_in}
use Rattle.spec_state.specs.Changes.{CanEdit, edited_state}
use Rattle.spec_edit.specs.Windows.{IsEdited, stanza_lines_in, stanzas_between}
use Rattle.spec_edit.specs.Displaced.{AreOfWindow, DisplacesWindow}
use Rattle.spec_edit.specs.WindowBlocks.{WindowBlocks, first_block, front_relaid, old_relaid, new_relaid}
use Rattle.spec_edit.proofs.Counts.{count-between}
use Rattle.spec_edit.proofs.Edits.{edited-lines}
use Rattle.spec_edit.proofs.Resync.{window-cuts, old-cuts}
use Rattle.spec_edit.specs.PageWindows.{Exchange}
use Rattle.spec_edit.specs.Touched.{EditBlocks}
use Rattle.spec_edit.proofs.WindowExists.{window-exists}
use Rattle.spec_locked_pages.specs.LockedPages.{IsWindowOf, edit_blocks}
use Rattle.spec_locked_pages.proofs.StateScripts.{script_of, blocks_in, elements-scripted}
use Rattle.spec_locked_pages.proofs.EditedStates.{new-whole, lines-moved}
use Rattle.spec_refill.specs.Exchanges.{count_rows, blocks_round, elements_before, edit_exchange}
use Rattle.spec_refill.proofs.ElementMarks.{count-marks}
use Rattle.spec_refill.proofs.EditExchange.{state-rows, around, olds-are, news-are, sound, rows-parted}
use Rattle.sp_reread.specs.Cache.{SwappedState}
use Rattle.sp_layout.specs.Bodies.{row_count}
use Rattle.sp_refill.specs.Edits.{AreAhead, IsBehindSomeEdit, IsOfEdit, IsOfSomeEdit, RowsAheadOf}
use Rattle.sp_refill.specs.Neighbours.{nearer, first_in, last_in, relays_front, parts_rest, relays_before, parts_behind}
use Rattle.sp_refill.specs.Counts.{RowsBefore, RowsUpTo}
use Rattle.sp_refill.proofs.NextBlocks.{block_by, last-in-append, first-is, last-is, rest_parted, front-relaid, rest-parts}
use Rattle.sp_refill.proofs.Bodies.{body_in, body-rows, before-one, up-to-one}
use Rattle.sp_refill.proofs.Relaid.{old-found, new-found}

-- What is found of an edit, and the rows that it exchanges.
pub record WindowFound (stanzas : List StanzaOf) (at stands : ℕ) (gone : List StanzaOf) (olds news : List ElementOf) (it : Exchange) : Type 0 where
  pub within : at + stands ≤ length stanzas
  pub first : RowsBefore olds (stanza_lines_in (take at stanzas)) (relays_before stanzas at stands gone) it.first
  pub past : ℕ
  pub up_to : RowsUpTo news (stanza_lines_in (take (at + stands) stanzas)) (parts_behind stanzas at stands gone) past
  pub order : it.first ≤ past
  pub inside : past ≤ row_count news
  pub old_inside : it.first + (row_count news - past) ≤ row_count olds
  pub old_is : it.old ≡ row_count olds - it.first - (row_count news - past) + min 1 (row_count news - past)
  pub new_is : it.new ≡ past - it.first + min 1 (row_count news - past)

body-is : (state : State) → IsText (text_of state) → (layout_in state).body ≡ body_in (script_of state) (blocks_in state)
body-is state is = ap (λ (es : List (Group Spoken)). map (laid_out state.lines) (filter in_body es)) (elements-scripted state is)

body-count : (state : State) → IsWhole state → row_count (layout_in state).body ≡ length (rows_in state)
body-count state whole =
    ap row_count (body-is state whole.text) ∙ body-rows (script_of state) (blocks_in state) ∙ sym (count-marks state.lines (blocks_in state)) ∙ sym (state-rows state whole)

sum-append : (xs ys : List StanzaOf) → stanza_lines_in (xs ++ ys) ≡ stanza_lines_in xs + stanza_lines_in ys
sum-append [] ys = omega arith
sum-append (x ∷ xs) ys =
    let rest = sum-append xs ys in
    let one = sum_by-cons (λ (s : StanzaOf). s.lines) x xs in
    let all = sum_by-cons (λ (s : StanzaOf). s.lines) x (xs ++ ys) in
    omega (arith, rest, one, all)

take-two : {X : Type 0} (n m : ℕ) (xs : List X) → n + m ≤ length xs → take (n + m) xs ≡ take n xs ++ take m (drop n xs)
take-two n m xs low = take-add n m xs

-- Rows of both texts, by how many stand before the relaid elements, in them and behind them.
record Numbers (olds news first gone come behind old_count new_count : ℕ) : Type 0 where
  all_old : old_count ≡ olds
  all_new : new_count ≡ news
  old_are : olds ≡ first + gone + behind
  new_are : news ≡ first + come + behind

inside-rows : (olds news first gone come behind old_count new_count : ℕ) → Numbers olds news first gone come behind old_count new_count → first + come ≤ new_count
inside-rows olds news first gone come behind old_count new_count is = let x = is.all_new in let y = is.new_are in omega (arith, x, y)

old-inside : (olds news first gone come behind old_count new_count : ℕ) → Numbers olds news first gone come behind old_count new_count → first + (new_count - (first + come)) ≤ old_count
old-inside olds news first gone come behind old_count new_count is =
    let x = is.all_new in let y = is.new_are in let z = is.all_old in let v = is.old_are in omega (arith, x, y, z, v)

old-number : (olds news first gone come behind old_count new_count : ℕ) → Numbers olds news first gone come behind old_count new_count
    → gone + min 1 (olds - (first + gone)) ≡ old_count - first - (new_count - (first + come)) + min 1 (new_count - (first + come))
old-number olds news first gone come behind old_count new_count is =
    let x = is.all_new in let y = is.new_are in let z = is.all_old in let v = is.old_are in omega (arith, x, y, z, v)

new-number : (olds news first gone come behind old_count new_count : ℕ) → Numbers olds news first gone come behind old_count new_count
    → come + min 1 (news - (first + come)) ≡ first + come - first + min 1 (new_count - (first + come))
new-number olds news first gone come behind old_count new_count is = let x = is.all_new in let y = is.new_are in omega (arith, x, y)

module _ (state : State) (it : Replacement) (whole : IsWhole state) (can : CanEdit state it) (a b : ℕ) (window : IsWindowOf (range_of it) state (edited_state state it) a b) where
  abbrev after : State
  after = edited_state state it

  abbrev was : ℕ
  was = b + it.old - length it.texts

  abbrev edit : EditBlocks
  edit = edit_blocks (range_of it) state after a b

  abbrev w : WindowBlocks
  w = blocks_round (range_of it) state after a b

  edited : IsEdited (line_texts state.lines) (line_texts after.lines) it.first it.old (length it.texts)
  edited =
      subst (IsEdited (line_texts state.lines) (line_texts after.lines) it.first it.old)
      (length-lines_put (stretch (line_ids state.lines) it.first it.old) state.next state.round it.texts)
      (edited-lines state.lines (put_by (text_of state) it state.round) it.first it.old can.inside)

  abbrev first_rows : ℕ
  first_rows = count_rows state.lines (elements_before a w)

  abbrev come_rows : ℕ
  come_rows = count_rows after.lines (elements_in (new_relaid w))

  first-found : RowsBefore (layout_in state).body a (front_relaid w) first_rows
  first-found =
      subst (λ (es : List ElementOf). RowsBefore es a (front_relaid w) first_rows) (sym (body-is state whole.text ∙ ap (body_in (script_of state)) (olds-are state it whole can a b window)))
      (old-found edit w (around state it whole can a b window) (script_of state) (script_of after) (lines-moved state it whole can) (sound state it whole can a b window))

  past-found : RowsUpTo (layout_in after).body b (rest_parted w) (first_rows + come_rows)
  past-found =
      subst (λ (es : List ElementOf). RowsUpTo es b (rest_parted w) (first_rows + come_rows)) (sym (body-is after (new-whole state it whole can).text ∙ ap (body_in (script_of after)) (news-are state it whole can a b window)))
      (new-found edit w (around state it whole can a b window) (script_of state) (script_of after) (lines-moved state it whole can) (sound state it whole can a b window))

  module _ (at stands : ℕ) (gone : List StanzaOf) (of : AreOfWindow (line_texts state.lines) (line_texts after.lines) a b was at stands gone) where
    abbrev now : List StanzaOf
    now = stanzas_of (line_texts after.lines)

    front-take : take (at + stands) now ≡ stanzas_between (line_texts state.lines) 0 a ++ stanzas_between (line_texts after.lines) a b
    front-take = take-two at stands now of.within ∙ ap₂ (λ (x y : List StanzaOf). x ++ y) of.front of.come

    line-a : stanza_lines_in (take at now) ≡ a
    line-a =
        let cuts = old-cuts (line_texts state.lines) (line_texts after.lines) it.first it.old (length it.texts) a b edited window in
        let count = count-between (line_texts state.lines) 0 a (omega (arith, cuts.0, cuts.3)) in
        let is = ap stanza_lines_in of.front in
        omega (arith, is, count)

    line-b : stanza_lines_in (take (at + stands) now) ≡ b
    line-b =
        let olds = old-cuts (line_texts state.lines) (line_texts after.lines) it.first it.old (length it.texts) a b edited window in
        let cuts = window-cuts (line_texts state.lines) (line_texts after.lines) it.first it.old (length it.texts) a b edited window in
        let count = count-between (line_texts state.lines) 0 a (omega (arith, olds.0, olds.3)) in
        let more = count-between (line_texts after.lines) a b cuts.3 in
        let is = ap stanza_lines_in front-take in
        let sum = sum-append (stanzas_between (line_texts state.lines) 0 a) (stanzas_between (line_texts after.lines) a b) in
        let order = cuts.0 in
        omega (arith, is, sum, count, more, order)

    relays : relays_before now at stands gone ≡ front_relaid w
    relays =
        sym (front-relaid w
        ∙ ap₂ (λ (f g : Option BlockOf). relays_front f g (block_by (first_block w.come)) (block_by (first_block w.rest)))
        (last-is 0 (stanzas_between (line_texts state.lines) 0 a) ∙ sym (ap last_in of.front)) (first-is a (stanzas_between (line_texts state.lines) a was) ∙ sym (ap first_in of.gone_are))
        ∙ ap₂ (λ (c r : Option BlockOf). relays_front (last_in (take at now)) (first_in gone) c r)
        (first-is a (stanzas_between (line_texts after.lines) a b) ∙ sym (ap first_in of.come)) (first-is 0 (stanzas_from (line_texts after.lines) b) ∙ sym (ap first_in of.rest)))

    parts : parts_behind now at stands gone ≡ rest_parted w
    parts =
        let front = last-is 0 (stanzas_between (line_texts state.lines) 0 a) in
        sym (rest-parts w
        ∙ ap₂ (λ (o n : Option BlockOf). parts_rest o n (block_by (first_block w.rest)))
        (ap₂ (λ (x y : Option BlockOf). nearer x y) (last-is a (stanzas_between (line_texts state.lines) a was) ∙ sym (ap last_in of.gone_are)) (front ∙ sym (ap last_in of.front)))
        (ap₂ (λ (x y : Option BlockOf). nearer x y) (last-is a (stanzas_between (line_texts after.lines) a b)) front
        ∙ sym (last-in-append (stanzas_between (line_texts state.lines) 0 a) (stanzas_between (line_texts after.lines) a b)) ∙ sym (ap last_in front-take))
        ∙ ap (λ (r : Option BlockOf). parts_rest (nearer (last_in gone) (last_in (take at now))) (last_in (take (at + stands) now)) r) (first-is 0 (stanzas_from (line_texts after.lines) b) ∙ sym (ap first_in of.rest)))

    found : WindowFound now at stands gone (layout_in state).body (layout_in after).body (edit_exchange (range_of it) state after a b)
    found =
        let all = rows-parted state it whole can a b window in
        let gone_rows = count_rows state.lines (elements_in (old_relaid w)) in
        let olds = length (rows_in state) in
        let news = length (rows_in after) in
        let old_count = row_count (layout_in state).body in
        let new_count = row_count (layout_in after).body in
        let numbers : Numbers olds news first_rows gone_rows come_rows all.behind old_count new_count = record {
          all_old = body-count state whole;
          all_new = body-count after (new-whole state it whole can);
          old_are = all.old_are;
          new_are = all.new_are;
        } in
        record {
          within = of.within;
          first =
              subst (λ n. RowsBefore (layout_in state).body n (relays_before now at stands gone) first_rows) (sym line-a)
              (subst (λ f. RowsBefore (layout_in state).body a f first_rows) (sym relays) first-found);
          past = first_rows + come_rows;
          up_to =
              subst (λ n. RowsUpTo (layout_in after).body n (parts_behind now at stands gone) (first_rows + come_rows)) (sym line-b)
              (subst (λ f. RowsUpTo (layout_in after).body b f (first_rows + come_rows)) (sym parts) past-found);
          order = omega arith;
          inside = inside-rows olds news first_rows gone_rows come_rows all.behind old_count new_count numbers;
          old_inside = old-inside olds news first_rows gone_rows come_rows all.behind old_count new_count numbers;
          old_is = old-number olds news first_rows gone_rows come_rows all.behind old_count new_count numbers;
          new_is = new-number olds news first_rows gone_rows come_rows all.behind old_count new_count numbers;
        }

-- What is found of the edit of a state.
pub window-found : (state : State) (it : Replacement) (lines : List LineState) (stanzas : List StanzaOf) (swapped : SwappedState) (news : List ElementOf) (a b : ℕ)
    → IsOfEdit state it lines stanzas swapped → news ≡ (layout_in (edited_state state it)).body → IsWindowOf (range_of it) state (edited_state state it) a b
    → WindowFound stanzas swapped.at swapped.stands swapped.stanzas (layout_in state).body news (edit_exchange (range_of it) state (edited_state state it) a b)
window-found state it lines stanzas swapped news a b is news_are window =
    let after = edited_state state it in
    let exchange = edit_exchange (range_of it) state after a b in
    let displaces : DisplacesWindow (line_texts state.lines) (line_texts after.lines) it.first it.old (length it.texts) swapped.at swapped.stands swapped.stanzas =
    subst (λ (ls : List LineState). DisplacesWindow (line_texts state.lines) (line_texts ls) it.first it.old (length it.texts) swapped.at swapped.stands swapped.stanzas) is.lines_are is.window in
    let own : stanzas ≡ stanzas_of (line_texts after.lines) = is.stanzas_are ∙ ap (λ (ls : List LineState). stanzas_of (line_texts ls)) is.lines_are in
    subst (λ (ss : List StanzaOf). WindowFound ss swapped.at swapped.stands swapped.stanzas (layout_in state).body news exchange) (sym own)
    (subst (λ (es : List ElementOf). WindowFound (stanzas_of (line_texts after.lines)) swapped.at swapped.stands swapped.stanzas (layout_in state).body es exchange) (sym news_are)
    (found state it is.whole is.can a b window swapped.at swapped.stands swapped.stanzas (displaces.are a b window)))

-- Of some edit.
pub record SomeFound (stanzas : List StanzaOf) (swapped : SwappedState) (olds news : List ElementOf) : Type 0 where
  pub exchange : Exchange
  pub found : WindowFound stanzas swapped.at swapped.stands swapped.stanzas olds news exchange

some-found : (state : State) (it : Replacement) (lines : List LineState) (stanzas : List StanzaOf) (swapped : SwappedState) (news : List ElementOf) → IsOfEdit state it lines stanzas swapped
    → news ≡ (layout_in (edited_state state it)).body → SomeFound stanzas swapped (layout_in state).body news
some-found state it lines stanzas swapped news is news_are =
    let exists = window-exists (line_texts state.lines) (line_texts (edited_state state it).lines) it.first it.old (length it.texts) in
    record {
      exchange = edit_exchange (range_of it) state (edited_state state it) exists.0 exists.1;
      found = window-found state it lines stanzas swapped news exists.0 exists.1 is news_are exists.2;
    }

pub ahead-found : (lines : List LineState) (stanzas : List StanzaOf) (swapped : SwappedState) (olds : List ElementOf) (some : IsOfSomeEdit lines stanzas swapped olds)
    → SomeFound stanzas swapped olds (layout_in (edited_state some.state some.it)).body
ahead-found lines stanzas swapped olds some =
    let news = (layout_in (edited_state some.state some.it)).body in
    subst (λ (es : List ElementOf). SomeFound stanzas swapped es news) (sym some.olds_are) (some-found some.state some.it lines stanzas swapped news some.is refl)

pub behind-found : (lines : List LineState) (stanzas : List StanzaOf) (swapped : SwappedState) (rows : RowsAheadOf) (news : List ElementOf) (some : IsBehindSomeEdit lines stanzas swapped rows news)
    → SomeFound stanzas swapped (layout_in some.state).body news
behind-found lines stanzas swapped rows news some = some-found some.state some.it lines stanzas swapped news some.is some.news_are

-- ---- by the numbers of a search

pub at-front : (elements : List ElementOf) (line other count : ℕ) (relaid flag : Bool) → line ≡ other → relaid ≡ flag → RowsBefore elements line relaid count → RowsBefore elements other flag count
at-front elements line other count relaid flag line_is flag_is found = subst (λ n. RowsBefore elements n flag count) line_is (subst (λ f. RowsBefore elements line f count) flag_is found)

pub at-rest : (elements : List ElementOf) (line other count : ℕ) (relaid flag : Bool) → line ≡ other → relaid ≡ flag → RowsUpTo elements line relaid count → RowsUpTo elements other flag count
at-rest elements line other count relaid flag line_is flag_is found = subst (λ n. RowsUpTo elements n flag count) line_is (subst (λ f. RowsUpTo elements line f count) flag_is found)

-- So many rows of the new body stand before those behind the exchanged ones.
abbrev pub IsPast : List StanzaOf → SwappedState → List ElementOf → ℕ → Type 0
IsPast stanzas swapped news past =
    RowsUpTo news (stanza_lines_in (take (swapped.at + swapped.stands) stanzas)) (parts_behind stanzas swapped.at swapped.stands swapped.stanzas) past

-- What a search found is the same.
record SameRows (rows : RowsAheadOf) (past : ℕ) (olds : List ElementOf) (first last : ℕ) : Type 0 where
  first_is : rows.first ≡ first
  past_is : past ≡ last
  all_is : rows.all ≡ row_count olds

same-rows : (stanzas : List StanzaOf) (swapped : SwappedState) (olds news : List ElementOf) (rows : RowsAheadOf) (past : ℕ) (it : Exchange) → AreAhead stanzas swapped olds rows → IsPast stanzas swapped news past
    → (found : WindowFound stanzas swapped.at swapped.stands swapped.stanzas olds news it) → SameRows rows past olds it.first found.past
same-rows stanzas swapped olds news rows past it are up_to found = record {
  first_is = before-one olds (stanza_lines_in (take swapped.at stanzas)) rows.first it.first (relays_before stanzas swapped.at swapped.stands swapped.stanzas) are.first found.first;
  past_is = up-to-one news (stanza_lines_in (take (swapped.at + swapped.stands) stanzas)) past found.past (parts_behind stanzas swapped.at swapped.stands swapped.stanzas) up_to found.up_to;
  all_is = are.all;
}

exchange-one : (one other : Exchange) → one.first ≡ other.first → one.old ≡ other.old → one.new ≡ other.new → one ≡ other
exchange-one one other first old new =
    ap₂ (λ n m. record { first = n; old = m; new = one.new }) first old ∙ ap (λ n. record { first = other.first; old = other.old; new = n }) new

pub same-exchange : (stanzas : List StanzaOf) (swapped : SwappedState) (olds news : List ElementOf) (rows : RowsAheadOf) (past : ℕ) (one it : Exchange) → AreAhead stanzas swapped olds rows → IsPast stanzas swapped news past
    → WindowFound stanzas swapped.at swapped.stands swapped.stanzas olds news it → one.first ≡ rows.first → one.old ≡ rows.all - rows.first - (row_count news - past) + min 1 (row_count news - past)
    → one.new ≡ past - rows.first + min 1 (row_count news - past) → one ≡ it
same-exchange stanzas swapped olds news rows past one it are up_to found first_is old_is new_is =
    let same = same-rows stanzas swapped olds news rows past it are up_to found in
    let begin = same.first_is in
    let end = same.past_is in
    exchange-one one it (first_is ∙ begin)
    (old_is ∙ ap (λ k. k - rows.first - (row_count news - past) + min 1 (row_count news - past)) same.all_is
    ∙ ap₂ (λ n m. row_count olds - n - (row_count news - m) + min 1 (row_count news - m)) begin end ∙ sym found.old_is)
    (new_is ∙ ap₂ (λ n m. m - n + min 1 (row_count news - m)) begin end ∙ sym found.new_is)

-- Then rows are exchanged that there are.
pub record InOrder (first past olds news : ℕ) : Type 0 where
  pub order : first ≤ past
  pub inside : past ≤ news
  pub old_inside : first + (news - past) ≤ olds

pub found-order : (stanzas : List StanzaOf) (swapped : SwappedState) (olds news : List ElementOf) (rows : RowsAheadOf) (past : ℕ) → AreAhead stanzas swapped olds rows → IsPast stanzas swapped news past
    → SomeFound stanzas swapped olds news → InOrder rows.first past rows.all (row_count news)
found-order stanzas swapped olds news rows past are up_to some =
    let found = some.found in
    let same = same-rows stanzas swapped olds news rows past some.exchange are up_to found in
    subst (λ k. InOrder rows.first past k (row_count news)) (sym same.all_is)
    (subst (λ n. InOrder n past (row_count olds) (row_count news)) (sym same.first_is)
    (subst (λ n. InOrder some.exchange.first n (row_count olds) (row_count news)) (sym same.past_is) (record { order = found.order; inside = found.inside; old_inside = found.old_inside })))
