-- The blocks of a text before and after an edit, by its stanzas.
use Rattle.std.proofs.Common.{◌≡◌, ℕ, ◌+◌, ◌<◌, ◌≤◌, List, [], ◌∷◌, ◌++◌, length, map, Option, None, inl, inr, sym, ap, ap₂, subst, ◌∙◌, arith, append_assoc}
use Rattle.std.specs.Prelude.{All}
use Rattle.std.specs.Str.{IsUtf8}
use Rattle.std.proofs.lemmas.List.Elements.{All-nil, All-cons, All-head, All-tail}
use Rattle.spec_text.specs.Limits.{line_count_limit}
use Rattle.spec_text.specs.Lines.{LineState, line_texts}
use Rattle.spec_text.proofs.ListLaws.{All-front, All-back}
use Rattle.spec_script.specs.BlockParts.{Rise}
use Rattle.spec_script.specs.BlockValues.{StanzaOf}
use Rattle.spec_script.specs.Stanzas.{PlacedBlock, blocks_from, blocks_of, stanzas_of}
use Rattle.spec_pages.specs.Rows.{line_state}
use Rattle.spec_sheets.proofs.ElementPlaces.{LinesRise, placed_from, placed_to, blocks_of-stand}
use Rattle.spec_edit.specs.Windows.{HasFrom, stanza_lines_in}
use Rattle.spec_edit.proofs.Places.{at_place, front-between, has-all}
use Rattle.spec_edit.proofs.WindowSides.{EndsBy, StandsIn, between-in, front-ends}
use Rattle.spec_edit.specs.Moved.{moved_place, moved_block, BlockStays, speaker_behind, BeginsApart}
use Rattle.spec_edit.specs.RelaidBlocks.{AreRelaid}
use Rattle.spec_edit.specs.RelaidStanzas.{OpensApart, StanzasRelaid}
use Rattle.spec_edit.proofs.Parts.{behind-append}
use Rattle.spec_edit.proofs.MovedElements.{behind-stays}
use Rattle.spec_edit.proofs.StanzaBlocks.{lines-append, blocks-three, blocks-moved, blocks-past, places-rise, closes-ends, closes-more, opens-begin, opens-apart, opens-more}

-- A block has a line, and its lines stand in it.
pub record IsWhole (placed : PlacedBlock) : Type 0 where
  pub lines : LinesRise placed
  pub some : placed.block.first < placed.block.last + 1

rise-some : (low high : ℕ) (blocks : List PlacedBlock) → All LinesRise blocks → Rise placed_from placed_to low high blocks → All IsWhole blocks
rise-some low high [] lines rise = All-nil IsWhole
rise-some low high (block ∷ blocks) lines rise =
    let some = rise.1 in
    All-cons IsWhole block blocks (record { lines = All-head LinesRise block blocks lines; some = omega (arith, some) }) (rise-some (placed_to block) high blocks (All-tail LinesRise block blocks lines) rise.2)

pub blocks-whole : (texts : List (List ℕ)) → All IsUtf8 texts → length texts ≤ line_count_limit → All IsWhole (blocks_of texts)
blocks-whole texts utf8 few =
    let stand = blocks_of-stand texts utf8 few in
    rise-some 0 (length texts) (blocks_of texts) (λ k d h. (stand.each k d h).lines) stand.rise

-- The first stanzas of a text are those up to the place behind them, and their blocks stand before it.
pub record FrontStands (front : List StanzaOf) : Type 0 where
  pub each : All (StandsIn 0 (stanza_lines_in front)) (blocks_from 0 front)
  pub ends : All (EndsBy (stanza_lines_in front)) (blocks_from 0 front)

pub front-stands : (texts : List (List ℕ)) (front behind : List StanzaOf) → All IsUtf8 texts → length texts ≤ line_count_limit → stanzas_of texts ≡ front ++ behind → FrontStands front
front-stands texts front behind utf8 few is =
    let none : 0 + stanza_lines_in front ≡ stanza_lines_in front = omega arith in
    let has : HasFrom texts (stanza_lines_in front) behind = subst (λ p. HasFrom texts p behind) none (at_place texts 0 front behind (has-all texts (front ++ behind) (sym is))) in
    let same = front-between texts 0 (stanza_lines_in front) front behind (omega arith) is has in
    record {
      each = subst (λ ss. All (StandsIn 0 (stanza_lines_in front)) (blocks_from 0 ss)) (sym same) (between-in texts 0 (stanza_lines_in front) (omega arith) has.low);
      ends = subst (λ ss. All (EndsBy (stanza_lines_in front)) (blocks_from 0 ss)) (sym same) (front-ends texts (stanza_lines_in front) utf8 few has.low);
    }

-- A block that stands before a place stays where the lines up to it do, and one behind a place where the lines from it on do.
pub front-block : (before lines : List LineState) (end : ℕ) (block : PlacedBlock) → ((place : ℕ) → place < end → line_state lines place ≡ line_state before place) → IsWhole block → placed_to block ≤ end
    → BlockStays 0 0 before lines block
front-block before lines end block same whole ends = record {
  rise = whole.lines;
  some = whole.some;
  low = omega arith;
  line = λ n above below.
      let still : moved_place 0 0 (block.first + n) ≡ block.first + n = omega arith in
      ap (line_state lines) still ∙ same (block.first + n) (omega (arith, below, ends));
}

rest-block : (before lines : List LineState) (less more : ℕ) (block : PlacedBlock) → ((place : ℕ) → less ≤ place → line_state lines (moved_place less more place) ≡ line_state before place) → IsWhole block
    → less ≤ block.first → BlockStays less more before lines block
rest-block before lines less more block same whole low = record {
  rise = whole.lines;
  some = whole.some;
  low = low;
  line = λ n above below. same (block.first + n) (omega (arith, low));
}

-- Who spoke last behind four lists of blocks.
behind-four : (texts : List (List ℕ)) (last : Option (List ℕ)) (ws xs ys zs : List PlacedBlock)
    → speaker_behind texts last (ws ++ (xs ++ (ys ++ zs))) ≡ speaker_behind texts (speaker_behind texts (speaker_behind texts (speaker_behind texts last ws) xs) ys) zs
behind-four texts last ws xs ys zs =
    behind-append texts last ws (xs ++ (ys ++ zs)) ∙ behind-append texts (speaker_behind texts last ws) xs (ys ++ zs) ∙ behind-append texts (speaker_behind texts (speaker_behind texts last ws) xs) ys zs

module _ (before lines : List LineState) (front ahead gone come behind rest : List StanzaOf) (start was end : ℕ) (it : StanzasRelaid before lines front ahead gone come behind rest start was end) where
  abbrev f : ℕ
  f = stanza_lines_in front

  abbrev place : ℕ
  place = was + stanza_lines_in behind

  abbrev moved : PlacedBlock → PlacedBlock
  moved block = moved_block was end block

  starts : 0 + f ≡ f
  starts = omega arith

  old-at : 0 + f + stanza_lines_in (ahead ++ (gone ++ behind)) ≡ place
  old-at = let one = it.start_is in let two = it.was_is in omega (arith, lines-append ahead (gone ++ behind), lines-append gone behind, one, two)

  new-at : 0 + f + stanza_lines_in (ahead ++ (come ++ behind)) ≡ moved_place was end place
  new-at = let one = it.start_is in let two = it.end_is in omega (arith, lines-append ahead (come ++ behind), lines-append come behind, one, two)

  pub old-blocks : blocks_of (line_texts before) ≡ blocks_from 0 front ++ (blocks_from f (ahead ++ (gone ++ behind)) ++ blocks_from place rest)
  old-blocks =
      ap (blocks_from 0) it.old ∙ blocks-three 0 front (ahead ++ (gone ++ behind)) rest
      ∙ ap₂ (λ n m. blocks_from 0 front ++ (blocks_from n (ahead ++ (gone ++ behind)) ++ blocks_from m rest)) starts old-at

  pub new-blocks : blocks_of (line_texts lines) ≡ blocks_from 0 front ++ (blocks_from f (ahead ++ (come ++ behind)) ++ map moved (blocks_from place rest))
  new-blocks =
      ap (blocks_from 0) it.new ∙ blocks-three 0 front (ahead ++ (come ++ behind)) rest
      ∙ ap₂ (λ n m. blocks_from 0 front ++ (blocks_from n (ahead ++ (come ++ behind)) ++ blocks_from m rest)) starts new-at
      ∙ ap (λ (bs : List PlacedBlock). blocks_from 0 front ++ (blocks_from f (ahead ++ (come ++ behind)) ++ bs)) (blocks-moved was end place rest (omega arith))

  -- The blocks before the window, in it and behind it.
  old-window : blocks_from f (ahead ++ (gone ++ behind)) ≡ blocks_from f ahead ++ (blocks_from start gone ++ blocks_from was behind)
  old-window =
      let one : f + stanza_lines_in ahead ≡ start = sym it.start_is in
      let two : f + stanza_lines_in ahead + stanza_lines_in gone ≡ was = let is = it.was_is in omega (arith, one, is) in
      blocks-three f ahead gone behind ∙ ap₂ (λ n m. blocks_from f ahead ++ (blocks_from n gone ++ blocks_from m behind)) one two

  new-window : blocks_from f (ahead ++ (come ++ behind)) ≡ blocks_from f ahead ++ (blocks_from start come ++ map moved (blocks_from was behind))
  new-window =
      let one : f + stanza_lines_in ahead ≡ start = sym it.start_is in
      let two : f + stanza_lines_in ahead + stanza_lines_in come ≡ moved_place was end was = let is = it.end_is in omega (arith, one, is) in
      blocks-three f ahead come behind ∙ ap₂ (λ n m. blocks_from f ahead ++ (blocks_from n come ++ blocks_from m behind)) one two
      ∙ ap (λ (bs : List PlacedBlock). blocks_from f ahead ++ (blocks_from start come ++ bs)) (blocks-moved was end was behind (omega arith))

  module _ (utf8 : All IsUtf8 (line_texts before)) (few : length (line_texts before) ≤ line_count_limit) where
    all-whole : All IsWhole (blocks_from 0 front ++ (blocks_from f (ahead ++ (gone ++ behind)) ++ blocks_from place rest))
    all-whole = subst (All IsWhole) old-blocks (blocks-whole (line_texts before) utf8 few)

    later-whole : All IsWhole (blocks_from f (ahead ++ (gone ++ behind)) ++ blocks_from place rest)
    later-whole = All-back IsWhole (blocks_from 0 front) (blocks_from f (ahead ++ (gone ++ behind)) ++ blocks_from place rest) all-whole

    behind-whole : All IsWhole (blocks_from was behind)
    behind-whole =
        let window = subst (All IsWhole) old-window (All-front IsWhole (blocks_from f (ahead ++ (gone ++ behind))) (blocks_from place rest) later-whole) in
        All-back IsWhole (blocks_from start gone) (blocks_from was behind) (All-back IsWhole (blocks_from f ahead) (blocks_from start gone ++ blocks_from was behind) window)

    front-stay : All (BlockStays 0 0 before lines) (blocks_from 0 front)
    front-stay =
        let whole = All-front IsWhole (blocks_from 0 front) (blocks_from f (ahead ++ (gone ++ behind)) ++ blocks_from place rest) all-whole in
        let stands = front-stands (line_texts before) front ((ahead ++ (gone ++ behind)) ++ rest) utf8 few it.old in
        let is = it.start_is in
        λ k d h. let ends = stands.ends k d h in front-block before lines start _ it.still (whole k d h) (omega (arith, ends, is))

    rest-stay : All (BlockStays was end before lines) (blocks_from place rest)
    rest-stay =
        let whole = All-back IsWhole (blocks_from f (ahead ++ (gone ++ behind))) (blocks_from place rest) later-whole in
        let past = blocks-past was place rest (omega arith) in
        λ k d h. rest-block before lines was end _ it.moved (whole k d h) (past k d h)

    behind-stay : All (BlockStays was end before lines) (blocks_from was behind)
    behind-stay =
        let past = blocks-past was was behind (omega arith) in
        λ k d h. rest-block before lines was end _ it.moved (behind-whole k d h) (past k d h)

    -- Who spoke last behind the part in the text before the edit, by who did behind the window.
    pub old-last : (speaker_behind (line_texts before) None (blocks_from 0 front ++ blocks_from f (ahead ++ (gone ++ behind))))
        ≡ speaker_behind (line_texts lines) (speaker_behind (line_texts before) (speaker_behind (line_texts before) (speaker_behind (line_texts before) None (blocks_from 0 front)) (blocks_from f ahead)) (blocks_from start gone))
        (map moved (blocks_from was behind))
    old-last =
        let olds = line_texts before in
        let one = blocks_from 0 front in
        let two = blocks_from f ahead in
        let past = blocks_from was behind in
        ap (λ (bs : List PlacedBlock). speaker_behind olds None (one ++ bs)) old-window ∙ behind-four olds None one two (blocks_from start gone) past
        ∙ sym (behind-stays was end before lines (speaker_behind olds (speaker_behind olds (speaker_behind olds None one) two) (blocks_from start gone)) past behind-stay)

    -- The blocks of the text before the edit and after it.
    pub stanzas-relaid : AreRelaid before lines was end (blocks_from 0 front) (blocks_from f (ahead ++ (gone ++ behind))) (blocks_from f (ahead ++ (come ++ behind))) (blocks_from place rest)
    stanzas-relaid = record {
      old = old-blocks;
      new = new-blocks;
      front_apart = elim it.front_apart [
        | inl none ↦ let is = ap (blocks_from 0) none in (inl is, inl is)
        | inr either ↦ elim either [
          | inl closes ↦ let ends = closes-ends 0 front closes in (inr (inl ends), inr (inl ends))
          | inr opens ↦ (
            inr (inr (opens-begin f (ahead ++ (gone ++ behind)) (blocks_from place rest) (subst OpensApart (append_assoc ahead gone behind) (opens-more (ahead ++ gone) behind opens.0)))),
            inr (inr (opens-begin f (ahead ++ (come ++ behind)) (map moved (blocks_from place rest)) (subst OpensApart (append_assoc ahead come behind) (opens-more (ahead ++ come) behind opens.1)))),
          )
        ]
      ];
      rest_apart = elim it.rest_apart [
        | inl none ↦ inr (subst (λ ss. BeginsApart (blocks_from place ss)) (sym none) tt)
        | inr either ↦ elim either [
          | inl closes ↦ inl (
            closes-ends f (ahead ++ (gone ++ behind)) (closes-more ahead (gone ++ behind) (closes-more gone behind closes)),
            closes-ends f (ahead ++ (come ++ behind)) (closes-more ahead (come ++ behind) (closes-more come behind closes)),
          )
          | inr opens ↦ inr (opens-apart place rest opens)
        ]
      ];
      still = front-stay;
      moved = rest-stay;
      front_rise = places-rise 0 0 front (omega arith);
      place = place;
      rest_rise = places-rise place place rest (omega arith);
    }
