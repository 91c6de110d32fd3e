-- The walk over the segments of records that gives sheets their rounds.
use Rattle.std.proofs.Common.{◌≡◌, ℕ, suc, ◌+◌, ◌<◌, ◌≤◌, List, [], ◌∷◌, ◌++◌, length, map, take, drop, refl, ap, ap₂, sym, ◌∙◌, subst, append_assoc, arith}
use Rattle.std.specs.Prelude.{flat_map, All}
use Rattle.std.proofs.lemmas.List.{append_cancel_left, at_drop_all, drop-drop, drop-map, drop_at, length-append, length-drop, length-map, length-take, take-map, take_all, take_at}
use Rattle.std.proofs.lemmas.List.Elements.{All-cons, All-head, All-nil, All-tail}
use Rattle.std.proofs.lemmas.Slice.{take-put_mid, drop-put_mid}
use borrow.Rule.Slice.PartMut.{put_mid}
use Rattle.spec_labels.specs.PageRecords.{PageRecordOf, SegmentOf, SheetOf, AreStarts, segments, page_sheet, page_sheets, runs_of, run_sheets, sheets_of_records}
use Rattle.sp_locks.specs.Rounds.{AreButForRounds, in_round}
use Rattle.sp_locks.proofs.SheetWalk.{Walked, Walked-start, Walked-end}

-- The sheets of the records from an index on.
abbrev pub left : ℕ → List PageRecordOf → List ℕ → List ℕ → ℕ → List SheetOf
left rows records starts pages index = flat_map (run_sheets pages) (runs_of (segments rows (drop index records) (drop index starts)))

-- How far the walk has come: sheets before a place are done, those from it on have all but their rounds.
pub record RoundsTo (rows : ℕ) (records : List PageRecordOf) (starts pages : List ℕ) (index page place : ℕ) (sheets : List SheetOf) : Type 0 where
  pub walked : Walked rows records starts pages index page (take place sheets)
  pub within : place ≤ length sheets
  pub rest : AreButForRounds (drop place sheets) (left rows records starts pages index)

pub RoundsTo-start : (rows : ℕ) (records : List PageRecordOf) (starts pages : List ℕ) (sheets : List SheetOf) → 0 < length records → AreStarts rows records starts
    → AreButForRounds sheets (sheets_of_records rows records starts pages) → RoundsTo rows records starts pages 0 0 0 sheets
RoundsTo-start rows records starts pages sheets some are same = record {
  walked = Walked-start rows records starts pages some are;
  within = omega arith;
  rest = same;
}

pub RoundsTo-end : (rows : ℕ) (records : List PageRecordOf) (starts pages : List ℕ) (index page place : ℕ) (sheets : List SheetOf) → length records ≤ index
    → RoundsTo rows records starts pages index page place sheets → sheets ≡ sheets_of_records rows records starts pages
RoundsTo-end rows records starts pages index page place sheets all to =
    let none : left rows records starts pages index ≡ [] = at_drop_all (λ (rs : List PageRecordOf). flat_map (run_sheets pages) (runs_of (segments rows rs (drop index starts)))) records index all in
    let count : length (drop place sheets) ≡ 0 = sym (length-map (drop place sheets) (in_round 0)) ∙ ap length (to.rest.same ∙ ap (map (in_round 0)) none) in
    sym (take_all place sheets (omega (arith, count, length-drop place sheets)))
    ∙ Walked-end rows records starts pages index page (take place sheets) all to.walked

-- Sheets that are others but for their rounds are those in the round that all of these have.
rounds-set : (round : ℕ) (ones others : List SheetOf) → map (in_round 0) ones ≡ map (in_round 0) others → All (λ (sheet : SheetOf). sheet.round ≡ round) others → map (in_round round) ones ≡ others
rounds-set round [] [] same all = refl
rounds-set round [] (other ∷ others) same all = absurd (let bad : ⊥ = cc in bad)
rounds-set round (one ∷ ones) [] same all = absurd (let bad : ⊥ = cc in bad)
rounds-set round (one ∷ ones) (other ∷ others) same all =
    let first : in_round 0 one ≡ in_round 0 other = cc in
    let later : map (in_round 0) ones ≡ map (in_round 0) others = cc in
    let here = All-head (λ (sheet : SheetOf). sheet.round ≡ round) other others all in
    ap₂ (λ (sheet : SheetOf) (sheets : List SheetOf). sheet ∷ sheets)
    (ap (in_round round) first ∙ ap (λ n. in_round n other) (sym here))
    (rounds-set round ones others later (All-tail (λ (sheet : SheetOf). sheet.round ≡ round) other others all))

-- The sheets of the next records get their round.
pub RoundsTo-more : (rows : ℕ) (records : List PageRecordOf) (starts pages : List ℕ) (index page place later behind k end round : ℕ) (sheets made news : List SheetOf)
    → RoundsTo rows records starts pages index page place sheets → Walked rows records starts pages later behind (take place sheets ++ made) → k ≡ length made → end ≡ place + k
    → All (λ (sheet : SheetOf). sheet.round ≡ round) made → news ≡ map (in_round round) (take k (drop place sheets))
    → RoundsTo rows records starts pages later behind end (put_mid place k sheets news)
RoundsTo-more rows records starts pages index page place later behind k end round sheets made news to walked is ends all set = record {
  walked = subst (Walked rows records starts pages later behind) (sym front) walked;
  within = omega (arith, counted, ap length whole, length-append (take place sheets) (news ++ drop k old), length-append news (drop k old), length-take place sheets, to.within, ends, news-count);
  rest = record { same = ap (map (in_round 0)) back ∙ behind-same };
}
  where
    old : List SheetOf
    old = drop place sheets

    rest : List SheetOf
    rest = left rows records starts pages later

    parts : left rows records starts pages index ≡ made ++ rest
    parts = append_cancel_left (take place sheets) (left rows records starts pages index) (made ++ rest) (to.walked.sheets ∙ sym walked.sheets ∙ append_assoc (take place sheets) made rest)

    same : map (in_round 0) old ≡ map (in_round 0) (made ++ rest)
    same = to.rest.same ∙ ap (map (in_round 0)) parts

    counted : length old ≡ k + length rest
    counted = sym (length-map old (in_round 0)) ∙ ap length same ∙ length-map (made ++ rest) (in_round 0) ∙ length-append made rest ∙ ap (λ n. n + length rest) (sym is)

    here : map (in_round 0) (take k old) ≡ map (in_round 0) made
    here = sym (take-map (in_round 0) k old) ∙ ap (take k) same ∙ take-map (in_round 0) k (made ++ rest) ∙ ap (map (in_round 0)) (take_at made rest k (sym is))

    behind-same : map (in_round 0) (drop k old) ≡ map (in_round 0) rest
    behind-same = sym (drop-map (in_round 0) k old) ∙ ap (drop k) same ∙ drop-map (in_round 0) k (made ++ rest) ∙ ap (map (in_round 0)) (drop_at made rest k (sym is))

    news-are : news ≡ made
    news-are = set ∙ rounds-set round (take k old) made here all

    news-count : length news ≡ k
    news-count = ap length news-are ∙ sym is

    whole : put_mid place k sheets news ≡ take place sheets ++ (news ++ drop k old)
    whole = refl

    front : take end (put_mid place k sheets news) ≡ take place sheets ++ made
    front = take-put_mid place k sheets news end (omega (arith, ends, news-count)) to.within ∙ ap (λ (those : List SheetOf). take place sheets ++ those) news-are

    back : drop end (put_mid place k sheets news) ≡ drop k old
    back = drop-put_mid place k sheets news end (omega (arith, ends)) to.within news-count ∙ ap (λ n. drop n sheets) ends ∙ sym (drop-drop k place sheets)

-- So many sheets are left at least.
pub room-for : (rows : ℕ) (records : List PageRecordOf) (starts pages : List ℕ) (index page place later behind : ℕ) (sheets made : List SheetOf)
    → RoundsTo rows records starts pages index page place sheets → Walked rows records starts pages later behind (take place sheets ++ made) → place + length made ≤ length sheets
room-for rows records starts pages index page place later behind sheets made to walked =
    let rest = left rows records starts pages later in
    let parts : left rows records starts pages index ≡ made ++ rest =
    append_cancel_left (take place sheets) (left rows records starts pages index) (made ++ rest) (to.walked.sheets ∙ sym walked.sheets ∙ append_assoc (take place sheets) made rest) in
    let count : length (drop place sheets) ≡ length made + length rest =
    sym (length-map (drop place sheets) (in_round 0)) ∙ ap length (to.rest.same ∙ ap (map (in_round 0)) parts) ∙ length-map (made ++ rest) (in_round 0) ∙ length-append made rest in
    omega (arith, count, length-drop place sheets, to.within)

-- All sheets of a segment's pages have its record's round.
pub pages-round : (segment : SegmentOf) (m : ℕ) (pages : List ℕ) → All (λ (sheet : SheetOf). sheet.round ≡ segment.owner.changed) (page_sheets segment m pages)
pages-round segment m [] = All-nil (λ (sheet : SheetOf). sheet.round ≡ segment.owner.changed)
pages-round segment m (page ∷ later) =
    All-cons (λ (sheet : SheetOf). sheet.round ≡ segment.owner.changed) (page_sheet segment m page later) (page_sheets segment (m + 1) later) refl (pages-round segment (m + 1) later)

pub length-page_sheets : (segment : SegmentOf) (m : ℕ) (pages : List ℕ) → length (page_sheets segment m pages) ≡ length pages
length-page_sheets segment m [] = refl
length-page_sheets segment m (page ∷ later) = ap suc (length-page_sheets segment (m + 1) later)

-- A sheet alone has its own round.
pub one-round : (sheet : SheetOf) (round : ℕ) → sheet.round ≡ round → All (λ (it : SheetOf). it.round ≡ round) (sheet ∷ [])
one-round sheet round is = All-cons (λ (it : SheetOf). it.round ≡ round) sheet [] is (All-nil (λ (it : SheetOf). it.round ≡ round))
