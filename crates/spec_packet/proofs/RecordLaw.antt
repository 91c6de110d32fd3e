-- A page whose record isn't fresh, nor its cue, is printed as it was.
use Rattle.std.proofs.Common.{◌≡◌, inl, inr, ℕ, zero, suc, ◌+◌, ◌-◌, ◌<◌, ◌≤◌, max, true, false, ◌&&◌, ◌==◌, List, [], ◌∷◌, ◌++◌, length, map, take, drop, refl, ap, ap₂, sym, subst, ◌∙◌, append_assoc, append-nil, le-leb, leb-true, ne_eqb, arith}
use Rattle.std.specs.Prelude.{nat_le, slice_get, slice_range, Option, Some, option_map, unwrap_or}
use Rattle.std.specs.List.{list_any}
use Rattle.std.proofs.Math.Seq.{drop-append_seam, take-append_seam}
use Rattle.std.proofs.lemmas.Bool.{cases_Bool}
use Rattle.std.proofs.lemmas.List.{drop-append-le, length-drop}
use Rattle.spec_pages.specs.Pages.{continues_speech}
use Rattle.spec_labels.specs.PageRecords.{SegmentOf}
use Rattle.spec_packet.specs.SheetLists.{IsIn}
use Rattle.spec_state.specs.SameRows.{BareRow}
use Rattle.spec_packet.specs.Packets.{cue_len, cue_reach, speech_start, cue_at, goes_on_at, cue_end, is_fresh_between, has_fresh_cue, LaidOf, Both, was_of, now_of}
use Rattle.spec_packet.specs.RecordRows.{RecordRows, all_rows, segment_behind, segments_from, RowsBoth, were_of, are_of, StaysStale}
use Rattle.spec_packet.proofs.CueLaws.{take-both, rows_now, rows_were, SameBetween, none-fresh, between-append, suffix-same, prefix-same, cue-same}

get-at : {X : Type 0} (xs : List X) (y : X) (ys : List X) → slice_get (xs ++ (y ∷ ys)) (length xs) ≡ Some y
get-at [] y ys = refl
get-at (x ∷ xs) y ys = get-at xs y ys

pub slice-middle : {X : Type 0} (xs ys zs : List X) → slice_range (xs ++ (ys ++ zs)) (length xs) (length xs + length ys) ≡ ys
slice-middle {X} xs ys zs =
    let n : length xs + length ys - length xs ≡ length ys = omega arith in
    ap₂ (λ m (l : List X). take m l) n (drop-append_seam xs (ys ++ zs)) ∙ take-append_seam ys zs

-- The cue that is repeated above the page of a record's rows.
cue-at-same : (front back : List RowsBoth) (x : BareRow) (xs : List BareRow) (last : ℕ)
    → (let R = rows_now front ++ ((x ∷ xs) ++ rows_now back) in let first = length (rows_now front) - x.shape.index in
    (length (rows_now front) ≤ last) × (first + cue_reach (drop first R) ≤ last)
    × (x.shape.index ≤ length (rows_now front))
    × SameBetween first last 0 front × SameBetween first last (length (rows_now front) + length (x ∷ xs)) back)
    → cue_at (rows_were front ++ ((x ∷ xs) ++ rows_were back)) (length (rows_were front)) ≡ cue_at (rows_now front ++ ((x ∷ xs) ++ rows_now back)) (length (rows_now front))
cue-at-same front back x xs last given =
    let (high, reach, low, one, other) = given in
    let A = rows_now front in
    let C = rows_now back in
    let B = rows_were front in
    let D = rows_were back in
    let K : List BareRow = x ∷ xs in
    let R = A ++ (K ++ C) in
    let W = B ++ (K ++ D) in
    let d = x.shape.index in
    let first = length A - d in
    let m = last + 1 - first in
    let S = drop first A in
    let start_now : speech_start R (length A) ≡ first = ap (λ (o : Option BareRow). length A - unwrap_or (option_map (λ (it : BareRow). it.shape.index) o) 0) (get-at A x (xs ++ C)) in
    let start_was : speech_start W (length B) ≡ length B - d = ap (λ (o : Option BareRow). length B - unwrap_or (option_map (λ (it : BareRow). it.shape.index) o) 0) (get-at B x (xs ++ D)) in
    let suffix : drop (length B - d) B ≡ S = suffix-same first last 0 d front one low (omega arith) (omega (arith, high)) in
    let long : length S ≡ length A - first = length-drop first A in
    let m1 = m - length S in
    let m2 = m1 - length K in
    let some : 0 < length K = omega arith in
    let prefix : take m2 D ≡ take m2 C = prefix-same first last (length A + length K) m2 back other (omega (arith, some)) (λ more. omega (arith, more, long, low, high)) in
    let X : drop first R ≡ S ++ (K ++ C) = drop-append-le first A (K ++ C) (omega arith) in
    let Y : drop (length B - d) W ≡ S ++ (K ++ D) = drop-append-le (length B - d) B (K ++ D) (omega arith) ∙ ap (λ (l : List BareRow). l ++ (K ++ D)) suffix in
    let parts = λ (tail : List BareRow). take-both m S (K ++ tail) ∙ ap (λ (l : List BareRow). take m S ++ l) (take-both m1 K tail) in
    let same : take m (drop first R) ≡ take m (drop (length B - d) W) =
    ap (take m) X ∙ parts C ∙ ap (λ (l : List BareRow). take m S ++ (take m1 K ++ l)) (sym prefix) ∙ sym (ap (take m) Y ∙ parts D) in
    ap (λ n. take (cue_len (drop n W)) (drop n W)) start_was
    ∙ cue-same m (drop first R) (drop (length B - d) W) same (omega (arith, reach))
    ∙ sym (ap (λ n. take (cue_len (drop n R)) (drop n R)) start_now)

-- The rows of a text, cut at a record.
pub rows-cut : (f : RowsBoth → RecordRows) (front : List RowsBoth) (it : RowsBoth) (back : List RowsBoth)
    → all_rows (map f (front ++ (it ∷ back))) ≡ all_rows (map f front) ++ ((f it).rows ++ all_rows (map f back))
rows-cut f [] it back = refl
rows-cut f (one ∷ front) it back = ap (λ (l : List BareRow). (f one).rows ++ l) (rows-cut f front it back) ∙ sym (append_assoc (f one).rows (all_rows (map f front)) ((f it).rows ++ all_rows (map f back)))

-- The cue that a page goes on with is what it was, where no record of it is fresh.
pub cue-stays : (round : ℕ) (laid : LaidOf) (front : List RowsBoth) (it : RowsBoth) (back : List RowsBoth) (x : BareRow) (xs : List BareRow)
    → laid.segments ≡ segments_from [] (map are_of (front ++ (it ∷ back))) → laid.rows ≡ rows_now (front ++ (it ∷ back))
    → it.now.rows ≡ x ∷ xs → it.was.rows ≡ x ∷ xs → continues_speech x.shape ≡ true → x.shape.index ≤ length (rows_now front)
    → ((both : RowsBoth) → IsIn both (front ++ (it ∷ back)) → StaysStale round both)
    → has_fresh_cue round laid (length (rows_now front)) ≡ false
    → cue_at (rows_were (front ++ (it ∷ back))) (length (rows_were front)) ≡ cue_at (rows_now (front ++ (it ∷ back))) (length (rows_now front))
cue-stays round laid front it back x xs segments rows now_rows was_rows speech low stays none =
    let all = front ++ (it ∷ back) in
    let A = rows_now front in
    let C = rows_now back in
    let B = rows_were front in
    let D = rows_were back in
    let K : List BareRow = x ∷ xs in
    let R = A ++ (K ++ C) in
    let W = B ++ (K ++ D) in
    let now_is : rows_now all ≡ R = rows-cut are_of front it back ∙ ap (λ (l : List BareRow). A ++ (l ++ C)) now_rows in
    let was_is : rows_were all ≡ W = rows-cut were_of front it back ∙ ap (λ (l : List BareRow). B ++ (l ++ D)) was_rows in
    let goes = λ (o : Option BareRow). unwrap_or (option_map (λ (r : BareRow). continues_speech r.shape) o) false in
    let now_goes : goes_on_at R (length A) ≡ true = ap goes (get-at A x (xs ++ C)) ∙ speech in
    let first = length A - x.shape.index in
    let last = max (length A) (first + cue_reach (drop first R)) in
    let start : speech_start R (length A) ≡ first = ap (λ (o : Option BareRow). length A - unwrap_or (option_map (λ (r : BareRow). r.shape.index) o) 0) (get-at A x (xs ++ C)) in
    let those = segments_from [] (map are_of all) in
    let quiet : list_any (is_fresh_between round first last) those ≡ false =
    sym (ap₂ (λ (l : List BareRow) (s : List SegmentOf). goes_on_at l (length A) && list_any (is_fresh_between round (speech_start l (length A)) (cue_end l (length A))) s) (rows ∙ now_is) segments
    ∙ ap (λ b. b && list_any (is_fresh_between round (speech_start R (length A)) (cue_end R (length A))) those) now_goes
    ∙ ap (λ n. list_any (is_fresh_between round n (max (length A) (n + cue_reach (drop n R)))) those) start) ∙ none in
    let between = between-append first last 0 front (it ∷ back) (none-fresh round first last [] all stays quiet) in
    let long : length it.now.rows ≡ length K = ap length now_rows in
    let place : 0 + length A + length it.now.rows ≡ length A + length K = omega (arith, long) in
    ap (λ (l : List BareRow). cue_at l (length B)) was_is
    ∙ cue-at-same front back x xs last (omega arith, omega arith, low, between.0, subst (λ n. SameBetween first last n back) place between.1.1)
    ∙ sym (ap (λ (l : List BareRow). cue_at l (length A)) now_is)

-- The segments of records at the opening and now.
abbrev pub both_from : List BareRow → List BareRow → List RowsBoth → List Both
both_from before after [] = []
both_from before after (it ∷ later) =
    record { was = segment_behind before it.was (map were_of later); now = segment_behind after it.now (map are_of later) }
    ∷ both_from (before ++ it.was.rows) (after ++ it.now.rows) later

pub both-were : (before after : List BareRow) (records : List RowsBoth) → map was_of (both_from before after records) ≡ segments_from before (map were_of records)
both-were before after [] = refl
both-were before after (it ∷ later) = ap (λ (l : List SegmentOf). segment_behind before it.was (map were_of later) ∷ l) (both-were (before ++ it.was.rows) (after ++ it.now.rows) later)

pub both-are : (before after : List BareRow) (records : List RowsBoth) → map now_of (both_from before after records) ≡ segments_from after (map are_of records)
both-are before after [] = refl
both-are before after (it ∷ later) = ap (λ (l : List SegmentOf). segment_behind after it.now (map are_of later) ∷ l) (both-are (before ++ it.was.rows) (after ++ it.now.rows) later)

-- A record's segments come from its place in the list.
pub record PlaceOf (both : Both) (before after : List BareRow) (records : List RowsBoth) : Type 0 where
  pub front : List RowsBoth
  pub it : RowsBoth
  pub back : List RowsBoth
  pub is : records ≡ front ++ (it ∷ back)
  pub was : both.was ≡ segment_behind (before ++ rows_were front) it.was (map were_of back)
  pub now : both.now ≡ segment_behind (after ++ rows_now front) it.now (map are_of back)

pub place-of : (both : Both) (before after : List BareRow) (records : List RowsBoth) → IsIn both (both_from before after records) → PlaceOf both before after records
place-of both before after [] is = absurd is
place-of both before after (it ∷ later) is = elim is [
  | inl same ↦ record {
    front = [];
    it = it;
    back = later;
    is = refl;
    was = ap was_of (sym same) ∙ ap (λ (l : List BareRow). segment_behind l it.was (map were_of later)) (sym (append-nil before));
    now = ap now_of (sym same) ∙ ap (λ (l : List BareRow). segment_behind l it.now (map are_of later)) (sym (append-nil after));
  }
  | inr behind ↦
      let p = place-of both (before ++ it.was.rows) (after ++ it.now.rows) later behind in
      record {
        front = it ∷ p.front;
        it = p.it;
        back = p.back;
        is = ap (λ (l : List RowsBoth). it ∷ l) p.is;
        was = p.was ∙ ap (λ (l : List BareRow). segment_behind l p.it.was (map were_of p.back)) (append_assoc before it.was.rows (rows_were p.front));
        now = p.now ∙ ap (λ (l : List BareRow). segment_behind l p.it.now (map are_of p.back)) (append_assoc after it.now.rows (rows_now p.front));
      }
]

pub empty-len : (a n : ℕ) → nat_le (a + n) a ≡ (n == 0)
empty-len a zero = le-leb (a + zero) a (omega arith)
empty-len a (suc n) = elim (cases_Bool (nat_le (a + suc n) a)) [
  | inl low ↦ absurd (let l = leb-true (a + suc n) a low in omega (arith, l))
  | inr high ↦ high ∙ sym (ne_eqb (suc n) 0 (λ e. omega (arith, e)))
]
