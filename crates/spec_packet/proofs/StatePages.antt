-- The pages of the segments of a state: each begins with one, and that of an opened state is alone.
use Rattle.std.proofs.Common.{◌≡◌, inl, inr, ℕ, suc, ◌+◌, ◌<◌, ◌≤◌, Bool, true, false, ◌&&◌, ◌==◌, cond, Option, Some, List, [], ◌∷◌, length, get_or, refl, sym, ap, ap₂, subst, ◌∙◌, eqb-true, lt-ltb, le-leb, arith, unwrap_or}
use Rattle.std.specs.Prelude.{All, filter, nat_le, nat_lt, slice_index_or}
use Rattle.std.specs.List.{list_any}
use Rattle.std.proofs.lemmas.Bool.{cases_lt, lt-leb, or_cases}
use Rattle.std.proofs.lemmas.List.Elements.{All-head, All-tail}
use Rattle.spec_pages.specs.Pages.{rows_on}
use Rattle.spec_labels.specs.PageRecords.{PageRecordOf, SegmentOf, is_empty, segments, segment_pages, page_sheets, record_starts, ArePages}
use Rattle.spec_state.specs.State.{State}
use Rattle.spec_state.specs.Keeping.{IsWhole}
use Rattle.spec_state.specs.StateSheets.{layout_in, rows_in, keys_in, pages_in}
use Rattle.spec_state.proofs.StateLaws.{state-AreStarts, state-ArePages}
use Rattle.spec_packet.specs.SheetLists.{IsIn, InOrder}
use Rattle.spec_locked_pages.specs.Chains.{IsOpened}
use Rattle.spec_locked_pages.specs.Segments.{records_in, segments_in, segment_at, pages_of, pages_at, no_segment}
use Rattle.spec_locked_pages.proofs.OpeningLaws.{length-segments}
use Rattle.spec_locked_pages.proofs.StateStarts.{SomeRecords, length-starts}
use Rattle.spec_packet.specs.Packets.{Starts}
use Rattle.spec_packet.proofs.PrintedLaws.{pairs-order}
use Rattle.spec_packet.proofs.RunCuts.{all-in}

-- One of a list has an index.
pub record IndexOf {X : Type 0} (x : X) (xs : List X) (d : X) : Type 0 where
  pub index : ℕ
  pub inside : index < length xs
  pub at : get_or xs index d ≡ x

pub index-of : {X : Type 0} (x : X) (xs : List X) (d : X) → IsIn x xs → IndexOf x xs d
index-of x [] d is = absurd is
index-of x (y ∷ ys) d is = elim is [
  | inl same ↦ record { index = 0; inside = omega arith; at = same }
  | inr later ↦ let i = index-of x ys d later in let inside = i.inside in record { index = suc i.index; inside = omega (arith, inside); at = i.at }
]

pub some-rows : (segment : SegmentOf) → is_empty segment ≡ false → segment.start < segment.end
some-rows segment full = elim (cases_lt segment.start segment.end) [
  | inl some ↦ some
  | inr none ↦ absurd (let bad : true ≡ false = sym (le-leb segment.end segment.start none) ∙ full in let no_way : ⊥ = cc in no_way)
]

-- A segment begins at a start, and ends in the rows.
segment-lies : (rows : ℕ) (records : List PageRecordOf) (starts : List ℕ) (segment : SegmentOf) → All (λ (start : ℕ). start ≤ rows) starts → IsIn segment (segments rows records starts)
    → IsIn segment.start starts × (segment.end ≤ rows)
segment-lies rows [] starts segment low is = absurd is
segment-lies rows (it ∷ records) [] segment low is = absurd is
segment-lies rows (it ∷ records) (start ∷ starts) segment low is = elim is [
  | inl same ↦ (inl (ap (λ (s : SegmentOf). s.start) same), (let e = ap (λ (s : SegmentOf). s.end) same in let f = first starts (All-tail (λ (s : ℕ). s ≤ rows) start starts low) in omega (arith, e, f)))
  | inr later ↦ let rest = segment-lies rows records starts segment (All-tail (λ (s : ℕ). s ≤ rows) start starts low) later in (inr rest.0, rest.1)
]
  where
    first : (ss : List ℕ) → All (λ (s : ℕ). s ≤ rows) ss → slice_index_or ss 0 rows ≤ rows
    first [] all = omega arith
    first (s ∷ ss) all = All-head (λ (x : ℕ). x ≤ rows) s ss all

any-in : (pages : List ℕ) (t : ℕ) → list_any (λ page. page == t) pages ≡ true → IsIn t pages
any-in [] t is = absurd (let no_way : ⊥ = cc in no_way)
any-in (page ∷ pages) t is = elim (or_cases (page == t) (list_any (λ p. p == t) pages) is) [
  | inl here ↦ inl (eqb-true page t here)
  | inr there ↦ inr (any-in pages t there)
]

abbrev lies : ℕ → ℕ → ℕ → Bool
lies start end page = nat_le start page && nat_lt page end

-- Of rising pages, the first one in a segment is that at its start.
from-start : (start end : ℕ) (pages : List ℕ) → start < end → InOrder (λ (one other : ℕ). one < other) pages → IsIn start pages → (later : List ℕ) × (filter (lies start end) pages ≡ start ∷ later)
from-start start end [] some rise is = absurd is
from-start start end (p ∷ ps) some rise is = elim is [
  | inl same ↦
      let test : lies start end p ≡ true = ap₂ (λ a b. a && b) (le-leb start p (omega (arith, same))) (lt-ltb p end (omega (arith, same, some))) in
      (filter (lies start end) ps, ap (λ b. cond b (p ∷ filter (lies start end) ps) (filter (lies start end) ps)) test ∙ ap (λ n. n ∷ filter (lies start end) ps) same)
  | inr behind ↦
      let above : p < start = rise.0 start behind in
      let test : lies start end p ≡ false = ap (λ b. b && nat_lt p end) (lt-leb start p above) in
      let rest = from-start start end ps some rise.1 behind in
      (rest.0, ap (λ b. cond b (p ∷ filter (lies start end) ps) (filter (lies start end) ps)) test ∙ rest.1)
]

-- Each segment with rows begins with a page.
pub state-paged : (state : State) → IsWhole state → SomeRecords state → (segment : SegmentOf) → IsIn segment (segments_in state) → is_empty segment ≡ false → Starts segment (pages_of state)
state-paged state whole some segment is full =
    let records = some.first ∷ some.later in
    let rows = length (rows_in state) in
    let starts = record_starts state.lines (keys_in state) records in
    let pages = pages_in (rows_on state.paper) state.lines (rows_in state) (layout_in state).breaks (Some records) in
    let same : records_in state ≡ records = ap (λ (p : Option (List PageRecordOf)). unwrap_or p []) some.are in
    let are : ArePages rows starts pages = state-ArePages state records whole in
    let there : IsIn segment (segments rows records starts) = subst (λ (rs : List PageRecordOf). IsIn segment (segments rows rs (record_starts state.lines (keys_in state) rs))) same is in
    let lies_in = segment-lies rows records starts segment (state-AreStarts state records whole some.are).within there in
    let few = some-rows segment full in
    let end = lies_in.1 in
    let page : list_any (λ page. page == segment.start) pages ≡ true = all-in (λ (start : ℕ). start < rows → list_any (λ page. page == start) pages ≡ true) segment.start starts are.at_starts lies_in.0 (omega (arith, few, end)) in
    let found = from-start segment.start segment.end pages few (pairs-order (λ (one other : ℕ). one < other) pages are.rising) (any-in pages segment.start page) in
    subst (λ (p : Option (List PageRecordOf)). Starts segment (pages_in (rows_on state.paper) state.lines (rows_in state) (layout_in state).breaks p)) (sym some.are) (record { later = found.0; is = found.1 })

pub length-sheets : (segment : SegmentOf) (m : ℕ) (pages : List ℕ) → length (page_sheets segment m pages) ≡ length pages
length-sheets segment m [] = refl
length-sheets segment m (page ∷ pages) = ap suc (length-sheets segment (m + 1) pages)

pub length-segments_in : (state : State) → length (segments_in state) ≡ length (records_in state)
length-segments_in state = length-segments (length (rows_in state)) (records_in state) (record_starts state.lines (keys_in state) (records_in state)) (length-starts state (records_in state))

-- And in an opened state it has one page.
pub opened-paged : (state : State) → IsWhole state → SomeRecords state → IsOpened state → (segment : SegmentOf) → IsIn segment (segments_in state) → is_empty segment ≡ false
    → segment_pages segment (pages_of state) ≡ segment.start ∷ []
opened-paged state whole some opened segment is full =
    let i = index-of segment (segments_in state) no_segment is in
    let inside = i.inside in
    let count = length-segments_in state in
    let few = some-rows segment full in
    let start = ap (λ (s : SegmentOf). s.start) i.at in
    let end = ap (λ (s : SegmentOf). s.end) i.at in
    let one = (opened.single i.index (omega (arith, inside, count)) (omega (arith, few, start, end))).one in
    let size = length-sheets (segment_at state i.index) 0 (pages_at state i.index) in
    let same : length (pages_at state i.index) ≡ length (segment_pages segment (pages_of state)) = ap (λ (s : SegmentOf). length (segment_pages s (pages_of state))) i.at in
    let paged = state-paged state whole some segment is full in
    let long = ap length paged.is in
    paged.is ∙ ap (λ (later : List ℕ). segment.start ∷ later) (none paged.later (omega (arith, one, size, same, long)))
  where
    none : (later : List ℕ) → length later ≡ 0 → later ≡ []
    none [] few = refl
    none (page ∷ later) few = absurd (omega (arith, few))
