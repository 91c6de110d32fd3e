-- The stops of a state and its page starts, as they are made.
use Rattle.std.proofs.Common.{◌≡◌, ℕ, ◌≤◌, List, length, map, arith, Result, Ok, Err, refl, sym, ap, ◌∙◌, subst}
use Rattle.std.specs.Prelude.{All, AllPairs, IsPermutation, IfOk, OnOk, OnErr}
use Rattle.std.proofs.lemmas.List.{length-map}
use Rattle.std.proofs.lemmas.List.Elements.{All-append}
use Rattle.std.proofs.lemmas.List.Sorted.{All-permutation}
use Rattle.spec_pages.specs.declared.Shape.{Shape}
use Rattle.spec_pages.specs.Pages.{page_starts, rows_on, text_heights}
use Rattle.spec_pages.proofs.StopLaws.{starts_of-permutation}
use Rattle.spec_sheets.specs.Shown.{shape_of}
use Rattle.spec_sheets.proofs.BreakLaws.{layout_of-within}
use Rattle.spec_state.specs.State.{State}
use Rattle.spec_state.specs.Keeping.{IsWhole}
use Rattle.spec_state.specs.StateSheets.{layout_in, rows_in, locked_starts}
use Rattle.spec_locked_pages.specs.Segments.{pages_of}
use Rattle.spec_edit.specs.PageWindows.{AreStops}
use Rattle.spec_refill.specs.Exchanges.{stops_in}
use Rattle.spec_refill.proofs.SortedStops.{in-order}
use Rattle.sp_layout.specs.Bodies.{row_count}
use Rattle.sp_reflow.specs.Starts.{many_more}
use Rattle.sp_reflow.specs.Filling.{FilledAtMost}
use Rattle.sp_sheets.specs.Pages.{AreStopsOf}
use Rattle.sp_sheets.proofs.FirstsLaws.{count-rows}
use Rattle.sp_sheets.proofs.MadePages.{locked-keys}
use Rattle.sp_sheets.proofs.MadeLaws.{starts-within}

-- No stop is behind the last row.
stops-within : (state : State) → IsWhole state → All (λ (stop : ℕ). stop ≤ length (rows_in state)) (stops_in state)
stops-within state whole =
    let P : ℕ → Type 0 = λ stop. stop ≤ row_count (layout_in state).body in
    subst (λ n. All (λ (stop : ℕ). stop ≤ n) (stops_in state)) (sym (count-rows state))
    (All-append P (layout_in state).breaks (locked_starts state.lines (rows_in state) state.pages) (layout_of-within state.speakers state.lines)
    (subst (All P) (sym (locked-keys state state.pages)) (starts-within state state.pages whole refl)))

pub stops-made : {V E : Type 0} (items : V → List ℕ) (state : State) (result : Result V E) (raw : List ℕ) → IsWhole state → raw ≡ stops_in state
    → IfOk result (λ v. IsPermutation raw (items v)) → IfOk result (λ v. AllPairs (λ (one other : ℕ). one ≤ other) (items v)) → IfOk result (λ v. AreStopsOf state (items v))
stops-made items state (Ok v) raw whole is same order = record {
  same = subst (λ l. IsPermutation l (items v)) is same;
  are = record {
    ordered = order;
    within = All-permutation (λ (stop : ℕ). stop ≤ length (rows_in state)) raw (items v) same (subst (All (λ (stop : ℕ). stop ≤ length (rows_in state))) (sym is) (stops-within state whole));
  };
}
stops-made items state (Err error) raw whole is same order = tt

-- So they are for shapes that are those of its rows.
pub stops-of : (state : State) (shapes : List Shape) (items stops : List ℕ) → AreStopsOf state items → shapes ≡ map shape_of (rows_in state) → stops ≡ items → AreStops (length shapes) stops
stops-of state shapes items stops are same is =
    subst (λ l. AreStops (length l) stops) (sym same)
    (subst (λ n. AreStops n stops) (sym (length-map (rows_in state) shape_of)) (subst (AreStops (length (rows_in state))) (sym is) are.are))

-- The page starts by them are those of the state.
pub starts-of : (state : State) (body : ℕ) (shapes : List Shape) (items stops : List ℕ) → AreStopsOf state items → body ≡ rows_on state.paper → shapes ≡ map shape_of (rows_in state) → stops ≡ items
    → page_starts body shapes stops ≡ pages_of state
starts-of state body shapes items stops are limit same is =
    let those = map shape_of (rows_in state) in
    ap (λ n. page_starts n shapes stops) limit ∙ ap (λ (l : List Shape). page_starts (rows_on state.paper) l stops) same ∙ ap (page_starts (rows_on state.paper) those) is
    ∙ sym (starts_of-permutation (rows_on state.paper) (text_heights those) (length those) (stops_in state) items are.same)

-- No more pages were filled.
pub filled-most : {V E : Type 0} (result : Result V E) (before now n : ℕ) → OnOk result (now ≡ many_more before n) → OnErr result (FilledAtMost before now n) → FilledAtMost before now n
filled-most (Ok v) before now n exact few = record { count = n; within = omega arith; is = exact }
filled-most (Err error) before now n exact few = few

-- Every state has its stops in order.
pub stops-in_order : (state : State) → IsWhole state → (stops : List ℕ) × AreStopsOf state stops
stops-in_order state whole =
    let found = in-order (stops_in state) in (
      found.0,
      record {
        same = found.1;
        are = record {
          ordered = found.2;
          within = All-permutation (λ (stop : ℕ). stop ≤ length (rows_in state)) (stops_in state) found.0 found.1 (stops-within state whole);
        };
      },
    )
