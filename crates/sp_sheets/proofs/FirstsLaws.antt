-- The rows of a state, and what the first rows of its page records ask for.
use Rattle.std.proofs.Common.{◌≡◌, List, length, Option, Some, None, sym, subst}
use Rattle.std.specs.Prelude.{IfSome, option_map}
use Rattle.spec_labels.specs.declared.RowKey.{RowKey}
use Rattle.spec_labels.specs.PageRecords.{PageRecordOf, AreAnchored}
use Rattle.spec_sheets.proofs.ShownLaws.{length-shown_rows}
use Rattle.spec_state.specs.State.{State}
use Rattle.spec_state.specs.Headings.{heading_labels}
use Rattle.spec_state.specs.Keeping.{IsWhole}
use Rattle.spec_state.specs.StateSheets.{layout_in, rows_in, keys_in}
use Rattle.spec_state.proofs.StateLaws.{state-AreAnchored}
use Rattle.sp_layout.specs.Bodies.{row_count}

-- How many rows a state has.
pub count-rows : (state : State) → length (rows_in state) ≡ row_count (layout_in state).body
count-rows state = length-shown_rows state.lines (heading_labels state.lines state.scenes) (layout_in state).body

-- What the starts of page records ask for.
pub anchored : {V : Type 0} (items : V → List PageRecordOf) (state : State) (keys : List RowKey) (pages : Option V) → IsWhole state → keys ≡ keys_in state → state.pages ≡ option_map items pages
    → IfSome pages (λ those. AreAnchored state.lines keys (items those))
anchored items state keys None whole same is = tt
anchored items state keys (Some those) whole same is = subst (λ ks. AreAnchored state.lines ks (items those)) (sym same) (state-AreAnchored state (items those) whole is)
