-- The gap between two piles of stanzas, the sides of a place, and which of the stanzas behind it stay after an edit.
use Rattle.std.specs.Prelude.{◌≡◌, ℕ, ◌+◌, ◌-◌, ◌<◌, ◌≤◌, false, List, [], ◌∷◌, ◌++◌, length, take, drop, reverse}
use Rattle.std.specs.List.{list_any}
use Rattle.spec_script.specs.BlockValues.{StanzaOf}
use Rattle.spec_edit.specs.Settling.{stanza_settles}
use Rattle.spec_edit.specs.Windows.{stanza_lines_in}
use Rattle.sp_reread.specs.Piles.{PileState}

-- The stanzas before the gap, and those behind it, which stand backwards.
abbrev pub gap_list : List StanzaOf → List StanzaOf → List StanzaOf
gap_list front back = front ++ reverse back

-- No stanza from a place on settles who spoke.
abbrev pub NoneSettles : List StanzaOf → ℕ → Type 0
NoneSettles stanzas from = list_any stanza_settles (drop from stanzas) ≡ false

-- The stanzas on both sides of a place, those behind it backwards.
pub record SidesState : Type 0 where
  pub front : List StanzaOf
  pub back : List StanzaOf

-- The last stanza of one pile went onto the other.
pub record IsShifted (from to from' to' : List StanzaOf) : Type 0 where
  pub stanza : StanzaOf
  pub taken : from ≡ from' ++ stanza ∷ []
  pub put : to' ≡ to ++ stanza ∷ []

-- The place between them is the greatest one, not behind `first`, where a stanza begins.
pub record AtLine (front back : List StanzaOf) (first : ℕ) : Type 0 where
  pub low : stanza_lines_in front ≤ first
  pub some : length back ≡ 0 → length front ≡ 0
  pub next : 1 < length back → first + stanza_lines_in (take (length back - 1) back) < stanza_lines_in front + stanza_lines_in back

-- The number of stanzas behind the place that have no more lines than are left of the text.
pub record IsPassed (back : List StanzaOf) (left kept : ℕ) : Type 0 where
  pub within : kept ≤ length back
  pub low : stanza_lines_in (take kept back) ≤ left
  pub above : (j : ℕ) → kept < j → j ≤ length back → left < stanza_lines_in (take j back)

-- The piles have the same stanzas together, with the same rooms.
pub record SameGap (front back front' back' : PileState) : Type 0 where
  pub stanzas : gap_list front'.stanzas back'.stanzas ≡ gap_list front.stanzas back.stanzas
  pub count : length front'.stanzas + length back'.stanzas ≡ length front.stanzas + length back.stanzas
  pub lines : stanza_lines_in front'.stanzas + stanza_lines_in back'.stanzas ≡ stanza_lines_in front.stanzas + stanza_lines_in back.stanzas
  pub front_room : front'.room ≡ front.room
  pub back_room : back'.room ≡ back.room

-- The number of stanzas behind the place: all that come behind them in the pile have more lines than are left of the text.
pub record IsAbove (back : List StanzaOf) (left kept : ℕ) : Type 0 where
  pub within : kept ≤ length back
  pub above : (j : ℕ) → kept < j → j ≤ length back → left < stanza_lines_in (take j back)

-- A window that was read up to here may end: the place is above 0 and not before the edit's end, and as many lines are
-- left as the kept stanzas have, which are not all stanzas of the text before.
pub record CanEnd (back : List StanzaOf) (past total place left kept : ℕ) : Type 0 where
  pub some : 0 < place
  pub past_edit : past ≤ place
  pub more : 0 < left
  pub less : left < total
  pub same : stanza_lines_in (take kept back) ≡ left
