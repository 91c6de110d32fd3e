-- The stanzas that an edit displaced, by its window (docs/RULES.md, "Windows").
use Rattle.std.specs.Prelude.{◌≡◌, ℕ, ◌+◌, ◌-◌, ◌≤◌, List, length, take, drop}
use Rattle.spec_script.specs.BlockValues.{StanzaOf}
use Rattle.spec_script.specs.Stanzas.{stanzas_from, stanzas_of}
use Rattle.spec_edit.specs.Windows.{IsWindow, stanzas_between}

-- Of the stanzas of the new text the first `at` stand before the window from a to b, and the next so many in it. The given ones
-- stood in it before the edit, when b was the place `was`.
pub record AreOfWindow (before after : List (List ℕ)) (a b was at stands : ℕ) (gone : List StanzaOf) : Type 0 where
  pub within : at + stands ≤ length (stanzas_of after)
  pub front : take at (stanzas_of after) ≡ stanzas_between before 0 a
  pub come : take stands (drop at (stanzas_of after)) ≡ stanzas_between after a b
  pub rest : drop (at + stands) (stanzas_of after) ≡ stanzas_from after b
  pub gone_are : gone ≡ stanzas_between before a was

-- What an edit displaced in a list of stanzas is what stood in its window: behind the first `at` stanzas so many stand there
-- now in place of the given ones.
pub record DisplacesWindow (before after : List (List ℕ)) (first old new at stands : ℕ) (gone : List StanzaOf) : Type 0 where
  pub are : (a b : ℕ) → IsWindow before after first old new a b → AreOfWindow before after a b (b + old - new) at stands gone
