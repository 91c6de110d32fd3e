-- Counts of faults and of steps, and what an answer says of them (docs/RULES.md, "The program").
use Rattle.std.specs.Prelude.{◌≡◌, ℕ, ◌+◌, ◌-◌, ◌^◌, ◌≤◌, min, OnOk, OnErr}
use Rattle.std.specs.declared.result.Result.{Result}

-- A count after one more event; it stands still at the greatest 64-bit number.
abbrev pub one_more : ℕ → ℕ
one_more count = min (count + 1) (2 ^ 64 - 1)

-- The count rose, or stands at the greatest 64-bit number.
abbrev pub Rose : ℕ → ℕ → Type 0
Rose before now = one_more before ≤ now

-- A count of faults never falls, rises with a failure, and stays with every other answer.
pub record HasCause {T E : Type 0} (before now : ℕ) (result : Result T E) : Type 0 where
  pub later : before ≤ now
  pub failed : OnErr result (Rose before now)
  pub kept : OnOk result (now ≡ before)
