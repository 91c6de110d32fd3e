-- Changes of rows that are laid out that keep the headings among them on their lines, in order.
use Rattle.std.specs.Prelude.{◌≡◌, ℕ}
use Rattle.sp_layout.specs.Bodies.{BodyOf, keyed_elements}
use Rattle.sp_layout.specs.Exchanges.{with_run}
use Rattle.sp_sheets.specs.HeadingIds.{body_headings, laid_headings}
use Rattle.sp_layout.specs.Changes.{ChangeOf, with_change}
use Rattle.sp_layout.specs.Kept.{KeptOf, laid_of}

-- The headings of a body stay on their lines, in order, when others stand in the place of its elements from one place to before another,
-- behind which lines are less and more by so much.
abbrev pub KeepsBodyHeadings : BodyOf → ℕ → ℕ → BodyOf → ℕ → ℕ → Type 0
KeepsBodyHeadings body from to others less more =
    body_headings (with_run (keyed_elements body) from to (keyed_elements others) less more) ≡ body_headings (keyed_elements body)

-- The headings of a layout stay so when a change is made of it.
abbrev pub KeepsHeadings : KeptOf → ChangeOf → Type 0
KeepsHeadings layout change = laid_headings (with_change (laid_of layout) change) ≡ laid_headings (laid_of layout)
