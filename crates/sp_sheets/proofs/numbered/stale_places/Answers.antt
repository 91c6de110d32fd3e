use Rattle.std.proofs.Common.{◌≡◌, ◌≤◌, ℕ, List, length, false, ap, ◌∙◌, arith}
use Rattle.sp_gap.specs.Moves.{shifted}
use Rattle.sp_reflow.specs.Updates.{with_taken, CanPutBack, AreStandingBehind}
use Rattle.sp_sheets.specs.Numbered.{marked_sheets, AreMovedOutside, AreUnmarked}
use Rattle.sp_sheets.proofs.StaleSheets.{stale-between, stays-behind}
use Rattle.sp_sheets.proofs.numbered.stale_places.Goals as goal
use Rattle.sp_sheets.proofs.numbered.stale_places.Goals.{After-saturating_sub-from}

pub returns-in-Some : goal.returns-in-Some
returns-in-Some c pages can old =
    let sheets = c.args.sheets.now in
    let marks = c.args.marks.now.items in
    let olds = with_taken pages c.args.swapped.now in
    let is = old c.if-renews_all.false in
    let standing = c.standing-standing.result in
    let less = standing.less in
    let more = standing.more in
    let to = c.in-Some.behind in
    let behind : AreStandingBehind pages olds less more to = rw c.in-Some.is at (c.standing-standing.ensures.behind pages can) in
    let order : standing.before ≤ to = rw c.in-Some.is at c.standing-standing.ensures.order in
    let few : less ≤ length marks = omega (arith, c.if-ends_at_moved.ensures.less, c.len.ensures.len) in
    stale-between sheets marks pages olds standing.before (record { from = c.saturating_sub-from.result; to = to; less = more; more = less }) (c.requires.unmarked c.if-renews_all.false) is
    (c.standing-standing.ensures.before pages can) c.saturating_sub-from.ensures (λ _. omega (arith, order, c.saturating_sub-from.ensures))
    (stays-behind sheets pages olds (length marks) less more to is behind few (λ other. c.if-ends_at_moved.ensures.ends other ∙ ap (shifted less more) c.len.ensures.len))

-- To the end of the list.
to_end : (c : After-saturating_sub-from) (pages : List ℕ) → CanPutBack pages c.args.swapped.now → (c.args.renews_all ≡ false → AreUnmarked c.args.sheets.now (with_taken pages c.args.swapped.now))
    → AreMovedOutside c.args.sheets.now (marked_sheets c.args.marks.now.items 1 pages) (record { from = c.saturating_sub-from.result; to = length c.args.sheets.now; less = 0; more = 0 })
to_end c pages can old =
    let none = c.if-renews_all.false in
    stale-between c.args.sheets.now c.args.marks.now.items pages (with_taken pages c.args.swapped.now) c.standing-standing.result.before
    (record { from = c.saturating_sub-from.result; to = length c.args.sheets.now; less = 0; more = 0 }) (c.requires.unmarked none) (old none)
    (c.standing-standing.ensures.before pages can) c.saturating_sub-from.ensures (λ within. within) (λ inside. absurd (omega (arith, inside)))

pub returns-in_default : goal.returns-in_default
returns-in_default c = to_end (goal.at.returns-in_default c).After-saturating_sub-from

pub returns-in_default-2 : goal.returns-in_default-2
returns-in_default-2 c = to_end (goal.at.returns-in_default-2 c).After-saturating_sub-from
