-- Lines in a ring, or on sides.
use Rattle.std.proofs.Common.{◌≡◌, ℕ, Option, Some, None, List, sym, ap, ap₂, ◌∙◌}
use Rattle.spec_text.specs.Lines.{LineState}
use Rattle.sp_gap.specs.Gaps.{GapListOf}
use Rattle.sp_text.specs.Gap.{GapState, kept_lines}

pub kept-ring : (ring : GapListOf LineState) (sides : Option GapState) (all : GapState) → sides ≡ None → kept_lines ring sides ≡ all → record { lines = ring.items; room = ring.room } ≡ all
kept-ring ring sides all none is = sym (ap (kept_lines ring) none) ∙ is

pub kept-sides : (ring : GapListOf LineState) (sides : Option GapState) (those all : GapState) → sides ≡ Some those → kept_lines ring sides ≡ all → those ≡ all
kept-sides ring sides those all some is = sym (ap (kept_lines ring) some) ∙ is

pub same-ring : (one other : GapListOf LineState) → one.items ≡ other.items → one.room ≡ other.room → one ≡ other
same-ring one other items room = ap₂ (λ (xs : List LineState) n. record { items = xs; room = n }) items room

pub same-gap : (one : GapState) (lines : List LineState) (room : ℕ) → one.lines ≡ lines → one.room ≡ room → one ≡ record { lines = lines; room = room }
same-gap one lines room lines_is room_is = ap₂ (λ (xs : List LineState) n. record { lines = xs; room = n }) lines_is room_is
