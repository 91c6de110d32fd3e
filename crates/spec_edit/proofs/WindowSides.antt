-- Where the blocks before, in and behind a window stand.
use Rattle.std.proofs.Common.{◌≡◌, ℕ, ◌+◌, ◌-◌, ◌<◌, ◌≤◌, ◌==◌, Bool, true, false, List, [], ◌∷◌, length, map, take, inl, inr, sym, ap, subst, ◌∙◌, arith, length-take}
use Rattle.std.specs.Prelude.{All}
use Rattle.std.specs.Str.{IsUtf8}
use Rattle.std.proofs.lemmas.List.Elements.{All-nil, All-cons, All-append, All-take}
use Rattle.std.proofs.lemmas.List.Sums.{sum_by-cons}
use Rattle.spec_script.specs.BlockValues.{StanzaOf, BlockOf}
use Rattle.spec_script.specs.BlockParts.{Rise}
use Rattle.spec_script.specs.LongestRuns.{Group, members, longest_runs}
use Rattle.spec_script.specs.Stanzas.{Kept, PlacedBlock, kept_lines, one_stanza, stanza_of, stanzas_in, lines_from, blocks_from, blocks_of}
use Rattle.spec_script.specs.Elements.{placed_at}
use Rattle.spec_sheets.proofs.ElementPlaces.{placed_from, placed_to}
use Rattle.spec_text.specs.Limits.{line_count_limit}
use Rattle.spec_edit.specs.Windows.{IsEdited, IsWindow, IsWindowEnd, stanza_lines_in, stanzas_between}
use Rattle.spec_edit.proofs.Counts.{count-between}
use Rattle.spec_edit.proofs.FreshPoints.{kept_lines-take}
use Rattle.spec_edit.proofs.Resync.{window-cuts, old-cuts}
use Rattle.spec_edit.proofs.SoundElements.{blocks-rise}

-- The window of an edit lies round its range, in both texts.
pub record Sides (before after : List (List ℕ)) (first old new a b was : ℕ) : Type 0 where
  pub begin : a ≤ first
  pub past : first + new ≤ b
  pub was_past : first + old ≤ was
  pub shift : was + new ≡ b + old
  pub was_low : was ≤ length before
  pub low : b ≤ length after

pub window-sides : (before after : List (List ℕ)) (first old new a b : ℕ) → IsEdited before after first old new → IsWindow before after first old new a b → Sides before after first old new a b (b + old - new)
window-sides before after first old new a b e w =
    let cuts = window-cuts before after first old new a b e w in
    let olds = old-cuts before after first old new a b e w in
    let begin : a ≤ first = w.start.meets.low in
    let past : first + new ≤ b = end w.end in
    record { begin = begin; past = past; was_past = omega (arith, past); shift = omega (arith, past); was_low = olds.3; low = cuts.3 }
  where
    end : IsWindowEnd before after first old new b → first + new ≤ b
    end (inl x) = x.meets.past
    end (inr x) = let put = e.put in omega (arith, put, x.1)

-- Blocks that stand in order stand each before the end.
abbrev pub EndsBy : ℕ → PlacedBlock → Type 0
EndsBy high placed = placed_to placed ≤ high

rise-high : (low high : ℕ) (blocks : List PlacedBlock) → Rise placed_from placed_to low high blocks → low ≤ high
rise-high low high [] rise = rise
rise-high low high (block ∷ blocks) rise = let more = rise-high (placed_to block) high blocks rise.2 in omega (arith, rise.0, rise.1, more)

rise-ends : (low high : ℕ) (blocks : List PlacedBlock) → Rise placed_from placed_to low high blocks → All (EndsBy high) blocks
rise-ends low high [] rise = All-nil (EndsBy high)
rise-ends low high (block ∷ blocks) rise = All-cons (EndsBy high) block blocks (rise-high (placed_to block) high blocks rise.2) (rise-ends (placed_to block) high blocks rise.2)

-- The blocks before the window are those of the text up to there.
front-is : (before : List (List ℕ)) (a : ℕ) → blocks_from 0 (stanzas_between before 0 a) ≡ blocks_of (take a before)
front-is before a =
    let none : a - 0 ≡ a = omega arith in
    ap (λ n. blocks_from 0 (stanzas_in true (longest_runs one_stanza (take n (kept_lines before))))) none
    ∙ ap (λ (ls : List Kept). blocks_from 0 (stanzas_in true (longest_runs one_stanza ls))) (kept_lines-take before a)

pub front-ends : (before : List (List ℕ)) (a : ℕ) → All IsUtf8 before → length before ≤ line_count_limit → a ≤ length before → All (EndsBy a) (blocks_from 0 (stanzas_between before 0 a))
front-ends before a utf8 few low =
    let count : length (take a before) ≡ a = omega (arith, length-take a before, low) in
    let stand = blocks-rise (take a before) (All-take IsUtf8 a before utf8) (omega (arith, count, low, few)) in
    subst (All (EndsBy a)) (sym (front-is before a)) (subst (λ n. All (EndsBy n) (blocks_of (take a before))) count (rise-ends 0 (length (take a before)) (blocks_of (take a before)) stand.rise))

-- Blocks of stanzas from one place to before another.
pub record StandsIn (low high : ℕ) (placed : PlacedBlock) : Type 0 where
  pub above : low ≤ placed.first
  pub below : placed.first < high

in-wider : (low from to high : ℕ) (blocks : List PlacedBlock) → low ≤ from → to ≤ high → All (StandsIn from to) blocks → All (StandsIn low high) blocks
in-wider low from to high blocks one other all k d h = let it = all k d h in let x = it.above in let y = it.below in record { above = omega (arith, one, x); below = omega (arith, other, y) }

in-stanza : (place high : ℕ) (blocks : List BlockOf) → place < high → All (StandsIn place high) (map (placed_at place) blocks)
in-stanza place high [] h = All-nil (StandsIn place high)
in-stanza place high (block ∷ blocks) h = All-cons (StandsIn place high) (placed_at place block) (map (placed_at place) blocks) (record { above = omega arith; below = h }) (in-stanza place high blocks h)

in-groups : (first : Bool) (place : ℕ) (groups : List (Group Kept)) → All (StandsIn place (place + stanza_lines_in (stanzas_in first groups))) (blocks_from place (stanzas_in first groups))
in-groups first place [] = All-nil (StandsIn place (place + stanza_lines_in []))
in-groups first place (group ∷ groups) =
    let stanza = stanza_of first (members group) in
    let later = stanzas_in false groups in
    let sum : stanza_lines_in (stanza ∷ later) ≡ stanza.lines + stanza_lines_in later = sum_by-cons (λ (s : StanzaOf). s.lines) stanza later in
    let high = place + stanza_lines_in (stanza ∷ later) in
    All-append (StandsIn place high) (map (placed_at place) stanza.blocks) (blocks_from (place + stanza.lines) later)
    (in-stanza place high stanza.blocks (omega (arith, sum)))
    (in-wider place (place + stanza.lines) (place + stanza.lines + stanza_lines_in later) high (blocks_from (place + stanza.lines) later) (omega arith) (omega (arith, sum)) (in-groups false (place + stanza.lines) groups))

pub between-in : (texts : List (List ℕ)) (a b : ℕ) → a ≤ b → b ≤ length texts → All (StandsIn a b) (blocks_from a (stanzas_between texts a b))
between-in texts a b order low =
    let count = count-between texts a b low in
    in-wider a a (a + stanza_lines_in (stanzas_between texts a b)) b (blocks_from a (stanzas_between texts a b)) (omega arith) (omega (arith, count, order))
    (in-groups (a == 0) a (longest_runs one_stanza (take (b - a) (lines_from texts a))))
