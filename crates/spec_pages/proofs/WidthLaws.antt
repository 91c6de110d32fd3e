-- The columns of a text are at most four times its bytes.
use Rattle.std.proofs.Common.{◌≡◌, ℕ, zero, suc, refl, ◌+◌, ◌-◌, ◌*◌, ◌≤◌, ◌==◌, ◌&&◌, Bool, true, false, cond, List, [], ◌∷◌, length, map, drop, slice_range, sum_by, Option, Some, None, ap, arith, length-take, length-drop, length-append}
use Rattle.std.specs.List.{concat}
use Rattle.std.specs.Str.{IsUtf8, chars, chars_after, continuation_len, lead_bits, bytes_eq}
use Rattle.std.proofs.lemmas.Bool.Decides.{nat_tests}
use Rattle.std.proofs.lemmas.List.Sums.{sum_by-cons}
use Rattle.std.proofs.lemmas.Str.{IsUtf8-between}
use Rattle.unicode_segmentation.specs.Grapheme.{graphemes, is_grapheme_break}
use Rattle.unicode_segmentation.proofs.SegmentsLemmas.{concat-segments}
use Rattle.spec_text.specs.Parts.{Parts}
use Rattle.spec_script.specs.declared.Run.{Run}
use Rattle.spec_script.specs.Runs.{span_of, RunParts}
use Rattle.spec_pages.specs.Clusters.{width_of, columns_of}
use Rattle.spec_pages.specs.Rows.{runs_width}
use Rattle.unicode_width.specs.declared.kind.Kind.{Kind}
use Rattle.unicode_width.specs.declared.kind.Kind.TheVariants as kinds
use Rattle.unicode_width.specs.declared.state.After.{After}
use Rattle.unicode_width.specs.declared.state.State.{State}
use Rattle.unicode_width.specs.declared.state.Change.{Change}
use Rattle.unicode_width.specs.declared.state.Change.TheVariants.{Less, Same, One, Three}
use Rattle.unicode_width.specs.Kind.{kind, is_ligature_transparent}
use Rattle.unicode_width.specs.Width.{Reading, single, of_kind, alone, changed, joined_or, past_selectors, in_context, past_emoji, skips_marks, joins, if_kept, step, read_before, plain, str_width}

single-low : (cjk : Bool) (c : ℕ) → (single cjk c).0 ≤ 3
single-low true c = grind (arith, nat_tests)
single-low false c = grind (arith, nat_tests)

of_kind-low : (cjk : Bool) (c : ℕ) (k : Kind) → (of_kind cjk c k).0 ≤ 3
of_kind-low cjk c kinds.Zero = omega arith
of_kind-low cjk c kinds.Narrow = omega arith
of_kind-low cjk c kinds.Wide = omega arith
of_kind-low true c kinds.Ambiguous = omega arith
of_kind-low false c kinds.Ambiguous = omega arith
of_kind-low cjk c kinds.Alef = omega arith
of_kind-low cjk c kinds.KhmerLetter = omega arith
of_kind-low cjk c kinds.TifinaghConsonant = omega arith
of_kind-low cjk c kinds.LisuTone = omega arith
of_kind-low cjk c kinds.RegionalIndicator = omega arith
of_kind-low cjk c kinds.EmojiModifier = omega arith
of_kind-low cjk c kinds.Emoji = omega arith
of_kind-low cjk c kinds.Single = single-low cjk c

alone-low : (cjk : Bool) (c : ℕ) → (alone cjk c).0 ≤ 3
unfolding alone
alone-low cjk c = of_kind-low cjk c (kind c)

changed-low : (total : ℕ) (change : Change) → changed total change ≤ total + 3
changed-low total Less = omega arith
changed-low total Same = omega arith
changed-low total One = omega arith
changed-low total Three = omega arith

joined_or-low : (total : ℕ) (joined : Option (Change × After)) (own : ℕ × State) → own.0 ≤ 3 → (joined_or total joined own).0 ≤ total + 3
joined_or-low total (Some j) own low = changed-low total j.0
joined_or-low total None own low = omega (arith, low)

-- By a test.
low-if : (most : ℕ) (t : Bool) (one other : Reading) → one.0 ≤ most → other.0 ≤ most → (cond t one other).0 ≤ most
low-if most true one other a b = a
low-if most false one other a b = b

past_selectors-low : (c total : ℕ) (after : After) → (past_selectors false c total after).0 ≤ total + 3
unfolding past_selectors
past_selectors-low c total after =
    low-if (total + 3) (skips_marks after && (c == 0x200D)) _ _ (omega arith)
    (low-if (total + 3) (skips_marks after && is_ligature_transparent c) _ _ (omega arith)
    (joined_or-low total (joins false after c) (alone false c) (alone-low false c)))

in_context-low : (c total : ℕ) (s : State) → (in_context false c total s).0 ≤ total + 3
unfolding in_context
in_context-low c total s = let past = past_selectors-low c total s.after in grind (arith, nat_tests)

past_emoji-low : (c total : ℕ) (s : State) → (past_emoji false c total s).0 ≤ total + 3
unfolding past_emoji
past_emoji-low c total s = let own = alone-low false c in let context = in_context-low c total s in grind (arith, nat_tests)

step-low : (c total : ℕ) (s : State) → (step false c (total, s)).0 ≤ total + 3
unfolding step
step-low c total s =
    let plain_low = past_emoji-low c total s in
    let kept_low = past_emoji-low c total (record (if_kept s) { emoji = false }) in
    grind (arith, nat_tests)

read_before-low : (text : List ℕ) (last : Reading) → (read_before false text last).0 ≤ last.0 + 3 * length text
read_before-low [] last = omega arith
read_before-low (c ∷ text) last =
    let before = read_before false text last in
    omega (arith, read_before-low text last, step-low c before.0 before.1)

str_width-low : (text : List ℕ) → str_width false text ≤ 3 * length text
unfolding str_width
str_width-low text = omega (arith, read_before-low text (0, plain))

-- A text has no more characters than bytes.
chars_after-few : (n c : ℕ) (bytes : List ℕ) → length (chars_after n c bytes) ≤ suc (length bytes)
chars_after-few zero c [] = omega arith
chars_after-few zero c (b ∷ bytes) = omega (arith, chars_after-few (continuation_len b) (lead_bits b) bytes)
chars_after-few (suc n) c [] = omega arith
chars_after-few (suc n) c (b ∷ bytes) = omega (arith, chars_after-few n (c * 64 + (b - 128)) bytes)

chars-few : (bytes : List ℕ) → length (chars bytes) ≤ length bytes
unfolding chars
chars-few [] = omega arith
chars-few (b ∷ bytes) = omega (arith, chars_after-few (continuation_len b) (lead_bits b) bytes)

-- A tab is one byte.
tab-low : (piece : List ℕ) (t : Bool) (width : ℕ) → bytes_eq piece (9 ∷ []) ≡ t → width ≤ 3 * length piece → cond t 4 width ≤ 4 * length piece
tab-low [] true width is low = cc
tab-low (b ∷ piece) true width is low = omega arith
tab-low piece false width is low = omega (arith, low)

cluster-low : (piece : List ℕ) → width_of piece ≤ 4 * length piece
cluster-low piece =
    tab-low piece (bytes_eq piece (9 ∷ [])) (str_width false (chars piece)) refl (omega (arith, str_width-low (chars piece), chars-few piece))

pieces-low : (pieces : List (List ℕ)) → sum_by width_of pieces ≤ 4 * length (concat pieces)
pieces-low [] = omega arith
pieces-low (piece ∷ pieces) =
    omega (arith, sum_by-cons width_of piece pieces, cluster-low piece, pieces-low pieces, length-append piece (concat pieces))

-- The columns of a text.
pub columns_of-low : (text : List ℕ) → IsUtf8 text → columns_of text ≤ 4 * length text
columns_of-low text utf8 =
    omega (arith, pieces-low (graphemes true text), ap length (concat-segments (is_grapheme_break true) text utf8))

-- The columns of the parts of a text that runs show, where the first begins not before a place.
runs-low : (text : List ℕ) → IsUtf8 text → (runs : List Run) (at : ℕ) → Parts text at (map span_of runs) → runs_width text runs ≤ 4 * (length text - at)
runs-low text utf8 [] at parts = omega arith
runs-low text utf8 (run ∷ runs) at parts =
    let lies = parts.1 in
    let order = lies.order in
    let within = lies.end.0 in
    let part = slice_range text run.from run.to in
    let low = columns_of-low part (IsUtf8-between text run.from run.to utf8 order lies.start lies.end) in
    omega (
      arith,
      parts.0,
      order,
      within,
      low,
      sum_by-cons (λ (it : Run). columns_of (slice_range text it.from it.to)) run runs,
      length-take (run.to - run.from) (drop run.from text),
      length-drop run.from text,
      runs-low text utf8 runs run.to parts.2,
    )

pub runs_width-low : (text : List ℕ) (runs : List Run) → IsUtf8 text → RunParts text runs → runs_width text runs ≤ 4 * length text
runs_width-low text runs utf8 parts = omega (arith, runs-low text utf8 runs 0 parts)
