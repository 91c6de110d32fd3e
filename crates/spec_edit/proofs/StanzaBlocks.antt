-- The blocks of stanzas that follow one another, and where they stand.
use Rattle.std.proofs.Common.{◌≡◌, ℕ, ◌+◌, ◌≤◌, Bool, true, false, not, ◌||◌, List, [], ◌∷◌, ◌++◌, map, refl, sym, ap, ap₂, subst, ◌∙◌, arith}
use Rattle.std.specs.Prelude.{All}
use Rattle.std.specs.List.{list_any}
use Rattle.std.proofs.lemmas.List.{append-nil, map-append}
use Rattle.std.proofs.lemmas.List.Elements.{All-nil, All-cons, All-append}
use Rattle.std.proofs.lemmas.List.Folds.{list_any-append}
use Rattle.std.proofs.lemmas.List.Sums.{sum_by-append}
use Rattle.spec_script.specs.BlockValues.{StanzaOf, BlockOf}
use Rattle.spec_script.specs.Stanzas.{PlacedBlock, blocks_from}
use Rattle.spec_script.specs.Elements.{placed_at, PlacesRise}
use Rattle.spec_script.proofs.BlockPlaces.{stanza-rises}
use Rattle.spec_edit.specs.Settling.{block_settles, stanza_settles}
use Rattle.spec_edit.specs.Windows.{stanza_lines_in}
use Rattle.spec_edit.proofs.WindowBlocks.{blocks-append}
use Rattle.spec_edit.specs.Moved.{moved_place, moved_block, BeginsApart, EndsApart, is_left, settles}
use Rattle.spec_edit.specs.RelaidStanzas.{first_apart, last_apart, ClosesApart, OpensApart}

pub lines-append : (xs ys : List StanzaOf) → stanza_lines_in (xs ++ ys) ≡ stanza_lines_in xs + stanza_lines_in ys
lines-append xs ys = sum_by-append (λ (s : StanzaOf). s.lines) xs ys

pub blocks-three : (p : ℕ) (xs ys zs : List StanzaOf)
    → blocks_from p (xs ++ (ys ++ zs)) ≡ blocks_from p xs ++ (blocks_from (p + stanza_lines_in xs) ys ++ blocks_from (p + stanza_lines_in xs + stanza_lines_in ys) zs)
blocks-three p xs ys zs = blocks-append p xs (ys ++ zs) ∙ ap (λ (bs : List PlacedBlock). blocks_from p xs ++ bs) (blocks-append (p + stanza_lines_in xs) ys zs)

-- The same stanzas further on or further back.
placed-moved : (less more p : ℕ) (blocks : List BlockOf) → map (placed_at (moved_place less more p)) blocks ≡ map (moved_block less more) (map (placed_at p) blocks)
placed-moved less more p [] = refl
placed-moved less more p (b ∷ bs) = ap (λ (ps : List PlacedBlock). placed_at (moved_place less more p) b ∷ ps) (placed-moved less more p bs)

pub blocks-moved : (less more p : ℕ) (stanzas : List StanzaOf) → less ≤ p → blocks_from (moved_place less more p) stanzas ≡ map (moved_block less more) (blocks_from p stanzas)
blocks-moved less more p [] low = refl
blocks-moved less more p (s ∷ ss) low =
    let next : moved_place less more p + s.lines ≡ moved_place less more (p + s.lines) = omega (arith, low) in
    ap₂ (λ (x y : List PlacedBlock). x ++ y) (placed-moved less more p s.blocks) (ap (λ n. blocks_from n ss) next ∙ blocks-moved less more (p + s.lines) ss (omega (arith, low)))
    ∙ sym (map-append (moved_block less more) (map (placed_at p) s.blocks) (blocks_from (p + s.lines) ss))

-- They begin at a place or behind it.
abbrev pub BeginsFrom : ℕ → PlacedBlock → Type 0
BeginsFrom low placed = low ≤ placed.first

stanza-past : (low p : ℕ) (blocks : List BlockOf) → low ≤ p → All (BeginsFrom low) (map (placed_at p) blocks)
stanza-past low p [] order = All-nil (BeginsFrom low)
stanza-past low p (b ∷ bs) order = All-cons (BeginsFrom low) (placed_at p b) (map (placed_at p) bs) order (stanza-past low p bs order)

pub blocks-past : (low p : ℕ) (stanzas : List StanzaOf) → low ≤ p → All (BeginsFrom low) (blocks_from p stanzas)
blocks-past low p [] order = All-nil (BeginsFrom low)
blocks-past low p (s ∷ ss) order =
    All-append (BeginsFrom low) (map (placed_at p) s.blocks) (blocks_from (p + s.lines) ss) (stanza-past low p s.blocks order) (blocks-past low (p + s.lines) ss (omega (arith, order)))

pub places-rise : (low p : ℕ) (stanzas : List StanzaOf) → low ≤ p → PlacesRise low (blocks_from p stanzas)
places-rise low p [] order = tt
places-rise low p (s ∷ ss) order = stanza-rises p low s.blocks (blocks_from (p + s.lines) ss) order (places-rise p (p + s.lines) ss (omega arith))

-- Where a heading or a speech stands among them.
pub any-placed : (p : ℕ) (blocks : List BlockOf) → list_any settles (map (placed_at p) blocks) ≡ list_any block_settles blocks
any-placed p [] = refl
any-placed p (b ∷ bs) = ap (λ t. block_settles b || t) (any-placed p bs)

pub any-blocks : (p : ℕ) (stanzas : List StanzaOf) → list_any settles (blocks_from p stanzas) ≡ list_any stanza_settles stanzas
any-blocks p [] = refl
any-blocks p (s ∷ ss) =
    list_any-append settles (map (placed_at p) s.blocks) (blocks_from (p + s.lines) ss) ∙ ap₂ (λ a b. a || b) (any-placed p s.blocks) (any-blocks (p + s.lines) ss)

-- Where the first of them begins with a block without a caret.
caret-none : (caret : Bool) → not caret ≡ true → caret ≡ false
caret-none false is = refl
caret-none true is = sym is

first-begins : (p : ℕ) (blocks : List BlockOf) (later more : List PlacedBlock) → first_apart blocks ≡ true → BeginsApart ((map (placed_at p) blocks ++ later) ++ more)
first-begins p [] later more is = let bad : ⊥ = cc (is) in absurd bad
first-begins p (b ∷ bs) later more is = caret-none b.caret is

pub opens-begin : (p : ℕ) (stanzas : List StanzaOf) (more : List PlacedBlock) → OpensApart stanzas → BeginsApart (blocks_from p stanzas ++ more)
opens-begin p [] more is = absurd is
opens-begin p (s ∷ ss) more is = first-begins p s.blocks (blocks_from (p + s.lines) ss) more is

pub opens-apart : (p : ℕ) (stanzas : List StanzaOf) → OpensApart stanzas → BeginsApart (blocks_from p stanzas)
opens-apart p stanzas is = subst BeginsApart (append-nil (blocks_from p stanzas)) (opens-begin p stanzas [] is)

-- Where the last of them ends with a block that is joined with none behind it.
left-false : (b : Bool) → not b ≡ true → b ≡ false
left-false false is = refl
left-false true is = sym is

pub ends-more : (xs ys : List PlacedBlock) → EndsApart ys → EndsApart (xs ++ ys)
ends-more [] ys is = is
ends-more (x ∷ []) [] is = absurd is
ends-more (x ∷ []) (y ∷ ys) is = is
ends-more (x ∷ z ∷ xs) ys is = ends-more (z ∷ xs) ys is

last-ends : (p : ℕ) (blocks : List BlockOf) → last_apart blocks ≡ true → EndsApart (map (placed_at p) blocks)
last-ends p [] is = let bad : ⊥ = cc (is) in absurd bad
last-ends p (b ∷ []) is = left-false (is_left b) is
last-ends p (b ∷ c ∷ bs) is = last-ends p (c ∷ bs) is

pub closes-ends : (p : ℕ) (stanzas : List StanzaOf) → ClosesApart stanzas → EndsApart (blocks_from p stanzas)
closes-ends p [] is = absurd is
closes-ends p (s ∷ []) is = subst EndsApart (sym (append-nil (map (placed_at p) s.blocks))) (last-ends p s.blocks is)
closes-ends p (s ∷ t ∷ ss) is = ends-more (map (placed_at p) s.blocks) (blocks_from (p + s.lines) (t ∷ ss)) (closes-ends (p + s.lines) (t ∷ ss) is)

pub closes-more : (xs ys : List StanzaOf) → ClosesApart ys → ClosesApart (xs ++ ys)
closes-more [] ys is = is
closes-more (x ∷ []) [] is = absurd is
closes-more (x ∷ []) (y ∷ ys) is = is
closes-more (x ∷ z ∷ xs) ys is = closes-more (z ∷ xs) ys is

pub opens-more : (xs ys : List StanzaOf) → OpensApart xs → OpensApart (xs ++ ys)
opens-more [] ys is = absurd is
opens-more (x ∷ xs) ys is = is
