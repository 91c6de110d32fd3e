-- The keys of the rows of a text rise.
use Rattle.std.proofs.Common.{◌≡◌, ◌⊎◌, ℕ, zero, suc, ◌+◌, ◌-◌, ◌<◌, ◌≤◌, Bool, true, false, cond, Option, None, List, [], ◌∷◌, ◌++◌, length, map, drop, get_or, inl, inr, refl, sym, ap, subst, ◌∙◌, arith}
use Rattle.std.specs.Prelude.{All, AllPairs}
use Rattle.std.specs.List.{flat_map, list_any}
use Rattle.std.proofs.lemmas.List.{get_or-map, length-map, map-append}
use Rattle.std.proofs.lemmas.List.Elements.{All-nil, All-cons, All-tail, All-append}
use Rattle.std.proofs.lemmas.List.Kept.{AllPairs-cons}
use Rattle.spec_text.specs.Lines.{LineState, TextState, IsText, line_texts}
use Rattle.spec_text.proofs.ListLaws.{pairs-none, pairs-tail, pairs-join}
use Rattle.spec_script.specs.declared.Kind.{Kind}
use Rattle.spec_script.specs.LongestRuns.{Group}
use Rattle.spec_script.specs.BlockValues.{LineOf, BlockOf}
use Rattle.spec_script.specs.BlockParts.{Rise, line_from, line_to}
use Rattle.spec_script.specs.Stanzas.{PlacedBlock, blocks_of}
use Rattle.spec_script.proofs.RunSteps.{one_alone, two_together}
use Rattle.spec_pages.specs.declared.Side.{Side}
use Rattle.spec_pages.specs.declared.Side.TheVariants as sides
use Rattle.spec_pages.specs.Columns.{width_of, first_lead, has_rows}
use Rattle.spec_pages.specs.Rows.{LineContext, Row, line_context, line_rows_from, line_rows, with_number, half_row, joined_rows, shaped_rows, is_title, title_row, spoken_rows, with_speakers, block_alone, blocks_beside, shifted_row}
use Rattle.spec_pages.specs.Rows as rows
use Rattle.spec_pages.specs.Wrapping.{WrappedRow, wrapped}
use Rattle.spec_sheets.specs.Speakers.{Spoken, spoken_elements}
use Rattle.spec_sheets.specs.Layout.{KeyBelow, is_title_element, layout_in, layout_of, placed_in}
use Rattle.spec_sheets.proofs.ElementPlaces.{placed_from, placed_to, LinesRise, BlocksStand, Steps, blocks_of-stand, spoken_elements-rise}
use Rattle.spec_sheets.proofs.LaidRows.{element_rows, title_rows, body_rows, layout-titles, layout-body}
use Rattle.spec_sheets.proofs.RowLaws.{IsText-texts}

-- A key: the place of a line, and the number of a row in it.
abbrev Key : Type 0
Key = ℕ × ℕ

abbrev Below : Key → Key → Type 0
Below one other = (one.0 < other.0) ⊎ ((one.0 ≡ other.0) × (one.1 < other.1))

-- The key is of a line from a place on and before another.
record Inside (low high : ℕ) (key : Key) : Type 0 where
  above : low ≤ key.0
  below : key.0 < high

-- Keys rise, and are of lines between two places.
record KeysRise (low high : ℕ) (keys : List Key) : Type 0 where
  order : low ≤ high
  inside : All (Inside low high) keys
  rise : AllPairs Below keys

keys-none : (low high : ℕ) → low ≤ high → KeysRise low high []
keys-none low high order = record { order = order; inside = All-nil (Inside low high); rise = pairs-none Below }

keys-wider : (low from to high : ℕ) (keys : List Key) → low ≤ from → to ≤ high → KeysRise from to keys → KeysRise low high keys
keys-wider low from to high keys below above rise = record {
  order = omega (arith, below, above, rise.order);
  inside = λ k d h. let here = rise.inside k d h in record { above = omega (arith, below, here.above); below = omega (arith, above, here.below) };
  rise = rise.rise;
}

keys-append : (low mid high : ℕ) (keys others : List Key) → KeysRise low mid keys → KeysRise mid high others → KeysRise low high (keys ++ others)
keys-append low mid high keys others front back =
    let wide = keys-wider low low mid high keys (omega arith) back.order front in
    let far = keys-wider low mid high high others front.order (omega arith) back in
    record {
      order = wide.order;
      inside = All-append (Inside low high) keys others wide.inside far.inside;
      rise = pairs-join Below keys others front.rise back.rise
          (λ k d h j e g. let here = (front.inside k d h).below in let there = (back.inside j e g).above in inl (omega (arith, here, there)));
    }

keys-tail : (low high : ℕ) (key : Key) (keys : List Key) → KeysRise low high (key ∷ keys) → KeysRise low high keys
keys-tail low high key keys rise = record { order = rise.order; inside = All-tail (Inside low high) key keys rise.inside; rise = pairs-tail Below key keys rise.rise }

-- The keys of rows of an element that begins at a line of the text.
abbrev key_at : ℕ → Row → Key
key_at first row = (first + row.line, row.row)

abbrev keys_at : ℕ → List Row → List Key
keys_at first line_rows = map (key_at first) line_rows

-- The keys of rows of the text.
abbrev key_of : Row → Key
key_of row = (row.line, row.row)

abbrev keys_of : List Row → List Key
keys_of those = map key_of those

-- The keys of the rows of a line, from a number on.
record OfLine (place number : ℕ) (key : Key) : Type 0 where
  line : key.0 ≡ place
  row : number ≤ key.1

record LineKeys (place number : ℕ) (keys : List Key) : Type 0 where
  all : All (OfLine place number) keys
  rise : AllPairs Below keys

line_rows_from-keys : (first : ℕ) (context : LineContext) (line : LineOf) (number : ℕ) (wrapped_rows : List WrappedRow)
    → LineKeys (first + (context.shift + line.offset)) number (keys_at first (line_rows_from context line number wrapped_rows))
line_rows_from-keys first context line number [] =
    record { all = All-nil (OfLine (first + (context.shift + line.offset)) number); rise = pairs-none Below }
line_rows_from-keys first context line number (row ∷ later) =
    let place = first + (context.shift + line.offset) in
    let key : Key = (place, number) in
    let keys = keys_at first (line_rows_from context line (number + 1) later) in
    let behind = line_rows_from-keys first context line (number + 1) later in
    record {
      all = All-cons (OfLine place number) key keys (record { line = refl; row = omega arith })
          (λ k d h. let it = behind.all k d h in record { line = it.line; row = omega (arith, it.row) });
      rise = AllPairs-cons Below key keys (λ k d h. let it = behind.all k d h in inr (sym it.line, omega (arith, it.row))) behind.rise;
    }

line_rows-keys : (lines : List LineState) (first base shift : ℕ) (side : Side) (kind : Kind) (line : LineOf) → first + shift ≡ base
    → KeysRise (base + line_from line) (base + line_to line) (keys_at first (line_rows lines base shift side kind line))
line_rows-keys lines first base shift side kind line is =
    let context = line_context lines base shift side kind line in
    let made = line_rows_from-keys first context line 0 (wrapped context.text line.runs (width_of side kind line.part)) in
    record {
      order = omega arith;
      inside = λ k d h. let it = made.all k d h in record { above = omega (arith, it.line, is); below = omega (arith, it.line, is) };
      rise = made.rise;
    }

-- The keys of the rows of lines from a place of their stanza to another.
lines-keys : (lines : List LineState) (first base shift : ℕ) (side : Side) (kind : Kind) (low high : ℕ) (those : List LineOf) → first + shift ≡ base → Rise line_from line_to low high those
    → KeysRise (base + low) (base + high) (keys_at first (flat_map (line_rows lines base shift side kind) those))
lines-keys lines first base shift side kind low high [] is rise = keys-none (base + low) (base + high) (omega (arith, rise))
lines-keys lines first base shift side kind low high (line ∷ those) is rise =
    let made = line_rows lines base shift side kind line in
    let others = flat_map (line_rows lines base shift side kind) those in
    let here = keys-wider (base + low) (base + line_from line) (base + line_to line) (base + line_to line) (keys_at first made) (omega (arith, rise.0)) (omega arith)
    (line_rows-keys lines first base shift side kind line is) in
    subst (KeysRise (base + low) (base + high)) (sym (map-append (key_at first) made others))
    (keys-append (base + low) (base + line_to line) (base + high) (keys_at first made) (keys_at first others) here
    (lines-keys lines first base shift side kind (line_to line) high those is rise.2))

-- The keys of the rows of a block before they are shaped.
block_rows-keys : (lines : List LineState) (first shift : ℕ) (side : Side) (placed : PlacedBlock) → first + shift ≡ placed.first → LinesRise placed
    → KeysRise (placed_from placed) (placed_to placed) (keys_at first (rows.block_rows lines placed.first shift side placed.block))
block_rows-keys lines first shift side placed is rise =
    lines-keys lines first placed.first shift side placed.block.kind placed.block.first (placed.block.last + 1) placed.block.lines is rise

-- A number, and the shape of a row, change no key.
numbered-keys : (first : ℕ) (block : BlockOf) (line_rows : List Row) → keys_at first (with_number block line_rows) ≡ keys_at first line_rows
numbered-keys first block [] = refl
numbered-keys first block (row ∷ later) = refl

shaped-keys : (first lead index : ℕ) (line_rows : List Row) → keys_of (map (shifted_row first) (shaped_rows lead index line_rows)) ≡ keys_at first line_rows
shaped-keys first lead index [] = refl
shaped-keys first lead index (row ∷ later) = ap (λ (keys : List Key). key_at first row ∷ keys) (shaped-keys first lead (index + 1) later)

titles-keys : (first : ℕ) (made : List Row) → keys_of (map (shifted_row first) (map title_row made)) ≡ keys_of (map (shifted_row first) made)
titles-keys first [] = refl
titles-keys first (row ∷ later) = ap (λ (keys : List Key). (first + row.line, row.row) ∷ keys) (titles-keys first later)

spoken-keys : (lines : List LineState) (first : ℕ) (speakers : List Bool) (made : List Row) → keys_of (map (shifted_row first) (spoken_rows lines first speakers made)) ≡ keys_of (map (shifted_row first) made)
spoken-keys lines first speakers [] = refl
spoken-keys lines first speakers (row ∷ later) = refl

-- By a test.
keys-if : (low high first : ℕ) (t : Bool) (one other : List Row) → KeysRise low high (keys_of (map (shifted_row first) one)) → KeysRise low high (keys_of (map (shifted_row first) other))
    → KeysRise low high (keys_of (map (shifted_row first) (cond t one other)))
keys-if low high first true one other a b = a
keys-if low high first false one other a b = b

speakers-keys : (lines : List LineState) (low high first : ℕ) (speakers : List Bool) (made : List Row) → KeysRise low high (keys_of (map (shifted_row first) made))
    → KeysRise low high (keys_of (map (shifted_row first) (with_speakers lines first speakers made)))
speakers-keys lines low high first speakers made rise =
    keys-if low high first (list_any (λ goes_on. goes_on) speakers) (spoken_rows lines first speakers made) made (subst (KeysRise low high) (sym (spoken-keys lines first speakers made)) rise) rise

-- The keys of a block by itself.
single-keys : (lines : List LineState) (it : Spoken) → LinesRise it.placed → KeysRise (placed_from it.placed) (placed_to it.placed) (keys_of (element_rows lines (one_alone it)))
single-keys lines it rise =
    let placed = it.placed in
    let low = placed_from placed in
    let high = placed_to placed in
    let first = placed.first in
    let block = placed.block in
    let made = rows.block_rows lines first 0 sides.Alone block in
    let own = block_alone lines first block in
    let same : first + 0 ≡ first = omega arith in
    let keys : KeysRise low high (keys_of (map (shifted_row first) own)) =
    subst (KeysRise low high) (sym (shaped-keys first (first_lead block.kind) 0 (with_number block made) ∙ numbered-keys first block made))
    (block_rows-keys lines first 0 sides.Alone placed same rise) in
    keys-if low high first (has_rows block.kind) (cond (is_title block.kind) (map title_row own) (with_speakers lines first (it.continued ∷ []) own)) []
    (keys-if low high first (is_title block.kind) (map title_row own) (with_speakers lines first (it.continued ∷ []) own)
    (subst (KeysRise low high) (sym (titles-keys first own)) keys) (speakers-keys lines low high first (it.continued ∷ []) own keys))
    (keys-none low high keys.order)

-- The rows of both halves have the keys of the left half, and then those of the right half's rows that stand alone.
halves-keys : (first : ℕ) (line_rows : List Row) → keys_at first (map half_row line_rows) ≡ keys_at first line_rows
halves-keys first [] = refl
halves-keys first (row ∷ later) = ap (λ (keys : List Key). key_at first row ∷ keys) (halves-keys first later)

joined-keys : (first : ℕ) (left right : List Row) → keys_at first (joined_rows left right) ≡ keys_at first left ++ keys_at first (drop (length left) right)
joined-keys first [] right = halves-keys first right
joined-keys first (row ∷ left) [] =
    ap (λ (keys : List Key). key_at first row ∷ keys) (joined-keys first left [] ∙ ap (λ (line_rows : List Row). keys_at first left ++ keys_at first line_rows) (none (length left)))
  where
    none : (n : ℕ) → drop {A = Row} n [] ≡ []
    none zero = refl
    none (suc n) = refl
joined-keys first (row ∷ left) (other ∷ right) = ap (λ (keys : List Key). key_at first row ∷ keys) (joined-keys first left right)

keys-drop : (low high first n : ℕ) (line_rows : List Row) → KeysRise low high (keys_at first line_rows) → KeysRise low high (keys_at first (drop n line_rows))
keys-drop low high first zero line_rows rise = rise
keys-drop low high first (suc n) [] rise = rise
keys-drop low high first (suc n) (row ∷ later) rise = keys-drop low high first n later (keys-tail low high (key_at first row) (keys_at first later) rise)

-- The keys of two speeches as dual dialogue.
pair-keys : (lines : List LineState) (left right : Spoken) → LinesRise left.placed → LinesRise right.placed → left.placed.first ≤ right.placed.first → placed_to left.placed ≤ placed_from right.placed
    → KeysRise (placed_from left.placed) (placed_to right.placed) (keys_of (element_rows lines (two_together left right)))
pair-keys lines left right l r order apart =
    let low = placed_from left.placed in
    let high = placed_to right.placed in
    let first = left.placed.first in
    let second_first = right.placed.first in
    let shift = second_first - first in
    let same : first + 0 ≡ first = omega arith in
    let there : first + shift ≡ second_first = omega (arith, order) in
    let left_rows = rows.block_rows lines first 0 sides.Left left.placed.block in
    let right_rows = rows.block_rows lines second_first shift sides.Right right.placed.block in
    let alone_rows = drop (length left_rows) right_rows in
    speakers-keys lines low high first (left.continued ∷ right.continued ∷ []) (blocks_beside lines first left.placed.block second_first right.placed.block)
    (subst (KeysRise low high) (sym (shaped-keys first 1 0 (joined_rows left_rows right_rows) ∙ joined-keys first left_rows right_rows))
    (keys-append low (placed_to left.placed) high (keys_at first left_rows) (keys_at first alone_rows)
    (block_rows-keys lines first 0 sides.Left left.placed same l)
    (keys-wider (placed_to left.placed) (placed_from right.placed) high high (keys_at first alone_rows) apart (omega arith)
    (keys-drop (placed_from right.placed) high first (length left_rows) right_rows (block_rows-keys lines first shift sides.Right right.placed there r)))))

-- The keys of the title page and of the body, where elements stand between two places of the text.
record BothRise (lines : List LineState) (low high : ℕ) (elements : List (Group Spoken)) : Type 0 where
  titles : KeysRise low high (keys_of (flat_map (title_rows lines) elements))
  bodies : KeysRise low high (keys_of (flat_map (body_rows lines) elements))

-- Rows, and those behind them.
next-keys : (low from to high : ℕ) (made others : List Row) → low ≤ from → KeysRise from to (keys_of made) → KeysRise to high (keys_of others) → KeysRise low high (keys_of (made ++ others))
next-keys low from to high made others order here behind =
    subst (KeysRise low high) (sym (map-append key_of made others))
    (keys-append low to high (keys_of made) (keys_of others) (keys-wider low from to to (keys_of made) order (omega arith) here) behind)

-- By whether an element is a title page.
part-keys : (low high : ℕ) (t : Bool) (made : List Row) → KeysRise low high (keys_of made) → KeysRise low high (keys_of (cond t made [])) × KeysRise low high (keys_of (cond t [] made))
part-keys low high true made rise = (rise, keys-none low high rise.order)
part-keys low high false made rise = (keys-none low high rise.order, rise)

next-rise : (lines : List LineState) (low from to high : ℕ) (element : Group Spoken) (others : List (Group Spoken)) → low ≤ from → KeysRise from to (keys_of (element_rows lines element))
    → BothRise lines to high others → BothRise lines low high (element ∷ others)
next-rise lines low from to high element others order here behind =
    let parts = part-keys from to (is_title_element element) (element_rows lines element) here in
    record {
      titles = next-keys low from to high (title_rows lines element) (flat_map (title_rows lines) others) order parts.0 behind.titles;
      bodies = next-keys low from to high (body_rows lines element) (flat_map (body_rows lines) others) order parts.1 behind.bodies;
    }

key-steps : (lines : List LineState) → Steps (line_texts lines) (BothRise lines)
key-steps lines = record {
  none = λ low high order. record { titles = keys-none low high order; bodies = keys-none low high order };
  single = λ low high it others stands order behind.
      next-rise lines low (placed_from it.placed) (placed_to it.placed) high (one_alone it) others order (single-keys lines it stands.lines) behind;
  double = λ low high left right others l r dual places order apart behind.
      next-rise lines low (placed_from left.placed) (placed_to right.placed) high (two_together left right) others order (pair-keys lines left right l.lines r.lines places apart) behind;
}

-- Rows whose keys rise.
rows-rise : (those : List Row) → AllPairs Below (keys_of those) → AllPairs KeyBelow those
rows-rise those all i j d below inside =
    let size = length-map those key_of in
    let first = get_or-map key_of those i d (key_of d) (omega (arith, below, inside)) in
    let second = get_or-map key_of those j d (key_of d) inside in
    subst (Below (key_of (get_or those i d))) second
    (subst (λ (key : Key). Below key (get_or (keys_of those) j (key_of d))) first (all i j (key_of d) below (omega (arith, size, inside))))

-- Of two rows of title pages, and of two rows of the body, the earlier has the lower key.
pub layout_in-keys : (speakers : Bool) (lines : List LineState) (last : Option (List ℕ)) (low high place : ℕ) (blocks : List PlacedBlock) → BlocksStand (line_texts lines) low high place blocks
    → let layout = layout_in lines (spoken_elements speakers lines last blocks) in AllPairs KeyBelow (placed_in layout.titles) × AllPairs KeyBelow (placed_in layout.body)
layout_in-keys speakers lines last low high place blocks stand =
    let elements = spoken_elements speakers lines last blocks in
    let both = spoken_elements-rise speakers lines (BothRise lines) (key-steps lines) last low high place blocks stand in (
      subst (AllPairs KeyBelow) (sym (layout-titles lines elements)) (rows-rise (flat_map (title_rows lines) elements) both.titles.rise),
      subst (AllPairs KeyBelow) (sym (layout-body lines elements)) (rows-rise (flat_map (body_rows lines) elements) both.bodies.rise),
    )

pub layout_of-keys : (speakers : Bool) (text : TextState) → IsText text
    → AllPairs KeyBelow (placed_in (layout_of speakers text.lines).titles) × AllPairs KeyBelow (placed_in (layout_of speakers text.lines).body)
layout_of-keys speakers text is =
    let texts = line_texts text.lines in
    let are = IsText-texts text is in
    layout_in-keys speakers text.lines None 0 (length texts) 0 (blocks_of texts) (blocks_of-stand texts are.utf8 are.few)
