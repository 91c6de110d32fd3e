-- The blocks next to a window, by its stanzas.
use Rattle.std.proofs.Common.{◌≡◌, ℕ, zero, suc, ◌+◌, ◌-◌, ◌<◌, ◌≤◌, Bool, true, false, not, ◌&&◌, ◌||◌, cond, Option, Some, None, List, [], ◌∷◌, ◌++◌, length, map, take, drop, get_or, slice_get, refl, sym, ap, ap₂, ◌∙◌, arith}
use Rattle.std.specs.Prelude.{option_map}
use Rattle.std.proofs.lemmas.List.{append-nil, drop_more, take_more, take_rest}
use Rattle.spec_script.specs.BlockValues.{BlockOf, StanzaOf}
use Rattle.spec_script.specs.Stanzas.{PlacedBlock, blocks_from}
use Rattle.spec_script.specs.Elements.{placed_at}
use Rattle.spec_edit.specs.WindowBlocks.{WindowBlocks, is_nil, joined_by, last_block, first_block, joins, front_relaid}
use Rattle.spec_edit.proofs.RelaidElements.{last-behind}
use Rattle.sp_refill.specs.Neighbours.{are_dual, is_there, nearer, first_one, last_one, first_in, last_in, relays_front, parts_rest, relays_before}

abbrev pub block_by : Option PlacedBlock → Option BlockOf
block_by o = option_map (λ (placed : PlacedBlock). placed.block) o

-- ---- one of two

pub nearer-none : (o : Option BlockOf) → nearer o None ≡ o
nearer-none None = refl
nearer-none (Some x) = refl

nearer-assoc : (a b c : Option BlockOf) → nearer (nearer a b) c ≡ nearer a (nearer b c)
nearer-assoc None b c = refl
nearer-assoc (Some x) b c = refl

pub last-push : (xs : List StanzaOf) (s : StanzaOf) → last_in (xs ++ s ∷ []) ≡ nearer (last_one s) (last_in xs)
last-push [] s = sym (nearer-none (last_one s))
last-push (x ∷ xs) s = ap (λ o. nearer o (last_one x)) (last-push xs s) ∙ nearer-assoc (last_one s) (last_in xs) (last_one x)

pub last-in-append : (xs ys : List StanzaOf) → last_in (xs ++ ys) ≡ nearer (last_in ys) (last_in xs)
last-in-append [] ys = sym (nearer-none (last_in ys))
last-in-append (x ∷ xs) ys = ap (λ o. nearer o (last_one x)) (last-in-append xs ys) ∙ nearer-assoc (last_in ys) (last_in xs) (last_one x)

-- ---- first and last blocks of lists

pub last-there : (y : PlacedBlock) (ys : List PlacedBlock) (o : Option BlockOf) → nearer (block_by (last_block (y ∷ ys))) o ≡ block_by (last_block (y ∷ ys))
last-there y [] o = refl
last-there y (z ∷ ys) o = last-there z ys o

pub first-append : (xs ys : List PlacedBlock) → block_by (first_block (xs ++ ys)) ≡ nearer (block_by (first_block xs)) (block_by (first_block ys))
first-append [] ys = refl
first-append (x ∷ xs) ys = refl

pub last-append : (xs ys : List PlacedBlock) → block_by (last_block (xs ++ ys)) ≡ nearer (block_by (last_block ys)) (block_by (last_block xs))
last-append xs [] = ap (λ (l : List PlacedBlock). block_by (last_block l)) (append-nil xs)
last-append xs (y ∷ ys) = ap block_by (last-behind xs y ys) ∙ sym (last-there y ys (block_by (last_block xs)))

first-placed : (n : ℕ) (blocks : List BlockOf) → block_by (first_block (map (placed_at n) blocks)) ≡ slice_get blocks 0
first-placed n [] = refl
first-placed n (b ∷ bs) = refl

last-placed : (n : ℕ) (blocks : List BlockOf) → block_by (last_block (map (placed_at n) blocks)) ≡ slice_get blocks (length blocks - 1)
last-placed n [] = refl
last-placed n (b ∷ []) = refl
last-placed n (b ∷ c ∷ bs) =
    let rest = last-placed n (c ∷ bs) in
    let one : length (c ∷ bs) - 1 ≡ length bs = omega arith in
    let more : length (b ∷ c ∷ bs) - 1 ≡ suc (length bs) = omega arith in
    rest ∙ ap (slice_get (c ∷ bs)) one ∙ sym (ap (slice_get (b ∷ c ∷ bs)) more)

pub first-is : (n : ℕ) (stanzas : List StanzaOf) → block_by (first_block (blocks_from n stanzas)) ≡ first_in stanzas
first-is n [] = refl
first-is n (s ∷ ss) =
    first-append (map (placed_at n) s.blocks) (blocks_from (n + s.lines) ss) ∙ ap₂ (λ (a b : Option BlockOf). nearer a b) (first-placed n s.blocks) (first-is (n + s.lines) ss)

pub last-is : (n : ℕ) (stanzas : List StanzaOf) → block_by (last_block (blocks_from n stanzas)) ≡ last_in stanzas
last-is n [] = refl
last-is n (s ∷ ss) =
    last-append (map (placed_at n) s.blocks) (blocks_from (n + s.lines) ss) ∙ ap₂ (λ (a b : Option BlockOf). nearer a b) (last-is (n + s.lines) ss) (last-placed n s.blocks)

-- ---- pairs

joined-pair : (a b : Option PlacedBlock) → joined_by a b ≡ are_dual (block_by a) (block_by b)
joined-pair None None = refl
joined-pair None (Some y) = refl
joined-pair (Some x) None = refl
joined-pair (Some x) (Some y) = refl

pub joins-pair : (xs ys : List PlacedBlock) → joins xs ys ≡ are_dual (block_by (last_block xs)) (block_by (first_block ys))
joins-pair xs ys = joined-pair (last_block xs) (first_block ys)

there-nil : (xs : List PlacedBlock) → is_there (block_by (first_block xs)) ≡ not (is_nil xs)
there-nil [] = refl
there-nil (x ∷ xs) = refl

neither : (a b c : Bool) → cond (a && b) false c ≡ (not a || not b) && c
neither true true c = refl
neither true false c = refl
neither false b c = refl

module _ (w : WindowBlocks) where
  front-pairs : (xs : List PlacedBlock) → joins w.front (xs ++ w.rest) ≡ are_dual (block_by (last_block w.front)) (nearer (block_by (first_block xs)) (block_by (first_block w.rest)))
  front-pairs xs = joins-pair w.front (xs ++ w.rest) ∙ ap (are_dual (block_by (last_block w.front))) (first-append xs w.rest)

  rest-pairs : (xs : List PlacedBlock) → joins (w.front ++ xs) w.rest ≡ are_dual (nearer (block_by (last_block xs)) (block_by (last_block w.front))) (block_by (first_block w.rest))
  rest-pairs xs = joins-pair (w.front ++ xs) w.rest ∙ ap (λ o. are_dual o (block_by (first_block w.rest))) (last-append w.front xs)

  -- The last block before the window is relaid, by the blocks next to it.
  pub front-relaid : front_relaid w ≡ relays_front (block_by (last_block w.front)) (block_by (first_block w.gone)) (block_by (first_block w.come)) (block_by (first_block w.rest))
  front-relaid =
      neither (is_nil w.gone) (is_nil w.come) (joins w.front (w.gone ++ w.rest) || joins w.front (w.come ++ w.rest))
      ∙ ap₂ (λ (a b : Bool). a && b)
      (ap₂ (λ (a b : Bool). a || b) (sym (there-nil w.gone)) (sym (there-nil w.come)))
      (ap₂ (λ (a b : Bool). a || b) (front-pairs w.gone) (front-pairs w.come))

  -- The first block behind it stood in a pair with one before it and stands in none now.
  abbrev pub rest_parted : Bool
  rest_parted = joins (w.front ++ w.gone) w.rest && not (joins (w.front ++ w.come) w.rest)

  pub rest-parts : rest_parted ≡ parts_rest (nearer (block_by (last_block w.gone)) (block_by (last_block w.front))) (nearer (block_by (last_block w.come)) (block_by (last_block w.front))) (block_by (first_block w.rest))
  rest-parts = ap₂ (λ (a b : Bool). a && not b) (rest-pairs w.gone) (rest-pairs w.come)

-- ---- one stanza after another

-- The first block of stanzas from a place on is that of the stanza there, where it has one.
pub first-here : (stanzas : List StanzaOf) (place : ℕ) (d : StanzaOf) → place < length stanzas → first_in (drop place stanzas) ≡ nearer (first_one (get_or stanzas place d)) (first_in (drop (place + 1) stanzas))
first-here stanzas place d inside = ap first_in (drop_more stanzas place d inside)

pub first-here-to : (stanzas : List StanzaOf) (place to : ℕ) (d : StanzaOf) → place < to → to ≤ length stanzas
    → first_in (take (to - place) (drop place stanzas)) ≡ nearer (first_one (get_or stanzas place d)) (first_in (take (to - (place + 1)) (drop (place + 1) stanzas)))
first-here-to stanzas place to d inside low =
    let more : to - place ≡ suc (to - (place + 1)) = omega (arith, inside) in
    ap₂ (λ n (l : List StanzaOf). first_in (take n l)) more (drop_more stanzas place d (omega (arith, inside, low)))

pub last-here : (stanzas : List StanzaOf) (place : ℕ) (d : StanzaOf) → place < length stanzas → last_in (take (place + 1) stanzas) ≡ nearer (last_one (get_or stanzas place d)) (last_in (take place stanzas))
last-here stanzas place d inside = ap last_in (take_more stanzas place d inside) ∙ last-push (take place stanzas) (get_or stanzas place d)

-- The item at a place.
pub got : {X : Type 0} (xs : List X) (i : ℕ) (x : X) → slice_get xs i ≡ Some x → get_or xs i x ≡ x
got [] i x is = (let bad : ⊥ = cc (is) in absurd bad)
got (y ∷ ys) zero x is = cc (is)
got (y ∷ ys) (suc i) x is = got ys i x is

-- A stanza with a block has the first one of those from it on; without one the next decides.
pub first-found : (stanzas : List StanzaOf) (place to : ℕ) (s : StanzaOf) (o : Option BlockOf) → place < to → to ≤ length stanzas → slice_get stanzas place ≡ Some s → first_one s ≡ o
    → first_in (take (to - place) (drop place stanzas)) ≡ nearer o (first_in (take (to - (place + 1)) (drop (place + 1) stanzas)))
first-found stanzas place to s o inside low is own =
    let later = first_in (take (to - (place + 1)) (drop (place + 1) stanzas)) in
    first-here-to stanzas place to s inside low ∙ ap (λ (t : StanzaOf). nearer (first_one t) later) (got stanzas place s is) ∙ ap (λ p. nearer p later) own

-- The same with the last one of those up to it.
pub last-found : (stanzas : List StanzaOf) (place : ℕ) (s : StanzaOf) (o : Option BlockOf) → 0 < place → place ≤ length stanzas → get_or stanzas (place - 1) s ≡ s → last_one s ≡ o
    → last_in (take place stanzas) ≡ nearer o (last_in (take (place - 1) stanzas))
last-found stanzas place s o some low is own =
    let earlier = last_in (take (place - 1) stanzas) in
    let same : place ≡ place - 1 + 1 = omega (arith, some) in
    ap (λ n. last_in (take n stanzas)) same ∙ last-here stanzas (place - 1) s (omega (arith, some, low))
    ∙ ap (λ (t : StanzaOf). nearer (last_one t) earlier) is ∙ ap (λ p. nearer p earlier) own

-- What stands round a window, by the places where it begins and ends.
pub relays-found : (stanzas gone : List StanzaOf) (at stands from to : ℕ) (f g c r : Option BlockOf) → from ≡ at → to ≡ at + stands → at + stands ≤ length stanzas
    → f ≡ last_in (take from stanzas) → g ≡ first_in gone → c ≡ first_in (take (to - from) (drop from stanzas)) → r ≡ first_in (take (length stanzas - to) (drop to stanzas))
    → relays_front f g c r ≡ relays_before stanzas at stands gone
relays-found stanzas gone at stands from to f g c r begin end within f_is g_is c_is r_is =
    let count : to - from ≡ stands = omega (arith, begin, end) in
    let one = f_is ∙ ap (λ n. last_in (take n stanzas)) begin in
    let come = c_is ∙ ap₂ (λ n m. first_in (take n (drop m stanzas))) count begin in
    let rest = r_is ∙ ap first_in (take_rest stanzas to) ∙ ap (λ n. first_in (drop n stanzas)) end in
    ap₂ (λ (x y : Option BlockOf). relays_front x y c r) one g_is ∙ ap₂ (λ (x y : Option BlockOf). relays_front (last_in (take at stanzas)) (first_in gone) x y) come rest
