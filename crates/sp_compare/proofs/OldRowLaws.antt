-- Rows of elements of which some made way for others.
use Rattle.std.proofs.Common.{◌≡◌, ℕ, zero, suc, ◌+◌, ◌-◌, ◌<◌, ◌≤◌, Option, Some, None, List, [], ◌∷◌, ◌++◌, length, map, take, drop, get_or, refl, sym, ap, ap₂, subst, ◌∙◌, arith, length-drop, take-append-drop}
use Rattle.std.proofs.Math.ListN.{get_or-append}
use Rattle.std.proofs.lemmas.List.{drop-take, take-take, get_or_default, get_or-append-add, get_or-drop, get_or-map, length-map, length-take-le}
use Rattle.std.specs.Prelude.{All, IfSome}
use Rattle.spec_pages.specs.Rows.{Row, ElementOf, shifted_row}
use Rattle.spec_labels.specs.declared.RowKey.{RowKey}
use Rattle.spec_sheets.specs.Layout.{placed_in}
use Rattle.sp_gap.specs.Runs.{exchanged}
use Rattle.sp_gap.specs.Moves.{shifted}
use Rattle.sp_layout.specs.Bodies.{KeyedElements, StandsIn, row_count}
use Rattle.sp_layout.specs.Exchanges.{CanMove, moved_element, rows_at, with_run}
use Rattle.sp_layout.proofs.BodyExchanges.{count-append, count-moved}
use Rattle.sp_layout.proofs.BodyLaws.{placed_in-append}
use Rattle.sp_compare.specs.declared.old_rows.RunPlaces.{RunPlaces}
use Rattle.sp_compare.specs.OldElements.{AreOtherRows, OtherRowsOf, old_elements, with_others}
use Rattle.sp_compare.proofs.OtherRowLaws.{others-all, others-at, others-count, others-front, others-size}
use Rattle.sp_compare.proofs.RowPlaces.{row-inside, row-there}

-- ---- how many rows

pub count-parts : (elements : List ElementOf) (place : ℕ) → row_count elements ≡ row_count (take place elements) + row_count (drop place elements)
count-parts elements place = ap row_count (sym (take-append-drop place elements)) ∙ count-append (take place elements) (drop place elements)

take-more : {X : Type 0} (xs : List X) (n k : ℕ) → take (n + k) xs ≡ take n xs ++ take k (drop n xs)
take-more xs n k =
    sym (take-append-drop n (take (n + k) xs))
    ∙ ap₂ (λ (us vs : List _). us ++ vs) (take-take n (n + k) xs (omega arith)) (drop-take n k xs)

pub count-more : (elements : List ElementOf) (n k : ℕ) → row_count (take (n + k) elements) ≡ row_count (take n elements) + row_count (take k (drop n elements))
count-more elements n k = ap row_count (take-more elements n k) ∙ count-append (take n elements) (take k (drop n elements))

pub count-rises : (elements : List ElementOf) (n m : ℕ) → n ≤ m → row_count (take n elements) ≤ row_count (take m elements)
count-rises elements n m low =
    let sum : n + (m - n) ≡ m = omega (arith, low) in
    let more = ap (λ k. row_count (take k elements)) (sym sum) ∙ count-more elements n (m - n) in
    omega (arith, more)

pub map-take : {X Y : Type 0} (f : X → Y) (n : ℕ) (xs : List X) → map f (take n xs) ≡ take n (map f xs)
map-take f zero xs = refl
map-take f (suc n) [] = refl
map-take {Y = Y} f (suc n) (x ∷ xs) = ap (λ (ys : List Y). f x ∷ ys) (map-take f n xs)

count-run : (body gone : KeyedElements) (from to less more : ℕ)
    → row_count (with_run body from to gone less more).elements ≡ row_count (take from body.elements) + (row_count gone.elements + row_count (drop to body.elements))
count-run body gone from to less more =
    let moved = map (moved_element less more) (drop to body.elements) in
    let one = count-append (take from body.elements) (gone.elements ++ moved) in
    let two = count-append gone.elements moved in
    let three = count-moved less more (drop to body.elements) in
    omega (arith, one, two, three)

pub count-old : (body gone : KeyedElements) (others : Option OtherRowsOf) (at : RunPlaces) → IfSome others (AreOtherRows body.elements at.to)
    → row_count (old_elements body others at gone).elements ≡ row_count (take at.from body.elements) + (row_count gone.elements + row_count (drop at.to body.elements))
count-old body gone others at are =
    let was = with_others body others in
    let all = count-run was gone at.from at.to at.less at.more in
    let front = others-count body at.to others are at.from in
    let till = others-count body at.to others are at.to in
    let sum = others-all body at.to others are in
    let one = count-parts was.elements at.to in
    let two = count-parts body.elements at.to in
    omega (arith, all, front, till, sum, one, two)

-- ---- rows by their places

rows-run : (body gone : KeyedElements) (from to less more : ℕ)
    → placed_in (with_run body from to gone less more).elements ≡ placed_in (take from body.elements) ++ (placed_in gone.elements ++ placed_in (map (moved_element less more) (drop to body.elements)))
rows-run body gone from to less more =
    let moved = map (moved_element less more) (drop to body.elements) in
    placed_in-append (take from body.elements) (gone.elements ++ moved)
    ∙ ap (λ (rows : List Row). placed_in (take from body.elements) ++ rows) (placed_in-append gone.elements moved)

rows-parts : (elements : List ElementOf) (place : ℕ) → placed_in elements ≡ placed_in (take place elements) ++ placed_in (drop place elements)
rows-parts elements place = ap placed_in (sym (take-append-drop place elements)) ∙ placed_in-append (take place elements) (drop place elements)

module _ (body gone : KeyedElements) (others : Option OtherRowsOf) (at : RunPlaces) (order : at.from ≤ at.to) (are : IfSome others (AreOtherRows body.elements at.to)) where
  -- The elements behind the run, with their other rows, and moved.
  abbrev pub later : List ElementOf
  later = map (moved_element at.less at.more) (drop at.to (with_others body others).elements)

  -- All rows: the elements in front of the run have those that they have after the change.
  rows-old : placed_in (old_elements body others at gone).elements ≡ placed_in (take at.from body.elements) ++ (placed_in gone.elements ++ placed_in later)
  rows-old =
      rows-run (with_others body others) gone at.from at.to at.less at.more
      ∙ ap (λ (those : List ElementOf). placed_in those ++ (placed_in gone.elements ++ placed_in later)) (others-front body at.to others are at.from order)

  pub row-front : (row : ℕ) (d : Row) → row < row_count (take at.from body.elements) → get_or (placed_in (old_elements body others at gone).elements) row d ≡ get_or (placed_in body.elements) row d
  row-front row d here =
      let front = placed_in (take at.from body.elements) in
      ap (λ (rows : List Row). get_or rows row d) rows-old
      ∙ get_or-append front (placed_in gone.elements ++ placed_in later) d row here
      ∙ sym (ap (λ (rows : List Row). get_or rows row d) (rows-parts body.elements at.from) ∙ get_or-append front (placed_in (drop at.from body.elements)) d row here)

  pub row-gone : (row inside : ℕ) (d : Row) → inside < row_count gone.elements → row ≡ row_count (take at.from body.elements) + inside
      → get_or (placed_in (old_elements body others at gone).elements) row d ≡ get_or (placed_in gone.elements) inside d
  row-gone row inside d here place =
      ap₂ (λ (rows : List Row) n. get_or rows n d) rows-old place
      ∙ get_or-append-add (placed_in (take at.from body.elements)) (placed_in gone.elements ++ placed_in later) inside d
      ∙ get_or-append (placed_in gone.elements) (placed_in later) d inside here

  pub row-moved : (row behind : ℕ) (d : Row) → row ≡ row_count (take at.from body.elements) + (row_count gone.elements + behind)
      → get_or (placed_in (old_elements body others at gone).elements) row d ≡ get_or (placed_in later) behind d
  row-moved row behind d place =
      ap₂ (λ (rows : List Row) n. get_or rows n d) rows-old place
      ∙ get_or-append-add (placed_in (take at.from body.elements)) (placed_in gone.elements ++ placed_in later) (row_count gone.elements + behind) d
      ∙ get_or-append-add (placed_in gone.elements) (placed_in later) behind d

-- An element behind a place, and the rows that it has there.
pub at-or-behind : (elements : List ElementOf) (to row place : ℕ) → StandsIn elements (row_count (take to elements) + row) place → to ≤ place
at-or-behind elements to row place stands = by (to - place) refl
  where
    by : (n : ℕ) → to - place ≡ n → to ≤ place
    by zero e = omega (arith, e)
    by (suc n) e =
        let below : place + 1 ≤ to = omega (arith, e) in
        let rises = count-rises elements (place + 1) to below in
        let past = stands.to in
        absurd (omega (arith, rises, past))

row-behind : (elements : List ElementOf) (to less more row place start : ℕ) (element : ElementOf) (it d : Row)
    → StandsIn elements (row_count (take to elements) + row) place → start ≡ row_count (take place elements)
    → element ≡ get_or elements place element → it ≡ get_or element.rows (row_count (take to elements) + row - start) it
    → get_or (placed_in (map (moved_element less more) (drop to elements))) row d ≡ shifted_row (shifted less more element.first) it
row-behind elements to less more row place start element it d stands begin is own =
    let low = at-or-behind elements to row place stands in
    let behind = drop to elements in
    let moved = map (moved_element less more) behind in
    let k = place - to in
    let sum : to + k ≡ place = omega (arith, low) in
    let next : to + (k + 1) ≡ place + 1 = omega (arith, low) in
    let counted : (n : ℕ) → row_count (take n moved) ≡ row_count (take n behind) =
    λ n. ap row_count (sym (map-take (moved_element less more) n behind)) ∙ count-moved less more (take n behind) in
    let here = ap (λ n. row_count (take n elements)) (sym sum) ∙ count-more elements to k in
    let there = ap (λ n. row_count (take n elements)) (sym next) ∙ count-more elements to (k + 1) in
    let inside = stands.inside in
    let from = stands.from in
    let till = stands.to in
    let size = length-map behind (moved_element less more) in
    let left = length-drop to elements in
    let begins : start - row_count (take to elements) ≡ row_count (take k moved) = omega (arith, begin, here, counted k) in
    let at : StandsIn moved row k = record {
      inside = omega (arith, inside, low, size, left);
      from = omega (arith, from, here, counted k);
      to = omega (arith, till, there, counted (k + 1));
    } in
    let row_is : row_count (take to elements) + row - start ≡ row - (start - row_count (take to elements)) = omega (arith, begin, here) in
    let got : moved_element less more element ≡ get_or moved k (moved_element less more element) =
    ap (moved_element less more) (is ∙ ap (λ n. get_or elements n element) (sym sum) ∙ sym (get_or-drop to elements k element))
    ∙ sym (get_or-map (moved_element less more) behind k element (moved_element less more element) (omega (arith, inside, low, left))) in
    row-there moved row k (start - row_count (take to elements)) (moved_element less more element) it d at begins got
    (own ∙ ap (λ n. get_or element.rows n it) row_is)

-- A row stands in the same element, at the same place of it, where this one or another had other rows.
record IsThere (elements : List ElementOf) (row place start : ℕ) (element : ElementOf) : Type 0 where
  pub stands : StandsIn elements row place
  pub begin : start ≡ row_count (take place elements)
  pub is : element ≡ get_or elements place element

was-there : (body : KeyedElements) (others : Option OtherRowsOf) (to row place start : ℕ) (element : ElementOf) → IfSome others (AreOtherRows body.elements to)
    → StandsIn body.elements row place → start ≡ row_count (take place body.elements) → element ≡ get_or body.elements place element
    → let olds = (with_others body others).elements in IsThere olds row place start (record { first = element.first; rows = rows_at olds place })
was-there body others to row place start element are stands begin is =
    let olds = (with_others body others).elements in
    let count = others-count body to others are in
    let was : ElementOf = record { first = element.first; rows = rows_at olds place } in
    let size = others-size body others in
    let inside = stands.inside in
    let from = stands.from in
    let till = stands.to in
    record {
      stands = record {
        inside = omega (arith, inside, size);
        from = omega (arith, from, count place);
        to = omega (arith, till, count (place + 1));
      };
      begin = begin ∙ sym (count place);
      is = ap (λ (e : ElementOf). record { first = e.first; rows = rows_at olds place }) (is ∙ get_or_default body.elements place element was inside) ∙ sym (others-at body others place was inside);
    }

pub was-inside : (body : KeyedElements) (others : Option OtherRowsOf) (to row place start : ℕ) (element : ElementOf) → IfSome others (AreOtherRows body.elements to)
    → StandsIn body.elements row place → start ≡ row_count (take place body.elements) → element ≡ get_or body.elements place element → row - start < length (rows_at (with_others body others).elements place)
was-inside body others to row place start element are stands begin is =
    let olds = (with_others body others).elements in
    let there = was-there body others to row place start element are stands begin is in
    row-inside olds row place start (record { first = element.first; rows = rows_at olds place }) there.stands there.begin there.is

pub row-later : (body : KeyedElements) (others : Option OtherRowsOf) (to less more row place start : ℕ) (element : ElementOf) (it d : Row) → IfSome others (AreOtherRows body.elements to)
    → StandsIn body.elements (row_count (take to body.elements) + row) place → start ≡ row_count (take place body.elements) → element ≡ get_or body.elements place element
    → it ≡ get_or (rows_at (with_others body others).elements place) (row_count (take to body.elements) + row - start) it
    → get_or (placed_in (map (moved_element less more) (drop to (with_others body others).elements))) row d ≡ shifted_row (shifted less more element.first) it
row-later body others to less more row place start element it d are stands begin is own =
    let olds = (with_others body others).elements in
    let count = others-count body to others are to in
    let there = was-there body others to (row_count (take to body.elements) + row) place start element are stands begin is in
    row-behind olds to less more row place start (record { first = element.first; rows = rows_at olds place }) it d
    (subst (λ n. StandsIn olds (n + row) place) (sym count) there.stands) there.begin there.is
    (own ∙ ap (λ n. get_or (rows_at olds place) (n + row - start) it) (sym count))

-- Its lines can be moved.
pub moves-here : (elements : List ElementOf) (to less more row place : ℕ) (element : ElementOf) → StandsIn elements (row_count (take to elements) + row) place → element ≡ get_or elements place element
    → All (CanMove less more) (drop to elements) → CanMove less more element
moves-here elements to less more row place element stands is all =
    let low = at-or-behind elements to row place stands in
    let sum : to + (place - to) ≡ place = omega (arith, low) in
    let inside = stands.inside in
    let left = length-drop to elements in
    subst (CanMove less more) (get_or-drop to elements (place - to) element ∙ ap (λ n. get_or elements n element) sum ∙ sym is)
    (all (place - to) element (omega (arith, inside, low, left)))

-- ---- keys

-- Other rows have the keys of those after the change, and so stand where these stand.
pub keys-old : (body gone : KeyedElements) (others : Option OtherRowsOf) (at : RunPlaces) → IfSome others (AreOtherRows body.elements at.to)
    → (old_elements body others at gone).keys ≡ exchanged body.keys (row_count (take at.from body.elements)) (row_count (take at.to body.elements)) gone.keys
keys-old body gone others at are =
    let front = others-count body at.to others are at.from in
    let till = others-count body at.to others are at.to in
    ap₂ (λ n m. exchanged (with_others body others).keys n m gone.keys) front till ∙ ap (λ (keys : List RowKey). exchanged keys (row_count (take at.from body.elements)) (row_count (take at.to body.elements)) gone.keys) (same others)
  where
    same : (those : Option OtherRowsOf) → (with_others body those).keys ≡ body.keys
    same None = refl
    same (Some it) = refl

pub key-front : (keys others : List RowKey) (row end i : ℕ) (d : RowKey) → row ≤ length keys → i < row → get_or (exchanged keys row end others) i d ≡ get_or keys i d
key-front keys others row end i d within here =
    let size = length-take-le row keys within in
    get_or-append (take row keys) (others ++ drop end keys) d i (omega (arith, size, here))
    ∙ sym (ap (λ (ks : List RowKey). get_or ks i d) (sym (take-append-drop row keys)) ∙ get_or-append (take row keys) (drop row keys) d i (omega (arith, size, here)))

pub key-gone : (keys others : List RowKey) (row end i inside : ℕ) (d : RowKey) → row ≤ length keys → inside < length others → i ≡ row + inside → get_or (exchanged keys row end others) i d ≡ get_or others inside d
key-gone keys others row end i inside d within here at =
    let size = length-take-le row keys within in
    let e : i ≡ length (take row keys) + inside = omega (arith, size, at) in
    ap (λ n. get_or (exchanged keys row end others) n d) e
    ∙ get_or-append-add (take row keys) (others ++ drop end keys) inside d ∙ get_or-append others (drop end keys) d inside here

pub key-moved : (keys others : List RowKey) (row end i behind : ℕ) (d : RowKey) → row ≤ length keys → i ≡ row + (length others + behind) → get_or (exchanged keys row end others) i d ≡ get_or keys (end + behind) d
key-moved keys others row end i behind d within at =
    let size = length-take-le row keys within in
    let e : i ≡ length (take row keys) + (length others + behind) = omega (arith, size, at) in
    ap (λ n. get_or (exchanged keys row end others) n d) e
    ∙ get_or-append-add (take row keys) (others ++ drop end keys) (length others + behind) d
    ∙ get_or-append-add others (drop end keys) behind d ∙ get_or-drop end keys behind d
