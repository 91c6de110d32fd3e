-- Runs of elements that are exchanged and put back.
use Rattle.std.proofs.Common.{◌≡◌, ℕ, ◌+◌, ◌-◌, List, [], ◌∷◌, ◌++◌, length, map, take, drop, slice_range, refl, sym, ap, ap₂, subst, ◌∙◌, arith, append_assoc, length-append, length-drop, take_at, drop_at}
use Rattle.std.specs.Prelude.{All}
use Rattle.std.proofs.lemmas.List.{length-map, length-take-le, take-append-drop}
use Rattle.std.proofs.lemmas.List.Elements.{All-nil, All-cons, All-head, All-tail}
use Rattle.spec_pages.specs.Rows.{ElementOf}
use Rattle.spec_labels.specs.declared.RowKey.{RowKey}
use Rattle.sp_gap.specs.Runs.{exchanged}
use Rattle.sp_gap.proofs.RunLaws.{in-three}
use Rattle.sp_gap.specs.Moves.{shifted}
use Rattle.sp_layout.specs.Bodies.{KeyedElements, row_count}
use Rattle.sp_layout.specs.Exchanges.{moved_element, CanMove, run_of, with_run}
use Rattle.sp_layout.proofs.BodyExchanges.{count-append, count-moved, till-is}
use Rattle.sp_layout.specs.Runs.{MovesBack, ElementMoves, CanExchange, with_breaks, breaks_in, CanExchangeBreaks}

pub later-can : (less more : ℕ) (elements : List ElementOf) → All (ElementMoves less more) elements → All (CanMove less more) elements
later-can less more elements all k d inside = (all k d inside).here

move-back : (less more place : ℕ) → MovesBack less more place → (shifted more less (shifted less more place) ≡ place) × MovesBack more less (shifted less more place)
move-back less more place it =
    let low = it.here.from in
    let high = it.here.fits in
    let was = it.was in
    (omega (arith, low), record { here = record { from = omega arith; fits = omega (arith, low, was) }; was = high })

moved-back : (less more : ℕ) (elements : List ElementOf) → All (ElementMoves less more) elements → map (moved_element more less) (map (moved_element less more) elements) ≡ elements
moved-back less more [] all = refl
moved-back less more (element ∷ elements) all =
    ap₂ (λ place (es : List ElementOf). record { first = place; rows = element.rows } ∷ es) (move-back less more element.first (All-head (ElementMoves less more) element elements all)).0
    (moved-back less more elements (All-tail (ElementMoves less more) element elements all))

moved-can : (less more : ℕ) (elements : List ElementOf) → All (ElementMoves less more) elements → All (ElementMoves more less) (map (moved_element less more) elements)
moved-can less more [] all = All-nil (ElementMoves more less)
moved-can less more (element ∷ elements) all =
    All-cons (ElementMoves more less) (moved_element less more element) (map (moved_element less more) elements)
    (move-back less more element.first (All-head (ElementMoves less more) element elements all)).1 (moved-can less more elements (All-tail (ElementMoves less more) element elements all))

places-back : (less more : ℕ) (places : List ℕ) → All (MovesBack less more) places → map (shifted more less) (map (shifted less more) places) ≡ places
places-back less more [] all = refl
places-back less more (place ∷ places) all =
    ap₂ (λ p (ps : List ℕ). p ∷ ps) (move-back less more place (All-head (MovesBack less more) place places all)).0 (places-back less more places (All-tail (MovesBack less more) place places all))

places-moved : (less more : ℕ) (places : List ℕ) → All (MovesBack less more) places → All (MovesBack more less) (map (shifted less more) places)
places-moved less more [] all = All-nil (MovesBack more less)
places-moved less more (place ∷ places) all =
    All-cons (MovesBack more less) (shifted less more place) (map (shifted less more) places)
    (move-back less more place (All-head (MovesBack less more) place places all)).1 (places-moved less more places (All-tail (MovesBack less more) place places all))

-- A run put in and its end.
pub front-of : {X : Type 0} (front own behind : List X) (from to : ℕ) → length front ≡ from → to ≡ from + length own
    → (take from (front ++ (own ++ behind)) ≡ front) × (take to (front ++ (own ++ behind)) ≡ front ++ own) × (drop to (front ++ (own ++ behind)) ≡ behind)
front-of front own behind from to len is =
    let both : length (front ++ own) ≡ to = omega (arith, length-append front own, len, is) in
    let parts = sym (append_assoc front own behind) in
    (take_at front (own ++ behind) from len, ap (take to) parts ∙ take_at (front ++ own) behind to both, ap (drop to) parts ∙ drop_at (front ++ own) behind to both)

-- What an exchange of a run makes, and that it leads back.
pub record RunBack (body others new taken : KeyedElements) (from to end less more : ℕ) : Type 0 where
  pub back : with_run new from end taken more less ≡ body
  pub can : CanExchange new from end more less
  pub count : length new.elements + (to - from) ≡ length body.elements + length others.elements
  pub rows : row_count new.elements + row_count taken.elements ≡ row_count body.elements + row_count others.elements
  pub taken_count : length taken.elements ≡ to - from
  pub run_rows : row_count (slice_range new.elements from end) ≡ row_count others.elements

pub run-back : (body others : KeyedElements) (from to end less more : ℕ) → CanExchange body from to less more → length body.keys ≡ row_count body.elements → length others.keys ≡ row_count others.elements
    → end ≡ from + length others.elements → RunBack body others (with_run body from to others less more) (run_of body from to) from to end less more
run-back body others from to end less more can keys other_keys end_is =
    let order = can.order in
    let within = can.within in
    let elements = body.elements in
    let a = take from elements in
    let r = slice_range elements from to in
    let b = drop to elements in
    let o = others.elements in
    let m = map (moved_element less more) b in
    let row = row_count a in
    let row_end = row_count (take to elements) in
    let a_len : length a ≡ from = length-take-le from elements (omega (arith, order, within)) in
    let r_len : length r ≡ to - from = length-take-le (to - from) (drop from elements) (omega (arith, length-drop from elements, within)) in
    let b_len = length-drop to elements in
    let parts = front-of a o m from end a_len end_is in
    let split = in-three elements from to order in
    let till = ap row_count (till-is elements from to order within) ∙ count-append a r in
    let all : row_count elements ≡ row_end + row_count b = ap row_count (sym (take-append-drop to elements)) ∙ count-append (take to elements) b in
    let rows_till : row_count (take end (a ++ (o ++ m))) ≡ row + row_count o = ap row_count parts.1 ∙ count-append a o in
    let key_front : length (take row body.keys) ≡ row = length-take-le row body.keys (omega (arith, keys, all, till)) in
    let key_parts = front-of (take row body.keys) others.keys (drop row_end body.keys) row (row + row_count o) key_front (omega (arith, other_keys)) in
    let new_keys = exchanged body.keys row row_end others.keys in
    let taken_keys = slice_range body.keys row row_end in
    let m_count = count-moved less more b in
    let new_rows : row_count (a ++ (o ++ m)) ≡ row + (row_count o + row_count m) = count-append a (o ++ m) ∙ ap (λ n. row + n) (count-append o m) in
    let run_is : slice_range (a ++ (o ++ m)) from end ≡ o =
    ap (take (end - from)) (drop_at a (o ++ m) from a_len) ∙ take_at o m (end - from) (omega (arith, end_is)) in
    record {
      back = ap₂ (λ (es : List ElementOf) (ks : List RowKey). record { elements = es; keys = ks })
          (ap₂ (λ (xs ys : List ElementOf). xs ++ (r ++ map (moved_element more less) ys)) parts.0 parts.2
          ∙ ap (λ (xs : List ElementOf). a ++ (r ++ xs)) (moved-back less more b can.later) ∙ sym split)
          (ap₂ (λ n k. exchanged new_keys n k taken_keys) (ap row_count parts.0) rows_till
          ∙ ap₂ (λ (xs ys : List RowKey). xs ++ (taken_keys ++ ys)) key_parts.0 key_parts.2
          ∙ sym (in-three body.keys row row_end (omega (arith, till))));
      can = record {
        order = omega (arith, end_is);
        within = omega (arith, end_is, a_len, length-append a (o ++ m), length-append o m);
        later = subst (All (ElementMoves more less)) (sym parts.2) (moved-can less more b can.later);
      };
      count = omega (arith, a_len, b_len, length-append a (o ++ m), length-append o m, length-map b (moved_element less more), order, within);
      rows = omega (arith, new_rows, m_count, all, till);
      taken_count = r_len;
      run_rows = ap row_count run_is;
    }

-- The same of page breaks.
pub record BreaksBack (breaks others : List ℕ) (from to end base less more : ℕ) : Type 0 where
  pub back : with_breaks (with_breaks breaks from to others base less more) from end (breaks_in breaks from to base) base more less ≡ breaks
  pub can : CanExchangeBreaks (with_breaks breaks from to others base less more) from end (breaks_in breaks from to base) base more less
  pub count : length (with_breaks breaks from to others base less more) + (to - from) ≡ length breaks + length others
  pub taken_count : length (breaks_in breaks from to base) ≡ to - from

pub breaks-back : (breaks others : List ℕ) (from to end base less more : ℕ) → CanExchangeBreaks breaks from to others base less more → end ≡ from + length others → BreaksBack breaks others from to end base less more
breaks-back breaks others from to end base less more can end_is =
    let order = can.order in
    let within = can.within in
    let a = take from breaks in
    let r = slice_range breaks from to in
    let b = drop to breaks in
    let o = map (shifted 0 base) others in
    let m = map (shifted less more) b in
    let a_len : length a ≡ from = length-take-le from breaks (omega (arith, order, within)) in
    let r_len : length r ≡ to - from = length-take-le (to - from) (drop from breaks) (omega (arith, length-drop from breaks, within)) in
    let o_len = length-map others (shifted 0 base) in
    let m_len = length-map b (shifted less more) in
    let b_len = length-drop to breaks in
    let parts = front-of a o m from end a_len (omega (arith, end_is, o_len)) in
    let run_is : slice_range (a ++ (o ++ m)) from end ≡ o =
    ap (take (end - from)) (drop_at a (o ++ m) from a_len) ∙ take_at o m (end - from) (omega (arith, end_is, o_len)) in
    record {
      back = ap₂ (λ (xs ys : List ℕ). xs ++ (map (shifted 0 base) (map (shifted base 0) r) ++ map (shifted more less) ys)) parts.0 parts.2
          ∙ ap₂ (λ (xs ys : List ℕ). a ++ (xs ++ ys)) (places-back base 0 r can.go) (places-back less more b can.later) ∙ sym (in-three breaks from to order);
      can = record {
        order = omega (arith, end_is);
        within = omega (arith, end_is, a_len, o_len, length-append a (o ++ m), length-append o m);
        come = places-moved base 0 r can.go;
        go = subst (All (MovesBack base 0)) (sym run_is) (places-moved 0 base others can.come);
        later = subst (All (MovesBack more less)) (sym parts.2) (places-moved less more b can.later);
      };
      count = omega (arith, a_len, b_len, o_len, m_len, length-append a (o ++ m), length-append o m, order, within);
      taken_count = length-map r (shifted base 0) ∙ r_len;
    }
