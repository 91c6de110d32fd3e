-- A sheet is handed out by the runs of records just where it is by its facts.
use Rattle.std.proofs.Common.{◌≡◌, inl, inr, ℕ, zero, suc, ◌+◌, ◌-◌, ◌≤◌, Bool, true, false, not, ◌&&◌, ◌||◌, cond, List, [], ◌∷◌, map, take, drop, refl, ap, ap₂, sym, ◌∙◌, lt-ltb, ltb-true, le-leb, arith}
use Rattle.std.specs.Prelude.{Some, None}
use Rattle.std.specs.List.{list_any, prefix_len}
use Rattle.std.proofs.lemmas.Bool.{cases_lt, lt-leb}
use Rattle.std.proofs.lemmas.List.{drop-map, take-map}
use Rattle.spec_labels.specs.PageRecords.{SegmentOf}
use Rattle.spec_packet.specs.SheetLists.{IsIn, InOrder}
use Rattle.spec_packet.specs.Packets.{LaidOf, is_fresh, is_fresh_between, has_fresh_cue, speech_start, cue_end, goes_on_at}
use Rattle.spec_packet.specs.SheetFacts.{PlacesOf, itself, some_fresh, cue_fresh, ends_behind, starts_by, places_between, cue_places}

-- Segments one behind the other: starts and ends don't fall.
pub record NotFalling (one other : SegmentOf) : Type 0 where
  pub starts : one.start ≤ other.start
  pub ends : one.end ≤ other.end

pub any-map : {X : Type 0} (f : X → Bool) (xs : List X) → list_any itself (map f xs) ≡ list_any f xs
any-map f [] = refl
any-map f (x ∷ xs) = ap (λ b. f x || b) (any-map f xs)

any-never : {X : Type 0} (f : X → Bool) (xs : List X) → ((x : X) → IsIn x xs → f x ≡ false) → list_any f xs ≡ false
any-never f [] never = refl
any-never f (x ∷ xs) never = ap₂ (λ a b. a || b) (never x (inl refl)) (any-never f xs (λ y is. never y (inr is)))

-- A test in the middle of a list, where one test begins to hold and another ceases to.
middle-any : (f a b : SegmentOf → Bool) (xs : List SegmentOf) → InOrder (λ x y. (a x ≡ true → a y ≡ true) × (b x ≡ false → b y ≡ false)) xs
    → list_any (λ x. f x && (a x && b x)) xs ≡ list_any f (take (prefix_len b xs - prefix_len (λ x. not (a x)) xs) (drop (prefix_len (λ x. not (a x)) xs) xs))
middle-any f a b [] order = refl
middle-any f a b (x ∷ xs) order = by (a x) (b x) refl refl (middle-any f a b xs order.1)
  where
    na : ℕ
    na = prefix_len (λ y. not (a y)) xs

    nb : ℕ
    nb = prefix_len b xs

    drops : (p q : Bool) → (p && (q && false)) ≡ false
    drops true true = refl
    drops true false = refl
    drops false q = refl

    none : b x ≡ false → list_any (λ y. f y && (a y && b y)) xs ≡ false
    none off = any-never (λ y. f y && (a y && b y)) xs (λ y is. ap (λ t. f y && (a y && t)) ((order.0 y is).1 off) ∙ drops (f y) (a y))

    first : (ys : List SegmentOf) → ((y : SegmentOf) → IsIn y ys → a y ≡ true) → prefix_len (λ y. not (a y)) ys ≡ 0
    first [] on = refl
    first (y ∷ ys) on = ap (λ t. cond (not t) (1 + prefix_len (λ z. not (a z)) ys) 0) (on y (inl refl))

    no_and : (p : Bool) → (p && false) ≡ false
    no_and true = refl
    no_and false = refl

    and_true : (p : Bool) → (p && true) ≡ p
    and_true true = refl
    and_true false = refl

    by : (p q : Bool) → a x ≡ p → b x ≡ q
        → list_any (λ y. f y && (a y && b y)) xs ≡ list_any f (take (nb - na) (drop na xs))
        → ((f x && (p && q)) || list_any (λ y. f y && (a y && b y)) xs)
        ≡ list_any f (take (cond q (1 + nb) 0 - cond (not p) (1 + na) 0) (drop (cond (not p) (1 + na) 0) (x ∷ xs)))
    by false true ax bx ih =
        let less : nb - na ≡ 1 + nb - (1 + na) = omega arith in
        let more : suc na ≡ 1 + na = omega arith in
        ap (λ t. t || list_any (λ y. f y && (a y && b y)) xs) (no_and (f x)) ∙ ih
        ∙ ap₂ (λ n m. list_any f (take n (drop m (x ∷ xs)))) less more
    by false false ax bx ih =
        let zero_len : zero ≡ 0 - (1 + na) = omega arith in
        ap (λ t. t || list_any (λ y. f y && (a y && b y)) xs) (no_and (f x)) ∙ none bx
        ∙ ap (λ n. list_any f (take n (drop (1 + na) (x ∷ xs)))) zero_len
    by true true ax bx ih =
        let front : na ≡ 0 = first xs (λ y is. (order.0 y is).0 ax) in
        let all : nb - na ≡ nb = omega (arith, front) in
        let more : suc nb ≡ 1 + nb - 0 = omega arith in
        ap₂ (λ t u. t || u) (and_true (f x)) (ih ∙ ap₂ (λ n m. list_any f (take n (drop m xs))) all front)
        ∙ ap (λ n. list_any f (take n (x ∷ xs))) more
    by true false ax bx ih = ap₂ (λ t u. t || u) (no_and (f x)) (none bx)

-- The text begins with its first segment.
abbrev pub BeginsAtZero : List SegmentOf → Type 0
BeginsAtZero [] = Unit {0}
BeginsAtZero (segment ∷ segments) = segment.start ≡ 0

tests-order : (first last : ℕ) (segments : List SegmentOf) → InOrder NotFalling segments
    → InOrder (λ x y. (ends_behind first x ≡ true → ends_behind first y ≡ true) × (starts_by last x ≡ false → starts_by last y ≡ false)) segments
tests-order first last [] order = tt
tests-order first last (x ∷ xs) order = (
  (λ y is.
      let falls = order.0 y is in
      let starts = falls.starts in
      let ends = falls.ends in (
        (λ on. let low = ltb-true first x.end on in lt-ltb first y.end (omega (arith, low, ends))),
        (λ off. elim (cases_lt last y.start) [
          | inl above ↦ lt-leb y.start last above
          | inr within ↦ absurd (let bad : true ≡ false = sym (le-leb x.start last (omega (arith, within, starts))) ∙ off in let no_way : ⊥ = cc in no_way)
        ]),
      )),
  tests-order first last xs order.1,
)

-- A record between two rows is fresh just where one of these places is.
pub between-places : (round first last : ℕ) (segments : List SegmentOf) → InOrder NotFalling segments → BeginsAtZero segments
    → list_any (is_fresh_between round first last) segments ≡ some_fresh (map (is_fresh round) segments) (places_between first last segments)
between-places round first last [] order begin =
    let n : prefix_len (starts_by last) [] - 1 + 1 - 0 ≡ 1 = omega arith in refl
between-places round first last (segment ∷ segments) order begin =
    let all : List SegmentOf = segment ∷ segments in
    let na = prefix_len (λ (it : SegmentOf). not (ends_behind first it)) all in
    let nb = prefix_len (starts_by last) all in
    let some : nb ≡ 1 + prefix_len (starts_by last) segments = ap (λ t. cond t (1 + prefix_len (starts_by last) segments) 0) (le-leb segment.start last (omega (arith, begin))) in
    let n : nb - na ≡ nb - 1 + 1 - na = omega (arith, some) in
    middle-any (is_fresh round) (ends_behind first) (starts_by last) all (tests-order first last all order)
    ∙ sym (any-map (is_fresh round) (take (nb - na) (drop na all)))
    ∙ ap (list_any itself) (sym (take-map (is_fresh round) (nb - na) (drop na all)) ∙ ap (take (nb - na)) (sym (drop-map (is_fresh round) na all)))
    ∙ ap (λ m. list_any itself (take m (drop na (map (is_fresh round) all)))) n

pub cue-places : (round : ℕ) (laid : LaidOf) (p : ℕ) → InOrder NotFalling laid.segments → BeginsAtZero laid.segments
    → has_fresh_cue round laid p ≡ cue_fresh (map (is_fresh round) laid.segments) (cue_places laid p)
cue-places round laid p order begin = by (goes_on_at laid.rows p)
  where
    places : PlacesOf
    places = places_between (speech_start laid.rows p) (cue_end laid.rows p) laid.segments

    by : (b : Bool) → (b && list_any (is_fresh_between round (speech_start laid.rows p) (cue_end laid.rows p)) laid.segments)
        ≡ cue_fresh (map (is_fresh round) laid.segments) (cond b (Some places) None)
    by true = between-places round (speech_start laid.rows p) (cue_end laid.rows p) laid.segments order begin
    by false = refl
