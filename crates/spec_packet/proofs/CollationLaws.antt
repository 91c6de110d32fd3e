-- The old sheets, collated with the packet of the present ones, are the present ones.
use Rattle.std.proofs.Common.{◌≡◌, inl, inr, Bool, true, false, not, ◌||◌, cond, List, [], ◌∷◌, map, refl, ap, sym, subst, ◌∙◌}
use Rattle.std.specs.Prelude.{filter, fold}
use Rattle.std.specs.List.{list_any}
use Rattle.std.proofs.lemmas.Bool.{cases_Bool}
use Rattle.spec_labels.specs.Labels.{Below}
use Rattle.spec_labels.proofs.LabelOrder.{Below-asymmetric}
use Rattle.spec_packet.specs.SheetLists.{PrintedOf, IsIn, InOrder, Before, AreRising}
use Rattle.spec_packet.specs.Collations.{meets, is_apart, put_sheet, collated, Choice, sheet_of, is_handed, present_of, packet_of, Suffices}
use Rattle.spec_packet.proofs.Lists.{in-map, map-in, in-filter, filter-in, order-filter, order-map, map-order, order-weaker, order-pair, same-list}
use Rattle.spec_packet.proofs.LabelTests.{below-test, upto-below, upto-not, upto-test, cover-meets, before-apart, behind-apart}

-- In order of first labels.
abbrev pub Sooner : PrintedOf → PrintedOf → Type 0
Sooner one other = Below one.label.first other.label.first

abbrev pub is_left : Choice → Bool
is_left choice = not choice.handed

-- The present sheets that the packet leaves out.
abbrev pub left_of : List Choice → List PrintedOf
left_of choices = map sheet_of (filter is_left choices)

rising-sooner : (sheets : List PrintedOf) → AreRising sheets → InOrder Sooner sheets
rising-sooner sheets rising =
    order-weaker Before Sooner sheets
    (λ x y one other before. upto-below x.label.first x.label.last y.label.first (rising.spans x one) before.below)
    sheets-order
  where
    sheets-order : InOrder Before sheets
    sheets-order = rising.order

-- A sheet is put in front of those that it is before, and stays in front of what is put in behind it.
pub put-front : (x : PrintedOf) (xs : List PrintedOf) → ((y : PrintedOf) → IsIn y xs → Sooner x y) → put_sheet xs x ≡ x ∷ xs
put-front x [] sooner = refl
put-front x (y ∷ ys) sooner = ap (λ b. cond b (y ∷ put_sheet ys x) (x ∷ y ∷ ys)) (upto-test x.label.first y.label.first (inr (sooner y (inl refl))))

pub stays-front : (x : PrintedOf) (xs ys : List PrintedOf) → ((y : PrintedOf) → IsIn y ys → Sooner x y) → fold put_sheet (x ∷ xs) ys ≡ x ∷ fold put_sheet xs ys
stays-front x xs [] sooner = refl
stays-front x xs (y ∷ ys) sooner =
    ap (λ b. fold put_sheet (cond b (x ∷ put_sheet xs y) (y ∷ x ∷ xs)) ys) (below-test x.label.first y.label.first (sooner y (inl refl)))
    ∙ stays-front x (put_sheet xs y) ys (λ z is. sooner z (inr is))

-- What the packet has and what it leaves out are together the present sheets.
merged : (now : List Choice) → InOrder Sooner (present_of now) → fold put_sheet (packet_of now) (left_of now) ≡ present_of now
merged [] order = refl
merged (choice ∷ now) order = by choice.handed (merged now order.1)
  where
    x : PrintedOf
    x = choice.sheet

    sooner-left : (y : PrintedOf) → IsIn y (left_of now) → Sooner x y
    sooner-left y is =
        let from = map-in sheet_of y (filter is_left now) is in
        order.0 y (subst (λ s. IsIn s (present_of now)) from.is (in-map sheet_of from.it now (filter-in is_left from.it now from.there).there))

    sooner-packet : (y : PrintedOf) → IsIn y (packet_of now) → Sooner x y
    sooner-packet y is =
        let from = map-in sheet_of y (filter is_handed now) is in
        order.0 y (subst (λ s. IsIn s (present_of now)) from.is (in-map sheet_of from.it now (filter-in is_handed from.it now from.there).there))

    by : (b : Bool) → fold put_sheet (packet_of now) (left_of now) ≡ present_of now
        → fold put_sheet (map sheet_of (cond b (choice ∷ filter is_handed now) (filter is_handed now))) (map sheet_of (cond (not b) (choice ∷ filter is_left now) (filter is_left now)))
        ≡ x ∷ present_of now
    by true later = stays-front x (packet_of now) (left_of now) sooner-left ∙ ap (λ (s : List PrintedOf). x ∷ s) later
    by false later =
        ap (λ (s : List PrintedOf). fold put_sheet s (left_of now)) (put-front x (packet_of now) sooner-packet)
        ∙ stays-front x (packet_of now) (left_of now) sooner-left ∙ ap (λ (s : List PrintedOf). x ∷ s) later

-- A sheet is apart from sheets where it meets none of them.
apart-none : (sheets : List PrintedOf) (it one : PrintedOf) → is_apart sheets it ≡ true → IsIn one sheets → meets it.label one.label ≡ true → ⊥
apart-none [] it one apart is meet = is
apart-none (sheet ∷ sheets) it one apart is meet = elim is [
  | inl same ↦
      let m : meets it.label sheet.label ≡ true = ap (λ (s : PrintedOf). meets it.label s.label) same ∙ meet in
      let bad : false ≡ true = sym (ap (λ b. not (b || list_any (λ (s : PrintedOf). meets it.label s.label) sheets)) m) ∙ apart in
      absurd (let no_way : ⊥ = cc in no_way)
  | inr later ↦ apart-none sheets it one (behind (meets it.label sheet.label) (list_any (λ (s : PrintedOf). meets it.label s.label) sheets) apart) later meet
]
  where
    behind : (a b : Bool) → not (a || b) ≡ true → not b ≡ true
    behind true b h = cc
    behind false b h = h

pub none-apart : (sheets : List PrintedOf) (it : PrintedOf) → ((one : PrintedOf) → IsIn one sheets → meets it.label one.label ≡ false) → is_apart sheets it ≡ true
none-apart [] it none = refl
none-apart (sheet ∷ sheets) it none =
    ap (λ b. not (b || list_any (λ (s : PrintedOf). meets it.label s.label) sheets)) (none sheet (inl refl)) ∙ none-apart sheets it (λ one is. none one (inr is))

-- An old sheet that meets no sheet of the packet is one that the packet leaves out.
kept-left : (old : List PrintedOf) (now : List Choice) → Suffices old now → (it : PrintedOf) → IsIn it (filter (is_apart (packet_of now)) old) → IsIn it (left_of now)
kept-left old now keeps it is =
    let passes = filter-in (is_apart (packet_of now)) it old is in
    let cover = keeps.covered it passes.there in
    let by = cover.by in
    let span = keeps.was.spans it passes.there in
    elim (cases_Bool by.handed) [
      | inl hit ↦ absurd (apart-none (packet_of now) it by.sheet passes.passes
          (in-map sheet_of by (filter is_handed now) (in-filter is_handed by now cover.there hit))
          (cover-meets it.label by.sheet.label span cover.low cover.high))
      | inr left ↦
          let same : it ≡ by.sheet = elim (order-pair Before it by.sheet old keeps.was.order passes.there (keeps.stays by cover.there left)) [
            | inl same ↦ same
            | inr apart ↦ elim apart [
              | inl before ↦ absurd (upto-not by.sheet.label.first it.label.first cover.low (upto-below it.label.first it.label.last by.sheet.label.first span before.below))
              | inr behind ↦ absurd (upto-not it.label.first by.sheet.label.last cover.high behind.below)
            ]
          ] in
          subst (λ s. IsIn s (left_of now)) (sym same)
          (in-map sheet_of by (filter is_left now) (in-filter is_left by now cover.there (ap not left)))
    ]

-- And the other way round.
left-kept : (old : List PrintedOf) (now : List Choice) → Suffices old now → (it : PrintedOf) → IsIn it (left_of now) → IsIn it (filter (is_apart (packet_of now)) old)
left-kept old now keeps it is =
    let from = map-in sheet_of it (filter is_left now) is in
    let passes = filter-in is_left from.it now from.there in
    let left : from.it.handed ≡ false = un-not from.it.handed passes.passes in
    let apart : is_apart (packet_of now) from.it.sheet ≡ true = none-apart (packet_of now) from.it.sheet (λ one there. meets-not from.it passes.there left one there) in
    subst (λ s. IsIn s (filter (is_apart (packet_of now)) old)) from.is
    (in-filter (is_apart (packet_of now)) from.it.sheet old (keeps.stays from.it passes.there left) apart)
  where
    un-not : (b : Bool) → not b ≡ true → b ≡ false
    un-not true h = cc
    un-not false h = refl

    meets-not : (choice : Choice) → IsIn choice now → choice.handed ≡ false → (one : PrintedOf) → IsIn one (packet_of now) → meets choice.sheet.label one.label ≡ false
    meets-not choice there left one is =
        let other = map-in sheet_of one (filter is_handed now) is in
        let handed = filter-in is_handed other.it now other.there in
        let order : InOrder (λ a b. Before (sheet_of a) (sheet_of b)) now = map-order Before sheet_of now keeps.are.order in
        subst (λ s. meets choice.sheet.label s.label ≡ false) other.is
        (elim (order-pair (λ a b. Before (sheet_of a) (sheet_of b)) choice other.it now order there handed.there) [
          | inl same ↦ absurd (let bad : false ≡ true = sym left ∙ ap is_handed same ∙ handed.passes in let no_way : ⊥ = cc in no_way)
          | inr apart ↦ elim apart [
            | inl before ↦ before-apart choice.sheet.label other.it.sheet.label before.below
            | inr behind ↦ behind-apart other.it.sheet.label choice.sheet.label behind.below
          ]
        ])

-- The old sheets, collated with the packet of the present ones, are the present ones.
pub collation-present : (old : List PrintedOf) (now : List Choice) → Suffices old now → collated old (packet_of now) ≡ present_of now
collation-present old now keeps =
    let before = rising-sooner old keeps.was in
    let after : InOrder Sooner (present_of now) = rising-sooner (present_of now) keeps.are in
    let left : InOrder Sooner (left_of now) =
    order-map Sooner sheet_of (filter is_left now) (order-filter (λ a b. Sooner (sheet_of a) (sheet_of b)) is_left now (map-order Sooner sheet_of now after)) in
    ap (fold put_sheet (packet_of now))
    (same-list Sooner (λ x y one other. Below-asymmetric one other) (filter (is_apart (packet_of now)) old) (left_of now)
    (order-filter Sooner (is_apart (packet_of now)) old before) left
    (kept-left old now keeps) (left-kept old now keeps))
    ∙ merged now after
