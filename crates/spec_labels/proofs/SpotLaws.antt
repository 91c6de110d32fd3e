-- An edit keeps the order of rows that it leaves and anchors.
use Rattle.std.proofs.Common.{◌≡◌, ◌⊎◌, ℕ, ◌+◌, ◌-◌, ◌<◌, ◌≤◌, true, false, not, ◌&&◌, ◌||◌, ltb, eqb, inl, inr, refl, sym, ap, ap₂, subst, ◌∙◌, arith}
use Rattle.std.specs.Prelude.{min}
use Rattle.std.proofs.lemmas.Bool.{cases_Bool, ltb-true, cases_lt, cases_eq, lt-ltb, le-ltb, eq-eqb, ne_eqb, cond-true, cond-false}
use Rattle.spec_labels.specs.Spots.{Spot, is_ahead, Bounds, is_within, spot_after, anchor_after, Follows, BoundsFollow}
use Rattle.spec_text.specs.Ranges.{RangeOf, IsOutside, place_after}

-- A spot on an earlier line is before another, one on a later line isn't, and on one line the rows decide.
ahead-lower : (one other : Spot) → one.place < other.place → is_ahead one other ≡ true
ahead-lower one other less = ap (λ b. b || ((eqb one.place other.place) && ltb one.row other.row)) (lt-ltb one.place other.place less)

ahead-higher : (one other : Spot) → other.place < one.place → is_ahead one other ≡ false
ahead-higher one other less =
    ap₂ (λ a b. a || (b && ltb one.row other.row)) (le-ltb one.place other.place (omega arith)) (ne_eqb one.place other.place (λ e. omega (arith, less, e)))

ahead-level : (one other : Spot) → one.place ≡ other.place → is_ahead one other ≡ ltb one.row other.row
ahead-level one other same =
    ap₂ (λ a b. a || (b && ltb one.row other.row)) (le-ltb one.place other.place (omega (arith, same))) (eq-eqb one.place other.place same)

-- Two pairs of spots whose lines stand in the same order, with the same rows where they are level.
ahead-same : (a b c d : Spot) → (a.place < b.place → c.place < d.place) → (b.place < a.place → d.place < c.place)
    → (a.place ≡ b.place → (c.place ≡ d.place) × (c.row ≡ a.row) × (d.row ≡ b.row)) → is_ahead c d ≡ is_ahead a b
ahead-same a b c d low high level =
    elim (cases_lt a.place b.place) [
      | inl less ↦ ahead-lower c d (low less) ∙ sym (ahead-lower a b less)
      | inr more ↦ elim (cases_eq a.place b.place) [
        | inl same ↦ let l = level same in ahead-level c d l.0 ∙ ap₂ ltb l.1 l.2 ∙ sym (ahead-level a b same)
        | inr other ↦ let less : b.place < a.place = omega arith in ahead-higher c d (high less) ∙ sym (ahead-higher a b less)
      ]
    ]

place-low : (range : RangeOf) (place : ℕ) → place < range.first → place_after range place ≡ place
place-low range place h = cond-true _ place (place + range.new - range.old) (lt-ltb place range.first h)

place-high : (range : RangeOf) (place : ℕ) → range.first ≤ place → place_after range place ≡ place + range.new - range.old
place-high range place h = cond-false _ place (place + range.new - range.old) (le-ltb place range.first h)

pub anchor-paired : (range : RangeOf) (spot : Spot) → spot.place < range.first + min range.old range.new → anchor_after range spot ≡ spot
anchor-paired range spot h = cond-true _ spot _ (lt-ltb spot.place (range.first + min range.old range.new) h)

pub anchor-gone : (range : RangeOf) (spot : Spot) → range.first + min range.old range.new ≤ spot.place → spot.place < range.first + range.old
    → anchor_after range spot ≡ record { place = range.first + range.new; row = 0 }
anchor-gone range spot h g =
    cond-false _ spot _ (le-ltb spot.place (range.first + min range.old range.new) h)
    ∙ cond-true _ (record { place = range.first + range.new; row = 0 }) _ (lt-ltb spot.place (range.first + range.old) g)

pub anchor-behind : (range : RangeOf) (spot : Spot) → range.first + range.old ≤ spot.place
    → anchor_after range spot ≡ record { place = spot.place + range.new - range.old; row = spot.row }
anchor-behind range spot h =
    cond-false _ spot _ (le-ltb spot.place (range.first + min range.old range.new) (omega (arith, h)))
    ∙ cond-false _ (record { place = range.first + range.new; row = 0 }) _ (le-ltb spot.place (range.first + range.old) h)

-- Before a row that is outside the range and an anchor, an edit keeps the order.
ahead-row-low : (range : RangeOf) (spot anchor moved : Spot) → spot.place < range.first → anchor_after range anchor ≡ moved
    → is_ahead (spot_after range spot) moved ≡ is_ahead spot anchor
ahead-row-low range spot anchor moved low is =
    let here = place-low range spot.place low in
    elim (cases_lt anchor.place (range.first + min range.old range.new)) [
      | inl paired ↦
          let same : anchor ≡ moved = sym (anchor-paired range anchor paired) ∙ is in
          ap₂ is_ahead (ap (λ p. record { place = p; row = spot.row }) here) (sym same)
      | inr later ↦
          let far : range.first ≤ moved.place = elim (cases_lt anchor.place (range.first + range.old)) [
            | inl gone ↦ let e = ap (λ (s : Spot). s.place) (sym (anchor-gone range anchor later gone) ∙ is) in omega (arith, e)
            | inr behind ↦ let e = ap (λ (s : Spot). s.place) (sym (anchor-behind range anchor behind) ∙ is) in omega (arith, e, behind)
          ]
          in
          ahead-lower (spot_after range spot) moved (omega (arith, here, far, low)) ∙ sym (ahead-lower spot anchor (omega (arith, later, low)))
    ]

ahead-row-high : (range : RangeOf) (spot anchor moved : Spot) → range.first + range.old ≤ spot.place → anchor_after range anchor ≡ moved
    → is_ahead (spot_after range spot) moved ≡ is_ahead spot anchor
ahead-row-high range spot anchor moved high is =
    let here = place-high range spot.place (omega (arith, high)) in
    elim (cases_lt anchor.place (range.first + range.old)) [
      | inl inside ↦
          let not_before : is_ahead (spot_after range spot) moved ≡ false = elim (cases_lt anchor.place (range.first + min range.old range.new)) [
            | inl paired ↦
                let e = ap (λ (s : Spot). s.place) (sym (anchor-paired range anchor paired) ∙ is) in
                ahead-higher (spot_after range spot) moved (omega (arith, here, e, paired, high))
            | inr later ↦
                let e = sym (anchor-gone range anchor later inside) ∙ is in
                let place = ap (λ (s : Spot). s.place) e in
                let row = ap (λ (s : Spot). s.row) e in
                elim (cases_eq spot.place (range.first + range.old)) [
                  | inl level ↦ ahead-level (spot_after range spot) moved (omega (arith, here, place, level)) ∙ le-ltb spot.row moved.row (omega (arith, row))
                  | inr other ↦ ahead-higher (spot_after range spot) moved (omega (arith, here, place, high, other))
                ]
          ]
          in
          not_before ∙ sym (ahead-higher spot anchor (omega (arith, high, inside)))
      | inr behind ↦
          let e = sym (anchor-behind range anchor behind) ∙ is in
          let place = ap (λ (s : Spot). s.place) e in
          let row = ap (λ (s : Spot). s.row) e in
          ahead-same spot anchor (spot_after range spot) moved
          (λ h. omega (arith, here, place, h, high, behind)) (λ h. omega (arith, here, place, h, high, behind))
          (λ h. (omega (arith, here, place, h, high, behind), refl, sym row))
    ]

pub ahead-after : (range : RangeOf) (spot anchor : Spot) → IsOutside range spot.place
    → is_ahead (spot_after range spot) (anchor_after range anchor) ≡ is_ahead spot anchor
ahead-after range spot anchor outside =
    elim outside [
      | inl low ↦ ahead-row-low range spot anchor (anchor_after range anchor) low refl
      | inr high ↦ ahead-row-high range spot anchor (anchor_after range anchor) high refl
    ]

-- So an anchor follows the edit.
pub anchor-follows : (range : RangeOf) (anchor : Spot) → Follows range anchor (anchor_after range anchor)
anchor-follows range anchor = record { same = λ spot outside. ahead-after range spot anchor outside }

-- The first record's segment begins with the text, before and after every edit: nothing is before row 0 of line 0.
pub first-follows : (range : RangeOf) → Follows range (record { place = 0; row = 0 }) (record { place = 0; row = 0 })
first-follows range = record { same = λ spot outside. none (spot_after range spot) ∙ sym (none spot) }
  where
    none : (spot : Spot) → is_ahead spot (record { place = 0; row = 0 }) ≡ false
    none spot = elim (cases_eq spot.place 0) [
      | inl same ↦ ahead-level spot (record { place = 0; row = 0 }) same ∙ le-ltb spot.row 0 (omega arith)
      | inr differ ↦ ahead-higher spot (record { place = 0; row = 0 }) (omega (arith, differ))
    ]

-- The end follows too.
pub end-follows : (range : RangeOf) (count : ℕ) → range.first + range.old ≤ count
    → Follows range (record { place = count; row = 0 }) (record { place = count + range.new - range.old; row = 0 })
end-follows range count inside =
    subst (Follows range (record { place = count; row = 0 })) (anchor-behind range (record { place = count; row = 0 }) inside) (anchor-follows range (record { place = count; row = 0 }))

-- So a row that the edit leaves stays in its segment.
pub within-after : (range : RangeOf) (old new : Bounds) (spot : Spot) → BoundsFollow range old new → IsOutside range spot.place
    → is_within new (spot_after range spot) ≡ is_within old spot
within-after range old new spot follow outside =
    ap₂ (λ a b. not a && b) ((follow.low).same spot outside) ((follow.high).same spot outside)

-- What it means that one spot is before another.
abbrev pub Lower : Spot → Spot → Type 0
Lower one other = (one.place < other.place) ⊎ ((one.place ≡ other.place) × (one.row < other.row))

pub ahead-is : (one other : Spot) → is_ahead one other ≡ true → Lower one other
ahead-is one other h =
    elim (cases_lt one.place other.place) [
      | inl less ↦ inl less
      | inr more ↦ elim (cases_eq one.place other.place) [
        | inl same ↦ inr (same, ltb-true one.row other.row (sym (ahead-level one other same) ∙ h))
        | inr differ ↦ absurd (let e : false ≡ true = sym (ahead-higher one other (omega (arith, more, differ))) ∙ h in let no : ⊥ = cc in no)
      ]
    ]

pub ahead-from : (one other : Spot) → Lower one other → is_ahead one other ≡ true
ahead-from one other low =
    elim low [
      | inl less ↦ ahead-lower one other less
      | inr level ↦ ahead-level one other level.0 ∙ lt-ltb one.row other.row level.1
    ]

pub ahead-not : (one other : Spot) → (Lower one other → ⊥) → is_ahead one other ≡ false
ahead-not one other never =
    elim (cases_Bool (is_ahead one other)) [ inl true_is ↦ absurd (never (ahead-is one other true_is)) | inr is ↦ is ]

pub ahead-never : (one other : Spot) → is_ahead one other ≡ false → Lower one other → ⊥
ahead-never one other h low = let e : true ≡ false = sym (ahead-from one other low) ∙ h in cc

lower-then : (a b c : Spot) → Lower a b → Lower b c → Lower a c
lower-then a b c one other =
    elim one [
      | inl less ↦ elim other [ inl more ↦ inl (omega (arith, less, more)) | inr level ↦ inl (omega (arith, less, level.0)) ]
      | inr same ↦ elim other [ inl more ↦ inl (omega (arith, same.0, more)) | inr level ↦ inr (omega (arith, same.0, level.0), omega (arith, same.1, level.1)) ]
    ]

pub ahead-then : (a b c : Spot) → is_ahead a b ≡ true → is_ahead b c ≡ true → is_ahead a c ≡ true
ahead-then a b c h g = ahead-from a c (lower-then a b c (ahead-is a b h) (ahead-is b c g))

-- Before a spot, so before one that isn't before it.
pub ahead-atmost : (a b c : Spot) → is_ahead a b ≡ true → is_ahead c b ≡ false → is_ahead a c ≡ true
ahead-atmost a b c h g =
    let never = ahead-never c b g in
    let low = ahead-is a b h in
    ahead-from a c (elim (cases_lt a.place c.place) [
      | inl less ↦ inl less
      | inr more ↦ elim low [
        | inl less ↦ absurd (never (inl (omega (arith, more, less))))
        | inr level ↦ elim (cases_lt c.place b.place) [
          | inl under ↦ absurd (never (inl under))
          | inr over ↦ elim (cases_lt a.row c.row) [
            | inl rows ↦ inr (omega (arith, more, level.0, over), rows)
            | inr high ↦ absurd (never (inr (omega (arith, more, level.0, over), omega (arith, level.1, high))))
          ]
        ]
      ]
    ])

-- Where an anchor goes: it stays, goes to the line behind the range, or moves with its line.
pub record Goes (range : RangeOf) (spot moved : Spot) : Type 0 where
  pub where_to : ((spot.place < range.first + min range.old range.new) × (moved.place ≡ spot.place) × (moved.row ≡ spot.row))
      ⊎ (((range.first + min range.old range.new ≤ spot.place) × (spot.place < range.first + range.old) × (moved.place ≡ range.first + range.new) × (moved.row ≡ 0))
      ⊎ ((range.first + range.old ≤ spot.place) × (moved.place ≡ spot.place + range.new - range.old) × (moved.row ≡ spot.row)))

pub anchor-goes : (range : RangeOf) (spot : Spot) → Goes range spot (anchor_after range spot)
anchor-goes range spot = record {
  where_to = elim (cases_lt spot.place (range.first + min range.old range.new)) [
    | inl early ↦ let e = anchor-paired range spot early in inl (early, ap (λ (s : Spot). s.place) e, ap (λ (s : Spot). s.row) e)
    | inr after ↦ inr (elim (cases_lt spot.place (range.first + range.old)) [
      | inl gone ↦ let e = anchor-gone range spot after gone in inl (after, gone, ap (λ (s : Spot). s.place) e, ap (λ (s : Spot). s.row) e)
      | inr behind ↦ let e = anchor-behind range spot behind in inr (behind, ap (λ (s : Spot). s.place) e, ap (λ (s : Spot). s.row) e)
    ])
  ];
}

lower-back : (range : RangeOf) (a b c d : Spot) → Goes range a c → Goes range b d → Lower d c → Lower b a
lower-back range a b c d one other low =
    elim other.where_to [
      | inl bs ↦ elim one.where_to [
        | inl ap_ ↦ elim low [ inl less ↦ inl (omega (arith, bs, ap_, less)) | inr level ↦ inr (omega (arith, bs, ap_, level), omega (arith, bs, ap_, level)) ]
        | inr later ↦ elim later [ inl gone ↦ inl (omega (arith, bs, gone)) | inr behind ↦ inl (omega (arith, bs, behind)) ]
      ]
      | inr far ↦ elim far [
        | inl bg ↦ elim one.where_to [
          | inl ap_ ↦ elim low [ inl less ↦ absurd (omega (arith, bg, ap_, less)) | inr level ↦ absurd (omega (arith, bg, ap_, level)) ]
          | inr later ↦ elim later [
            | inl gone ↦ elim low [ inl less ↦ absurd (omega (arith, bg, gone, less)) | inr level ↦ absurd (omega (arith, bg, gone, level)) ]
            | inr behind ↦ inl (omega (arith, bg, behind))
          ]
        ]
        | inr bb ↦ elim one.where_to [
          | inl ap_ ↦ elim low [ inl less ↦ absurd (omega (arith, bb, ap_, less)) | inr level ↦ absurd (omega (arith, bb, ap_, level)) ]
          | inr later ↦ elim later [
            | inl gone ↦ elim low [ inl less ↦ absurd (omega (arith, bb, gone, less)) | inr level ↦ absurd (omega (arith, bb, gone, level)) ]
            | inr behind ↦ elim low [ inl less ↦ inl (omega (arith, bb, behind, less)) | inr level ↦ inr (omega (arith, bb, behind, level), omega (arith, bb, behind, level)) ]
          ]
        ]
      ]
    ]

-- Anchors that don't go back don't after an edit.
pub anchors-order : (range : RangeOf) (one other : Spot) → is_ahead other one ≡ false → is_ahead (anchor_after range other) (anchor_after range one) ≡ false
anchors-order range one other h =
    ahead-not (anchor_after range other) (anchor_after range one)
    (λ low. ahead-never other one h (lower-back range one other (anchor_after range one) (anchor_after range other) (anchor-goes range one) (anchor-goes range other) low))
