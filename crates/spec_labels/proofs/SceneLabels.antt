-- No label is given to two headings, and no record's label to a heading that isn't the record's.
use Rattle.std.proofs.Common.{◌≡◌, ◌≢◌, ℕ, zero, suc, ◌+◌, ◌<◌, ◌≤◌, ◌==◌, List, [], ◌∷◌, length, map, get_or, eqb-true, refl, ap, sym, ◌∙◌, subst, arith}
use Rattle.std.specs.Prelude.{Option, Some, None, All, AllPairs, IfSome, unwrap_or, slice_get, option_map}
use Rattle.std.proofs.lemmas.List.Elements.{All-nil, All-cons, All-head, All-tail, All-map}
use Rattle.std.proofs.lemmas.List.Kept.{AllPairs-cons}
use Rattle.std.proofs.lemmas.List.Quantifiers.{position-Some}
use Rattle.std.proofs.lemmas.Option.{same_Some, slice_get-map, slice_get_within, get_or_from_slice_get}
use Rattle.spec_text.proofs.ListLaws.{pairs-head, pairs-tail}
use Rattle.spec_labels.specs.Labels.{LabelOf, plain_label}
use Rattle.spec_labels.specs.Scenes.{HeadingOf, SceneRecordOf, AreHeadings, AreSceneRecords, record_place, record_places, first_place, locked_labels}
use Rattle.spec_labels.proofs.SceneSpots.{Spot, at, before, IsSpot, label_of, spot_label, spots_since, labels-spots, spot_label-injective}

-- Distinct elements have distinct images, where the images tell the elements.
pub AllPairs-map : {X Y : Type 0} (P : X → Type 0) (f : X → Y) → ((one other : X) → P one → P other → f one ≡ f other → one ≡ other)
    → (xs : List X) → All P xs → AllPairs (λ one other. one ≢ other) xs → AllPairs (λ one other. one ≢ other) (map f xs)
AllPairs-map {X = X} P f tells [] all pairs = λ i j d less within. absurd (omega (arith, within))
AllPairs-map {X = X} P f tells (x ∷ xs) all pairs =
    AllPairs-cons (λ one other. one ≢ other) (f x) (map f xs)
    (All-map (λ y. f x ≢ y) f xs (heads xs (All-tail P x xs all) (pairs-head (λ one other. one ≢ other) x xs pairs)))
    (AllPairs-map P f tells xs (All-tail P x xs all) (pairs-tail (λ one other. one ≢ other) x xs pairs))
  where
    heads : (ys : List X) → All P ys → All (λ y. x ≢ y) ys → All (λ y. f x ≢ f y) ys
    heads ys each apart k d within = λ same. apart k d within (tells x (get_or ys k d) (All-head P x xs all) (each k d within) same)

-- Every place lies in the list.
abbrev pub Within : ℕ → Option ℕ → Type 0
Within end place = IfSome place (λ p. p < end)

-- No heading after one with a record has the same record.
abbrev pub Apart : Option ℕ → Option ℕ → Type 0
Apart one other = IfSome one (λ p. other ≢ Some p)

-- The first place of a list without a certain place is another one.
first_place-other : (end place : ℕ) (places : List (Option ℕ)) → place < end → All (λ other. other ≢ Some place) places → first_place end places ≢ place
first_place-other end place [] within none = λ same. omega (arith, same, within)
first_place-other end place (Some p ∷ places) within none = λ same. All-head (λ other. other ≢ Some place) (Some p) places none (ap (λ q. Some q) same)
first_place-other end place (None ∷ places) within none = first_place-other end place places within (All-tail (λ other. other ≢ Some place) None places none)

pub first_place-low : (end : ℕ) (places : List (Option ℕ)) → All (Within end) places → first_place end places ≤ end
first_place-low end [] all = omega arith
first_place-low end (Some p ∷ places) all = let low : p < end = All-head (Within end) (Some p) places all in omega (arith, low)
first_place-low end (None ∷ places) all = first_place-low end places (All-tail (Within end) None places all)

-- The spots of headings are spots.
pub spots-IsSpot : (end since : ℕ) (places : List (Option ℕ)) → All (Within end) places → All (IsSpot end) (spots_since end since places)
spots-IsSpot end since [] all = All-nil (IsSpot end)
spots-IsSpot end since (Some p ∷ places) all =
    All-cons (IsSpot end) (at p) (spots_since end 0 places) (All-head (Within end) (Some p) places all) (spots-IsSpot end 0 places (All-tail (Within end) (Some p) places all))
spots-IsSpot end since (None ∷ places) all =
    let rest = All-tail (Within end) None places all in
    All-cons (IsSpot end) (before (first_place end places) (since + 1)) (spots_since end (since + 1) places) (first_place-low end places rest, omega arith) (spots-IsSpot end (since + 1) places rest)

-- A record that no heading has is at no spot, and no label is counted before it.
no-at : (end since place : ℕ) (places : List (Option ℕ)) → All (λ other. other ≢ Some place) places → All (λ (spot : Spot). at place ≢ spot) (spots_since end since places)
no-at end since place [] none = All-nil (λ (spot : Spot). at place ≢ spot)
no-at end since place (Some p ∷ places) none =
    All-cons (λ (spot : Spot). at place ≢ spot) (at p) (spots_since end 0 places)
    (λ same. All-head (λ other. other ≢ Some place) (Some p) places none (let e : p ≡ place = cc in ap (λ q. Some q) e))
    (no-at end 0 place places (All-tail (λ other. other ≢ Some place) (Some p) places none))
no-at end since place (None ∷ places) none =
    All-cons (λ (spot : Spot). at place ≢ spot) (before (first_place end places) (since + 1)) (spots_since end (since + 1) places)
    (λ same. cc)
    (no-at end (since + 1) place places (All-tail (λ other. other ≢ Some place) None places none))

no-before : (end since place m : ℕ) (places : List (Option ℕ)) → place < end → All (λ other. other ≢ Some place) places → All (λ (spot : Spot). before place m ≢ spot) (spots_since end since places)
no-before end since place m [] within none = All-nil (λ (spot : Spot). before place m ≢ spot)
no-before end since place m (Some p ∷ places) within none =
    All-cons (λ (spot : Spot). before place m ≢ spot) (at p) (spots_since end 0 places)
    (λ same. cc)
    (no-before end 0 place m places within (All-tail (λ other. other ≢ Some place) (Some p) places none))
no-before end since place m (None ∷ places) within none =
    let rest = All-tail (λ other. other ≢ Some place) None places none in
    All-cons (λ (spot : Spot). before place m ≢ spot) (before (first_place end places) (since + 1)) (spots_since end (since + 1) places)
    (λ same. first_place-other end place places within rest (let e : first_place end places ≡ place = cc in e))
    (no-before end (since + 1) place m places within rest)

-- Labels that are counted before the first place come later with greater counts.
later-counts : (end since m : ℕ) (places : List (Option ℕ)) → m ≤ since → All (Within end) places → AllPairs Apart places
    → All (λ (spot : Spot). before (first_place end places) m ≢ spot) (spots_since end since places)
later-counts end since m [] low all pairs = All-nil (λ (spot : Spot). before (first_place end []) m ≢ spot)
later-counts end since m (Some p ∷ places) low all pairs =
    All-cons (λ (spot : Spot). before p m ≢ spot) (at p) (spots_since end 0 places)
    (λ same. cc)
    (no-before end 0 p m places (All-head (Within end) (Some p) places all) (pairs-head Apart (Some p) places pairs))
later-counts end since m (None ∷ places) low all pairs =
    All-cons (λ (spot : Spot). before (first_place end places) m ≢ spot) (before (first_place end places) (since + 1)) (spots_since end (since + 1) places)
    (λ same. let e : m ≡ since + 1 = cc in omega (arith, e, low))
    (later-counts end (since + 1) m places (omega (arith, low)) (All-tail (Within end) None places all) (pairs-tail Apart None places pairs))

-- No two headings have one spot.
pub spots-distinct : (end since : ℕ) (places : List (Option ℕ)) → All (Within end) places → AllPairs Apart places
    → AllPairs (λ (one other : Spot). one ≢ other) (spots_since end since places)
spots-distinct end since [] all pairs = λ i j d less within. absurd (omega (arith, within))
spots-distinct end since (Some p ∷ places) all pairs =
    AllPairs-cons (λ (one other : Spot). one ≢ other) (at p) (spots_since end 0 places)
    (no-at end 0 p places (pairs-head Apart (Some p) places pairs))
    (spots-distinct end 0 places (All-tail (Within end) (Some p) places all) (pairs-tail Apart (Some p) places pairs))
spots-distinct end since (None ∷ places) all pairs =
    AllPairs-cons (λ (one other : Spot). one ≢ other) (before (first_place end places) (since + 1)) (spots_since end (since + 1) places)
    (later-counts end (since + 1) (since + 1) places (omega arith) (All-tail (Within end) None places all) (pairs-tail Apart None places pairs))
    (spots-distinct end (since + 1) places (All-tail (Within end) None places all) (pairs-tail Apart None places pairs))

-- What it says that a heading has the record at a place.
pub record_place-Some : (records : List SceneRecordOf) (heading : HeadingOf) (place : ℕ) (d : SceneRecordOf) → record_place records heading ≡ Some place
    → (place < length records) × ((get_or records place d).line ≡ heading.id)
record_place-Some records heading place d is =
    let found = position-Some (λ (it : SceneRecordOf). it.line == heading.id) records place d is in
    (found.0, eqb-true (get_or records place d).line heading.id found.1)

pub record_places-Within : (records : List SceneRecordOf) (headings : List HeadingOf) → All (Within (length records)) (record_places records headings)
record_places-Within records headings = All-map (Within (length records)) (record_place records) headings (λ k d within. by (record_place records (get_or headings k d)) (get_or headings k d) refl)
  where
    by : (o : Option ℕ) (heading : HeadingOf) → record_place records heading ≡ o → Within (length records) o
    by None heading is = tt
    by (Some place) heading is = (record_place-Some records heading place (record { label = plain_label 0; line = 0 }) is).0

record_places-Apart : (records : List SceneRecordOf) (headings : List HeadingOf) → AllPairs (λ (one other : HeadingOf). one.id ≢ other.id) headings → AllPairs Apart (record_places records headings)
record_places-Apart records [] pairs = λ i j d less within. absurd (omega (arith, within))
record_places-Apart records (heading ∷ headings) pairs =
    AllPairs-cons Apart (record_place records heading) (record_places records headings)
    (All-map (Apart (record_place records heading)) (record_place records) headings
    (λ k d within. by (record_place records heading) (get_or headings k d) refl (pairs-head (λ (one other : HeadingOf). one.id ≢ other.id) heading headings pairs k d within)))
    (record_places-Apart records headings (pairs-tail (λ (one other : HeadingOf). one.id ≢ other.id) heading headings pairs))
  where
    by : (o : Option ℕ) (other : HeadingOf) → record_place records heading ≡ o → heading.id ≢ other.id → Apart o (record_place records other)
    by None other is apart = tt
    by (Some place) other is apart = λ same.
        let d : SceneRecordOf = record { label = plain_label 0; line = 0 } in
        apart (sym (record_place-Some records heading place d is).1 ∙ (record_place-Some records other place d same).1)

-- Locked labels of headings are distinct.
pub locked_labels-distinct : (records : List SceneRecordOf) (headings : List HeadingOf) → AreSceneRecords records → AreHeadings headings
    → AllPairs (λ (one other : LabelOf). one ≢ other) (locked_labels records headings)
locked_labels-distinct records headings are known =
    let places = record_places records headings in
    let within = record_places-Within records headings in
    subst (AllPairs (λ (one other : LabelOf). one ≢ other)) (sym (labels-spots records 0 places))
    (AllPairs-map (IsSpot (length records)) (spot_label records) (λ one other is is' same. spot_label-injective records one other are is is' same)
    (spots_since (length records) 0 places) (spots-IsSpot (length records) 0 places within)
    (spots-distinct (length records) 0 places within (record_places-Apart records headings known.distinct)))

-- A heading whose label stands at a record has it.
at-owner : (end since i place : ℕ) (places : List (Option ℕ)) → slice_get (spots_since end since places) i ≡ Some (at place) → slice_get places i ≡ Some (Some place)
at-owner end since i place [] is = cc
at-owner end since zero place (Some p ∷ places) is = let e : p ≡ place = cc in ap (λ q. Some (Some q)) e
at-owner end since (suc i) place (Some p ∷ places) is = at-owner end 0 i place places is
at-owner end since zero place (None ∷ places) is = cc
at-owner end since (suc i) place (None ∷ places) is = at-owner end (since + 1) i place places is

-- What stands at a place keeps what all keep.
All-at : {X : Type 0} (P : X → Type 0) (xs : List X) (i : ℕ) (x : X) → All P xs → slice_get xs i ≡ Some x → P x
All-at P xs i x all is = subst P (get_or_from_slice_get xs i x x is) (all i x (slice_get_within xs i x is))

-- What stands at a place of a list of images is the image of what stands there.
map-at : {X Y : Type 0} (f : X → Y) (xs : List X) (i : ℕ) (y : Y) → slice_get (map f xs) i ≡ Some y → (x : X) × (slice_get xs i ≡ Some x) × (f x ≡ y)
map-at {X = X} f xs i y is = by (slice_get xs i) refl
  where
    by : (o : Option X) → slice_get xs i ≡ o → (x : X) × (slice_get xs i ≡ Some x) × (f x ≡ y)
    by None there = let no_more : None ≡ Some y = sym (slice_get-map f xs i ∙ ap (option_map f) there) ∙ is in cc
    by (Some x) there = (x, there, same_Some (f x) y (sym (slice_get-map f xs i ∙ ap (option_map f) there) ∙ is))

-- The label of a record is that of its own heading alone.
pub locked_labels-owner : (records : List SceneRecordOf) (headings : List HeadingOf) (i place : ℕ) (heading : HeadingOf) (it : SceneRecordOf) → AreSceneRecords records
    → slice_get headings i ≡ Some heading → slice_get records place ≡ Some it → slice_get (locked_labels records headings) i ≡ Some it.label → heading.id ≡ it.line
locked_labels-owner records headings i place heading it are here there same =
    let end = length records in
    let places = record_places records headings in
    let (spot, at_spot, is) = map-at (spot_label records) (spots_since end 0 places) i it.label (ap (λ (ls : List LabelOf). slice_get ls i) (sym (labels-spots records 0 places)) ∙ same) in
    let is_spot : IsSpot end spot = All-at (IsSpot end) (spots_since end 0 places) i spot (spots-IsSpot end 0 places (record_places-Within records headings)) at_spot in
    let inside : place < end = slice_get_within records place it there in
    let label_is : label_of records place ≡ it.label = ap (λ o. unwrap_or (option_map (λ (r : SceneRecordOf). r.label) o) (plain_label 0)) there in
    let spot_is : spot ≡ at place = spot_label-injective records spot (at place) are is_spot inside (is ∙ sym label_is) in
    let (owner, at_owner_place, owner_is) = map-at (record_place records) headings i (Some place) (at-owner end 0 i place places (at_spot ∙ ap (λ s. Some s) spot_is)) in
    let same_heading : owner ≡ heading = let e : Some owner ≡ Some heading = sym at_owner_place ∙ here in cc in
    let line = (record_place-Some records heading place it (ap (record_place records) (sym same_heading) ∙ owner_is)).1 in
    sym line ∙ ap (λ (r : SceneRecordOf). r.line) (get_or_from_slice_get records place it it there)
