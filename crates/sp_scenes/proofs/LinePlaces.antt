-- The place of a line's record, as the entries tell it.
use Rattle.std.proofs.Common.{◌≡◌, ℕ, ◌+◌, ◌<◌, ◌≢◌, eqb, ltb, cond, List, [], ◌∷◌, ◌++◌, length, get_or, Ok, Err, Some, None, Option, sym, ap, ◌∙◌, subst, inl, inr, arith, All}
use Rattle.std.specs.List.{Contains}
use Rattle.std.specs.List.Sorted.{IsSearchInRange, IsBinarySearchResult, IsNonDecreasingBy, IsPermutation}
use Rattle.std.specs.Ordering.{nat_cmp, ordering_index}
use Rattle.std.proofs.lemmas.Bool.{cases_lt, eq-eqb, ne_eqb, lt-ltb, le-ltb}
use Rattle.std.proofs.lemmas.Bool.Decides.{nat_tests}
use Rattle.std.proofs.lemmas.Cmp.{ranked}
use Rattle.std.proofs.lemmas.List.{get_or-map}
use Rattle.std.proofs.lemmas.List.Elements.{All-push, Contains-append_left, Contains-push}
use Rattle.std.proofs.lemmas.List.Sorted.{All-permutation, Contains-permutation}
use Rattle.std.proofs.lemmas.List.Sums.{position_or_len_is}
use Rattle.spec_labels.specs.Scenes.{SceneRecordOf, AreSceneRecords, line_place}
use Rattle.sp_scenes.specs.declared.places.LinePlace.{LinePlace}
use Rattle.sp_scenes.specs.LinePlaces.{record_lines, entry_at, Stands, ArePlaces}

pub line-at : (records : List SceneRecordOf) (place : ℕ) (d : SceneRecordOf) → place < length records → (get_or records place d).line ≡ get_or (record_lines records) place 0
line-at records place d inside = sym (get_or-map (λ (it : SceneRecordOf). it.line) records place d 0 inside)

-- A record with the line is the only one.
pub place-only : (records : List SceneRecordOf) (place line : ℕ) (d : SceneRecordOf) → AreSceneRecords records → place < length records → (get_or records place d).line ≡ line → Some place ≡ line_place records line
place-only records place line d are inside is =
    let test = λ (it : SceneRecordOf). eqb it.line line in
    let first = position_or_len_is test records place d (omega arith) (λ k below. ne_eqb _ line (λ same. are.distinct k place d below inside (same ∙ sym is))) (λ within. eq-eqb _ line is) in
    sym (ap (λ n. cond (ltb n (length records)) (Some n) None) first ∙ ap (λ b. let o : Option ℕ = cond b (Some place) None in o) (lt-ltb place (length records) inside))

place-none : (records : List SceneRecordOf) (line : ℕ) (d : SceneRecordOf) → ((k : ℕ) → k < length records → (get_or records k d).line ≢ line) → None ≡ line_place records line
place-none records line d none =
    let test = λ (it : SceneRecordOf). eqb it.line line in
    let all = position_or_len_is test records (length records) d (omega arith) (λ k below. ne_eqb _ line (none k below)) (λ within. absurd (omega arith)) in
    sym (ap (λ n. cond (ltb n (length records)) (Some n) None) all ∙ ap (λ b. let o : Option ℕ = cond b (Some (length records)) None in o) (le-ltb (length records) (length records) (omega arith)))

module _ (records : List SceneRecordOf) (places : List LinePlace) (are : ArePlaces records places) (line : ℕ) where
  -- the comparisons with the line rise along the entries, as a binary search asks
  comparisons_rise : IsNonDecreasingBy (λ (entry : LinePlace). ordering_index (nat_cmp entry.line line)) places
  comparisons_rise = λ i j d le inside. (let rise = are.sorted i j d le inside in grind (arith, nat_tests, rise))

  -- A search that found an entry found the record's place.
  pub place-found : (found : ℕ) (d : LinePlace) → AreSceneRecords records → IsSearchInRange (Ok found) (length places) → IsBinarySearchResult (λ (it : LinePlace). nat_cmp it.line line) places (Ok found)
      → Some (get_or places found d).place ≡ line_place records line
  place-found found d kept inside equal =
      let entry = get_or places found d in
      let stands : Stands records entry = are.stand found d inside in
      let same : entry.line ≡ line = ranked _ line _ (sym (equal d)) in
      let none : SceneRecordOf = record { label = record { number = 0; path = [] }; line = 0 } in
      place-only records entry.place line none kept stands.inside (line-at records entry.place none stands.inside ∙ stands.is ∙ same)

  -- A search that found none shows that no record has the line.
  pub place-missing : (end : ℕ) → IsBinarySearchResult (λ (it : LinePlace). nat_cmp it.line line) places (Err end) → None ≡ line_place records line
  place-missing end parted =
      let d : SceneRecordOf = record { label = record { number = 0; path = [] }; line = 0 } in
      place-none records line d (λ k below same.
      let entry = entry_at records k in
      let (at, inside, is) = are.known k below in
      let here : (get_or places at entry).line ≡ line = ap (λ (it : LinePlace). it.line) is ∙ sym (line-at records k d below) ∙ same in
      elim (cases_lt at end) [
        | inl low ↦ omega (arith, ranked (get_or places at entry).line line _ (sym ((parted comparisons_rise).0 at entry (omega arith) low)), here)
        | inr high ↦ omega (arith, ranked (get_or places at entry).line line _ (sym ((parted comparisons_rise).1 at entry high inside)), here)
      ])

-- The entries of the first records.
pub record ArePlacesOf (count : ℕ) (records : List SceneRecordOf) (places : List LinePlace) : Type 0 where
  pub stand : All (Stands records) places
  pub known : (place : ℕ) → place < count → Contains places (entry_at records place)

pub ArePlacesOf-more : (count line : ℕ) (records : List SceneRecordOf) (d : SceneRecordOf) (old new : List LinePlace) → count < length records → line ≡ (get_or records count d).line
    → new ≡ old ++ record { line = line; place = count } ∷ [] → ArePlacesOf count records old → ArePlacesOf (count + 1) records new
ArePlacesOf-more count line records d old new inside is pushed are =
    let entry : LinePlace = record { line = line; place = count } in
    let here : line ≡ get_or (record_lines records) count 0 = is ∙ line-at records count d inside in
    let same : entry ≡ entry_at records count = ap (λ n. let it : LinePlace = record { line = n; place = count } in it) here in
    let P : List LinePlace → Type 0 = λ places. ArePlacesOf (count + 1) records places in
    subst P (sym pushed) (record {
      stand = All-push (Stands records) old entry are.stand (record { inside = inside; is = sym here });
      known = λ place below. elim (cases_lt place count) [
        | inl low ↦ Contains-append_left old (entry ∷ []) (entry_at records place) (are.known place low)
        | inr high ↦
            let last : count ≡ place = omega arith in
            let Q : LinePlace → Type 0 = λ it. Contains (old ++ entry ∷ []) it in
            subst Q (same ∙ ap (entry_at records) last) (Contains-push old entry)
      ];
    })

-- Sorted, the entries of all records are their places.
pub ArePlaces-sorted : (records : List SceneRecordOf) (all places : List LinePlace) (count : ℕ) → count ≡ length records → IsPermutation all places → IsNonDecreasingBy (λ (entry : LinePlace). entry.line) places
    → ArePlacesOf count records all → ArePlaces records places
ArePlaces-sorted records all places count whole permuted sorted are = record {
  sorted = sorted;
  stand = All-permutation (Stands records) all places permuted are.stand;
  known = λ place below. Contains-permutation all places (entry_at records place) permuted (are.known place (omega (arith, whole)));
}
