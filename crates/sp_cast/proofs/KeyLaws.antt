-- Keys of a set, what they stand for, and entries gathered by them.
use Rattle.std.proofs.Common.{◌≡◌, ℕ, ◌+◌, ◌<◌, ◌||◌, ◌&&◌, ◌==◌, Bool, true, false, not, cond, Some, None, List, [], ◌∷◌, ◌++◌, length, map, filter, take, get_or, refl, ap, ap₂, sym, ◌∙◌, Bor}
use Rattle.std.specs.Prelude.{bytes_eq}
use Rattle.std.specs.List.{list_any, position_or_len}
use Rattle.std.specs.Option.{option_eq}
use Rattle.std.proofs.lemmas.List.{map-append, take_more, length-map}
use Rattle.indexmap.specs.IndexSet.{insert_key}
use Rattle.spec_cast.specs.Sides.{each_once, scene_eq}
use Rattle.spec_cast.specs.Groups.{add_at, grouped}
use Rattle.spec_cast.proofs.Counts.{TellsSame}
use Rattle.spec_cast.proofs.Inserting.{each_once-more}
use Rattle.spec_cast.proofs.Groups.{grouped-more}
use Rattle.sp_cast.specs.declared.keys.LabelKey.{LabelKey}
use Rattle.sp_cast.specs.Keys.{scene_of_key, IsAdded}

-- Keys are told apart as what they stand for.
abbrev pub TellsAs : {K J : Type 0} → (K → K → Bool) → (J → J → Bool) → (K → J) → Type 0
TellsAs {K = K} eq same of = (one other : K) → eq one other ≡ same (of one) (of other)

pub any-of : {K J : Type 0} (eq : K → K → Bool) (same : J → J → Bool) (of : K → J) → TellsAs eq same of → (key : K) (keys : List K)
    → list_any (eq key) keys ≡ list_any (same (of key)) (map of keys)
any-of eq same of tells key [] = refl
any-of eq same of tells key (k ∷ keys) = ap₂ (λ a b. a || b) (tells key k) (any-of eq same of tells key keys)

pub place-of : {K J : Type 0} (eq : K → K → Bool) (same : J → J → Bool) (of : K → J) → TellsAs eq same of → (key : K) (keys : List K)
    → position_or_len (eq key) keys ≡ position_or_len (same (of key)) (map of keys)
place-of eq same of tells key [] = refl
place-of eq same of tells key (k ∷ keys) = ap₂ (λ a n. cond (not a) (1 + n) 0) (tells key k) (place-of eq same of tells key keys)

pub insert-of : {K J : Type 0} (eq : K → K → Bool) (same : J → J → Bool) (of : K → J) → TellsAs eq same of → (keys : List K) (key : K)
    → map of (insert_key eq keys key) ≡ insert_key same (map of keys) (of key)
insert-of eq same of tells keys key = by (list_any (eq key) keys) (list_any (same (of key)) (map of keys)) (any-of eq same of tells key keys)
  where
    by : (t u : Bool) → t ≡ u → map of (cond t keys (keys ++ key ∷ [])) ≡ cond u (map of keys) (map of keys ++ of key ∷ [])
    by true true is = refl
    by false false is = map-append of keys (key ∷ [])
    by true false is = cc
    by false true is = cc

-- ---- entries gathered so far

-- A set has the values of the entries, and groups have the entries.
pub record Gathered {X K J : Type 0} (of : K → J) (same : J → J → Bool) (value : X → J) (xs : List X) (keys : List K) (groups : List (List X)) : Type 0 where
  pub values : map of keys ≡ each_once same (map value xs)
  pub groups_are : groups ≡ grouped same value xs

pub gathered-even : {X K J : Type 0} (of : K → J) (same : J → J → Bool) (value : X → J) (xs : List X) (keys : List K) (groups : List (List X)) → Gathered of same value xs keys groups → length keys ≡ length groups
gathered-even of same value xs keys groups so_far =
    sym (length-map keys of) ∙ ap length so_far.values
    ∙ sym (ap length so_far.groups_are ∙ length-map (each_once same (map value xs)) (λ v. filter (λ x. same v (value x)) xs))

-- One more is put into a group that there is, or behind all.
pub added : {X K J : Type 0} (eq : K → K → Bool) (of : K → J) (same : J → J → Bool) (value : X → J) → TellsAs eq same of → (keys more : List K) (groups next : List (List X)) (item : X) (key : K) (place : ℕ)
    → of key ≡ value item → place ≡ position_or_len (eq key) keys → more ≡ insert_key eq keys key → next ≡ add_at groups place item → IsAdded of same value keys more groups next item
added eq of same value tells keys more groups next item key place is at inserted grown = record {
  values = ap (map of) inserted ∙ insert-of eq same of tells keys key ∙ ap (insert_key same (map of keys)) is;
  groups_are = grown ∙ ap (λ n. add_at groups n item) (at ∙ place-of eq same of tells key keys ∙ ap (λ v. position_or_len (same v) (map of keys)) is);
}

pub gathered-more : {X K J : Type 0} (of : K → J) (same : J → J → Bool) (value : X → J) → TellsSame same
    → (all : List X) (i : ℕ) (d item : X) (keys more : List K) (groups next : List (List X)) → i < length all → item ≡ get_or all i d
    → IsAdded of same value keys more groups next item → Gathered of same value (take i all) keys groups → Gathered of same value (take (i + 1) all) more next
gathered-more of same value tell all i d item keys more groups next inside here added so_far =
    let xs = take i all in
    let grown : take (i + 1) all ≡ xs ++ item ∷ [] = take_more all i d inside ∙ ap (λ x. xs ++ x ∷ []) (sym here) in
    record {
      values = added.values ∙ ap (λ vs. insert_key same vs (value item)) so_far.values ∙ sym (each_once-more same tell (map value xs) (value item))
          ∙ sym (ap (each_once same) (ap (map value) grown ∙ map-append value xs (item ∷ [])));
      groups_are = added.groups_are ∙ ap₂ (λ gs vs. add_at gs (position_or_len (same (value item)) vs) item) so_far.groups_are so_far.values
          ∙ sym (grouped-more same tell value xs item) ∙ sym (ap (grouped same value) grown);
    }

-- ---- keys of this crate

-- Texts that are lent.
abbrev pub lent_eq : Bor (List ℕ) → Bor (List ℕ) → Bool
lent_eq one other = bytes_eq one.now other.now

-- Keys of labels and of scenes.
abbrev pub key_eq : LabelKey → LabelKey → Bool
key_eq one other = (one.number == other.number) && bytes_eq one.path.now other.path.now

pub scenes-as : TellsAs (option_eq key_eq) scene_eq scene_of_key
scenes-as None None = refl
scenes-as None (Some other) = refl
scenes-as (Some one) None = refl
scenes-as (Some one) (Some other) = refl
