-- A sample that words ask for has one room or more, and no more than it may.
use Rattle.std.proofs.Common.{◌≡◌, ℕ, ◌<◌, ◌≤◌, Bool, true, false, ◌&&◌, cond, leb, Option, Some, None, List, [], ◌∷◌, refl, subst, arith}
use Rattle.std.specs.Prelude.{codes, bytes_eq, decimal, option_map}
use Rattle.std.specs.Str.Parse.{digits_value}
use Rattle.std.proofs.lemmas.Bool.{and_parts, leb-true}
use Rattle.sp_run.specs.Forms.{Asked, sample, most_rooms, is_rooms, rooms_in, print, from_source, outline, desk, html, cast, packet, room, collate, asked_by}

pub record AreFew (rooms : ℕ) : Type 0 where
  pub some : 0 < rooms
  pub few : rooms ≤ 2000

-- What is asked for is a sample of so many rooms, if it is one.
abbrev Few : Asked → Type 0
Few (sample rooms) = AreFew rooms
Few _ = Unit {0}

abbrev IfAsked : Option Asked → Type 0
IfAsked None = Unit {0}
IfAsked (Some asked) = Few asked

if-asked : (b : Bool) (one other : Option Asked) → IfAsked one → IfAsked other → IfAsked (cond b one other)
if-asked true one other a b = a
if-asked false one other a b = b

rooms-few : (word : List ℕ) → IfAsked (option_map sample (rooms_in word))
rooms-few word = by (is_rooms number word) refl
  where
    number : ℕ
    number = digits_value 10 word

    by : (b : Bool) → is_rooms number word ≡ b → IfAsked (option_map sample (cond b (Some number) None))
    by false is = tt
    by true is =
        let low = (and_parts (leb 1 number && leb number most_rooms) (bytes_eq (decimal number) word) is).0 in
        let both = and_parts (leb 1 number) (leb number most_rooms) low in
        let some = leb-true 1 number both.0 in
        record { some = omega (arith, some); few = leb-true number most_rooms both.1 }

all-few : (words : List (List ℕ)) → IfAsked (asked_by words)
all-few [] = tt
all-few (word ∷ []) = if-asked (bytes_eq word (codes "print")) (Some (print from_source)) None tt tt
all-few (word ∷ name ∷ []) =
    if-asked (bytes_eq word (codes "print")) _ _ tt
    (if-asked (bytes_eq word (codes "outline")) _ _ tt
    (if-asked (bytes_eq word (codes "desk")) _ _ tt
    (if-asked (bytes_eq word (codes "sample")) _ _ (rooms-few name)
    (if-asked (bytes_eq word (codes "html")) _ _ tt
    (if-asked (bytes_eq word (codes "cast")) _ _ tt
    (if-asked (bytes_eq word (codes "packet")) _ _ tt (if-asked (bytes_eq word (codes "room")) _ _ tt tt)))))))
all-few (word ∷ old ∷ new ∷ []) = if-asked (bytes_eq word (codes "collate")) (Some (collate old new)) None tt tt
all-few (word ∷ old ∷ new ∷ more ∷ words) = tt

pub asked-few : (words : List (List ℕ)) (rooms : ℕ) → asked_by words ≡ Some (sample rooms) → AreFew rooms
asked-few words rooms is = subst IfAsked is (all-few words)
