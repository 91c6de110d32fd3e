-- The number of rooms that a word writes.
use Rattle.std.proofs.Common.{◌≡◌, ℕ, ◌^◌, ◌<◌, ◌≤◌, Bool, true, false, ◌&&◌, List, Some, None, ap, sym, ◌∙◌, subst, refl, arith}
use Rattle.std.specs.Prelude.{Ok, Err, nat_le, bytes_eq, decimal, if◌then◌else◌}
use Rattle.std.specs.declared.result.Result.{Result}
use Rattle.std.specs.declared.option.Option.{Option}
use Rattle.std.specs.Str.Parse.{ParsesUnsigned, digits_value}
use Rattle.std.proofs.lemmas.Bool.{and_parts, leb-true}
use Rattle.std.proofs.lemmas.Fmt.{decimal_is_IsNumeral, parse-decimal}
use Rattle.std.proofs.lemmas.Slice.Eq.{bytes_eq-Decides}
use Rattle.sp_run.specs.Forms.{is_rooms, most_rooms, rooms_in}

-- The number is small, and the word writes it.
record Writes (rooms : ℕ) (word : List ℕ) : Type 0 where
  pub high : rooms ≤ 2000
  pub is : word ≡ decimal rooms

writes-tested : (rooms : ℕ) (word : List ℕ) → is_rooms rooms word ≡ true → Writes rooms word
writes-tested rooms word test =
    let parts = and_parts (nat_le 1 rooms && nat_le rooms most_rooms) (bytes_eq (decimal rooms) word) test in
    let sized = and_parts (nat_le 1 rooms) (nat_le rooms most_rooms) parts.0 in
    record { high = leb-true rooms 2000 sized.1; is = sym ((bytes_eq-Decides (decimal rooms) word).0 parts.1) }

-- The value of its digits is the number.
pub rooms-taken : (rooms : ℕ) (word : List ℕ) → is_rooms rooms word ≡ true → rooms_in word ≡ Some rooms
rooms-taken rooms word test =
    let it = writes-tested rooms word test in
    let small : rooms < 2 ^ 64 = omega (arith, it.high) in
    let value : digits_value 10 word ≡ rooms = ap (digits_value 10) it.is ∙ (decimal_is_IsNumeral rooms small).1 in
    let passes : is_rooms (digits_value 10 word) word ≡ true = subst (λ (n : ℕ). is_rooms n word ≡ true) (sym value) test in
    let taken : rooms_in word ≡ Some (digits_value 10 word) = ap (λ (b : Bool). if b then Some (digits_value 10 word) else None) passes in
    taken ∙ ap Some value

-- A number that a word writes is read from it.
read-back : (E : Type 0) (word : List ℕ) (rooms : ℕ) (r : Result ℕ E) → ParsesUnsigned 32 10 word r → is_rooms rooms word ≡ true → r ≡ Ok rooms
read-back E word rooms r reads test =
    let it = writes-tested rooms word test in
    parse-decimal 32 rooms word r (omega (arith, it.high)) (omega (arith, it.high)) it.is reads

none-passes : (b : Bool) (rooms : ℕ) → (b ≡ true → ⊥) → ◌≡◌ {A = Option ℕ} (if b then Some rooms else None) None
none-passes true rooms never = absurd (never refl)
none-passes false rooms never = refl

-- A word that is read as no number writes none.
pub rooms-unread : (E : Type 0) (word : List ℕ) (error : E) (r : Result ℕ E) → ParsesUnsigned 32 10 word r → r ≡ Err error → rooms_in word ≡ None
rooms-unread E word error r reads is =
    let value = digits_value 10 word in
    none-passes (is_rooms value word) value
    (λ test. let read = read-back E word value r reads test in let e : ◌≡◌ {A = Result ℕ E} (Err error) (Ok value) = sym is ∙ read in cc)

-- Nor does one that is read as a number that it doesn't write, or that is none of a sample.
pub rooms-refused : (E : Type 0) (word : List ℕ) (rooms : ℕ) (r : Result ℕ E) → ParsesUnsigned 32 10 word r → r ≡ Ok rooms → is_rooms rooms word ≡ false → rooms_in word ≡ None
rooms-refused E word rooms r reads is test =
    let value = digits_value 10 word in
    none-passes (is_rooms value word) value
    (λ passes. let read = read-back E word value r reads passes in
    let e : ◌≡◌ {A = Result ℕ E} (Ok rooms) (Ok value) = sym is ∙ read in
    let same : rooms ≡ value = cc in
    let other : false ≡ true = sym test ∙ ap (λ (n : ℕ). is_rooms n word) same ∙ passes in
    cc)
