-- The words of a header: what stands before the first of something, behind the last space, and at the end.
use Rattle.std.proofs.Common.{◌≡◌, ℕ, suc, ◌+◌, ◌-◌, ◌<◌, Bool, true, false, not, ◌&&◌, ◌||◌, ◌==◌, cond, List, [], ◌∷◌, ◌++◌, length, take, drop, get_or, refl, ap, ap₂, sym, ◌∙◌, eq-eqb, lt-ltb, arith, length-append}
use Rattle.std.specs.Prelude.{All, Some, None}
use Rattle.std.specs.List.{list_any, prefix_len, position_or_len, before_first, after_first}
use Rattle.std.proofs.lemmas.List.{take_at, get_or_at, get_or-append-add}
use Rattle.std.proofs.lemmas.List.Elements.{All-head, All-tail}
use Rattle.spec_script.specs.Letters.{ends}
use Rattle.spec_packet.specs.SheetReadings.{last_word, later_word}

-- The first element that passes stands behind those that don't.
pub first-place : {X : Type 0} (p : X → Bool) (xs : List X) (y : X) (ys : List X) → All (λ x. p x ≡ false) xs → p y ≡ true → position_or_len p (xs ++ (y ∷ ys)) ≡ length xs
first-place p [] y ys none hit = ap (λ b. cond (not b) (1 + prefix_len (λ x. not (p x)) ys) 0) hit
first-place p (x ∷ xs) y ys none hit =
    ap (λ b. cond (not b) (1 + prefix_len (λ z. not (p z)) (xs ++ (y ∷ ys))) 0) (All-head (λ z. p z ≡ false) x xs none)
    ∙ ap (λ n. 1 + n) (first-place p xs y ys (All-tail (λ z. p z ≡ false) x xs none) hit) ∙ omega arith

pub before-first : {X : Type 0} (p : X → Bool) (xs : List X) (y : X) (ys : List X) → All (λ x. p x ≡ false) xs → p y ≡ true → before_first p (xs ++ (y ∷ ys)) ≡ xs
before-first {X} p xs y ys none hit =
    ap (λ n. take n (xs ++ (y ∷ ys))) (first-place p xs y ys none hit) ∙ take_at xs (y ∷ ys) (length xs) refl

pub after-first : {X : Type 0} (p : X → Bool) (xs : List X) (y : X) (ys : List X) → All (λ x. p x ≡ false) xs → p y ≡ true → after_first p (xs ++ (y ∷ ys)) ≡ ys
after-first {X} p xs y ys none hit =
    ap (λ n. drop (n + 1) (xs ++ (y ∷ ys))) (first-place p xs y ys none hit) ∙ behind xs
  where
    behind : (zs : List X) → drop (length zs + 1) (zs ++ (y ∷ ys)) ≡ ys
    behind [] = refl
    behind (z ∷ zs) = (let e : length (z ∷ zs) + 1 ≡ suc (length zs + 1) = omega arith in ap (λ n. drop n (z ∷ (zs ++ (y ∷ ys)))) e) ∙ again zs
      where
        again : (ws : List X) → drop (length ws + 1) (ws ++ (y ∷ ys)) ≡ ys
        again ws = (let e : length ws + 1 ≡ suc (length ws) = omega arith in ap (λ n. drop n (ws ++ (y ∷ ys))) e) ∙ walk ws
          where
            walk : (vs : List X) → drop (suc (length vs)) (vs ++ (y ∷ ys)) ≡ ys
            walk [] = refl
            walk (v ∷ vs) = walk vs

pub any-behind : {X : Type 0} (p : X → Bool) (xs : List X) (y : X) (ys : List X) → p y ≡ true → list_any p (xs ++ (y ∷ ys)) ≡ true
any-behind p [] y ys hit = ap (λ b. b || list_any p ys) hit
any-behind p (x ∷ xs) y ys hit = by (p x) (any-behind p xs y ys hit)
  where
    by : (b : Bool) → list_any p (xs ++ (y ∷ ys)) ≡ true → (b || list_any p (xs ++ (y ∷ ys))) ≡ true
    by true h = refl
    by false h = h

-- The word behind the last space.
abbrev pub is_space : ℕ → Bool
is_space byte = byte == 32

pub no-word : (text : List ℕ) → All (λ b. is_space b ≡ false) text → last_word text ≡ None
no-word [] none = refl
no-word (byte ∷ text) none =
    ap (later_word byte text) (no-word text (All-tail (λ b. is_space b ≡ false) byte text none))
    ∙ ap (λ b. cond b (Some text) None) (All-head (λ b. is_space b ≡ false) byte text none)

pub last-word : (front word : List ℕ) → All (λ b. is_space b ≡ false) word → last_word (front ++ (32 ∷ word)) ≡ Some word
last-word [] word none = ap (later_word 32 word) (no-word word none)
last-word (byte ∷ front) word none = ap (later_word byte (front ++ (32 ∷ word))) (last-word front word none)

-- A text with a byte at its end ends with it.
pub ends-behind : (byte : ℕ) (text : List ℕ) → ends byte (text ++ (byte ∷ [])) ≡ true
ends-behind byte text =
    let long : length (text ++ (byte ∷ [])) ≡ length text + 1 = length-append text (byte ∷ []) in
    let less : 0 < length (text ++ (byte ∷ [])) = omega (arith, long) in
    let place : length text ≡ length (text ++ (byte ∷ [])) - 1 = omega (arith, long) in
    ap₂ (λ a b. a && b) (lt-ltb 0 (length (text ++ (byte ∷ []))) less)
    (ap (λ b. b == byte) (get_or_at text byte [] 0 (length (text ++ (byte ∷ [])) - 1) place) ∙ same byte)
  where
    same : (n : ℕ) → (n == n) ≡ true
    same n = eq-eqb n n refl

-- Without its last byte.
pub take-last : (text : List ℕ) (byte : ℕ) → take (length (text ++ (byte ∷ [])) - 1) (text ++ (byte ∷ [])) ≡ text
take-last text byte =
    let place : length text ≡ length (text ++ (byte ∷ [])) - 1 = omega (arith, length-append text (byte ∷ [])) in
    take_at text (byte ∷ []) (length (text ++ (byte ∷ [])) - 1) place

-- A text ends as its end does.
pub ends-append : (byte : ℕ) (xs ys : List ℕ) → 0 < length ys → ends byte (xs ++ ys) ≡ ends byte ys
ends-append byte xs ys some =
    let long : length (xs ++ ys) ≡ length xs + length ys = length-append xs ys in
    let place : length (xs ++ ys) - 1 ≡ length xs + (length ys - 1) = omega (arith, long, some) in
    ap₂ (λ a b. a && b)
    (lt-ltb 0 (length (xs ++ ys)) (omega (arith, long, some)) ∙ sym (lt-ltb 0 (length ys) some))
    (ap (λ b. b == byte) (ap (λ n. get_or (xs ++ ys) n 0) place ∙ get_or-append-add xs ys (length ys - 1) 0))
