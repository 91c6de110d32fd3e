-- The stanzas of a text, split at a fresh point.
use Rattle.std.proofs.Common.{◌≡◌, ◌==◌, ℕ, ◌+◌, ◌-◌, ◌<◌, ◌≤◌, zero, suc, Bool, true, false, cond, not, List, [], ◌∷◌, ◌++◌, map, length, take, drop, slice_get, Some, refl, sym, ap, ap₂, subst, ◌∙◌, inl, inr, arith, length-take, length-drop}
use Rattle.std.proofs.lemmas.Bool.{cases_lt, cond-false, ne_eqb}
use Rattle.std.proofs.lemmas.Option.{slice_get_within}
use Rattle.std.proofs.lemmas.List.{length-map, take-map, drop-map, drop-drop, take_all, take-append-drop, append-nil}
use Rattle.spec_script.specs.declared.Sort.TheVariants as sorts
use Rattle.spec_script.specs.BlockValues.{StanzaOf}
use Rattle.spec_script.specs.LongestRuns.{Group, members, in_front, longest_runs, run_more}
use Rattle.spec_script.specs.Stanzas.{Kept, kept_lines, is_empty, one_stanza, sort_at, lines_from, stanza_of, stanzas_in, stanzas_from}
use Rattle.spec_script.proofs.LongestRuns.{longest_runs-first}
use Rattle.spec_script.proofs.StanzaList.{length-kept, stanzas-end}
use Rattle.spec_edit.specs.Windows.{IsCut, stanzas_between}
use Rattle.spec_edit.proofs.Lists.{slice_get-take, slice_get-drop}

-- The last element of the list, if it has one, doesn't join y.
abbrev pub Parted : {X : Type 0} → (X → X → Bool) → List X → X → Type 0
Parted joins [] y = Unit {0}
Parted joins (x ∷ []) y = joins x y ≡ false
Parted joins (x ∷ z ∷ xs) y = Parted joins (z ∷ xs) y

cond-append : {X : Type 0} (b : Bool) (p q zs : List X) → cond b (p ++ zs) (q ++ zs) ≡ cond b p q ++ zs
cond-append true p q zs = refl
cond-append false p q zs = refl

-- The runs of two lists, of which the first ends a run.
pub runs-append : {X : Type 0} (joins : X → X → Bool) (xs : List X) (y : X) (ys : List X) → Parted joins xs y → longest_runs joins (xs ++ y ∷ ys) ≡ longest_runs joins xs ++ longest_runs joins (y ∷ ys)
runs-append joins [] y ys parted = refl
runs-append joins (x ∷ []) y ys parted =
    let g : Group _ = record { first = y; more = take (run_more joins y ys) ys } in
    let gs : List (Group _) = longest_runs joins (drop (run_more joins y ys) ys) in
    let is : longest_runs joins (y ∷ ys) ≡ g ∷ gs = longest_runs-first joins y ys in
    ap (in_front joins x) is
    ∙ cond-false (joins x y) (record { first = x; more = members g } ∷ gs) (record { first = x; more = [] } ∷ g ∷ gs) parted
    ∙ ap (λ hs. record { first = x; more = [] } ∷ hs) (sym is)
runs-append joins (x ∷ z ∷ xs) y ys parted =
    let h : Group _ = record { first = z; more = take (run_more joins z xs) xs } in
    let hs : List (Group _) = longest_runs joins (drop (run_more joins z xs) xs) in
    let is : longest_runs joins (z ∷ xs) ≡ h ∷ hs = longest_runs-first joins z xs in
    let rest = longest_runs joins (y ∷ ys) in
    ap (in_front joins x) (runs-append joins (z ∷ xs) y ys parted ∙ ap (λ gs. gs ++ rest) is)
    ∙ cond-append (joins x z) (record { first = x; more = members h } ∷ hs) (record { first = x; more = [] } ∷ h ∷ hs) rest
    ∙ ap (λ gs. in_front joins x gs ++ rest) (sym is)

pub stanzas_in-append : (first : Bool) (g : Group Kept) (gs hs : List (Group Kept)) → stanzas_in first ((g ∷ gs) ++ hs) ≡ stanzas_in first (g ∷ gs) ++ stanzas_in false hs
stanzas_in-append first g [] hs = refl
stanzas_in-append first g (k ∷ gs) hs = ap (λ (ss : List StanzaOf). stanza_of first (members g) ∷ ss) (stanzas_in-append false k gs hs)

-- An empty line ends its stanza.
parted-empty : (xs : List Kept) (k : ℕ) (y : Kept) → suc k ≡ length xs → slice_get (map sort_at xs) k ≡ Some sorts.Empty → Parted one_stanza xs y
parted-empty [] k y count empty = tt
parted-empty (x ∷ []) zero y count empty = let is : x.sort ≡ sorts.Empty = cc (empty) in ap (λ s. not (is_empty s)) is
parted-empty (x ∷ []) (suc k) y count empty = absurd (omega (arith, count))
parted-empty (x ∷ z ∷ xs) zero y count empty = absurd (omega (arith, count))
parted-empty (x ∷ z ∷ xs) (suc k) y count empty = parted-empty (z ∷ xs) k y (omega (arith, count)) empty

some_runs : (first : Bool) (xs : List Kept) (ys : List (Group Kept)) → 0 < length xs → stanzas_in first (longest_runs one_stanza xs ++ ys) ≡ stanzas_in first (longest_runs one_stanza xs) ++ stanzas_in false ys
some_runs first [] ys some = absurd (omega (arith, some))
some_runs first (x ∷ xs) ys some =
    let g : Group Kept = record { first = x; more = take (run_more one_stanza x xs) xs } in
    let gs = longest_runs one_stanza (drop (run_more one_stanza x xs) xs) in
    let is : longest_runs one_stanza (x ∷ xs) ≡ g ∷ gs = longest_runs-first one_stanza x xs in
    ap (λ hs. stanzas_in first (hs ++ ys)) is ∙ stanzas_in-append first g gs ys ∙ ap (λ hs. stanzas_in first hs ++ stanzas_in false ys) (sym is)

split_lines : (first : Bool) (xs ys : List Kept) (k : ℕ) → suc k ≡ length xs → slice_get (map sort_at xs) k ≡ Some sorts.Empty → stanzas_in first (longest_runs one_stanza (xs ++ ys)) ≡ stanzas_in first (longest_runs one_stanza xs) ++ stanzas_in false (longest_runs one_stanza ys)
split_lines first xs [] k count empty =
    ap (λ ls. stanzas_in first (longest_runs one_stanza ls)) (append-nil xs) ∙ sym (append-nil (stanzas_in first (longest_runs one_stanza xs)))
split_lines first xs (y ∷ ys) k count empty =
    ap (stanzas_in first) (runs-append one_stanza xs y ys (parted-empty xs k y count empty))
    ∙ some_runs first xs (longest_runs one_stanza (y ∷ ys)) (omega (arith, count))

none_between : (texts : List (List ℕ)) (a : ℕ) → stanzas_between texts a a ≡ []
none_between texts a =
    let none : a - a ≡ 0 = omega arith in
    ap (λ n. stanzas_in (a == 0) (longest_runs one_stanza (take n (lines_from texts a)))) none

-- The lines from one place to another end in an empty one, where the other is a fresh point.
between-empty : (texts : List (List ℕ)) (a b : ℕ) → a < b → slice_get (map sort_at (kept_lines texts)) (b - 1) ≡ Some sorts.Empty → slice_get (map sort_at (take (b - a) (lines_from texts a))) (b - a - 1) ≡ Some sorts.Empty
between-empty texts a b less empty =
    let all = map sort_at (kept_lines texts) in
    let low : b - a - 1 < b - a = omega (arith, less) in
    let at : a + (b - a - 1) ≡ b - 1 = omega (arith, less) in
    ap (λ ls. slice_get ls (b - a - 1)) (sym (take-map sort_at (b - a) (lines_from texts a)))
    ∙ slice_get-take (map sort_at (lines_from texts a)) (b - a) (b - a - 1) low
    ∙ ap (λ ls. slice_get ls (b - a - 1)) (sym (drop-map sort_at a (kept_lines texts)))
    ∙ slice_get-drop all a (b - a - 1)
    ∙ ap (slice_get all) at
    ∙ empty

within-empty : (texts : List (List ℕ)) (b : ℕ) → 0 < b → slice_get (map sort_at (kept_lines texts)) (b - 1) ≡ Some sorts.Empty → b ≤ length texts
within-empty texts b some empty =
    elim (cases_lt (length texts) b) [
      | inl past ↦ absurd (omega (arith, slice_get_within (map sort_at (kept_lines texts)) (b - 1) sorts.Empty empty, length-map (kept_lines texts) sort_at, length-kept texts, past, some))
      | inr low ↦ low
    ]

-- The stanzas of a text from one place on are those up to a fresh point, or to the end, and those from there on.
pub split : (texts : List (List ℕ)) (a b : ℕ) → a ≤ b → IsCut texts b → stanzas_from texts a ≡ stanzas_between texts a b ++ stanzas_from texts b
split texts a b order (inr end) =
    let all : take (b - a) (lines_from texts a) ≡ lines_from texts a =
    take_all (b - a) (lines_from texts a) (omega (arith, length-drop a (kept_lines texts), length-kept texts, end)) in
    sym (append-nil (stanzas_from texts a))
    ∙ ap₂ (λ (xs : List Kept) (ss : List StanzaOf). stanzas_in (a == 0) (longest_runs one_stanza xs) ++ ss) (sym all) (sym (stanzas-end texts b (omega (arith, end))))
split texts a b order (inl (inl zero_b)) =
    let same : a ≡ b = omega (arith, order, zero_b) in
    subst (λ c. stanzas_from texts a ≡ stanzas_between texts a c ++ stanzas_from texts c) same
    (sym (ap (λ ss. ss ++ stanzas_from texts a) (none_between texts a)))
split texts a b order (inl (inr empty)) =
    elim (cases_lt a b) [
      | inr back ↦
          let same : a ≡ b = omega (arith, order, back) in
          subst (λ c. stanzas_from texts a ≡ stanzas_between texts a c ++ stanzas_from texts c) same
          (sym (ap (λ ss. ss ++ stanzas_from texts a) (none_between texts a)))
      | inl less ↦
          let all = lines_from texts a in
          let n = b - a in
          let low : b ≤ length texts = within-empty texts b (omega (arith, less)) empty in
          let count : suc (n - 1) ≡ length (take n all) = omega (arith, length-take n all, length-drop a (kept_lines texts), length-kept texts, less, low) in
          let behind : drop n all ≡ lines_from texts b =
          let sum : a + n ≡ b = omega (arith, less) in drop-drop n a (kept_lines texts) ∙ ap (λ m. drop m (kept_lines texts)) sum in
          let more : (b == 0) ≡ false = ne_eqb b 0 (λ e. omega (arith, e, less)) in
          ap (λ ls. stanzas_in (a == 0) (longest_runs one_stanza ls)) (sym (take-append-drop n all))
          ∙ split_lines (a == 0) (take n all) (drop n all) (n - 1) count (between-empty texts a b less empty)
          ∙ ap (λ ls. stanzas_between texts a b ++ stanzas_in false (longest_runs one_stanza ls)) behind
          ∙ ap (λ t. stanzas_between texts a b ++ stanzas_in t (longest_runs one_stanza (lines_from texts b))) (sym more)
    ]
