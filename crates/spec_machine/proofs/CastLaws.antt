-- How the cast grows by one name.
use Rattle.std.proofs.Common.{◌≡◌, ℕ, ◌+◌, Bool, true, false, not, List, [], ◌∷◌, ◌++◌, length, count_by, filter, refl, ap, ap₂, sym, subst, ◌∙◌, arith, add-zero, zero-add, append-nil, append_assoc, sum_by, if◌then◌else◌}
use Rattle.std.specs.Str.{bytes_eq}
use Rattle.std.proofs.lemmas.Slice.Eq.{bytes_eq-Decides}
use Rattle.std.proofs.lemmas.Bool.{false_from_ne_true}
use Rattle.std.proofs.lemmas.List.Sums.{sum_by-append, sum_by-cons}
use Rattle.spec_machine.specs.Outline.{CastLineOf, cast_of}

-- One more speech of a name: its count grows, or it comes last with a count of 1.
abbrev pub count_one : List CastLineOf → List ℕ → List CastLineOf
count_one [] name = record { name = name; speeches = 1 } ∷ []
count_one (line ∷ lines) name =
    if bytes_eq name line.name then record { name = line.name; speeches = line.speeches + 1 } ∷ lines else line ∷ count_one lines name

is_other : List ℕ → CastLineOf → Bool
is_other name line = not (bytes_eq name line.name)

same : (one other : List ℕ) → bytes_eq one other ≡ true → one ≡ other
same one other e = (bytes_eq-Decides one other).0 e

itself : (name : List ℕ) → bytes_eq name name ≡ true
itself name = (bytes_eq-Decides name name).1 refl

apart : (one other : List ℕ) → bytes_eq one other ≡ false → bytes_eq other one ≡ false
apart one other e =
    false_from_ne_true (bytes_eq other one) (λ t. let back = same other one t in let yes = subst (λ name. bytes_eq name other ≡ true) back (itself other) in let no : true ≡ false = sym yes ∙ e in cc)

-- Among the others of a name its speeches make no difference.
filter-count_one-same : (name : List ℕ) (lines : List CastLineOf) → filter (is_other name) (count_one lines name) ≡ filter (is_other name) lines
unfolding is_other
filter-count_one-same name [] = ap (λ b. if not b then record { name = name; speeches = 1 } ∷ [] else []) (itself name)
filter-count_one-same name (line ∷ lines) = by (bytes_eq name line.name) refl (filter-count_one-same name lines)
  where
    by : (b : Bool) → bytes_eq name line.name ≡ b → filter (is_other name) (count_one lines name) ≡ filter (is_other name) lines
        → filter (is_other name) (if b then record { name = line.name; speeches = line.speeches + 1 } ∷ lines else line ∷ count_one lines name) ≡ filter (is_other name) (line ∷ lines)
    by true is later = rw is refl
    by false is later = ap (λ rest. if not (bytes_eq name line.name) then line ∷ rest else rest) later

-- Another name's speech counts among the others of a name.
filter-count_one-other : (name other : List ℕ) (lines : List CastLineOf) → bytes_eq name other ≡ false
    → filter (is_other name) (count_one lines other) ≡ count_one (filter (is_other name) lines) other
unfolding is_other
filter-count_one-other name other [] differs = ap (λ b. if not b then record { name = other; speeches = 1 } ∷ [] else []) differs
filter-count_one-other name other (line ∷ lines) differs =
    by (bytes_eq other line.name) (bytes_eq name line.name) refl refl (filter-count_one-other name other lines differs)
  where
    by : (mine gone : Bool) → bytes_eq other line.name ≡ mine → bytes_eq name line.name ≡ gone
        → filter (is_other name) (count_one lines other) ≡ count_one (filter (is_other name) lines) other
        → filter (is_other name) (if mine then record { name = line.name; speeches = line.speeches + 1 } ∷ lines else line ∷ count_one lines other)
        ≡ count_one (if not gone then line ∷ filter (is_other name) lines else filter (is_other name) lines) other
    by true true is there later =
        let no : true ≡ false = sym there ∙ (ap (bytes_eq name) (sym (same other line.name is)) ∙ differs) in cc
    by true false is there later = rw (there, is)
    by false true is there later = rw there later
    by false false is there later = rw (there, is) (ap (λ rest. line ∷ rest) later)

one_more : Bool → ℕ
one_more b = if b then 1 else 0

count_by-push : (test : List ℕ → Bool) (names : List (List ℕ)) (name : List ℕ) (b : Bool) → test name ≡ b
    → count_by test (names ++ name ∷ []) ≡ count_by test names + one_more b
unfolding one_more
count_by-push test names name b is =
    sum_by-append (λ one. if test one then 1 else 0) names (name ∷ []) ∙ ap (λ n. count_by test names + n) (zero-add (if test name then 1 else 0) ∙ ap one_more is)

-- The cast after one more speech.
pub cast_of-push : (names : List (List ℕ)) (name : List ℕ) → cast_of (names ++ name ∷ []) ≡ count_one (cast_of names) name
unfolding is_other one_more
cast_of-push [] name = ap (λ b. record { name = name; speeches = 0 + (if b then 1 else 0) } ∷ []) (itself name)
cast_of-push (first ∷ names) name = by (bytes_eq name first) refl (cast_of-push names name)
  where
    by : (b : Bool) → bytes_eq name first ≡ b → cast_of (names ++ name ∷ []) ≡ count_one (cast_of names) name
        → cast_of (first ∷ (names ++ name ∷ []))
        ≡ (if b then record { name = first; speeches = count_by (bytes_eq first) (first ∷ names) + 1 } ∷ filter (is_other first) (cast_of names)
        else record { name = first; speeches = count_by (bytes_eq first) (first ∷ names) } ∷ count_one (filter (is_other first) (cast_of names)) name)
    by true is later =
        let back = same name first is in
        let counted = count_by-push (bytes_eq first) (first ∷ names) name true (ap (bytes_eq first) back ∙ itself first) in
        ap₂ (λ n lines. record { name = first; speeches = n } ∷ lines) counted
        (ap (filter (is_other first)) later ∙ (ap (λ one. filter (is_other first) (count_one (cast_of names) one)) back ∙ filter-count_one-same first (cast_of names)))
    by false is later =
        let counted = count_by-push (bytes_eq first) (first ∷ names) name false (apart name first is) in
        ap₂ (λ n lines. record { name = first; speeches = n } ∷ lines) (counted ∙ add-zero (count_by (bytes_eq first) (first ∷ names)))
        (ap (filter (is_other first)) later ∙ filter-count_one-other first name (cast_of names) (apart name first is))

-- ---- each speech is counted once

-- The speeches of all lines.
abbrev pub total : List CastLineOf → ℕ
total lines = sum_by (λ (line : CastLineOf). line.speeches) lines

total-cons : (line : CastLineOf) (lines : List CastLineOf) → total (line ∷ lines) ≡ line.speeches + total lines
total-cons line lines = sum_by-cons (λ (one : CastLineOf). one.speeches) line lines

total-count_one : (lines : List CastLineOf) (name : List ℕ) → total (count_one lines name) ≡ total lines + 1
total-count_one [] name = refl
total-count_one (line ∷ lines) name = by (bytes_eq name line.name) (total-count_one lines name)
  where
    by : (b : Bool) → total (count_one lines name) ≡ total lines + 1
        → total (if b then record { name = line.name; speeches = line.speeches + 1 } ∷ lines else line ∷ count_one lines name) ≡ total (line ∷ lines) + 1
    by true later =
        let one = total-cons (record { name = line.name; speeches = line.speeches + 1 }) lines in
        let all = total-cons line lines in
        omega (arith, one, all)
    by false later =
        let one = total-cons line (count_one lines name) in
        let all = total-cons line lines in
        omega (arith, one, all, later)

total-onto : (done names : List (List ℕ)) → total (cast_of (done ++ names)) ≡ total (cast_of done) + length names
total-onto done [] = ap (λ names. total (cast_of names)) (append-nil done) ∙ sym (add-zero (total (cast_of done)))
total-onto done (name ∷ names) =
    let one = ap (λ all. total (cast_of all)) (sym (append_assoc done (name ∷ []) names)) ∙ total-onto (done ++ name ∷ []) names in
    let two = ap total (cast_of-push done name) ∙ total-count_one (cast_of done) name in
    omega (arith, one, two)

-- The numbers of the cast add up to the number of speeches.
pub total-cast_of : (names : List (List ℕ)) → total (cast_of names) ≡ length names
total-cast_of names = total-onto [] names ∙ zero-add (length names)
