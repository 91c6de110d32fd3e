-- Runs of segments: where a list may be cut, and what stands round a run.
use Rattle.std.proofs.Common.{◌≡◌, ◌⊎◌, inl, inr, suc, Bool, true, false, ◌&&◌, cond, List, [], ◌∷◌, ◌++◌, refl, ap, sym, subst, ◌∙◌, arith}
use Rattle.std.specs.Prelude.{All}
use Rattle.std.specs.List.{list_all}
use Rattle.std.proofs.lemmas.Bool.{cases_Bool, and_parts}
use Rattle.spec_labels.specs.PageRecords.{SegmentOf, is_empty, onto_run, runs_of}
use Rattle.spec_labels.proofs.SheetLaws.{in_runs}
use Rattle.spec_labels.proofs.RunLaws.{IsRun, AreApart}
use Rattle.spec_packet.specs.SheetLists.{IsIn}

-- A segment with rows.
abbrev pub Full : SegmentOf → Type 0
Full segment = is_empty segment ≡ false

-- The last of a list, where there is one, and the first.
abbrev pub LastIs : {X : Type 0} → (X → Type 0) → List X → Type 0
LastIs P [] = Unit {0}
LastIs P (x ∷ []) = P x
LastIs P (x ∷ y ∷ ys) = LastIs P (y ∷ ys)

abbrev pub FirstIs : {X : Type 0} → (X → Type 0) → List X → Type 0
FirstIs P [] = Unit {0}
FirstIs P (x ∷ xs) = P x

pub last-append : {X : Type 0} (P : X → Type 0) (xs : List X) (y : X) (ys : List X) → LastIs P (y ∷ ys) → LastIs P (xs ++ (y ∷ ys))
last-append P [] y ys last = last
last-append P (x ∷ []) y ys last = last
last-append P (x ∷ z ∷ xs) y ys last = last-append P (z ∷ xs) y ys last

-- The runs of a list that isn't empty begin with a run of its first segment.
record BeginsWith (segment : SegmentOf) (runs : List (List SegmentOf)) : Type 0 where
  others : List SegmentOf
  later : List (List SegmentOf)
  is : runs ≡ (segment ∷ others) ∷ later

begins : (segment : SegmentOf) (runs : List (List SegmentOf)) → BeginsWith segment (onto_run segment runs)
begins segment [] = record { others = []; later = []; is = refl }
begins segment (run ∷ runs) = by (is_empty segment && list_all is_empty run)
  where
    by : (b : Bool) → BeginsWith segment (cond b ((segment ∷ run) ∷ runs) ((segment ∷ []) ∷ run ∷ runs))
    by true = record { others = run; later = runs; is = refl }
    by false = record { others = []; later = run ∷ runs; is = refl }

onto-append : (segment : SegmentOf) (run : List SegmentOf) (runs later : List (List SegmentOf)) → onto_run segment ((run ∷ runs) ++ later) ≡ onto_run segment (run ∷ runs) ++ later
onto-append segment run runs later = by (is_empty segment && list_all is_empty run)
  where
    by : (b : Bool) → cond b ((segment ∷ run) ∷ (runs ++ later)) ((segment ∷ []) ∷ run ∷ (runs ++ later)) ≡ cond b ((segment ∷ run) ∷ runs) ((segment ∷ []) ∷ run ∷ runs) ++ later
    by true = refl
    by false = refl

-- The last segment of one list and the first of the next don't both lack rows.
abbrev pub CutHere : List SegmentOf → List SegmentOf → Type 0
CutHere xs ys = LastIs Full xs ⊎ FirstIs Full ys

onto-apart : (segment other : SegmentOf) (others : List SegmentOf) (later : List (List SegmentOf)) → CutHere (segment ∷ []) (other ∷ []) → onto_run segment ((other ∷ others) ∷ later) ≡ (segment ∷ []) ∷ (other ∷ others) ∷ later
onto-apart segment other others later cut =
    ap (λ b. cond b ((segment ∷ other ∷ others) ∷ later) ((segment ∷ []) ∷ (other ∷ others) ∷ later))
    (elim cut [
      | inl full ↦ ap (λ b. b && (is_empty other && list_all is_empty others)) full
      | inr full ↦ ap (λ b. is_empty segment && (b && list_all is_empty others)) full ∙ none (is_empty segment)
    ])
  where
    none : (b : Bool) → (b && false) ≡ false
    none true = refl
    none false = refl

pub runs_of-cut : (xs ys : List SegmentOf) → CutHere xs ys → runs_of (xs ++ ys) ≡ runs_of xs ++ runs_of ys
runs_of-cut [] ys cut = refl
runs_of-cut (x ∷ []) [] cut = refl
runs_of-cut (x ∷ []) (y ∷ ys) cut =
    let b = begins y (runs_of ys) in
    ap (onto_run x) b.is ∙ onto-apart x y b.others b.later cut ∙ ap (λ (runs : List (List SegmentOf)). (x ∷ []) ∷ runs) (sym b.is)
runs_of-cut (x ∷ z ∷ xs) ys cut =
    let b = begins z (runs_of xs) in
    ap (onto_run x) (runs_of-cut (z ∷ xs) ys cut ∙ ap (λ (runs : List (List SegmentOf)). runs ++ runs_of ys) b.is)
    ∙ onto-append x (z ∷ b.others) b.later (runs_of ys)
    ∙ ap (λ (runs : List (List SegmentOf)). onto_run x runs ++ runs_of ys) (sym b.is)

-- Segments without rows are one run.
pub runs_of-empty : (segment : SegmentOf) (others : List SegmentOf) → list_all is_empty (segment ∷ others) ≡ true → runs_of (segment ∷ others) ≡ (segment ∷ others) ∷ []
runs_of-empty segment [] empty = refl
runs_of-empty segment (other ∷ others) empty =
    let later : list_all is_empty (other ∷ others) ≡ true = (and_parts (is_empty segment) (list_all is_empty (other ∷ others)) empty).1 in
    ap (onto_run segment) (runs_of-empty other others later)
    ∙ ap (λ b. cond b ((segment ∷ other ∷ others) ∷ []) ((segment ∷ []) ∷ (other ∷ others) ∷ [])) empty

-- A run in the middle is one of the runs.
pub runs_of-middle : (xs run zs : List SegmentOf) → runs_of run ≡ run ∷ [] → CutHere xs (run ++ zs) → CutHere run zs → runs_of (xs ++ (run ++ zs)) ≡ runs_of xs ++ (run ∷ runs_of zs)
runs_of-middle xs run zs one front back =
    runs_of-cut xs (run ++ zs) front
    ∙ ap (λ (runs : List (List SegmentOf)). runs_of xs ++ runs) (runs_of-cut run zs back ∙ ap (λ (runs : List (List SegmentOf)). runs ++ runs_of zs) one)

-- A run with rows is one segment.
pub record IsAlone (run : List SegmentOf) : Type 0 where
  pub segment : SegmentOf
  pub is : run ≡ segment ∷ []
  pub full : Full segment

pub alone : (run : List SegmentOf) → IsRun run → list_all is_empty run ≡ false → IsAlone run
alone [] is full = absurd (let bad : true ≡ false = full in let no_way : ⊥ = cc in no_way)
alone (segment ∷ []) is full = record { segment = segment; is = refl; full = (un-and (is_empty segment)) full }
  where
    un-and : (b : Bool) → (b && true) ≡ false → b ≡ false
    un-and true h = h
    un-and false h = h
alone (segment ∷ other ∷ others) is full = absurd (elim is.kind [
  | inl empty ↦ let bad : true ≡ false = sym empty ∙ full in let no_way : ⊥ = cc in no_way
  | inr one ↦ omega (arith, one)
])

-- The first segment of a run tells whether it has rows.
pub run-empty : (segment : SegmentOf) (others : List SegmentOf) → IsRun (segment ∷ others) → is_empty segment ≡ true → list_all is_empty (segment ∷ others) ≡ true
run-empty segment [] is empty = ap (λ b. b && true) empty
run-empty segment (other ∷ others) is empty = elim is.kind [ inl all ↦ all | inr one ↦ absurd (omega (arith, one)) ]

pub run-full : (segment : SegmentOf) (others : List SegmentOf) → IsRun (segment ∷ others) → is_empty segment ≡ false → others ≡ []
run-full segment [] is full = refl
run-full segment (other ∷ others) is full = absurd (elim is.kind [
  | inl all ↦ let bad : true ≡ false = sym (and_parts (is_empty segment) (list_all is_empty (other ∷ others)) all).0 ∙ full in let no_way : ⊥ = cc in no_way
  | inr one ↦ omega (arith, one)
])

-- What holds of each by its index holds of what is in the list.
pub all-in : {X : Type 0} (P : X → Type 0) (x : X) (xs : List X) → All P xs → IsIn x xs → P x
all-in P x [] all is = absurd is
all-in P x (y ∷ ys) all is = elim is [
  | inl same ↦ subst P same (all 0 y (omega arith))
  | inr later ↦ all-in P x ys (λ k d within. all (suc k) d (omega (arith, within))) later
]

apart-tail : (run : List SegmentOf) (runs : List (List SegmentOf)) → AreApart (run ∷ runs) → AreApart runs
apart-tail run runs are = record { apart = λ k d within empty. are.apart (suc k) d (omega (arith, within)) empty }

-- Round an empty run stand segments with rows.
pub front-full : (front : List (List SegmentOf)) (run : List SegmentOf) (back : List (List SegmentOf)) → AreApart (front ++ (run ∷ back)) → ((one : List SegmentOf) → IsIn one front → IsRun one)
    → list_all is_empty run ≡ true → LastIs Full (in_runs front)
front-full [] run back apart runs empty = tt
front-full (one ∷ []) run back apart runs empty =
    let full : list_all is_empty one ≡ false = elim (cases_Bool (list_all is_empty one)) [
      | inl all ↦ absurd (let bad : true ≡ false = sym empty ∙ apart.apart 0 [] (omega arith) all in let no_way : ⊥ = cc in no_way)
      | inr full ↦ full
    ] in
    let a = alone one (runs one (inl refl)) full in
    subst (λ (r : List SegmentOf). LastIs Full (r ++ [])) (sym a.is) a.full
front-full (one ∷ next ∷ front) run back apart runs empty =
    let later = front-full (next ∷ front) run back (apart-tail one ((next ∷ front) ++ (run ∷ back)) apart) (λ r is. runs r (inr is)) empty in
    behind next (runs next (inr (inl refl))) later
  where
    behind : (next : List SegmentOf) → IsRun next → LastIs Full (next ++ in_runs front) → LastIs Full (one ++ (next ++ in_runs front))
    behind [] is later = absurd (let some = is.some in omega (arith, some))
    behind (s ∷ ss) is later = last-append Full one s (ss ++ in_runs front) later

pub back-full : (front : List (List SegmentOf)) (run : List SegmentOf) (back : List (List SegmentOf)) → AreApart (front ++ (run ∷ back)) → ((one : List SegmentOf) → IsIn one back → IsRun one)
    → list_all is_empty run ≡ true → FirstIs Full (in_runs back)
back-full [] run [] apart runs empty = tt
back-full [] run (one ∷ back) apart runs empty =
    let a = alone one (runs one (inl refl)) (apart.apart 0 [] (omega arith) empty) in
    subst (λ (r : List SegmentOf). FirstIs Full (r ++ in_runs back)) (sym a.is) a.full
back-full (one ∷ front) run back apart runs empty = back-full front run back (apart-tail one (front ++ (run ∷ back)) apart) runs empty
