-- Runs of segments: each is one segment with rows or some without, and no two without stand side by side.
use Rattle.std.proofs.Common.{◌≡◌, ℕ, zero, suc, ◌<◌, ◌⊎◌, ◌&&◌, Bool, true, false, cond, List, [], ◌∷◌, length, get_or, inl, inr, ⊎_elim, refl, ap₂, sym, ◌∙◌, arith}
use Rattle.std.specs.Prelude.{All}
use Rattle.std.specs.List.{list_all}
use Rattle.std.proofs.lemmas.Bool.{cases_Bool, and_parts}
use Rattle.std.proofs.lemmas.List.Elements.{All-nil, All-cons, All-tail}
use Rattle.spec_labels.specs.PageRecords.{SegmentOf, is_empty, onto_run, runs_of}

-- One segment, or segments without rows.
pub record IsRun (run : List SegmentOf) : Type 0 where
  pub some : 0 < length run
  pub kind : (list_all is_empty run ≡ true) ⊎ (length run ≡ 1)

-- No two neighbours are both without rows.
pub record AreApart (runs : List (List SegmentOf)) : Type 0 where
  pub apart : (k : ℕ) (d : List SegmentOf) → suc k < length runs → list_all is_empty (get_or runs k d) ≡ true → list_all is_empty (get_or runs (suc k) d) ≡ false

onto_run-IsRun : (segment : SegmentOf) (runs : List (List SegmentOf)) → All IsRun runs → All IsRun (onto_run segment runs)
onto_run-IsRun segment [] all = All-cons IsRun (segment ∷ []) [] (record { some = omega arith; kind = inr refl }) (All-nil IsRun)
onto_run-IsRun segment (run ∷ runs) all = by (is_empty segment && list_all is_empty run) refl
  where
    by : (b : Bool) → (is_empty segment && list_all is_empty run) ≡ b → All IsRun (cond b ((segment ∷ run) ∷ runs) ((segment ∷ []) ∷ run ∷ runs))
    by true is = All-cons IsRun (segment ∷ run) runs (record { some = omega arith; kind = inl is }) (All-tail IsRun run runs all)
    by false is = All-cons IsRun (segment ∷ []) (run ∷ runs) (record { some = omega arith; kind = inr refl }) all

onto_run-AreApart : (segment : SegmentOf) (runs : List (List SegmentOf)) → AreApart runs → AreApart (onto_run segment runs)
onto_run-AreApart segment [] are = record { apart = λ k d within. absurd (omega (arith, within)) }
onto_run-AreApart segment (run ∷ runs) are = by (is_empty segment && list_all is_empty run) refl
  where
    joined : list_all is_empty run ≡ true → (k : ℕ) (d : List SegmentOf) → suc k < length ((segment ∷ run) ∷ runs) → list_all is_empty (get_or ((segment ∷ run) ∷ runs) k d) ≡ true
        → list_all is_empty (get_or ((segment ∷ run) ∷ runs) (suc k) d) ≡ false
    joined empty zero d within first = are.apart zero d within empty
    joined empty (suc k) d within first = are.apart (suc k) d within first

    apart : (is_empty segment && list_all is_empty run) ≡ false → (k : ℕ) (d : List SegmentOf) → suc k < length ((segment ∷ []) ∷ run ∷ runs)
        → list_all is_empty (get_or ((segment ∷ []) ∷ run ∷ runs) k d) ≡ true → list_all is_empty (get_or ((segment ∷ []) ∷ run ∷ runs) (suc k) d) ≡ false
    apart is zero d within first =
        let empty : is_empty segment ≡ true = (and_parts (is_empty segment) true first).0 in
        ⊎_elim
        (λ both. let no_more : true ≡ false = sym (ap₂ (λ a b. a && b) empty both) ∙ is in cc)
        (λ not_both. not_both)
        (cases_Bool (list_all is_empty run))
    apart is (suc k) d within first = are.apart k d (omega (arith, within)) first

    by : (b : Bool) → (is_empty segment && list_all is_empty run) ≡ b → AreApart (cond b ((segment ∷ run) ∷ runs) ((segment ∷ []) ∷ run ∷ runs))
    by true is = record { apart = joined (and_parts (is_empty segment) (list_all is_empty run) is).1 }
    by false is = record { apart = apart is }

-- So the runs are the longest ones.
pub runs_of-IsRun : (all : List SegmentOf) → All IsRun (runs_of all)
runs_of-IsRun [] = All-nil IsRun
runs_of-IsRun (segment ∷ later) = onto_run-IsRun segment (runs_of later) (runs_of-IsRun later)

pub runs_of-AreApart : (all : List SegmentOf) → AreApart (runs_of all)
runs_of-AreApart [] = record { apart = λ k d within. absurd (omega (arith, within)) }
runs_of-AreApart (segment ∷ later) = onto_run-AreApart segment (runs_of later) (runs_of-AreApart later)
