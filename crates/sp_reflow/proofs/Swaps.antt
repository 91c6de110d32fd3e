-- An exchange that moves no later start.
use Rattle.std.proofs.Common.{◌≡◌, ℕ, suc, ◌+◌, List, [], ◌∷◌, ◌++◌, take, drop, map, All, refl, sym, ap, ap₂, ◌∙◌, drop-drop, take-append-drop, arith}
use Rattle.sp_reflow.specs.Starts.{exchanged, CanExchange}
use Rattle.sp_gap.specs.Moves.{shifted, CanShift}

-- Starts that get as much off as on stay.
pub map-still : (less more : ℕ) (xs : List ℕ) → less ≡ more → All (CanShift less more) xs → map (shifted less more) xs ≡ xs
map-still less more [] same can = refl
map-still less more (x ∷ xs) same can =
    let first = can 0 0 (omega arith) in
    let still : shifted less more x ≡ x = omega (arith, first.from) in
    ap₂ (λ y ys. y ∷ ys) still (map-still less more xs same (λ k d inside. can (suc k) d (omega arith)))

pub map-none : (xs : List ℕ) → map (shifted 0 0) xs ≡ xs
map-none [] = refl
map-none (x ∷ xs) = ap₂ (λ y ys. y ∷ ys) (let still : shifted 0 0 x ≡ x = omega arith in still) (map-none xs)

-- So the later ones stay where they stand.
exchanged-still : (starts items : List ℕ) (place stands less more : ℕ) → CanExchange starts place stands less more → less ≡ more
    → exchanged starts place stands items less more ≡ take place starts ++ (items ++ drop (place + stands) starts)
exchanged-still starts items place stands less more can same =
    ap (λ ys. take place starts ++ (items ++ ys)) (map-still less more (drop (place + stands) starts) same can.later)

-- And where the same ones stand in the place of those that come in, all stay.
pub exchanged-same : (starts items : List ℕ) (place stands less more : ℕ) → CanExchange starts place stands less more → less ≡ more → items ≡ take stands (drop place starts)
    → exchanged starts place stands items less more ≡ starts
exchanged-same starts items place stands less more can same is =
    exchanged-still starts items place stands less more can same
    ∙ ap₂ (λ ones others. take place starts ++ (ones ++ others)) is (sym (drop-drop stands place starts))
    ∙ ap (λ behind. take place starts ++ behind) (take-append-drop stands (drop place starts))
    ∙ take-append-drop place starts
