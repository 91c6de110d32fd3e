-- What is put back and taken out again is as it was.
use Rattle.std.proofs.Common.{◌≡◌, ℕ, ◌+◌, ◌-◌, List, ◌++◌, length, map, take, drop, refl, ap, ap₂, ◌∙◌, arith, length-take-le, length-drop, drop_at, take_at}
use Rattle.std.specs.Prelude.{slice_range}
use Rattle.sp_reflow.specs.Starts.{Taken}
use Rattle.sp_gap.specs.Moves.{shifted}
use Rattle.sp_reflow.specs.Updates.{with_taken, CanPutBack, TakenStarts, taken_of, taken_back}

abbrev made : ℕ → ℕ → List ℕ → ℕ → ℕ → TakenStarts
made place stands starts less more = record { place = place; stands = stands; starts = starts; less = less; more = more }

-- Putting back what putting back took out takes out the same again.
pub turned-twice : (starts : List ℕ) (back other third : Taken) → CanPutBack starts back → taken_of other ≡ taken_back starts back
    → taken_of third ≡ taken_back (with_taken starts back) other → taken_of third ≡ taken_of back
turned-twice starts back other third can one two =
    let inside = can.inside in
    let place = ap (λ (t : TakenStarts). t.place) one in
    let stands = ap (λ (t : TakenStarts). t.stands) one in
    let items = ap (λ (t : TakenStarts). t.starts) one in
    let less = ap (λ (t : TakenStarts). t.less) one in
    let more = ap (λ (t : TakenStarts). t.more) one in
    let rest = map (shifted back.less back.more) (drop (back.place + back.stands) starts) in
    let front : length (take back.place starts) ≡ back.place = length-take-le back.place starts (omega (arith, inside)) in
    let count : length (slice_range starts back.place (back.place + back.stands)) ≡ back.stands =
    (let e : back.place + back.stands - back.place ≡ back.stands = omega arith in
    ap (λ n. length (take n (drop back.place starts))) e ∙ length-take-le back.stands (drop back.place starts) (let d = length-drop back.place starts in omega (arith, d, inside))) in
    let again : slice_range (with_taken starts back) back.place (back.place + length back.starts) ≡ back.starts =
    (let e : back.place + length back.starts - back.place ≡ length back.starts = omega arith in
    ap₂ (λ n (l : List ℕ). take n l) e (drop_at (take back.place starts) (back.starts ++ rest) back.place front) ∙ take_at back.starts rest (length back.starts) refl) in
    two
    ∙ ap₂ (λ (p s : ℕ). made p (length other.starts) (slice_range (with_taken starts back) p (p + s)) other.more other.less) place stands
    ∙ ap₂ (λ (n : ℕ) (l : List ℕ). made back.place n l other.more other.less) (ap length items ∙ count) again
    ∙ ap₂ (λ (l m : ℕ). made back.place back.stands back.starts l m) more less
