-- What an exchange of rows leaves of the page starts.
use Rattle.std.proofs.Common.{◌≡◌, ℕ, ◌+◌, ◌-◌, ◌<◌, ◌≤◌, List, length, take, drop, Contains, sym, ap, ap₂, ◌∙◌, subst, arith, take-take, drop-drop, length-drop}
use Rattle.std.proofs.lemmas.List.{drop-take}
use Rattle.spec_pages.specs.declared.Shape.{Shape}
use Rattle.spec_pages.specs.Pages.{page_end, stop_above, next_page}
use Rattle.spec_pages.proofs.PageLaws.{next_page-above, page_end-IsPageEnd, stop_above-above}
use Rattle.spec_edit.specs.PageWindows.{Exchange, moved, AreExchanged}
use Rattle.spec_edit.proofs.NearRows.{near, near_stop, page_end-near}
use Rattle.spec_edit.proofs.NearStops.{stop_above-is, near_stop-le}

pub length-exchanged : (edit : Exchange) (a : List Shape) (s : List ℕ) (b : List Shape) (t : List ℕ) → AreExchanged edit a s b t → length b + edit.old ≡ length a + edit.new
length-exchanged edit a s b t are =
    let e : length b - (edit.first + edit.new) ≡ length a - (edit.first + edit.old) =
    sym (length-drop (edit.first + edit.new) b) ∙ ap length are.rows_behind ∙ length-drop (edit.first + edit.old) a
    in
    omega (arith, e, are.inside, are.old_inside)

-- Two places with the same rows and stops near them have the same page.
next_same : (limit : ℕ) → 3 ≤ limit → (a : List Shape) (s : List ℕ) (p : ℕ) (b : List Shape) (t : List ℕ) (q : ℕ) → p < length a → q < length b → near limit b q ≡ near limit a p
    → near_stop limit q (stop_above b t q) ≡ near_stop limit p (stop_above a s p) → p < stop_above a s p → q < stop_above b t q → next_page limit b t q + p ≡ next_page limit a s p + q
next_same limit room a s p b t q inside other_inside rows stops above other_above =
    let one = page_end-near limit room a p (stop_above a s p) above in
    let two = page_end-near limit room b q (stop_above b t q) other_above in
    let same : page_end limit (near limit b q) 0 (near_stop limit q (stop_above b t q)) ≡ page_end limit (near limit a p) 0 (near_stop limit p (stop_above a s p)) =
    ap₂ (λ xs m. page_end limit xs 0 m) rows stops
    in
    omega (arith, one, two, same)

-- A page far enough before the exchanged rows ends where it ended.
pub next_page-early : (limit : ℕ) → 3 ≤ limit → (edit : Exchange) (a : List Shape) (s : List ℕ) (b : List Shape) (t : List ℕ) (p : ℕ) → AreExchanged edit a s b t → p + limit < edit.first
    → next_page limit b t p ≡ next_page limit a s p
next_page-early limit room edit a s b t p are early =
    let inside : p < length a = omega (arith, early, are.old_inside) in
    let other_inside : p < length b = omega (arith, early, are.inside) in
    let one = stop_above-is a s p are.old_stops_are inside in
    let two = stop_above-is b t p are.stops_are other_inside in
    let front : (xs : List Shape) → near limit xs p ≡ drop p (take (p + (limit + 1)) (take edit.first xs)) = λ xs.
    sym (drop-take p (limit + 1) xs) ∙ ap (drop p) (sym (take-take (p + (limit + 1)) edit.first xs (omega (arith, early))))
    in
    let rows : near limit b p ≡ near limit a p = front b ∙ ap (λ xs. drop p (take (p + (limit + 1)) xs)) are.rows_before ∙ sym (front a) in
    let less = near_stop-le limit (length a) (length b) p p (stop_above a s p) (stop_above b t p) s t one two
    (λ i some le within found. (are.stops_before (p + i) (omega (arith, early, le))).1 found) (λ end. absurd (omega (arith, end, early, are.old_inside)))
    in
    let more = near_stop-le limit (length b) (length a) p p (stop_above b t p) (stop_above a s p) t s two one
    (λ i some le within found. (are.stops_before (p + i) (omega (arith, early, le))).0 found) (λ end. absurd (omega (arith, end, early, are.inside)))
    in
    omega (arith, next_same limit room a s p b t p inside other_inside rows (omega (arith, less, more)) one.above two.above)

-- A page behind the exchanged rows moves with them.
pub next_page-moved : (limit : ℕ) → 3 ≤ limit → (edit : Exchange) (a : List Shape) (s : List ℕ) (b : List Shape) (t : List ℕ) (p : ℕ) → AreExchanged edit a s b t → edit.first + edit.old ≤ p → p < length a
    → next_page limit b t (moved edit p) ≡ moved edit (next_page limit a s p)
next_page-moved limit room edit a s b t p are behind inside =
    let q : ℕ = moved edit p in
    let lengths = length-exchanged edit a s b t are in
    let other_inside : q < length b = omega (arith, lengths, inside, behind) in
    let one = stop_above-is a s p are.old_stops_are inside in
    let two = stop_above-is b t q are.stops_are other_inside in
    let k : ℕ = p - (edit.first + edit.old) in
    let old_place : edit.first + edit.old + k ≡ p = omega (arith, behind) in
    let new_place : edit.first + edit.new + k ≡ q = omega (arith, behind) in
    let rest : drop q b ≡ drop p a =
    ap (λ n. drop n b) (sym new_place) ∙ sym (drop-drop k (edit.first + edit.new) b) ∙ ap (drop k) are.rows_behind ∙ drop-drop k (edit.first + edit.old) a ∙ ap (λ n. drop n a) old_place
    in
    let less = near_stop-le limit (length a) (length b) p q (stop_above a s p) (stop_above b t q) s t one two
    (λ i some le within found.
    let place : moved edit (p + i) ≡ q + i = omega (arith, behind) in
    subst (Contains t) place ((are.stops_behind (p + i) (omega (arith, behind)) within).1 found)) (λ end. omega (arith, lengths, behind))
    in
    let more = near_stop-le limit (length b) (length a) q p (stop_above b t q) (stop_above a s p) t s two one
    (λ i some le within found.
    let place : moved edit (p + i) ≡ q + i = omega (arith, behind) in
    (are.stops_behind (p + i) (omega (arith, behind)) (omega (arith, within, lengths, behind))).0 (subst (Contains t) (sym place) found)) (λ end. omega (arith, lengths, behind))
    in
    let same = next_same limit room a s p b t q inside other_inside (ap (take (limit + 1)) rest) (omega (arith, less, more)) one.above two.above in
    let next = next_page-above limit room a s p inside in
    omega (arith, same, behind, next)

-- A page has at most so many rows.
pub next_page-near : (limit : ℕ) → 3 ≤ limit → (shapes : List Shape) (stops : List ℕ) (p : ℕ) → p < length shapes → next_page limit shapes stops p ≤ p + limit
next_page-near limit room shapes stops p inside =
    let end = page_end-IsPageEnd limit room shapes p (stop_above shapes stops p) (stop_above-above shapes stops p inside) in
    let fits = end.fits in
    omega (arith, fits.low)
