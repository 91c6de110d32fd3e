-- Page ends by what they ask of rows (docs/RULES.md, "Pages").
use Rattle.std.specs.Prelude.{ℕ, zero, suc, ◌+◌, ◌&&◌, ◌||◌, ◌==◌, nat_lt, nat_le, Bool, if◌then◌else◌, List, [], ◌∷◌, fold, unwrap_or}
use Rattle.spec_pages.specs.Greatest.{greatest}

-- What pages ask of rows: how many rows a page from one row to before another has, and before which rows a page may end.
pub record Heights : Type 0 where
  pub height : ℕ → ℕ → ℕ
  pub legal : ℕ → Bool

-- The page from row p to before row q isn't empty and isn't too high, where a page has at most so many rows.
abbrev pub fits : ℕ → Heights → ℕ → ℕ → Bool
fits limit rows p q = nat_lt p q && nat_le (rows.height p q) limit

-- The page from row p may end before row q, where it has to end before row stop.
abbrev pub ends : ℕ → Heights → ℕ → ℕ → ℕ → Bool
ends limit rows p stop q = fits limit rows p q && (rows.legal q || (q == stop))

-- The end of the page from row p: the greatest place up to the stop where it may end, else the greatest where it fits.
abbrev pub end_of : ℕ → Heights → ℕ → ℕ → ℕ
end_of limit rows p stop = unwrap_or (greatest (ends limit rows p stop) (stop + 1)) (unwrap_or (greatest (fits limit rows p) (stop + 1)) (p + 1))

-- The lesser of a place and a stop, where the stop is above row p.
abbrev pub sooner : ℕ → ℕ → ℕ → ℕ
sooner p least stop = if nat_lt p stop && nat_lt stop least then stop else least

-- The first stop above row p, or the end of the rows. Stops may stand in any order.
abbrev pub next_stop : ℕ → List ℕ → ℕ → ℕ
next_stop count stops p = fold (sooner p) count stops

-- The row after the page from row p.
abbrev pub next_of : ℕ → Heights → ℕ → List ℕ → ℕ → ℕ
next_of limit rows count stops p = end_of limit rows p (next_stop count stops p)

-- The page starts from row p on, of at most so many pages.
abbrev pub starts_behind : ℕ → Heights → ℕ → List ℕ → ℕ → ℕ → List ℕ
starts_behind limit rows count stops zero p = []
starts_behind limit rows count stops (suc pages) p =
    if nat_lt p count then p ∷ starts_behind limit rows count stops pages (next_of limit rows count stops p) else []

-- The first row of each page. There are no more pages than rows.
abbrev pub starts_of : ℕ → Heights → ℕ → List ℕ → List ℕ
starts_of limit rows count stops = starts_behind limit rows count stops count 0
