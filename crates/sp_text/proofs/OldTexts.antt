-- Elements of a list of which a stretch made way for others.
use Rattle.std.proofs.Common.{◌≡◌, ℕ, ◌+◌, ◌<◌, ◌≤◌, List, ◌++◌, [], length, take, drop, get_or, ap, ◌∙◌, arith}
use Rattle.std.proofs.Math.ListN.{get_or-append}
use Rattle.std.proofs.lemmas.List.{get_or-append-add, get_or-drop, get_or-take, length-map, length-take}
use Rattle.spec_text.specs.Lines.{LineState, line_texts}
use Rattle.spec_text.specs.Edits.{exchanged}
use Rattle.spec_text.proofs.ExchangeLaws.{map-exchanged}

front-size : {X : Type 0} (xs : List X) (first : ℕ) → first ≤ length xs → length (take first xs) ≡ first
front-size xs first within = let e = length-take first xs in omega (arith, e, within)

pub exchanged-before : {X : Type 0} (xs : List X) (first old : ℕ) (new : List X) (k : ℕ) (d : X) → first ≤ length xs → k < first → get_or (exchanged xs first old new) k d ≡ get_or xs k d
exchanged-before xs first old new k d within less =
    let size = front-size xs first within in
    get_or-append (take first xs) (new ++ drop (first + old) xs) d k (omega (arith, size, less)) ∙ get_or-take first xs k d less

pub exchanged-behind : {X : Type 0} (xs : List X) (first old : ℕ) (new : List X) (k i : ℕ) (d : X) → first ≤ length xs → k ≡ first + (length new + i) → get_or (exchanged xs first old new) k d ≡ get_or xs (first + old + i) d
exchanged-behind xs first old new k i d within is =
    let size = front-size xs first within in
    let e : k ≡ length (take first xs) + (length new + i) = omega (arith, size, is) in
    ap (λ n. get_or (exchanged xs first old new) n d) e
    ∙ get_or-append-add (take first xs) (new ++ drop (first + old) xs) (length new + i) d
    ∙ get_or-append-add new (drop (first + old) xs) i d ∙ get_or-drop (first + old) xs i d

-- ---- texts of lines

texts-exchanged : (lines gone : List LineState) (first stands : ℕ) → line_texts (exchanged lines first stands gone) ≡ exchanged (line_texts lines) first stands (line_texts gone)
texts-exchanged lines gone first stands = map-exchanged (λ (line : LineState). line.text) lines first stands gone

many : (lines : List LineState) → length (line_texts lines) ≡ length lines
many lines = length-map lines (λ (line : LineState). line.text)

pub old-before : (lines gone : List LineState) (first stands place : ℕ) → first ≤ length lines → place < first → get_or (line_texts (exchanged lines first stands gone)) place [] ≡ get_or (line_texts lines) place []
old-before lines gone first stands place within less =
    let size = many lines in
    ap (λ (texts : List (List ℕ)). get_or texts place []) (texts-exchanged lines gone first stands) ∙ exchanged-before (line_texts lines) first stands (line_texts gone) place [] (omega (arith, within, size)) less

pub old-behind : (lines gone : List LineState) (first stands place i : ℕ) → first ≤ length lines → place ≡ first + (length gone + i) → get_or (line_texts (exchanged lines first stands gone)) place [] ≡ get_or (line_texts lines) (first + stands + i) []
old-behind lines gone first stands place i within is =
    let size = many lines in
    let count = many gone in
    ap (λ (texts : List (List ℕ)). get_or texts place []) (texts-exchanged lines gone first stands) ∙ exchanged-behind (line_texts lines) first stands (line_texts gone) place i [] (omega (arith, within, size)) (omega (arith, is, count))
