-- A line of printable bytes has few rows: each but its last takes a space, or as many bytes as a row is wide.
use Rattle.std.proofs.Common.{◌≡◌, ℕ, zero, suc, ◌+◌, ◌-◌, ◌*◌, ◌<◌, ◌≤◌, ◌||◌, ◌==◌, Bool, true, false, cond, leb, ltb, Option, Some, None, List, [], ◌∷◌, length, take, drop, map, refl, sym, ap, ◌∙◌, subst, inl, inr, arith, length-take, length-drop, drop-drop, lit≤}
use Rattle.std.specs.Prelude.{All, sum_by, slice_range, unwrap_or, option_map}
use Rattle.std.specs.List.{list_all, list_any, flat_map}
use Rattle.std.proofs.lemmas.Bool.{and_parts, and_from, leb-false, le-leb, lt-ltb, cases_lt, true≢false}
use Rattle.std.proofs.lemmas.List.{length-map}
use Rattle.std.proofs.lemmas.List.Elements.{All-nil, All-cons, All-head, All-tail, All-append, All-drop, All-take}
use Rattle.std.proofs.lemmas.List.Sums.{sum_by-cons, sum_by-append, sum_by-take-drop}
use Rattle.spec_text.specs.Parts.{Parts}
use Rattle.spec_script.specs.declared.Run.{Run}
use Rattle.spec_script.specs.Runs.{span_of, RunParts}
use Rattle.spec_pages.specs.declared.Cluster.{Cluster}
use Rattle.spec_pages.specs.declared.Cut.{Cut}
use Rattle.spec_pages.specs.declared.Cut.TheVariants.{Rest, AtSpace, Inside}
use Rattle.spec_pages.specs.Clusters.{is_printable, byte_clusters, clusters_in, clusters_of}
use Rattle.spec_pages.specs.Greatest.{greatest}
use Rattle.spec_pages.specs.Wrapping.{total_width, has_word, fits, is_space_at, is_break, breaks, cuts, first_cut, trim_start, rest_after, rows_up_to, rows_of, row_of, wrapped}
use Rattle.spec_pages.proofs.GreatestLemmas.{greatest-some, greatest-none}
use Rattle.spec_pages.proofs.PrintableLaws.{clusters_at-printable}

-- ---- what clusters weigh

abbrev pub weight_if : Bool → ℕ
weight_if space = cond space 25 1

abbrev weight : Cluster → ℕ
weight c = weight_if c.space

abbrev weights : List Cluster → ℕ
weights clusters = sum_by weight clusters

weight-some : (b : Bool) → 1 ≤ cond b 25 1
weight-some true = lit≤ tt
weight-some false = lit≤ tt

weights-some : (clusters : List Cluster) → length clusters ≤ weights clusters
weights-some [] = omega arith
weights-some (c ∷ cs) = omega (arith, sum_by-cons weight c cs, weight-some c.space, weights-some cs)

-- Each cluster is one column wide.
record IsOne (c : Cluster) : Type 0 where
  one : c.width ≡ 1

width-ones : (clusters : List Cluster) → All IsOne clusters → total_width clusters ≡ length clusters
width-ones [] all = refl
width-ones (c ∷ cs) all = omega (arith, sum_by-cons (λ (k : Cluster). k.width) c cs, (All-head IsOne c cs all).one, width-ones cs (All-tail IsOne c cs all))

-- ---- what a row takes

trim-light : (clusters : List Cluster) → weights (trim_start clusters) ≤ weights clusters
trim-light [] = omega arith
trim-light (c ∷ cs) = by c.space (trim-light cs)
  where
    by : (b : Bool) → weights (trim_start cs) ≤ weights cs → weights (cond b (trim_start cs) (c ∷ cs)) ≤ weights (c ∷ cs)
    by true rest = omega (arith, sum_by-cons weight c cs, rest)
    by false rest = omega arith

trim-ones : (clusters : List Cluster) → All IsOne clusters → All IsOne (trim_start clusters)
trim-ones [] all = all
trim-ones (c ∷ cs) all = by c.space (trim-ones cs (All-tail IsOne c cs all))
  where
    by : (b : Bool) → All IsOne (trim_start cs) → All IsOne (cond b (trim_start cs) (c ∷ cs))
    by true rest = rest
    by false rest = all

rest-ones : (cut : Cut) (clusters : List Cluster) → All IsOne clusters → All IsOne (rest_after cut clusters)
rest-ones Rest clusters all = All-nil IsOne
rest-ones (AtSpace place) clusters all = trim-ones (drop place clusters) (All-drop IsOne place clusters all)
rest-ones (Inside place) clusters all = All-drop IsOne place clusters all

-- From a space on.
at-space : (clusters : List Cluster) → list_any (λ (c : Cluster). c.space) (take 1 clusters) ≡ true → weights (trim_start clusters) + 25 ≤ weights clusters
at-space [] is = absurd (true≢false (sym is))
at-space (c ∷ cs) is = by c.space refl is
  where
    by : (b : Bool) → c.space ≡ b → (b || false) ≡ true → weights (cond b (trim_start cs) (c ∷ cs)) + 25 ≤ weights (c ∷ cs)
    by true same h = omega (arith, sum_by-cons weight c cs, ap weight_if same, trim-light cs)
    by false same h = absurd (true≢false (sym h))

drop-light : (place : ℕ) (clusters : List Cluster) → weights (drop place clusters) + length (take place clusters) ≤ weights clusters
drop-light place clusters = omega (arith, sum_by-take-drop weight clusters place, weights-some (take place clusters))

-- A place that cuts inside is not below the width.
fits-width : (width : ℕ) (clusters : List Cluster) → 24 ≤ width → All IsOne clusters → cuts width clusters width ≡ true
fits-width width clusters wide all =
    and_from (ltb 0 width) (leb (total_width (take width clusters)) width) (lt-ltb 0 width (omega (arith, wide)))
    (le-leb (total_width (take width clusters)) width (omega (arith, width-ones (take width clusters) (All-take IsOne width clusters all), length-take width clusters)))

inside-wide : (width : ℕ) (clusters : List Cluster) (found : Option ℕ) → greatest (cuts width clusters) (length clusters) ≡ found → 24 ≤ width → width < length clusters → All IsOne clusters → 24 ≤ unwrap_or found 1
inside-wide width clusters None is wide more all =
    absurd (true≢false (sym (fits-width width clusters wide all) ∙ greatest-none (cuts width clusters) (length clusters) is width more))
inside-wide width clusters (Some place) is wide more all =
    let best = greatest-some (cuts width clusters) (length clusters) place is in
    elim (cases_lt place width) [
      | inl less ↦ absurd (true≢false (sym (fits-width width clusters wide all) ∙ best.greater width less more))
      | inr other ↦ omega (arith, wide, other)
    ]

-- What is left behind a row weighs less by 24.
lighter : (width : ℕ) (clusters : List Cluster) → 24 ≤ width → All IsOne clusters → 0 < length (rest_after (first_cut width clusters) clusters)
    → weights (rest_after (first_cut width clusters) clusters) + 24 ≤ weights clusters
lighter width clusters wide all = by (leb (total_width clusters) width) refl
  where
    rest : List Cluster → Cut → List Cluster
    rest those cut = rest_after cut those

    Lighter : Cut → Type 0
    Lighter cut = 0 < length (rest_after cut clusters) → weights (rest_after cut clusters) + 24 ≤ weights clusters

    inside : (place : ℕ) → 24 ≤ place → Lighter (Inside place)
    inside place low some = omega (arith, low, some, drop-light place clusters, length-take place clusters, length-drop place clusters)

    broken : (place : ℕ) → breaks width clusters place ≡ true → Lighter (AtSpace place)
    broken place is some =
        let one = and_parts (fits width clusters place) (is_break clusters place) is in
        let two = and_parts (is_space_at clusters place) (has_word (take place clusters)) one.1 in
        omega (arith, at-space (drop place clusters) two.0, drop-light place clusters)

    cut : (found : Option ℕ) → greatest (breaks width clusters) (length clusters) ≡ found → width < length clusters
        → Lighter (unwrap_or (option_map AtSpace found) (Inside (unwrap_or (greatest (cuts width clusters) (length clusters)) 1)))
    cut None is more = inside (unwrap_or (greatest (cuts width clusters) (length clusters)) 1) (inside-wide width clusters (greatest (cuts width clusters) (length clusters)) refl wide more all)
    cut (Some place) is more = broken place (greatest-some (breaks width clusters) (length clusters) place is).passed

    by : (b : Bool) → leb (total_width clusters) width ≡ b
        → Lighter (cond b Rest (unwrap_or (option_map AtSpace (greatest (breaks width clusters) (length clusters))) (Inside (unwrap_or (greatest (cuts width clusters) (length clusters)) 1))))
    by true is = λ some. absurd (omega (arith, some))
    by false is =
        let more = leb-false (total_width clusters) width is in
        cut (greatest (breaks width clusters) (length clusters)) refl (omega (arith, more, width-ones clusters all))

length-cond : {X : Type 0} (b : Bool) (xs : List X) → length (cond b [] xs) ≤ length xs
length-cond true xs = omega arith
length-cond false xs = omega arith

rows-few : (most width : ℕ) (clusters : List Cluster) → 24 ≤ width → All IsOne clusters → 24 * length (rows_up_to most width clusters) ≤ 24 + weights clusters
rows-few zero width clusters wide all = omega arith
rows-few (suc most) width clusters wide all =
    let rest = rest_after (first_cut width clusters) clusters in
    by rest (rows_up_to most width rest) (lighter width clusters wide all) (rows-few most width rest wide (rest-ones (first_cut width clusters) clusters all))
  where
    by : (rest : List Cluster) (more : List (List Cluster)) → (0 < length rest → weights rest + 24 ≤ weights clusters) → 24 * length more ≤ 24 + weights rest
        → 24 * suc (length (cond (length rest == 0) [] more)) ≤ 24 + weights clusters
    by [] more less few = omega arith
    by (c ∷ cs) more less few = omega (arith, length-cond (suc (length cs) == 0) more, less (omega arith), few)

-- ---- what bytes weigh

abbrev pub byte_weight : ℕ → ℕ
byte_weight byte = weight_if (byte == 32)

abbrev pub byte_weights : List ℕ → ℕ
byte_weights bytes = sum_by byte_weight bytes

record Light (bytes : List ℕ) (clusters : List Cluster) : Type 0 where
  ones : All IsOne clusters
  light : weights clusters ≤ byte_weights bytes

bytes-light : (style at : ℕ) (bytes : List ℕ) → Light bytes (byte_clusters style at bytes)
bytes-light style at [] = record { ones = All-nil IsOne; light = omega arith }
bytes-light style at (byte ∷ bytes) =
    let later = bytes-light style (at + 1) bytes in
    let light = later.light in
    record {
      ones = All-cons IsOne _ (byte_clusters style (at + 1) bytes) (record { one = refl }) later.ones;
      light = omega (arith, sum_by-cons weight (record { from = at; to = at + 1; width = 1; style = style; space = byte == 32 }) (byte_clusters style (at + 1) bytes), sum_by-cons byte_weight byte bytes, light);
    }

printable-take : (count : ℕ) (text : List ℕ) → list_all is_printable text ≡ true → list_all is_printable (take count text) ≡ true
printable-take zero text all = refl
printable-take (suc count) [] all = refl
printable-take (suc count) (byte ∷ text) all =
    let parts = and_parts (is_printable byte) (list_all is_printable text) all in and_from (is_printable byte) (list_all is_printable (take count text)) parts.0 (printable-take count text parts.1)

printable-drop : (count : ℕ) (text : List ℕ) → list_all is_printable text ≡ true → list_all is_printable (drop count text) ≡ true
printable-drop zero text all = all
printable-drop (suc count) [] all = refl
printable-drop (suc count) (byte ∷ text) all = printable-drop count text (and_parts (is_printable byte) (list_all is_printable text) all).1

drop-bytes : (low high : ℕ) (text : List ℕ) → low ≤ high → byte_weights (drop high text) ≤ byte_weights (drop low text)
drop-bytes low high text order =
    let same : low + (high - low) ≡ high = omega (arith, order) in
    omega (arith, sum_by-take-drop byte_weight (drop low text) (high - low), ap byte_weights (drop-drop (high - low) low text ∙ ap (λ n. drop n text) same))

run-light : (text : List ℕ) (run : Run) → list_all is_printable text ≡ true → Light (slice_range text run.from run.to) (clusters_in text run)
run-light text run all =
    let part = slice_range text run.from run.to in
    let plain = printable-take (run.to - run.from) (drop run.from text) (printable-drop run.from text all) in
    subst (Light part) (sym (clusters_at-printable run.style run.from part plain)) (bytes-light run.style run.from part)

runs-light : (text : List ℕ) → list_all is_printable text ≡ true → (runs : List Run) (at : ℕ) → Parts text at (map span_of runs) → Light (drop at text) (flat_map (clusters_in text) runs)
runs-light text all [] at parts = record { ones = All-nil IsOne; light = omega arith }
runs-light text all (run ∷ runs) at parts =
    let lies = parts.1 in
    let order = lies.order in
    let begins = parts.0 in
    let here = run-light text run all in
    let light = here.light in
    let later = runs-light text all runs run.to parts.2 in
    let light2 = later.light in
    let same : run.from + (run.to - run.from) ≡ run.to = omega (arith, order) in
    let split = sum_by-take-drop byte_weight (drop run.from text) (run.to - run.from) in
    let back = ap byte_weights (drop-drop (run.to - run.from) run.from text ∙ ap (λ n. drop n text) same) in
    record {
      ones = All-append IsOne (clusters_in text run) (flat_map (clusters_in text) runs) here.ones later.ones;
      light = omega (arith, sum_by-append weight (clusters_in text run) (flat_map (clusters_in text) runs), light, light2, split, back, drop-bytes at run.from text begins);
    }

-- A line of printable bytes, where rows are 24 columns wide or more.
pub wrapped-few : (text : List ℕ) (runs : List Run) (width : ℕ) → 24 ≤ width → list_all is_printable text ≡ true → RunParts text runs → 24 * length (wrapped text runs width) ≤ 24 + byte_weights text
unfolding rows_of
wrapped-few text runs width wide all parts =
    let clusters = clusters_of text runs in
    let it = runs-light text all runs 0 parts in
    let light = it.light in
    omega (arith, length-map (rows_of width clusters) row_of, rows-few (length clusters + 1) width clusters wide it.ones, light)
