-- Printable text that runs show: windows of it, where their spaces are, how wide they are, and the runs that they make.
use Rattle.std.proofs.Common.{◌≡◌, ℕ, zero, suc, ◌+◌, ◌-◌, ◌<◌, ◌≤◌, Bool, true, false, cond, ◌&&◌, ◌==◌, List, [], ◌∷◌, ◌++◌, length, map, take, drop, min, refl, sym, ap, ap₂, ◌∙◌, arith, append_assoc, length-take, length-drop, take_all, get_or, slice_range, Option, inl, inr}
use Rattle.std.specs.List.{All, list_all, list_any}
use Rattle.std.specs.Prelude.{slice_index_or}
use Rattle.std.proofs.lemmas.Bool.{cases_lt, eq-eqb, eqb-true, and_parts}
use Rattle.std.proofs.lemmas.List.{at_drop_more, drop_all, drop-drop, length-map, map-append, take-map, drop-map}
use Rattle.std.proofs.lemmas.List.Elements.{All-append, All-cons, All-drop, All-get_or, All-head, All-nil, All-tail, All-take}
use Rattle.std.proofs.lemmas.List.Folds.{list_all-append}
use Rattle.std.proofs.lemmas.List.Sums.{sum_by-cons}
use Rattle.spec_script.specs.declared.Run.{Run}
use Rattle.spec_script.specs.Runs.{span_of}
use Rattle.spec_text.specs.Parts.{Parts}
use Rattle.spec_pages.specs.declared.Cluster.{Cluster}
use Rattle.spec_pages.specs.Clusters.{byte_clusters, clusters_of, is_printable}
use Rattle.spec_pages.specs.Wrapping.{is_space_at, runs_from, runs_of, total_width}
use Rattle.spec_pages.proofs.PrintableLaws.{clusters_at-printable}
use Rattle.sp_measure.specs.Shown.{EndsIn, runs_behind, shown_bytes, shown_clusters}
use Rattle.sp_measure.proofs.Bytes.{length-bytes, take-bytes, drop-bytes, is_space_at-bytes}

take-take : {X : Type 0} (m n : ℕ) (l : List X) → m ≤ n → take m (take n l) ≡ take m l
take-take zero n l h = refl
take-take (suc m) zero l h = absurd (omega arith)
take-take (suc m) (suc n) [] h = refl
take-take (suc m) (suc n) (x ∷ l) h = ap (λ t. x ∷ t) (take-take m n l (omega arith))

take-drop-take : {X : Type 0} (k m n : ℕ) (l : List X) → k + m ≤ n → take m (drop k (take n l)) ≡ take m (drop k l)
take-drop-take zero m n l h = take-take m n l (omega arith)
take-drop-take (suc k) m zero l h = absurd (omega arith)
take-drop-take (suc k) m (suc n) [] h = refl
take-drop-take (suc k) m (suc n) (x ∷ l) h = take-drop-take k m n l (omega arith)

-- A part of a window is a window.
pub window-part : {X : Type 0} (skip n from to : ℕ) (l : List X) → from ≤ to → to ≤ n
    → slice_range (take n (drop skip l)) from to ≡ take (to - from) (drop (skip + from) l)
window-part skip n from to l order within =
    take-drop-take from (to - from) n (drop skip l) (omega arith) ∙ ap (take (to - from)) (drop-drop from skip l)

drop-more : {X : Type 0} (n : ℕ) (xs ys : List X) → drop n (xs ++ ys) ≡ drop n xs ++ drop (n - length xs) ys
drop-more zero [] ys = refl
drop-more (suc n) [] ys = ap (λ k. drop k ys) (let e : suc n ≡ suc n - 0 = omega arith in e)
drop-more zero (x ∷ xs) ys = ap (λ k. x ∷ xs ++ drop k ys) (let e : 0 ≡ 0 - length (x ∷ xs) = omega arith in e)
drop-more (suc n) (x ∷ xs) ys = drop-more n xs ys ∙ ap (λ k. drop n xs ++ drop k ys) (let e : n - length xs ≡ suc n - length (x ∷ xs) = omega arith in e)

take-more : {X : Type 0} (n : ℕ) (xs ys : List X) → take n (xs ++ ys) ≡ take n xs ++ take (n - length xs) ys
take-more zero [] ys = refl
take-more (suc n) [] ys = ap (λ k. take k ys) (let e : suc n ≡ suc n - 0 = omega arith in e)
take-more zero (x ∷ xs) ys = ap (λ k. take k ys) (let e : 0 ≡ 0 - length (x ∷ xs) = omega arith in e)
take-more (suc n) (x ∷ xs) ys = ap (λ l. x ∷ l) (take-more n xs ys) ∙ ap (λ k. x ∷ (take n xs ++ take k ys)) (let e : n - length xs ≡ suc n - length (x ∷ xs) = omega arith in e)

window-bytes : (style at skip left : ℕ) (bytes : List ℕ)
    → take left (drop skip (byte_clusters style at bytes)) ≡ byte_clusters style (at + min skip (length bytes)) (take left (drop skip bytes))
window-bytes style at skip left bytes =
    ap (take left) (drop-bytes skip style at bytes) ∙ take-bytes left style (at + skip) (drop skip bytes)
    ∙ elim (cases_lt skip (length bytes)) [
      | inl low ↦ ap (λ k. byte_clusters style (at + k) (take left (drop skip bytes))) (let e : skip ≡ min skip (length bytes) = omega arith in e)
      | inr high ↦ (let none : drop skip bytes ≡ [] = drop_all skip bytes (omega arith) in
          ap (λ bs. byte_clusters style (at + skip) (take left bs)) none ∙ nothing left style (at + skip) (at + min skip (length bytes))
          ∙ sym (ap (λ bs. byte_clusters style (at + min skip (length bytes)) (take left bs)) none))
    ]
  where
    nothing : (n style at other : ℕ) → byte_clusters style at (take n []) ≡ byte_clusters style other (take n [])
    nothing zero style at other = refl
    nothing (suc n) style at other = refl

-- What a window has of a run's bytes and of those behind it.
pub window-run : (style at skip left : ℕ) (bytes : List ℕ) (more : List Cluster) →
    let passed = min skip (length bytes) in
    let size = min left (length bytes - passed) in
    take left (drop skip (byte_clusters style at bytes ++ more))
    ≡ byte_clusters style (at + passed) (take left (drop skip bytes)) ++ take (left - size) (drop (skip - passed) more)
window-run style at skip left bytes more =
    let own = byte_clusters style at bytes in
    let passed = min skip (length bytes) in
    let size = min left (length bytes - passed) in
    let long = length-bytes style at bytes in
    let behind : skip - length own ≡ skip - passed = omega (arith, long) in
    let rest : left - length (drop skip own) ≡ left - size = omega (arith, long, length-drop skip own) in
    ap (take left) (drop-more skip own more) ∙ take-more left (drop skip own) (drop (skip - length own) more)
    ∙ ap₂ ◌++◌ (window-bytes style at skip left bytes) (ap₂ (λ n k. take n (drop k more)) rest behind)

-- Bytes behind a run that goes on with them make it longer.
pub runs_from-grown : (from at style : ℕ) (bytes : List ℕ) (more : List Cluster)
    → runs_from (record { from = from; to = at; style = style }) (byte_clusters style at bytes ++ more) ≡ runs_from (record { from = from; to = at + length bytes; style = style }) more
runs_from-grown from at style [] more = ap (λ to. runs_from (record { from = from; to = to; style = style }) more) (let e : at ≡ at + 0 = omega arith in e)
runs_from-grown from at style (byte ∷ bytes) more =
    ap₂ (λ a b. cond (a && b) (runs_from (record { from = from; to = at + 1; style = style }) (byte_clusters style (at + 1) bytes ++ more))
    (record { from = from; to = at; style = style } ∷ runs_from (record { from = at; to = at + 1; style = style }) (byte_clusters style (at + 1) bytes ++ more)))
    (eq-eqb at at refl) (eq-eqb style style refl)
    ∙ runs_from-grown from (at + 1) style bytes more
    ∙ ap (λ to. runs_from (record { from = from; to = to; style = style }) more) (let e : at + 1 + length bytes ≡ at + suc (length bytes) = omega arith in e)

-- Where there is no run before them they make one.
pub runs_of-first : (style at : ℕ) (bytes : List ℕ) (more : List Cluster) → 0 < length bytes
    → runs_of (byte_clusters style at bytes ++ more) ≡ runs_from (record { from = at; to = at + length bytes; style = style }) more
runs_of-first style at [] more some = absurd (omega arith)
runs_of-first style at (byte ∷ bytes) more some =
    runs_from-grown at (at + 1) style bytes more
    ∙ ap (λ to. runs_from (record { from = at; to = to; style = style }) more) (let e : at + 1 + length bytes ≡ at + suc (length bytes) = omega arith in e)

pub runs_from-joined : (run : Run) (style at : ℕ) (bytes : List ℕ) (more : List Cluster) → ((run.to == at) && (run.style == style)) ≡ true
    → runs_from run (byte_clusters style at bytes ++ more) ≡ runs_from (record { from = run.from; to = at + length bytes; style = run.style }) more
runs_from-joined run style at bytes more h =
    let both = and_parts (run.to == at) (run.style == style) h in
    let place : run.to ≡ at = eqb-true run.to at both.0 in
    let same : run.style ≡ style = eqb-true run.style style both.1 in
    ap₂ (λ t k. runs_from run (byte_clusters k t bytes ++ more)) (sym place) (sym same)
    ∙ runs_from-grown run.from run.to run.style bytes more
    ∙ ap (λ t. runs_from (record { from = run.from; to = t + length bytes; style = run.style }) more) place

-- Where they don't go on with the run they begin another.
pub runs_from-other : (run : Run) (style at : ℕ) (bytes : List ℕ) (more : List Cluster) → 0 < length bytes → ((run.to == at) && (run.style == style)) ≡ false
    → runs_from run (byte_clusters style at bytes ++ more) ≡ run ∷ runs_from (record { from = at; to = at + length bytes; style = style }) more
runs_from-other run style at [] more some apart = absurd (omega arith)
runs_from-other run style at (byte ∷ bytes) more some apart =
    let rest = byte_clusters style (at + 1) bytes ++ more in
    ap (λ b. cond b (runs_from (record { from = run.from; to = at + 1; style = run.style }) rest) (run ∷ runs_from (record { from = at; to = at + 1; style = style }) rest)) apart
    ∙ ap (λ rs. run ∷ rs) (runs_of-first style at (byte ∷ bytes) more some)

spaces-bytes : (style at : ℕ) (bytes : List ℕ) → map (λ (c : Cluster). c.space) (byte_clusters style at bytes) ≡ map (λ b. b == 32) bytes
spaces-bytes style at [] = refl
spaces-bytes style at (byte ∷ bytes) = ap (λ bs. (byte == 32) ∷ bs) (spaces-bytes style (at + 1) bytes)

spaces-shown : (text : List ℕ) (runs : List Run) → map (λ (c : Cluster). c.space) (shown_clusters text runs) ≡ map (λ b. b == 32) (shown_bytes text runs)
spaces-shown text [] = refl
spaces-shown text (run ∷ runs) =
    let part = slice_range text run.from run.to in
    map-append (λ (c : Cluster). c.space) (byte_clusters run.style run.from part) (shown_clusters text runs)
    ∙ ap₂ ◌++◌ (spaces-bytes run.style run.from part) (spaces-shown text runs)
    ∙ sym (map-append (λ b. b == 32) part (shown_bytes text runs))

spaces-window : (n skip : ℕ) (text : List ℕ) (runs : List Run)
    → map (λ (c : Cluster). c.space) (take n (drop skip (shown_clusters text runs))) ≡ map (λ b. b == 32) (take n (drop skip (shown_bytes text runs)))
spaces-window n skip text runs =
    let space = λ (c : Cluster). c.space in
    let blank = λ (b : ℕ). b == 32 in
    let all = shown_clusters text runs in
    let bytes = shown_bytes text runs in
    sym (take-map space n (drop skip all)) ∙ ap (take n) (sym (drop-map space skip all))
    ∙ ap (λ (l : List Bool). take n (drop skip l)) (spaces-shown text runs)
    ∙ ap (take n) (drop-map blank skip bytes) ∙ take-map blank n (drop skip bytes)

is_space_at-map : (n : ℕ) (cs : List Cluster) → is_space_at cs n ≡ list_any (λ (b : Bool). b) (take 1 (drop n (map (λ (c : Cluster). c.space) cs)))
is_space_at-map zero [] = refl
is_space_at-map zero (c ∷ cs) = refl
is_space_at-map (suc n) [] = refl
is_space_at-map (suc n) (c ∷ cs) = is_space_at-map n cs

-- A window of the clusters has its spaces where that of the bytes has them.
pub space-window : (n skip : ℕ) (text : List ℕ) (runs : List Run) (bytes : List ℕ) (place : ℕ) → bytes ≡ take n (drop skip (shown_bytes text runs)) → place < length bytes
    → is_space_at (take n (drop skip (shown_clusters text runs))) place ≡ (slice_index_or bytes place 0 == 32)
space-window n skip text runs bytes place is inside =
    is_space_at-map place (take n (drop skip (shown_clusters text runs)))
    ∙ ap (λ (l : List Bool). list_any (λ (b : Bool). b) (take 1 (drop place l)))
    (spaces-window n skip text runs ∙ ap (map (λ (b : ℕ). b == 32)) (sym is) ∙ sym (spaces-bytes 0 0 bytes))
    ∙ sym (is_space_at-map place (byte_clusters 0 0 bytes)) ∙ is_space_at-bytes place 0 0 bytes inside

-- It has as many clusters as that has bytes.
pub length-window : (n skip : ℕ) (text : List ℕ) (runs : List Run) (bytes : List ℕ) → bytes ≡ take n (drop skip (shown_bytes text runs))
    → length (take n (drop skip (shown_clusters text runs))) ≡ length bytes
length-window n skip text runs bytes is =
    let cs = take n (drop skip (shown_clusters text runs)) in
    sym (length-map cs (λ (c : Cluster). c.space)) ∙ ap length (spaces-window n skip text runs ∙ ap (map (λ (b : ℕ). b == 32)) (sym is)) ∙ length-map bytes (λ (b : ℕ). b == 32)

abbrev IsNarrow : Cluster → Type 0
IsNarrow c = c.width ≡ 1

narrow-bytes : (style at : ℕ) (bytes : List ℕ) → All IsNarrow (byte_clusters style at bytes)
narrow-bytes style at [] = All-nil IsNarrow
narrow-bytes style at (byte ∷ bytes) =
    let first : Cluster = record { from = at; to = at + 1; width = 1; style = style; space = byte == 32 } in
    All-cons IsNarrow first (byte_clusters style (at + 1) bytes) refl (narrow-bytes style (at + 1) bytes)

narrow-shown : (text : List ℕ) (runs : List Run) → All IsNarrow (shown_clusters text runs)
narrow-shown text [] = All-nil IsNarrow
narrow-shown text (run ∷ runs) =
    let part = slice_range text run.from run.to in
    All-append IsNarrow (byte_clusters run.style run.from part) (shown_clusters text runs) (narrow-bytes run.style run.from part) (narrow-shown text runs)

total_width-narrow : (cs : List Cluster) → All IsNarrow cs → total_width cs ≡ length cs
total_width-narrow [] h = refl
total_width-narrow (c ∷ cs) h =
    let one : c.width ≡ 1 = All-head IsNarrow c cs h in
    omega (arith, sum_by-cons (λ (c : Cluster). c.width) c cs, one, total_width-narrow cs (All-tail IsNarrow c cs h))

-- Each is one column wide.
pub width-window : (k n skip : ℕ) (text : List ℕ) (runs : List Run)
    → total_width (take k (take n (drop skip (shown_clusters text runs)))) ≡ min k (length (take n (drop skip (shown_clusters text runs))))
width-window k n skip text runs =
    let cs = take n (drop skip (shown_clusters text runs)) in
    total_width-narrow (take k cs) (All-take IsNarrow k cs (All-take IsNarrow n (drop skip (shown_clusters text runs)) (All-drop IsNarrow skip (shown_clusters text runs) (narrow-shown text runs))))
    ∙ length-take k cs

-- All of them together.
pub width-all : (n skip : ℕ) (text : List ℕ) (runs : List Run)
    → total_width (take n (drop skip (shown_clusters text runs))) ≡ length (take n (drop skip (shown_clusters text runs)))
width-all n skip text runs =
    total_width-narrow (take n (drop skip (shown_clusters text runs))) (All-take IsNarrow n (drop skip (shown_clusters text runs)) (All-drop IsNarrow skip (shown_clusters text runs) (narrow-shown text runs)))

shown-printable : (text : List ℕ) (runs : List Run) → list_all is_printable (shown_bytes text runs) ≡ true → shown_clusters text runs ≡ clusters_of text runs
shown-printable text [] h = refl
shown-printable text (run ∷ runs) h =
    let part = slice_range text run.from run.to in
    let both = and_parts (list_all is_printable part) (list_all is_printable (shown_bytes text runs)) (sym (list_all-append is_printable part (shown_bytes text runs)) ∙ h) in
    ap₂ ◌++◌ (sym (clusters_at-printable run.style run.from part both.0)) (shown-printable text runs both.1)

-- The clusters of a line are those of all bytes that its runs show, where these are printable.
pub window-whole : (text : List ℕ) (runs : List Run) (bytes : List ℕ) → bytes ≡ shown_bytes text runs → list_all is_printable bytes ≡ true
    → take (length bytes) (drop 0 (shown_clusters text runs)) ≡ clusters_of text runs
window-whole text runs bytes is h =
    let all = shown_clusters text runs in
    let long : length all ≡ length bytes = sym (length-map all (λ (c : Cluster). c.space)) ∙ ap length (spaces-shown text runs) ∙ length-map (shown_bytes text runs) (λ (b : ℕ). b == 32) ∙ ap length (sym is) in
    take_all (length bytes) all (omega arith) ∙ shown-printable text runs (ap (list_all is_printable) (sym is) ∙ h)

pub ends-parts : (text : List ℕ) (at : ℕ) (runs : List Run) → Parts text at (map span_of runs) → All (EndsIn text) runs
ends-parts text at [] h = All-nil (EndsIn text)
ends-parts text at (run ∷ runs) h =
    let lies = h.1 in
    All-cons (EndsIn text) run runs lies.end.0 (ends-parts text run.to runs h.2)

-- One more run's part of a window is put behind the runs so far.
pub shown-more : (text : List ℕ) (runs : List Run) (k : ℕ) (d : Run) (done more_done total : List Run) (last now : Option Run) (skip left len passed size : ℕ)
    → k < length runs → All (EndsIn text) runs → len ≡ (get_or runs k d).to - (get_or runs k d).from → passed ≡ min skip len → size ≡ min left (len - passed)
    → ((bytes : List ℕ) (more : List Cluster) → (get_or runs k d).from + passed + length bytes ≡ (get_or runs k d).from + (passed + size)
    → more_done ++ runs_behind now more ≡ done ++ runs_behind last (byte_clusters (get_or runs k d).style ((get_or runs k d).from + passed) bytes ++ more))
    → done ++ runs_behind last (take left (drop skip (shown_clusters text (drop k runs)))) ≡ total
    → more_done ++ runs_behind now (take (left - size) (drop (skip - passed) (shown_clusters text (drop (k + 1) runs)))) ≡ total
shown-more text runs k d done more_done total last now skip left len passed size inside ends is_len is_passed is_size added same =
    let run = get_or runs k d in
    let bytes = slice_range text run.from run.to in
    let rest = shown_clusters text (drop (k + 1) runs) in
    let within : run.to ≤ length text = All-get_or (EndsIn text) runs k d inside ends in
    let long : length bytes ≡ len = omega (arith, length-take (run.to - run.from) (drop run.from text), length-drop run.from text) in
    let passes : min skip (length bytes) ≡ passed = ap (min skip) long ∙ sym is_passed in
    let sizes : min left (length bytes - min skip (length bytes)) ≡ size = ap₂ (λ l p. min left (l - p)) long passes ∙ sym is_size in
    let part = take left (drop skip bytes) in
    let long-part : length part ≡ size = omega (arith, length-take left (drop skip bytes), length-drop skip bytes) in
    added part (take (left - size) (drop (skip - passed) rest)) (omega arith)
    ∙ ap (λ cs. done ++ runs_behind last cs)
    (sym (window-run run.style run.from skip left bytes rest
    ∙ ap₂ (λ p n. byte_clusters run.style (run.from + p) part ++ take (left - n) (drop (skip - p) rest)) passes sizes))
    ∙ sym (at_drop_more (λ (rs : List Run). done ++ runs_behind last (take left (drop skip (shown_clusters text rs)))) runs k d inside)
    ∙ same

abbrev no_clusters : List Cluster
no_clusters = []

nothing : (left skip : ℕ) → take left (drop skip no_clusters) ≡ no_clusters
nothing zero zero = refl
nothing (suc left) zero = refl
nothing zero (suc skip) = refl
nothing (suc left) (suc skip) = refl

-- Behind the last run nothing is left of a window.
pub shown-end : (text : List ℕ) (runs : List Run) (k : ℕ) (done total : List Run) (last : Option Run) (skip left : ℕ) → length runs ≤ k
    → done ++ runs_behind last (take left (drop skip (shown_clusters text (drop k runs)))) ≡ total → done ++ runs_behind last [] ≡ total
shown-end text runs k done total last skip left past same =
    ap (λ (cs : List Cluster). done ++ runs_behind last cs)
    (sym (ap (λ (rs : List Run). take left (drop skip (shown_clusters text rs))) (drop_all k runs past) ∙ nothing left skip))
    ∙ same

-- One more run's bytes are copied.
pub bytes-more : (text part : List ℕ) (made more all : List ℕ) (runs : List Run) (k : ℕ) (d : Run) → k < length runs →
    let run = get_or runs k d in
    part ≡ slice_range text run.from run.to → more ≡ made ++ part
    → made ++ shown_bytes text (drop k runs) ≡ all → more ++ shown_bytes text (drop (k + 1) runs) ≡ all
bytes-more text part made more all runs k d inside is added same =
    let run = get_or runs k d in
    let rest = shown_bytes text (drop (k + 1) runs) in
    ap (λ l. l ++ rest) (added ∙ ap (λ p. made ++ p) is)
    ∙ append_assoc made (slice_range text run.from run.to) rest
    ∙ ap (λ l. made ++ l) (sym (at_drop_more (shown_bytes text) runs k d inside)) ∙ same
