-- The clusters of printable bytes: parts of them, where their spaces are, how wide they are, and the run that they make.
use Rattle.std.proofs.Common.{◌≡◌, ℕ, zero, suc, ◌+◌, ◌<◌, ◌≤◌, cond, ◌&&◌, ◌==◌, List, [], ◌∷◌, length, take, drop, refl, ap, ap₂, ◌∙◌, arith, append-nil, get_or}
use Rattle.std.specs.Prelude.{slice_index_or}
use Rattle.std.proofs.lemmas.Bool.{eq-eqb}
use Rattle.std.proofs.lemmas.List.Sums.{sum_by-cons}
use Rattle.std.proofs.Math.Bool.{or-false}
use Rattle.spec_script.specs.declared.Run.{Run}
use Rattle.spec_pages.specs.declared.Cluster.{Cluster}
use Rattle.spec_pages.specs.Clusters.{byte_clusters, clusters_in, clusters_of}
use Rattle.spec_pages.specs.Wrapping.{is_space_at, runs_from, runs_of, total_width}

pub length-bytes : (style at : ℕ) (bytes : List ℕ) → length (byte_clusters style at bytes) ≡ length bytes
length-bytes style at [] = refl
length-bytes style at (byte ∷ bytes) = ap suc (length-bytes style (at + 1) bytes)

pub take-bytes : (n style at : ℕ) (bytes : List ℕ) → take n (byte_clusters style at bytes) ≡ byte_clusters style at (take n bytes)
take-bytes zero style at bytes = refl
take-bytes (suc n) style at [] = refl
take-bytes (suc n) style at (byte ∷ bytes) =
    ap (λ (cs : List Cluster). record { from = at; to = at + 1; width = 1; style = style; space = byte == 32 } ∷ cs) (take-bytes n style (at + 1) bytes)

pub drop-bytes : (n style at : ℕ) (bytes : List ℕ) → drop n (byte_clusters style at bytes) ≡ byte_clusters style (at + n) (drop n bytes)
drop-bytes zero style at bytes = ap (λ place. byte_clusters style place bytes) (let e : at ≡ at + 0 = omega arith in e)
drop-bytes (suc n) style at [] = refl
drop-bytes (suc n) style at (byte ∷ bytes) =
    drop-bytes n style (at + 1) bytes ∙ ap (λ place. byte_clusters style place (drop n bytes)) (let e : at + 1 + n ≡ at + suc n = omega arith in e)

pub total_width-bytes : (style at : ℕ) (bytes : List ℕ) → total_width (byte_clusters style at bytes) ≡ length bytes
total_width-bytes style at [] = refl
total_width-bytes style at (byte ∷ bytes) =
    let first : Cluster = record { from = at; to = at + 1; width = 1; style = style; space = byte == 32 } in
    omega (arith, sum_by-cons (λ (c : Cluster). c.width) first (byte_clusters style (at + 1) bytes), total_width-bytes style (at + 1) bytes)

pub is_space_at-bytes : (n style at : ℕ) (bytes : List ℕ) → n < length bytes → is_space_at (byte_clusters style at bytes) n ≡ (slice_index_or bytes n 0 == 32)
is_space_at-bytes n style at [] h = absurd (omega arith)
is_space_at-bytes zero style at (byte ∷ bytes) h = or-false (byte == 32)
is_space_at-bytes (suc n) style at (byte ∷ bytes) h = is_space_at-bytes n style (at + 1) bytes (omega arith)

-- Bytes behind a run that ends where they begin make it longer.
runs_from-bytes : (from at style : ℕ) (bytes : List ℕ)
    → runs_from (record { from = from; to = at; style = style }) (byte_clusters style at bytes) ≡ record { from = from; to = at + length bytes; style = style } ∷ []
runs_from-bytes from at style [] = ap (λ to. record { from = from; to = to; style = style } ∷ []) (let e : at ≡ at + 0 = omega arith in e)
runs_from-bytes from at style (byte ∷ bytes) =
    ap₂ (λ a b. cond (a && b) (runs_from (record { from = from; to = at + 1; style = style }) (byte_clusters style (at + 1) bytes))
    (record { from = from; to = at; style = style } ∷ runs_from (record { from = at; to = at + 1; style = style }) (byte_clusters style (at + 1) bytes)))
    (eq-eqb at at refl) (eq-eqb style style refl)
    ∙ runs_from-bytes from (at + 1) style bytes
    ∙ ap (λ to. record { from = from; to = to; style = style } ∷ []) (let e : at + 1 + length bytes ≡ at + suc (length bytes) = omega arith in e)

-- So bytes are one run, where there are some.
pub runs_of-bytes : (style at : ℕ) (bytes : List ℕ) → 0 < length bytes
    → runs_of (byte_clusters style at bytes) ≡ record { from = at; to = at + length bytes; style = style } ∷ []
runs_of-bytes style at [] h = absurd (omega arith)
runs_of-bytes style at (byte ∷ bytes) h =
    runs_from-bytes at (at + 1) style bytes
    ∙ ap (λ to. record { from = at; to = to; style = style } ∷ []) (let e : at + 1 + length bytes ≡ at + suc (length bytes) = omega arith in e)

-- A line that shows one run has the clusters of that.
pub clusters_of-single : (text : List ℕ) (runs : List Run) (d : Run) → 1 ≤ length runs → length runs < 2 → clusters_of text runs ≡ clusters_in text (get_or runs 0 d)
clusters_of-single text [] d some few = absurd (omega arith)
clusters_of-single text (run ∷ []) d some few = append-nil (clusters_in text run)
clusters_of-single text (run ∷ other ∷ runs) d some few = absurd (omega arith)
