-- The runs of a line read one after another, and the clusters made so far.
use Rattle.std.proofs.Common.{◌≡◌, ℕ, ◌+◌, ◌-◌, ◌*◌, ◌<◌, ◌≤◌, true, List, ◌∷◌, ◌++◌, length, get_or, drop, map, flat_map, slice_range, sym, ap, subst, ◌∙◌, append_assoc, arith}
use Rattle.std.proofs.lemmas.List.{at_drop_more}
use Rattle.spec_script.specs.declared.Run.{Run}
use Rattle.spec_script.specs.Runs.{span_of}
use Rattle.spec_text.specs.Parts.{Lies, Parts}
use Rattle.spec_pages.specs.declared.Cluster.{Cluster}
use Rattle.spec_pages.specs.Wrapping.{total_width}
use Rattle.spec_pages.specs.Clusters.{clusters_at, clusters_in}
use Rattle.unicode_segmentation.specs.Grapheme.{graphemes}

-- The runs that are left begin not before a place, and what was made is no wider than four columns a byte before it.
pub record IsReading (text : List ℕ) (made : List Cluster) (left : List Run) : Type 0 where
  pub place : ℕ
  pub within : place ≤ length text
  pub wide : total_width made ≤ 4 * place
  pub parts : Parts text place (map span_of left)

module _ (text : List ℕ) (made : List Cluster) (runs : List Run) (n : ℕ) (d : Run) (h : IsReading text made (drop n runs)) (inside : n < length runs) where
  next_part : Parts text h.place (map span_of (get_or runs n d ∷ drop (n + 1) runs))
  next_part = subst (λ rs. Parts text h.place (map span_of rs)) (at_drop_more (λ rs. rs) runs n d inside) h.parts

  pub IsReading-lies : Lies text (span_of (get_or runs n d))
  IsReading-lies = next_part.1

  pub IsReading-more : (more : List Cluster) → total_width more ≤ total_width made + 4 * ((get_or runs n d).to - (get_or runs n d).from)
      → IsReading text more (drop (n + 1) runs)
  IsReading-more more bound =
      let lies = next_part.1 in
      let order = lies.order in
      let before = next_part.0 in
      let wide = h.wide in
      record { place = (get_or runs n d).to; within = lies.end.0; wide = omega arith; parts = next_part.2 }

-- One more run's clusters are made.
pub made-more : (text part : List ℕ) (made more all : List Cluster) (runs : List Run) (n : ℕ) (d : Run) → n < length runs →
    let run = get_or runs n d in
    part ≡ slice_range text run.from run.to → more ≡ made ++ clusters_at run.style run.from (graphemes true part)
    → made ++ flat_map (clusters_in text) (drop n runs) ≡ all → more ++ flat_map (clusters_in text) (drop (n + 1) runs) ≡ all
made-more text part made more all runs n d inside is added same =
    let run = get_or runs n d in
    let rest = flat_map (clusters_in text) (drop (n + 1) runs) in
    ap (λ l. l ++ rest) (added ∙ ap (λ p. made ++ clusters_at run.style run.from (graphemes true p)) is)
    ∙ append_assoc made (clusters_in text run) rest ∙ ap (λ l. made ++ l) (sym (at_drop_more (flat_map (clusters_in text)) runs n d inside)) ∙ same
