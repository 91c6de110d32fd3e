-- Clusters from a place on, by whether the one there is a space.
use Rattle.std.proofs.Common.{◌≡◌, ℕ, ◌+◌, ◌-◌, ◌<◌, Bool, true, false, cond, not, ◌||◌, List, ◌∷◌, length, get_or, take, drop, slice_range, sym, ap, ◌∙◌, arith, length-drop, take_all}
use Rattle.std.proofs.lemmas.List.{at_drop_more}
use Rattle.spec_pages.specs.declared.Cluster.{Cluster}
use Rattle.spec_pages.specs.Wrapping.{has_word, is_space_at, trim_start}
use Rattle.spec_pages.proofs.CutLemmas.{is_space_at-get}

abbrev blank : Cluster
blank = record { from = 0; to = 0; width = 0; style = 0; space = false }

pub space-get : (clusters : List Cluster) (place : ℕ) (d : Cluster) (b : Bool) → place < length clusters → b ≡ is_space_at clusters place
    → (get_or clusters place d).space ≡ b
space-get clusters place d b inside is = sym (is_space_at-get clusters place d inside) ∙ sym is

module _ (clusters : List Cluster) (place : ℕ) (inside : place < length clusters) where
  pub has_word-space : true ≡ is_space_at clusters place → has_word (drop place clusters) ≡ has_word (drop (place + 1) clusters)
  has_word-space is =
      at_drop_more has_word clusters place blank inside
      ∙ ap (λ b. not b || has_word (drop (place + 1) clusters)) (space-get clusters place blank true inside is)

  pub has_word-word : false ≡ is_space_at clusters place → has_word (drop place clusters) ≡ true
  has_word-word is =
      at_drop_more has_word clusters place blank inside
      ∙ ap (λ b. not b || has_word (drop (place + 1) clusters)) (space-get clusters place blank false inside is)

  pub trim_start-space : true ≡ is_space_at clusters place → trim_start (drop place clusters) ≡ trim_start (drop (place + 1) clusters)
  trim_start-space is =
      at_drop_more trim_start clusters place blank inside
      ∙ ap (λ b. cond b (trim_start (drop (place + 1) clusters)) (get_or clusters place blank ∷ drop (place + 1) clusters)) (space-get clusters place blank true inside is)

  pub trim_start-word : false ≡ is_space_at clusters place → trim_start (drop place clusters) ≡ drop place clusters
  trim_start-word is =
      at_drop_more trim_start clusters place blank inside
      ∙ ap (λ b. cond b (trim_start (drop (place + 1) clusters)) (get_or clusters place blank ∷ drop (place + 1) clusters)) (space-get clusters place blank false inside is)
      ∙ sym (at_drop_more (λ (cs : List Cluster). cs) clusters place blank inside)

pub range-to-end : (clusters : List Cluster) (from : ℕ) → slice_range clusters from (length clusters) ≡ drop from clusters
range-to-end clusters from = take_all (length clusters - from) (drop from clusters) (omega (arith, length-drop from clusters))

pub range-from-start : (clusters : List Cluster) (to : ℕ) → slice_range clusters 0 to ≡ take to clusters
range-from-start clusters to = ap (λ n. take n clusters) (let e : to - 0 ≡ to = omega arith in e)
