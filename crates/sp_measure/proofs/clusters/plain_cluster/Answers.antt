-- Such a character is one cluster of one column.
use Rattle.std.proofs.Common.{ℕ, ◌+◌, ◌==◌, [], ◌∷◌, List, length, slice_index, ap, ◌∙◌}
use Rattle.spec_pages.specs.declared.Cluster.{Cluster}
use Rattle.sp_measure.proofs.PlainClusters.{clusters_at-plain}
use Rattle.sp_measure.proofs.clusters.plain_cluster.Goals as goal

pub returns-clause-value : goal.returns-clause-value
returns-clause-value c =
    let part = c.args.part.now in
    let cluster = λ (bytes : List ℕ). let made : Cluster = record { from = c.args.from; to = c.args.from + length part; width = 1; style = c.args.style; space = slice_index bytes 0 == 32 } in made ∷ [] in
    ap cluster c.as_bytes.ensures.value
    ∙ clusters_at-plain c.args.style c.args.from part c.utf8.part c.requires.some c.requires.plain
