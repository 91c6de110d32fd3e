use Rattle.std.proofs.Common.{ℕ, ◌≤◌, ◌-◌, List, ap, sym, ◌∙◌, get_or, leb, rules, inl, inr, arith}
use Rattle.std.specs.Prelude.{AllPairs}
use Rattle.std.specs.List.Sorted.{IsNonDecreasingBy}
use Rattle.std.proofs.lemmas.Bool.{cases_eq}
use Rattle.std.proofs.lemmas.List.Sorted.{IsPartitionPoint-from_clause, IsPartitionedBy-leb}
use Rattle.std.proofs.lemmas.List.Sums.{prefix_len_is}
use Rattle.sp_packet.proofs.cue.place_with.Goals as goal

never-falls : (starts : List ℕ) → AllPairs (λ one other. one ≤ other) starts → IsNonDecreasingBy (λ (start : ℕ). start) starts
never-falls starts order i j d upto inside = elim (cases_eq i j) [ inl same ↦ omega (arith, ap (λ k. get_or starts k d) same) | inr other ↦ order i j d (omega arith) inside ]

pub returns : goal.returns
returns c =
    let row = c.args.row in
    let starts = c.args.starts.now in
    let parted = IsPartitionedBy-leb (λ start. start) starts row (never-falls starts c.requires) in
    let point = IsPartitionPoint-from_clause (λ start. leb start row) _ _ c.partition_point.ensures.partitioned parted (λ a r q k. search rules) in
    c.saturating_sub.ensures
    ∙ ap (λ n. n - 1)
    (sym (prefix_len_is (λ start. leb start row) starts c.partition_point.result 0 c.partition_point.ensures.bound (λ k below. point.0 k 0 (omega arith) below) (λ inside. point.1 c.partition_point.result 0 (omega arith) inside)))
