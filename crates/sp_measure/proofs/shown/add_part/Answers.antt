-- A part makes the last run longer, or ends it.
use Rattle.std.proofs.Common.{◌≡◌, ℕ, ◌+◌, ◌<◌, ◌==◌, ◌&&◌, false, true, Option, List, ◌∷◌, [], ◌++◌, length, sym, ap, ◌∙◌, arith, append_assoc}
use Rattle.spec_script.specs.declared.Run.{Run}
use Rattle.spec_pages.specs.declared.Cluster.{Cluster}
use Rattle.spec_pages.specs.Clusters.{byte_clusters}
use Rattle.spec_pages.specs.Wrapping.{runs_from}
use Rattle.sp_measure.specs.Shown.{runs_behind}
use Rattle.sp_measure.proofs.Windows.{runs_from-joined, runs_from-other, runs_of-first}
use Rattle.sp_measure.proofs.shown.add_part.Goals as goal

pub returns-in_default : goal.returns-in_default
returns-in_default c bytes more long =
    let part = c.args.part in
    let some : 0 < length bytes = omega (arith, long, c.if-part.false) in
    ap (λ (rs : List Run). c.args.done.now.items ++ rs)
    (sym (ap (λ (last : Option Run). runs_behind last (byte_clusters part.style part.from bytes ++ more)) c.in_default.is
    ∙ runs_of-first part.style part.from bytes more some
    ∙ ap (λ (to : ℕ). runs_from (record { from = part.from; to = to; style = part.style }) more) long))

pub returns-then-goes_on : goal.returns-then-goes_on
returns-then-goes_on c bytes more long =
    let part = c.args.part in
    let before = c.in-Some.before in
    ap (λ (rs : List Run). c.args.done.now.items ++ rs)
    (sym (ap (λ (last : Option Run). runs_behind last (byte_clusters part.style part.from bytes ++ more)) c.in-Some.is
    ∙ runs_from-joined before part.style part.from bytes more (sym c.goes_on.ensures ∙ c.if-goes_on.true)
    ∙ ap (λ (to : ℕ). runs_from (record { from = before.from; to = to; style = before.style }) more) long))

pub returns : goal.returns
returns c bytes more long =
    let part = c.args.part in
    let before = c.in-Some.before in
    let old = c.args.done.now.items in
    let some : 0 < length bytes = omega (arith, long, c.if-part.false) in
    ap (λ (l : List Run). l ++ runs_from part more) c.in_ok-push.ensures.items
    ∙ append_assoc old (before ∷ []) (runs_from part more)
    ∙ ap (λ (rs : List Run). old ++ rs)
    (sym (ap (λ (last : Option Run). runs_behind last (byte_clusters part.style part.from bytes ++ more)) c.in-Some.is
    ∙ runs_from-other before part.style part.from bytes more some (sym c.goes_on.ensures ∙ c.if-goes_on.false)
    ∙ ap (λ (to : ℕ). before ∷ runs_from (record { from = part.from; to = to; style = part.style }) more) long))
