use Rattle.std.proofs.Common.{◌≡◌, ap, sym, subst, ◌∙◌, ◌+◌, length}
use Rattle.std.specs.List.{prefix_len, suffix_len}
use Rattle.std.specs.Str.{IsCharBoundary}
use Rattle.spec_script.specs.Trim.{is_space}
use Rattle.sp_clean.proofs.FormLaws.{boundary-prefix, boundary-suffix, boundary-max}
use Rattle.sp_clean.proofs.spaces.trim.Goals as goal
use Rattle.sp_clean.proofs.spaces.trim.Goals.{After-max-to}

start : (c : After-max-to) → IsCharBoundary c.args.text.now c.spaces_before-from.result
start c =
    subst (IsCharBoundary c.args.text.now) (sym (c.spaces_before-from.ensures.value ∙ ap (prefix_len is_space) c.as_bytes-bytes.ensures.value))
    (boundary-prefix c.args.text.now c.utf8.text)

pub range-requires-clause-start_boundary : goal.range-requires-clause-start_boundary
range-requires-clause-start_boundary c = λ _. start c

pub range-requires-clause-end_boundary : goal.range-requires-clause-end_boundary
range-requires-clause-end_boundary c =
    boundary-max c.args.text.now _ c.end_before_spaces.result _ (start c)
    (boundary-suffix c.args.text.now c.end_before_spaces.result
    (subst (λ t. c.end_before_spaces.result + suffix_len is_space t ≡ length t) c.as_bytes-bytes.ensures.value c.end_before_spaces.ensures))
    c.max-to.ensures
