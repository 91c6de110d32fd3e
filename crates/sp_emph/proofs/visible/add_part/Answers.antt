-- One piece more: what is left begins with its bytes, which look alike.
use Rattle.std.proofs.Common.{◌≡◌, ℕ, ◌+◌, List, ◌++◌, Option, None, length, get_or, replicate, take, drop, sym, ap, ◌∙◌, arith}
use Rattle.std.proofs.lemmas.List.{take-append-drop}
use Rattle.spec_script.specs.declared.Run.{Run}
use Rattle.spec_script.specs.Emphasis.{seen_run, byte_runs}
use Rattle.spec_script.proofs.JoinLaws.{joined-piece}
use Rattle.sp_emph.specs.Joining.{joined_with}
use Rattle.sp_emph.proofs.visible.add_part.Goals as goal

begins : (rest after : List (Option ℕ)) (n : ℕ) (look : Option ℕ) → take n rest ≡ replicate n look → after ≡ drop n rest → replicate n look ++ after ≡ rest
begins rest after n look alike behind =
    ap (λ l. l ++ after) (sym alike) ∙ ap (λ l. take n rest ++ l) behind ∙ take-append-drop n rest

pub loop-rest-preserved : goal.loop-rest-preserved
loop-rest-preserved c =
    let runs = c.loop-rest.runs in
    let place = c.loop-rest.place in
    let rest = c.loop-rest.rest.now in
    let look = get_or rest 0 None in
    let n = c.stretch_len.result in
    let after = c.split_at.result.1.now in
    let size : length c.split_at.result.0.now ≡ n = c.split_at.ensures.front_len in
    let whole = begins rest after n look c.stretch_len.ensures.alike c.split_at.ensures.back in
    record {
      left = omega (arith, c.loop-rest.invariant.left, c.split_at.ensures.back_len);
      added = λ more.
          c.in_ok-add_piece.ensures (byte_runs (place + length c.split_at.result.0.now) after ++ more)
          ∙ ap (λ k. joined_with runs (seen_run place (place + k) look ++ (byte_runs (place + k) after ++ more))) size
          ∙ ap (λ (rs : List Run). runs.done.items ++ rs) (joined-piece runs.last place n look after more c.stretch_len.ensures.some)
          ∙ ap (λ l. joined_with runs (byte_runs place l ++ more)) whole
          ∙ c.loop-rest.invariant.added more;
    }
