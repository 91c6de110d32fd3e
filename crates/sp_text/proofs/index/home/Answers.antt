use Rattle.std.proofs.Common.{◌+◌, ◌*◌, ◌/◌, ◌%◌, ℕ, cond, sym, ap}
use Rattle.std.proofs.lemmas.Bool.{lt-ltb, le-ltb}
use Rattle.sp_text.specs.Index.{home_of}
use Rattle.sp_text.proofs.index.home.Goals as goal

pub returns-then-place-len-clause-value : goal.returns-then-place-len-clause-value
unfolding home_of
returns-then-place-len-clause-value c =
    let place : ℕ = c.args.id / 16 % 4294967296 * 2654435769 % 4294967296 * c.args.len / 4294967296 + c.args.id % 16 in
    sym (ap (λ b. cond b place 0) (lt-ltb place c.args.len c.if-place-len.true))

pub returns-else-place-len-clause-value : goal.returns-else-place-len-clause-value
unfolding home_of
returns-else-place-len-clause-value c =
    let place : ℕ = c.args.id / 16 % 4294967296 * 2654435769 % 4294967296 * c.args.len / 4294967296 + c.args.id % 16 in
    sym (ap (λ b. cond b place 0) (le-ltb place c.args.len c.if-place-len.false))
