use Rattle.std.proofs.Common.{◌≡◌, ℕ, ◌<◌, List, [], ◌++◌, length, take, Some, None, ap, sym, ◌∙◌, subst, arith}
use Rattle.std.specs.Prelude.{IfSome, option_map}
use Rattle.std.specs.declared.option.Option.{Option}
use Rattle.std.proofs.lemmas.List.{take_all, length-take}
use Rattle.sp_system.proofs.files.read_file.Goals as goal

-- Where fewer bytes came than were asked for, they are all.
read-whole : (known : Option (List ℕ)) (asked : ℕ) (bytes front : List ℕ) → IfSome (option_map (take asked) known) (λ xs. bytes ≡ front ++ xs) → front ≡ [] → length bytes < asked
    → IfSome known (λ xs. Some xs ≡ Some bytes)
read-whole None asked bytes front came none few = tt
read-whole (Some xs) asked bytes front came none few =
    let got : bytes ≡ take asked xs = came ∙ ap (λ ys. ys ++ take asked xs) none in
    let size = ap length got in
    let cut = length-take asked xs in
    let whole = take_all asked xs (omega (arith, size, cut, few)) in
    ap Some (sym (got ∙ whole))

pub returns-else-len-most-clause-gives : goal.returns-else-len-most-clause-gives
returns-else-len-most-clause-gives g c =
    let bytes = c.read_to_end.new.buf in
    let asked = c.take.ensures.limit ∙ c.saturating_add.ensures in
    let few : length bytes.items < c.take.result.limit = omega (arith, asked, c.if-len-most.false, c.len.ensures, bytes.ok.0, bytes.ok.1, bytes.small) in
    subst (λ file. IfSome (g.R.Read.remaining file) (λ xs. Some xs ≡ Some bytes.items)) c.take.ensures.inner
    (read-whole (g.R.Read.remaining c.take.result.inner) c.take.result.limit bytes.items c.new-bytes.result.items c.in_ok-read_to_end.ensures.bytes c.new-bytes.ensures.items few)
