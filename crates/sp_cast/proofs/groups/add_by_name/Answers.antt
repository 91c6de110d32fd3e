use Rattle.std.proofs.Common.{rules, ◌≡◌, refl}
use Rattle.std.specs.Prelude.{bytes_eq}
use Rattle.std.proofs.lemmas.Result.{on_ok_weaker}
use Rattle.spec_cast.specs.Sides.{name_of}
use Rattle.sp_cast.specs.Keys.{lent_text}
use Rattle.sp_cast.proofs.KeyLaws.{added, lent_eq}
use Rattle.sp_cast.proofs.groups.add_by_name.Goals as goal

pub returns : goal.returns
returns c =
    let named : lent_text c.as_str.result ≡ name_of c.args.said.now = search rules in
    on_ok_weaker c.add_at.result (added lent_eq lent_text bytes_eq name_of (λ one other. refl) _ _ _ _ _ _ _ named c.in_ok-place.ensures.index c.in_ok-place.ensures.keys) c.add_at.ensures
