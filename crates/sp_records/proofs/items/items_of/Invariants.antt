use Rattle.std.proofs.Common.{◌≡◌, ◌++◌, drop, map}
use Rattle.std.specs.Prelude.{option_map}
use Rattle.serde_json.specs.View.{view, items_of}
use Rattle.spec_jsonback.specs.Lists.{all_in}
use Rattle.sp_records.proofs.items.items_of.Given as goal

abbrev pub invariant-loop-value : goal.invariant-loop-value
invariant-loop-value g l = option_map (λ rest. l.items.items ++ rest) (all_in g.T.Item.item (items_of (map view (drop l.value-index l.values)))) ≡ all_in g.T.Item.item (items_of (map view l.values))
