use Rattle.std.proofs.Common.{◌≡◌, ℕ, ◌+◌, ◌-◌, ◌≤◌, ◌++◌, drop, map, reverse, slice_range, take, vec_len, sym, ap, ap₂, ◌∙◌, arith}
use Rattle.std.proofs.lemmas.List.Elements.{All-append, All-drop, All-same, All-take}
use Rattle.sp_gap.specs.Runs.{exchanged}
use Rattle.sp_gap.specs.Gaps.{mirrored}
use Rattle.sp_gap.proofs.GapPlaceLaws.{All-reverse, All-turned, map-slice, mirrored-base, mirrored-low, traded-back, traded-items}
use Rattle.sp_gap.proofs.gap_places.trade_behind.Goals as goal

pub mirror_all-requires-2 : goal.mirror_all-requires-2
mirror_all-requires-2 c =
    let a = c.args in
    let places = reverse a.back.now.items in
    let n = a.from - a.ahead in
    let m = a.to - a.ahead in
    let start : vec_len a.back.now - (a.ahead + c.len.result - a.from) ≡ n = omega (arith, c.len.ensures, c.requires.behind, c.requires.order, c.requires.within) in
    let stop : vec_len a.back.now - (a.ahead + c.len.result - a.to) ≡ m = omega (arith, c.len.ensures, c.requires.behind, c.requires.order, c.requires.within) in
    All-same (λ place. place ≤ a.end - a.base) c.trade_turned.new.items.items (slice_range places n m) (c.trade_turned.ensures.items ∙ ap₂ (λ i j. slice_range places i j) start stop)
    (mirrored-base a.base a.end (slice_range places n m)
    (All-take (λ place. place ≤ a.end) (m - n) (drop n places) (All-drop (λ place. place ≤ a.end) n places (All-reverse (λ place. place ≤ a.end) a.back.now.items c.requires.back_low)))
    (All-same (λ place. a.base ≤ place) (map (mirrored a.end) (slice_range places n m)) (slice_range (map (mirrored a.end) places) n m) (sym (map-slice (mirrored a.end) places n m)) c.requires.run))

pub returns-clause-back : goal.returns-clause-back
returns-clause-back c =
    let a = c.args in
    let places = reverse a.back.now.items in
    let came = c.mirror_all.new.places.items in
    let n = a.from - a.ahead in
    let m = a.to - a.ahead in
    let start : vec_len a.back.now - (a.ahead + c.len.result - a.from) ≡ n = omega (arith, c.len.ensures, c.requires.behind, c.requires.order, c.requires.within) in
    let stop : vec_len a.back.now - (a.ahead + c.len.result - a.to) ≡ m = omega (arith, c.len.ensures, c.requires.behind, c.requires.order, c.requires.within) in
    traded-back places a.items.now.items came (reverse c.trade_turned.new.list.items) a.end a.base n m c.requires.base c.requires.low c.mirror_all.ensures.places
    (c.trade_turned.ensures.list ∙ ap₂ (λ i j. exchanged places i j came) start stop)

pub returns-clause-items : goal.returns-clause-items
returns-clause-items c =
    let a = c.args in
    let places = reverse a.back.now.items in
    let n = a.from - a.ahead in
    let m = a.to - a.ahead in
    let start : vec_len a.back.now - (a.ahead + c.len.result - a.from) ≡ n = omega (arith, c.len.ensures, c.requires.behind, c.requires.order, c.requires.within) in
    let stop : vec_len a.back.now - (a.ahead + c.len.result - a.to) ≡ m = omega (arith, c.len.ensures, c.requires.behind, c.requires.order, c.requires.within) in
    c.mirror_all-2.ensures.places
    ∙ ap (map (mirrored (a.end - a.base))) (c.trade_turned.ensures.items ∙ ap₂ (λ i j. slice_range places i j) start stop)
    ∙ traded-items places a.end a.base n m

pub returns-clause-back_low : goal.returns-clause-back_low
returns-clause-back_low c =
    let a = c.args in
    let places = reverse a.back.now.items in
    let came = c.mirror_all.new.places.items in
    let P = λ (place : ℕ). place ≤ a.end in
    let i = vec_len a.back.now - (a.ahead + c.len.result - a.from) in
    let j = vec_len a.back.now - (a.ahead + c.len.result - a.to) in
    let low = All-reverse P a.back.now.items c.requires.back_low in
    All-turned P c.trade_turned.new.list.items
    (All-same P (reverse c.trade_turned.new.list.items) (exchanged places i j came) c.trade_turned.ensures.list
    (All-append P (take i places) (came ++ drop j places) (All-take P i places low)
    (All-append P came (drop j places)
    (All-same P came (map (mirrored (a.end - a.base)) a.items.now.items) c.mirror_all.ensures.places (mirrored-low a.end (a.end - a.base) (omega arith) a.items.now.items))
    (All-drop P j places low))))
