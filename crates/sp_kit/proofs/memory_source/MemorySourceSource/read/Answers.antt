use Rattle.std.proofs.Common.{◌≡◌, ℕ, ◌+◌, ◌-◌, ◌≤◌, ◌<◌, min, List, [], ◌++◌, length, take, drop, ap, sym, ◌∙◌, arith, length-append, length-drop}
use Rattle.std.proofs.lemmas.List.{take_at, take_rest, take-append-drop, drop-drop, drop_all, length-take-le}
use Rattle.sp_kit.proofs.memory_source.MemorySourceSource.read.Goals as goal

-- What was copied and what stays are what was unread.
unread-copied : (bytes buf part : List ℕ) (at count : ℕ) → part ≡ take count (drop at bytes) → count ≤ length (drop at bytes)
    → drop at bytes ≡ take count (part ++ drop count buf) ++ drop (at + count) bytes
unread-copied bytes buf part at count is low =
    let len : length part ≡ count = ap length is ∙ length-take-le count (drop at bytes) low in
    sym (ap (λ xs. xs ++ drop (at + count) bytes) (take_at part (drop count buf) count len ∙ is)
    ∙ ap (λ xs. take count (drop at bytes) ++ xs) (sym (drop-drop count at bytes))
    ∙ take-append-drop count (drop at bytes))

-- Where nothing was copied into a buffer that has room, nothing is unread.
unread-none : (bytes buf part : List ℕ) (at count piece : ℕ) → length part ≡ count → 0 < piece → count ≡ min (min piece (length (drop at bytes))) (length buf)
    → count ≡ 0 → 0 < length (part ++ drop count buf) → drop (at + count) bytes ≡ []
unread-none bytes buf part at count piece len some is none room =
    drop_all (at + count) bytes
    (let a = length-append part (drop count buf) in
    let b = length-drop count buf in
    let d = length-drop at bytes in
    omega (arith, a, b, d))

pub returns-clause-bytes : goal.returns-clause-bytes
returns-clause-bytes c =
    let rest : take (length c.deref-2.result.now - c.self.inside.at) (drop c.self.inside.at c.deref-2.result.now) ≡ drop c.self.inside.at c.self.inside.bytes.items =
    take_rest c.deref-2.result.now c.self.inside.at ∙ ap (drop c.self.inside.at) c.deref-2.ensures.value in
    let size : c.min-count.result ≡ min (min c.self.inside.piece (length (drop c.self.inside.at c.self.inside.bytes.items))) (length c.args.buf.now) =
    c.min-count.ensures ∙ ap (λ n. min n (length c.args.buf.now)) (c.min.ensures ∙ ap (λ xs. min c.self.inside.piece (length xs)) rest) in
    let part : c.copy_from_slice.new.self ≡ take c.min-count.result (drop c.self.inside.at c.self.inside.bytes.items) =
    c.copy_from_slice.ensures.after ∙ ap (take c.min-count.result) rest in
    let low : c.min-count.result ≤ length (drop c.self.inside.at c.self.inside.bytes.items) = omega (arith, size) in
    let len : length c.copy_from_slice.new.self ≡ c.min-count.result =
    ap length part ∙ length-take-le c.min-count.result (drop c.self.inside.at c.self.inside.bytes.items) low in (
      sym (ap (λ v. v.unread) c.self.view_is) ∙ unread-copied c.self.inside.bytes.items c.args.buf.now c.copy_from_slice.new.self c.self.inside.at c.min-count.result part low,
      unread-none c.self.inside.bytes.items c.args.buf.now c.copy_from_slice.new.self c.self.inside.at c.min-count.result c.self.inside.piece len c.self.invariant.1 size,
    )
