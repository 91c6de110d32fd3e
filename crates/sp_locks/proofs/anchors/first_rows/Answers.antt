use Rattle.std.proofs.Common.{◌≡◌, ℕ, ◌+◌, ◌<◌, List, [], ◌∷◌, ◌++◌, length, get_or, map, take, Bor, Some, sym, ap, ◌∙◌}
use Rattle.std.proofs.lemmas.List.{take_more, map-append}
use Rattle.std.specs.Option.{ForSome}
use Rattle.spec_labels.specs.PageRecords.{PageRecordOf, record_start}
use Rattle.sp_locks.proofs.anchors.first_rows.Goals as goal

-- One more start.
start-more : (f : PageRecordOf → ℕ) (records : List PageRecordOf) (i start : ℕ) (it : PageRecordOf) (old new : List ℕ) → i < length records → it ≡ get_or records i it → start ≡ f it → new ≡ old ++ start ∷ [] → old ≡ 0 ∷ map f (take i records) → new ≡ 0 ∷ map f (take (i + 1) records)
start-more f records i start it old new inside is told pushed same =
    let more = ap (map f) (take_more records i it inside) ∙ map-append f (take i records) (get_or records i it ∷ []) in
    pushed ∙ ap (λ l. l ++ start ∷ []) same ∙ ap (λ n. 0 ∷ (map f (take i records) ++ n ∷ [])) (told ∙ ap f is) ∙ sym (ap (λ l. 0 ∷ l) more)

-- What holds of a value holds of what is there.
for-some : (f : PageRecordOf → ℕ) (it : Bor PageRecordOf) (start : ℕ) → start ≡ f it.now → ForSome (Some it) (λ (x : Bor PageRecordOf). start ≡ f x.now)
for-some f it start told = λ x same. let one : it ≡ x = cc in told ∙ ap (λ (b : Bor PageRecordOf). f b.now) one

pub loop-record-preserved : goal.loop-record-preserved
loop-record-preserved c =
    let told = c.start_behind-start.ensures in
    let first_row = record_start c.args.lines.now.lines c.args.rows.now.items in
    record {
      starts = start-more first_row _ _ _ _ _ _ c.loop-record-test.true c.record-item.is told c.in_ok-push-2.ensures.items c.loop-record.invariant.starts;
      last = for-some first_row _ _ told;
    }
