use Rattle.std.proofs.Common.{rules, ◌≡◌, ◌<◌, ◌≤◌, Some, ◌∷◌, ◌++◌, [], true, false, length, map, get_or, append-nil, ap, sym, ◌∙◌, arith}
use Rattle.std.specs.Prelude.{string_bytes}
use Rattle.std.proofs.lemmas.List.{map-append, take_all}
use Rattle.spec_labels.specs.Labels.{label_text}
use Rattle.spec_cast.specs.Sides.{sheets_in}
use Rattle.sp_cast.specs.Keys.{label_of}
use Rattle.sp_cast.proofs.SheetTexts.{labels-step, texts-step}
use Rattle.sp_cast.proofs.writing.sheet_texts.Goals.{then-branch+in_ok-label_text+in_ok-push, else-branch}
use Rattle.sp_cast.proofs.writing.sheet_texts.Goals as goal

pub loop-spoken-preserved : goal.loop-spoken-preserved
loop-spoken-preserved c =
    let all = c.args.group.now in
    let i = c.loop-spoken.spoken-index in
    let item = c.spoken-item.result in
    let same : c.deref-spoken-items.result.now ≡ all = search rules in
    let label = c.said.inside.sheet in
    let sheet : label_of c.label_key.result ≡ label = search rules in
    let shown : item.sheet ≡ Some label = search rules in
    let size = ap length same in
    let inside : i < length all = let low = c.loop-spoken-test.true in omega (arith, low, size) in
    let here = c.spoken-item.is ∙ ap (λ those. get_or those i item) same in
    let old = map string_bytes c.loop-spoken.texts.items in
    let so_far = c.loop-spoken.invariant in
    record {
      labels = labels-step all i item label c.loop-spoken.sheets.keys _ c.label_key.result inside here shown sheet c.in_ok-insert.ensures.keys so_far.labels;
      texts = elim c.if-branch.branch [
        | then-branch+in_ok-label_text+in_ok-push w ↦
            texts-step all i item label c.loop-spoken.sheets.keys c.label_key.result old (map string_bytes c.if-branch.texts.items) true inside here shown sheet
            (sym w.if-branch.true ∙ c.in_ok-insert.ensures.added) so_far.labels so_far.texts
            (ap (λ v. map string_bytes v.items) w.texts-is ∙ ap (map string_bytes) w.in_ok-push.ensures.items ∙ map-append string_bytes c.loop-spoken.texts.items (w.in_ok-label_text.field-0 ∷ [])
            ∙ ap (λ text. old ++ text ∷ []) w.in_ok-label_text.ensures)
        | else-branch w ↦
            texts-step all i item label c.loop-spoken.sheets.keys c.label_key.result old (map string_bytes c.if-branch.texts.items) false inside here shown sheet
            (sym w.if-branch.false ∙ c.in_ok-insert.ensures.added) so_far.labels so_far.texts
            (ap (λ v. map string_bytes v.items) w.texts-is ∙ sym (append-nil old))
      ];
    }

pub returns : goal.returns
returns c =
    let same : c.deref-spoken-items.result.now ≡ c.args.group.now = search rules in
    let past : length c.args.group.now ≤ c.loop-spoken.spoken-index = let size = ap length same in let end = c.loop-spoken-test.false in omega (arith, size, end) in
    c.loop-spoken.invariant.texts ∙ ap (λ those. map label_text (sheets_in those)) (take_all c.loop-spoken.spoken-index c.args.group.now past)
