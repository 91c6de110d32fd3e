use Rattle.std.proofs.Common.{ℕ, sym, subst, ap, ◌∙◌, ◌++◌}
use Rattle.std.specs.Prelude.{codes, string_bytes}
use Rattle.std.proofs.lemmas.Str.{IsUtf8-string_bytes}
use Rattle.json.specs.Print.{quoted}
use Rattle.spec_wire.specs.Replies.{round}
use Rattle.sp_wire.specs.Values.{refusal_of}
use Rattle.sp_wire.specs.Done.{IsFront}
use Rattle.sp_wire.proofs.FrontLaws.{edited-front, pages-front, round-front, saved-front, scenes-front, set-front, shelf-front}
use Rattle.sp_wire.proofs.done.put_front.Goals as goal

pub returns-in-Edited-clause-front : goal.returns-in-Edited-clause-front
returns-in-Edited-clause-front c =
    let one = c.put_number.ensures in
    let two = c.put_number-in-Edited.ensures in
    rw c.in-Edited.is (edited-front _ _ _ c.in-Edited.lines c.in-Edited.sheets c.requires.empty one.items two.items one.word two.word one.short two.short)

pub returns-in-Set-clause-front : goal.returns-in-Set-clause-front
returns-in-Set-clause-front c =
    let it = c.put_number-in-Set.ensures in rw c.in-Set.is (set-front _ _ c.in-Set.sheets c.requires.empty it.items it.word it.short)

pub returns-in-Scenes-clause-front : goal.returns-in-Scenes-clause-front
returns-in-Scenes-clause-front c =
    let it = c.put_number-in-Scenes.ensures in rw c.in-Scenes.is (scenes-front _ _ c.in-Scenes.records c.requires.empty it.items it.word it.short)

pub returns-in-Pages-clause-front : goal.returns-in-Pages-clause-front
returns-in-Pages-clause-front c =
    let it = c.put_number-in-Pages.ensures in rw c.in-Pages.is (pages-front _ _ c.in-Pages.records c.requires.empty it.items it.word it.short)

pub returns-in-Round-clause-front : goal.returns-in-Round-clause-front
returns-in-Round-clause-front c =
    let text = c.put_text.ensures.items ∙ ap (λ t. c.args.line.now.items ++ (codes "{\"name\":" ++ quoted t)) c.as_str.ensures.value in
    let number = c.put_number-in-Round.ensures in
    rw c.in-Round.is
    (subst (λ (n : ℕ). IsFront c.put_number-in-Round.new.line.items (round (string_bytes c.in-Round.name) n)) c.from.ensures
    (round-front _ _ _ (string_bytes c.in-Round.name) c.from.result c.requires.empty text number.items (rw c.in-Round.is at c.requires.plain) (IsUtf8-string_bytes c.in-Round.name) number.word number.short))

pub returns-in-Saved-clause-front : goal.returns-in-Saved-clause-front
returns-in-Saved-clause-front c =
    let text = c.put_text-in-Saved.ensures.items ∙ ap (λ t. c.args.line.now.items ++ (codes "{\"digest\":" ++ quoted t)) c.as_str-in-Saved.ensures.value in
    rw c.in-Saved.is (saved-front _ _ _ (string_bytes c.in-Saved.digest) c.requires.empty text c.put_bytes.ensures.items (rw c.in-Saved.is at c.requires.plain) (IsUtf8-string_bytes c.in-Saved.digest))

pub returns-else-not-is_shelf-clause-front : goal.returns-else-not-is_shelf-clause-front
returns-else-not-is_shelf-clause-front c =
    rw c.in-Refused.is (shelf-front _ _ (refusal_of c.in-Refused.reason) (sym c.is_shelf.ensures ∙ c.if-not-is_shelf.false) c.requires.empty c.put_bytes-in-Refused.ensures.items)
