use Rattle.std.proofs.Common.{◌≡◌, ◌∷◌, ◌++◌, [], List, ℕ, true, sym, subst, ap, ◌∙◌}
use Rattle.std.specs.Prelude.{Some}
use Rattle.spec_script.specs.Letters.{ends}
use Rattle.spec_packet.specs.SheetReadings.{header_labels, follows}
use Rattle.sp_packet.specs.Reading.{Adds, last_label}
use Rattle.sp_packet.proofs.AddLaws.{adds-labelled, adds-title, breaks-title}
use Rattle.sp_packet.proofs.sheets.SheetList.add.Goals as goal

pub returns-then-not-has_only_titles-clause-refused : goal.returns-then-not-has_only_titles-clause-refused
returns-then-not-has_only_titles-clause-refused c =
    breaks-title c.args.self.now c.args.piece.now c.in-Some.header.now _ c.in-Some.ensures (cc (c.if-not-ends_in_stop.true, c.ends_in_stop.ensures)) (cc (c.if-not-has_only_titles.true, c.has_only_titles.ensures))

pub returns-then-not-ends_in_stop-clause-added : goal.returns-then-not-ends_in_stop-clause-added
returns-then-not-ends_in_stop-clause-added c =
    let old = c.args.self.now in
    let added = adds-title old c.args.piece.now c.in-Some.header.now _ c.in-Some.ensures (cc (c.if-not-ends_in_stop.true, c.ends_in_stop.ensures)) (cc (c.if-not-has_only_titles.false, c.has_only_titles.ensures)) in
    subst (Adds old c.args.piece.now) (ap (λ (b : List ℕ). record { titles = old.titles ++ (b ∷ []); labelled = old.labelled }) (sym c.requires) ∙ sym c.in_ok-add_title.ensures) added

pub returns-clause-added : goal.returns-clause-added
returns-clause-added c =
    let old = c.args.self.now in
    let piece = c.args.piece.now in
    let header = c.in-Some.header.now in
    let label = c.in-Some-2.label in
    let cut = c.in-Some.ensures in
    let stop : ends 46 header ≡ true = cc (c.if-not-ends_in_stop.false, c.ends_in_stop.ensures) in
    let labels : header_labels header ≡ Some label = sym c.in_ok-label.ensures ∙ c.in-Some-2.is in
    let follow : follows (last_label old) label.first ≡ true = cc (c.if-not-goes_on_with.false, c.goes_on_with.ensures) in
    let adds = adds-labelled old piece header c.in-Some.field-0-1.now label cut stop labels follow in
    let whole : (piece ++ (12 ∷ [])) ≡ c.args.whole.now = sym c.requires in
    subst (Adds old piece) (ap (λ (b : List ℕ). record { titles = old.titles; labelled = old.labelled ++ (record { label = label; bytes = b } ∷ []) }) whole ∙ sym c.in_ok-add_sheet.ensures) adds
