-- The law of packets on bytes.
use Rattle.std.proofs.Common.{◌≡◌, inl, inr, ℕ, ◌+◌, Bool, true, false, cond, List, [], ◌∷◌, ◌++◌, map, refl, ap, ap₂, sym, subst, ◌∙◌}
use Rattle.std.specs.Prelude.{All, AllPairs, filter}
use Rattle.std.specs.List.{flat_map}
use Rattle.spec_text.proofs.ListLaws.{pairs-head, pairs-tail}
use Rattle.spec_labels.specs.Labels.{IsLabel, Below}
use Rattle.spec_labels.specs.PageRecords.{PageRecordOf, RisingRecords, SegmentOf, segments, is_empty, owner_of, SheetOf, segment_pages, page_sheets, omitted_sheet, runs_of, run_sheets, sheets_of_records}
use Rattle.spec_labels.proofs.SheetLaws.{in_runs, runs_of-all, sheets-AreSheets, segments-All}
use Rattle.spec_packet.specs.SheetLists.{PrintedOf, list_bytes, IsIn, InOrder, UpTo, Before, AreRising}
use Rattle.spec_packet.specs.SheetReadings.{title, labelled}
use Rattle.spec_packet.specs.Pieces.{IsPiece, ArePieces}
use Rattle.spec_packet.specs.Collations.{sheet_of, is_handed}
use Rattle.spec_packet.specs.BytesCollated.{collated_bytes, collating, collating_lists}
use Rattle.spec_packet.specs.Packets.{LaidOf, laid_sheets, printed_of, laid_printed, laid_choices, LabelsRise, Unchanged}
use Rattle.spec_packet.specs.PrintedTexts.{Prints, PrintsTitle, printed_text, printed_packet, IsPrinted}
use Rattle.spec_packet.proofs.Lists.{in-map, map-in, filter-in, order-map, map-order, order-filter, order-front, order-back}
use Rattle.spec_packet.proofs.PieceLaws.{labelled-piece, title-piece}
use Rattle.spec_packet.proofs.ReadingLaws.{sheets-read}
use Rattle.spec_packet.proofs.RunCuts.{all-in}
use Rattle.spec_packet.proofs.ChoiceLaws.{cut-at, flat-in, choices-present}
use Rattle.spec_packet.proofs.PacketLaws.{in-runs-middle}
use Rattle.spec_packet.proofs.PacketLaw.{omitted-last, packet-law}

-- Pairs by index are pairs in order.
pub pairs-order : {X : Type 0} (R : X → X → Type 0) (xs : List X) → AllPairs R xs → InOrder R xs
pairs-order R [] pairs = tt
pairs-order R (x ∷ xs) pairs = ((λ y is. all-in (R x) y xs (pairs-head R x xs pairs) is), pairs-order R xs (pairs-tail R x xs pairs))

-- The labels of segments rise with those of their records.
pub segments-rise : (rows : ℕ) (records : List PageRecordOf) (starts : List ℕ) → RisingRecords records → InOrder LabelsRise (segments rows records starts)
segments-rise rows [] starts rising = tt
segments-rise rows (it ∷ records) [] rising = tt
segments-rise rows (it ∷ records) (start ∷ starts) rising =
    let R = λ (one other : PageRecordOf). Below one.label other.label in (
      (λ y is. record {
        below = all-in (λ (s : SegmentOf). Below it.label s.owner.label) y (segments rows records starts)
            (segments-All (Below it.label) rows records starts (pairs-head R it records rising)) is;
      }),
      segments-rise rows records starts (pairs-tail R it records rising),
    )

-- A page has one label.
page-span : (segment : SegmentOf) (m : ℕ) (pages : List ℕ) (sheet : SheetOf) → IsIn sheet (page_sheets segment m pages) → sheet.first ≡ sheet.last
page-span segment m [] sheet is = absurd is
page-span segment m (page ∷ later) sheet is = elim is [
  | inl same ↦ subst (λ (s : SheetOf). s.first ≡ s.last) same refl
  | inr behind ↦ page-span segment (m + 1) later sheet behind
]

-- No sheet ends below its first label.
sheet-span : (laid : LaidOf) → InOrder LabelsRise laid.segments → (sheet : SheetOf) → IsIn sheet (laid_sheets laid) → UpTo sheet.first sheet.last
sheet-span laid order sheet is =
    let run = flat-in (run_sheets laid.pages) sheet (runs_of laid.segments) is in
    let cut = cut-at run.it (runs_of laid.segments) run.there in
    let parts : laid.segments ≡ in_runs cut.front ++ (run.it ++ in_runs cut.back) = sym (runs_of-all laid.segments) ∙ ap in_runs cut.is ∙ in-runs-middle cut.front run.it cut.back in
    by-run run.it
    (order-front LabelsRise run.it (in_runs cut.back) (order-back LabelsRise (in_runs cut.front) (run.it ++ in_runs cut.back) (subst (InOrder LabelsRise) parts order))) run.here
  where
    by-run : (run : List SegmentOf) → InOrder LabelsRise run → IsIn sheet (run_sheets laid.pages run) → UpTo sheet.first sheet.last
    by-run [] own here = absurd here
    by-run (segment ∷ others) own here = by (is_empty segment) here
      where
        by : (b : Bool) → IsIn sheet (cond b (omitted_sheet segment.start segment.owner (map owner_of others) ∷ []) (page_sheets segment 0 (segment_pages segment laid.pages))) → UpTo sheet.first sheet.last
        by true here = elim here [
          | inl same ↦ subst (λ (s : SheetOf). UpTo s.first s.last) same (omitted-last segment.start segment segment others own (inl refl))
          | inr never ↦ absurd never
        ]
        by false here = inl (page-span segment 0 (segment_pages segment laid.pages) sheet here)

-- The sheets of records rise.
pub laid-rising : (rows : ℕ) (records : List PageRecordOf) (starts : List ℕ) (laid : LaidOf) → laid.segments ≡ segments rows records starts
    → All (λ (it : PageRecordOf). IsLabel it.label) records → RisingRecords records → AreRising (laid_printed laid)
laid-rising rows records starts laid is labels rising =
    let are = sheets-AreSheets rows records starts laid.pages labels rising in
    let same : sheets_of_records rows records starts laid.pages ≡ laid_sheets laid = ap (λ (ss : List SegmentOf). flat_map (run_sheets laid.pages) (runs_of ss)) (sym is) in
    let order : InOrder (λ (one other : SheetOf). Below one.last other.first) (laid_sheets laid) =
    subst (InOrder (λ (one other : SheetOf). Below one.last other.first)) same (pairs-order (λ (one other : SheetOf). Below one.last other.first) (sheets_of_records rows records starts laid.pages) are.rising) in
    record {
      spans = λ sheet there.
          let from = map-in (printed_of laid) sheet (laid_sheets laid) there in
          subst (λ (p : PrintedOf). UpTo p.label.first p.label.last) from.is
          (sheet-span laid (subst (InOrder LabelsRise) (sym is) (segments-rise rows records starts rising)) from.it from.there);
      order = order-map Before (printed_of laid) (laid_sheets laid) (weaker (laid_sheets laid) order);
    }
  where
    weaker : (sheets : List SheetOf) → InOrder (λ (one other : SheetOf). Below one.last other.first) sheets → InOrder (λ one other. Before (printed_of laid one) (printed_of laid other)) sheets
    weaker [] order = tt
    weaker (sheet ∷ sheets) order = ((λ y is. record { below = order.0 y is }), weaker sheets order.1)

-- A printed text is a list of sheets, and so is each choice among its sheets.
title-is : (bytes : List ℕ) → PrintsTitle bytes → IsPiece title bytes
title-is bytes is = subst (IsPiece title) (sym is.is) (title-piece is.round is.rows is.plain)

sheet-is : (laid : LaidOf) (sheet : SheetOf) → UpTo sheet.first sheet.last → Prints laid sheet → IsPiece (labelled (printed_of laid sheet).label) (printed_of laid sheet).bytes
sheet-is laid sheet order is =
    subst (IsPiece (labelled (record { first = sheet.first; last = sheet.last }))) (sym is.is)
    (labelled-piece sheet.round (record { first = sheet.first; last = sheet.last }) is.rows is.plain (record { first = is.first; last = is.last; order = order }))

printed-is : (titles : List (List ℕ)) (laid : LaidOf) → IsPrinted titles laid → AreRising (laid_printed laid) → (sheet : PrintedOf) → IsIn sheet (laid_printed laid) → IsPiece (labelled sheet.label) sheet.bytes
printed-is titles laid are rising sheet is =
    let from = map-in (printed_of laid) sheet (laid_sheets laid) is in
    let span = rising.spans (printed_of laid from.it) (in-map (printed_of laid) from.it (laid_sheets laid) from.there) in
    subst (λ (p : PrintedOf). IsPiece (labelled p.label) p.bytes) from.is (sheet-is laid from.it span (are.sheets_are from.it from.there))

pub text-pieces : (titles : List (List ℕ)) (laid : LaidOf) → IsPrinted titles laid → AreRising (laid_printed laid) → ArePieces (printed_text titles laid)
text-pieces titles laid are rising = record {
  titles = λ bytes is. title-is bytes (are.titles_are bytes is);
  sheets = printed-is titles laid are rising;
  order = rising.order;
}

pub packet-pieces : (round : ℕ) (titles : List (List ℕ)) (laid : LaidOf) → IsPrinted titles laid → AreRising (laid_printed laid) → ArePieces (printed_packet round titles laid)
packet-pieces round titles laid are rising =
    let choices = laid_choices round laid in
    let present = choices-present round laid in
    let order : InOrder (λ a b. Before (sheet_of a) (sheet_of b)) choices = map-order Before sheet_of choices (subst (InOrder Before) (sym present) rising.order) in
    record {
      titles = λ bytes is. title-is bytes (are.titles_are bytes is);
      sheets = λ sheet is.
          let from = map-in sheet_of sheet (filter is_handed choices) is in
          let there = in-map sheet_of from.it choices (filter-in is_handed from.it choices from.there).there in
          printed-is titles laid are rising sheet (subst (λ (p : PrintedOf). IsIn p (laid_printed laid)) from.is (subst (IsIn (sheet_of from.it)) present there));
      order = order-map Before sheet_of (filter is_handed choices) (order-filter (λ a b. Before (sheet_of a) (sheet_of b)) is_handed choices order);
    }

-- The law of packets: the sheets at the opening, printed, collated with the printed packet, are the printed sheets.
pub packet-bytes : (round : ℕ) (old titles : List (List ℕ)) (was now : LaidOf) → Unchanged round was now → AreRising (laid_printed was) → AreRising (laid_printed now)
    → IsPrinted old was → IsPrinted titles now
    → collating (list_bytes (printed_text old was)) (list_bytes (printed_packet round titles now)) ≡ collated_bytes (list_bytes (printed_text titles now))
packet-bytes round old titles was now law before after were are =
    ap₂ collating_lists (sheets-read (printed_text old was) (text-pieces old was were before)) (sheets-read (printed_packet round titles now) (packet-pieces round titles now are after))
    ∙ ap (λ (list : List PrintedOf). collated_bytes (list_bytes (record { titles = titles; labelled = list }))) (packet-law round was now law before after)
