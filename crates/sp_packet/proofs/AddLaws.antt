-- The next sheet of a list.
use Rattle.std.proofs.Common.{◌≡◌, inl, inr, ℕ, ◌+◌, ◌-◌, ◌<◌, ◌≤◌, ◌==◌, Bool, true, false, not, cond, List, [], ◌∷◌, ◌++◌, length, take, get_or, refl, ap, ap₂, sym, ◌∙◌, append_assoc, length-append, eqb-true, arith}
use Rattle.std.specs.Prelude.{Option, Some, None, slice_get}
use Rattle.std.specs.List.{after_first, slice_split, position_or_len}
use Rattle.spec_script.specs.Letters.{ends}
use Rattle.spec_labels.specs.Labels.{LabelOf}
use Rattle.spec_sheets.specs.Sheets.{SheetLabelOf}
use Rattle.spec_packet.specs.SheetLists.{PrintedOf, SheetListOf}
use Rattle.spec_packet.specs.SheetReadings.{header_in, header_labels, PieceKind, title, labelled, no_sheet, kind_by_labels, kind_of, SheetsReading, sheets, broken, with_title, with_labelled, is_first, follows, read_piece, read_pieces, sheets_in}
use Rattle.std.proofs.lemmas.Grind.{common_steps}
use Rattle.std.proofs.lemmas.Option.{slice_get_cases}
use Rattle.std.proofs.lemmas.Bool.{cases_lt}
use Rattle.std.proofs.lemmas.List.{take_at}
use Rattle.std.proofs.lemmas.List.Folds.{list_any_none}
use Rattle.std.proofs.lemmas.List.Sums.{passes_at_first, fails_before_first, split_at_first}
use Rattle.spec_packet.proofs.ReadingLaws.{HasFirst, has-first}
use Rattle.sp_packet.specs.Cuts.{IsCut}
use Rattle.sp_packet.specs.Collating.{IsNotAdded, IsNotRead, fault_of}
use Rattle.sp_packet.specs.declared.sheets.SheetFault.{SheetFault}
use Rattle.sp_packet.specs.declared.sheets.SheetFault.TheVariants as faults
use Rattle.sp_packet.specs.Reading.{last_of_sheet, last_label, onto, Adds, Breaks}

kind-header : (piece header rest : List ℕ) → IsCut (λ b. b == 10) piece header rest → kind_of piece ≡ cond (ends 46 header) (kind_by_labels (header_labels header)) title
kind-header piece header rest cut =
    ap (λ b. cond (not b) no_sheet (cond (ends 46 (header_in piece)) (kind_by_labels (header_labels (header_in piece))) title)) cut.some
    ∙ ap (λ (h : List ℕ). cond (ends 46 h) (kind_by_labels (header_labels h)) title) (sym cut.front)

last-get : {X : Type 0} (xs : List X) (x : X) → slice_get (xs ++ (x ∷ [])) (length (xs ++ (x ∷ [])) - 1) ≡ Some x
last-get {X} xs x =
    let e : length (xs ++ (x ∷ [])) - 1 ≡ length xs = omega (arith, length-append xs (x ∷ [])) in
    ap (slice_get (xs ++ (x ∷ []))) e ∙ at xs
  where
    at : (ys : List X) → slice_get (ys ++ (x ∷ [])) (length ys) ≡ Some x
    at [] = refl
    at (y ∷ ys) = at ys

pub adds-labelled : (old : SheetListOf) (piece header rest : List ℕ) (label : SheetLabelOf) → IsCut (λ b. b == 10) piece header rest → ends 46 header ≡ true → header_labels header ≡ Some label
    → follows (last_label old) label.first ≡ true → Adds old piece (record { titles = old.titles; labelled = old.labelled ++ (record { label = label; bytes = piece ++ (12 ∷ []) } ∷ []) })
adds-labelled old piece header rest label cut stop labels follow = record { reads = reads }
  where
    sheet : PrintedOf
    sheet = record { label = label; bytes = piece ++ (12 ∷ []) }

    new : SheetListOf
    new = record { titles = old.titles; labelled = old.labelled ++ (sheet ∷ []) }

    kind : kind_of piece ≡ labelled label
    kind = kind-header piece header rest cut ∙ ap (λ b. cond b (kind_by_labels (header_labels header)) title) stop ∙ ap kind_by_labels labels

    put : (r : SheetsReading) → onto old (with_labelled label piece r) ≡ onto new r
    put (sheets later) = ap (λ (l : List PrintedOf). sheets (record { titles = old.titles ++ later.titles; labelled = l })) (sym (append_assoc old.labelled (sheet ∷ []) later.labelled))
    put (broken place) = refl

    reads : (k : ℕ) (later : Option LabelOf → SheetsReading) → onto old (read_piece k (last_label old) piece (kind_of piece) later) ≡ onto new (later (last_label new))
    reads k later =
        ap (λ (kind : PieceKind). onto old (read_piece k (last_label old) piece kind later)) kind
        ∙ ap (λ b. onto old (cond b (with_labelled label piece (later (Some label.last))) (broken k))) follow
        ∙ put (later (Some label.last))
        ∙ ap (λ (o : Option LabelOf). onto new (later o)) (sym (ap last_of_sheet (last-get old.labelled sheet)))

pub adds-title : (old : SheetListOf) (piece header rest : List ℕ) → IsCut (λ b. b == 10) piece header rest → ends 46 header ≡ false → (length old.labelled == 0) ≡ true
    → Adds old piece (record { titles = old.titles ++ ((piece ++ (12 ∷ [])) ∷ []); labelled = old.labelled })
adds-title old piece header rest cut stop none = grind (arith, common_steps)

labelled-before : (list : SheetListOf) → (length list.labelled == 0) ≡ false → is_first (last_label list) ≡ false
labelled-before list some = grind (arith, common_steps, slice_get_cases)

pub breaks-title : (old : SheetListOf) (piece header rest : List ℕ) → IsCut (λ b. b == 10) piece header rest → ends 46 header ≡ false → (length old.labelled == 0) ≡ false → Breaks old piece
breaks-title old piece header rest cut stop some =
    let kind : kind_of piece ≡ title = kind-header piece header rest cut ∙ ap (λ b. cond b (kind_by_labels (header_labels header)) title) stop in
    let before = labelled-before old some in
    record { reads = λ k later. ap (λ (it : PieceKind). read_piece k (last_label old) piece it later) kind ∙ ap (λ b. cond b (with_title piece (later None)) (broken k)) before }

-- One piece of bytes and what is behind it.
pub read-cut : (k : ℕ) (before : Option LabelOf) (bytes piece behind : List ℕ) → IsCut (λ b. b == 12) bytes piece behind
    → read_pieces k before (slice_split (λ b. b == 12) bytes) ≡ read_piece k before piece (kind_of piece) (λ last. read_pieces (k + 1) last (slice_split (λ b. b == 12) behind))
read-cut k before bytes piece behind cut = ap (read_pieces k before) cut.parts ∙ by (slice_split (λ b. b == 12) behind) (has-first behind)
  where
    by : (parts : List (List ℕ)) → HasFirst parts → read_pieces k before (piece ∷ parts) ≡ read_piece k before piece (kind_of piece) (λ last. read_pieces (k + 1) last parts)
    by [] has = absurd (let bad = has.is in let no_way : ⊥ = cc in no_way)
    by (one ∷ parts) has = refl

-- A step of the reading, and its end.
pub read-step : (k : ℕ) (old new : SheetListOf) (bytes piece behind : List ℕ) → IsCut (λ b. b == 12) bytes piece behind → Adds old piece new
    → onto old (read_pieces k (last_label old) (slice_split (λ b. b == 12) bytes)) ≡ onto new (read_pieces (k + 1) (last_label new) (slice_split (λ b. b == 12) behind))
read-step k old new bytes piece behind cut adds =
    ap (onto old) (read-cut k (last_label old) bytes piece behind cut) ∙ adds.reads k (λ last. read_pieces (k + 1) last (slice_split (λ b. b == 12) behind))

pub read-broken : (k : ℕ) (list : SheetListOf) (bytes piece behind : List ℕ) → IsCut (λ b. b == 12) bytes piece behind → Breaks list piece
    → onto list (read_pieces k (last_label list) (slice_split (λ b. b == 12) bytes)) ≡ broken k
read-broken k list bytes piece behind cut breaks =
    ap (onto list) (read-cut k (last_label list) bytes piece behind cut ∙ breaks.reads k (λ last. read_pieces (k + 1) last (slice_split (λ b. b == 12) behind)))

pub whole-piece : (bytes piece behind : List ℕ) → IsCut (λ b. b == 12) bytes piece behind → (take (length piece + 1) bytes ≡ piece ++ (12 ∷ [])) × (length piece + 1 ≤ length bytes)
whole-piece bytes piece behind cut =
    let p : ℕ → Bool = λ b. b == 12 in
    let n = position_or_len p bytes in
    let shorter = cut.shorter in
    let within : n < length bytes = elim (cases_lt n (length bytes)) [
      | inl less ↦ less
      | inr past ↦ absurd (let none = list_any_none p bytes (λ k d inside. fails_before_first p bytes k d (omega (arith, past, inside))) in let bad : true ≡ false = sym cut.some ∙ none in let no_way : ⊥ = cc in no_way)
    ] in
    let byte : get_or bytes n 0 ≡ 12 = eqb-true (get_or bytes n 0) 12 (passes_at_first p bytes 0 within) in
    let parts : bytes ≡ piece ++ (12 ∷ behind) =
    split_at_first p bytes 0 within ∙ ap₂ (λ (a : List ℕ) b. a ++ (b ∷ after_first p bytes)) (sym cut.front) byte ∙ ap (λ (b : List ℕ). piece ++ (12 ∷ b)) (sym cut.back) in
    let one : length (piece ++ (12 ∷ [])) ≡ length piece + 1 = length-append piece (12 ∷ []) in
    let whole : bytes ≡ (piece ++ (12 ∷ [])) ++ behind = parts ∙ sym (append_assoc piece (12 ∷ []) behind) in (
      ap (take (length piece + 1)) whole ∙ take_at (piece ++ (12 ∷ [])) behind (length piece + 1) one,
      (let long = ap length parts in omega (arith, long, length-append piece (12 ∷ behind))),
    )

-- What comes of a file whose next piece was refused.
pub not-read : (fault : SheetFault) (file place : ℕ) (list : SheetListOf) (bytes rest piece behind : List ℕ) → IsCut (λ b. b == 12) rest piece behind → IsNotAdded list piece fault
    → onto list (read_pieces place (last_label list) (slice_split (λ b. b == 12) rest)) ≡ sheets_in bytes → IsNotRead file bytes (fault_of fault file place)
not-read faults.NoSheet file place list bytes rest piece behind cut refused reads = (refl, sym reads ∙ read-broken place list rest piece behind cut refused)
not-read faults.NoMemory file place list bytes rest piece behind cut refused reads = tt
