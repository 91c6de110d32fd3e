-- What a desk keeps of a state is a text with rules 4 to 6 of a record file.
use Rattle.std.proofs.Common.{◌≡◌, ◌≢◌, ℕ, ◌<◌, ◌≤◌, true, false, Option, Some, None, List, length, get_or, inl, inr, refl, sym, ap, subst, ◌∙◌, arith}
use Rattle.std.specs.Prelude.{All, AllPairs, IfSome, drop, is_some}
use Rattle.std.proofs.lemmas.Bool.{cases_eq}
use Rattle.std.proofs.lemmas.List.{length-map}
use Rattle.std.proofs.lemmas.List.Elements.{All-map, All-drop}
use Rattle.spec_text.specs.Lines.{LineState, IsText}
use Rattle.spec_text.specs.EditedLines.{HasIds}
use Rattle.spec_text.proofs.EditedLaws.{text-HasIds}
use Rattle.spec_text.proofs.ListLaws.{pairs-map, all-unmap}
use Rattle.spec_text.proofs.RelabelLaws.{relabelled-own}
use Rattle.spec_labels.specs.PageRecords.{PageRecordOf, InOrder, line_at, end_line}
use Rattle.spec_labels.specs.Anchors.{spot_of, NotBehind}
use Rattle.spec_labels.specs.Anchors as anchors
use Rattle.spec_labels.proofs.SpotLaws.{Lower, ahead-not, ahead-from}
use Rattle.spec_labels.proofs.CarryLaws.{end-nowhere}
use Rattle.spec_records.specs.Kept.{IsAnchored, KeepsLines, AreKeptPages, KeepsPages, KeepsRules}
use Rattle.spec_state.specs.State.{State, text_of}
use Rattle.spec_state.specs.SoundStates.{AreLocked}
use Rattle.spec_state.specs.Keeping.{state_kept, IsWhole}
use Rattle.spec_state.specs.KeptStates.{IsKept, ArePagesKept, IsKeptWhole}

keeps-lines : (state : State) → IsKept state → KeepsLines (length state.lines) (state_kept state)
keeps-lines state kept =
    let text = kept.text in
    record {
      round = kept.round;
      next = text.ids;
      ids = length-map state.lines (λ (line : LineState). line.id);
      marks = length-map state.lines (λ (line : LineState). line.mark);
      distinct = pairs-map (λ (one other : ℕ). one ≢ other) (λ (line : LineState). line.id) state.lines text.distinct;
      below = All-map (λ id. id < state.next) (λ (line : LineState). line.id) state.lines text.below;
      rounds = All-map (λ mark. mark ≤ state.round) (λ (line : LineState). line.mark) state.lines kept.marks;
    }

in-order : (next : ℕ) (lines : List LineState) (one other : PageRecordOf) → HasIds next lines → anchors.IsAnchored lines other → NotBehind lines one other → InOrder lines one other
in-order next lines one other ids anchored order = record {
  inside = λ some end. elim anchored [
    | inl at ↦ some at.0
    | inr there ↦
        let e = ap (line_at lines) end ∙ end-nowhere next lines ids in
        let ahead = ahead-from (spot_of lines other) (spot_of lines one) (inl (omega (arith, there, e))) in
        let bad : true ≡ false = sym ahead ∙ order in
        cc
  ];
  never = λ some. order;
}

anchored-rule : (round next : ℕ) (lines : List LineState) (it : PageRecordOf) → HasIds next lines → anchors.IsAnchored lines it → it.row ≤ 4095 → it.changed ≤ round → IsAnchored round lines it
anchored-rule round next lines it ids anchored low last = record {
  present = λ some. elim anchored [ inl at ↦ absurd (some at.0) | inr there ↦ there ];
  row = low;
  end = λ end. elim anchored [
    | inl at ↦ at.1
    | inr there ↦ absurd (let e = ap (line_at lines) end ∙ end-nowhere next lines ids in omega (arith, there, e))
  ];
  changed = last;
}

all-pairs : (next : ℕ) (lines : List LineState) (records : List PageRecordOf) → HasIds next lines → All (anchors.IsAnchored lines) records → AllPairs (NotBehind lines) records → AllPairs (InOrder lines) records
all-pairs next lines records ids anchored order i j d less inside = in-order next lines (get_or records i d) (get_or records j d) ids (anchored j d inside) (order i j d less inside)

kept-pages : (state : State) (records : List PageRecordOf) → HasIds state.next state.lines → AreLocked records → ArePagesKept state.round state.lines records → AreKeptPages state.round state.lines records
kept-pages state records ids locked are = record {
  some = locked.some;
  few = are.few;
  locked = λ k d h. (let it = are.each k d h in record { is_label = locked.labels k d h; above = it.above; bounded = it.bounded });
  rising = locked.rising;
  anchored = λ k d h. (let it = are.each k d h in anchored-rule state.round state.next state.lines (get_or records k d) ids it.anchored it.low it.last);
  order = all-pairs state.next state.lines (drop 1 records) ids (All-drop (anchors.IsAnchored state.lines) 1 records (λ k d h. (are.each k d h).anchored)) are.order;
}

-- What every state of a desk keeps is what its record file asks for.
pub whole-rules : (state : State) → IsKeptWhole state → KeepsRules state.lines (state_kept state)
whole-rules state whole =
    let kept = whole.kept in
    record { lines = keeps-lines state kept; scenes = kept.scenes; pages = by state.pages kept.pages whole.pages kept.scened }
  where
    by : (pages : Option (List PageRecordOf)) → IfSome pages AreLocked → IfSome pages (ArePagesKept state.round state.lines) → (is_some pages ≡ true → is_some state.scenes ≡ true) → KeepsPages state.lines (state_kept state) pages
    by None locked are scened = tt
    by (Some records) locked are scened = (
      scened refl,
      subst (λ lines. AreKeptPages state.round lines records) (sym (relabelled-own state.lines state.lines refl)) (kept-pages state records (text-HasIds (text_of state) (whole.kept).text) locked are),
    )

anchored-back : (round : ℕ) (lines : List LineState) (it : PageRecordOf) → IsAnchored round lines it → anchors.IsAnchored lines it
anchored-back round lines it is = elim (cases_eq it.line end_line) [ inl end ↦ inl (end, is.end end) | inr some ↦ inr (is.present some) ]

order-back : (next : ℕ) (lines : List LineState) (one other : PageRecordOf) → HasIds next lines → anchors.IsAnchored lines one → anchors.IsAnchored lines other → InOrder lines one other → NotBehind lines one other
order-back next lines one other ids first second order = elim second [
  | inl end ↦ ahead-not (spot_of lines other) (spot_of lines one) (λ low. by first (ap (line_at lines) end.0 ∙ end-nowhere next lines ids) end.1 low)
  | inr there ↦ order.never (λ end. let e = ap (line_at lines) end ∙ end-nowhere next lines ids in omega (arith, there, e))
]
  where
    by : anchors.IsAnchored lines one → line_at lines other.line ≡ length lines → other.row ≡ 0 → Lower (spot_of lines other) (spot_of lines one) → ⊥
    by (inl end) at row (inl less) = let e = ap (line_at lines) end.0 ∙ end-nowhere next lines ids in omega (arith, e, at, less)
    by (inl end) at row (inr level) = omega (arith, end.1, level.1)
    by (inr there) at row (inl less) = omega (arith, there, at, less)
    by (inr there) at row (inr level) = omega (arith, there, at, level.0)

pages-back : (state : State) (records : List PageRecordOf) → HasIds state.next state.lines → AreKeptPages state.round state.lines records → AreLocked records × ArePagesKept state.round state.lines records
pages-back state records ids are =
    let anchored : All (anchors.IsAnchored state.lines) records = λ k d h. anchored-back state.round state.lines (get_or records k d) (are.anchored k d h) in
    let rest = All-drop (anchors.IsAnchored state.lines) 1 records anchored in (
      record { some = are.some; labels = λ k d h. (are.locked k d h).is_label; rising = are.rising },
      record {
        few = are.few;
        each = λ k d h. (let lock = are.locked k d h in let it = are.anchored k d h in record { above = lock.above; bounded = lock.bounded; anchored = anchored k d h; low = it.row; last = it.changed });
        order = λ i j d less h. order-back state.next state.lines (get_or (drop 1 records) i d) (get_or (drop 1 records) j d) ids (rest i d (omega (arith, less, h))) (rest j d h) (are.order i j d less h);
      },
    )

-- A text and rules 4 to 6 are all that a desk keeps.
pub rules-whole : (state : State) → IsText (text_of state) → KeepsRules state.lines (state_kept state) → IsKeptWhole state
rules-whole state text rules =
    let lines = rules.lines in
    let both = by state.pages rules.pages in
    record {
      kept = record {
        text = text;
        round = lines.round;
        marks = all-unmap (λ mark. mark ≤ state.round) (λ (line : LineState). line.mark) state.lines lines.rounds;
        scenes = rules.scenes;
        scened = scened state.pages rules.pages;
        pages = both.0;
      };
      pages = both.1;
    }
  where
    scened : (pages : Option (List PageRecordOf)) → KeepsPages state.lines (state_kept state) pages → is_some pages ≡ true → is_some state.scenes ≡ true
    scened None are some = absurd (let bad : ⊥ = cc in bad)
    scened (Some records) are some = are.0

    by : (pages : Option (List PageRecordOf)) → KeepsPages state.lines (state_kept state) pages → IfSome pages AreLocked × IfSome pages (ArePagesKept state.round state.lines)
    by None are = (tt, tt)
    by (Some records) are = pages-back state records (text-HasIds (text_of state) text) (subst (λ lines. AreKeptPages state.round lines records) (relabelled-own state.lines state.lines refl) are.1)

-- So both are one.
pub whole-parts : (state : State) → IsWhole state → IsKeptWhole state
whole-parts state whole = rules-whole state whole.text whole.rules

pub parts-whole : (state : State) → IsKeptWhole state → IsWhole state
parts-whole state parts = record { text = (parts.kept).text; rules = whole-rules state parts }
