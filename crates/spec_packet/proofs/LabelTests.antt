-- Tests of labels and of spans of labels.
use Rattle.std.proofs.Common.{◌≡◌, inl, inr, Bool, true, false, not, ◌&&◌, refl, ap, ap₂, sym, subst, ◌∙◌, Ordering, Less, Equal, Greater}
use Rattle.std.specs.Ordering.{is_lt}
use Rattle.std.proofs.lemmas.Bool.{cases_Bool}
use Rattle.spec_labels.specs.Labels.{LabelOf, label_cmp, Below}
use Rattle.spec_labels.proofs.LabelOrder.{Below-irreflexive, Below-transitive}
use Rattle.spec_sheets.specs.Sheets.{SheetLabelOf}
use Rattle.spec_packet.specs.SheetLists.{UpTo}
use Rattle.spec_packet.specs.SheetReadings.{is_below}
use Rattle.spec_packet.specs.Collations.{meets}

lt-is : (o : Ordering) → is_lt o ≡ true → o ≡ Less
lt-is Less h = refl
lt-is Equal h = cc
lt-is Greater h = cc

pub below-test : (one other : LabelOf) → Below one other → is_below one other ≡ true
below-test one other below = ap is_lt below.less

pub test-below : (one other : LabelOf) → is_below one other ≡ true → Below one other
test-below one other passes = record { less = lt-is (label_cmp one other) passes }

pub upto-below : (low middle high : LabelOf) → UpTo low middle → Below middle high → Below low high
upto-below low middle high upto below = elim upto [ inl same ↦ subst (λ l. Below l high) (sym same) below | inr less ↦ Below-transitive less below ]

pub below-upto : (low middle high : LabelOf) → Below low middle → UpTo middle high → Below low high
below-upto low middle high below upto = elim upto [ inl same ↦ subst (Below low) same below | inr less ↦ Below-transitive below less ]

pub upto-upto : (low middle high : LabelOf) → UpTo low middle → UpTo middle high → UpTo low high
upto-upto low middle high first second = elim first [ inl same ↦ subst (λ l. UpTo l high) (sym same) second | inr less ↦ inr (below-upto low middle high less second) ]

-- A label that isn't above another is not behind it.
pub upto-not : (one other : LabelOf) → UpTo one other → Below other one → ⊥
upto-not one other upto below = Below-irreflexive one (upto-below one other one upto below)

pub upto-test : (one other : LabelOf) → UpTo one other → is_below other one ≡ false
upto-test one other upto = elim (cases_Bool (is_below other one)) [
  | inl hit ↦ absurd (upto-not one other upto (test-below other one hit))
  | inr other_way ↦ other_way
]

-- A span whose first label another one stands for meets it.
pub cover-meets : (it by : SheetLabelOf) → UpTo it.first it.last → UpTo by.first it.first → UpTo it.first by.last → meets it by ≡ true
cover-meets it by span low high =
    ap₂ (λ a b. not a && not b)
    (upto-test by.first it.last (upto-upto by.first it.first it.last low span))
    (upto-test it.first by.last high)

-- Spans one behind the other don't meet.
pub before-apart : (one other : SheetLabelOf) → Below one.last other.first → meets one other ≡ false
before-apart one other below = ap (λ a. not a && not (is_below other.last one.first)) (below-test one.last other.first below)

pub behind-apart : (one other : SheetLabelOf) → Below one.last other.first → meets other one ≡ false
behind-apart one other below = ap (λ a. not (is_below other.last one.first) && not a) (below-test one.last other.first below) ∙ by (not (is_below other.last one.first))
  where
    by : (b : Bool) → (b && false) ≡ false
    by true = refl
    by false = refl
