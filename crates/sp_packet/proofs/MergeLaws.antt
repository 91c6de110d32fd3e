-- The walk over two rising lists is their collation.
use Rattle.std.proofs.Common.{◌≡◌, inl, inr, ℕ, suc, ◌+◌, Bool, true, false, not, ◌&&◌, ◌||◌, cond, List, [], ◌∷◌, ◌++◌, map, take, drop, refl, ap, ap₂, sym, subst, ◌∙◌, arith}
use Rattle.std.specs.Prelude.{filter, fold}
use Rattle.std.specs.List.{list_any, flat_map}
use Rattle.std.proofs.lemmas.List.{take-append-drop}
use Rattle.spec_labels.specs.Labels.{LabelOf, Below}
use Rattle.spec_labels.proofs.LabelOrder.{Below-transitive}
use Rattle.spec_packet.specs.SheetLists.{PrintedOf, IsIn, InOrder, UpTo, Before, AreRising}
use Rattle.spec_packet.specs.SheetReadings.{is_below}
use Rattle.spec_packet.specs.Collations.{meets, is_apart, put_sheet, collated}
use Rattle.spec_packet.proofs.Lists.{in-left, in-right, filter-in, order-back}
use Rattle.spec_packet.proofs.LabelTests.{below-test, test-below, upto-below, below-upto, before-apart, behind-apart}
use Rattle.spec_packet.proofs.CollationLaws.{Sooner, put-front, stays-front, none-apart}
use Rattle.spec_packet.specs.SheetLists.{SheetListOf, bytes_of}
use Rattle.spec_packet.specs.SheetReadings.{sheets, sheets_in}
use Rattle.spec_packet.specs.BytesCollated.{collated_bytes, collating_lists, collating}
use Rattle.spec_packet.proofs.ReadRising.{sheets_in-rising}
use Rattle.sp_packet.specs.Merging.{count_before, first_meets, merged, walk_bytes}

-- A list cut behind the sheets that end before a label.
abbrev pub FirstFails : LabelOf → List PrintedOf → Type 0
FirstFails label [] = Unit {0}
FirstFails label (sheet ∷ later) = is_below sheet.label.last label ≡ false

record IsSplit (label : LabelOf) (front back : List PrintedOf) : Type 0 where
  before : (sheet : PrintedOf) → IsIn sheet front → Below sheet.label.last label
  fails : FirstFails label back

split : (label : LabelOf) (list : List PrintedOf) → IsSplit label (take (count_before label list) list) (drop (count_before label list) list)
split label [] = record { before = λ sheet is. absurd is; fails = tt }
split label (sheet ∷ list) = by (is_below sheet.label.last label) refl (split label list)
  where
    by : (b : Bool) → is_below sheet.label.last label ≡ b → IsSplit label (take (count_before label list) list) (drop (count_before label list) list)
        → IsSplit label (take (cond b (1 + count_before label list) 0) (sheet ∷ list)) (drop (cond b (1 + count_before label list) 0) (sheet ∷ list))
    by true below later =
        let e : suc (count_before label list) ≡ 1 + count_before label list = omega arith in
        subst (λ n. IsSplit label (take n (sheet ∷ list)) (drop n (sheet ∷ list))) e
        (record {
          before = λ one is. elim is [ inl same ↦ subst (λ (s : PrintedOf). Below s.label.last label) same (test-below sheet.label.last label below) | inr behind ↦ later.before one behind ];
          fails = later.fails;
        })
    by false stays later = record { before = λ one is. absurd is; fails = stays }

-- What is put in behind a list stays behind it.
put-behind : (x : PrintedOf) (front back : List PrintedOf) → ((sheet : PrintedOf) → IsIn sheet front → Sooner sheet x) → put_sheet (front ++ back) x ≡ front ++ put_sheet back x
put-behind x [] back sooner = refl
put-behind x (sheet ∷ front) back sooner =
    ap (λ b. cond b (sheet ∷ put_sheet (front ++ back) x) (x ∷ sheet ∷ (front ++ back))) (below-test sheet.label.first x.label.first (sooner sheet (inl refl)))
    ∙ ap (λ (l : List PrintedOf). sheet ∷ l) (put-behind x front back (λ one is. sooner one (inr is)))

fold-behind : (front back xs : List PrintedOf) → ((sheet x : PrintedOf) → IsIn sheet front → IsIn x xs → Sooner sheet x) → fold put_sheet (front ++ back) xs ≡ front ++ fold put_sheet back xs
fold-behind front back [] sooner = refl
fold-behind front back (x ∷ xs) sooner =
    ap (λ (l : List PrintedOf). fold put_sheet l xs) (put-behind x front back (λ sheet is. sooner sheet x is (inl refl)))
    ∙ fold-behind front (put_sheet back x) xs (λ sheet y is there. sooner sheet y is (inr there))

-- Sheets that are before a sheet don't meet it.
apart-behind : (front back : List PrintedOf) (it : PrintedOf) → ((sheet : PrintedOf) → IsIn sheet front → Below sheet.label.last it.label.first) → is_apart (front ++ back) it ≡ is_apart back it
apart-behind [] back it before = refl
apart-behind (sheet ∷ front) back it before =
    ap (λ b. not (b || list_any (λ (s : PrintedOf). meets it.label s.label) (front ++ back))) (behind-apart sheet.label it.label (before sheet (inl refl)))
    ∙ apart-behind front back it (λ one is. before one (inr is))

filter-same : (p q : PrintedOf → Bool) (xs : List PrintedOf) → ((x : PrintedOf) → IsIn x xs → p x ≡ q x) → filter p xs ≡ filter q xs
filter-same p q [] same = refl
filter-same p q (x ∷ xs) same =
    ap₂ (λ b (l : List PrintedOf). cond b (x ∷ l) l) (same x (inl refl)) (filter-same p q xs (λ y is. same y (inr is)))

-- One step of the walk.
merge-step : (new : List PrintedOf) (x : PrintedOf) (old : List PrintedOf) → AreRising new → AreRising (x ∷ old)
    → ((rest : List PrintedOf) → AreRising rest → AreRising old → merged rest old ≡ collated old rest) → merged new (x ∷ old) ≡ collated (x ∷ old) new
merge-step new x old rises olds walk =
    by (first_meets x.label R) refl (is_apart new x) apart_x
  where
    n : ℕ
    n = count_before x.label.first new

    F : List PrintedOf
    F = take n new

    R : List PrintedOf
    R = drop n new

    whole : F ++ R ≡ new
    whole = take-append-drop n new

    cut : IsSplit x.label.first F R
    cut = split x.label.first new

    rest : AreRising R
    rest = record {
      spans = λ sheet is. rises.spans sheet (subst (IsIn sheet) whole (in-right sheet F R is));
      order = order-back Before F R (subst (InOrder Before) (sym whole) rises.order);
    }

    later : AreRising old
    later = record { spans = λ sheet is. olds.spans sheet (inr is); order = olds.order.1 }

    span_x : UpTo x.label.first x.label.last
    span_x = olds.spans x (inl refl)

    -- Later old sheets are behind x, and so behind F.
    behind_x : (y : PrintedOf) → IsIn y old → Below x.label.last y.label.first
    behind_x y is = (olds.order.0 y is).below

    before_old : (sheet y : PrintedOf) → IsIn sheet F → IsIn y old → Below sheet.label.last y.label.first
    before_old sheet y is there = Below-transitive (below-upto sheet.label.last x.label.first x.label.last (cut.before sheet is) span_x) (behind_x y there)

    span_F : (sheet : PrintedOf) → IsIn sheet F → UpTo sheet.label.first sheet.label.last
    span_F sheet is = rises.spans sheet (subst (IsIn sheet) whole (in-left sheet F R is))

    apart_old : filter (is_apart new) old ≡ filter (is_apart R) old
    apart_old = filter-same (is_apart new) (is_apart R) old
        (λ y there. ap (λ (l : List PrintedOf). is_apart l y) (sym whole) ∙ apart-behind F R y (λ sheet is. before_old sheet y is there))

    apart_x : is_apart new x ≡ is_apart R x
    apart_x = ap (λ (l : List PrintedOf). is_apart l x) (sym whole) ∙ apart-behind F R x cut.before

    kept_in : (y : PrintedOf) → IsIn y (filter (is_apart R) old) → IsIn y old
    kept_in y is = (filter-in (is_apart R) y old is).there

    into_rest : fold put_sheet new (filter (is_apart new) old) ≡ F ++ fold put_sheet R (filter (is_apart R) old)
    into_rest =
        ap₂ (λ (l k : List PrintedOf). fold put_sheet l k) (sym whole) apart_old
        ∙ fold-behind F R (filter (is_apart R) old) (λ sheet y is there. upto-below sheet.label.first sheet.label.last y.label.first (span_F sheet is) (before_old sheet y is (kept_in y there)))

    -- The first of the rest meets x.
    met : (l : List PrintedOf) → FirstFails x.label.first l → first_meets x.label l ≡ true → is_apart l x ≡ false
    met [] fails meets_it = absurd (let no_way : ⊥ = cc in no_way)
    met (r ∷ rs) fails meets_it =
        ap (λ b. not (b || list_any (λ (s : PrintedOf). meets x.label s.label) rs)) (ap₂ (λ a b. a && not b) meets_it fails)

    -- It doesn't: all of the rest is behind x.
    unmet : (l : List PrintedOf) → AreRising l → first_meets x.label l ≡ false → (y : PrintedOf) → IsIn y l → Below x.label.last y.label.first
    unmet [] rise no_meet y is = absurd is
    unmet (r ∷ rs) rise no_meet y is =
        let below : Below x.label.last r.label.first = test-below x.label.last r.label.first (un-not (is_below x.label.last r.label.first) no_meet) in
        elim is [
          | inl same ↦ subst (λ (s : PrintedOf). Below x.label.last s.label.first) same below
          | inr behind ↦ Below-transitive (below-upto x.label.last r.label.first r.label.last below (rise.spans r (inl refl))) (rise.order.0 y behind).below
        ]
      where
        un-not : (b : Bool) → not b ≡ false → b ≡ true
        un-not true h = refl
        un-not false h = cc

    ih : merged R old ≡ fold put_sheet R (filter (is_apart R) old)
    ih = walk R rest later

    by : (b : Bool) → first_meets x.label R ≡ b → (a : Bool) → a ≡ is_apart R x
        → F ++ cond b (merged R old) (x ∷ merged R old) ≡ fold put_sheet new (cond a (x ∷ filter (is_apart new) old) (filter (is_apart new) old))
    by true is a e =
        ap (λ (l : List PrintedOf). F ++ l) ih ∙ sym into_rest
        ∙ sym (ap (λ c. fold put_sheet new (cond c (x ∷ filter (is_apart new) old) (filter (is_apart new) old))) (e ∙ met R cut.fails is))
    by false is a e =
        let apart : is_apart R x ≡ true = none-apart R x (λ one there. before-apart x.label one.label (unmet R rest is one there)) in
        let front : put_sheet R x ≡ x ∷ R = put-front x R (λ y there. upto-below x.label.first x.label.last y.label.first span_x (unmet R rest is y there)) in
        let put : put_sheet new x ≡ F ++ (x ∷ R) =
        ap (λ (l : List PrintedOf). put_sheet l x) (sym whole)
        ∙ put-behind x F R (λ sheet there. upto-below sheet.label.first sheet.label.last x.label.first (span_F sheet there) (cut.before sheet there))
        ∙ ap (λ (l : List PrintedOf). F ++ l) front in
        let sooner : (y : PrintedOf) → IsIn y (filter (is_apart R) old) → Sooner x y = λ y there. upto-below x.label.first x.label.last y.label.first span_x (behind_x y (kept_in y there)) in
        ap (λ (l : List PrintedOf). F ++ (x ∷ l)) ih
        ∙ sym (
        ap (λ c. fold put_sheet new (cond c (x ∷ filter (is_apart new) old) (filter (is_apart new) old))) (e ∙ apart)
        ∙ ap₂ (λ (l k : List PrintedOf). fold put_sheet l k) put apart_old
        ∙ fold-behind F (x ∷ R) (filter (is_apart R) old) (λ sheet y there behind. upto-below sheet.label.first sheet.label.last y.label.first (span_F sheet there) (before_old sheet y there (kept_in y behind)))
        ∙ ap (λ (l : List PrintedOf). F ++ l) (stays-front x R (filter (is_apart R) old) sooner))

pub merged-collated : (new old : List PrintedOf) → AreRising new → AreRising old → merged new old ≡ collated old new
merged-collated new [] rises olds = refl
merged-collated new (x ∷ old) rises olds = merge-step new x old rises olds (λ rest one other. merged-collated rest old one other)

-- Two files that were read come to the bytes of the walk.
pub collating-walk : (old new : List ℕ) (a b : SheetListOf) → sheets_in old ≡ sheets a → sheets_in new ≡ sheets b → collating old new ≡ collated_bytes (walk_bytes a b)
collating-walk old new a b one other =
    ap₂ collating_lists one other
    ∙ ap (λ (l : List PrintedOf). collated_bytes (flat_map (λ (title : List ℕ). title) b.titles ++ flat_map bytes_of l))
    (sym (merged-collated b.labelled a.labelled (sheets_in-rising new b other) (sheets_in-rising old a one)))

-- The titles, one after another, by what they refer to.
pub titles-now : {X : Type 0} (f : X → List ℕ) (titles : List X) → flat_map (λ (title : List ℕ). title) (map f titles) ≡ flat_map f titles
titles-now f [] = refl
titles-now f (t ∷ titles) = ap (λ (l : List ℕ). f t ++ l) (titles-now f titles)

-- What was written of titles and of the walk.
pub gather : {X : Type 0} (f : X → List ℕ) (written titled start : List ℕ) (titles : List X) (ns os : List PrintedOf) (old new : SheetListOf)
    → written ≡ titled ++ flat_map bytes_of (merged ns os) → titled ≡ start ++ flat_map f titles → start ≡ [] → map f titles ≡ new.titles → ns ≡ new.labelled → os ≡ old.labelled
    → written ≡ walk_bytes old new
gather f written titled start titles ns os old new one two three four five six =
    let heads : titled ≡ flat_map (λ (title : List ℕ). title) new.titles =
    two ∙ ap (λ (l : List ℕ). l ++ flat_map f titles) three ∙ sym (titles-now f titles) ∙ ap (flat_map (λ (title : List ℕ). title)) four in
    one ∙ ap₂ (λ (t m : List ℕ). t ++ m) heads (ap₂ (λ (n o : List PrintedOf). flat_map bytes_of (merged n o)) five six)
