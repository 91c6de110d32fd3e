-- The elements of a body, by the groups of blocks that they are of.
use Rattle.std.proofs.Common.{◌≡◌, ℕ, ◌+◌, ◌-◌, ◌<◌, ◌≤◌, Bool, true, false, not, cond, List, [], ◌∷◌, ◌++◌, length, map, take, refl, sym, ap, ap₂, subst, ◌∙◌, arith, length-append, take_at}
use Rattle.std.specs.Prelude.{All, filter}
use Rattle.std.specs.List.{flat_map}
use Rattle.std.proofs.lemmas.Bool.{true≢false}
use Rattle.std.proofs.lemmas.List.{length-map, map-append}
use Rattle.std.proofs.lemmas.List.Elements.{All-nil, All-cons, All-head, All-tail, filter-append}
use Rattle.spec_text.specs.Lines.{LineState}
use Rattle.spec_script.specs.declared.Kind.{Kind}
use Rattle.spec_script.specs.declared.Kind.TheVariants as kinds
use Rattle.spec_script.specs.LongestRuns.{Group}
use Rattle.spec_script.specs.Stanzas.{PlacedBlock}
use Rattle.spec_script.specs.Elements.{is_speech_kind}
use Rattle.spec_pages.specs.Rows.{ElementOf, is_title}
use Rattle.spec_sheets.specs.Speakers.{Spoken}
use Rattle.spec_sheets.specs.Layout.{laid_beside, laid_out, in_body}
use Rattle.spec_sheets.proofs.LaidRows.{body_rows as spoken_rows, layout-body}
use Rattle.spec_edit.specs.TextItems.{Script, spoken_by, spoken_group, text_rows}
use Rattle.spec_refill.specs.Exchanges.{body_rows, count_rows}
use Rattle.spec_refill.proofs.ElementMarks.{row_mark, rows-marks}
use Rattle.sp_layout.specs.Bodies.{row_count}
use Rattle.sp_layout.specs.Places.{CountsBefore}
use Rattle.sp_layout.proofs.ElementCounts.{counts-one, counts-parts}
use Rattle.sp_refill.specs.Counts.{HasFront, HasRest, RowsBefore, RowsUpTo, one_if}
use Rattle.sp_refill.proofs.Groups.{Begins}

-- The body of these groups, with the speakers of a script.
abbrev pub body_in : Script → List (Group PlacedBlock) → List ElementOf
body_in script groups = map (laid_out script.lines) (filter in_body (map (spoken_group script) groups))

pub body-append : (script : Script) (xs ys : List (Group PlacedBlock)) → body_in script (xs ++ ys) ≡ body_in script xs ++ body_in script ys
body-append script xs ys =
    ap (λ (l : List (Group Spoken)). map (laid_out script.lines) (filter in_body l)) (map-append (spoken_group script) xs ys)
    ∙ ap (map (laid_out script.lines)) (filter-append in_body (map (spoken_group script) xs) (map (spoken_group script) ys))
    ∙ map-append (laid_out script.lines) (filter in_body (map (spoken_group script) xs)) (filter in_body (map (spoken_group script) ys))

-- ---- rows

group-rows : (script : Script) (group : Group PlacedBlock) → length (text_rows script group) ≡ length (body_rows script.lines group)
group-rows script group =
    sym (length-map (text_rows script group) row_mark) ∙ ap length (rows-marks script group) ∙ length-map (body_rows script.lines group) row_mark

all-rows : (script : Script) (groups : List (Group PlacedBlock)) → length (flat_map (spoken_rows script.lines) (map (spoken_group script) groups)) ≡ count_rows script.lines groups
all-rows script [] = refl
all-rows script (group ∷ groups) =
    let own : length (spoken_rows script.lines (spoken_group script group)) ≡ length (body_rows script.lines group) = group-rows script group in
    let more = all-rows script groups in
    length-append (spoken_rows script.lines (spoken_group script group)) (flat_map (spoken_rows script.lines) (map (spoken_group script) groups))
    ∙ ap₂ (λ n m. n + m) own more ∙ sym (length-append (body_rows script.lines group) (flat_map (body_rows script.lines) groups))

pub body-rows : (script : Script) (groups : List (Group PlacedBlock)) → row_count (body_in script groups) ≡ count_rows script.lines groups
body-rows script groups = ap length (layout-body script.lines (map (spoken_group script) groups)) ∙ all-rows script groups

-- ---- lines

laid-first : (lines : List LineState) (it : Spoken) (more : List Spoken) → (laid_beside lines it more).first ≡ it.placed.first
laid-first lines it [] = refl
laid-first lines it (right ∷ others) = refl

body-all : (P : ℕ → Type 0) (script : Script) (groups : List (Group PlacedBlock)) → All (Begins (λ (placed : PlacedBlock). P placed.first)) groups
    → All (λ (element : ElementOf). P element.first) (body_in script groups)
body-all P script [] all = All-nil (λ (element : ElementOf). P element.first)
body-all P script (group ∷ groups) all =
    by (in_body (spoken_group script group)) (body-all P script groups (All-tail (Begins (λ (placed : PlacedBlock). P placed.first)) group groups all))
  where
    own : P (laid_out script.lines (spoken_group script group)).first
    own = subst P (sym (laid-first script.lines (spoken_by script group.first) (map (spoken_by script) group.more))) (All-head (Begins (λ (placed : PlacedBlock). P placed.first)) group groups all)

    by : (b : Bool) → All (λ (element : ElementOf). P element.first) (body_in script groups)
        → All (λ (element : ElementOf). P element.first) (map (laid_out script.lines) (cond b (spoken_group script group ∷ filter in_body (map (spoken_group script) groups)) (filter in_body (map (spoken_group script) groups))))
    by true later = All-cons (λ (element : ElementOf). P element.first) (laid_out script.lines (spoken_group script group)) (body_in script groups) own later
    by false later = later

-- ---- counts

abbrev pub Low : ℕ → PlacedBlock → Type 0
Low line placed = placed.first < line

abbrev pub High : ℕ → PlacedBlock → Type 0
High line placed = line ≤ placed.first

pub counts-groups : (script : Script) (line : ℕ) (elements xs ys : List (Group PlacedBlock)) → elements ≡ xs ++ ys → All (Begins (Low line)) xs → All (Begins (High line)) ys
    → CountsBefore (body_in script elements) line (length (body_in script xs))
counts-groups script line elements xs ys are one other =
    subst (λ (l : List ElementOf). CountsBefore l line (length (body_in script xs))) (sym (ap (body_in script) are ∙ body-append script xs ys))
    (counts-parts line (body_in script xs) (body_in script ys) (body-all (λ n. n < line) script xs one) (body-all (λ n. line ≤ n) script ys other))

-- So many rows stand before the element at a place.
pub record HasRowsBefore (elements : List ElementOf) (place count : ℕ) : Type 0 where
  pub within : place ≤ length elements
  pub are : row_count (take place elements) ≡ count

pub rows-before : (script : Script) (elements xs ys : List (Group PlacedBlock)) → elements ≡ xs ++ ys → HasRowsBefore (body_in script elements) (length (body_in script xs)) (count_rows script.lines xs)
rows-before script elements xs ys are =
    subst (λ (l : List ElementOf). HasRowsBefore l (length (body_in script xs)) (count_rows script.lines xs)) (sym (ap (body_in script) are ∙ body-append script xs ys)) (record {
      within = omega (arith, length-append (body_in script xs) (body_in script ys));
      are = ap row_count (take_at (body_in script xs) (body_in script ys) (length (body_in script xs)) refl) ∙ body-rows script xs;
    })

no-title : (kind : Kind) → is_speech_kind kind ≡ true → is_title kind ≡ false
no-title kinds.Title is = absurd (true≢false (sym is))
no-title kinds.PageBreak is = refl
no-title kinds.Heading is = refl
no-title kinds.Action is = refl
no-title kinds.Speech is = refl
no-title kinds.Lyric is = refl
no-title kinds.Transition is = refl
no-title kinds.Centred is = refl
no-title kinds.Section is = refl
no-title kinds.Synopsis is = refl

-- A speech is one more element of the body.
pub one-more : (script : Script) (xs : List (Group PlacedBlock)) (group : Group PlacedBlock) → is_speech_kind group.first.block.kind ≡ true → length (body_in script (xs ++ group ∷ [])) ≡ length (body_in script xs) + 1
one-more script xs group speech =
    ap length (body-append script xs (group ∷ [])) ∙ length-append (body_in script xs) (body_in script (group ∷ []))
    ∙ ap (λ (b : Bool). length (body_in script xs) + length (map (laid_out script.lines) (cond (not b) (spoken_group script group ∷ []) []))) (no-title group.first.block.kind speech)

-- ---- rows by counts

pub before-one : (elements : List ElementOf) (line m n : ℕ) (relaid : Bool) → RowsBefore elements line relaid m → RowsBefore elements line relaid n → m ≡ n
before-one elements line m n relaid one other =
    sym one.are ∙ ap (λ p. row_count (take (p - one_if relaid) elements)) (counts-one elements line one.place other.place one.is other.is) ∙ other.are

pub up-to-one : (elements : List ElementOf) (line m n : ℕ) (relaid : Bool) → RowsUpTo elements line relaid m → RowsUpTo elements line relaid n → m ≡ n
up-to-one elements line m n relaid one other =
    sym one.are ∙ ap (λ p. row_count (take (p + one_if relaid) elements)) (counts-one elements line one.place other.place one.is other.is) ∙ other.are

pub front-some : (elements : List ElementOf) (line place : ℕ) (relaid : Bool) → CountsBefore elements line place → HasFront elements line relaid → one_if relaid ≤ place
front-some elements line place relaid is has = let same = counts-one elements line place has.place is has.is in let some = has.some in omega (arith, same, some)

pub rest-some : (elements : List ElementOf) (line place : ℕ) (relaid : Bool) → CountsBefore elements line place → HasRest elements line relaid → place + one_if relaid ≤ length elements
rest-some elements line place relaid is has = let same = counts-one elements line place has.place is has.is in let some = has.some in omega (arith, same, some)

pub before-found : (elements : List ElementOf) (line place count : ℕ) (relaid flag : Bool) → relaid ≡ flag → CountsBefore elements line place → HasFront elements line relaid
    → count ≡ row_count (take (place - one_if flag) elements) → RowsBefore elements line relaid count
before-found elements line place count relaid flag same is has found =
    record { place = place; is = is; some = front-some elements line place relaid is has; are = ap (λ b. row_count (take (place - one_if b) elements)) same ∙ sym found }

pub up-to-found : (elements : List ElementOf) (line place count : ℕ) (relaid flag : Bool) → relaid ≡ flag → CountsBefore elements line place → HasRest elements line relaid
    → count ≡ row_count (take (place + one_if flag) elements) → RowsUpTo elements line relaid count
up-to-found elements line place count relaid flag same is has found =
    record { place = place; is = is; some = rest-some elements line place relaid is has; are = ap (λ b. row_count (take (place + one_if b) elements)) same ∙ sym found }
