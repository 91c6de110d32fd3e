-- One more heading, record, block or row.
use Rattle.std.proofs.Common.{◌≡◌, ℕ, ◌+◌, ◌<◌, Bool, true, false, cond, Some, List, [], ◌∷◌, ◌++◌, length, map, filter, take, drop, get_or, refl, sym, ap, ap₂, ◌∙◌, arith, add-one, append_assoc, drop-cons}
use Rattle.std.specs.Prelude.{slice_get}
use Rattle.std.proofs.lemmas.List.{take_more, length-take}
use Rattle.std.proofs.lemmas.Option.{slice_get_within, get_or_from_slice_get}
use Rattle.spec_pages.specs.declared.Shape.{Shape}
use Rattle.spec_pages.specs.Pages.{begins_heading}
use Rattle.spec_script.specs.Stanzas.{PlacedBlock}
use Rattle.spec_script.specs.Elements.{is_speech_block}
use Rattle.spec_labels.specs.Labels.{LabelOf}
use Rattle.spec_labels.specs.Scenes.{HeadingOf, SceneRecordOf}
use Rattle.spec_sheets.specs.Speakers.{cue_text, name_in}
use Rattle.spec_machine.specs.Outline.{EntryOf}
use Rattle.spec_state.specs.Headings.{is_heading_block}
use Rattle.spec_machine.specs.Outlines.{Scenes, heading_rows, is_gone, speaker_names, block_entries, entries_from, headings_behind}
use Rattle.sp_contents.specs.Gone.{gone_among}
use Rattle.sp_contents.proofs.Counts.{heading_rows-push}

filter-push : {X Y : Type 0} (f : X → Y) (p : X → Bool) (xs : List X) (x : X) → map f (filter p (xs ++ x ∷ [])) ≡ map f (filter p xs) ++ cond (p x) (f x ∷ []) []
filter-push f p [] x = by (p x)
  where
    by : (b : Bool) → map f (cond b (x ∷ []) []) ≡ cond b (f x ∷ []) []
    by true = refl
    by false = refl
filter-push f p (first ∷ xs) x = by (p first) (filter-push f p xs x)
  where
    by : (b : Bool) → map f (filter p (xs ++ x ∷ [])) ≡ map f (filter p xs) ++ cond (p x) (f x ∷ []) []
        → map f (cond b (first ∷ filter p (xs ++ x ∷ [])) (filter p (xs ++ x ∷ []))) ≡ map f (cond b (first ∷ filter p xs) (filter p xs)) ++ cond (p x) (f x ∷ []) []
    by true rest = ap (λ ys. f first ∷ ys) rest
    by false rest = rest

filter-more : {X Y : Type 0} (f : X → Y) (p : X → Bool) (xs : List X) (i : ℕ) (d : X) → i < length xs
    → map f (filter p (take (i + 1) xs)) ≡ map f (filter p (take i xs)) ++ cond (p (get_or xs i d)) (f (get_or xs i d) ∷ []) []
filter-more f p xs i d inside = ap (λ ys. map f (filter p ys)) (take_more xs i d inside) ∙ filter-push f p (take i xs) (get_or xs i d)

-- ---- lines of headings

pub gone-more : (headings : List HeadingOf) (records : List SceneRecordOf) (i : ℕ) (d : SceneRecordOf) → i < length records
    → gone_among headings (take (i + 1) records) ≡ gone_among headings (take i records) ++ cond (is_gone headings (get_or records i d)) ((get_or records i d).label ∷ []) []
gone-more headings records i d inside = filter-more (λ (it : SceneRecordOf). it.label) (is_gone headings) records i d inside

-- ---- names and rows

pub names-more : (texts : List (List ℕ)) (blocks : List PlacedBlock) (i : ℕ) (d : PlacedBlock) → i < length blocks
    → speaker_names texts (take (i + 1) blocks) ≡ speaker_names texts (take i blocks) ++ cond (is_speech_block (get_or blocks i d)) (name_in (cue_text texts (get_or blocks i d)) ∷ []) []
names-more texts blocks i d inside = filter-more (λ placed. name_in (cue_text texts placed)) is_speech_block blocks i d inside

pub rows-more : (shapes : List Shape) (i : ℕ) (d : Shape) → i < length shapes
    → heading_rows 0 (take (i + 1) shapes) ≡ heading_rows 0 (take i shapes) ++ cond (begins_heading (get_or shapes i d)) (i ∷ []) []
rows-more shapes i d inside =
    ap (heading_rows 0) (take_more shapes i d inside)
    ∙ heading_rows-push 0 (take i shapes) (get_or shapes i d)
    ∙ ap (λ n. heading_rows 0 (take i shapes) ++ cond (begins_heading (get_or shapes i d)) (n ∷ []) []) (omega (arith, length-take i shapes, inside))

-- A record that is looked at, and a row.
pub gone-step : (headings : List HeadingOf) (records : List SceneRecordOf) (i : ℕ) (item : SceneRecordOf) (old new : List LabelOf) (b : Bool) → i < length records → item ≡ get_or records i item
    → old ≡ gone_among headings (take i records) → b ≡ is_gone headings item → new ≡ old ++ cond b (item.label ∷ []) [] → new ≡ gone_among headings (take (i + 1) records)
gone-step headings records i item old new b inside same before test is =
    is
    ∙ ap (λ (those : List LabelOf). those ++ cond b (item.label ∷ []) []) before
    ∙ ap (λ (t : Bool). gone_among headings (take i records) ++ cond t (item.label ∷ []) []) test
    ∙ ap (λ (it : SceneRecordOf). gone_among headings (take i records) ++ cond (is_gone headings it) (it.label ∷ []) []) same
    ∙ sym (gone-more headings records i item inside)

pub rows-step : (shapes : List Shape) (row : ℕ) (shape : Shape) (old new : List ℕ) (b : Bool) → slice_get shapes row ≡ Some shape → old ≡ heading_rows 0 (take row shapes) → b ≡ begins_heading shape
    → new ≡ old ++ cond b (row ∷ []) [] → new ≡ heading_rows 0 (take (row + 1) shapes)
rows-step shapes row shape old new b found before test is =
    is
    ∙ ap (λ (those : List ℕ). those ++ cond b (row ∷ []) []) before
    ∙ ap (λ (t : Bool). heading_rows 0 (take row shapes) ++ cond t (row ∷ []) []) (test ∙ sym (ap begins_heading (get_or_from_slice_get shapes row shape shape found)))
    ∙ sym (rows-more shapes row shape (slice_get_within shapes row shape found))

pub names-step : (texts : List (List ℕ)) (blocks : List PlacedBlock) (i : ℕ) (placed : PlacedBlock) (old new : List (List ℕ)) (b : Bool) → i < length blocks → placed ≡ get_or blocks i placed
    → old ≡ speaker_names texts (take i blocks) → b ≡ is_speech_block placed → new ≡ old ++ cond b (name_in (cue_text texts placed) ∷ []) [] → new ≡ speaker_names texts (take (i + 1) blocks)
names-step texts blocks i placed old new b inside same before test is =
    is
    ∙ ap₂ (λ (those : List (List ℕ)) (t : Bool). those ++ cond t (name_in (cue_text texts placed) ∷ []) []) before test
    ∙ ap (λ (it : PlacedBlock). speaker_names texts (take i blocks) ++ cond (is_speech_block it) (name_in (cue_text texts it) ∷ []) []) same
    ∙ sym (names-more texts blocks i placed inside)

-- ---- entries

front : (blocks : List PlacedBlock) (i : ℕ) (d : PlacedBlock) → i < length blocks → drop i blocks ≡ get_or blocks i d ∷ drop (i + 1) blocks
front blocks i d inside = rw (add-one, drop-cons blocks i d) refl

pub entries-next : (scenes : Scenes) (texts : List (List ℕ)) (headings : ℕ) (blocks : List PlacedBlock) (i : ℕ) (d : PlacedBlock) → i < length blocks
    → entries_from scenes texts headings (drop i blocks) ≡ block_entries scenes texts headings (get_or blocks i d) ++ entries_from scenes texts (headings_behind headings (get_or blocks i d)) (drop (i + 1) blocks)
entries-next scenes texts headings blocks i d inside = ap (entries_from scenes texts headings) (front blocks i d inside)

-- The entries at a block, and those at the blocks behind it.
pub entries-step : (scenes : Scenes) (texts : List (List ℕ)) (blocks : List PlacedBlock) (i : ℕ) (placed : PlacedBlock) (h next : ℕ) (old new all : List EntryOf) → i < length blocks
    → placed ≡ get_or blocks i placed → new ≡ old ++ block_entries scenes texts h placed → next ≡ headings_behind h placed → old ++ entries_from scenes texts h (drop i blocks) ≡ all
    → new ++ entries_from scenes texts next (drop (i + 1) blocks) ≡ all
entries-step scenes texts blocks i placed h next old new all inside same added behind so_far =
    let rest = drop (i + 1) blocks in
    ap₂ (λ (those : List EntryOf) (n : ℕ). those ++ entries_from scenes texts n rest) added behind
    ∙ append_assoc old (block_entries scenes texts h placed) (entries_from scenes texts (headings_behind h placed) rest)
    ∙ ap (λ (it : PlacedBlock). old ++ (block_entries scenes texts h it ++ entries_from scenes texts (headings_behind h it) rest)) same
    ∙ sym (ap (λ (those : List EntryOf). old ++ those) (entries-next scenes texts h blocks i placed inside))
    ∙ so_far

-- So many headings stand from a block on.
pub headings-next : (blocks : List PlacedBlock) (i h : ℕ) (d : PlacedBlock) → i < length blocks
    → h + length (filter is_heading_block (drop i blocks)) ≡ headings_behind h (get_or blocks i d) + length (filter is_heading_block (drop (i + 1) blocks))
headings-next blocks i h d inside = ap (λ those. h + length (filter is_heading_block those)) (front blocks i d inside) ∙ by (is_heading_block (get_or blocks i d))
  where
    later : List PlacedBlock
    later = filter is_heading_block (drop (i + 1) blocks)

    by : (b : Bool) → h + length (cond b (get_or blocks i d ∷ later) later) ≡ cond b (h + 1) h + length later
    by true = omega arith
    by false = refl

-- A heading that comes is one of those that are counted.
pub heading-inside : (blocks : List PlacedBlock) (i h n : ℕ) (d : PlacedBlock) → i < length blocks → is_heading_block (get_or blocks i d) ≡ true
    → h + length (filter is_heading_block (drop i blocks)) ≡ n → h < n
heading-inside blocks i h n d inside is count =
    let next : h + length (filter is_heading_block (drop i blocks)) ≡ h + 1 + length (filter is_heading_block (drop (i + 1) blocks)) =
    headings-next blocks i h d inside ∙ ap (λ b. cond b (h + 1) h + length (filter is_heading_block (drop (i + 1) blocks))) is in
    omega (arith, next, count)
