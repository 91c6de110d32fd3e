-- The lines of headings in a layout, and in one with a part exchanged.
use Rattle.std.proofs.Common.{◌≡◌, ℕ, ◌+◌, ◌-◌, ◌≤◌, ◌↔◌, Bool, true, false, cond, Option, Some, None, List, [], ◌∷◌, ◌++◌, length, map, take, drop, slice_range, refl, sym, ap, ap₂, subst, ◌∙◌, arith, take_at, drop_at, length-drop}
use Rattle.std.specs.Prelude.{option_map}
use Rattle.std.proofs.lemmas.Grind.{flat_map-append}
use Rattle.std.proofs.lemmas.List.{map-append, length-map, length-take-le, append_cancel_left, append_cancel_right}
use Rattle.spec_text.specs.Lines.{IsText, line_texts}
use Rattle.spec_script.specs.Stanzas.{blocks_of}
use Rattle.spec_pages.specs.declared.Shape.{Shape}
use Rattle.spec_pages.specs.Pages.{begins_heading}
use Rattle.spec_pages.specs.Rows.{Row, ElementOf, placed_rows, shifted_row}
use Rattle.spec_labels.specs.declared.RowKey.{RowKey}
use Rattle.spec_labels.specs.Labels.{LabelOf}
use Rattle.spec_labels.specs.Scenes.{SceneRecordOf}
use Rattle.spec_sheets.specs.Layout.{placed_in}
use Rattle.spec_state.specs.State.{State, text_of}
use Rattle.spec_state.specs.Headings.{heading_labels}
use Rattle.spec_state.specs.StateSheets.{layout_in}
use Rattle.sp_gap.proofs.RunLaws.{in-three}
use Rattle.sp_layout.specs.Bodies.{KeyedElements, row_count, shapes_in}
use Rattle.sp_layout.specs.Exchanges.{AreRowsAlike, moved_element, run_of, with_run}
use Rattle.sp_layout.specs.LaidOut.{LayoutOf}
use Rattle.sp_layout.proofs.BodyExchanges.{count-append, till-is}
use Rattle.sp_layout.proofs.RowSwaps.{place_behind, rows-run, rows_at-run, shapes-alike}
use Rattle.sp_layout.specs.declared.kept.PartPlaces.{PartPlaces}
use Rattle.sp_layout.specs.Changes.{CanChange, CanSpeak, ChangeOf, SpeechOf, with_change, with_speech}
use Rattle.sp_layout.specs.Kept.{laid_of, with_part}
use Rattle.sp_scenes.specs.LineLabels.{line_labels}
use Rattle.sp_sheets.specs.Firsts.{laid_in}
use Rattle.sp_sheets.specs.HeadingIds.{body_headings, heading_ids, laid_headings, laid_labels}
use Rattle.sp_sheets.proofs.LinesOfHeadings.{labels-of}
use Rattle.sp_sheets.proofs.OpenedHeadings.{ids-opened, state-opened}

-- ---- rows in parts

ids-append : (shapes others : List Shape) (keys more : List RowKey) → length keys ≡ length shapes → heading_ids (shapes ++ others) (keys ++ more) ≡ heading_ids shapes keys ++ heading_ids others more
ids-append [] others [] more same = refl
ids-append [] others (key ∷ keys) more same = absurd (omega (arith, same))
ids-append (shape ∷ shapes) others [] more same = absurd (omega (arith, same))
ids-append (shape ∷ shapes) others (key ∷ keys) more same = by (begins_heading shape) (ids-append shapes others keys more (omega (arith, same)))
  where
    by : (b : Bool) → heading_ids (shapes ++ others) (keys ++ more) ≡ heading_ids shapes keys ++ heading_ids others more
        → cond b (key.line ∷ heading_ids (shapes ++ others) (keys ++ more)) (heading_ids (shapes ++ others) (keys ++ more)) ≡ cond b (key.line ∷ heading_ids shapes keys) (heading_ids shapes keys) ++ heading_ids others more
    by true rest = ap (λ (ids : List ℕ). key.line ∷ ids) rest
    by false rest = rest

ids-three : (front own back : List Shape) (front_keys own_keys back_keys : List RowKey) → length front_keys ≡ length front → length own_keys ≡ length own
    → heading_ids (front ++ (own ++ back)) (front_keys ++ (own_keys ++ back_keys)) ≡ heading_ids front front_keys ++ (heading_ids own own_keys ++ heading_ids back back_keys)
ids-three front own back front_keys own_keys back_keys one two =
    ids-append front (own ++ back) front_keys (own_keys ++ back_keys) one ∙ ap (λ (ids : List ℕ). heading_ids front front_keys ++ ids) (ids-append own back own_keys back_keys two)

-- What page ends see of rows, by their elements.
pub shapes-append : (one other : List ElementOf) → shapes_in (one ++ other) ≡ shapes_in one ++ shapes_in other
shapes-append one other = ap (map (λ (row : Row). row.shape)) (flat_map-append placed_rows one other) ∙ map-append (λ (row : Row). row.shape) (placed_in one) (placed_in other)

shapes-shifted : (n m : ℕ) (rows : List Row) → map (λ (row : Row). row.shape) (map (shifted_row n) rows) ≡ map (λ (row : Row). row.shape) (map (shifted_row m) rows)
shapes-shifted n m [] = refl
shapes-shifted n m (row ∷ rows) = ap (λ (shapes : List Shape). row.shape ∷ shapes) (shapes-shifted n m rows)

pub shapes-moved : (less more : ℕ) (elements : List ElementOf) → shapes_in (map (moved_element less more) elements) ≡ shapes_in elements
shapes-moved less more [] = refl
shapes-moved less more (element ∷ elements) =
    let own = moved_element less more element in
    map-append (λ (row : Row). row.shape) (placed_rows own) (placed_in (map (moved_element less more) elements))
    ∙ ap₂ (λ (a b : List Shape). a ++ b) (shapes-shifted own.first element.first element.rows) (shapes-moved less more elements)
    ∙ sym (map-append (λ (row : Row). row.shape) (placed_rows element) (placed_in elements))

shapes-three : (elements : List ElementOf) (from to : ℕ) → from ≤ to → shapes_in elements ≡ shapes_in (take from elements) ++ (shapes_in (slice_range elements from to) ++ shapes_in (drop to elements))
shapes-three elements from to order =
    let run = slice_range elements from to in
    ap shapes_in (in-three elements from to order) ∙ shapes-append (take from elements) (run ++ drop to elements) ∙ ap (λ (shapes : List Shape). shapes_in (take from elements) ++ shapes) (shapes-append run (drop to elements))

shapes-count : (elements : List ElementOf) → length (shapes_in elements) ≡ row_count elements
shapes-count elements = length-map (placed_in elements) (λ (row : Row). row.shape)

-- ---- a run of elements

-- The rows of a run are those from its first element's to before those of the element behind it.
pub record RowsOfRun (elements : List ElementOf) (from to : ℕ) : Type 0 where
  pub count : row_count (take to elements) ≡ row_count (take from elements) + row_count (slice_range elements from to)
  pub within : row_count (take to elements) ≤ row_count elements
  pub shapes : slice_range (shapes_in elements) (row_count (take from elements)) (row_count (take to elements)) ≡ shapes_in (slice_range elements from to)

pub rows-of-run : (elements : List ElementOf) (from to : ℕ) → from ≤ to → to ≤ length elements → RowsOfRun elements from to
rows-of-run elements from to order within =
    let front = take from elements in
    let run = slice_range elements from to in
    let behind = drop to elements in
    let start = row_count front in
    let end = row_count (take to elements) in
    let count : end ≡ start + row_count run = ap row_count (till-is elements from to order within) ∙ count-append front run in
    let all : row_count elements ≡ start + (row_count run + row_count behind) =
    ap row_count (in-three elements from to order) ∙ count-append front (run ++ behind) ∙ ap (λ n. start + n) (count-append run behind) in
    let size : length (shapes_in run) ≡ end - start = omega (arith, count, shapes-count run) in
    record {
      count = count;
      within = omega (arith, count, all);
      shapes = ap (λ (shapes : List Shape). take (end - start) (drop start shapes)) (shapes-three elements from to order)
          ∙ ap (take (end - start)) (drop_at (shapes_in front) (shapes_in run ++ shapes_in behind) start (shapes-count front))
          ∙ take_at (shapes_in run) (shapes_in behind) (end - start) size;
    }

-- The headings of a body, and of one with other elements in the place of a run.
record HeadingParts (body gone others made : KeyedElements) : Type 0 where
  pub front : List ℕ
  pub rest : List ℕ
  pub old : body_headings body ≡ front ++ (body_headings gone ++ rest)
  pub new : body_headings made ≡ front ++ (body_headings others ++ rest)

heading-parts : (body others : KeyedElements) (from to less more : ℕ) → from ≤ to → to ≤ length body.elements → length body.keys ≡ row_count body.elements → length others.keys ≡ row_count others.elements
    → HeadingParts body (run_of body from to) others (with_run body from to others less more)
heading-parts body others from to less more order within sizes other_sizes =
    let elements = body.elements in
    let front = take from elements in
    let run = slice_range elements from to in
    let behind = drop to elements in
    let start = row_count front in
    let end = row_count (take to elements) in
    let keys = body.keys in
    let of = rows-of-run elements from to order within in
    let one : length (take start keys) ≡ length (shapes_in front) = omega (arith, length-take-le start keys (omega (arith, of.count, of.within, sizes)), shapes-count front) in
    let two : length (slice_range keys start end) ≡ length (shapes_in run) =
    omega (arith, length-take-le (end - start) (drop start keys) (omega (arith, length-drop start keys, of.count, of.within, sizes)), shapes-count run, of.count) in
    let other : length others.keys ≡ length (shapes_in others.elements) = omega (arith, other_sizes, shapes-count others.elements) in
    let moved = map (moved_element less more) behind in
    let shapes : shapes_in (front ++ (others.elements ++ moved)) ≡ shapes_in front ++ (shapes_in others.elements ++ shapes_in behind) =
    shapes-append front (others.elements ++ moved) ∙ ap (λ (those : List Shape). shapes_in front ++ those) (shapes-append others.elements moved ∙ ap (λ (those : List Shape). shapes_in others.elements ++ those) (shapes-moved less more behind)) in
    record {
      front = heading_ids (shapes_in front) (take start keys);
      rest = heading_ids (shapes_in behind) (drop end keys);
      old = ap₂ heading_ids (shapes-three elements from to order) (in-three keys start end (omega (arith, of.count)))
          ∙ ids-three (shapes_in front) (shapes_in run) (shapes_in behind) (take start keys) (slice_range keys start end) (drop end keys) one two;
      new = ap (λ (those : List Shape). heading_ids those (take start keys ++ (others.keys ++ drop end keys))) shapes
          ∙ ids-three (shapes_in front) (shapes_in others.elements) (shapes_in behind) (take start keys) others.keys (drop end keys) one other;
    }

-- They stay on their lines just where those that come stand on the lines of those that go.
pub headings-kept : (body others : KeyedElements) (from to less more : ℕ) → from ≤ to → to ≤ length body.elements → length body.keys ≡ row_count body.elements → length others.keys ≡ row_count others.elements
    → body_headings (run_of body from to) ≡ body_headings others ↔ body_headings (with_run body from to others less more) ≡ body_headings body
headings-kept body others from to less more order within sizes other_sizes =
    let parts = heading-parts body others from to less more order within sizes other_sizes in
    let gone = body_headings (run_of body from to) in
    let come = body_headings others in (
      λ e. parts.new ∙ ap (λ (ids : List ℕ). parts.front ++ (ids ++ parts.rest)) (sym e) ∙ sym parts.old,
      λ e. append_cancel_right gone come parts.rest (append_cancel_left parts.front (gone ++ parts.rest) (come ++ parts.rest) (sym parts.old ∙ sym e ∙ parts.new)),
    )

-- ---- a speech

-- The rows of a speech that page ends see as those that stand there move no heading.
pub spoken-headings : (layout : LayoutOf) (change : ChangeOf) → CanChange layout change
    → laid_headings (with_change layout change) ≡ laid_headings (with_part layout change.part.places (laid_of change.part.kept))
spoken-headings layout change can = by change.speech can.speech
  where
    at : PartPlaces
    at = change.part.places

    part : LayoutOf
    part = laid_of change.part.kept

    by : (speech : Option SpeechOf) → CanSpeak layout at.to speech → laid_headings (with_part (with_speech layout speech) at part) ≡ laid_headings (with_part layout at part)
    by None behind = refl
    by (Some it) behind =
        let body = layout.body in
        let made = with_run body at.from at.to part.body at.less at.more in
        let place = place_behind at.from at.to (length part.body.elements) it.element in
        let low = behind.behind in
        let order = can.part.body.order in
        let within = can.part.body.within in
        let alike = subst (AreRowsAlike it.rows) (sym (rows_at-run body it.element at.from at.to part.body at.less at.more order low within)) behind.alike in
        ap body_headings (rows-run body it.element it.rows at.from at.to part.body at.less at.more order low within)
        ∙ ap (λ (shapes : List Shape). heading_ids shapes made.keys) (shapes-alike made.elements place it.rows alike)

-- ---- states

-- The headings of a state are those of its layout, and so are their labels.
labels-by : (state : State) (scenes : Option (List SceneRecordOf)) → IsText (text_of state) → heading_labels state.lines scenes ≡ laid_labels (laid_in state) scenes
labels-by state None is = refl
labels-by state (Some records) is =
    let ids = ids-opened state.lines (placed_in (layout_in state).body) ∙ state-opened state is in
    ap (λ (labels : List LabelOf). Some labels) (sym (labels-of records state.lines (blocks_of (line_texts state.lines))) ∙ ap (line_labels records) (sym ids))

pub labels-laid : (state : State) → IsText (text_of state) → heading_labels state.lines state.scenes ≡ laid_labels (laid_in state) state.scenes
labels-laid state is = labels-by state state.scenes is

-- Labels of another layout are those of the state, where its headings stand on the same lines.
pub labels-stay : (state : State) (layout was : LayoutOf) (labels : Option (List LabelOf)) → IsText (text_of state) → layout ≡ laid_in state → labels ≡ laid_labels was state.scenes → laid_headings was ≡ laid_headings layout
    → labels ≡ heading_labels state.lines state.scenes
labels-stay state layout was labels is laid are same =
    are ∙ ap (λ (ids : List ℕ). option_map (λ (records : List SceneRecordOf). line_labels records ids) state.scenes) (same ∙ ap laid_headings laid) ∙ sym (labels-laid state is)
