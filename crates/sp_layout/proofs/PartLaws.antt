-- A part of a layout exchanged gives the layout of the text after an edit.
use Rattle.std.proofs.Common.{◌≡◌, ℕ, ◌+◌, ◌-◌, Bool, List, ◌++◌, length, map, take, drop, refl, sym, ap, ap₂, ◌∙◌, arith}
use Rattle.std.specs.Prelude.{All}
use Rattle.std.proofs.lemmas.List.{map-append, length-map}
use Rattle.spec_text.specs.Lines.{LineState}
use Rattle.spec_script.specs.LongestRuns.{Group}
use Rattle.spec_pages.specs.Rows.{ElementOf}
use Rattle.spec_labels.specs.declared.RowKey.{RowKey}
use Rattle.spec_sheets.specs.Shown.{row_key}
use Rattle.spec_script.specs.Stanzas.{PlacedBlock}
use Rattle.spec_sheets.specs.Speakers.{Spoken, spoken_elements}
use Rattle.spec_sheets.specs.Layout.{is_title_element, in_body, placed_in}
use Rattle.spec_edit.specs.Moved.{moved_group}
use Rattle.spec_edit.proofs.MovedElements.{GroupStays}
use Rattle.spec_edit.proofs.LayoutParts.{laid_of, laid-three, laid-moved, keys-moved, still-groups, still-laid}
use Rattle.sp_gap.specs.Moves.{shifted}
use Rattle.sp_layout.specs.Bodies.{KeyedElements, body_of, row_count}
use Rattle.sp_layout.specs.Exchanges.{moved_element, with_run}
use Rattle.sp_layout.specs.Speaking.{SpeakersOf}
use Rattle.sp_layout.specs.LaidOut.{LayoutOf, break_places, keyed, layout_behind}
use Rattle.sp_layout.proofs.BodyExchanges.{count-append}
use Rattle.sp_layout.proofs.BodyLaws.{placed_in-append}
use Rattle.sp_layout.specs.declared.kept.PartPlaces.{PartPlaces}
use Rattle.sp_layout.specs.Runs.{with_breaks}
use Rattle.sp_layout.specs.Kept.{with_part}
use Rattle.sp_layout.specs.Relaid.{places_of, IsRelaid, relaid_elements}
use Rattle.sp_layout.proofs.BreakLaws.{breaks-moved, breaks-shifted, breaks-three, elements_in}
use Rattle.sp_layout.proofs.RunsBack.{front-of}

keys-append : (lines : List LineState) (one other : List ElementOf) → map (row_key lines) (placed_in (one ++ other)) ≡ map (row_key lines) (placed_in one) ++ map (row_key lines) (placed_in other)
keys-append lines one other = ap (map (row_key lines)) (placed_in-append one other) ∙ map-append (row_key lines) (placed_in one) (placed_in other)

-- Elements of lines, of which some are exchanged for others of other lines.
run-is : (lines later : List LineState) (front gone come rest : List ElementOf) (less more : ℕ) → map (row_key later) (placed_in front) ≡ map (row_key lines) (placed_in front)
    → map (row_key later) (placed_in (map (moved_element less more) rest)) ≡ map (row_key lines) (placed_in rest)
    → with_run (body_of lines (front ++ (gone ++ rest))) (length front) (length front + length gone) (body_of later come) less more ≡ body_of later (front ++ (come ++ map (moved_element less more) rest))
run-is lines later front gone come rest less more front_keys rest_keys =
    let parts = front-of front gone rest (length front) (length front + length gone) refl refl in
    let keys = map (row_key lines) (placed_in (front ++ (gone ++ rest))) in
    let own = map (row_key lines) (placed_in front) in
    let key_split : keys ≡ own ++ (map (row_key lines) (placed_in gone) ++ map (row_key lines) (placed_in rest)) =
    keys-append lines front (gone ++ rest) ∙ ap (λ (ks : List RowKey). own ++ ks) (keys-append lines gone rest) in
    let front_len : length own ≡ row_count front = length-map (placed_in front) (row_key lines) in
    let gone_len : row_count front + row_count gone ≡ row_count front + length (map (row_key lines) (placed_in gone)) = omega (arith, length-map (placed_in gone) (row_key lines)) in
    let key_parts = front-of own (map (row_key lines) (placed_in gone)) (map (row_key lines) (placed_in rest)) (row_count front) (row_count front + row_count gone) front_len gone_len in
    let end : row_count (take (length front + length gone) (front ++ (gone ++ rest))) ≡ row_count front + row_count gone = ap row_count parts.1 ∙ count-append front gone in
    ap₂ (λ (es : List ElementOf) (ks : List RowKey). record { elements = es; keys = ks })
    (ap₂ (λ (xs ys : List ElementOf). xs ++ (come ++ map (moved_element less more) ys)) parts.0 parts.2)
    (ap₂ (λ n m. take n keys ++ (map (row_key later) (placed_in come) ++ drop m keys)) (ap row_count parts.0) end
    ∙ ap₂ (λ (xs ys : List RowKey). xs ++ (map (row_key later) (placed_in come) ++ ys)) (ap (take (row_count front)) key_split ∙ key_parts.0 ∙ sym front_keys) (ap (drop (row_count front + row_count gone)) key_split ∙ key_parts.2 ∙ sym rest_keys)
    ∙ ap (λ (ks : List RowKey). map (row_key later) (placed_in front) ++ ks) (sym (keys-append later come (map (moved_element less more) rest)))
    ∙ sym (keys-append later front (come ++ map (moved_element less more) rest)))

-- Those in front are the same.
pub front-laid : (lines later : List LineState) (front : List (Group Spoken)) → All (GroupStays 0 0 lines later) front → (among : Group Spoken → Bool) → ((g : Group Spoken) → among (moved_group 0 0 g) ≡ among g)
    → laid_of among later front ≡ laid_of among lines front
front-laid lines later front still among same =
    ap (laid_of among later) (sym (still-groups front)) ∙ laid-moved 0 0 lines later among same front still ∙ still-laid (laid_of among lines front)

module _ (lines later : List LineState) (less more : ℕ) (front gone come rest : List (Group Spoken)) (still : All (GroupStays 0 0 lines later) front) (moved : All (GroupStays less more lines later) rest) where
  front-keys : (among : Group Spoken → Bool) → map (row_key later) (placed_in (laid_of among lines front)) ≡ map (row_key lines) (placed_in (laid_of among lines front))
  front-keys among = ap (λ (es : List ElementOf). map (row_key later) (placed_in es)) (sym (still-laid (laid_of among lines front))) ∙ keys-moved 0 0 lines later among front still

  elements-part : (among : Group Spoken → Bool) → ((l m : ℕ) (g : Group Spoken) → among (moved_group l m g) ≡ among g)
      → with_run (body_of lines (laid_of among lines (front ++ (gone ++ rest)))) (length (laid_of among lines front)) (length (laid_of among lines front) + length (laid_of among lines gone)) (body_of later (laid_of among later come)) less more
      ≡ body_of later (laid_of among later (front ++ (come ++ map (moved_group less more) rest)))
  elements-part among same =
      let f = laid_of among lines front in
      let g = laid_of among lines gone in
      let o = laid_of among later come in
      let k = laid_of among lines rest in
      ap (λ (es : List ElementOf). with_run (body_of lines es) (length f) (length f + length g) (body_of later o) less more) (laid-three among lines front gone rest)
      ∙ run-is lines later f g o k less more (front-keys among) (keys-moved less more lines later among rest moved)
      ∙ ap (body_of later) (sym (laid-three among later front come (map (moved_group less more) rest)
      ∙ ap₂ (λ (xs ys : List ElementOf). xs ++ (o ++ ys)) (front-laid lines later front still among (same 0 0)) (laid-moved less more lines later among (same less more) rest moved)))

  title-same : (l m : ℕ) (g : Group Spoken) → is_title_element (moved_group l m g) ≡ is_title_element g
  title-same l m g = refl

  body-same : (l m : ℕ) (g : Group Spoken) → in_body (moved_group l m g) ≡ in_body g
  body-same l m g = refl

  -- Elements in front, those that go, and those that come.
  abbrev rf : ℕ
  rf = elements_in lines front

  abbrev rg : ℕ
  rg = elements_in lines gone

  abbrev rc : ℕ
  rc = elements_in later come

  breaks-part : with_breaks (break_places 0 (front ++ (gone ++ rest))) (length (break_places 0 front)) (length (break_places 0 front) + length (break_places rf gone)) (break_places 0 come) rf (rf + rg) (rf + rc)
      ≡ break_places 0 (front ++ (come ++ map (moved_group less more) rest))
  breaks-part =
      let f = break_places 0 front in
      let g = break_places rf gone in
      let k = break_places (rf + rg) rest in
      let parts = front-of f g k (length f) (length f + length g) refl refl in
      let come_at : 0 - 0 + rf ≡ rf = omega arith in
      let rest_at : rf + rg - (rf + rg) + (rf + rc) ≡ rf + rc = omega arith in
      ap (λ (ns : List ℕ). take (length f) ns ++ (map (shifted 0 rf) (break_places 0 come) ++ map (shifted (rf + rg) (rf + rc)) (drop (length f + length g) ns))) (breaks-three lines lines front gone rest)
      ∙ ap₂ (λ (xs ys : List ℕ). xs ++ (map (shifted 0 rf) (break_places 0 come) ++ map (shifted (rf + rg) (rf + rc)) ys)) parts.0 parts.2
      ∙ ap₂ (λ (xs ys : List ℕ). f ++ (xs ++ ys))
      (breaks-shifted 0 rf 0 come (omega arith) ∙ ap (λ n. break_places n come) come_at)
      (breaks-shifted (rf + rg) (rf + rc) (rf + rg) rest (omega arith) ∙ ap (λ n. break_places n rest) rest_at ∙ sym (breaks-moved less more (rf + rc) rest))
      ∙ sym (breaks-three lines later front come (map (moved_group less more) rest))

  -- The layout after the edit: that before it, with the elements that come laid out in the place of those that go.
  pub part-is : with_part (keyed lines (front ++ (gone ++ rest))) (places_of lines front gone less more) (keyed later come) ≡ keyed later (front ++ (come ++ map (moved_group less more) rest))
  part-is =
      let at = places_of lines front gone less more in
      let titles = with_run (body_of lines (laid_of is_title_element lines (front ++ (gone ++ rest)))) at.title_from at.title_to (body_of later (laid_of is_title_element later come)) less more in
      let body = with_run (body_of lines (laid_of in_body lines (front ++ (gone ++ rest)))) at.from at.to (body_of later (laid_of in_body later come)) less more in
      ap (λ (those : List ℕ). record { titles = titles; body = body; breaks = those }) breaks-part
      ∙ ap₂ (λ (t b : KeyedElements). record { titles = t; body = b; breaks = break_places 0 (front ++ (come ++ map (moved_group less more) rest)) }) (elements-part is_title_element title-same) (elements-part in_body body-same)

-- The layout of the elements after an edit, with those behind the part as they were.
pub relaid-is : (before lines : List LineState) (speakers : SpeakersOf) (blocks : List PlacedBlock) (places : PartPlaces) (layout : LayoutOf) (it : IsRelaid before lines speakers blocks places layout)
    → with_part layout places (layout_behind lines speakers blocks) ≡ keyed lines (relaid_elements before lines speakers blocks places layout it)
relaid-is before lines speakers blocks places layout it =
    let part = layout_behind lines speakers blocks in
    let come = spoken_elements speakers.on lines speakers.last blocks in
    ap₂ (λ (l : LayoutOf) (at : PartPlaces). with_part l at part) (it.was ∙ ap (keyed before) it.old) it.at
    ∙ part-is before lines places.less places.more it.front it.gone come it.rest it.still it.moved
