-- What is laid out, and the elements ahead of it.
use Rattle.std.proofs.Common.{◌≡◌, ℕ, ◌+◌, Bool, true, false, not, cond, List, [], ◌∷◌, ◌++◌, length, map, filter, refl, sym, ap, ap₂, ◌∙◌, append_assoc, length-append, arith}
use Rattle.std.proofs.lemmas.List.{map-append, length-map}
use Rattle.spec_text.specs.Lines.{LineState}
use Rattle.spec_script.specs.declared.Kind.{Kind}
use Rattle.spec_script.specs.declared.Kind.TheVariants as kinds
use Rattle.spec_script.specs.LongestRuns.{Group}
use Rattle.spec_pages.specs.Rows.{Row, ElementOf, is_title, shifted_row, placed_rows}
use Rattle.spec_labels.specs.declared.RowKey.{RowKey}
use Rattle.spec_sheets.specs.Speakers.{Spoken}
use Rattle.spec_sheets.specs.Layout.{laid_out, kind_of, is_title_element, in_body, is_page_break, layout_in, placed_in}
use Rattle.spec_sheets.specs.Shown.{row_key}
use Rattle.sp_layout.specs.Bodies.{KeyedElements, with_element, row_count}
use Rattle.sp_layout.specs.LaidOut.{LayoutOf, break_places, with_laid}
use Rattle.sp_layout.proofs.BodyLaws.{placed_in-push}

-- A body, with elements behind it.
abbrev pub with_elements : List LineState → KeyedElements → List ElementOf → KeyedElements
with_elements lines body elements = record { elements = body.elements ++ elements; keys = body.keys ++ map (row_key lines) (placed_in elements) }

-- A layout followed by what these elements come to.
abbrev pub followed_by : List LineState → LayoutOf → List (Group Spoken) → LayoutOf
followed_by lines layout elements = record {
  titles = with_elements lines layout.titles (layout_in lines elements).titles;
  body = with_elements lines layout.body (layout_in lines elements).body;
  breaks = layout.breaks ++ break_places (length layout.body.elements) elements;
}

-- One element and those behind it.
with_elements-push : (lines : List LineState) (body : KeyedElements) (element : ElementOf) (elements : List ElementOf)
    → with_elements lines (with_element lines body element) elements ≡ with_elements lines body (element ∷ elements)
with_elements-push lines body element elements =
    let key = row_key lines in
    let own = placed_rows element in
    ap₂ (λ (those : List ElementOf) (keys : List RowKey). record { elements = those; keys = keys })
    (append_assoc body.elements (element ∷ []) elements)
    (append_assoc body.keys (map key own) (map key (placed_in elements)) ∙ ap (λ (keys : List RowKey). body.keys ++ keys) (sym (map-append key own (placed_in elements))))

-- No page break is a title page.
pub title-break : (kind : Kind) → is_title kind ≡ true → is_page_break kind ≡ false
title-break kinds.Title is = refl
title-break kinds.PageBreak is = cc
title-break kinds.Heading is = refl
title-break kinds.Action is = refl
title-break kinds.Speech is = refl
title-break kinds.Lyric is = refl
title-break kinds.Transition is = refl
title-break kinds.Centred is = refl
title-break kinds.Section is = refl
title-break kinds.Synopsis is = refl

pub row_count-push : (elements : List ElementOf) (element : ElementOf) → row_count (elements ++ element ∷ []) ≡ row_count elements + length element.rows
row_count-push elements element =
    let all = ap (λ (rows : List Row). length rows) (placed_in-push elements element) in
    let size = length-append (placed_in elements) (placed_rows element) in
    let own = length-map element.rows (shifted_row element.first) in
    omega (arith, all, size, own)

-- One more element is laid out: by whether it is a title page, and whether it is a page break.
next-by : (lines : List LineState) (layout : LayoutOf) (laid : ElementOf) (titles bodies : List ElementOf) (elements : List (Group Spoken)) (t b : Bool) → (t ≡ true → b ≡ false)
    → let count = length layout.body.elements in
    let new = cond t (record layout { titles = with_element lines layout.titles laid })
    (record layout { body = with_element lines layout.body laid; breaks = cond b (layout.breaks ++ count ∷ []) layout.breaks }) in
    let behind = break_places (cond (not t) (count + 1) count) elements in
    ◌≡◌ {A = LayoutOf} (record {
      titles = with_elements lines new.titles titles;
      body = with_elements lines new.body bodies;
      breaks = new.breaks ++ break_places (length new.body.elements) elements;
    }) (record {
      titles = with_elements lines layout.titles (cond t (laid ∷ titles) titles);
      body = with_elements lines layout.body (cond (not t) (laid ∷ bodies) bodies);
      breaks = layout.breaks ++ cond b (count ∷ behind) behind;
    })
next-by lines layout laid titles bodies elements true true not_both = let never : true ≡ false = not_both refl in cc
next-by lines layout laid titles bodies elements true false not_both =
    ap (λ (it : KeyedElements). record { titles = it; body = with_elements lines layout.body bodies; breaks = layout.breaks ++ break_places (length layout.body.elements) elements })
    (with_elements-push lines layout.titles laid titles)
next-by lines layout laid titles bodies elements false true not_both =
    let count = length layout.body.elements in
    ap₂ (λ (it : KeyedElements) (breaks : List ℕ). record { titles = with_elements lines layout.titles titles; body = it; breaks = breaks })
    (with_elements-push lines layout.body laid bodies)
    (append_assoc layout.breaks (count ∷ []) (break_places (length (layout.body.elements ++ laid ∷ [])) elements)
    ∙ ap (λ n. layout.breaks ++ count ∷ break_places n elements) (length-append layout.body.elements (laid ∷ [])))
next-by lines layout laid titles bodies elements false false not_both =
    ap₂ (λ (it : KeyedElements) n. record { titles = with_elements lines layout.titles titles; body = it; breaks = layout.breaks ++ break_places n elements })
    (with_elements-push lines layout.body laid bodies) (length-append layout.body.elements (laid ∷ []))

-- The elements behind, by whether the first of all is a title page.
laid-titles : (lines : List LineState) (element : Group Spoken) (elements : List (Group Spoken)) (t : Bool)
    → map (laid_out lines) (cond t (element ∷ elements) elements) ≡ cond t (laid_out lines element ∷ map (laid_out lines) elements) (map (laid_out lines) elements)
laid-titles lines element elements true = refl
laid-titles lines element elements false = refl

pub followed-next : (lines : List LineState) (layout : LayoutOf) (element : Group Spoken) (elements : List (Group Spoken))
    → followed_by lines (with_laid lines layout element) elements ≡ followed_by lines layout (element ∷ elements)
followed-next lines layout element elements =
    let t = is_title_element element in
    let laid = laid_out lines element in
    let behind = layout_in lines elements in
    next-by lines layout laid behind.titles behind.body elements t (is_page_break (kind_of element)) (title-break (kind_of element))
    ∙ ap₂ (λ (titles bodies : List ElementOf). record {
      titles = with_elements lines layout.titles titles;
      body = with_elements lines layout.body bodies;
      breaks = layout.breaks ++ break_places (length layout.body.elements) (element ∷ elements);
    }) (sym (laid-titles lines element (filter is_title_element elements) t)) (sym (laid-titles lines element (filter in_body elements) (not t)))
