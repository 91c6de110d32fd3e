-- How many blocks and elements the part of a layout has that an edit lays out anew.
use Rattle.std.proofs.Common.{◌≡◌, ℕ, suc, ◌+◌, ◌-◌, ◌<◌, ◌≤◌, Bool, true, false, List, [], ◌∷◌, ◌++◌, length, map, filter, get_or, take, drop, slice_get, slice_range, Option, Some, cond, inl, inr, refl, sym, ap, ap₂, subst, ◌∙◌, arith, length-append, length-take, length-drop, get_or-take, get_or-drop, All}
use Rattle.std.proofs.lemmas.Bool.{cases_lt}
use Rattle.std.proofs.lemmas.List.{length-map}
use Rattle.std.proofs.lemmas.List.Filters.{length-filter_both}
use Rattle.std.proofs.lemmas.List.Sums.{sum_by-append, sum_by-cons, sum_by-le}
use Rattle.std.proofs.lemmas.Option.{get_or_from_slice_get, slice_get-get_or, slice_get_within}
use Rattle.spec_text.specs.Lines.{LineState, line_texts}
use Rattle.spec_script.specs.BlockValues.{StanzaOf}
use Rattle.spec_script.specs.Elements.{placed_at}
use Rattle.spec_script.specs.LongestRuns.{Group, in_front, longest_runs}
use Rattle.spec_script.specs.Stanzas.{PlacedBlock, blocks_from, stanzas_of}
use Rattle.spec_sheets.specs.Speakers.{Spoken, is_pair, named_from, settled_element, speaker_after, spoken_elements}
use Rattle.spec_sheets.specs.Layout.{is_title_element, in_body, laid_out}
use Rattle.spec_edit.proofs.LayoutParts.{laid_of}
use Rattle.sp_gap.proofs.RunLaws.{slice-parts}
use Rattle.sp_layout.specs.Bodies.{KeyedElements}
use Rattle.sp_layout.specs.Exchanges.{moved_element, with_run}
use Rattle.sp_layout.specs.LaidOut.{LayoutOf}
use Rattle.sp_layout.specs.declared.kept.PartPlaces.{PartPlaces}
use Rattle.sp_layout.specs.Edges.{IsNearestEnd, IsNearestStart}
use Rattle.sp_layout.specs.Edited.{blocks_in}
use Rattle.sp_layout.specs.Kept.{CanSwap, places_back, with_part}
use Rattle.sp_layout.proofs.SpeechAlone.{SpeaksAlone, StanzaSpeaksAlone, none-inside, one-caret, one-left, stanzas-alone}
use Rattle.sp_layout.proofs.StanzaLists.{closes-before, closes-slice, opens-at}

-- Stanzas of which each has so many blocks at most.
abbrev HasAtMost : ℕ → StanzaOf → Type 0
HasAtMost most stanza = length stanza.blocks ≤ most

pub blocks-append : (xs ys : List StanzaOf) → blocks_in (xs ++ ys) ≡ blocks_in xs + blocks_in ys
blocks-append xs ys = sum_by-append (λ (s : StanzaOf). length s.blocks) xs ys

blocks-none : (stanzas : List StanzaOf) → All (HasAtMost 0) stanzas → blocks_in stanzas ≤ 0
blocks-none stanzas all = let most = sum_by-le (λ (s : StanzaOf). length s.blocks) 0 stanzas all in omega (arith, most)

blocks-one : (stanzas : List StanzaOf) → length stanzas ≤ 1 → All (HasAtMost 1) stanzas → blocks_in stanzas ≤ 1
blocks-one stanzas few all = let most = sum_by-le (λ (s : StanzaOf). length s.blocks) 1 stanzas all in omega (arith, most, few)

-- A stanza from one place to before another, in the list.
pub record IsInside (stanzas : List StanzaOf) (i j k : ℕ) (s : StanzaOf) : Type 0 where
  pub low : i + k < j
  pub there : slice_get stanzas (i + k) ≡ Some s

inside : (stanzas : List StanzaOf) (i j k : ℕ) (d : StanzaOf) → k < length (slice_range stanzas i j) → IsInside stanzas i j k (get_or (slice_range stanzas i j) k d)
inside stanzas i j k d low =
    let size = length-take (j - i) (drop i stanzas) in
    let all = length-drop i stanzas in
    let less : k < j - i = omega (arith, low, size) in
    let within : i + k < length stanzas = omega (arith, low, size, all) in
    record {
      low = omega (arith, less);
      there = slice_get-get_or stanzas (i + k) d within ∙ ap (λ (s : StanzaOf). Some s) (sym (get_or-take (j - i) (drop i stanzas) k d less ∙ get_or-drop i stanzas k d));
    }

module _ (stanzas : List StanzaOf) (texts : List (List ℕ)) (list : stanzas ≡ stanzas_of texts) where
  alone-at : (i : ℕ) (s : StanzaOf) → slice_get stanzas i ≡ Some s → SpeaksAlone s.blocks
  alone-at i s at =
      let all : All StanzaSpeaksAlone stanzas = subst (All StanzaSpeaksAlone) (sym list) (stanzas-alone texts) in
      subst StanzaSpeaksAlone (get_or_from_slice_get stanzas i s s at) (all i s (slice_get_within stanzas i s at))

  -- In front of the window there is one at most: a speech without a caret.
  pub ahead-few : (at place : ℕ) → place ≤ at → IsNearestStart stanzas at place → blocks_in (slice_range stanzas place at) ≤ 1
  ahead-few at place order nearest =
      elim (cases_lt place at) [
        | inl some ↦
            let first = slice_range stanzas place (place + 1) in
            let later = slice_range stanzas (place + 1) at in
            let size : length first ≤ 1 = omega (arith, length-take (place + 1 - place) (drop place stanzas)) in
            let one : blocks_in first ≤ 1 = blocks-one first size (λ k d low.
            let it = inside stanzas place (place + 1) k d low in
            let s = get_or first k d in
            let below = it.low in
            one-left s.blocks (alone-at (place + k) s it.there) (λ apart.
            nearest.closes (place + k + 1) (omega arith) (omega (arith, some, below)) (closes-before stanzas (place + k) (place + k + 1) s refl it.there apart))) in
            let none : blocks_in later ≤ 0 = blocks-none later (λ k d low.
            let it = inside stanzas (place + 1) at k d low in
            let s = get_or later k d in
            let below = it.low in
            none-inside s.blocks (alone-at (place + 1 + k) s it.there)
            (λ apart. nearest.opens (place + 1 + k) (omega arith) below (opens-at stanzas (place + 1 + k) s it.there apart))
            (λ apart. nearest.closes (place + 1 + k + 1) (omega arith) (omega (arith, below)) (closes-before stanzas (place + 1 + k) (place + 1 + k + 1) s refl it.there apart))) in
            let both : blocks_in (slice_range stanzas place at) ≡ blocks_in first + blocks_in later =
            ap blocks_in (sym (slice-parts stanzas place (place + 1) at (omega arith) (omega (arith, some)))) ∙ blocks-append first later in
            omega (arith, one, none, both)
        | inr none ↦
            let count : at - place ≡ 0 = omega (arith, none) in
            let nothing : blocks_in (slice_range stanzas place at) ≡ 0 = ap (λ n. blocks_in (take n (drop place stanzas))) count in
            omega (arith, nothing)
      ]

  -- Behind it there is one at most: a speech with a caret.
  pub behind-few : (to place : ℕ) → to ≤ place → IsNearestEnd stanzas to place → blocks_in (slice_range stanzas to place) ≤ 1
  behind-few to place order nearest =
      elim (cases_lt to place) [
        | inl some ↦
            let last = place - 1 in
            let front = slice_range stanzas to last in
            let own = slice_range stanzas last place in
            let size : length own ≤ 1 = omega (arith, some, length-take (place - last) (drop last stanzas)) in
            let one : blocks_in own ≤ 1 = blocks-one own size (λ k d low.
            let it = inside stanzas last place k d low in
            let s = get_or own k d in
            let below = it.low in
            one-caret s.blocks (alone-at (last + k) s it.there) (λ apart. nearest.opens (last + k) (omega (arith, some)) below (opens-at stanzas (last + k) s it.there apart))) in
            let none : blocks_in front ≤ 0 = blocks-none front (λ k d low.
            let it = inside stanzas to last k d low in
            let s = get_or front k d in
            let below = it.low in
            none-inside s.blocks (alone-at (to + k) s it.there)
            (λ apart. nearest.opens (to + k) (omega arith) (omega (arith, below)) (opens-at stanzas (to + k) s it.there apart))
            (λ apart. nearest.closes (to + k + 1) (omega arith) (omega (arith, below)) (closes-slice stanzas to (to + k) (to + k + 1) s refl (omega arith) it.there apart))) in
            let both : blocks_in (slice_range stanzas to place) ≡ blocks_in front + blocks_in own =
            ap blocks_in (sym (slice-parts stanzas to last place (omega (arith, some)) (omega (arith, some)))) ∙ blocks-append front own in
            omega (arith, one, none, both)
        | inr none ↦
            let count : place - to ≡ 0 = omega (arith, none) in
            let nothing : blocks_in (slice_range stanzas to place) ≡ 0 = ap (λ n. blocks_in (take n (drop to stanzas))) count in
            omega (arith, nothing)
      ]

-- Blocks are as many elements at most.
pub blocks-placed : (first : ℕ) (stanzas : List StanzaOf) → length (blocks_from first stanzas) ≡ blocks_in stanzas
blocks-placed first [] = refl
blocks-placed first (s ∷ ss) =
    let rest = blocks-placed (first + s.lines) ss in
    let own = length-map s.blocks (placed_at first) in
    length-append (map (placed_at first) s.blocks) (blocks_from (first + s.lines) ss) ∙ ap₂ (λ n m. n + m) own rest ∙ sym (sum_by-cons (λ (it : StanzaOf). length it.blocks) s ss)

front-few : {X : Type 0} (joins : X → X → Bool) (x : X) (groups : List (Group X)) → length (in_front joins x groups) ≤ suc (length groups)
front-few joins x [] = omega arith
front-few {X} joins x (g ∷ gs) = by (joins x g.first)
  where
    by : (b : Bool) → length (cond b (record { first = x; more = g.first ∷ g.more } ∷ gs) (record { first = x; more = [] } ∷ g ∷ gs)) ≤ suc (suc (length gs))
    by true = omega arith
    by false = omega arith

runs-few : {X : Type 0} (joins : X → X → Bool) (xs : List X) → length (longest_runs joins xs) ≤ length xs
runs-few joins [] = omega arith
runs-few joins (x ∷ xs) = omega (arith, front-few joins x (longest_runs joins xs), runs-few joins xs)

named-count : (on : Bool) (texts : List (List ℕ)) (last : Option (List ℕ)) (blocks : List PlacedBlock) → length (named_from on texts last blocks) ≡ length blocks
named-count on texts last [] = refl
named-count on texts last (block ∷ blocks) = ap suc (named-count on texts (speaker_after texts last block) blocks)

pub elements-few : (on : Bool) (lines : List LineState) (last : Option (List ℕ)) (blocks : List PlacedBlock) → length (spoken_elements on lines last blocks) ≤ length blocks
elements-few on lines last blocks =
    let named = named_from on (line_texts lines) last blocks in
    omega (arith, length-map (longest_runs is_pair named) (settled_element lines), runs-few is_pair named, named-count on (line_texts lines) last blocks)

-- Each of them stands in the title page or in the body.
pub laid-count : (lines : List LineState) (groups : List (Group Spoken)) → length (laid_of is_title_element lines groups) + length (laid_of in_body lines groups) ≡ length groups
laid-count lines groups =
    ap₂ (λ n m. n + m) (length-map (filter is_title_element groups) (laid_out lines)) (length-map (filter in_body groups) (laid_out lines))
    ∙ length-filter_both is_title_element in_body (λ g. refl) groups

-- How many elements there are when some stand in the place of others.
pub run-size : (body : KeyedElements) (from to : ℕ) (others : KeyedElements) (less more : ℕ) → from ≤ to → to ≤ length body.elements
    → length (with_run body from to others less more).elements + (to - from) ≡ length body.elements + length others.elements
run-size body from to others less more order within =
    let es = body.elements in
    let later = map (moved_element less more) (drop to es) in
    omega (
      arith,
      order,
      within,
      length-append (take from es) (others.elements ++ later),
      length-append others.elements later,
      length-take from es,
      length-map (drop to es) (moved_element less more),
      length-drop to es,
    )

-- Where a part was put in that leads back, it keeps as many as stood there.
pub kept-count : (old new come kept : LayoutOf) (at back : PartPlaces) → CanSwap old at come → new ≡ with_part old at come → back ≡ places_back at come → CanSwap new back kept → with_part new back kept ≡ old
    → length kept.titles.elements + length kept.body.elements ≡ (at.title_to - at.title_from) + (at.to - at.from)
kept-count old new come kept at back can new_is back_is again gives =
    let t = can.titles.order in
    let tw = can.titles.within in
    let b = can.body.order in
    let bw = can.body.within in
    let at2 = again.titles.order in
    let aw2 = again.titles.within in
    let bt2 = again.body.order in
    let bw2 = again.body.within in
    let t1 = ap (λ (l : LayoutOf). length l.titles.elements) new_is in
    let b1 = ap (λ (l : LayoutOf). length l.body.elements) new_is in
    let t2 = ap (λ (l : LayoutOf). length l.titles.elements) gives in
    let b2 = ap (λ (l : LayoutOf). length l.body.elements) gives in
    let titles_from = ap (λ (p : PartPlaces). p.title_from) back_is in
    let titles_to = ap (λ (p : PartPlaces). p.title_to) back_is in
    let from = ap (λ (p : PartPlaces). p.from) back_is in
    let to = ap (λ (p : PartPlaces). p.to) back_is in
    let titles : length kept.titles.elements ≡ at.title_to - at.title_from =
    omega (arith, t, tw, at2, aw2, t1, t2, titles_from, titles_to, run-size old.titles at.title_from at.title_to come.titles at.less at.more t tw, run-size new.titles back.title_from back.title_to kept.titles back.less back.more at2 aw2) in
    let body : length kept.body.elements ≡ at.to - at.from =
    omega (arith, b, bw, bt2, bw2, b1, b2, from, to, run-size old.body at.from at.to come.body at.less at.more b bw, run-size new.body back.from back.to kept.body back.less back.more bt2 bw2) in
    ap₂ (λ n m. n + m) titles body
