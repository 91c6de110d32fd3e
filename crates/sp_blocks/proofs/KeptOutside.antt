-- What is outside the parts in notes is what the flags of notes leave.
use Rattle.std.specs.Prelude.{◌≡◌, ℕ, Bool, true, false, not, List, [], ◌∷◌, ◌++◌, map, length, take, drop, replicate, slice_range, Some, min, max, ◌<◌, ◌≤◌, ◌+◌, ◌-◌}
use Rattle.std.proofs.Common.{cond, suc, refl, sym, ap, subst, ◌∙◌, append_assoc, inl, inr, arith, length-drop, length-append}
use Rattle.std.proofs.lemmas.Bool.{false≢true, cases_lt, lt-ltb, le-ltb}
use Rattle.std.proofs.lemmas.List.{append-nil, take_all, length-take-le, take-map, drop-map, length-map}
use Rattle.spec_text.specs.Parts.{SpanOf, Parts}
use Rattle.spec_script.specs.Spans.{part, span_len, runs_left, text_in, cut_spans, place_in}
use Rattle.spec_script.specs.Visible.{clip_spans}
use Rattle.std.proofs.lemmas.List.Concat.{flat_map-append}
use Rattle.spec_script.proofs.SpanLaws.{length-slice_range}
use Rattle.spec_script.proofs.KeptPlaces.{place_in-first, place_in-later}
use Rattle.spec_script.proofs.NoteLines.{first_flags, first_flags-is, take-first_flags, drop-first_flags}
use Rattle.sp_blocks.specs.Outside.{between, later, outside}

part-none : (from to : ℕ) → to ≤ from → part from to ≡ []
part-none from to h = ap (λ b. cond b ((from, to) ∷ []) []) (le-ltb from to h)

part-some : (from to : ℕ) → from < to → part from to ≡ (from, to) ∷ []
part-some from to h = ap (λ b. cond b ((from, to) ∷ []) []) (lt-ltb from to h)

-- The parts begin not before the place.
abbrev Behind : ℕ → List SpanOf → Type 0
Behind to [] = Unit {0}
Behind to (span ∷ spans) = to ≤ span.0

between-behind : (from to : ℕ) (gone : List SpanOf) → Behind to gone → between from to gone ≡ part from to
between-behind from to [] h = refl
between-behind from to (span ∷ spans) h = ap (λ b. cond b (part from span.0 ++ between span.1 to spans) (part from to)) (le-ltb span.0 to h)

later-behind : (to : ℕ) (gone : List SpanOf) → Behind to gone → later to gone ≡ gone
later-behind to [] h = refl
later-behind to (span ∷ spans) h = ap (λ b. cond b (later to spans) (span ∷ spans)) (le-ltb span.0 to h)

between-first : (from to : ℕ) (span : SpanOf) (spans : List SpanOf) → span.0 < to → between from to (span ∷ spans) ≡ part from span.0 ++ between span.1 to spans
between-first from to span spans h = ap (λ b. cond b (part from span.0 ++ between span.1 to spans) (part from to)) (lt-ltb span.0 to h)

later-first : (to : ℕ) (span : SpanOf) (spans : List SpanOf) → span.0 < to → later to (span ∷ spans) ≡ later to spans
later-first to span spans h = ap (λ b. cond b (later to spans) (span ∷ spans)) (lt-ltb span.0 to h)

-- The walk over a span and the runs of its flagged places, at a place outside them or in one that began at `start`:
-- what comes is outside from `from` on.
abbrev Left : Bool → ℕ → ℕ → ℕ → ℕ → List Bool → List SpanOf → Type 0
Left false from start at to flags others = between from to (runs_left at at (map not flags) ++ others) ≡ runs_left from at flags
Left true from start at to flags others =
    between from to (runs_left start at (map not flags) ++ others) ≡ part from start ++ runs_left at at flags

left : (inside : Bool) (from start at to : ℕ) (flags : List Bool) (others : List SpanOf) → (inside ≡ true → start < at) → at + length flags ≡ to → Behind to others → Left inside from start at to flags others
left false from start at to [] others began end behind =
    let same : to ≡ at = omega arith in
    ap (λ l. between from to (l ++ others)) (part-none at at (omega arith)) ∙ between-behind from to others behind ∙ ap (part from) same
left false from start at to (true ∷ flags) others began end behind =
    left true from at (at + 1) to flags others (λ _. omega arith) (omega arith) behind
left false from start at to (false ∷ flags) others began end behind =
    ap (λ l. between from to (l ++ runs_left (at + 1) (at + 1) (map not flags) ++ others)) (part-none at at (omega arith))
    ∙ left false from start (at + 1) to flags others (λ e. absurd (false≢true e)) (omega arith) behind
left true from start at to [] others began end behind =
    let same : to ≡ at = omega arith in
    ap (λ l. between from to (l ++ others)) (part-some start at (began refl))
    ∙ between-first from to (start, at) others (omega (arith, began refl))
    ∙ ap (λ l. part from start ++ l) (between-behind at to others behind ∙ ap (part at) same)
left true from start at to (true ∷ flags) others began end behind =
    left true from start (at + 1) to flags others (λ _. omega (arith, began refl)) (omega arith) behind
    ∙ ap (λ l. part from start ++ (l ++ runs_left (at + 1) (at + 1) flags)) (sym (part-none at at (omega arith)))
left true from start at to (false ∷ flags) others began end behind =
    let rest = runs_left (at + 1) (at + 1) (map not flags) in
    ap (λ l. between from to (l ++ rest ++ others)) (part-some start at (began refl))
    ∙ between-first from to (start, at) (rest ++ others) (omega (arith, began refl))
    ∙ ap (λ l. part from start ++ l) (left false at start (at + 1) to flags others (λ e. absurd (false≢true e)) (omega arith) behind)

-- Behind a span are those that begin behind it.
later-part : (start at to : ℕ) (others : List SpanOf) → at ≤ to → later to (part start at ++ others) ≡ later to others
later-part start at to others end =
    elim (cases_lt start at) [
      | inl some ↦ ap (λ l. later to (l ++ others)) (part-some start at some) ∙ later-first to (start, at) others (omega arith)
      | inr none ↦ ap (λ l. later to (l ++ others)) (part-none start at none)
    ]

later-left : (start at to : ℕ) (flags : List Bool) (others : List SpanOf) → at + length flags ≡ to → Behind to others → later to (runs_left start at flags ++ others) ≡ others
later-left start at to [] others end behind = later-part start at to others (omega arith) ∙ later-behind to others behind
later-left start at to (true ∷ flags) others end behind =
    ap (later to) (append_assoc (part start at) (runs_left (at + 1) (at + 1) flags) others)
    ∙ later-part start at to (runs_left (at + 1) (at + 1) flags ++ others) (omega arith)
    ∙ later-left (at + 1) (at + 1) to flags others (omega arith) behind
later-left start at to (false ∷ flags) others end behind = later-left start (at + 1) to flags others (omega arith) behind

-- What is left of parts begins not before them.
behind_part : (low from to : ℕ) (others : List SpanOf) → low ≤ from → Behind low others → Behind low (part from to ++ others)
behind_part low from to others h behind =
    elim (cases_lt from to) [
      | inl some ↦ subst (λ l. Behind low (l ++ others)) (sym (part-some from to some)) h
      | inr none ↦ subst (λ l. Behind low (l ++ others)) (sym (part-none from to none)) behind
    ]

behind_runs : (low from at : ℕ) (flags : List Bool) (others : List SpanOf) → low ≤ from → from ≤ at → Behind low others → Behind low (runs_left from at flags ++ others)
behind_runs low from at [] others h order behind = behind_part low from at others h behind
behind_runs low from at (true ∷ flags) others h order behind =
    subst (Behind low) (sym (append_assoc (part from at) (runs_left (at + 1) (at + 1) flags) others))
    (behind_part low from at (runs_left (at + 1) (at + 1) flags ++ others) h (behind_runs low (at + 1) (at + 1) flags others (omega arith) (omega arith) behind))
behind_runs low from at (false ∷ flags) others h order behind = behind_runs low from (at + 1) flags others h (omega arith) behind

behind_lower : (low at : ℕ) (spans : List SpanOf) → low ≤ at → Behind at spans → Behind low spans
behind_lower low at [] h behind = tt
behind_lower low at (span ∷ spans) h behind = omega arith

behind_cut : (text : List ℕ) (at : ℕ) (spans : List SpanOf) (flags : List Bool) → Parts text at spans → Behind at (cut_spans spans flags)
behind_cut text at [] flags p = tt
behind_cut text at (span ∷ spans) flags p =
    let order = p.1.order in
    behind_runs at span.0 span.0 (take (span_len span) flags) (cut_spans spans (drop (span_len span) flags)) p.0 (omega arith)
    (behind_lower at span.1 (cut_spans spans (drop (span_len span) flags)) (omega (arith, p.0)) (behind_cut text span.1 spans (drop (span_len span) flags) p.2))

-- What is outside the flagged parts is what the flags leave.
pub outside-cut : (text : List ℕ) (spans : List SpanOf) (at : ℕ) (flags : List Bool) → Parts text at spans → length flags ≡ length (text_in text spans) → outside spans (cut_spans spans (map not flags)) ≡ cut_spans spans flags
outside-cut text [] at flags p same = refl
outside-cut text (span ∷ spans) at flags p same =
    let n = span_len span in
    let order = p.1.order in
    let len = length-slice_range text span.0 span.1 order p.1.end.0 in
    let whole = length-append (slice_range text span.0 span.1) (text_in text spans) in
    let few : length (take n flags) ≡ n = length-take-le n flags (omega arith) in
    let rest : length (drop n flags) ≡ length (text_in text spans) = omega (arith, length-drop n flags) in
    let here = runs_left span.0 span.0 (map not (take n flags)) in
    let others = cut_spans spans (map not (drop n flags)) in
    let split : cut_spans (span ∷ spans) (map not flags) ≡ here ++ others =
    ap (λ l. runs_left span.0 span.0 l ++ cut_spans spans (drop n (map not flags))) (take-map not n flags)
    ∙ ap (λ l. here ++ cut_spans spans l) (drop-map not n flags) in
    let behind = behind_cut text span.1 spans (map not (drop n flags)) p.2 in
    let end : span.0 + length (take n flags) ≡ span.1 = omega arith in
    let end2 : span.0 + length (map not (take n flags)) ≡ span.1 = omega (arith, length-map (take n flags) not) in
    ap (outside (span ∷ spans)) split
    ∙ ap (λ l. l ++ outside spans (later span.1 (here ++ others))) (left false span.0 0 span.0 span.1 (take n flags) others (λ e. absurd (false≢true e)) end behind)
    ∙ ap (λ l. runs_left span.0 span.0 (take n flags) ++ outside spans l) (later-left span.0 span.0 span.1 (map not (take n flags)) others end2 behind)
    ∙ ap (λ l. runs_left span.0 span.0 (take n flags) ++ l) (outside-cut text spans span.1 (drop n flags) p.2 rest)

-- What of the parts lies before a place.
clip-part : (from to place : ℕ) → clip_spans (0, place) (part from to) ≡ part from (min to place)
clip-part from to place =
    let same : max from 0 ≡ from = omega arith in
    elim (cases_lt from to) [
      | inl some ↦ ap (clip_spans (0, place)) (part-some from to some) ∙ append-nil (part (max from 0) (min to place)) ∙ ap (λ n. part n (min to place)) same
      | inr none ↦ ap (clip_spans (0, place)) (part-none from to none) ∙ sym (part-none from (min to place) (omega arith))
    ]

clip-append : (place : ℕ) (xs ys : List SpanOf) → clip_spans (0, place) (xs ++ ys) ≡ clip_spans (0, place) xs ++ clip_spans (0, place) ys
clip-append place xs ys = flat_map-append (λ (span : SpanOf). part (max span.0 0) (min span.1 place)) xs ys

-- Parts that begin at the place or behind it.
clip-behind : (place from at : ℕ) (flags : List Bool) → place ≤ from → from ≤ at → clip_spans (0, place) (runs_left from at flags) ≡ []
clip-behind place from at [] h order = clip-part from at place ∙ part-none from (min at place) (omega arith)
clip-behind place from at (true ∷ flags) h order =
    clip-append place (part from at) (runs_left (at + 1) (at + 1) flags)
    ∙ ap (λ l. l ++ clip_spans (0, place) (runs_left (at + 1) (at + 1) flags)) (clip-part from at place ∙ part-none from (min at place) (omega arith))
    ∙ clip-behind place (at + 1) (at + 1) flags (omega arith) (omega arith)
clip-behind place from at (false ∷ flags) h order = clip-behind place from (at + 1) flags h (omega arith)

-- Parts before the place.
clip-before : (place from at : ℕ) (flags : List Bool) → at + length flags ≤ place → clip_spans (0, place) (runs_left from at flags) ≡ runs_left from at flags
clip-before place from at [] h =
    let same : min at place ≡ at = omega arith in
    clip-part from at place ∙ ap (part from) same
clip-before place from at (true ∷ flags) h =
    let same : min at place ≡ at = omega arith in
    clip-append place (part from at) (runs_left (at + 1) (at + 1) flags)
    ∙ ap (λ l. l ++ clip_spans (0, place) (runs_left (at + 1) (at + 1) flags)) (clip-part from at place ∙ ap (part from) same)
    ∙ ap (λ l. part from at ++ l) (clip-before place (at + 1) (at + 1) flags (omega arith))
clip-before place from at (false ∷ flags) h = clip-before place from (at + 1) flags (omega arith)

-- The run so far reaches over the place.
clip-over : (place from at : ℕ) (flags : List Bool) → from ≤ place → place ≤ at → clip_spans (0, place) (runs_left from at flags) ≡ part from place
clip-over place from at [] low high =
    let same : min at place ≡ place = omega arith in
    clip-part from at place ∙ ap (part from) same
clip-over place from at (true ∷ flags) low high =
    let same : min at place ≡ place = omega arith in
    clip-append place (part from at) (runs_left (at + 1) (at + 1) flags)
    ∙ ap (λ l. clip_spans (0, place) (part from at) ++ l) (clip-behind place (at + 1) (at + 1) flags (omega arith) (omega arith))
    ∙ append-nil (clip_spans (0, place) (part from at))
    ∙ clip-part from at place ∙ ap (part from) same
clip-over place from at (false ∷ flags) low high = clip-over place from (at + 1) flags low (omega arith)

-- Where no flag is set, no part is flagged.
none-flagged : (from at : ℕ) (flags : List Bool) → runs_left from at (map not (first_flags 0 flags)) ≡ part from at
none-flagged from at [] = refl
none-flagged from at (flag ∷ flags) =
    ap (λ l. part from at ++ l) (none-flagged (at + 1) (at + 1) flags ∙ part-none (at + 1) (at + 1) (omega arith)) ∙ append-nil (part from at)

clip-there : (place from at : ℕ) (flag : Bool) (flags : List Bool) → from ≤ at → at ≤ place → place ≤ at → clip_spans (0, place) (runs_left from at (map not (flag ∷ flags))) ≡ runs_left from at (map not (first_flags (place - at) (flag ∷ flags)))
clip-there place from at flag flags order low there =
    let none : place - at ≡ 0 = omega arith in
    let same : place ≡ at = omega arith in
    clip-over place from at (map not (flag ∷ flags)) (omega arith) there
    ∙ ap (part from) same
    ∙ sym (ap (λ n. runs_left from at (map not (first_flags n (flag ∷ flags)))) none ∙ none-flagged from at (flag ∷ flags))

-- All flags are among the first ones.
pub first_all : (n : ℕ) (flags : List Bool) → length flags ≤ n → take n flags ++ replicate (length flags - n) false ≡ flags
first_all n flags h =
    let none : length flags - n ≡ 0 = omega arith in
    ap (λ m. take n flags ++ replicate m false) none ∙ append-nil (take n flags) ∙ take_all n flags h

-- The place lies among the flags.
clip-flagged : (place from at : ℕ) (flags : List Bool) → from ≤ at → at ≤ place → clip_spans (0, place) (runs_left from at (map not flags)) ≡ runs_left from at (map not (first_flags (place - at) flags))
clip-flagged place from at [] order low =
    let same : min at place ≡ at = omega arith in
    clip-part from at place ∙ ap (part from) same
clip-flagged place from at (true ∷ flags) order low =
    elim (cases_lt at place) [
      | inl before ↦
          let more : place - at ≡ suc (place - (at + 1)) = omega arith in
          clip-flagged place from (at + 1) flags (omega arith) (omega arith)
          ∙ sym (ap (λ n. runs_left from at (map not (first_flags n (true ∷ flags)))) more)
      | inr there ↦ clip-there place from at true flags order low there
    ]
clip-flagged place from at (false ∷ flags) order low =
    elim (cases_lt at place) [
      | inl before ↦
          let more : place - at ≡ suc (place - (at + 1)) = omega arith in
          let same : min at place ≡ at = omega arith in
          clip-append place (part from at) (runs_left (at + 1) (at + 1) (map not flags))
          ∙ ap (λ l. l ++ clip_spans (0, place) (runs_left (at + 1) (at + 1) (map not flags))) (clip-part from at place ∙ ap (part from) same)
          ∙ ap (λ l. part from at ++ l) (clip-flagged place (at + 1) (at + 1) flags (omega arith) (omega arith))
          ∙ sym (ap (λ n. runs_left from at (map not (first_flags n (false ∷ flags)))) more)
      | inr there ↦ clip-there place from at false flags order low there
    ]

-- Of parts behind the place nothing lies before it, and nothing of them is flagged.
pub none-left : (spans : List SpanOf) (flags : List Bool) → cut_spans spans (map not (first_flags 0 flags)) ≡ []
none-left [] flags = refl
none-left (span ∷ spans) flags =
    let n = span_len span in
    let first : take n (map not (first_flags 0 flags)) ≡ map not (first_flags 0 (take n flags)) = take-map not n (first_flags 0 flags) ∙ ap (map not) (take-first_flags n 0 flags) in
    let none : 0 - n ≡ 0 = omega arith in
    let rest : drop n (map not (first_flags 0 flags)) ≡ map not (first_flags 0 (drop n flags)) =
    drop-map not n (first_flags 0 flags) ∙ ap (map not) (drop-first_flags n 0 flags ∙ ap (λ k. first_flags k (drop n flags)) none) in
    ap (λ l. runs_left span.0 span.0 l ++ cut_spans spans (drop n (map not (first_flags 0 flags)))) first
    ∙ ap (λ l. runs_left span.0 span.0 (map not (first_flags 0 (take n flags))) ++ cut_spans spans l) rest
    ∙ ap (λ l. l ++ cut_spans spans (map not (first_flags 0 (drop n flags)))) (none-flagged span.0 span.0 (take n flags) ∙ part-none span.0 span.0 (omega arith))
    ∙ none-left spans (drop n flags)

clip-all : (text : List ℕ) (place at : ℕ) (spans : List SpanOf) (flags : List Bool) → place ≤ at → Parts text at spans → clip_spans (0, place) (cut_spans spans flags) ≡ []
clip-all text place at [] flags h p = refl
clip-all text place at (span ∷ spans) flags h p =
    let n = span_len span in
    let begins = p.0 in
    let order = p.1.order in
    clip-append place (runs_left span.0 span.0 (take n flags)) (cut_spans spans (drop n flags))
    ∙ ap (λ l. l ++ clip_spans (0, place) (cut_spans spans (drop n flags))) (clip-behind place span.0 span.0 (take n flags) (omega arith) (omega arith))
    ∙ clip-all text place span.1 spans (drop n flags) (omega arith) p.2

-- The place of a byte of parts lies not before them.
place-behind : (text : List ℕ) (at : ℕ) (spans : List SpanOf) (k place : ℕ) → Parts text at spans → place_in spans k ≡ Some place → at ≤ place
place-behind text at [] k place p is = absurd (cc (is))
place-behind text at (span ∷ spans) k place p is =
    let begins = p.0 in
    let order = p.1.order in
    elim (cases_lt k (span_len span)) [
      | inl here ↦
          let found : Some (span.0 + k) ≡ Some place = sym (place_in-first span spans k here) ∙ is in
          let same : span.0 + k ≡ place = cc (found) in
          omega arith
      | inr behind ↦
          let split : k ≡ span_len span + (k - span_len span) = omega arith in
          let rest = place-behind text span.1 spans (k - span_len span) place p.2 (sym (place_in-later span spans k (k - span_len span) split) ∙ is) in
          omega (arith, rest)
    ]

-- What of the flagged parts lies before the place of the k-th byte is what the first k flags tell.
pub clip-cut : (text : List ℕ) (spans : List SpanOf) (at : ℕ) (flags : List Bool) (k place : ℕ) → Parts text at spans → length flags ≡ length (text_in text spans) → place_in spans k ≡ Some place → clip_spans (0, place) (cut_spans spans (map not flags)) ≡ cut_spans spans (map not (first_flags k flags))
clip-cut text [] at flags k place p same is = refl
clip-cut text (span ∷ spans) at flags k place p same is =
    let n = span_len span in
    let order = p.1.order in
    let len = length-slice_range text span.0 span.1 order p.1.end.0 in
    let whole = length-append (slice_range text span.0 span.1) (text_in text spans) in
    let few : length (take n flags) ≡ n = length-take-le n flags (omega arith) in
    let rest : length (drop n flags) ≡ length (text_in text spans) = omega (arith, length-drop n flags) in
    let here = runs_left span.0 span.0 (map not (take n flags)) in
    let others = cut_spans spans (map not (drop n flags)) in
    let split : cut_spans (span ∷ spans) (map not flags) ≡ here ++ others =
    ap (λ l. runs_left span.0 span.0 l ++ cut_spans spans (drop n (map not flags))) (take-map not n flags)
    ∙ ap (λ l. here ++ cut_spans spans l) (drop-map not n flags) in
    let first : take n (map not (first_flags k flags)) ≡ map not (first_flags k (take n flags)) = take-map not n (first_flags k flags) ∙ ap (map not) (take-first_flags n k flags) in
    let later : drop n (map not (first_flags k flags)) ≡ map not (first_flags (k - n) (drop n flags)) = drop-map not n (first_flags k flags) ∙ ap (map not) (drop-first_flags n k flags) in
    let whole_split : cut_spans (span ∷ spans) (map not (first_flags k flags)) ≡ runs_left span.0 span.0 (map not (first_flags k (take n flags))) ++ cut_spans spans (map not (first_flags (k - n) (drop n flags))) =
    ap (λ l. runs_left span.0 span.0 l ++ cut_spans spans (drop n (map not (first_flags k flags)))) first
    ∙ ap (λ l. runs_left span.0 span.0 (map not (first_flags k (take n flags))) ++ cut_spans spans l) later in
    ap (clip_spans (0, place)) split
    ∙ clip-append place here others
    ∙ elim (cases_lt k n) [
      | inl inside ↦
          let found : Some (span.0 + k) ≡ Some place = sym (place_in-first span spans k inside) ∙ is in
          let at_place : span.0 + k ≡ place = cc (found) in
          let bytes : place - span.0 ≡ k = omega arith in
          let none : k - n ≡ 0 = omega arith in
          ap (λ l. l ++ clip_spans (0, place) others) (clip-flagged place span.0 span.0 (take n flags) (omega arith) (omega arith) ∙ ap (λ m. runs_left span.0 span.0 (map not (first_flags m (take n flags)))) bytes)
          ∙ ap (λ l. runs_left span.0 span.0 (map not (first_flags k (take n flags))) ++ l)
          (clip-all text place span.1 spans (map not (drop n flags)) (omega arith) p.2 ∙ sym (ap (λ m. cut_spans spans (map not (first_flags m (drop n flags)))) none ∙ none-left spans (drop n flags)))
      | inr behind ↦
          let rest_k : k ≡ n + (k - n) = omega arith in
          let found : place_in spans (k - n) ≡ Some place = sym (place_in-later span spans k (k - n) rest_k) ∙ is in
          let after = place-behind text span.1 spans (k - n) place p.2 found in
          let all : first_flags k (take n flags) ≡ take n flags = sym (first_flags-is k (take n flags)) ∙ first_all k (take n flags) (omega arith) in
          ap (λ l. l ++ clip_spans (0, place) others) (clip-before place span.0 span.0 (map not (take n flags)) (omega (arith, after, length-map (take n flags) not)))
          ∙ ap (λ l. here ++ l) (clip-cut text spans span.1 (drop n flags) (k - n) place p.2 rest found)
          ∙ ap (λ l. runs_left span.0 span.0 (map not l) ++ cut_spans spans (map not (first_flags (k - n) (drop n flags)))) (sym all)
    ]
    ∙ sym whole_split
