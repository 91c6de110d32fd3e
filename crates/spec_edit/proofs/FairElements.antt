-- What is known of each element of a text.
use Rattle.std.proofs.Common.{◌≡◌, ℕ, ◌≤◌, Bool, true, false, cond, List, [], ◌∷◌, ◌++◌, length, map, inl, inr, refl, sym, ap, ap₂, subst, ◌∙◌}
use Rattle.std.specs.Prelude.{All}
use Rattle.std.specs.List.{flat_map}
use Rattle.std.specs.Str.{IsUtf8}
use Rattle.std.proofs.lemmas.Bool.{cases_Bool, true≢false}
use Rattle.std.proofs.lemmas.List.{length-map}
use Rattle.std.proofs.lemmas.List.Elements.{All-nil, All-cons}
use Rattle.spec_text.specs.Limits.{line_count_limit}
use Rattle.spec_text.specs.Lines.{line_texts}
use Rattle.spec_text.proofs.ListLaws.{All-front, All-back}
use Rattle.spec_script.specs.declared.Kind.{Kind}
use Rattle.spec_script.specs.LongestRuns.{Group, members}
use Rattle.spec_script.specs.Stanzas.{PlacedBlock}
use Rattle.spec_script.specs.Elements.{is_dual, alone, pair, elements_in, elements_of}
use Rattle.spec_script.proofs.LongestRuns.{longest_runs-exist}
use Rattle.spec_pages.specs.Rows.{Row, is_title}
use Rattle.spec_sheets.specs.Layout.{is_page_break}
use Rattle.spec_edit.specs.Items.{Item}
use Rattle.spec_edit.proofs.Steps.{TextOf}
use Rattle.spec_edit.proofs.StandLaws.{IsOneKind}
use Rattle.spec_edit.proofs.ElementLaw.{Fair}
use Rattle.spec_sheets.specs.Shown.{element_cue}
use Rattle.spec_sheets.specs.Layout.{laid_out}
use Rattle.spec_pages.specs.Rows.{placed_rows}
use Rattle.spec_edit.specs.TextItems.{Script, spoken_group, element_label, text_rows, row_item, row_items, element_items, in_text}
use Rattle.spec_edit.proofs.ItemRows.{break-none, break-some, no-break, pair-no-break, shape_in, shapes-rows}
use Rattle.spec_edit.proofs.SoundElements.{IsSound, SoundSteps, elements-sound}
use Rattle.spec_script.specs.declared.Kind.TheVariants as kinds

-- An element is a block, or a pair in order.
abbrev pub SoundBeside : PlacedBlock → List PlacedBlock → Type 0
SoundBeside placed [] = Unit {0}
SoundBeside placed (right ∷ []) = IsSound right × (placed.first ≤ right.first)
SoundBeside placed (right ∷ other ∷ more) = ⊥

pub record ElementSound (element : Group PlacedBlock) : Type 0 where
  pub first : IsSound element.first
  pub beside : SoundBeside element.first element.more

-- Elements with items as the edit law asks.
abbrev pub text_with : Script → (Group PlacedBlock → Bool) → TextOf (Group PlacedBlock)
text_with script touched = record { items = element_items script; touched = touched; in_body = in_text }

title-no-break : (kind : Kind) → is_title kind ≡ true → is_page_break kind ≡ false
title-no-break kinds.Title is = refl
title-no-break kinds.PageBreak is = absurd (true≢false (sym is))
title-no-break kinds.Heading is = refl
title-no-break kinds.Action is = refl
title-no-break kinds.Speech is = refl
title-no-break kinds.Lyric is = refl
title-no-break kinds.Transition is = refl
title-no-break kinds.Centred is = refl
title-no-break kinds.Section is = refl
title-no-break kinds.Synopsis is = refl

not-in-body : (b : Bool) → cond b false true ≡ false → b ≡ true
not-in-body true h = refl
not-in-body false h = absurd (true≢false h)

rows-kind : (script : Script) (element : Group PlacedBlock) → IsOneKind (row_items script element)
rows-kind script element =
    let cue = element_cue (line_texts script.lines) (text_rows script element) in
    let label = element_label script element in
    inl (ap length (shapes-rows script.lines cue label (text_rows script element)) ∙ length-map (text_rows script element) shape_in ∙ sym (length-map (text_rows script element) (row_item script.lines cue label)))

title-none : (script : Script) (element : Group PlacedBlock) → in_text element ≡ false → element_items script element ≡ []
title-none script element out =
    let title = not-in-body (is_title element.first.block.kind) out in
    let none : text_rows script element ≡ [] = ap (λ b. cond b [] (placed_rows (laid_out script.lines (spoken_group script element)))) title in
    ap₂ (λ (a b : List Item). a ++ b)
    (no-break element.first (title-no-break element.first.block.kind title))
    (ap (λ (those : List Row). map (row_item script.lines (element_cue (line_texts script.lines) those) (element_label script element)) those) none)

single-fair : (script : Script) (touched : Group PlacedBlock → Bool) (block : PlacedBlock) → Fair (text_with script touched) (alone block)
single-fair script touched block = record {
  kind = elim (cases_Bool (is_page_break block.block.kind)) [
    | inl is ↦
        let none : row_items script (alone block) ≡ [] = ap (λ (those : List Row). map (row_item script.lines (element_cue (line_texts script.lines) those) (element_label script (alone block))) those) (break-none script block is) in
        subst IsOneKind (sym (ap₂ (λ (a b : List Item). a ++ b) (break-some block is) none)) (inr refl)
    | inr not ↦ subst IsOneKind (sym (ap (λ (a : List Item). a ++ row_items script (alone block)) (no-break block not))) (rows-kind script (alone block))
  ];
  none = title-none script (alone block);
}

pair-fair : (script : Script) (touched : Group PlacedBlock → Bool) (left right : PlacedBlock) → is_dual left right ≡ true → Fair (text_with script touched) (pair left right)
pair-fair script touched left right dual = record {
  kind = subst IsOneKind (sym (ap (λ (a : List Item). a ++ row_items script (pair left right)) (pair-no-break left right dual))) (rows-kind script (pair left right));
  none = title-none script (pair left right);
}

-- Both together.
pub record IsKnown (script : Script) (touched : Group PlacedBlock → Bool) (element : Group PlacedBlock) : Type 0 where
  pub sound : ElementSound element
  pub fair : Fair (text_with script touched) element

abbrev Any : PlacedBlock → Type 0
Any block = Unit {0}

abbrev Known : Script → (Group PlacedBlock → Bool) → ℕ → ℕ → List (Group PlacedBlock) → Type 0
Known script touched low high elements = All (IsKnown script touched) elements

known-steps : (script : Script) (touched : Group PlacedBlock → Bool) → SoundSteps Any (Known script touched)
known-steps script touched = record {
  none = λ low high order. All-nil (IsKnown script touched);
  single = λ low high block others is any order behind.
      All-cons (IsKnown script touched) (alone block) others (record { sound = record { first = is; beside = tt }; fair = single-fair script touched block }) behind;
  double = λ low high left right others l r dual places order apart behind.
      All-cons (IsKnown script touched) (pair left right) others (record { sound = record { first = l; beside = (r, places) }; fair = pair-fair script touched left right dual }) behind;
}

pub all-known : (script : Script) (touched : Group PlacedBlock → Bool) → All IsUtf8 (line_texts script.lines) → length (line_texts script.lines) ≤ line_count_limit
    → All (IsKnown script touched) (elements_of (line_texts script.lines))
all-known script touched utf8 few = elements-sound (line_texts script.lines) Any (Known script touched) (known-steps script touched) (λ k d h. tt) utf8 few

-- The blocks of elements are blocks.
abbrev pub AllIn : (PlacedBlock → Type 0) → Group PlacedBlock → Type 0
AllIn P element = All P (members element)

all-members : (P : PlacedBlock → Type 0) (groups : List (Group PlacedBlock)) → All P (flat_map members groups) → All (AllIn P) groups
all-members P [] all = All-nil (AllIn P)
all-members P (group ∷ groups) all =
    All-cons (AllIn P) group groups (All-front P (members group) (flat_map members groups) all) (all-members P groups (All-back P (members group) (flat_map members groups) all))

pub elements-all : (P : PlacedBlock → Type 0) (blocks : List PlacedBlock) → All P blocks → All (AllIn P) (elements_in blocks)
elements-all P blocks all = all-members P (elements_in blocks) (subst (All P) (sym ((longest_runs-exist is_dual blocks).all)) all)
