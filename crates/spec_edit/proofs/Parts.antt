-- Elements of blocks, part by part.
use Rattle.std.proofs.Common.{◌≡◌, ℕ, Bool, true, false, ◌&&◌, not, List, [], ◌∷◌, ◌++◌, map, Option, inl, inr, refl, sym, ap, subst, ◌∙◌}
use Rattle.std.proofs.lemmas.List.{append-nil, map-append}
use Rattle.std.specs.List.{list_any}
use Rattle.std.proofs.lemmas.Bool.{or_cases}
use Rattle.spec_text.specs.Lines.{LineState, line_texts}
use Rattle.spec_script.specs.declared.Kind.{Kind}
use Rattle.spec_script.specs.declared.Kind.TheVariants as kinds
use Rattle.spec_script.specs.LongestRuns.{longest_runs}
use Rattle.spec_script.specs.Stanzas.{PlacedBlock}
use Rattle.spec_script.specs.Elements.{is_speech_kind, is_dual}
use Rattle.spec_edit.specs.Settling.{settles_kind}
use Rattle.spec_edit.proofs.Splits.{Parted, runs-append}
use Rattle.spec_sheets.specs.Speakers.{Spoken, named_block, named_from, speaker_after, speaker_by, is_pair, settled_element, spoken_elements}
use Rattle.spec_edit.specs.Moved.{speaker_behind, AreApart, BeginsApart, EndsApart, is_left, settles}

-- A block without a caret is joined with none before it.
and-none : (b : Bool) → (b && false) ≡ false
and-none true = refl
and-none false = refl

dual-none : (left right : PlacedBlock) → right.block.caret ≡ false → is_dual left right ≡ false
dual-none left right none =
    let before = is_speech_kind left.block.kind && not left.block.caret && is_speech_kind right.block.kind in
    ap (λ b. before && b) none ∙ and-none before

parted : (those : List Spoken) (it : Spoken) → it.placed.block.caret ≡ false → Parted is_pair those it
parted [] it none = tt
parted (one ∷ []) it none = dual-none one.placed it.placed none
parted (one ∷ other ∷ those) it none = parted (other ∷ those) it none

left-none : (left right : PlacedBlock) → is_left left.block ≡ false → is_dual left right ≡ false
left-none left right none = ap (λ b. b && is_speech_kind right.block.kind && right.block.caret) none

parted-end : (on : Bool) (texts : List (List ℕ)) (last : Option (List ℕ)) (xs : List PlacedBlock) (it : Spoken) → EndsApart xs → Parted is_pair (named_from on texts last xs) it
parted-end on texts last [] it ends = absurd ends
parted-end on texts last (x ∷ []) it ends = left-none x it.placed ends
parted-end on texts last (x ∷ y ∷ xs) it ends = parted-end on texts (speaker_after texts last x) (y ∷ xs) it ends

named-append : (on : Bool) (texts : List (List ℕ)) (last : Option (List ℕ)) (xs ys : List PlacedBlock)
    → named_from on texts last (xs ++ ys) ≡ named_from on texts last xs ++ named_from on texts (speaker_behind texts last xs) ys
named-append on texts last [] ys = refl
named-append on texts last (x ∷ xs) ys = ap (λ (those : List Spoken). named_block on texts last x ∷ those) (named-append on texts (speaker_after texts last x) xs ys)

-- The elements of blocks, and of those behind them.
spoken-parted : (on : Bool) (lines : List LineState) (last : Option (List ℕ)) (xs : List PlacedBlock) (y : PlacedBlock) (ys : List PlacedBlock)
    → let behind = speaker_behind (line_texts lines) last xs in Parted is_pair (named_from on (line_texts lines) last xs) (named_block on (line_texts lines) behind y)
    → spoken_elements on lines last (xs ++ y ∷ ys) ≡ spoken_elements on lines last xs ++ spoken_elements on lines behind (y ∷ ys)
spoken-parted on lines last xs y ys apart =
    let texts = line_texts lines in
    let behind = speaker_behind texts last xs in
    let front = named_from on texts last xs in
    let own = named_block on texts behind y in
    let later = named_from on texts (speaker_after texts behind y) ys in
    ap (λ (those : List Spoken). map (settled_element lines) (longest_runs is_pair those)) (named-append on texts last xs (y ∷ ys))
    ∙ ap (map (settled_element lines)) (runs-append is_pair front own later apart)
    ∙ map-append (settled_element lines) (longest_runs is_pair front) (longest_runs is_pair (own ∷ later))

spoken-alone : (on : Bool) (lines : List LineState) (last : Option (List ℕ)) (xs : List PlacedBlock)
    → spoken_elements on lines last (xs ++ []) ≡ spoken_elements on lines last xs ++ spoken_elements on lines (speaker_behind (line_texts lines) last xs) []
spoken-alone on lines last xs = ap (spoken_elements on lines last) (append-nil xs) ∙ sym (append-nil (spoken_elements on lines last xs))

spoken-begins : (on : Bool) (lines : List LineState) (last : Option (List ℕ)) (xs ys : List PlacedBlock) → BeginsApart ys
    → spoken_elements on lines last (xs ++ ys) ≡ spoken_elements on lines last xs ++ spoken_elements on lines (speaker_behind (line_texts lines) last xs) ys
spoken-begins on lines last xs [] apart = spoken-alone on lines last xs
spoken-begins on lines last xs (y ∷ ys) apart =
    let texts = line_texts lines in
    spoken-parted on lines last xs y ys (parted (named_from on texts last xs) (named_block on texts (speaker_behind texts last xs) y) apart)

spoken-ends : (on : Bool) (lines : List LineState) (last : Option (List ℕ)) (xs ys : List PlacedBlock) → EndsApart xs
    → spoken_elements on lines last (xs ++ ys) ≡ spoken_elements on lines last xs ++ spoken_elements on lines (speaker_behind (line_texts lines) last xs) ys
spoken-ends on lines last xs [] apart = spoken-alone on lines last xs
spoken-ends on lines last xs (y ∷ ys) apart =
    let texts = line_texts lines in
    spoken-parted on lines last xs y ys (parted-end on texts last xs (named_block on texts (speaker_behind texts last xs) y) apart)

pub spoken-apart : (on : Bool) (lines : List LineState) (last : Option (List ℕ)) (xs ys : List PlacedBlock) → AreApart xs ys
    → spoken_elements on lines last (xs ++ ys) ≡ spoken_elements on lines last xs ++ spoken_elements on lines (speaker_behind (line_texts lines) last xs) ys
spoken-apart on lines last xs ys apart =
    let P : List PlacedBlock → Type 0 = λ those. spoken_elements on lines last (those ++ ys) ≡ spoken_elements on lines last those ++ spoken_elements on lines (speaker_behind (line_texts lines) last those) ys in
    elim apart [
      | inl none ↦ subst P (sym none) refl
      | inr either ↦ elim either [
        | inl ends ↦ spoken-ends on lines last xs ys ends
        | inr begins ↦ spoken-begins on lines last xs ys begins
      ]
    ]

-- The last speaker behind two parts.
pub behind-append : (texts : List (List ℕ)) (last : Option (List ℕ)) (xs ys : List PlacedBlock) → speaker_behind texts last (xs ++ ys) ≡ speaker_behind texts (speaker_behind texts last xs) ys
behind-append texts last [] ys = refl
behind-append texts last (x ∷ xs) ys = behind-append texts (speaker_after texts last x) xs ys

-- Behind a heading or a speech it doesn't matter who spoke before.
pub settled-by : (kind : Kind) (name : List ℕ) (one other : Option (List ℕ)) → settles_kind kind ≡ true → speaker_by kind name one ≡ speaker_by kind name other
settled-by kinds.Heading name one other is = refl
settled-by kinds.Speech name one other is = refl
settled-by kinds.Title name one other is = cc
settled-by kinds.PageBreak name one other is = cc
settled-by kinds.Action name one other is = cc
settled-by kinds.Lyric name one other is = cc
settled-by kinds.Transition name one other is = cc
settled-by kinds.Centred name one other is = cc
settled-by kinds.Section name one other is = cc
settled-by kinds.Synopsis name one other is = cc

pub behind-settled : (texts : List (List ℕ)) (one other : Option (List ℕ)) (blocks : List PlacedBlock) → list_any settles blocks ≡ true → speaker_behind texts one blocks ≡ speaker_behind texts other blocks
behind-settled texts one other [] some = cc
behind-settled texts one other (block ∷ blocks) some = elim (or_cases (settles block) (list_any settles blocks) some) [
  | inl here ↦ ap (λ last. speaker_behind texts last blocks) (settled-by block.block.kind _ one other here)
  | inr later ↦ behind-settled texts (speaker_after texts one block) (speaker_after texts other block) blocks later
]
