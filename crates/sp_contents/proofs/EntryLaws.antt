-- The entries at a heading, and those behind all blocks.
use Rattle.std.proofs.Common.{◌≡◌, ℕ, ◌+◌, ◌<◌, ◌≤◌, true, cond, List, [], ◌∷◌, ◌++◌, length, map, filter, drop, refl, sym, ap, ◌∙◌, subst, arith, append-nil, append_assoc}
use Rattle.std.specs.Prelude.{AllPairs, slice_range}
use Rattle.std.proofs.lemmas.List.{drop_all, map-append}
use Rattle.spec_script.specs.declared.Kind.{Kind}
use Rattle.spec_script.specs.declared.Kind.TheVariants as kinds
use Rattle.spec_script.specs.Stanzas.{PlacedBlock}
use Rattle.spec_labels.specs.Labels.{LabelOf, Below}
use Rattle.spec_machine.specs.Outline.{EntryOf}
use Rattle.spec_state.specs.Headings.{is_heading_kind, is_heading_block}
use Rattle.spec_machine.specs.Outlines.{Scenes, omitted_at, scene_entry, kind_entries, entries_from, entries_of}
use Rattle.sp_outline.specs.declared.entry.Entry.{Entry}
use Rattle.sp_outline.specs.Entries.{entry_of}
use Rattle.sp_contents.specs.Walks.{AddsBlock, IsAbove, IsWalked, label_at, omitted_of}
use Rattle.sp_contents.proofs.WalkLaws.{walk-on, walk-part, walk-end}

heading-entries : (kind : Kind) (scenes : Scenes) (texts : List (List ℕ)) (i : ℕ) (placed : PlacedBlock) → is_heading_kind kind ≡ true
    → kind_entries kind scenes texts i placed ≡ omitted_at scenes i ++ scene_entry scenes texts i placed ∷ []
heading-entries kinds.Heading scenes texts i placed is = refl
heading-entries kinds.Action scenes texts i placed is = cc
heading-entries kinds.Speech scenes texts i placed is = cc
heading-entries kinds.Lyric scenes texts i placed is = cc
heading-entries kinds.Transition scenes texts i placed is = cc
heading-entries kinds.Centred scenes texts i placed is = cc
heading-entries kinds.PageBreak scenes texts i placed is = cc
heading-entries kinds.Section scenes texts i placed is = cc
heading-entries kinds.Synopsis scenes texts i placed is = cc
heading-entries kinds.Title scenes texts i placed is = cc

pub adds-heading : (scenes : Scenes) (texts : List (List ℕ)) (placed : PlacedBlock) (old middle new : List Entry) (entry : Entry) (i p q : ℕ) → is_heading_block placed ≡ true → i < length scenes.labels
    → AllPairs Below scenes.gone → IsWalked scenes.labels scenes.gone i p → IsAbove (label_at scenes.labels i) scenes.gone p q
    → map entry_of middle ≡ map entry_of old ++ map omitted_of (slice_range scenes.gone p q) → entry_of entry ≡ scene_entry scenes texts i placed → new ≡ middle ++ entry ∷ []
    → AddsBlock scenes texts placed old new i (i + 1) q
adds-heading scenes texts placed old middle new entry i p q is inside rising walked above added shown pushed = record {
  entries =
      ap (map entry_of) pushed
      ∙ map-append entry_of middle (entry ∷ [])
      ∙ ap (λ those. those ++ entry_of entry ∷ []) (added ∙ ap (λ gone. map entry_of old ++ map omitted_of gone) (sym (walk-part scenes.labels scenes.gone i p q rising inside walked above)))
      ∙ append_assoc (map entry_of old) (omitted_at scenes i) (entry_of entry ∷ [])
      ∙ ap (λ (one : EntryOf). map entry_of old ++ (omitted_at scenes i ++ one ∷ [])) shown
      ∙ ap (λ those. map entry_of old ++ those) (sym (heading-entries placed.block.kind scenes texts i placed is));
  headings_are = sym (ap (λ b. cond b (i + 1) i) is);
  walked = walk-on scenes.labels scenes.gone i p q rising inside walked above;
}

pub entries-end : (scenes : Scenes) (texts : List (List ℕ)) (blocks : List PlacedBlock) (entries new : List Entry) (h p k : ℕ) → length blocks ≤ k
    → map entry_of entries ++ entries_from scenes texts h (drop k blocks) ≡ entries_from scenes texts 0 blocks → h + length (filter is_heading_block (drop k blocks)) ≡ length scenes.labels
    → IsWalked scenes.labels scenes.gone h p → map entry_of new ≡ map entry_of entries ++ map omitted_of (drop p scenes.gone) → map entry_of new ≡ entries_of scenes texts blocks
entries-end scenes texts blocks entries new h p k past so_far count walked added =
    let none : drop k blocks ≡ [] = drop_all k blocks past in
    let all : map entry_of entries ≡ entries_from scenes texts 0 blocks =
    sym (append-nil (map entry_of entries)) ∙ sym (ap (λ (left : List PlacedBlock). map entry_of entries ++ entries_from scenes texts h left) none) ∙ so_far in
    let zero_left : length (filter is_heading_block (drop k blocks)) ≡ 0 = ap (λ (left : List PlacedBlock). length (filter is_heading_block left)) none in
    let here : h ≡ length scenes.labels = omega (arith, zero_left, count) in
    added
    ∙ ap (λ those. those ++ map omitted_of (drop p scenes.gone)) all
    ∙ ap (λ (gone : List LabelOf). entries_from scenes texts 0 blocks ++ map omitted_of gone) (sym (walk-end scenes.labels scenes.gone p (subst (λ n. IsWalked scenes.labels scenes.gone n p) here walked)))
