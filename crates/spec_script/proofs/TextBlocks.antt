-- A text has blocks by relations, in one way only, and they are what is computed.
use Rattle.std.proofs.Common.{◌≡◌, ℕ, zero, suc, ◌+◌, ◌-◌, ◌<◌, ◌≤◌, Bool, true, false, ◌&&◌, List, [], ◌∷◌, ◌++◌, map, length, take, drop, refl, sym, ap, ap₂, subst, ◌∙◌, arith, length-append}
use Rattle.std.specs.Prelude.{slice_index_or}
use Rattle.std.proofs.lemmas.Bool.{lt-ltb}
use Rattle.std.proofs.lemmas.List.{ext_get_or}
use Rattle.spec_text.specs.Parts.{SpanOf}
use Rattle.spec_script.specs.Marked.{covered, joined, cut, cut_flags}
use Rattle.spec_script.specs.Boneyards.{yard_turns}
use Rattle.spec_script.specs.Notes.{noted}
use Rattle.spec_script.specs.FirstMarks.{AreBoneyards, AreNotes, lies_in}
use Rattle.spec_script.specs.LongestRuns.{Group, members, AreRuns, longest_runs}
use Rattle.spec_script.specs.BlockValues.{BlockOf}
use Rattle.spec_script.specs.Left.{Cleaned}
use Rattle.spec_script.specs.Blocks.{IsStanza, stanza_blocks}
use Rattle.spec_script.specs.Stanzas.{Kept, kept_line, kept_each, kept_lines, kept_text, one_stanza, cleaned_line, cleaned_each, cleaned_lines, stanzas_in, PlacedBlock, blocks_from, blocks_of}
use Rattle.spec_script.specs.Elements.{placed_at}
use Rattle.spec_script.specs.TextBlocks.{lie_in, begins_in, lines_outside, lines_without, AreStanzaBlocks, AreStanzasBlocks, AreTextBlocks}
use Rattle.spec_script.proofs.MarkedLaws.{length-covered}
use Rattle.spec_script.proofs.NoteEdges.{length-noted}
use Rattle.spec_script.proofs.FirstBoneyards.{boneyards-exist, boneyards-covered}
use Rattle.spec_script.proofs.FirstNotes.{notes-exist, notes-noted}
use Rattle.spec_script.proofs.LongestRuns.{longest_runs-exist, longest_runs-unique}
use Rattle.spec_script.proofs.Blocks.{only-stanza}

-- ---- flags of places

length-lie_in : (spans : List SpanOf) (at count : ℕ) → length (lie_in spans at count) ≡ count
length-lie_in spans at zero = refl
length-lie_in spans at (suc count) = ap suc (length-lie_in spans (at + 1) count)

get-lie_in : (spans : List SpanOf) (at count k : ℕ) → k < count → slice_index_or (lie_in spans at count) k false ≡ lies_in spans (at + k)
get-lie_in spans at zero k h = absurd (omega (arith, h))
get-lie_in spans at (suc count) zero h = let here : at ≡ at + 0 = omega arith in ap (lies_in spans) here
get-lie_in spans at (suc count) (suc k) h =
    let there : at + 1 + k ≡ at + suc k = omega arith in
    get-lie_in spans (at + 1) count k (omega (arith, h)) ∙ ap (lies_in spans) there

take-lie_in : (spans : List SpanOf) (at count total : ℕ) → count ≤ total → take count (lie_in spans at total) ≡ lie_in spans at count
take-lie_in spans at zero total h = refl
take-lie_in spans at (suc count) zero h = absurd (omega (arith, h))
take-lie_in spans at (suc count) (suc total) h = ap (λ (l : List Bool). lies_in spans at ∷ l) (take-lie_in spans (at + 1) count total (omega (arith, h)))

drop-lie_in : (spans : List SpanOf) (at count total rest : ℕ) → total ≡ count + rest → drop count (lie_in spans at total) ≡ lie_in spans (at + count) rest
drop-lie_in spans at zero total rest is =
    let here : at ≡ at + 0 = omega arith in
    let same : total ≡ rest = omega (arith, is) in
    ap₂ (lie_in spans) here same
drop-lie_in spans at (suc count) zero rest is = absurd (omega (arith, is))
drop-lie_in spans at (suc count) (suc total) rest is =
    let there : at + 1 + count ≡ at + suc count = omega arith in
    drop-lie_in spans (at + 1) count total rest (omega (arith, is)) ∙ ap (λ p. lie_in spans p rest) there

-- Flags of a text that tell of each place whether it lies in a part.
flags-lie_in : (spans : List SpanOf) (count : ℕ) (flags : List Bool) → length flags ≡ count → ((k : ℕ) → k < count → slice_index_or flags k false ≡ lies_in spans k) → flags ≡ lie_in spans 0 count
flags-lie_in spans count flags size tell =
    ext_get_or false flags (lie_in spans 0 count) (size ∙ sym (length-lie_in spans 0 count)) (λ k h. same k (omega (arith, h, size)))
  where
    same : (k : ℕ) → k < count → slice_index_or flags k false ≡ slice_index_or (lie_in spans 0 count) k false
    same k h = let here : k ≡ 0 + k = omega arith in tell k h ∙ ap (lies_in spans) here ∙ sym (get-lie_in spans 0 count k h)

-- ---- lines outside boneyards

begins_behind : (spans : List SpanOf) (at : ℕ) → lies_in spans at ≡ begins_in spans (at + 1)
begins_behind spans at =
    let back : at ≡ at + 1 - 1 = omega arith in
    ap (lies_in spans) back ∙ sym (ap (λ b. b && lies_in spans (at + 1 - 1)) (lt-ltb 0 (at + 1) (omega arith)))

outside-cut : (spans : List SpanOf) (lines : List (List ℕ)) (at : ℕ) (began : Bool) → began ≡ begins_in spans at
    → kept_each lines (cut began lines (lie_in spans at (length (joined lines)))) ≡ lines_outside spans at lines
outside-cut spans [] at began is = refl
outside-cut spans (line ∷ []) at began is =
    ap₂ (λ b (g : List Bool). kept_line line (record { began = b; gone = g }) ∷ []) is (take-lie_in spans at (length line) (length line) (omega arith))
outside-cut spans (line ∷ next ∷ lines) at began is =
    let n = length line in
    let rest = length (joined (next ∷ lines)) in
    let size = length-append line (10 ∷ joined (next ∷ lines)) in
    let total = length (joined (line ∷ next ∷ lines)) in
    let flags = lie_in spans at total in
    let head = ap₂ (λ b (g : List Bool). kept_line line (record { began = b; gone = g })) is (take-lie_in spans at n total (omega (arith, size))) in
    let began_next : slice_index_or flags n false ≡ begins_in spans (at + n + 1) = get-lie_in spans at total n (omega (arith, size)) ∙ begins_behind spans (at + n) in
    let there : at + (n + 1) ≡ at + n + 1 = omega arith in
    let flags_next : drop (n + 1) flags ≡ lie_in spans (at + n + 1) rest = drop-lie_in spans at (n + 1) total rest (omega (arith, size)) ∙ ap (λ p. lie_in spans p rest) there in
    ap₂ (λ (k : Kept) (ks : List Kept). k ∷ ks) head
    (ap (λ (f : List Bool). kept_each (next ∷ lines) (cut (slice_index_or flags n false) (next ∷ lines) f)) flags_next
    ∙ outside-cut spans (next ∷ lines) (at + n + 1) (slice_index_or flags n false) began_next)

-- The lines outside the boneyards of a text are those outside what is computed.
pub lines-outside : (texts : List (List ℕ)) (spans : List SpanOf) → AreBoneyards (joined texts) 0 spans → lines_outside spans 0 texts ≡ kept_lines texts
lines-outside texts spans are =
    let text = joined texts in
    let flags = flags-lie_in spans (length text) (covered yard_turns false text) (length-covered yard_turns false text) (boneyards-covered text spans are) in
    sym (ap (λ (f : List Bool). kept_each texts (cut false texts f)) flags ∙ outside-cut spans texts 0 false refl)

-- ---- lines of a stanza without its notes

without-cut : (spans : List SpanOf) (lines : List Kept) (at : ℕ) → cleaned_each lines (cut_flags (map kept_text lines) (lie_in spans at (length (joined (map kept_text lines))))) ≡ lines_without spans at lines
without-cut spans [] at = refl
without-cut spans (line ∷ []) at =
    let n = length (kept_text line) in
    ap (λ (g : List Bool). cleaned_line line g ∷ []) (take-lie_in spans at n n (omega arith))
without-cut spans (line ∷ next ∷ lines) at =
    let text = kept_text line in
    let n = length text in
    let later = joined (map kept_text (next ∷ lines)) in
    let size = length-append text (10 ∷ later) in
    let total = length (joined (map kept_text (line ∷ next ∷ lines))) in
    let head = ap (cleaned_line line) (take-lie_in spans at n total (omega (arith, size))) in
    let there : at + (n + 1) ≡ at + n + 1 = omega arith in
    let flags_next = drop-lie_in spans at (n + 1) total (length later) (omega (arith, size)) ∙ ap (λ p. lie_in spans p (length later)) there in
    ap₂ (λ (c : Cleaned) (cs : List Cleaned). c ∷ cs) head
    (ap (λ (f : List Bool). cleaned_each (next ∷ lines) (cut_flags (map kept_text (next ∷ lines)) f)) flags_next ∙ without-cut spans (next ∷ lines) (at + n + 1))

-- The lines of a stanza without its notes are those without what is computed.
pub lines-without : (lines : List Kept) (spans : List SpanOf) → AreNotes (joined (map kept_text lines)) 0 spans → lines_without spans 0 lines ≡ cleaned_lines lines
lines-without lines spans are =
    let text = joined (map kept_text lines) in
    let flags = flags-lie_in spans (length text) (noted false text) (length-noted false text) (notes-noted text spans are) in
    sym (ap (λ (f : List Bool). cleaned_each lines (cut_flags (map kept_text lines) f)) flags ∙ without-cut spans lines 0)

-- ---- blocks

stanza-made : (first : Bool) (lines : List Kept) → AreStanzaBlocks first lines (stanza_blocks first (cleaned_lines lines))
stanza-made first lines =
    let it = notes-exist (joined (map kept_text lines)) in
    let blocks = stanza_blocks first (cleaned_lines lines) in
    record {
      notes = it.0;
      noted = it.1;
      made = subst (λ c. IsStanza first c blocks) (sym (lines-without lines it.0 it.1)) (only-stanza first (cleaned_lines lines)).meets;
    }

stanza-only : (first : Bool) (lines : List Kept) (blocks : List BlockOf) → AreStanzaBlocks first lines blocks → blocks ≡ stanza_blocks first (cleaned_lines lines)
stanza-only first lines blocks it =
    (only-stanza first (cleaned_lines lines)).only blocks (subst (λ c. IsStanza first c blocks) (lines-without lines it.notes it.noted) it.made)

stanzas-made : (first : Bool) (place : ℕ) (groups : List (Group Kept)) → AreStanzasBlocks first place groups (blocks_from place (stanzas_in first groups))
stanzas-made first place [] = refl
stanzas-made first place (lines ∷ groups) =
    let behind = place + length (members lines) in
    (stanza_blocks first (cleaned_lines (members lines)), blocks_from behind (stanzas_in false groups), stanza-made first (members lines), stanzas-made false behind groups, refl)

stanzas-only : (first : Bool) (place : ℕ) (groups : List (Group Kept)) (blocks : List PlacedBlock) → AreStanzasBlocks first place groups blocks → blocks ≡ blocks_from place (stanzas_in first groups)
stanzas-only first place [] blocks it = it
stanzas-only first place (lines ∷ groups) blocks (own, rest, here, later, made) =
    made
    ∙ ap₂ (λ (o : List BlockOf) (r : List PlacedBlock). map (placed_at place) o ++ r) (stanza-only first (members lines) own here)
    (stanzas-only false (place + length (members lines)) groups rest later)

-- A text has the blocks that are computed.
pub text-blocks : (texts : List (List ℕ)) → AreTextBlocks texts (blocks_of texts)
text-blocks texts =
    let it = boneyards-exist (joined texts) in
    let groups = longest_runs one_stanza (kept_lines texts) in
    record {
      yards = it.0;
      boneyards = it.1;
      stanzas = groups;
      runs = subst (λ (l : List Kept). AreRuns one_stanza l groups) (sym (lines-outside texts it.0 it.1)) (longest_runs-exist one_stanza (kept_lines texts));
      made = stanzas-made true 0 groups;
    }

-- And no others.
pub text-blocks-only : (texts : List (List ℕ)) (blocks : List PlacedBlock) → AreTextBlocks texts blocks → blocks ≡ blocks_of texts
text-blocks-only texts blocks it =
    let same = lines-outside texts it.yards it.boneyards in
    let runs = longest_runs-unique one_stanza (lines_outside it.yards 0 texts) it.stanzas it.runs ∙ ap (longest_runs one_stanza) same in
    stanzas-only true 0 it.stanzas blocks it.made ∙ ap (λ (gs : List (Group Kept)). blocks_from 0 (stanzas_in true gs)) runs
