-- The lines of a stanza that blocks are made of, against the lines of the text.
use Rattle.std.specs.Prelude.{◌≡◌, ℕ, zero, suc, ◌+◌, ◌<◌, ◌≤◌, Bool, true, false, List, [], ◌∷◌, ◌++◌, map, length, take, drop, slice_index_or, All}
use Rattle.std.specs.List.{prefix_len}
use Rattle.std.specs.Str.{IsUtf8}
use Rattle.std.proofs.Common.{refl, sym, ap, subst, ◌∙◌, arith, length-drop, drop-drop, take-append-drop, get_or-drop}
use Rattle.std.proofs.lemmas.List.{map-append, drop-map}
use Rattle.std.proofs.lemmas.List.Elements.{All-nil, All-cons, All-head, All-tail, All-get_or}
use Rattle.spec_text.specs.Parts.{Parts}
use Rattle.spec_script.specs.declared.Sort.{Sort}
use Rattle.spec_script.specs.declared.Sort.TheVariants as sorts
use Rattle.spec_script.specs.Runs.{RunParts}
use Rattle.spec_script.specs.Spans.{text_in, cut_spans}
use Rattle.spec_script.specs.Marked.{inside_after}
use Rattle.spec_script.specs.Boneyards.{yard_turns}
use Rattle.spec_script.specs.Notes.{notes}
use Rattle.spec_script.specs.Left.{Cleaned, Left, left_line, left_before, left_from, left_lines}
use Rattle.spec_script.specs.Stanzas.{Kept, kept_each, kept_lines, kept_text, one_stanza, lines_from, stanza_lines, cleaned_line, cleaned_each, cleaned_at}
use Rattle.spec_script.specs.LongestRuns.{run_len}
use Rattle.spec_script.specs.BlockParts.{Rise, line_at}
use Rattle.spec_script.proofs.SpanLaws.{text_in-cut}
use Rattle.spec_script.proofs.PartsLeft.{cut_spans-Parts}
use Rattle.spec_script.proofs.NoteEdges.{LineFlags, AllFlags, notes-all}
use Rattle.spec_script.proofs.RunLaws.{RunParts-runs_of}
use Rattle.spec_script.proofs.YardLaws.{yards-line_by_line}
use Rattle.spec_script.proofs.StanzaLines.{HasParts, kept_by_line, stanza_lines-parts}

-- What is left of a line.
pub record IsLine (line : List ℕ) (left : Left) : Type 0 where
  pub utf8 : IsUtf8 line
  pub same : left.line ≡ line
  pub parts : Parts line 0 left.spans
  pub text : left.text ≡ text_in line left.spans
  pub runs : RunParts line left.runs

-- A line that is left is one of the stanza's so many lines.
pub record Stands (texts : List (List ℕ)) (first lines : ℕ) (left : Left) : Type 0 where
  pub within : left.place < lines
  pub line : IsLine (line_at texts first left.place) left

-- Where a line stands, and the place behind it.
abbrev pub left_at : Left → ℕ
left_at line = line.place

abbrev pub left_to : Left → ℕ
left_to line = line.place + 1

-- What a line without its notes is.
cleaned-line : (k : Kept) (flags : List Bool) (place : ℕ) (held : Bool) → IsUtf8 k.line → HasParts k → LineFlags (kept_text k) flags → IsLine k.line (left_line place held (cleaned_line k flags))
cleaned-line k flags place held u p f =
    let parts = cut_spans-Parts k.line k.spans 0 flags u p f.same f.edges in
    record {
      utf8 = u;
      same = refl;
      parts = parts;
      text = sym (text_in-cut k.line k.spans 0 flags p f.same);
      runs = RunParts-runs_of k.line (cut_spans k.spans flags) u parts;
    }

module _ (texts : List (List ℕ)) (first lines : ℕ) where
  -- Lines from a place on.
  pub record Standing (place : ℕ) (left : List Left) : Type 0 where
    pub all : All (Stands texts first lines) left
    pub rise : Rise left_at left_to place lines left

  lower : (low place : ℕ) (left : List Left) → low ≤ place → Rise left_at left_to place lines left → Rise left_at left_to low lines left
  lower low place [] h r = omega arith
  lower low place (line ∷ left) h r = (omega (arith, r.0), r.1, r.2)

  standing-before : (place : ℕ) (sort : Sort) (line : Cleaned) (rest : List Left) → ((held : Bool) → Stands texts first lines (left_line place held line)) → Standing (place + 1) rest → Standing place (left_before place sort line rest)
  standing-before place sorts.Empty line rest here s = record { all = s.all; rise = lower place (place + 1) rest (omega arith) s.rise }
  standing-before place sorts.Absent line rest here s = record { all = s.all; rise = lower place (place + 1) rest (omega arith) s.rise }
  standing-before place sorts.Held line rest here s =
      record { all = All-cons (Stands texts first lines) (left_line place true line) rest (here true) s.all; rise = (omega arith, omega arith, s.rise) }
  standing-before place sorts.Plain line rest here s =
      record { all = All-cons (Stands texts first lines) (left_line place false line) rest (here false) s.all; rise = (omega arith, omega arith, s.rise) }

  -- The lines of the text from one on are these, and others.
  record Reads (at : ℕ) (ks : List Kept) : Type 0 where
    more : List (List ℕ)
    is : drop at texts ≡ map (λ (k : Kept). k.line) ks ++ more

  left_from-standing : (place : ℕ) (ks : List Kept) (flags : List (List Bool)) → All IsUtf8 texts → All HasParts ks → AllFlags (map kept_text ks) flags → Reads (first + place) ks → place + length ks ≡ lines → Standing place (left_from place (cleaned_each ks flags))
  left_from-standing place [] flags u p f r end = record { all = All-nil (Stands texts first lines); rise = omega arith }
  left_from-standing place (k ∷ ks) [] u p f r end = absurd f
  left_from-standing place (k ∷ ks) (here ∷ flags) u p f r end =
      let size = length-drop (first + place) texts in
      let count = ap (λ (ts : List (List ℕ)). length ts) r.is in
      let low : first + place < length texts = omega arith in
      let zero : first + place + 0 ≡ first + place = omega arith in
      let line : line_at texts first place ≡ k.line =
      ap (λ n. slice_index_or texts n []) (sym zero) ∙ sym (get_or-drop (first + place) texts 0 []) ∙ ap (λ (ts : List (List ℕ)). slice_index_or ts 0 []) r.is in
      let utf8 : IsUtf8 k.line = subst IsUtf8 line (All-get_or IsUtf8 texts (first + place) [] low u) in
      let next : first + place + 1 ≡ first + (place + 1) = omega arith in
      let rest : Reads (first + (place + 1)) ks = record {
        more = r.more;
        is = ap (λ n. drop n texts) (sym next) ∙ sym (drop-drop 1 (first + place) texts) ∙ ap (drop 1) r.is;
      } in
      standing-before place (cleaned_line k here).sort (cleaned_line k here) (left_from (place + 1) (cleaned_each ks flags))
      (λ held. record {
        within = omega arith;
        line = subst (λ t. IsLine t (left_line place held (cleaned_line k here))) (sym line) (cleaned-line k here place held utf8 (All-head HasParts k ks p) f.0);
      })
      (left_from-standing (place + 1) ks flags u (All-tail HasParts k ks p) f.1 rest (omega arith))

  unheld : (place : ℕ) (left : List Left) (n : ℕ) → Standing place left → Standing place (drop n left)
  unheld place left zero s = s
  unheld place [] (suc n) s = s
  unheld place (line ∷ left) (suc n) s =
      let low = s.rise.0 in
      unheld place left n (record {
        all = All-tail (Stands texts first lines) line left s.all;
        rise = lower place (line.place + 1) left (omega arith) s.rise.2;
      })

-- The lines outside boneyards are those of the text.
by_line-lines : (inside : Bool) (texts : List (List ℕ)) → map (λ (k : Kept). k.line) (kept_by_line inside texts) ≡ texts
by_line-lines inside [] = refl
by_line-lines inside (text ∷ texts) = ap (λ (ts : List (List ℕ)). text ∷ ts) (by_line-lines (inside_after yard_turns inside text) texts)

kept-lines : (texts : List (List ℕ)) → map (λ (k : Kept). k.line) (kept_lines texts) ≡ texts
kept-lines texts = ap (λ ys. map (λ (k : Kept). k.line) (kept_each texts ys)) (yards-line_by_line texts) ∙ by_line-lines false texts

stanza-reads : (texts : List (List ℕ)) (first : ℕ) → Reads texts first (length (stanza_lines texts first)) first (stanza_lines texts first)
stanza-reads texts first =
    let of_line : Kept → List ℕ = λ k. k.line in
    let from = lines_from texts first in
    let n = run_len one_stanza from in
    record {
      more = map of_line (drop n from);
      is =
          ap (drop first) (sym (kept-lines texts)) ∙ drop-map of_line first (kept_lines texts)
          ∙ ap (map of_line) (sym (take-append-drop n from)) ∙ map-append of_line (take n from) (drop n from);
    }

-- The lines of a stanza that blocks are made of are lines of the text, in order.
pub left_lines-standing : (texts : List (List ℕ)) (first : ℕ) → All IsUtf8 texts → Standing texts first (length (stanza_lines texts first)) 0 (left_lines (cleaned_at texts first))
left_lines-standing texts first u =
    let ks = stanza_lines texts first in
    let n = length ks in
    let zero : first ≡ first + 0 = omega arith in
    let all = left_from-standing texts first n 0 ks (notes (map kept_text ks)) u (stanza_lines-parts texts first u) (notes-all (map kept_text ks))
    (subst (λ at. Reads texts first n at ks) zero (stanza-reads texts first)) (let same : 0 + length ks ≡ n = omega arith in same) in
    unheld texts first n 0 (left_from 0 (cleaned_at texts first)) (prefix_len (λ (line : Left). line.held) (left_from 0 (cleaned_at texts first))) all
