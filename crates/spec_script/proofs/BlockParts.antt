-- The blocks of a stanza lie in its lines, in order.
use Rattle.std.specs.Prelude.{◌≡◌, ℕ, ◌+◌, ◌-◌, ◌<◌, ◌≤◌, ◌==◌, Bool, true, false, ◌&&◌, nat_lt, List, [], ◌∷◌, ◌++◌, map, flat_map, length, drop, All}
use Rattle.std.specs.Str.{IsUtf8, IsCharBoundary}
use Rattle.std.proofs.Common.{cond, refl, sym, ap, subst, ◌∙◌, inl, inr, arith, append-nil}
use Rattle.std.proofs.lemmas.Bool.{cases_lt, and_parts, true≢false, cond_both}
use Rattle.std.proofs.lemmas.List.Elements.{All-nil, All-cons, All-head, All-tail, All-append}
use Rattle.spec_text.specs.Parts.{Parts}
use Rattle.spec_script.specs.declared.Kind.{Kind}
use Rattle.spec_script.specs.declared.Kind.TheVariants as kinds
use Rattle.spec_script.specs.declared.Part.{Part}
use Rattle.spec_script.specs.declared.Part.TheVariants as parts
use Rattle.spec_script.specs.declared.Cut.{Cut}
use Rattle.spec_script.specs.Trim.{trim_all}
use Rattle.spec_script.specs.Letters.{begins}
use Rattle.spec_script.specs.Forms.{is_natural_heading, is_forced_heading, is_natural_transition, is_page_break, is_synopsis, is_parenthetical}
use Rattle.spec_script.specs.Title.{title_opens, opens_centred, value_cut}
use Rattle.spec_script.specs.LongestRuns.{Group, members, longest_runs}
use Rattle.spec_script.specs.Runs.{RunParts}
use Rattle.spec_script.specs.Emphasis.{runs_of}
use Rattle.spec_script.specs.Visible.{window, clip_spans}
use Rattle.spec_script.specs.BlockValues.{LineOf, BlockOf}
use Rattle.spec_script.specs.Left.{Left, trimmed, inner, line_of, plain_line, last_place, block_of, text_block, left_lines}
use Rattle.spec_script.specs.Headings.{heading_skip, number_len, numbered_heading, heading_of}
use Rattle.spec_script.specs.Speeches.{is_speech, cue_skip, has_caret, cue_line, spoken, speech_of}
use Rattle.spec_script.specs.Divisions.{ends_part, section_depth, section_of, ending_blocks, listed_kind, listed_cut, listed_line, one_block, one_part, group_block, run_blocks, part_blocks, piece_blocks, pieces_blocks}
use Rattle.spec_script.specs.TitlePages.{one_key, title_part, value_parts, value_line, value_of, values_of, opened, title_lines, title_of}
use Rattle.spec_script.specs.Blocks.{left_blocks}
use Rattle.spec_script.specs.Stanzas.{stanza_lines, cleaned_at, stanza_at}
use Rattle.spec_script.specs.BlockParts.{Rise, line_at, line_from, line_to, block_from, block_to, LineParts, BlockParts, StanzaParts}
use Rattle.spec_script.proofs.SpanLaws.{IsUtf8-text_in}
use Rattle.spec_script.proofs.RunLaws.{RunParts-runs_of}
use Rattle.spec_script.proofs.LongestRuns.{longest_runs-exist}
use Rattle.spec_script.proofs.CutEnds.{EndsFit, EndsIn, number_len-ends}
use Rattle.spec_script.proofs.WindowParts.{window-ends, clip_spans-Parts, clip_runs-RunParts, plain_runs-RunParts}
use Rattle.spec_script.proofs.LineCuts.{trimmed-fit, marked-fit, heading-fit, numbered-fit, number-fit, cue-fit, section-fit, listed-fit, value-fit}
use Rattle.spec_script.proofs.LeftParts.{Stands, left_at, left_to, left_lines-standing}
use Rattle.spec_script.proofs.StanzaList.{stanza-leads_on}

module _ {X : Type 0} (from to : X → ℕ) where
  rise-order : (low high : ℕ) (xs : List X) → Rise from to low high xs → low ≤ high
  rise-order low high [] r = r
  rise-order low high (x ∷ xs) r = let a = r.0 in let b = r.1 in let c = rise-order (to x) high xs r.2 in omega arith

  rise-lower : (low at high : ℕ) (xs : List X) → low ≤ at → Rise from to at high xs → Rise from to low high xs
  rise-lower low at high [] h r = omega arith
  rise-lower low at high (x ∷ xs) h r = (omega (arith, r.0), r.1, r.2)

  rise-append : (low mid high : ℕ) (xs ys : List X) → Rise from to low mid xs → Rise from to mid high ys → Rise from to low high (xs ++ ys)
  rise-append low mid high [] ys r s = rise-lower low mid high ys r s
  rise-append low mid high (x ∷ xs) ys r s = (r.0, r.1, rise-append (to x) mid high xs ys r.2 s)

module _ (texts : List (List ℕ)) (first count : ℕ) where
  abbrev Here : Left → Type 0
  Here = Stands texts first count

  -- Lines of the stanza, in order.
  record Span (low high : ℕ) (lines : List Left) : Type 0 where
    all : All Here lines
    rise : Rise left_at left_to low high lines

  -- Lines of blocks, and blocks, in order.
  record Lined (low high : ℕ) (lines : List LineOf) : Type 0 where
    all : All (LineParts texts first count) lines
    rise : Rise line_from line_to low high lines

  record Blocked (low high : ℕ) (blocks : List BlockOf) : Type 0 where
    all : All (BlockParts texts first count) blocks
    rise : Rise block_from block_to low high blocks

  -- A cleaned text is UTF-8.
  utf8 : (line : Left) → Here line → IsUtf8 line.text
  utf8 line h = subst IsUtf8 (sym h.line.text) (IsUtf8-text_in (line_at texts first line.place) line.spans 0 h.line.utf8 h.line.parts)

  -- The window of a part of a line.
  ends : (line : Left) (cut : Cut) → Here line → EndsFit line.text cut → IsCharBoundary (line_at texts first line.place) (window line.spans cut).0 × IsCharBoundary (line_at texts first line.place) (window line.spans cut).1
  ends line cut h fit =
      window-ends (line_at texts first line.place) line.spans cut h.line.utf8 h.line.parts (subst (λ t. EndsFit t cut) h.line.text fit)

  -- A line of a block.
  of_line : (line : Left) (part : Part) (cut : Cut) → Here line → EndsFit line.text cut → LineParts texts first count (line_of line part cut)
  of_line line part cut h fit =
      let e = ends line cut h fit in
      record { within = h.within; runs = clip_runs-RunParts (line_at texts first line.place) (window line.spans cut) line.runs e.0 e.1 h.line.runs }

  clipped : (line : Left) (cut : Cut) → Here line → EndsFit line.text cut → Parts (line_at texts first line.place) 0 (clip_spans (window line.spans cut) line.spans)
  clipped line cut h fit =
      let e = ends line cut h fit in
      clip_spans-Parts (line_at texts first line.place) (window line.spans cut) line.spans 0 e.0 e.1 h.line.parts

  of_plain : (line : Left) (part : Part) (cut : Cut) → Here line → EndsFit line.text cut → LineParts texts first count (plain_line line part cut)
  of_plain line part cut h fit = record {
    within = h.within;
    runs = plain_runs-RunParts (line_at texts first line.place) (clip_spans (window line.spans cut) line.spans) (clipped line cut h fit);
  }

  -- A block of one line.
  record OfLine (line : Left) (block : BlockOf) : Type 0 where
    begins : block.first ≡ line.place
    ends : block.last ≡ line.place
    parts : BlockParts texts first count block

  one-line : (kind : Kind) (line : Left) (made : LineOf) → made.offset ≡ line.place → LineParts texts first count made → BlockParts texts first count (block_of kind line (made ∷ []))
  one-line kind line made same p = record {
    number = tt;
    lines = All-cons (LineParts texts first count) made [] p (All-nil (LineParts texts first count));
    rise = (omega arith, omega arith, omega arith);
  }

  one-text : (kind : Kind) (line : Left) (cut : Cut) → Here line → EndsFit line.text cut → OfLine line (text_block kind line cut)
  one-text kind line cut h fit = record {
    begins = refl;
    ends = refl;
    parts = one-line kind line (line_of line parts.Text cut) refl (of_line line parts.Text cut h fit);
  }

  -- A heading.
  numbered : (line : Left) (n : ℕ) → Here line → 0 < n → number_len (drop (heading_skip line) (trimmed line)) ≡ n → OfLine line (numbered_heading line n)
  numbered line n h some is =
      let u = utf8 line h in
      let e = number_len-ends (drop (heading_skip line) (trimmed line)) (omega arith) in
      let at = subst (λ m. EndsIn (drop (heading_skip line) (trimmed line)) m) is e in
      let text = one-text kinds.Heading line (inner line (heading_skip line) (n + 2)) h (numbered-fit line n u at) in
      record {
        begins = refl;
        ends = refl;
        parts = record {
          number = clipped line (record { from = (trim_all line.text).to - (n + 1); to = (trim_all line.text).to - 1 }) h (number-fit line n u at);
          lines = text.parts.lines;
          rise = text.parts.rise;
        };
      }

  heading : (line : Left) → Here line → OfLine line (heading_of line)
  heading line h =
      let n = number_len (drop (heading_skip line) (trimmed line)) in
      cond_both (n == 0) (text_block kinds.Heading line (inner line (heading_skip line) 0)) (numbered_heading line n) (OfLine line)
      (λ _. one-text kinds.Heading line (inner line (heading_skip line) 0) h (heading-fit line (utf8 line h)))
      (λ other. numbered line n h (some n other) refl)
    where
      some : (n : ℕ) → (n == 0) ≡ false → 0 < n
      some n other =
          elim (cases_lt 0 n) [
            | inl above ↦ above
            | inr none ↦ let zero : n ≡ 0 = omega arith in absurd (true≢false (sym (ap (λ m. m == 0) zero) ∙ other))
          ]

  -- Blocks between two places.
  none : (low high : ℕ) → low ≤ high → Blocked low high []
  none low high h = record { all = All-nil (BlockParts texts first count); rise = h }

  one : (low high : ℕ) (block : BlockOf) → low ≤ block.first → block.first ≤ block.last → block.last + 1 ≤ high → BlockParts texts first count block → Blocked low high (block ∷ [])
  one low high block a b c p = record {
    all = All-cons (BlockParts texts first count) block [] p (All-nil (BlockParts texts first count));
    rise = (a, omega arith, c);
  }

  alone : (low high : ℕ) (line : Left) (block : BlockOf) → low ≤ line.place → line.place < high → OfLine line block → Blocked low high (block ∷ [])
  alone low high line block a b o =
      let begins = o.begins in
      let ends = o.ends in
      one low high block (omega arith) (omega arith) (omega arith) o.parts

  both : (low mid high : ℕ) (xs ys : List BlockOf) → Blocked low mid xs → Blocked mid high ys → Blocked low high (xs ++ ys)
  both low mid high xs ys p q = record {
    all = All-append (BlockParts texts first count) xs ys p.all q.all;
    rise = rise-append block_from block_to low mid high xs ys p.rise q.rise;
  }

  -- The first lines, and the others.
  front : (low high : ℕ) (line : Left) (more rest : List Left) → Span low high (line ∷ more ++ rest) → Span low (last_place line more + 1) (line ∷ more)
  front low high line [] rest s = record {
    all = All-cons Here line [] (All-head Here line rest s.all) (All-nil Here);
    rise = (s.rise.0, s.rise.1, omega arith);
  }
  front low high line (next ∷ more) rest s =
      let later = front (line.place + 1) high next more rest (record { all = All-tail Here line (next ∷ more ++ rest) s.all; rise = s.rise.2 }) in
      record {
        all = All-cons Here line (next ∷ more) (All-head Here line (next ∷ more ++ rest) s.all) later.all;
        rise = (s.rise.0, s.rise.1, later.rise);
      }

  back : (low high : ℕ) (line : Left) (more rest : List Left) → Span low high (line ∷ more ++ rest) → Span (last_place line more + 1) high rest
  back low high line [] rest s = record { all = All-tail Here line rest s.all; rise = s.rise.2 }
  back low high line (next ∷ more) rest s =
      back (line.place + 1) high next more rest (record { all = All-tail Here line (next ∷ more ++ rest) s.all; rise = s.rise.2 })

  -- A last line doesn't stand before the first.
  last-order : (low high : ℕ) (line : Left) (more : List Left) → Rise left_at left_to low high (line ∷ more) → line.place ≤ last_place line more × last_place line more < high
  last-order low high line [] r = (omega arith, let c = r.2 in omega arith)
  last-order low high line (next ∷ more) r =
      let later = last-order (line.place + 1) high next more r.2 in
      let a = later.0 in
      let b = r.2.0 in
      (omega arith, later.1)

  -- Lines of which each is made one of a block.
  lined : (f : Left → LineOf) → ((line : Left) → (f line).offset ≡ line.place) → ((line : Left) → Here line → LineParts texts first count (f line)) → (low high : ℕ) (lines : List Left) → Span low high lines → Lined low high (map f lines)
  lined f same parts low high [] s = record { all = All-nil (LineParts texts first count); rise = s.rise }
  lined f same parts low high (line ∷ lines) s =
      let here = same line in
      let a = s.rise.0 in
      let next : line.place + 1 ≡ (f line).offset + 1 = omega arith in
      let rest = lined f same parts (line.place + 1) high lines (record { all = All-tail Here line lines s.all; rise = s.rise.2 }) in
      record {
        all = All-cons (LineParts texts first count) (f line) (map f lines) (parts line (All-head Here line lines s.all)) rest.all;
        rise = (omega arith, omega arith, subst (λ n. Rise line_from line_to n high (map f lines)) next rest.rise);
      }

  -- A block of several lines.
  several : (block : BlockOf) (line : Left) (more : List Left) → block.first ≡ line.place → block.last ≡ last_place line more → block.number ≡ [] → Lined line.place (last_place line more + 1) block.lines → BlockParts texts first count block
  several block line more begins ends bare l = record {
    number = subst (Parts (line_at texts first block.first) 0) (sym bare) tt;
    lines = l.all;
    rise = subst (λ n. Rise line_from line_to n (block.last + 1) block.lines) (sym begins)
        (subst (λ n. Rise line_from line_to line.place (n + 1) block.lines) (sym ends) l.rise);
  }

  -- The same lines from their first on.
  from_first : (low high : ℕ) (line : Left) (more : List Left) → Span low high (line ∷ more) → Span line.place high (line ∷ more)
  from_first low high line more s = record { all = s.all; rise = (omega arith, s.rise.1, s.rise.2) }

  -- A longest run of lines of one kind.
  listed : (line : Left) → Here line → LineParts texts first count (listed_line line)
  listed line h = of_line line parts.Text (listed_cut line) h (listed-fit line (utf8 line h))

  group : (low : ℕ) (g : Group Left) → Span low (last_place g.first g.more + 1) (members g) → Blocked low (last_place g.first g.more + 1) (group_block g ∷ [])
  group low g s =
      let line = g.first in
      let h = All-head Here line g.more s.all in
      let order = last-order low (last_place line g.more + 1) line g.more s.rise in
      let a = order.0 in
      let b = s.rise.0 in
      let made : BlockOf = record (block_of (listed_kind (trimmed line)) line (map listed_line (members g))) { last = last_place line g.more } in
      cond_both (is_forced_heading (trimmed line)) (heading_of line) made (λ b. Blocked low (last_place line g.more + 1) (b ∷ []))
      (λ _. alone low (last_place line g.more + 1) line (heading_of line) b (omega arith) (heading line h))
      (λ _. one low (last_place line g.more + 1) made b a (omega arith)
      (several made line g.more refl refl refl
      (lined listed_line (λ l. refl) listed line.place (last_place line g.more + 1) (members g) (from_first low (last_place line g.more + 1) line g.more s))))

  -- Runs of lines, one after the other.
  each : (f : Group Left → List BlockOf) → ((low : ℕ) (g : Group Left) → Span low (last_place g.first g.more + 1) (members g) → Blocked low (last_place g.first g.more + 1) (f g))
      → (low high : ℕ) (groups : List (Group Left)) → Span low high (flat_map members groups) → Blocked low high (flat_map f groups)
  each f here low high [] s = none low high s.rise
  each f here low high (g ∷ groups) s =
      let rest = flat_map members groups in
      both low (last_place g.first g.more + 1) high (f g) (flat_map f groups)
      (here low g (front low high g.first g.more rest s))
      (each f here (last_place g.first g.more + 1) high groups (back low high g.first g.more rest s))

  -- All runs of a list.
  span_runs : (joins : Left → Left → Bool) (low high : ℕ) (lines : List Left) → Span low high lines → Span low high (flat_map members (longest_runs joins lines))
  span_runs joins low high lines s = subst (Span low high) (sym (longest_runs-exist joins lines).all) s

  run_blocks-are : (groups : List (Group Left)) → flat_map (λ g. group_block g ∷ []) groups ≡ map group_block groups
  run_blocks-are [] = refl
  run_blocks-are (g ∷ groups) = ap (λ (bs : List BlockOf). group_block g ∷ bs) (run_blocks-are groups)

  runs : (low high : ℕ) (lines : List Left) → Span low high lines → Blocked low high (run_blocks lines)
  runs low high lines s =
      let groups = longest_runs one_block lines in
      subst (Blocked low high) (run_blocks-are groups) (each (λ g. group_block g ∷ []) group low high groups (span_runs one_block low high lines s))

  -- A part, or a line that ends one.
  part : (low high : ℕ) (line : Left) (more : List Left) → Span low high (line ∷ more) → Blocked low high (part_blocks line more)
  part low high line [] s =
      let h = All-head Here line [] s.all in
      let a = s.rise.0 in
      let b = s.rise.2 in
      let other = run_blocks (line ∷ []) in
      let transition = text_block kinds.Transition line (trim_all line.text) in
      cond_both (is_natural_heading (trimmed line)) (heading_of line ∷ []) (cond (is_natural_transition line.text) (transition ∷ []) other) (Blocked low high)
      (λ _. alone low high line (heading_of line) a (omega arith) (heading line h))
      (λ _. cond_both (is_natural_transition line.text) (transition ∷ []) other (Blocked low high)
      (λ _. alone low high line transition a (omega arith) (one-text kinds.Transition line (trim_all line.text) h (trimmed-fit line (utf8 line h))))
      (λ _. runs low high (line ∷ []) s))
  part low high line (next ∷ more) s = runs low high (line ∷ next ∷ more) s

  section : (line : Left) → Here line → OfLine line (section_of line)
  section line h =
      let cut = inner line (section_depth (trimmed line)) 0 in
      let made = one-line kinds.Section line (plain_line line parts.Text cut) refl (of_plain line parts.Text cut h (section-fit line (utf8 line h))) in
      record { begins = refl; ends = refl; parts = record { number = tt; lines = made.lines; rise = made.rise } }

  page_break : (line : Left) → OfLine line (block_of kinds.PageBreak line [])
  page_break line = record {
    begins = refl;
    ends = refl;
    parts = record { number = tt; lines = All-nil (LineParts texts first count); rise = omega arith };
  }

  synopsis : (line : Left) → Here line → is_synopsis (trimmed line) ≡ true → OfLine line (block_of kinds.Synopsis line (plain_line line parts.Text (inner line 1 0) ∷ []))
  synopsis line h is = record {
    begins = refl;
    ends = refl;
    parts = one-line kinds.Synopsis line (plain_line line parts.Text (inner line 1 0)) refl
        (of_plain line parts.Text (inner line 1 0) h (marked-fit line 61 (omega arith) (utf8 line h) (and_parts (begins 61 (trimmed line)) _ is).0));
  }

  ending : (low high : ℕ) (line : Left) → Here line → low ≤ line.place → line.place < high → Blocked low high (ending_blocks line)
  ending low high line h a b =
      let break = block_of kinds.PageBreak line [] in
      let told = block_of kinds.Synopsis line (plain_line line parts.Text (inner line 1 0) ∷ []) in
      let titled = section_of line ∷ [] in
      let synopses = cond (is_synopsis (trimmed line)) (told ∷ []) titled in
      cond_both {A = List BlockOf} line.held [] (cond (is_page_break (trimmed line)) (break ∷ []) synopses) (Blocked low high)
      (λ _. none low high (omega arith))
      (λ _. cond_both (is_page_break (trimmed line)) (break ∷ []) synopses (Blocked low high)
      (λ _. alone low high line break a b (page_break line))
      (λ _. cond_both (is_synopsis (trimmed line)) (told ∷ []) titled (Blocked low high)
      (λ is. alone low high line told a b (synopsis line h is))
      (λ _. alone low high line (section_of line) a b (section line h))))

  piece : (low : ℕ) (g : Group Left) → Span low (last_place g.first g.more + 1) (members g) → Blocked low (last_place g.first g.more + 1) (piece_blocks g)
  piece low g s =
      let high = last_place g.first g.more + 1 in
      let order = last-order low high g.first g.more s.rise in
      let a = order.0 in
      cond_both (ends_part g.first) (ending_blocks g.first) (part_blocks g.first g.more) (Blocked low high)
      (λ _. ending low high g.first (All-head Here g.first g.more s.all) s.rise.0 (omega arith))
      (λ _. part low high g.first g.more s)

  pieces-are : (groups : List (Group Left)) → flat_map piece_blocks groups ≡ pieces_blocks groups
  pieces-are [] = refl
  pieces-are (g ∷ groups) = ap (λ (bs : List BlockOf). piece_blocks g ++ bs) (pieces-are groups)

  division : (low high : ℕ) (lines : List Left) → Span low high lines → Blocked low high (pieces_blocks (longest_runs one_part lines))
  division low high lines s =
      let groups = longest_runs one_part lines in
      subst (Blocked low high) (pieces-are groups) (each piece_blocks piece low high groups (span_runs one_part low high lines s))

  -- A speech.
  spoken-offset : (line : Left) → (spoken line).offset ≡ line.place
  spoken-offset line =
      let P : LineOf → Type 0 = λ l. l.offset ≡ line.place in
      let said = line_of line parts.Dialogue (trim_all line.text) in
      let sung = cond (begins 126 (trimmed line)) (line_of line parts.Sung (inner line 1 0)) said in
      let heard = cond (is_parenthetical (trimmed line)) (line_of line parts.Parenthetical (trim_all line.text)) sung in
      cond_both line.held (line_of line parts.Held (record { from = 0; to = 0 })) heard P (λ _. refl)
      (λ _. cond_both (is_parenthetical (trimmed line)) (line_of line parts.Parenthetical (trim_all line.text)) sung P (λ _. refl)
      (λ _. cond_both (begins 126 (trimmed line)) (line_of line parts.Sung (inner line 1 0)) said P (λ _. refl) (λ _. refl)))

  spoken-parts : (line : Left) → Here line → LineParts texts first count (spoken line)
  spoken-parts line h =
      let P : LineOf → Type 0 = LineParts texts first count in
      let u = utf8 line h in
      let said = line_of line parts.Dialogue (trim_all line.text) in
      let sung = cond (begins 126 (trimmed line)) (line_of line parts.Sung (inner line 1 0)) said in
      let heard = cond (is_parenthetical (trimmed line)) (line_of line parts.Parenthetical (trim_all line.text)) sung in
      cond_both line.held (line_of line parts.Held (record { from = 0; to = 0 })) heard P
      (λ _. of_line line parts.Held (record { from = 0; to = 0 }) h (λ some. absurd (omega arith)))
      (λ _. cond_both (is_parenthetical (trimmed line)) (line_of line parts.Parenthetical (trim_all line.text)) sung P
      (λ _. of_line line parts.Parenthetical (trim_all line.text) h (trimmed-fit line u))
      (λ _. cond_both (begins 126 (trimmed line)) (line_of line parts.Sung (inner line 1 0)) said P
      (λ is. of_line line parts.Sung (inner line 1 0) h (marked-fit line 126 (omega arith) u is))
      (λ _. of_line line parts.Dialogue (trim_all line.text) h (trimmed-fit line u))))

  speech : (low high : ℕ) (line : Left) (more : List Left) → Span low high (line ∷ more) → Blocked low high (speech_of line more ∷ [])
  speech low high line more s =
      let h = All-head Here line more s.all in
      let a = s.rise.0 in
      let order = last-order low high line more s.rise in
      let b = order.0 in
      let c = order.1 in
      let exact = front low high line more [] (subst (λ ls. Span low high (line ∷ ls)) (sym (append-nil more)) s) in
      let cue = of_line line parts.Cue (inner line (cue_skip line) (cond (has_caret line) 1 0)) h (cue-fit line (utf8 line h)) in
      let rest = lined spoken spoken-offset spoken-parts (line.place + 1) (last_place line more + 1) more (record { all = All-tail Here line more exact.all; rise = exact.rise.2 }) in
      one low high (speech_of line more) a b (omega arith)
      (several (speech_of line more) line more refl refl refl (record {
        all = All-cons (LineParts texts first count) (cue_line line) (map spoken more) cue rest.all;
        rise = (omega arith, omega arith, rest.rise);
      }))

  -- A title page.
  no_lines : (low high : ℕ) → low ≤ high → Lined low high []
  no_lines low high h = record { all = All-nil (LineParts texts first count); rise = h }

  both_lines : (low mid high : ℕ) (xs ys : List LineOf) → Lined low mid xs → Lined mid high ys → Lined low high (xs ++ ys)
  both_lines low mid high xs ys p q = record {
    all = All-append (LineParts texts first count) xs ys p.all q.all;
    rise = rise-append line_from line_to low mid high xs ys p.rise q.rise;
  }

  of_value : (line : Left) (part : Part) → Here line → LineParts texts first count (value_line line part)
  of_value line part h =
      let written = line_at texts first line.place in
      let runs = RunParts-runs_of written (value_parts line) h.line.utf8 (clipped line (value_cut line.text) h (value-fit line.text (utf8 line h))) in
      record { within = h.within; runs = subst (λ t. RunParts written (runs_of t (value_parts line))) (sym h.line.same) runs }

  value : (centred : Bool) (low : ℕ) (line : Left) → Here line → low ≤ line.place → Lined low (line.place + 1) (value_of centred line)
  value centred low line h a =
      let made = value_line line (title_part centred) in
      cond_both (nat_lt (value_cut line.text).from (value_cut line.text).to) (made ∷ []) [] (Lined low (line.place + 1))
      (λ _. record {
        all = All-cons (LineParts texts first count) made [] (of_value line (title_part centred) h) (All-nil (LineParts texts first count));
        rise = (a, omega arith, omega arith);
      })
      (λ _. no_lines low (line.place + 1) (omega arith))

  values : (centred : Bool) (low high : ℕ) (lines : List Left) → Span low high lines → Lined low high (flat_map (value_of centred) lines)
  values centred low high [] s = no_lines low high s.rise
  values centred low high (line ∷ lines) s =
      both_lines low (line.place + 1) high (value_of centred line) (flat_map (value_of centred) lines)
      (value centred low line (All-head Here line lines s.all) s.rise.0)
      (values centred (line.place + 1) high lines (record { all = All-tail Here line lines s.all; rise = s.rise.2 }))

  opened-lined : (low high : ℕ) (lines : List LineOf) → Lined low high lines → Lined low high (opened lines)
  opened-lined low high [] l = l
  opened-lined low high (line ∷ lines) l =
      let here = All-head (LineParts texts first count) line lines l.all in
      record {
        all = All-cons (LineParts texts first count) (record line { opens = true }) lines (record { within = here.within; runs = here.runs })
            (All-tail (LineParts texts first count) line lines l.all);
        rise = (l.rise.0, l.rise.1, l.rise.2);
      }

  later_keys : (low high : ℕ) (keys : List (Group Left)) → Span low high (flat_map members keys) → Lined low high (flat_map opened (map values_of keys))
  later_keys low high [] s = no_lines low high s.rise
  later_keys low high (key ∷ keys) s =
      let rest = flat_map members keys in
      let mid = last_place key.first key.more + 1 in
      both_lines low mid high (opened (values_of key)) (flat_map opened (map values_of keys))
      (opened-lined low mid (values_of key) (values (opens_centred key.first.text) low mid (members key) (front low high key.first key.more rest s)))
      (later_keys mid high keys (back low high key.first key.more rest s))

  first_key : (low mid high : ℕ) (lines : List LineOf) (keys : List (Group Left)) → Lined low mid lines → low ≤ mid → Lined mid high (title_lines (map values_of keys)) → Lined mid high (flat_map opened (map values_of keys)) → Lined low high (title_lines (lines ∷ map values_of keys))
  first_key low mid high [] keys l h untold told = record { all = untold.all; rise = rise-lower line_from line_to low mid high (title_lines (map values_of keys)) h untold.rise }
  first_key low mid high (line ∷ lines) keys l h untold told = both_lines low mid high (line ∷ lines) (flat_map opened (map values_of keys)) l told

  all_keys : (low high : ℕ) (keys : List (Group Left)) → Span low high (flat_map members keys) → Lined low high (title_lines (map values_of keys))
  all_keys low high [] s = no_lines low high s.rise
  all_keys low high (key ∷ keys) s =
      let rest = flat_map members keys in
      let mid = last_place key.first key.more + 1 in
      let here = front low high key.first key.more rest s in
      let others = back low high key.first key.more rest s in
      first_key low mid high (values_of key) keys (values (opens_centred key.first.text) low mid (members key) here)
      (rise-order left_at left_to low mid (members key) here.rise) (all_keys mid high keys others) (later_keys mid high keys others)

  title : (low high : ℕ) (line : Left) (more : List Left) → Span low high (line ∷ more) → Blocked low high (title_of line more (longest_runs one_key (line ∷ more)) ∷ [])
  title low high line more s =
      let keys = longest_runs one_key (line ∷ more) in
      let a = s.rise.0 in
      let order = last-order low high line more s.rise in
      let b = order.0 in
      let c = order.1 in
      let end = last_place line more + 1 in
      let exact = from_first low end line more (front low high line more [] (subst (λ ls. Span low high (line ∷ ls)) (sym (append-nil more)) s)) in
      one low high (title_of line more keys) a b (omega arith)
      (several (title_of line more keys) line more refl refl refl (all_keys line.place end keys (span_runs one_key line.place end (line ∷ more) exact)))

  -- The blocks of lines that are left.
  blocks : (is_first : Bool) (low high : ℕ) (lines : List Left) → Span low high lines → Blocked low high (left_blocks is_first lines)
  blocks is_first low high [] s = none low high s.rise
  blocks is_first low high (line ∷ more) s =
      let divided = pieces_blocks (longest_runs one_part (line ∷ more)) in
      let spoken = cond (is_speech line more) (speech_of line more ∷ []) divided in
      cond_both (is_first && title_opens line.text) (title_of line more (longest_runs one_key (line ∷ more)) ∷ []) spoken (Blocked low high)
      (λ _. title low high line more s)
      (λ _. cond_both (is_speech line more) (speech_of line more ∷ []) divided (Blocked low high)
      (λ _. speech low high line more s)
      (λ _. division low high (line ∷ more) s))

-- The blocks of a stanza lie in its lines, in order.
pub stanza-parts : (texts : List (List ℕ)) (first : ℕ) → All IsUtf8 texts → first < length texts → StanzaParts texts first (stanza_at texts first)
stanza-parts texts first u inside =
    let count = length (stanza_lines texts first) in
    let left = left_lines-standing texts first u in
    let made = blocks texts first count (first == 0) 0 count (left_lines (cleaned_at texts first)) (record { all = left.all; rise = left.rise }) in
    record { within = (stanza-leads_on texts first inside).within; blocks = made.all; rise = made.rise }
