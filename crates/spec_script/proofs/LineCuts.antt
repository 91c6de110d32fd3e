-- What each form cuts off a line is ASCII, so what is left of it begins and ends between characters.
use Rattle.std.specs.Prelude.{◌≡◌, ℕ, ◌+◌, ◌-◌, ◌<◌, ◌≤◌, ◌==◌, true, not, ◌&&◌, nat_lt, nat_le, List, length, drop, slice_index}
use Rattle.std.specs.Str.{IsUtf8, IsCharBoundary}
use Rattle.std.proofs.Common.{cond, subst, inl, inr, arith, length-drop}
use Rattle.std.proofs.lemmas.Bool.{cases_lt, and_parts, ltb-true, eqb-true, cond_both}
use Rattle.std.proofs.lemmas.List.Sums.{passes_at_first, prefix_len_passes}
use Rattle.std.proofs.lemmas.Str.{IsCharBoundary-start, IsCharBoundary-end, IsCharBoundary-after_ascii}
use Rattle.spec_script.specs.declared.Kind.{Kind}
use Rattle.spec_script.specs.declared.Kind.TheVariants as kinds
use Rattle.spec_script.specs.Trim.{trim_all}
use Rattle.spec_script.specs.Letters.{begins, begins_alphanumeric, ends}
use Rattle.spec_script.specs.Forms.{is_forced_heading, is_forced_cue, is_centred}
use Rattle.spec_script.specs.Title.{colon, is_indented, has_key, value_from, value_cut}
use Rattle.spec_script.specs.Left.{Left, trimmed, inner}
use Rattle.spec_script.specs.Headings.{heading_skip}
use Rattle.spec_script.specs.Speeches.{cue_skip, has_caret}
use Rattle.spec_script.specs.Divisions.{section_depth, action_cut, cut_as, listed_cut}
use Rattle.spec_script.proofs.CutEnds.{EndsFit, AsciiFront, AsciiBack, EndsIn, trim-fit, trim_all-ends, inner-fit, front-none, back-none, front-one, back-one, back-drop}
use Rattle.spec_script.proofs.SpanLaws.{length-slice_range}

-- All of a line, trimmed.
pub trimmed-fit : (line : Left) → IsUtf8 line.text → EndsFit line.text (trim_all line.text)
trimmed-fit line u some = trim_all-ends line.text u

-- The middle of a line.
pub middle-fit : (line : Left) (skip spare : ℕ) → IsUtf8 line.text → AsciiFront (trimmed line) skip → AsciiBack (trimmed line) spare → EndsFit line.text (inner line skip spare)
middle-fit line skip spare u front back =
    trim-fit line.text (record { from = (trim_all line.text).from + skip; to = (trim_all line.text).to - spare }) u (inner-fit line.text skip spare u front back)

-- A line without the mark that it begins with.
pub marked-fit : (line : Left) (byte : ℕ) → byte < 128 → IsUtf8 line.text → begins byte (trimmed line) ≡ true → EndsFit line.text (inner line 1 0)
marked-fit line byte low u is = middle-fit line 1 0 u (front-one byte (trimmed line) low is) (back-none (trimmed line))

-- A heading, and its number.
forced_heading-begins : (text : List ℕ) → is_forced_heading text ≡ true → begins 46 text ≡ true
forced_heading-begins text is = (and_parts (begins 46 text) (begins_alphanumeric (drop 1 text)) is).0

heading-front : (line : Left) → AsciiFront (trimmed line) (heading_skip line)
heading-front line =
    cond_both {A = ℕ} (is_forced_heading (trimmed line)) 1 0 (AsciiFront (trimmed line))
    (λ is. front-one 46 (trimmed line) (omega arith) (forced_heading-begins (trimmed line) is))
    (λ _. front-none (trimmed line))

pub heading-fit : (line : Left) → IsUtf8 line.text → EndsFit line.text (inner line (heading_skip line) 0)
heading-fit line u = middle-fit line (heading_skip line) 0 u (heading-front line) (back-none (trimmed line))

pub numbered-fit : (line : Left) (n : ℕ) → IsUtf8 line.text → EndsIn (drop (heading_skip line) (trimmed line)) n → EndsFit line.text (inner line (heading_skip line) (n + 2))
numbered-fit line n u e =
    middle-fit line (heading_skip line) (n + 2) u (heading-front line) (back-drop (trimmed line) (heading_skip line) (n + 2) e.fits e.ascii)

pub number-fit : (line : Left) (n : ℕ) → IsUtf8 line.text → EndsIn (drop (heading_skip line) (trimmed line)) n → EndsFit line.text (record { from = (trim_all line.text).to - (n + 1); to = (trim_all line.text).to - 1 })
number-fit line n u e some =
    let from = (trim_all line.text).from in
    let to = (trim_all line.text).to in
    let back = back-drop (trimmed line) (heading_skip line) (n + 2) e.fits e.ascii in
    let fewer : AsciiBack (trimmed line) (n + 1) = λ k h. back k (omega arith) in
    let one : AsciiBack (trimmed line) 1 = λ k h. back k (omega arith) in
    let fits = e.fits in
    let size = length-drop (heading_skip line) (trimmed line) in
    let bound = (trim_all-ends line.text u).1.0 in
    let order : from ≤ to = omega arith in
    let long : length (trimmed line) ≡ to - from = length-slice_range line.text from to order bound in
    let cut : (spare : ℕ) → AsciiBack (trimmed line) spare → from < to - spare → IsCharBoundary line.text (to - spare) =
    λ spare ascii h. (inner-fit line.text 0 spare u (front-none (trimmed line)) ascii (omega arith)).1 in
    (cut (n + 1) fewer (omega arith), cut 1 one (omega arith))

-- A cue.
forced_cue-begins : (text : List ℕ) → is_forced_cue text ≡ true → begins 64 text ≡ true
forced_cue-begins text is = (and_parts (begins 64 text) (nat_lt 1 (length text)) is).0

cue-front : (line : Left) → AsciiFront (trimmed line) (cue_skip line)
cue-front line =
    cond_both {A = ℕ} (is_forced_cue (trimmed line)) 1 0 (AsciiFront (trimmed line))
    (λ is. front-one 64 (trimmed line) (omega arith) (forced_cue-begins (trimmed line) is))
    (λ _. front-none (trimmed line))

caret-back : (line : Left) → AsciiBack (trimmed line) (cond (has_caret line) 1 0)
caret-back line =
    let rest = drop (cue_skip line) (trimmed line) in
    cond_both {A = ℕ} (has_caret line) 1 0 (AsciiBack (trimmed line))
    (λ is.
    let some = ltb-true 0 (length rest) (and_parts (nat_lt 0 (length rest)) (slice_index rest (length rest - 1) == 94) is).0 in
    back-drop (trimmed line) (cue_skip line) 1 (omega arith) (back-one 94 rest (omega arith) is))
    (λ _. back-none (trimmed line))

pub cue-fit : (line : Left) → IsUtf8 line.text → EndsFit line.text (inner line (cue_skip line) (cond (has_caret line) 1 0))
cue-fit line u = middle-fit line (cue_skip line) (cond (has_caret line) 1 0) u (cue-front line) (caret-back line)

-- A section.
pub section-fit : (line : Left) → IsUtf8 line.text → EndsFit line.text (inner line (section_depth (trimmed line)) 0)
section-fit line u =
    middle-fit line (section_depth (trimmed line)) 0 u
    (λ k h. let mark = eqb-true (slice_index (trimmed line) k) 35 (prefix_len_passes (λ b. b == 35) (trimmed line) k 0 h) in omega arith)
    (back-none (trimmed line))

-- Action.
action-fit : (line : Left) → IsUtf8 line.text → EndsFit line.text (action_cut line)
action-fit line u some =
    let ends = trim_all-ends line.text u in
    let bound = ends.1.0 in
    let from = (trim_all line.text).from in
    let to = (trim_all line.text).to in
    let order : from ≤ to = omega arith in (
      cond_both {A = ℕ} (begins 33 (trimmed line)) (from + 1) 0 (IsCharBoundary line.text)
          (λ is.
          let long = ltb-true 0 (length (trimmed line)) (and_parts (nat_lt 0 (length (trimmed line))) (slice_index (trimmed line) 0 == 33) is).0 in
          let size : length (trimmed line) ≡ to - from = length-slice_range line.text from to order bound in
          elim (cases_lt (from + 1) to) [
            | inl more ↦
                let less : from + 1 < to - 0 = omega arith in
                (inner-fit line.text 1 0 u (front-one 33 (trimmed line) (omega arith) is) (back-none (trimmed line)) less).0
            | inr none ↦ let same : to ≡ from + 1 = omega arith in subst (IsCharBoundary line.text) same ends.1
          ])
          (λ _. IsCharBoundary-start line.text u),
      ends.1,
    )

-- A centred line.
centred-fit : (line : Left) → IsUtf8 line.text → is_centred (trimmed line) ≡ true → EndsFit line.text (inner line 1 1)
centred-fit line u is =
    let t = trimmed line in
    let parts = and_parts (nat_le 2 (length t) && begins 62 t) (ends 60 t) is in
    middle-fit line 1 1 u (front-one 62 t (omega arith) (and_parts (nat_le 2 (length t)) (begins 62 t) parts.0).1) (back-one 60 t (omega arith) parts.1)

-- A line of a part, by its own form.
pub listed-fit : (line : Left) → IsUtf8 line.text → EndsFit line.text (listed_cut line)
listed-fit line u =
    let t = trimmed line in
    let P : Kind → Type 0 = λ k. EndsFit line.text (cut_as line k) in
    let lyric = cond (begins 126 t) kinds.Lyric kinds.Action in
    let transition = cond (begins 62 t) kinds.Transition lyric in
    let centred = cond (is_centred t) kinds.Centred transition in
    let action = cond (begins 33 t) kinds.Action centred in
    cond_both (is_forced_heading t) kinds.Heading action P (λ is. marked-fit line 46 (omega arith) u (forced_heading-begins t is))
    (λ _. cond_both (begins 33 t) kinds.Action centred P (λ _. action-fit line u)
    (λ _. cond_both (is_centred t) kinds.Centred transition P (λ is. centred-fit line u is)
    (λ _. cond_both (begins 62 t) kinds.Transition lyric P (λ is. marked-fit line 62 (omega arith) u is)
    (λ _. cond_both (begins 126 t) kinds.Lyric kinds.Action P (λ is. marked-fit line 126 (omega arith) u is)
    (λ _. action-fit line u)))))

-- A value of a title page.
pub value-fit : (text : List ℕ) → IsUtf8 text → EndsFit text (value_cut text)
value-fit text u =
    trim-fit text (record { from = value_from text; to = length text }) u
    (λ some. (
      cond_both {A = ℕ} (has_key text) (colon text + 1) 0 (IsCharBoundary text)
          (λ is.
          let low = ltb-true (colon text) (length text) (and_parts (not (is_indented text) && nat_lt 0 (colon text)) (nat_lt (colon text) (length text)) is).1 in
          let mark = eqb-true (slice_index text (colon text)) 58 (passes_at_first (λ b. b == 58) text 0 low) in
          IsCharBoundary-after_ascii text (colon text) u low (omega arith))
          (λ _. IsCharBoundary-start text u),
      IsCharBoundary-end text,
    ))
