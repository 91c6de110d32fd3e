-- How many lines an input has and how long they are, one part after another.
use Rattle.std.proofs.Common.{◌≡◌, ℕ, ◌+◌, ◌-◌, ◌<◌, ◌≤◌, List, [], ◌∷◌, ◌++◌, length, take, drop, refl, sym, ap, ◌∙◌, subst, arith, append_assoc, append-nil, length-append}
use Rattle.std.specs.Prelude.{All}
use Rattle.std.proofs.lemmas.List.{take_at, length-take, take-append-drop}
use Rattle.std.proofs.Math.Seq.{take-append-add}
use Rattle.std.proofs.lemmas.List.Elements.{All-nil, All-cons, All-head, All-tail, All-append, All-take}
use Rattle.spec_session.specs.CommandLines.{command_limit, command_count_limit, HasNoFeed, whole_lines, open_line, last_line, command_lines, ended, ended_lines, Splits, IsShort, KeepsLimits, without_last, KeepsBudget}
use Rattle.spec_session.proofs.CutLaws.{IsByte, lines-split, command_lines-behind, command_lines-plain}

abbrev pub AtMost : ℕ → List ℕ → Type 0
AtMost most line = length line ≤ most

-- ---- of one input

last-bounded : (rest : List ℕ) (most : ℕ) → length rest ≤ most → All (AtMost most) (last_line rest)
last-bounded [] most low = All-nil (AtMost most)
last-bounded (byte ∷ rest) most low = All-cons (AtMost most) (byte ∷ rest) [] low (All-nil (AtMost most))

length-lines : (line : List ℕ) (lines : List (List ℕ)) (rest : List ℕ) → length (ended_lines (line ∷ lines) ++ rest) ≡ length line + 1 + length (ended_lines lines ++ rest)
length-lines line lines rest =
    let a = length-append (ended_lines (line ∷ lines)) rest in
    let b = length-append (ended line) (ended_lines lines) in
    let d = length-append line (10 ∷ []) in
    let e = length-append (ended_lines lines) rest in
    omega (arith, a, b, d, e)

split-bounded : (lines : List (List ℕ)) (rest : List ℕ) (most : ℕ) → length (ended_lines lines ++ rest) ≤ most → All (AtMost most) (lines ++ last_line rest)
split-bounded [] rest most low = last-bounded rest most low
split-bounded (line ∷ lines) rest most low =
    let size = length-lines line lines rest in
    All-cons (AtMost most) line (lines ++ last_line rest) (omega (arith, size, low)) (split-bounded lines rest most (omega (arith, size, low)))

-- No line is longer than the input.
pub lines-bounded : (bytes : List ℕ) (most : ℕ) → length bytes ≤ most → All (AtMost most) (command_lines bytes)
lines-bounded bytes most low =
    let cut = lines-split bytes in
    split-bounded (whole_lines bytes) (open_line bytes) most (subst (λ n. n ≤ most) (ap length cut.whole) low)

length-last : (rest : List ℕ) → length (last_line rest) ≤ length rest
length-last [] = omega arith
length-last (byte ∷ rest) = omega arith

split-few : (lines : List (List ℕ)) (rest : List ℕ) → length (lines ++ last_line rest) ≤ length (ended_lines lines ++ rest)
split-few [] rest = length-last rest
split-few (line ∷ lines) rest = let size = length-lines line lines rest in omega (arith, size, split-few lines rest)

-- There are no more lines than bytes.
pub lines-few : (bytes : List ℕ) → length (command_lines bytes) ≤ length bytes
lines-few bytes =
    let cut = lines-split bytes in
    subst (λ n. length (command_lines bytes) ≤ n) (sym (ap length cut.whole)) (split-few (whole_lines bytes) (open_line bytes))

-- ---- of a line that was begun, and what follows it

-- The first line is the one that was begun, with some bytes more; the others are no more than the bytes behind its first.
pub record GoesOn (held bytes : List ℕ) : Type 0 where
  pub added : List ℕ
  pub later : List (List ℕ)
  pub lines : command_lines (held ++ bytes) ≡ (held ++ added) ∷ later
  pub few : length later ≤ length bytes - 1

some-last : (bytes : List ℕ) → 0 < length bytes → last_line bytes ≡ bytes ∷ []
some-last [] some = absurd (omega (arith, some))
some-last (byte ∷ bytes) some = refl

goes-on-by : (held bytes : List ℕ) (lines : List (List ℕ)) (rest : List ℕ) → HasNoFeed held → 0 < length held → Splits bytes lines rest → GoesOn held bytes
goes-on-by held bytes [] rest plain some cut =
    let all : HasNoFeed (held ++ bytes) = All-append IsByte held bytes plain (subst HasNoFeed (sym cut.whole) cut.rest_plain) in
    let size = length-append held bytes in
    record {
      added = bytes;
      later = [];
      lines = command_lines-plain (held ++ bytes) all ∙ some-last (held ++ bytes) (omega (arith, size, some));
      few = omega arith;
    }
goes-on-by held bytes (line ∷ lines) rest plain some cut =
    let more = ended_lines lines ++ rest in
    let split : bytes ≡ ended_lines (line ∷ []) ++ more =
    cut.whole ∙ append_assoc (ended line) (ended_lines lines) rest ∙ ap (λ l. l ++ more) (sym (append-nil (ended line))) in
    let joined : held ++ bytes ≡ ended_lines ((held ++ line) ∷ []) ++ more =
    ap (λ l. held ++ l) split ∙ sym (append_assoc held (ended_lines (line ∷ [])) more)
    ∙ ap (λ l. l ++ more) (ap (λ l. held ++ l) (append-nil (ended line)) ∙ sym (append_assoc held line (10 ∷ [])) ∙ sym (append-nil (ended (held ++ line)))) in
    let first : All HasNoFeed ((held ++ line) ∷ []) =
    All-cons HasNoFeed (held ++ line) [] (All-append IsByte held line plain (All-head HasNoFeed line lines cut.lines_plain)) (All-nil HasNoFeed) in
    record {
      added = line;
      later = command_lines more;
      lines = ap command_lines joined ∙ command_lines-behind ((held ++ line) ∷ []) more first;
      few = let size = ap length cut.whole ∙ length-lines line lines rest in omega (arith, size, lines-few more);
    }

pub goes-on : (held bytes : List ℕ) → HasNoFeed held → 0 < length held → GoesOn held bytes
goes-on held bytes plain some = goes-on-by held bytes (whole_lines bytes) (open_line bytes) plain some (lines-split bytes)

-- So many lines at most, where a line was begun or not.
pub few-behind : (held bytes : List ℕ) (most : ℕ) → HasNoFeed held → length bytes ≤ most → (0 < length held → 0 < most) → length (command_lines (held ++ bytes)) ≤ most
few-behind [] bytes most plain low some = let few = lines-few bytes in omega (arith, few, low)
few-behind (byte ∷ held) bytes most plain low some =
    let it = goes-on (byte ∷ held) bytes plain (omega arith) in
    let size = ap length it.lines in
    let positive : 0 < most = some (omega arith) in
    omega (arith, size, it.few, low, positive)

-- ---- limits of a front of an input

shorter : (held added : List ℕ) → IsShort (held ++ added) → IsShort held
shorter held added short = let size = length-append held added in omega (arith, size, short)

pub all-first : (P : List ℕ → Type 0) (xs ys : List (List ℕ)) → All P (xs ++ ys) → All P xs
all-first P xs ys all = subst (All P) (take_at xs ys (length xs) refl) (All-take P (length xs) (xs ++ ys) all)

all-last : (P : List ℕ → Type 0) (xs ys : List (List ℕ)) → All P (xs ++ ys) → All P ys
all-last P [] ys all = all
all-last P (x ∷ xs) ys all = all-last P xs ys (All-tail P x (xs ++ ys) all)

front-limits : (lines : List (List ℕ)) (rest more : List ℕ) → All HasNoFeed lines → HasNoFeed rest → KeepsLimits ((ended_lines lines ++ rest) ++ more) → KeepsLimits (ended_lines lines ++ rest)
front-limits lines [] more plain rest_plain keeps =
    let own : command_lines (ended_lines lines ++ []) ≡ lines = command_lines-behind lines [] plain ∙ append-nil lines in
    let all : command_lines ((ended_lines lines ++ []) ++ more) ≡ lines ++ command_lines more =
    ap command_lines (append_assoc (ended_lines lines) [] more) ∙ command_lines-behind lines more plain in
    let sizes = length-append lines (command_lines more) in
    record {
      few = let a = ap length own in let b = ap length all in omega (arith, a, b, sizes, keeps.few);
      short = subst (All IsShort) (sym own) (all-first IsShort lines (command_lines more) (subst (All IsShort) all keeps.short));
    }
front-limits lines (byte ∷ rest) more plain rest_plain keeps =
    let it = goes-on (byte ∷ rest) more rest_plain (omega arith) in
    let own : command_lines (ended_lines lines ++ (byte ∷ rest)) ≡ lines ++ ((byte ∷ rest) ∷ []) =
    command_lines-behind lines (byte ∷ rest) plain ∙ ap (λ l. lines ++ l) (command_lines-plain (byte ∷ rest) rest_plain) in
    let all : command_lines ((ended_lines lines ++ (byte ∷ rest)) ++ more) ≡ lines ++ (((byte ∷ rest) ++ it.added) ∷ it.later) =
    ap command_lines (append_assoc (ended_lines lines) (byte ∷ rest) more) ∙ command_lines-behind lines ((byte ∷ rest) ++ more) plain ∙ ap (λ l. lines ++ l) it.lines in
    let short : All IsShort (lines ++ (((byte ∷ rest) ++ it.added) ∷ it.later)) = subst (All IsShort) all keeps.short in
    let last : All IsShort (((byte ∷ rest) ++ it.added) ∷ it.later) = all-last IsShort lines (((byte ∷ rest) ++ it.added) ∷ it.later) short in
    record {
      few = let a = ap length own in let b = ap length all in
          let d = length-append lines ((byte ∷ rest) ∷ []) in let e = length-append lines (((byte ∷ rest) ++ it.added) ∷ it.later) in omega (arith, a, b, d, e, keeps.few);
      short = subst (All IsShort) (sym own)
          (All-append IsShort lines ((byte ∷ rest) ∷ []) (all-first IsShort lines (((byte ∷ rest) ++ it.added) ∷ it.later) short)
          (All-cons IsShort (byte ∷ rest) [] (shorter (byte ∷ rest) it.added (All-head IsShort ((byte ∷ rest) ++ it.added) it.later last)) (All-nil IsShort)));
    }

-- What keeps both limits does so before its end.
pub limits-front : (bytes more : List ℕ) → KeepsLimits (bytes ++ more) → KeepsLimits bytes
limits-front bytes more keeps =
    let cut = lines-split bytes in
    subst KeepsLimits (sym cut.whole)
    (front-limits (whole_lines bytes) (open_line bytes) more cut.lines_plain cut.rest_plain (subst (λ l. KeepsLimits (l ++ more)) cut.whole keeps))

pub limits-budget : (bytes : List ℕ) → KeepsLimits bytes → KeepsBudget bytes
limits-budget bytes keeps =
    limits-front (without_last bytes) (drop (length bytes - 1) bytes) (subst KeepsLimits (sym (take-append-drop (length bytes - 1) bytes)) keeps)

-- ---- lines that were handed out, and what was read behind them

-- All but the last byte, where something stands behind the lines.
pub last-behind : (front : List ℕ) (byte : ℕ) (bytes : List ℕ) → without_last (front ++ (byte ∷ bytes)) ≡ front ++ without_last (byte ∷ bytes)
last-behind front byte bytes =
    let size : length (front ++ (byte ∷ bytes)) - 1 ≡ length front + (length (byte ∷ bytes) - 1) = let a = length-append front (byte ∷ bytes) in omega (arith, a) in
    ap (λ n. take n (front ++ (byte ∷ bytes))) size ∙ take-append-add front (byte ∷ bytes) (length (byte ∷ bytes) - 1)

-- The lines keep the limits, and so does what was read behind them, but for its last byte.
pub lines-limits : (lines : List (List ℕ)) (rest : List ℕ) → All HasNoFeed lines → All IsShort lines → length lines + length (command_lines rest) ≤ command_count_limit
    → All IsShort (command_lines rest) → KeepsLimits (ended_lines lines ++ rest)
lines-limits lines rest plain short few rest_short =
    let own = command_lines-behind lines rest plain in
    record {
      few = let a = ap length own in let b = length-append lines (command_lines rest) in omega (arith, a, b, few);
      short = subst (All IsShort) (sym own) (All-append IsShort lines (command_lines rest) short rest_short);
    }

pub budget-behind : (lines : List (List ℕ)) (pending : List ℕ) → All HasNoFeed lines → All IsShort lines
    → length lines + length (command_lines (without_last pending)) ≤ command_count_limit → length pending ≤ command_limit + 1 → KeepsBudget (ended_lines lines ++ pending)
budget-behind lines [] plain short few low = limits-budget (ended_lines lines ++ []) (lines-limits lines [] plain short few (All-nil IsShort))
budget-behind lines (byte ∷ bytes) plain short few low =
    let front = without_last (byte ∷ bytes) in
    let size : length front ≤ command_limit = let a = length-take (length (byte ∷ bytes) - 1) (byte ∷ bytes) in omega (arith, a, low) in
    subst KeepsLimits (sym (last-behind (ended_lines lines) byte bytes)) (lines-limits lines front plain short few (lines-bounded front command_limit size))
