-- How an input is cut into lines: as these are said, and one line after another.
use Rattle.std.proofs.Common.{◌≡◌, ◌≢◌, ℕ, Bool, true, false, cond, ◌||◌, List, [], ◌∷◌, ◌++◌, refl, sym, ap, ◌∙◌, subst, arith, append_assoc, append-nil}
use Rattle.std.specs.Prelude.{All}
use Rattle.std.specs.List.{list_any}
use Rattle.std.proofs.lemmas.Bool.Decides.{nat_tests}
use Rattle.std.proofs.lemmas.List.Elements.{All-nil, All-cons, All-head, All-tail}
use Rattle.spec_session.specs.CommandLines.{is_feed, HasNoFeed, onto_first, whole_lines, open_line, last_line, command_lines, ended, ended_lines, Splits}

abbrev pub IsByte : ℕ → Type 0
IsByte byte = byte ≢ 10

-- A byte that is no line feed.
other-byte : (byte : ℕ) → byte ≢ 10 → is_feed byte ≡ false
other-byte byte differs = grind (arith, nat_tests)

pub head-plain : (byte : ℕ) (bytes : List ℕ) → HasNoFeed (byte ∷ bytes) → is_feed byte ≡ false
head-plain byte bytes plain = other-byte byte (All-head IsByte byte bytes plain)

pub tail-plain : (byte : ℕ) (bytes : List ℕ) → HasNoFeed (byte ∷ bytes) → HasNoFeed bytes
tail-plain byte bytes plain = All-tail IsByte byte bytes plain

pub any-plain : (bytes : List ℕ) → HasNoFeed bytes → list_any is_feed bytes ≡ false
any-plain [] plain = refl
any-plain (byte ∷ bytes) plain = rw (head-plain byte bytes plain) (any-plain bytes (tail-plain byte bytes plain))

any-feed : (bytes rest : List ℕ) → list_any is_feed (bytes ++ 10 ∷ rest) ≡ true
any-feed [] rest = refl
any-feed (byte ∷ bytes) rest =
    let later = any-feed bytes rest in
    elim (is_feed byte) as (λ b. b || list_any is_feed (bytes ++ 10 ∷ rest) ≡ true) [ true ↦ refl | false ↦ later ]

-- ---- one line after another

pub whole_lines-plain : (bytes : List ℕ) → HasNoFeed bytes → whole_lines bytes ≡ []
whole_lines-plain [] plain = refl
whole_lines-plain (byte ∷ bytes) plain =
    ap (λ b. cond b ([] ∷ whole_lines bytes) (onto_first byte (whole_lines bytes))) (head-plain byte bytes plain)
    ∙ ap (onto_first byte) (whole_lines-plain bytes (tail-plain byte bytes plain))

pub open_line-plain : (bytes : List ℕ) → HasNoFeed bytes → open_line bytes ≡ bytes
open_line-plain [] plain = refl
open_line-plain (byte ∷ bytes) plain = ap (λ b. cond b (open_line bytes) (byte ∷ bytes)) (any-plain (byte ∷ bytes) plain)

pub whole_lines-ended : (line rest : List ℕ) → HasNoFeed line → whole_lines (line ++ 10 ∷ rest) ≡ line ∷ whole_lines rest
whole_lines-ended [] rest plain = refl
whole_lines-ended (byte ∷ line) rest plain =
    ap (λ b. cond b ([] ∷ whole_lines (line ++ 10 ∷ rest)) (onto_first byte (whole_lines (line ++ 10 ∷ rest)))) (head-plain byte line plain)
    ∙ ap (onto_first byte) (whole_lines-ended line rest (tail-plain byte line plain))

pub open_line-ended : (line rest : List ℕ) → open_line (line ++ 10 ∷ rest) ≡ open_line rest
open_line-ended [] rest = refl
open_line-ended (byte ∷ line) rest =
    ap (λ b. cond b (open_line (line ++ 10 ∷ rest)) (byte ∷ (line ++ 10 ∷ rest))) (any-feed (byte ∷ line) rest) ∙ open_line-ended line rest

-- ---- lines before what follows

ended-then : (line rest : List ℕ) → ended line ++ rest ≡ line ++ 10 ∷ rest
ended-then line rest = append_assoc line (10 ∷ []) rest

lines-then : (line : List ℕ) (lines : List (List ℕ)) (rest : List ℕ) → ended_lines (line ∷ lines) ++ rest ≡ line ++ 10 ∷ (ended_lines lines ++ rest)
lines-then line lines rest = append_assoc (ended line) (ended_lines lines) rest ∙ ended-then line (ended_lines lines ++ rest)

pub whole_lines-behind : (lines : List (List ℕ)) (rest : List ℕ) → All HasNoFeed lines → whole_lines (ended_lines lines ++ rest) ≡ lines ++ whole_lines rest
whole_lines-behind [] rest plain = refl
whole_lines-behind (line ∷ lines) rest plain =
    ap whole_lines (lines-then line lines rest) ∙ whole_lines-ended line (ended_lines lines ++ rest) (All-head HasNoFeed line lines plain)
    ∙ ap (λ more. line ∷ more) (whole_lines-behind lines rest (All-tail HasNoFeed line lines plain))

pub open_line-behind : (lines : List (List ℕ)) (rest : List ℕ) → open_line (ended_lines lines ++ rest) ≡ open_line rest
open_line-behind [] rest = refl
open_line-behind (line ∷ lines) rest = ap open_line (lines-then line lines rest) ∙ open_line-ended line (ended_lines lines ++ rest) ∙ open_line-behind lines rest

pub command_lines-behind : (lines : List (List ℕ)) (rest : List ℕ) → All HasNoFeed lines → command_lines (ended_lines lines ++ rest) ≡ lines ++ command_lines rest
command_lines-behind lines rest plain =
    ap (λ more. more ++ last_line (open_line (ended_lines lines ++ rest))) (whole_lines-behind lines rest plain)
    ∙ ap (λ piece. (lines ++ whole_lines rest) ++ last_line piece) (open_line-behind lines rest)
    ∙ append_assoc lines (whole_lines rest) (last_line (open_line rest))

pub command_lines-plain : (bytes : List ℕ) → HasNoFeed bytes → command_lines bytes ≡ last_line bytes
command_lines-plain bytes plain =
    ap (λ more. more ++ last_line (open_line bytes)) (whole_lines-plain bytes plain) ∙ ap last_line (open_line-plain bytes plain)

-- ---- each input is cut in one way

-- A byte that is a line feed.
feed-byte : (byte : ℕ) → is_feed byte ≡ true → byte ≡ 10
feed-byte byte is = grind (arith, nat_tests)

differs-byte : (byte : ℕ) → is_feed byte ≡ false → byte ≢ 10
differs-byte byte other = grind (arith, nat_tests)

-- A line feed before an input that is cut.
feed-splits : (bytes : List ℕ) (lines : List (List ℕ)) (rest : List ℕ) → Splits bytes lines rest → Splits (10 ∷ bytes) ([] ∷ lines) rest
feed-splits bytes lines rest cut =
    record { whole = ap (λ more. 10 ∷ more) cut.whole; lines_plain = All-cons HasNoFeed [] lines (All-nil IsByte) cut.lines_plain; rest_plain = cut.rest_plain }

-- Another byte before one.
other-splits : (byte : ℕ) (bytes : List ℕ) (lines : List (List ℕ)) → is_feed byte ≡ false → Splits bytes lines (open_line bytes)
    → Splits (byte ∷ bytes) (onto_first byte lines) (open_line (byte ∷ bytes))
other-splits byte bytes [] other cut =
    let plain : HasNoFeed (byte ∷ bytes) = All-cons IsByte byte bytes (differs-byte byte other) (subst HasNoFeed (sym cut.whole) cut.rest_plain) in
    let open_is : open_line (byte ∷ bytes) ≡ byte ∷ bytes = open_line-plain (byte ∷ bytes) plain in
    record { whole = sym open_is; lines_plain = All-nil HasNoFeed; rest_plain = subst HasNoFeed (sym open_is) plain }
other-splits byte bytes (line ∷ lines) other cut =
    let split : bytes ≡ line ++ 10 ∷ (ended_lines lines ++ open_line bytes) = cut.whole ∙ lines-then line lines (open_line bytes) in
    let open_is : open_line (byte ∷ bytes) ≡ open_line bytes =
    ap (λ more. open_line (byte ∷ more)) split ∙ open_line-ended (byte ∷ line) (ended_lines lines ++ open_line bytes) ∙ sym (open_line-ended line (ended_lines lines ++ open_line bytes))
    ∙ ap open_line (sym split) in
    record {
      whole = ap (λ more. byte ∷ more) cut.whole ∙ ap (λ piece. byte ∷ (ended_lines (line ∷ lines) ++ piece)) (sym open_is);
      lines_plain = All-cons HasNoFeed (byte ∷ line) lines
          (All-cons IsByte byte line (differs-byte byte other) (All-head HasNoFeed line lines cut.lines_plain)) (All-tail HasNoFeed line lines cut.lines_plain);
      rest_plain = subst HasNoFeed (sym open_is) cut.rest_plain;
    }

-- A byte before an input that is cut.
byte-splits : (byte : ℕ) (bytes : List ℕ) (b : Bool) → is_feed byte ≡ b → Splits bytes (whole_lines bytes) (open_line bytes)
    → Splits (byte ∷ bytes) (whole_lines (byte ∷ bytes)) (open_line (byte ∷ bytes))
byte-splits byte bytes true is cut =
    subst (λ first. Splits (first ∷ bytes) (whole_lines (first ∷ bytes)) (open_line (first ∷ bytes))) (sym (feed-byte byte is))
    (feed-splits bytes (whole_lines bytes) (open_line bytes) cut)
byte-splits byte bytes false other cut =
    subst (λ lines. Splits (byte ∷ bytes) lines (open_line (byte ∷ bytes))) (sym (ap (λ b. cond b ([] ∷ whole_lines bytes) (onto_first byte (whole_lines bytes))) other))
    (other-splits byte bytes (whole_lines bytes) other cut)

-- An input is its whole lines, each with its line feed, and what follows the last.
pub lines-split : (bytes : List ℕ) → Splits bytes (whole_lines bytes) (open_line bytes)
lines-split [] = record { whole = refl; lines_plain = All-nil HasNoFeed; rest_plain = All-nil IsByte }
lines-split (byte ∷ bytes) = byte-splits byte bytes (is_feed byte) refl (lines-split bytes)

-- No other lines make it so.
pub split-lines : (bytes : List ℕ) (lines : List (List ℕ)) (rest : List ℕ) → Splits bytes lines rest → (whole_lines bytes ≡ lines) × (open_line bytes ≡ rest)
split-lines bytes lines rest cut = (
  ap whole_lines cut.whole ∙ whole_lines-behind lines rest cut.lines_plain ∙ ap (λ more. lines ++ more) (whole_lines-plain rest cut.rest_plain) ∙ append-nil lines,
  ap open_line cut.whole ∙ open_line-behind lines rest ∙ open_line-plain rest cut.rest_plain,
)
