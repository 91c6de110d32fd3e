-- The script of a sample is read whole: its lines are those of its rooms.
use Rattle.std.proofs.Common.{◌≡◌, ℕ, zero, suc, ◌+◌, ◌*◌, ◌<◌, ◌≤◌, Bool, true, false, ◌&&◌, cond, ltb, le-ltb, List, [], ◌∷◌, ◌++◌, length, get_or, map, sum_by, All, Some, None, refl, ap, ap₂, sym, ◌∙◌, subst, inl, inr, arith, append_assoc, length-append, lit<, lit≤, ◌-◌, ◌%◌, ◌==◌}
use Rattle.std.specs.Prelude.{codes, decimal, nat_lt, option_map, unwrap_or, position}
use Rattle.std.specs.List.{flat_map, list_all, position_from}
use Rattle.std.specs.Str.{IsUtf8, IsAscii}
use Rattle.std.specs.Str.Lossy.{utf8_valid_len}
use Rattle.std.specs.Str.Parse.{AllDigits}
use Rattle.std.proofs.lemmas.Bool.{and_parts, and_from, cases_lt, ltb-true, or_from, agree_below_at}
use Rattle.std.proofs.lemmas.Fmt.{decimal_is_IsNumeral, length-decimal-le}
use Rattle.std.proofs.lemmas.Iterator.Adapters.{position_from-zero}
use Rattle.std.proofs.lemmas.List.{get_or_past}
use Rattle.std.proofs.lemmas.List.Elements.{All-append, All-nil, All-cons}
use Rattle.std.proofs.lemmas.List.Folds.{list_all-append}
use Rattle.std.proofs.lemmas.List.Recursion.{and_at}
use Rattle.std.proofs.lemmas.List.Sums.{sum_by-cons}
use Rattle.std.proofs.lemmas.Str.Ascii.{IsAscii-nil, IsAscii-cons}
use Rattle.std.proofs.lemmas.Str.Parse.{tells_digits}
use Rattle.std.proofs.lemmas.Str.{IsUtf8-from_ascii, IsUtf8-append, IsUtf8-nil, chars-IsAscii, utf8_valid_len-IsUtf8}
use Rattle.spec_text.specs.Limits.{line_count_limit, line_limit, size_limit, raw_limit}
use Rattle.spec_text.specs.Lines.{is_kept, IsClean, line_text, line_size, raw_lines, texts_of, Reading, text_full, not_utf8, line_full, lines, is_long, is_too_much, reading_of_texts, reading_of}
use Rattle.spec_text.proofs.LineLaws.{raw_lines-append, raw_lines-line_feed}
use Rattle.spec_text.proofs.TextLaws.{line_text-IsClean, IsClean-no_end}
use Rattle.spec_sample.specs.Sample.{ended_line, room_lines, second_cue, sample_lines, sample_script}
use Rattle.spec_pages.specs.Clusters.{is_printable}
use Rattle.spec_sample.proofs.SampleLaws.{length-sample_lines}
use Rattle.spec_sample.proofs.Unnumbered.{is_other}

-- ---- plain lines

-- A byte that is ASCII and kept, takes one column, and is no `#`.
abbrev is_read : ℕ → Bool
is_read byte = nat_lt byte 128 && is_kept byte

abbrev is_shown : ℕ → Bool
is_shown byte = is_printable byte && is_other byte

abbrev pub is_plain : ℕ → Bool
is_plain byte = is_read byte && is_shown byte

pub record IsPlain (text : List ℕ) : Type 0 where
  pub plain : list_all is_plain text ≡ true
  pub short : length text ≤ 100

ascii : (line : List ℕ) → list_all is_plain line ≡ true → IsAscii line
ascii line plain i =
    elim (cases_lt i (length line)) [
      | inl inside ↦
          let byte = get_or line i 0 in
          let parts = and_parts (is_read byte) (is_shown byte) (and_at (list_all is_plain) is_plain refl (λ _ _. refl) line i 0 inside plain) in
          ltb-true byte 128 (and_parts (ltb byte 128) (is_kept byte) parts.0).0
      | inr past ↦ omega (arith, get_or_past line i 0 past)
    ]

kept : (line : List ℕ) → list_all is_plain line ≡ true → list_all is_kept line ≡ true
kept [] plain = refl
kept (byte ∷ line) plain =
    let parts = and_parts (is_plain byte) (list_all is_plain line) plain in
    let own = and_parts (is_read byte) (is_shown byte) parts.0 in
    and_from (is_kept byte) (list_all is_kept line) (and_parts (ltb byte 128) (is_kept byte) own.0).1 (kept line parts.1)

pub printable : (line : List ℕ) → list_all is_plain line ≡ true → list_all is_printable line ≡ true
printable [] plain = refl
printable (byte ∷ line) plain =
    let parts = and_parts (is_plain byte) (list_all is_plain line) plain in
    let own = and_parts (is_read byte) (is_shown byte) parts.0 in
    and_from (is_printable byte) (list_all is_printable line) (and_parts (is_printable byte) (is_other byte) own.1).0 (printable line parts.1)

pub other : (line : List ℕ) → list_all is_plain line ≡ true → list_all is_other line ≡ true
other [] plain = refl
other (byte ∷ line) plain =
    let parts = and_parts (is_plain byte) (list_all is_plain line) plain in
    let own = and_parts (is_read byte) (is_shown byte) parts.0 in
    and_from (is_other byte) (list_all is_other line) (and_parts (is_printable byte) (is_other byte) own.1).1 (other line parts.1)

pub clean : (line : List ℕ) → IsPlain line → IsClean line
clean line is = record { utf8 = IsUtf8-from_ascii line (ascii line is.plain); kept = ap (list_all is_kept) (chars-IsAscii line (ascii line is.plain)) ∙ kept line is.plain }

-- ---- what plain lines are read as

texts-ended : (texts : List (List ℕ)) → All IsPlain texts → texts_of (flat_map ended_line texts) ≡ texts
texts-ended [] all = refl
texts-ended (text ∷ texts) all =
    let first = clean text (all 0 text (omega arith)) in
    let others = texts-ended texts (λ k d inside. all (suc k) d (omega arith)) in
    let rest = flat_map ended_line texts in
    let cut = raw_lines-append text (10 ∷ rest) (raw_lines rest) (IsClean-no_end text first) (raw_lines-line_feed rest) in
    ap texts_of (append_assoc text (10 ∷ []) rest) ∙ ap (map line_text) cut ∙ ap₂ (λ one more. one ∷ more) (line_text-IsClean text first) others

utf8-ended : (texts : List (List ℕ)) → All IsPlain texts → IsUtf8 (flat_map ended_line texts)
utf8-ended [] all = IsUtf8-nil
utf8-ended (text ∷ texts) all =
    IsUtf8-append (text ++ 10 ∷ []) (flat_map ended_line texts) (IsUtf8-append text (10 ∷ []) (clean text (all 0 text (omega arith))).utf8 (IsUtf8-from_ascii (10 ∷ []) (IsAscii-cons 10 [] (lit< tt) IsAscii-nil)))
    (utf8-ended texts (λ k d inside. all (suc k) d (omega arith)))

length-ended : (texts : List (List ℕ)) → length (flat_map ended_line texts) ≡ sum_by line_size texts
length-ended [] = refl
length-ended (text ∷ texts) =
    length-append (text ++ 10 ∷ []) (flat_map ended_line texts) ∙ ap₂ (λ m n. m + n) (length-append text (10 ∷ [])) (length-ended texts) ∙ sym (sum_by-cons line_size text texts)

pub size-plain : (texts : List (List ℕ)) → All IsPlain texts → sum_by line_size texts ≤ 101 * length texts
size-plain [] all = omega arith
size-plain (text ∷ texts) all =
    omega (arith, (all 0 text (omega arith)).short, size-plain texts (λ k d inside. all (suc k) d (omega arith)), sum_by-cons line_size text texts)

none-long : (at : ℕ) (texts : List (List ℕ)) → All IsPlain texts → position_from is_long at texts ≡ None
none-long at [] all = refl
none-long at (text ∷ texts) all =
    ap (λ b. cond b (Some at) (position_from is_long (at + 1) texts)) (le-ltb line_limit (length text) (omega (arith, (all 0 text (omega arith)).short)))
    ∙ none-long (at + 1) texts (λ k d inside. all (suc k) d (omega arith))

reading-texts : (texts : List (List ℕ)) → All IsPlain texts → length texts ≤ 22000 → reading_of_texts texts ≡ lines texts
reading-texts texts all few =
    let none : position is_long texts ≡ None = position_from-zero is_long texts ∙ none-long 0 texts all in
    let fits = or_from (ltb line_count_limit (length texts)) (ltb size_limit (sum_by line_size texts)) (le-ltb line_count_limit (length texts) (omega arith)) (le-ltb size_limit (sum_by line_size texts) (omega (arith, size-plain texts all))) in
    ap (λ o. unwrap_or (option_map line_full o) (cond (is_too_much texts) text_full (lines texts))) none ∙ ap (λ b. cond b text_full (lines texts)) fits

-- Lines of up to a hundred plain bytes, each ended, are read again.
reading-ended : (texts : List (List ℕ)) → All IsPlain texts → length texts ≤ 22000 → reading_of (flat_map ended_line texts) ≡ lines texts
reading-ended texts all few =
    let bytes = flat_map ended_line texts in
    let read : Reading = reading_of_texts (texts_of bytes) in
    let small : length bytes ≤ raw_limit = omega (arith, length-ended texts, size-plain texts all) in
    let whole = le-ltb (utf8_valid_len bytes) (length bytes) (omega (arith, utf8_valid_len-IsUtf8 bytes (utf8-ended texts all))) in
    ap (λ b. cond b text_full (cond (nat_lt (utf8_valid_len bytes) (length bytes)) (not_utf8 (utf8_valid_len bytes)) read)) (le-ltb raw_limit (length bytes) small)
    ∙ ap (λ b. cond b (not_utf8 (utf8_valid_len bytes)) read) whole ∙ ap reading_of_texts (texts-ended texts all) ∙ reading-texts texts all few

-- ---- the lines of rooms are plain

plain-digit : (byte : ℕ) → 48 ≤ byte → byte ≤ 57 → is_plain byte ≡ true
plain-digit byte low high =
    let at : is_plain (48 + (byte - 48)) ≡ true = agree_below_at (λ b. is_plain (48 + b)) (λ _. true) 10 (byte - 48) refl (omega arith) in
    let same : 48 + (byte - 48) ≡ byte = omega arith in
    subst (λ b. is_plain b ≡ true) same at

plain-digits : (digits : List ℕ) → AllDigits 10 digits → list_all is_plain digits ≡ true
plain-digits [] all = refl
plain-digits (byte ∷ digits) all =
    let parts = tells_digits.parts byte digits all in
    and_from (is_plain byte) (list_all is_plain digits) (plain-digit byte (omega (arith, parts.0)) (omega (arith, parts.0))) (plain-digits digits parts.1)

plain-number : (i : ℕ) → i < 10000 → IsPlain (decimal i)
plain-number i small =
    record {
      plain = plain-digits (decimal i) (decimal_is_IsNumeral i (omega arith)).0.1;
      short = omega (arith, length-decimal-le 4 i (lit< tt) (omega arith) (omega arith));
    }

pub numbered : (i : ℕ) (front back : List ℕ) → i < 10000 → list_all is_plain front ≡ true → list_all is_plain back ≡ true → length front ≤ 48 → length back ≤ 48 → IsPlain (front ++ decimal i ++ back)
numbered i front back small first last short_front short_back =
    let number = plain-number i small in
    let digits = length-decimal-le 4 i (lit< tt) (omega arith) (omega arith) in
    record {
      plain =
          list_all-append is_plain (front ++ decimal i) back
          ∙ and_from (list_all is_plain (front ++ decimal i)) (list_all is_plain back)
          (list_all-append is_plain front (decimal i) ∙ and_from (list_all is_plain front) (list_all is_plain (decimal i)) first number.plain) last;
      short = omega (arith, digits, length-append (front ++ decimal i) back, length-append front (decimal i));
    }

plain-cue : (i : ℕ) → IsPlain (second_cue i)
plain-cue i =
    let P : Bool → Type 0 = λ b. IsPlain (cond b (codes "BERT ^") (codes "BERT")) in
    elim (i % 5 == 0) as P [ true ↦ record { plain = refl; short = lit≤ tt } | false ↦ record { plain = refl; short = lit≤ tt } ]

pub told : (text : List ℕ) → list_all is_plain text ≡ true → length text ≤ 100 → IsPlain text
told text plain short = record { plain = plain; short = short }

pub record ArePlain (texts : List (List ℕ)) : Type 0 where
  pub all : All IsPlain texts

plain-rest : (texts : List (List ℕ)) (text : List ℕ) → IsPlain text → ArePlain texts → ArePlain (text ∷ texts)
plain-rest texts text first others = record { all = All-cons IsPlain text texts first others.all }

pub plain-room : (i : ℕ) → i < 10000 → ArePlain (room_lines i)
plain-room i small =
    let empty = told [] refl (lit≤ tt) in
    plain-rest _ _ (numbered i (codes "INT. ROOM ") (codes " - DAY") small refl refl (lit≤ tt) (lit≤ tt))
    (plain-rest _ _ empty
    (plain-rest _ _ (numbered i (codes "The lamp in room ") (codes " is lit.") small refl refl (lit≤ tt) (lit≤ tt))
    (plain-rest _ _ empty
    (plain-rest _ _ (told (codes "ANNA") refl (lit≤ tt))
    (plain-rest _ _ (told (codes "(to BERT)") refl (lit≤ tt))
    (plain-rest _ _ (numbered i (codes "I have counted ") (codes " lamps today. They are all lit.") small refl refl (lit≤ tt) (lit≤ tt))
    (plain-rest _ _ empty
    (plain-rest _ _ (plain-cue i)
    (plain-rest _ _ (told (codes "Count them again.") refl (lit≤ tt))
    (plain-rest _ _ empty (record { all = All-nil IsPlain })))))))))))

pub plain-rooms : (n : ℕ) → n < 10000 → All IsPlain (sample_lines n)
plain-rooms zero small = All-nil IsPlain
plain-rooms (suc n) small = All-append IsPlain (sample_lines n) (room_lines (suc n)) (plain-rooms n (omega arith)) (plain-room (suc n) small).all

-- The script of up to 2,000 rooms is UTF-8 and keeps the limits, and none of its characters is dropped.
pub reading_of-sample_script : (n : ℕ) → n ≤ 2000 → reading_of (sample_script n) ≡ lines (sample_lines n)
reading_of-sample_script n few = reading-ended (sample_lines n) (plain-rooms n (omega arith)) (omega (arith, length-sample_lines n))
