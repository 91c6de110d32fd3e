-- What a save stores of a state opens as that state again.
use Rattle.std.proofs.Common.{◌≡◌, ℕ, zero, suc, ◌+◌, ◌<◌, ◌≤◌, cond, ltb, List, [], ◌∷◌, ◌++◌, length, Option, Some, None, option_map, unwrap_or, refl, sym, ap, ◌∙◌, arith, length-append}
use Rattle.std.specs.Prelude.{All, slice_index}
use Rattle.std.specs.List.{position_from, sum_by}
use Rattle.std.specs.Str.{IsUtf8}
use Rattle.std.proofs.lemmas.Bool.{le-ltb, or_from}
use Rattle.std.proofs.lemmas.Iterator.Adapters.{position_from-zero}
use Rattle.std.proofs.lemmas.List.Sums.{sum_by-cons}
use Rattle.std.proofs.lemmas.Str.{IsUtf8-nil, IsUtf8-append, IsUtf8-from_ascii}
use Rattle.spec_text.specs.Limits.{line_limit, line_count_limit, size_limit}
use Rattle.spec_text.specs.Lines.{LineState, TextState, IsText, IsClean, Reading, text_full, line_full, lines as all_lines, is_too_much, is_long, first_long, line_size, line_texts, lines_from, read_lines, size_of, text_bytes, text_size, reading_of_texts, reading_of}
use Rattle.spec_text.proofs.TextLaws.{texts_of-text_bytes}
use Rattle.spec_records.specs.RecordFile.{written}
use Rattle.spec_state.specs.State.{State, text_of}
use Rattle.spec_state.specs.Keeping.{IsWhole, state_kept}
use Rattle.spec_state.specs.SavedStates.{IsSaved}
use Rattle.spec_state.proofs.SavedStates.{saved-opens}
use Rattle.sp_text.proofs.Readings.{reading_of-text}
use Rattle.sp_run.specs.Records.{OpensAs}

-- ---- a text that was written is read again

feed-ascii : (k : ℕ) → slice_index (10 ∷ []) k < 128
feed-ascii zero = omega arith
feed-ascii (suc zero) = omega arith
feed-ascii (suc (suc k)) = omega arith

text-utf8 : (lines : List LineState) → All (λ (line : LineState). IsClean line.text) lines → IsUtf8 (text_bytes lines)
text-utf8 [] clean = IsUtf8-nil
text-utf8 (line ∷ lines) clean =
    let first : IsClean line.text = clean 0 line (omega arith) in
    IsUtf8-append (line.text ++ 10 ∷ []) (text_bytes lines) (IsUtf8-append line.text (10 ∷ []) first.utf8 (IsUtf8-from_ascii (10 ∷ []) feed-ascii))
    (text-utf8 lines (λ k d inside. clean (suc k) d (omega arith)))

length-text : (lines : List LineState) → length (text_bytes lines) ≡ text_size lines
length-text [] = refl
length-text (line ∷ lines) =
    let one = length-append (line.text ++ 10 ∷ []) (text_bytes lines) in
    let end = length-append line.text (10 ∷ []) in
    let sum = sum_by-cons size_of line lines in
    let others = length-text lines in omega (arith, one, end, sum, others)

size-texts : (lines : List LineState) → sum_by line_size (line_texts lines) ≡ text_size lines
size-texts [] = refl
size-texts (line ∷ lines) =
    let one = sum_by-cons line_size line.text (line_texts lines) in
    let sum = sum_by-cons size_of line lines in
    let others = size-texts lines in omega (arith, one, sum, others)

count-texts : (lines : List LineState) → length (line_texts lines) ≡ length lines
count-texts [] = refl
count-texts (line ∷ lines) = ap suc (count-texts lines)

none-long : (at : ℕ) (lines : List LineState) → All (λ (line : LineState). length line.text ≤ line_limit) lines → position_from is_long at (line_texts lines) ≡ None
none-long at [] short = refl
none-long at (line ∷ lines) short =
    let first : length line.text ≤ line_limit = short 0 line (omega arith) in
    ap (λ b. cond b (Some at) (position_from is_long (at + 1) (line_texts lines))) (le-ltb line_limit (length line.text) first)
    ∙ none-long (at + 1) lines (λ k d inside. short (suc k) d (omega arith))

pub reading_of-text_bytes : (text : TextState) → IsText text → reading_of (text_bytes text.lines) ≡ all_lines (line_texts text.lines)
reading_of-text_bytes text is =
    let bytes = text_bytes text.lines in
    let texts = line_texts text.lines in
    let size = length-text text.lines in
    let sizes = size-texts text.lines in
    let count = count-texts text.lines in
    let small = is.size in
    let few = is.count in
    let read = reading_of-text bytes bytes refl (text-utf8 text.lines is.clean) (omega (arith, size, small)) in
    let fits = or_from (ltb line_count_limit (length texts)) (ltb size_limit (sum_by line_size texts)) (le-ltb line_count_limit (length texts) (omega (arith, count, few))) (le-ltb size_limit (sum_by line_size texts) (omega (arith, sizes, small))) in
    let whole : Reading = cond (is_too_much texts) text_full (all_lines texts) in
    let short : first_long texts ≡ None = position_from-zero is_long texts ∙ none-long 0 text.lines is.short in
    read ∙ ap reading_of_texts (texts_of-text_bytes text.lines is.clean) ∙ ap (λ (o : Option ℕ). unwrap_or (option_map line_full o) whole) short ∙ ap (λ b. cond b text_full (all_lines texts)) fits

-- The texts of lines that were read.
pub texts-from : (id : ℕ) (texts : List (List ℕ)) → line_texts (lines_from id texts) ≡ texts
texts-from id [] = refl
texts-from id (text ∷ texts) = ap (λ (ts : List (List ℕ)). text ∷ ts) (texts-from (id + 1) texts)

-- ---- a state that was saved

pub saved-opens-again : (state : State) → IsWhole state → OpensAs (text_bytes state.lines) (Some (written state.lines (state_kept state))) state
saved-opens-again state whole =
    let texts = line_texts state.lines in
    let it : IsSaved state (read_lines texts) = saved-opens state (read_lines texts) whole (texts-from 0 texts) in
    record { texts = texts; reads = reading_of-text_bytes (text_of state) whole.text; opens = (state_kept state, it.file, sym it.back) }
