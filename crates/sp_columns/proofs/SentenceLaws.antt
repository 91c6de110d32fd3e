-- A text ends a sentence, character after character.
use Rattle.std.proofs.Common.{◌≡◌, ℕ, ◌+◌, ◌<◌, zero, suc, Bool, true, false, not, cond, List, [], ◌∷◌, ◌++◌, length, take, drop, get_or, fold, find, reverse, Some, None, refl, sym, ap, ◌∙◌, arith}
use Rattle.std.specs.Str.{IsUtf8, IsAscii, chars}
use Rattle.std.proofs.lemmas.List.{reverse-append, take-append-drop, drop_more, drop_all, get_or_past}
use Rattle.std.proofs.lemmas.Str.{IsUtf8-take, IsCharBoundary-before_ascii, chars-append, chars-IsAscii}
use Rattle.std.specs.Option.{option_map_or}
use Rattle.spec_pages.specs.Sentences.{is_closing, is_stop, ends_sentence}
use Rattle.sp_columns.specs.Sentences.{ends_after}

-- Whether the first of these characters that isn't a closing one ends a sentence, or else by what stands behind them.
abbrev first_ends : List ℕ → Bool → Bool
first_ends back behind = option_map_or is_stop (find (λ char. not (is_closing char)) back) behind

-- By whether a character is a closing one.
first-if : (t : Bool) (x : ℕ) (back : List ℕ) (char : ℕ) (behind : Bool) → first_ends (back ++ char ∷ []) behind ≡ first_ends back (ends_after behind char)
    → option_map_or is_stop (cond (not t) (Some x) (find (λ c. not (is_closing c)) (back ++ char ∷ []))) behind
    ≡ option_map_or is_stop (cond (not t) (Some x) (find (λ c. not (is_closing c)) back)) (ends_after behind char)
first-if true x back char behind later = later
first-if false x back char behind later = refl

last-if : (t : Bool) (char : ℕ) (behind : Bool) → option_map_or is_stop (cond (not t) (Some char) None) behind ≡ cond t behind (is_stop char)
last-if true char behind = refl
last-if false char behind = refl

-- The last of them counts as what stands behind the others.
first_ends-last : (back : List ℕ) (char : ℕ) (behind : Bool) → first_ends (back ++ char ∷ []) behind ≡ first_ends back (ends_after behind char)
first_ends-last [] char behind = last-if (is_closing char) char behind
first_ends-last (x ∷ back) char behind = first-if (is_closing x) x back char behind (first_ends-last back char behind)

-- One character after another, from any beginning.
ends-from : (text : List ℕ) (before : Bool) → fold ends_after before text ≡ first_ends (reverse text) before
ends-from [] before = refl
ends-from (char ∷ text) before =
    ends-from text (ends_after before char) ∙ sym (first_ends-last (reverse text) char before) ∙ ap (λ back. first_ends back before) (sym (reverse-append (char ∷ []) text))

-- One character after another, from the beginning.
pub ends_sentence-fold : (text : List ℕ) → fold ends_after false text ≡ ends_sentence text
ends_sentence-fold text = ends-from text false

-- A text of one byte of ASCII.
one-ascii : (c : ℕ) → c < 128 → IsAscii (c ∷ [])
one-ascii c low zero = low
one-ascii c low (suc i) = omega (arith, get_or_past (c ∷ []) (suc i) 0 (omega arith))

first-open : (back : List ℕ) (last : ℕ) (before : Bool) → is_closing last ≡ false → first_ends (last ∷ back) before ≡ is_stop last
first-open back last before other = ap (λ t. option_map_or is_stop (cond (not t) (Some last) (find (λ c. not (is_closing c)) back)) before) other

-- A last character of ASCII that is no closing one decides alone.
pub ends-open : (text : List ℕ) (end last : ℕ) (before : Bool) → IsUtf8 text → end + 1 ≡ length text → last ≡ get_or text end 0 → last < 128 → is_closing last ≡ false → fold ends_after before (chars text) ≡ is_stop last
ends-open text end last before utf8 whole is low other =
    let inside : end < length text = omega arith in
    let front = take end text in
    let split : drop end text ≡ last ∷ [] = drop_more text end 0 inside ∙ ap (λ l. get_or text end 0 ∷ l) (drop_all (end + 1) text (omega arith)) ∙ ap (λ c. c ∷ []) (sym is) in
    let here : text ≡ front ++ last ∷ [] = sym (take-append-drop end text) ∙ ap (λ l. front ++ l) split in
    let cut = IsUtf8-take text end utf8 (IsCharBoundary-before_ascii text end inside (omega arith)) in
    let said : chars text ≡ chars front ++ last ∷ [] = ap chars here ∙ chars-append front (last ∷ []) cut ∙ ap (λ l. chars front ++ l) (chars-IsAscii (last ∷ []) (one-ascii last low)) in
    ap (fold ends_after before) said
    ∙ ends-from (chars front ++ last ∷ []) before
    ∙ ap (λ back. first_ends back before) (reverse-append (chars front) (last ∷ []))
    ∙ first-open (reverse (chars front)) last before other
