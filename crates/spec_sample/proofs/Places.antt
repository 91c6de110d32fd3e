-- Edits at a place of a text, by the lines before it and those from it on.
use Rattle.std.proofs.Common.{◌≡◌, ℕ, suc, ◌+◌, ◌<◌, ◌≤◌, Bool, true, false, not, ◌&&◌, ◌||◌, cond, leb, ltb, le-ltb, lt-ltb, Option, Some, None, List, [], ◌∷◌, ◌++◌, length, take, drop, get_or, map, refl, sym, ap, ap₂, ◌∙◌, arith, length-append, length-drop, subst}
use Rattle.std.specs.Prelude.{All, sum_by, slice_index}
use Rattle.std.specs.List.{list_any, list_all}
use Rattle.std.specs.Str.{chars}
use Rattle.std.proofs.lemmas.Bool.{and_from, or_from, le-leb}
use Rattle.std.proofs.lemmas.List.Elements.{All-nil, All-cons, All-head, All-tail}
use Rattle.std.proofs.lemmas.List.{length-map}
use Rattle.std.proofs.lemmas.List.Sums.{sum_by-append, sum_by-cons, sum_by-take-drop}
use Rattle.std.proofs.lemmas.Str.{IsUtf8-append, chars-append}
use Rattle.std.proofs.lemmas.List.Folds.{list_all-append}
use Rattle.spec_text.specs.Limits.{line_count_limit, line_limit, size_limit, id_limit}
use Rattle.spec_text.specs.Lines.{LineState, TextState, IsText, IsClean, is_end, is_kept, is_long, is_too_much, line_size, line_text, line_texts, lines_from}
use Rattle.spec_text.specs.Edits.{EditOf, replace, splice, Refusal, range, boundary, line_break, line_full, text_full, ids_spent, Replacement, replacement_of, exchanged, text_at, is_within, is_between, is_boundary, has_break, new_ids, refusal_of_lines, refusal_of, changed}
use Rattle.spec_text.proofs.EditLaws.{line_texts-changed, IsText-changed}
use Rattle.spec_text.proofs.TextLaws.{line_text-IsClean, IsClean-no_end}

-- ---- lists

take-front : {X : Type 0} (front back : List X) → take (length front) (front ++ back) ≡ front
take-front [] back = refl
take-front (x ∷ front) back = ap (λ xs. x ∷ xs) (take-front front back)

drop-front : {X : Type 0} (front back : List X) (more : ℕ) → drop (length front + more) (front ++ back) ≡ drop more back
drop-front [] back more = let e : 0 + more ≡ more = omega arith in ap (λ n. drop n back) e
drop-front (x ∷ front) back more =
    let e : suc (length front) + more ≡ suc (length front + more) = omega arith in
    ap (λ n. drop n (x ∷ (front ++ back))) e ∙ drop-front front back more

pub at-front : {X : Type 0} (front back : List X) (x d : X) → get_or (front ++ (x ∷ back)) (length front) d ≡ x
at-front [] back x d = refl
at-front (y ∷ front) back x d = at-front front back x d

-- What an exchange at a place makes of the lines before it and those from it on.
exchanged-at : {X : Type 0} (front back : List X) (first old : ℕ) (new : List X) → first ≡ length front → exchanged (front ++ back) first old new ≡ front ++ (new ++ drop old back)
exchanged-at front back first old new is =
    ap (λ n. exchanged (front ++ back) n old new) is
    ∙ ap₂ (λ xs ys. xs ++ (new ++ ys)) (take-front front back) (drop-front front back old)

-- ---- what a text comes to

-- A text with these lines, so few lines and bytes.
pub record Holds (lines bytes : ℕ) (texts : List (List ℕ)) (text : TextState) : Type 0 where
  pub is_text : IsText text
  pub texts_are : line_texts text.lines ≡ texts
  pub count : length texts ≤ lines
  pub size : sum_by line_size texts ≤ bytes
  pub next : text.next ≤ lines

-- An edit that nothing refuses, and what it makes of the text.
pub record Takes (text : TextState) (it : EditOf) (lines bytes : ℕ) (texts : List (List ℕ)) : Type 0 where
  pub free : refusal_of text it ≡ None
  pub holds : (round : ℕ) → Holds lines bytes texts (changed text (replacement_of text.lines it) round)

-- ---- an edit that keeps the limits

limits-free : (text : TextState) (it : Replacement) → list_any is_long it.texts ≡ false → length (exchanged (line_texts text.lines) it.first it.old it.texts) ≤ line_count_limit
    → sum_by line_size (exchanged (line_texts text.lines) it.first it.old it.texts) ≤ size_limit → text.next + new_ids it ≤ id_limit → refusal_of_lines text it ≡ None
limits-free text it short few small ids =
    let texts = exchanged (line_texts text.lines) it.first it.old it.texts in
    let last : Option Refusal = cond (ltb id_limit (text.next + new_ids it)) (Some ids_spent) None in
    let fits : is_too_much texts ≡ false = or_from (ltb line_count_limit (length texts)) (ltb size_limit (sum_by line_size texts)) (le-ltb line_count_limit (length texts) few) (le-ltb size_limit (sum_by line_size texts) small) in
    ap (λ b. cond b (Some line_full) (cond (is_too_much texts) (Some text_full) last)) short
    ∙ ap (λ b. cond b (Some text_full) last) fits
    ∙ ap (λ b. let o : Option Refusal = cond b (Some ids_spent) None in o) (le-ltb id_limit (text.next + new_ids it) ids)

free-edit : (text : TextState) (it : EditOf) → is_within text.lines it ≡ true → is_between text.lines it ≡ true → has_break it ≡ false → refusal_of_lines text (replacement_of text.lines it) ≡ None → refusal_of text it ≡ None
free-edit text it within between unbroken limits =
    let rest = refusal_of_lines text (replacement_of text.lines it) in
    ap (λ b. cond (not b) (Some range) (cond (not (is_between text.lines it)) (Some boundary) (cond (has_break it) (Some line_break) rest))) within
    ∙ ap (λ b. cond (not b) (Some boundary) (cond (has_break it) (Some line_break) rest)) between
    ∙ ap (λ b. cond b (Some line_break) rest) unbroken
    ∙ limits

none-long : (texts : List (List ℕ)) → All (λ (t : List ℕ). length t ≤ line_limit) texts → list_any is_long texts ≡ false
none-long [] all = refl
none-long (text ∷ texts) all =
    or_from (is_long text) (list_any is_long texts) (le-ltb line_limit (length text) (All-head (λ (t : List ℕ). length t ≤ line_limit) text texts all))
    (none-long texts (All-tail (λ (t : List ℕ). length t ≤ line_limit) text texts all))

none-broken : (texts : List (List ℕ)) → All IsClean texts → list_any (list_any is_end) texts ≡ false
none-broken [] all = refl
none-broken (text ∷ texts) all =
    or_from (list_any is_end text) (list_any (list_any is_end) texts) (IsClean-no_end text (All-head IsClean text texts all)) (none-broken texts (All-tail IsClean text texts all))

same-texts : (texts : List (List ℕ)) → All IsClean texts → map line_text texts ≡ texts
same-texts [] all = refl
same-texts (text ∷ texts) all = ap₂ (λ (t : List ℕ) (ts : List (List ℕ)). t ∷ ts) (line_text-IsClean text (All-head IsClean text texts all)) (same-texts texts (All-tail IsClean text texts all))

-- ---- an edit by what it puts at a place

-- The exchange at a place of a text.
record At (lines bytes first old : ℕ) (front back new : List (List ℕ)) (text : TextState) : Type 0 where
  holds : Holds lines bytes (front ++ back) text
  place : first ≡ length front
  inside : old ≤ length back
  clean : All IsClean new
  short : All (λ (t : List ℕ). length t ≤ line_limit) new
  few : lines + length new ≤ line_count_limit
  small : bytes + sum_by line_size new ≤ size_limit

abbrev put_at : ℕ → ℕ → List (List ℕ) → Replacement
put_at first old new = record { first = first; old = old; texts = new }

after-put : (lines bytes first old : ℕ) (front back new : List (List ℕ)) (text : TextState) → At lines bytes first old front back new text
    → exchanged (line_texts text.lines) first old new ≡ front ++ (new ++ drop old back)
after-put lines bytes first old front back new text at =
    ap (λ (ts : List (List ℕ)). exchanged ts first old new) at.holds.texts_are ∙ exchanged-at front back first old new at.place

count-put : (lines bytes first old : ℕ) (front back new : List (List ℕ)) (text : TextState) → At lines bytes first old front back new text
    → length (front ++ (new ++ drop old back)) ≤ lines + length new
count-put lines bytes first old front back new text at =
    let holds = at.holds in
    let count = holds.count in
    omega (arith, length-append front (new ++ drop old back), length-append new (drop old back), length-append front back, length-drop old back, count)

size-put : (lines bytes first old : ℕ) (front back new : List (List ℕ)) (text : TextState) → At lines bytes first old front back new text
    → sum_by line_size (front ++ (new ++ drop old back)) ≤ bytes + sum_by line_size new
size-put lines bytes first old front back new text at =
    let holds = at.holds in
    let size = holds.size in
    omega (arith, sum_by-append line_size front (new ++ drop old back), sum_by-append line_size new (drop old back), sum_by-append line_size front back, sum_by-take-drop line_size back old, size)

limits-put : (lines bytes first old : ℕ) (front back new : List (List ℕ)) (text : TextState) → At lines bytes first old front back new text → refusal_of_lines text (put_at first old new) ≡ None
limits-put lines bytes first old front back new text at =
    let holds = at.holds in
    let next = holds.next in
    let few = at.few in
    let small = at.small in
    let made = after-put lines bytes first old front back new text at in
    let count = count-put lines bytes first old front back new text at in
    let size = size-put lines bytes first old front back new text at in
    limits-free text (put_at first old new) (none-long new at.short)
    (subst (λ (ts : List (List ℕ)). length ts ≤ line_count_limit) (sym made) (omega (arith, count, few)))
    (subst (λ (ts : List (List ℕ)). sum_by line_size ts ≤ size_limit) (sym made) (omega (arith, size, small)))
    (omega (arith, next, few))

holds-put : (lines bytes first old : ℕ) (front back new : List (List ℕ)) (text : TextState) (round : ℕ) → At lines bytes first old front back new text
    → Holds (lines + length new) (bytes + sum_by line_size new) (front ++ (new ++ drop old back)) (changed text (put_at first old new) round)
holds-put lines bytes first old front back new text round at =
    let holds = at.holds in
    let next = holds.next in
    let place = at.place in
    let inside = at.inside in
    let whole = ap length holds.texts_are in
    record {
      is_text = IsText-changed text (put_at first old new) round holds.is_text
          (omega (arith, place, inside, whole, length-append front back, length-map text.lines (λ (line : LineState). line.text))) at.clean
          (limits-put lines bytes first old front back new text at);
      texts_are = line_texts-changed text (put_at first old new) round ∙ after-put lines bytes first old front back new text at;
      count = count-put lines bytes first old front back new text at;
      size = size-put lines bytes first old front back new text at;
      next = omega (arith, next);
    }

takes-put : (lines bytes first old : ℕ) (front back new : List (List ℕ)) (text : TextState) (it : EditOf) → At lines bytes first old front back new text
    → replacement_of text.lines it ≡ put_at first old new → is_within text.lines it ≡ true → is_between text.lines it ≡ true → has_break it ≡ false
    → Takes text it (lines + length new) (bytes + sum_by line_size new) (front ++ (new ++ drop old back))
takes-put lines bytes first old front back new text it at same within between unbroken = record {
  free = free-edit text it within between unbroken (subst (λ (r : Replacement). refusal_of_lines text r ≡ None) (sym same) (limits-put lines bytes first old front back new text at));
  holds = λ round. subst (λ (r : Replacement). Holds (lines + length new) (bytes + sum_by line_size new) (front ++ (new ++ drop old back)) (changed text r round)) (sym same)
      (holds-put lines bytes first old front back new text round at);
}

-- ---- lines that are put before a place

pub put-before : (text : TextState) (lines bytes first : ℕ) (front back new : List (List ℕ)) → Holds lines bytes (front ++ back) text → first ≡ length front → All IsClean new
    → All (λ (t : List ℕ). length t ≤ line_limit) new → lines + length new ≤ line_count_limit → bytes + sum_by line_size new ≤ size_limit
    → Takes text (replace first 0 new) (lines + length new) (bytes + sum_by line_size new) (front ++ (new ++ back))
put-before text lines bytes first front back new holds place clean short few small =
    let whole = ap length holds.texts_are in
    let at : At lines bytes first 0 front back new text = record { holds = holds; place = place; inside = omega arith; clean = clean; short = short; few = few; small = small } in
    takes-put lines bytes first 0 front back new text (replace first 0 new) at (ap (put_at first 0) (same-texts new clean))
    (le-leb (first + 0) (length text.lines) (omega (arith, place, whole, length-append front back, length-map text.lines (λ (line : LineState). line.text))))
    refl (none-broken new clean)

-- ---- a text that is put at the front of a line

pub put-in : (text : TextState) (lines bytes first : ℕ) (front back : List (List ℕ)) (line new : List ℕ) → Holds lines bytes (front ++ (line ∷ back)) text → first ≡ length front → IsClean new → IsClean line
    → length new + length line ≤ line_limit → slice_index line 0 < 128 → lines + 1 ≤ line_count_limit → bytes + (length new + length line + 1) ≤ size_limit
    → Takes text (splice first 0 0 new) (lines + 1) (bytes + (length new + length line + 1)) (front ++ ((new ++ line) ∷ back))
put-in text lines bytes first front back line new holds place clean own short low few small =
    let whole = ap length holds.texts_are in
    let texts = line_texts text.lines in
    let size = sum_by-cons line_size (new ++ line) [] in
    let long = length-append new line in
    let both : All IsClean ((new ++ line) ∷ []) = All-cons IsClean (new ++ line) [] (clean-both new line clean own) (All-nil IsClean) in
    let at : At lines bytes first 1 front (line ∷ back) ((new ++ line) ∷ []) text = record {
      holds = holds;
      place = place;
      inside = omega arith;
      clean = both;
      short = All-cons (λ (t : List ℕ). length t ≤ line_limit) (new ++ line) [] (omega (arith, long, short)) (All-nil (λ (t : List ℕ). length t ≤ line_limit));
      few = few;
      small = omega (arith, size, long, small);
    } in
    let here : text_at text.lines first ≡ line =
    ap (λ (ts : List (List ℕ)). get_or ts first []) holds.texts_are ∙ ap (λ n. get_or (front ++ (line ∷ back)) n []) place ∙ at-front front back line [] in
    let same : replacement_of text.lines (splice first 0 0 new) ≡ put_at first 1 ((new ++ line) ∷ []) =
    ap₂ (λ (t l : List ℕ). put_at first 1 ((t ++ l) ∷ [])) (line_text-IsClean new clean) here in
    let inside : first < length text.lines = omega (arith, place, whole, length-append front (line ∷ back), length-map text.lines (λ (line : LineState). line.text)) in
    let edge : is_boundary (text_at text.lines first) 0 ≡ true =
    ap (λ (l : List ℕ). is_boundary l 0) here ∙ edge-front line low in
    let all : bytes + sum_by line_size ((new ++ line) ∷ []) ≡ bytes + (length new + length line + 1) = omega (arith, size, long) in
    subst (λ n. Takes text (splice first 0 0 new) (lines + 1) n (front ++ ((new ++ line) ∷ back))) all
    (takes-put lines bytes first 1 front (line ∷ back) ((new ++ line) ∷ []) text (splice first 0 0 new) at same
    (and-both (lt-ltb first (length text.lines) inside) (le-leb 0 (length (text_at text.lines first)) (omega arith)))
    (ap₂ (λ a b. a && b) edge edge) (IsClean-no_end new clean))
  where
    and-both : {a b : Bool} → a ≡ true → b ≡ true → (a && (true && b)) ≡ true
    and-both is also = ap₂ (λ a b. a && (true && b)) is also

    or-true : (b : Bool) → (b || true) ≡ true
    or-true true = refl
    or-true false = refl

    edge-front : (line : List ℕ) → slice_index line 0 < 128 → is_boundary line 0 ≡ true
    edge-front line low =
        ap (λ b. leb (length line) 0 || (b || leb 192 (slice_index line 0))) (lt-ltb (slice_index line 0) 128 low) ∙ or-true (leb (length line) 0)

    clean-both : (one other : List ℕ) → IsClean one → IsClean other → IsClean (one ++ other)
    clean-both one other a b = record { utf8 = IsUtf8-append one other a.utf8 b.utf8; kept = ap (list_all is_kept) (chars-append one other a.utf8) ∙ list_all-append is_kept (chars one) (chars other) ∙ and_from (list_all is_kept (chars one)) (list_all is_kept (chars other)) a.kept b.kept }

-- The texts of lines that were read.
pub texts-read : (id : ℕ) (texts : List (List ℕ)) → line_texts (lines_from id texts) ≡ texts
texts-read id [] = refl
texts-read id (text ∷ texts) = ap (λ (ts : List (List ℕ)). text ∷ ts) (texts-read (id + 1) texts)
