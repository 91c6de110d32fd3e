-- Notes of a whole text, and of its lines read one by one.
use Rattle.std.specs.Prelude.{◌≡◌, ℕ, Bool, true, false, not, ◌&&◌, ◌||◌, ◌==◌, List, [], ◌∷◌, ◌++◌, Option, Some, None, length, take, drop, replicate, ◌≤◌, ◌+◌, ◌-◌}
use Rattle.std.proofs.Common.{cond, zero, suc, refl, sym, ap, subst, ◌∙◌, append_assoc, inl, inr, arith}
use Rattle.std.proofs.lemmas.Bool.{cases_Bool, and_parts, and_right, or_parts, eqb-true, false≢true}
use Rattle.std.proofs.lemmas.List.{length-append, take_all, take_at, drop_at}
use Rattle.spec_script.specs.Marked.{covered, inside_after, joined, cut_flags, open_at, literal_from, flags_by_line, open_by_line, settled}
use Rattle.spec_script.specs.Notes.{note_turns, has_close, noted, notes}
use Rattle.spec_script.proofs.MarkedLaws.{length-covered, covered-feed}
use Rattle.spec_script.proofs.NoteLaws.{note_lines}

-- The first flags, and false for all others.
abbrev pub first_flags : ℕ → List Bool → List Bool
first_flags n [] = []
first_flags zero (flag ∷ flags) = false ∷ first_flags zero flags
first_flags (suc n) (flag ∷ flags) = flag ∷ first_flags n flags

pub first_flags-is : (n : ℕ) (flags : List Bool) → take n flags ++ replicate (length flags - n) false ≡ first_flags n flags
first_flags-is zero [] = refl
first_flags-is (suc n) [] = ap (λ k. replicate k false) (let none : 0 - suc n ≡ 0 = omega arith in none)
first_flags-is zero (flag ∷ flags) =
    let more : suc (length flags) - 0 ≡ suc (length flags - 0) = omega arith in
    ap (λ k. replicate k false) more ∙ ap (λ (l : List Bool). false ∷ l) (first_flags-is zero flags)
first_flags-is (suc n) (flag ∷ flags) = ap (λ (l : List Bool). flag ∷ l) (ap (λ k. take n flags ++ replicate k false) (let same : suc (length flags) - suc n ≡ length flags - n = omega arith in same) ∙ first_flags-is n flags)

-- The same of the flags from an opening on.
abbrev until : ℕ → Option ℕ → List Bool → List Bool
until at None flags = flags
until at (Some place) flags = first_flags (place - at) flags

until-is : (at : ℕ) (opened : Option ℕ) (flags : List Bool) → literal_from at opened flags ≡ until at opened flags
until-is at None flags = refl
until-is at (Some place) flags = first_flags-is (place - at) flags

-- The opening doesn't stand before the place.
abbrev NotBefore : ℕ → Option ℕ → Type 0
NotBefore at None = Unit {0}
NotBefore at (Some place) = at ≤ place

until-one : (at : ℕ) (opened : Option ℕ) (flag : Bool) (flags : List Bool) → NotBefore (at + 1) opened → until at opened (flag ∷ flags) ≡ flag ∷ until (at + 1) opened flags
until-one at None flag flags h = refl
until-one at (Some place) flag flags h =
    let more : place - at ≡ suc (place - (at + 1)) = omega arith in
    ap (λ n. first_flags n (flag ∷ flags)) more

NotBefore-lower : (low at : ℕ) (opened : Option ℕ) → low ≤ at → NotBefore at opened → NotBefore low opened
NotBefore-lower low at None h p = tt
NotBefore-lower low at (Some place) h p = omega arith

-- Where no close follows, an opening stays open.
open-stays : (opened : Option ℕ) (at : ℕ) (text : List ℕ) → has_close text ≡ false → open_at note_turns true opened at text ≡ opened
open-stays opened at [] none = refl
open-stays opened at (a ∷ []) none = refl
open-stays opened at (a ∷ b ∷ rest) none =
    ap (λ t. cond t (open_at note_turns false None (at + 2) rest) (open_at note_turns true opened (at + 1) (b ∷ rest))) (or_parts _ _ none).0
    ∙ open-stays opened (at + 1) (b ∷ rest) (or_parts _ _ none).1

-- What a text begins with: inside a note that is closed, or outside.
abbrev Begins : Bool → Option ℕ → List ℕ → Type 0
Begins true opened text = has_close text ≡ true
Begins false opened text = opened ≡ None

close-later : (a b : ℕ) (rest : List ℕ) → note_turns true a b ≡ false → has_close (a ∷ b ∷ rest) ≡ true → has_close (b ∷ rest) ≡ true
close-later a b rest t h = sym (ap (λ x. x || has_close (b ∷ rest)) t) ∙ h

-- Then what stays open doesn't begin before the text.
open-later : (inside : Bool) (opened : Option ℕ) (at : ℕ) (text : List ℕ) → Begins inside opened text → NotBefore at (open_at note_turns inside opened at text)
open-later true opened at [] h = absurd (false≢true h)
open-later true opened at (a ∷ []) h = absurd (false≢true h)
open-later true opened at (a ∷ b ∷ rest) h =
    let result : Bool → Option ℕ = λ t. cond t (open_at note_turns false None (at + 2) rest) (open_at note_turns true opened (at + 1) (b ∷ rest)) in
    elim (cases_Bool (note_turns true a b)) [
      | inl t ↦ subst (NotBefore at) (sym (ap result t)) (NotBefore-lower at (at + 2) _ (omega arith) (open-later false None (at + 2) rest refl))
      | inr t ↦ subst (NotBefore at) (sym (ap result t)) (NotBefore-lower at (at + 1) _ (omega arith) (open-later true opened (at + 1) (b ∷ rest) (close-later a b rest t h)))
    ]
open-later false opened at [] h = subst (NotBefore at) (sym h) tt
open-later false opened at (a ∷ []) h = subst (NotBefore at) (sym h) tt
open-later false opened at (a ∷ b ∷ rest) h =
    let result : Bool → Option ℕ = λ t. cond t (open_at note_turns true (Some at) (at + 2) rest) (open_at note_turns false opened (at + 1) (b ∷ rest)) in
    elim (cases_Bool (note_turns false a b)) [
      | inl t ↦ subst (NotBefore at) (sym (ap result t)) (elim (cases_Bool (has_close rest)) [
        | inl close ↦ NotBefore-lower at (at + 2) _ (omega arith) (open-later true (Some at) (at + 2) rest close)
        | inr none ↦ subst (NotBefore at) (sym (open-stays (Some at) (at + 2) rest none)) (let same : at ≤ at = omega arith in same)
      ])
      | inr t ↦ subst (NotBefore at) (sym (ap result t)) (NotBefore-lower at (at + 1) _ (omega arith) (open-later false opened (at + 1) (b ∷ rest) h))
    ]

no_close_behind : (a : ℕ) (rest : List ℕ) → has_close (a ∷ rest) ≡ false → has_close rest ≡ false
no_close_behind a [] none = refl
no_close_behind a (b ∷ rest) none = (or_parts _ _ none).1

-- Where no close stands, nothing is a note.
pub noted-none : (text : List ℕ) → has_close text ≡ false → noted false text ≡ replicate (length text) false
noted-none [] none = refl
noted-none (a ∷ []) none = refl
noted-none (a ∷ b ∷ rest) none =
    let behind = (or_parts _ _ none).1 in
    ap (λ t. cond t (true ∷ true ∷ noted true rest) (false ∷ noted false (b ∷ rest))) (and_right (note_turns false a b) (has_close rest) (no_close_behind b rest behind))
    ∙ ap (λ (l : List Bool). false ∷ l) (noted-none (b ∷ rest) behind)

first_flags-none : (flags : List Bool) → first_flags 0 flags ≡ replicate (length flags) false
first_flags-none [] = refl
first_flags-none (flag ∷ flags) = ap (λ (l : List Bool). false ∷ l) (first_flags-none flags)

until-two : (at : ℕ) (opened : Option ℕ) (flags : List Bool) → NotBefore (at + 2) opened → true ∷ true ∷ until (at + 2) opened flags ≡ until at opened (true ∷ true ∷ flags)
until-two at opened flags h =
    let two : at + 1 + 1 ≡ at + 2 = omega arith in
    ap (λ n. true ∷ true ∷ until n opened flags) (sym two)
    ∙ ap (λ (l : List Bool). true ∷ l) (sym (until-one (at + 1) opened true flags (subst (λ n. NotBefore n opened) (sym two) h)))
    ∙ sym (until-one at opened true (true ∷ flags) (NotBefore-lower (at + 1) (at + 2) opened (omega arith) h))

pub open_no_close : (a b : ℕ) (rest : List ℕ) → note_turns false a b ≡ true → has_close rest ≡ false → has_close (b ∷ rest) ≡ false
open_no_close a b [] t none = refl
open_no_close a b (c ∷ rest) t none =
    let bracket : b ≡ 91 = eqb-true b 91 (and_parts (a == 91) (b == 91) t).1 in
    ap (λ n. ((n == 93) && (c == 93)) || has_close (c ∷ rest)) bracket ∙ none

-- From an opening that is the first byte on, all is literal.
literal_all : (at : ℕ) (flags : List Bool) (n : ℕ) → length flags ≡ n → replicate n false ≡ until at (Some at) flags
literal_all at flags n h =
    let none : at - at ≡ 0 = omega arith in
    ap (λ k. replicate k false) (sym h) ∙ sym (first_flags-none flags) ∙ ap (λ k. first_flags k flags) (sym none)

-- The notes of a text are those of a reading that takes each opening as closed, where the unclosed opening and all
-- behind it are literal. In short: inside a note that is closed later, or outside one.
pub noted-law : (inside : Bool) (opened : Option ℕ) (at : ℕ) (text : List ℕ) → Begins inside opened text → noted inside text ≡ until at (open_at note_turns inside opened at text) (covered note_turns inside text)
noted-law true opened at [] h = absurd (false≢true h)
noted-law true opened at (a ∷ []) h = absurd (false≢true h)
noted-law false opened at [] h = ap (λ o. until at o []) (sym h)
noted-law false opened at (a ∷ []) h = ap (λ o. until at o (false ∷ [])) (sym h)
noted-law true opened at (a ∷ b ∷ rest) h =
    let F : Bool → List Bool = λ t. cond t (true ∷ true ∷ noted false rest) (true ∷ noted true (b ∷ rest)) in
    let R : Bool → List Bool = λ t.
    until at (cond t (open_at note_turns false None (at + 2) rest) (open_at note_turns true opened (at + 1) (b ∷ rest)))
    (cond t (true ∷ true ∷ covered note_turns false rest) (true ∷ covered note_turns true (b ∷ rest))) in
    elim (cases_Bool (note_turns true a b)) [
      | inl t ↦
          ap (λ x. F (x && true)) t
          ∙ ap (λ (l : List Bool). true ∷ true ∷ l) (noted-law false None (at + 2) rest refl)
          ∙ until-two at (open_at note_turns false None (at + 2) rest) (covered note_turns false rest) (open-later false None (at + 2) rest refl)
          ∙ ap R (sym t)
      | inr t ↦
          let later = close-later a b rest t h in
          ap (λ x. F (x && true)) t
          ∙ ap (λ (l : List Bool). true ∷ l) (noted-law true opened (at + 1) (b ∷ rest) later)
          ∙ sym (until-one at (open_at note_turns true opened (at + 1) (b ∷ rest)) true (covered note_turns true (b ∷ rest)) (open-later true opened (at + 1) (b ∷ rest) later))
          ∙ ap R (sym t)
    ]
noted-law false opened at (a ∷ b ∷ rest) h =
    let F : Bool → List Bool = λ t. cond t (true ∷ true ∷ noted true rest) (false ∷ noted false (b ∷ rest)) in
    let R : Bool → List Bool = λ t.
    until at (cond t (open_at note_turns true (Some at) (at + 2) rest) (open_at note_turns false opened (at + 1) (b ∷ rest)))
    (cond t (true ∷ true ∷ covered note_turns true rest) (false ∷ covered note_turns false (b ∷ rest))) in
    elim (cases_Bool (note_turns false a b)) [
      | inl t ↦ elim (cases_Bool (has_close rest)) [
        | inl close ↦
            ap (λ x. F (x && has_close rest)) t ∙ ap F close
            ∙ ap (λ (l : List Bool). true ∷ true ∷ l) (noted-law true (Some at) (at + 2) rest close)
            ∙ until-two at (open_at note_turns true (Some at) (at + 2) rest) (covered note_turns true rest) (open-later true (Some at) (at + 2) rest close)
            ∙ ap R (sym t)
        | inr none ↦
            ap (λ x. F (x && has_close rest)) t ∙ ap F none
            ∙ ap (λ (l : List Bool). false ∷ l) (noted-none (b ∷ rest) (open_no_close a b rest t none))
            ∙ literal_all at (true ∷ true ∷ covered note_turns true rest) (suc (suc (length rest))) (ap (λ n. suc (suc n)) (length-covered note_turns true rest))
            ∙ ap (λ o. until at o (true ∷ true ∷ covered note_turns true rest)) (sym (open-stays (Some at) (at + 2) rest none))
            ∙ ap R (sym t)
      ]
      | inr t ↦
          ap (λ x. F (x && has_close rest)) t
          ∙ ap (λ (l : List Bool). false ∷ l) (noted-law false opened (at + 1) (b ∷ rest) h)
          ∙ sym (until-one at (open_at note_turns false opened (at + 1) (b ∷ rest)) false (covered note_turns false (b ∷ rest)) (open-later false opened (at + 1) (b ∷ rest) h))
          ∙ ap R (sym t)
    ]

-- The notes of a text: the greedy reading, where all from an unclosed opening on is literal.
pub noted-greedy : (text : List ℕ) → noted false text ≡ literal_from 0 (open_at note_turns false None 0 text) (covered note_turns false text)
noted-greedy text = noted-law false None 0 text refl ∙ sym (until-is 0 (open_at note_turns false None 0 text) (covered note_turns false text))

pub take-first_flags : (n k : ℕ) (flags : List Bool) → take n (first_flags k flags) ≡ first_flags k (take n flags)
take-first_flags zero k flags = refl
take-first_flags (suc n) zero [] = refl
take-first_flags (suc n) (suc k) [] = refl
take-first_flags (suc n) zero (flag ∷ flags) = ap (λ (l : List Bool). false ∷ l) (take-first_flags n zero flags)
take-first_flags (suc n) (suc k) (flag ∷ flags) = ap (λ (l : List Bool). flag ∷ l) (take-first_flags n k flags)

pub drop-first_flags : (n k : ℕ) (flags : List Bool) → drop n (first_flags k flags) ≡ first_flags (k - n) (drop n flags)
drop-first_flags zero k flags = ap (λ m. first_flags m flags) (let same : k ≡ k - 0 = omega arith in same)
drop-first_flags (suc n) zero [] = refl
drop-first_flags (suc n) (suc k) [] = refl
drop-first_flags (suc n) zero (flag ∷ flags) =
    drop-first_flags n zero flags ∙ ap (λ m. first_flags m (drop n flags)) (let same : 0 - n ≡ 0 - suc n = omega arith in same)
drop-first_flags (suc n) (suc k) (flag ∷ flags) =
    drop-first_flags n k flags ∙ ap (λ m. first_flags m (drop n flags)) (let same : k - n ≡ suc k - suc n = omega arith in same)

take-until : (n at : ℕ) (opened : Option ℕ) (flags : List Bool) → take n (until at opened flags) ≡ until at opened (take n flags)
take-until n at None flags = refl
take-until n at (Some place) flags = take-first_flags n (place - at) flags

drop-until : (n at : ℕ) (opened : Option ℕ) (flags : List Bool) → drop n (until at opened flags) ≡ until (at + n) opened (drop n flags)
drop-until n at None flags = refl
drop-until n at (Some place) flags =
    drop-first_flags n (place - at) flags ∙ ap (λ m. first_flags m (drop n flags)) (let same : place - at - n ≡ place - (at + n) = omega arith in same)

-- What follows a line feed keeps the opening that the line leaves.
open_one : (inside : Bool) (opened : Option ℕ) (at : ℕ) (rest : List ℕ) → open_at note_turns inside opened at (10 ∷ rest) ≡ open_at note_turns inside opened (at + 1) rest
open_one inside opened at [] = refl
open_one inside opened at (b ∷ rest) =
    ap (λ t. cond t (open_at note_turns (not inside) (cond inside None (Some at)) (at + 2) rest) (open_at note_turns inside opened (at + 1) (b ∷ rest))) (note_lines.after inside b)

open_at-feed : (inside : Bool) (opened : Option ℕ) (at : ℕ) (line rest : List ℕ) → open_at note_turns inside opened at (line ++ 10 ∷ rest) ≡ open_at note_turns (inside_after note_turns inside line) (open_at note_turns inside opened at line) (at + length line + 1) rest
open_at-feed inside opened at [] rest =
    open_one inside opened at rest ∙ ap (λ n. open_at note_turns inside opened n rest) (let same : at + 1 ≡ at + 0 + 1 = omega arith in same)
open_at-feed inside opened at (a ∷ []) rest =
    ap (λ t. cond t (open_at note_turns (not inside) (cond inside None (Some at)) (at + 2) rest) (open_at note_turns inside opened (at + 1) (10 ∷ rest))) (note_lines.before inside a)
    ∙ open_one inside opened (at + 1) rest
open_at-feed inside opened at (a ∷ b ∷ line) rest =
    let next : Option ℕ = cond inside None (Some at) in
    open_step (note_turns inside a b) (open_at note_turns (not inside) next (at + 2) (line ++ 10 ∷ rest)) (open_at note_turns inside opened (at + 1) (b ∷ line ++ 10 ∷ rest))
    (inside_after note_turns (not inside) line) (inside_after note_turns inside (b ∷ line))
    (open_at note_turns (not inside) next (at + 2) line) (open_at note_turns inside opened (at + 1) (b ∷ line)) (at + suc (suc (length line)) + 1) rest
    (open_at-feed (not inside) next (at + 2) line rest ∙ ap (λ n. open_at note_turns (inside_after note_turns (not inside) line) (open_at note_turns (not inside) next (at + 2) line) n rest) (let same : at + 2 + length line + 1 ≡ at + suc (suc (length line)) + 1 = omega arith in same))
    (open_at-feed inside opened (at + 1) (b ∷ line) rest ∙ ap (λ n. open_at note_turns (inside_after note_turns inside (b ∷ line)) (open_at note_turns inside opened (at + 1) (b ∷ line)) n rest) (let same : at + 1 + suc (length line) + 1 ≡ at + suc (suc (length line)) + 1 = omega arith in same))
  where
    open_step : (t : Bool) (x y : Option ℕ) (i j : Bool) (o p : Option ℕ) (n : ℕ) (rest : List ℕ) → x ≡ open_at note_turns i o n rest → y ≡ open_at note_turns j p n rest → cond t x y ≡ open_at note_turns (cond t i j) (cond t o p) n rest
    open_step true x y i j o p n rest e f = e
    open_step false x y i j o p n rest e f = f

open-joined : (inside : Bool) (opened : Option ℕ) (at : ℕ) (lines : List (List ℕ)) → open_at note_turns inside opened at (joined lines) ≡ open_by_line note_turns inside opened at lines
open-joined inside opened at [] = refl
open-joined inside opened at (line ∷ []) = refl
open-joined inside opened at (line ∷ next ∷ lines) =
    open_at-feed inside opened at line (joined (next ∷ lines))
    ∙ open-joined (inside_after note_turns inside line) (open_at note_turns inside opened at line) (at + length line + 1) (next ∷ lines)

settled-covered : (inside : Bool) (opened : Option ℕ) (at : ℕ) (lines : List (List ℕ)) → cut_flags lines (until at opened (covered note_turns inside (joined lines))) ≡ settled at opened (flags_by_line note_turns inside lines)
settled-covered inside opened at [] = refl
settled-covered inside opened at (line ∷ []) =
    let here = covered note_turns inside line in
    ap (λ (l : List Bool). l ∷ []) (take-until (length line) at opened here ∙ ap (until at opened) (take_all (length line) here (omega (arith, length-covered note_turns inside line))) ∙ sym (until-is at opened here))
settled-covered inside opened at (line ∷ next ∷ lines) =
    let here = covered note_turns inside line in
    let state = inside_after note_turns inside line in
    let rest = covered note_turns state (joined (next ∷ lines)) in
    let same = length-covered note_turns inside line in
    let further : List Bool = state ∷ rest in
    let one : length (here ++ state ∷ []) ≡ length line + 1 = length-append here (state ∷ []) ∙ ap (λ n. n + 1) same in
    let gone = take-until (length line) at opened (here ++ further) ∙ ap (until at opened) (take_at here further (length line) same) ∙ sym (until-is at opened here) in
    let places : at + (length line + 1) ≡ at + length here + 1 = omega arith in
    let left =
    drop-until (length line + 1) at opened (here ++ further)
    ∙ ap (until (at + (length line + 1)) opened) (ap (drop (length line + 1)) (sym (append_assoc here (state ∷ []) rest)) ∙ drop_at (here ++ state ∷ []) rest (length line + 1) one)
    ∙ ap (λ n. until n opened rest) places in
    ap (λ l. cut_flags (line ∷ next ∷ lines) (until at opened l)) (covered-feed note_turns note_lines inside line (joined (next ∷ lines)))
    ∙ ap (λ (l : List Bool). l ∷ cut_flags (next ∷ lines) (drop (length line + 1) (until at opened (here ++ further)))) gone
    ∙ ap (λ l. literal_from at opened here ∷ cut_flags (next ∷ lines) l) left
    ∙ ap (λ (l : List (List Bool)). literal_from at opened here ∷ l) (settled-covered state opened (at + length here + 1) (next ∷ lines))

-- Reading line after line, and settling the opening left at the end, finds the notes of a stanza in each line.
pub notes-line_by_line : (lines : List (List ℕ)) → notes lines ≡ settled 0 (open_by_line note_turns false None 0 lines) (flags_by_line note_turns false lines)
notes-line_by_line lines =
    ap (cut_flags lines) (noted-law false None 0 (joined lines) refl ∙ ap (λ o. until 0 o (covered note_turns false (joined lines))) (open-joined false None 0 lines))
    ∙ settled-covered false (open_by_line note_turns false None 0 lines) 0 lines
