-- Labels and the names of rounds have no `&`, `<` or `>`, so they are the same in HTML.
use Rattle.std.proofs.Common.{◌≡◌, ◌≢◌, ℕ, zero, suc, ◌==◌, ◌&&◌, Bool, true, false, not, cond, List, [], ◌∷◌, ◌++◌, refl, ap, ◌∙◌, arith}
use Rattle.std.specs.Prelude.{codes}
use Rattle.std.specs.List.{list_all}
use Rattle.std.proofs.lemmas.Bool.{and_from, and_parts, ne_eqb}
use Rattle.std.proofs.lemmas.List.Elements.{All-weaker}
use Rattle.std.proofs.lemmas.List.Folds.{list_all-append}
use Rattle.std.proofs.lemmas.List.Sums.{list_all-from_AllPass}
use Rattle.spec_labels.specs.Labels.{LabelOf, label_text}
use Rattle.spec_labels.proofs.LabelBytes.{IsLabelByte, label-bytes}
use Rattle.spec_sheets.specs.RowBytes.{spaces, untabbed}
use Rattle.spec_sheets.specs.Rounds.{round_name}
use Rattle.spec_sheets.proofs.RoundBytes.{IsRoundByte, round-name}
use Rattle.spec_html.specs.HtmlSheets.{escaped}

-- The byte is none of the three that are escaped.
abbrev pub is_plain : ℕ → Bool
is_plain b = not (b == 38) && (not (b == 60) && not (b == 62))

none-of : (b : ℕ) → b ≢ 38 → b ≢ 60 → b ≢ 62 → is_plain b ≡ true
none-of b ampersand less greater =
    ap (λ t. not t && (not (b == 60) && not (b == 62))) (ne_eqb b 38 ampersand)
    ∙ ap (λ t. not t && not (b == 62)) (ne_eqb b 60 less) ∙ ap not (ne_eqb b 62 greater)

-- The text has none of the three.
pub record IsPlain (text : List ℕ) : Type 0 where
  pub each : list_all is_plain text ≡ true

pub append : (xs ys : List ℕ) → IsPlain xs → IsPlain ys → IsPlain (xs ++ ys)
append xs ys first second = record { each = list_all-append is_plain xs ys ∙ and_from (list_all is_plain xs) (list_all is_plain ys) first.each second.each }

pub label : (it : LabelOf) → IsPlain (label_text it)
label it =
    let byte = λ (b : ℕ) (is : IsLabelByte b). none-of b (λ e. let low = is.low in omega (arith, e, low)) is.less is.greater in
    record { each = list_all-from_AllPass is_plain (label_text it) (All-weaker IsLabelByte (λ b. is_plain b ≡ true) byte (label_text it) (label-bytes it)) }

pub round : (n : ℕ) → IsPlain (round_name n)
round n =
    let byte = λ (b : ℕ) (is : IsRoundByte b). none-of b is.ampersand is.less is.greater in
    record { each = list_all-from_AllPass is_plain (round_name n) (All-weaker IsRoundByte (λ b. is_plain b ≡ true) byte (round_name n) (round-name n).bytes) }

-- Plain text is the same in HTML.
byte-same : (b : ℕ) (x y z : Bool) → not x && (not y && not z) ≡ true → cond x (codes "&amp;") (cond y (codes "&lt;") (cond z (codes "&gt;") (b ∷ []))) ≡ b ∷ []
byte-same b false false false is = refl
byte-same b true y z is = cc
byte-same b false true z is = cc
byte-same b false false true is = cc

untabbed-byte : (b : ℕ) (t : Bool) → is_plain b ≡ true → IsPlain (cond t (spaces 4) (b ∷ []))
untabbed-byte b true is = record { each = refl }
untabbed-byte b false is = record { each = and_from (is_plain b) true is refl }

pub untabbed-plain : (text : List ℕ) → IsPlain text → IsPlain (untabbed text)
untabbed-plain [] is = record { each = refl }
untabbed-plain (b ∷ text) is =
    let parts = and_parts (is_plain b) (list_all is_plain text) is.each in
    append (cond (b == 9) (spaces 4) (b ∷ [])) (untabbed text) (untabbed-byte b (b == 9) parts.0) (untabbed-plain text (record { each = parts.1 }))

pub escaped-plain : (text : List ℕ) → IsPlain text → escaped text ≡ text
escaped-plain [] is = refl
escaped-plain (b ∷ text) is =
    let parts = and_parts (is_plain b) (list_all is_plain text) is.each in
    ap (λ xs. xs ++ escaped text) (byte-same b (b == 38) (b == 60) (b == 62) parts.0) ∙ ap (λ xs. b ∷ xs) (escaped-plain text (record { each = parts.1 }))

pub spaces-plain : (n : ℕ) → IsPlain (spaces n)
spaces-plain zero = record { each = refl }
spaces-plain (suc n) = record { each = (spaces-plain n).each }
