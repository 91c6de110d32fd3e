-- Where in a text a list of its stanzas leads.
use Rattle.std.proofs.Common.{◌≡◌, ℕ, ◌+◌, ◌<◌, ◌≤◌, List, [], ◌∷◌, ◌++◌, length, refl, sym, ap, subst, ◌∙◌, inl, inr, arith}
use Rattle.std.proofs.lemmas.Bool.{cases_lt}
use Rattle.std.proofs.lemmas.List.{append_cancel_right}
use Rattle.std.proofs.lemmas.List.Sums.{sum_by-cons}
use Rattle.spec_script.specs.BlockValues.{StanzaOf}
use Rattle.spec_script.specs.Stanzas.{IsFresh, stanza_at, stanzas_from, stanzas_of}
use Rattle.spec_script.proofs.StanzaList.{stanza-leads_on, stanzas-end}
use Rattle.spec_edit.specs.Windows.{IsCut, IsFreshPoint, HasFrom, stanza_lines_in, stanzas_between}
use Rattle.spec_edit.proofs.Splits.{split}

abbrev lines_of : StanzaOf → ℕ
lines_of s = s.lines

-- Behind a stanza the next begins, or the text ends.
pub next-cut : (texts : List (List ℕ)) (p : ℕ) → p < length texts → IsCut texts (p + (stanza_at texts p).lines)
next-cut texts p low =
    let leads = stanza-leads_on texts p low in
    elim (cases_lt (p + (stanza_at texts p).lines) (length texts)) [
      | inl less ↦ inl (leads.fresh less)
      | inr end ↦ inr (omega (arith, end, leads.within))
    ]

pub at_place : (texts : List (List ℕ)) (p : ℕ) (xs ys : List StanzaOf) → HasFrom texts p (xs ++ ys) → HasFrom texts (p + stanza_lines_in xs) ys
at_place texts p [] ys has =
    let same : p ≡ p + 0 = omega arith in subst (λ q. HasFrom texts q ys) same has
at_place texts p (x ∷ xs) ys has =
    elim (cases_lt p (length texts)) [
      | inr end ↦
          let none : [] ≡ x ∷ (xs ++ ys) = sym (stanzas-end texts p end) ∙ has.are in cc (none)
      | inl low ↦
          let leads = stanza-leads_on texts p low in
          let both : stanza_at texts p ∷ stanzas_from texts (p + (stanza_at texts p).lines) ≡ x ∷ (xs ++ ys) = sym leads.rest ∙ has.are in
          let here : stanza_at texts p ≡ x = cc (both) in
          let rest : stanzas_from texts (p + (stanza_at texts p).lines) ≡ xs ++ ys = cc (both) in
          let next : HasFrom texts (p + (stanza_at texts p).lines) (xs ++ ys) = record { cut = next-cut texts p low; low = leads.within; are = rest } in
          let sum : p + (stanza_at texts p).lines + stanza_lines_in xs ≡ p + stanza_lines_in (x ∷ xs) =
          omega (arith, sum_by-cons lines_of x xs, ap lines_of here) in
          subst (λ q. HasFrom texts q ys) sum (at_place texts (p + (stanza_at texts p).lines) xs ys next)
    ]

-- The text's whole list.
pub has-all : (texts : List (List ℕ)) (stanzas : List StanzaOf) → stanzas ≡ stanzas_of texts → HasFrom texts 0 stanzas
has-all texts stanzas all = record { cut = inl (inl refl); low = omega arith; are = sym all }

-- The stanzas before a place are those between.
pub front-between : (texts : List (List ℕ)) (p q : ℕ) (xs ys : List StanzaOf) → p ≤ q → stanzas_from texts p ≡ xs ++ ys → HasFrom texts q ys → xs ≡ stanzas_between texts p q
front-between texts p q xs ys order are has =
    append_cancel_right xs (stanzas_between texts p q) ys
    (sym are ∙ split texts p q order has.cut ∙ ap (λ zs. stanzas_between texts p q ++ zs) has.are)

pub point-fresh : (texts : List (List ℕ)) (p : ℕ) → IsFreshPoint texts p → IsFresh texts p
point-fresh texts p (inl z) = inl z
point-fresh texts p (inr h) = h.1
