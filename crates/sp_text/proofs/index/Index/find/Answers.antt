use Rattle.std.proofs.Common.{◌≡◌, List, get_or, ap, sym, ◌∙◌, subst, inl, inr}
use Rattle.sp_text.specs.declared.index.Entry.{Entry}
use Rattle.sp_text.specs.declared.index.Kind.TheVariants.{Free, Gone, Held}
use Rattle.sp_text.specs.Index.{IsIndex, HasId, HoldsNone}
use Rattle.sp_text.proofs.Tables.{HoldsNone-at, HoldsNone-absent}
use Rattle.sp_text.proofs.index.Index.find.Goals as goal

pub returns-in-Open : goal.returns-in-Open
returns-in-Open c =
    let P : List Entry → Type 0 = λ index. HoldsNone index c.args.id in
    subst P (c.as_slice.ensures.value ∙ c.self.view_is) (HoldsNone-absent c.as_slice.result.now c.args.id c.in-Open.ensures.absent)

pub returns-in-Full : goal.returns-in-Full
returns-in-Full c =
    let P : List Entry → Type 0 = λ index. HoldsNone index c.args.id in
    subst P (c.as_slice.ensures.value ∙ c.self.view_is) (HoldsNone-absent c.as_slice.result.now c.args.id c.in-Full.ensures.absent)

pub returns-in-Free : goal.returns-in-Free
returns-in-Free c =
    let P : List Entry → Type 0 = λ index. HoldsNone index c.args.id in
    let Q : List Entry → Type 0 = λ index. HasId index c.in-Taken.place c.args.id in
    let R : List Entry → Type 0 = λ index. IsIndex index in
    let items = c.self.inside.entries.items in
    let entry : Entry = c.index-entry.result.now in
    let has = subst Q c.as_slice.ensures.value c.in-Taken.ensures in
    let loose = λ (held : (get_or items c.in-Taken.place entry).kind ≡ Held).
    let is : entry.kind ≡ Held = ap (λ (x : Entry). x.kind) c.index-entry.ensures ∙ held in
    let none : ⊥ = elim c.in-Free.is [ inl free ↦ let e : Free ≡ Held = sym free ∙ is in absurd (cc) | inr gone ↦ let e : Gone ≡ Held = sym gone ∙ is in absurd (cc) ] in
    none
    in
    subst P c.self.view_is (HoldsNone-at items c.args.id c.in-Taken.place entry (subst R (sym c.self.view_is) c.requires) has loose)
