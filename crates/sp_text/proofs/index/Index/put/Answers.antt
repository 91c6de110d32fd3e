use Rattle.std.proofs.Common.{List, set, ◌∙◌, sym, subst, arith}
use Rattle.sp_text.specs.declared.index.Entry.{Entry}
use Rattle.sp_text.specs.Index.{IsFull, IsOpen, HasId, IsPut}
use Rattle.sp_text.proofs.Tables.{IsPut-told, IsPut-opened, use_count-full}
use Rattle.sp_text.proofs.index.Index.put.Goals as goal

pub unreachable-requires : goal.unreachable-requires
unreachable-requires c =
    let P : List Entry → Type 0 = λ index. IsFull index c.args.entry.id in
    let full = subst P (c.as_slice.ensures.value ∙ c.self.view_is) c.in-Full.ensures in
    omega (arith, use_count-full c.args.self.now c.args.entry.id full, c.requires.room)

pub returns-in-Taken-clause-put : goal.returns-in-Taken-clause-put
returns-in-Taken-clause-put c =
    let P : List Entry → Type 0 = λ index. HasId index c.in-Taken.place c.args.entry.id in
    let Q : List Entry → Type 0 = λ index. IsPut c.args.self.now c.args.entry (set index c.in-Taken.place c.args.entry) in
    let has = subst P (c.as_slice.ensures.value ∙ c.self.view_is) c.in-Taken.ensures in
    subst Q (sym c.self.view_is) (IsPut-told c.args.self.now c.in-Taken.place c.args.entry c.requires.table c.requires.new has c.requires.used)

pub returns-in-Open-clause-put : goal.returns-in-Open-clause-put
returns-in-Open-clause-put c =
    let P : List Entry → Type 0 = λ index. IsOpen index c.args.entry.id c.in-Open.place in
    let Q : List Entry → Type 0 = λ index. IsPut c.args.self.now c.args.entry (set index c.in-Open.place c.args.entry) in
    let it = subst P (c.as_slice.ensures.value ∙ c.self.view_is) c.in-Open.ensures in
    subst Q (sym c.self.view_is) (IsPut-opened c.args.self.now c.in-Open.place c.args.entry c.requires.table it c.requires.used)
