use Rattle.std.proofs.Common.{◌≡◌, ◌<◌, length, map, set, get_or, refl, ap, ap₂, sym, ◌∙◌, arith}
use Rattle.std.proofs.lemmas.List.{length-map, map-set, get_or-map}
use Rattle.std.proofs.lemmas.Option.{slice_get_read, slice_get_within}
use Rattle.sp_reread.specs.Piles.{PileState, EntryOf, stanza_in, summaries, summary_of}
use Rattle.sp_reread.proofs.PileLaws.{summaries-set, summed-set, told-set}
use Rattle.sp_reread.proofs.pile.Pile.swap.Goals as goal

stanzas_are : (c : goal.After-self-1) → map stanza_in c.self.inside.entries.items ≡ c.args.self.now.stanzas
stanzas_are c = ap (λ (p : PileState). p.stanzas) c.self.view_is

place : (c : goal.After-self-1) → c.args.i < length c.args.self.now.stanzas
place c =
    omega (arith, slice_get_within (summaries c.args.self.now.stanzas) c.args.i (summary_of c.args.stanza.now) c.requires, length-map c.args.self.now.stanzas summary_of)

inside : (c : goal.After-self-1) → c.args.i < length c.self.inside.entries.items
inside c = omega (arith, place c, ap length (stanzas_are c), length-map c.self.inside.entries.items stanza_in)

after : (c : goal.After-self-1) → map stanza_in (set c.self.inside.entries.items c.args.i c.swap_stanza.new.entry) ≡ set c.args.self.now.stanzas c.args.i c.args.stanza.now
after c =
    map-set stanza_in c.self.inside.entries.items c.args.i c.swap_stanza.new.entry
    ∙ ap₂ (λ xs x. set xs c.args.i x) (stanzas_are c) (ap (λ (e : EntryOf). e.stanza) c.swap_stanza.ensures.entry)

same : (c : goal.After-self-1) → summaries (map stanza_in (set c.self.inside.entries.items c.args.i c.swap_stanza.new.entry)) ≡ summaries c.args.self.now.stanzas
same c = ap summaries (after c) ∙ summaries-set c.args.self.now.stanzas c.args.i c.args.stanza.now c.requires

pub invariant_of-self : goal.invariant_of-self
invariant_of-self c =
    let entries = c.self.inside.entries.items in
    let old = c.index_mut.result.now in
    let there = slice_get_read entries (length entries) c.args.i old refl (inside c) c.index_mut.ensures.value in
    let told = same c ∙ ap summaries (sym (stanzas_are c)) in (
      summed-set entries c.args.i old c.swap_stanza.new.entry c.self.invariant.0 there (ap (λ (e : EntryOf). e.end) c.swap_stanza.ensures.entry) told,
      told-set entries c.args.i old c.swap_stanza.new.entry c.self.invariant.1 there (ap (λ (e : EntryOf). e.settled) c.swap_stanza.ensures.entry) told,
    )

pub returns-clause-stanzas : goal.returns-clause-stanzas
returns-clause-stanzas c = after c

pub returns-clause-stanza : goal.returns-clause-stanza
returns-clause-stanza c =
    let entries = c.self.inside.entries.items in
    let stanzas = c.args.self.now.stanzas in
    let old = c.index_mut.result.now in
    let x = c.swap_stanza.new.stanza in
    slice_get_read stanzas (length stanzas) c.args.i x refl (place c)
    (c.swap_stanza.ensures.stanza ∙ ap (λ (e : EntryOf). e.stanza) c.index_mut.ensures.value ∙ sym (get_or-map stanza_in entries c.args.i old x (inside c)) ∙ ap (λ xs. get_or xs c.args.i x) (stanzas_are c))

pub returns-clause-summaries : goal.returns-clause-summaries
returns-clause-summaries c = same c
