use Rattle.std.proofs.Common.{◌≡◌, ◌+◌, ◌&&◌, Bool, false, ltb, Some, slice_get, slice_range, sym, ap, subst, ◌∙◌, arith}
use Rattle.std.proofs.lemmas.Bool.{true≢false}
use Rattle.sp_layout.specs.Edges.{opens_first}
use Rattle.sp_layout.proofs.StanzaLists.{opens-none, opens-window}
use Rattle.sp_layout.proofs.edges.windows_open.Goals as goal
use Rattle.sp_layout.proofs.edges.windows_open.Goals.{then-stands-gt0, else-stands-gt0}

pub returns-then-opens_apart : goal.returns-then-opens_apart
returns-then-opens_apart c =
    let stanzas = c.args.stanzas.now.stanzas in
    let swapped = c.args.swapped.now in
    elim c.if-stands-gt0.branch [
      | then-stands-gt0 w ↦
          let some = w.if-stands-gt0.true in
          let at = subst (λ n. slice_get stanzas n ≡ Some w.stanza.result.now) w.at.ensures w.stanza.ensures in
          let here = opens-window stanzas swapped.at swapped.stands w.stanza.result.now at (omega (arith, some, c.stands.ensures)) in
          let opens = here ∙ sym w.opens_apart.ensures ∙ sym w.value-is ∙ c.if-opens_apart.true in
          c.first_opens_apart.ensures ∙ ap opens_first c.stanzas.ensures ∙ sym (ap (λ (b : Bool). b && opens_first swapped.stanzas) opens)
      | else-stands-gt0 w ↦
          let none = w.if-stands-gt0.false in
          let zero : c.stands.result ≡ 0 = omega (arith, none) in
          absurd (true≢false (sym c.if-opens_apart.true ∙ w.value-is ∙ ap (λ n. ltb 0 n) zero))
    ]

pub returns-else-opens_apart : goal.returns-else-opens_apart
returns-else-opens_apart c =
    let stanzas = c.args.stanzas.now.stanzas in
    let swapped = c.args.swapped.now in
    let come = opens_first (slice_range stanzas swapped.at (swapped.at + swapped.stands)) in
    let none : come ≡ false = elim c.if-stands-gt0.branch [
      | then-stands-gt0 w ↦
          let some = w.if-stands-gt0.true in
          let at = subst (λ n. slice_get stanzas n ≡ Some w.stanza.result.now) w.at.ensures w.stanza.ensures in
          let here = opens-window stanzas swapped.at swapped.stands w.stanza.result.now at (omega (arith, some, c.stands.ensures)) in
          here ∙ sym w.opens_apart.ensures ∙ sym w.value-is ∙ c.if-opens_apart.false
      | else-stands-gt0 w ↦ let none = w.if-stands-gt0.false in opens-none stanzas swapped.at swapped.stands (omega (arith, none, c.stands.ensures))
    ] in
    c.if-opens_apart.false ∙ sym (ap (λ (b : Bool). b && opens_first swapped.stanzas) none)
