-- Runs that go on with one another are one run.
use Rattle.std.proofs.Common.{◌≡◌, ℕ, zero, suc, ◌+◌, ◌<◌, Bool, true, false, ◌==◌, ◌&&◌, cond, List, [], ◌∷◌, ◌++◌, map, length, replicate, Option, Some, None, refl, sym, ap, ◌∙◌, inl, inr, append_assoc, arith}
use Rattle.std.specs.Option.{option_to_list}
use Rattle.std.proofs.lemmas.Bool.{cases_Bool, and_parts, and_from, eqb-true, eq-eqb}
use Rattle.std.proofs.lemmas.List.{length-replicate}
use Rattle.spec_script.specs.declared.Run.{Run}
use Rattle.spec_script.specs.LongestRuns.{Group, members, in_front, longest_runs}
use Rattle.spec_script.specs.Emphasis.{seen_run, byte_runs, goes_on, whole_run, joined}

-- A run and the next one as one.
abbrev pub union : Run → Run → Run
union run next = record { from = run.from; to = next.to; style = run.style }

module _ (run next : Run) where
  -- What goes on with the next run is what goes on with both.
  same_after : goes_on run next ≡ true → (other : Run) → goes_on (union run next) other ≡ goes_on next other
  same_after on other =
      let style = eqb-true run.style next.style (and_parts (run.to == next.from) (run.style == next.style) on).1 in
      ap (λ s. (next.to == other.from) && (s == other.style)) style

  -- The run in front of a group that begins with the next one.
  abbrev in_front_of : List Run → List (Group Run) → Bool → List (Group Run)
  in_front_of more groups b =
      cond b (record { first = run; more = next ∷ more } ∷ groups)
      (record { first = run; more = [] } ∷ record { first = next; more = more } ∷ groups)

  on-front : (groups : List (Group Run)) → goes_on run next ≡ true
      → map whole_run (in_front goes_on run (in_front goes_on next groups)) ≡ map whole_run (in_front goes_on (union run next) groups)
  on-front [] on = ap (λ b. map whole_run (in_front_of [] [] b)) on
  on-front (group ∷ groups) on =
      elim (goes_on next group.first) as (λ b. map whole_run (in_front goes_on run (cond b (record { first = next; more = members group } ∷ groups) (record { first = next; more = [] } ∷ group ∷ groups)))
      ≡ map whole_run (cond b (record { first = union run next; more = members group } ∷ groups) (record { first = union run next; more = [] } ∷ group ∷ groups))) [
        | true ↦ ap (λ b. map whole_run (in_front_of (members group) groups b)) on
        | false ↦ ap (λ b. map whole_run (in_front_of [] (group ∷ groups) b)) on
      ]
      ∙ ap (λ b. map whole_run (cond b (record { first = union run next; more = members group } ∷ groups) (record { first = union run next; more = [] } ∷ group ∷ groups))) (sym (same_after on group.first))

  off-front : (groups : List (Group Run)) → goes_on run next ≡ false
      → map whole_run (in_front goes_on run (in_front goes_on next groups)) ≡ run ∷ map whole_run (in_front goes_on next groups)
  off-front [] off = ap (λ b. map whole_run (in_front_of [] [] b)) off
  off-front (group ∷ groups) off =
      elim (goes_on next group.first) as (λ b. map whole_run (in_front goes_on run (cond b (record { first = next; more = members group } ∷ groups) (record { first = next; more = [] } ∷ group ∷ groups)))
      ≡ run ∷ map whole_run (cond b (record { first = next; more = members group } ∷ groups) (record { first = next; more = [] } ∷ group ∷ groups))) [
        | true ↦ ap (λ b. map whole_run (in_front_of (members group) groups b)) off
        | false ↦ ap (λ b. map whole_run (in_front_of [] (group ∷ groups) b)) off
      ]

  -- A run and one that goes on with it are joined like their union.
  pub joined-on : (more : List Run) → goes_on run next ≡ true → joined (run ∷ next ∷ more) ≡ joined (union run next ∷ more)
  joined-on more on = on-front (longest_runs goes_on more) on

  -- A run that the next one doesn't go on with stands by itself.
  pub joined-off : (more : List Run) → goes_on run next ≡ false → joined (run ∷ next ∷ more) ≡ run ∷ joined (next ∷ more)
  joined-off more off = off-front (longest_runs goes_on more) off

-- What is joined alike behind any run is joined alike behind one run more.
pub joined-behind : (last : Option Run) (run : Run) (xs ys : List Run) → ((last : Option Run) → joined (option_to_list last ++ xs) ≡ joined (option_to_list last ++ ys))
    → joined (option_to_list last ++ run ∷ xs) ≡ joined (option_to_list last ++ run ∷ ys)
joined-behind None run xs ys alike = alike (Some run)
joined-behind (Some last) run xs ys alike =
    elim (cases_Bool (goes_on last run)) [
      | inl on ↦ joined-on last run xs on ∙ alike (Some (union last run)) ∙ sym (joined-on last run ys on)
      | inr off ↦ joined-off last run xs off ∙ ap (λ (rs : List Run). last ∷ rs) (alike (Some run)) ∙ sym (joined-off last run ys off)
    ]

-- Bytes that look alike go on with a run of their style.
joined-on_bytes : (n at style from : ℕ) (more : List Run) → joined (record { from = from; to = at; style = style } ∷ byte_runs at (replicate n (Some style)) ++ more) ≡ joined (record { from = from; to = at + n; style = style } ∷ more)
joined-on_bytes zero at style from more = let e : at ≡ at + 0 = omega arith in ap (λ k. joined (record { from = from; to = k; style = style } ∷ more)) e
joined-on_bytes (suc n) at style from more =
    let e : at + 1 + n ≡ at + suc n = omega arith in
    let on = and_from (at == at) (style == style) (eq-eqb at at refl) (eq-eqb style style refl) in
    joined-on (record { from = from; to = at; style = style }) (record { from = at; to = at + 1; style = style }) (byte_runs (at + 1) (replicate n (Some style)) ++ more) on
    ∙ joined-on_bytes n (at + 1) style from more
    ∙ ap (λ k. joined (record { from = from; to = k; style = style } ∷ more)) e

-- They are one run.
pub joined-bytes : (last : Option Run) (n at style : ℕ) (more : List Run) → 0 < n
    → joined (option_to_list last ++ (byte_runs at (replicate n (Some style)) ++ more)) ≡ joined (option_to_list last ++ record { from = at; to = at + n; style = style } ∷ more)
joined-bytes last zero at style more some = absurd (omega (arith, some))
joined-bytes None (suc n) at style more some =
    let e : at + 1 + n ≡ at + suc n = omega arith in
    joined-on_bytes n (at + 1) style at more ∙ ap (λ k. joined (record { from = at; to = k; style = style } ∷ more)) e
joined-bytes (Some last) (suc n) at style more some =
    let e : at + 1 + n ≡ at + suc n = omega arith in
    let first : Run = record { from = at; to = at + 1; style = style } in
    let whole : Run = record { from = at; to = at + suc n; style = style } in
    let rest = byte_runs (at + 1) (replicate n (Some style)) ++ more in
    let one = joined-on_bytes n (at + 1) style at more ∙ ap (λ k. joined (record { from = at; to = k; style = style } ∷ more)) e in
    elim (cases_Bool (goes_on last whole)) [
      | inl on ↦ (let alike : style ≡ last.style = sym (eqb-true last.style style (and_parts (last.to == at) (last.style == style) on).1) in
          joined-on last first rest on
          ∙ ap (λ s. joined (record { from = last.from; to = at + 1; style = last.style } ∷ byte_runs (at + 1) (replicate n (Some s)) ++ more)) alike
          ∙ joined-on_bytes n (at + 1) last.style last.from more
          ∙ ap (λ k. joined (record { from = last.from; to = k; style = last.style } ∷ more)) e
          ∙ sym (joined-on last whole more on))
      | inr off ↦ joined-off last first rest off ∙ ap (λ (rs : List Run). last ∷ rs) one ∙ sym (joined-off last whole more off)
    ]

byte_runs-append : (at : ℕ) (xs ys : List (Option ℕ)) → byte_runs at (xs ++ ys) ≡ byte_runs at xs ++ byte_runs (at + length xs) ys
byte_runs-append at [] ys = let e : at ≡ at + 0 = omega arith in ap (λ k. byte_runs k ys) e
byte_runs-append at (x ∷ xs) ys =
    let e : at + 1 + length xs ≡ at + suc (length xs) = omega arith in
    ap (λ (rs : List Run). seen_run at (at + 1) x ++ rs) (byte_runs-append (at + 1) xs ys ∙ ap (λ k. byte_runs (at + 1) xs ++ byte_runs k ys) e)
    ∙ sym (append_assoc (seen_run at (at + 1) x) (byte_runs (at + 1) xs) (byte_runs (at + suc (length xs)) ys))

byte_runs-none : (at n : ℕ) → byte_runs at (replicate n None) ≡ []
byte_runs-none at zero = refl
byte_runs-none at (suc n) = byte_runs-none (at + 1) n

-- A piece that looks alike is one run, or none.
pub joined-piece : (last : Option Run) (at n : ℕ) (look : Option ℕ) (after : List (Option ℕ)) (more : List Run) → 0 < n
    → joined (option_to_list last ++ (seen_run at (at + n) look ++ (byte_runs (at + n) after ++ more))) ≡ joined (option_to_list last ++ (byte_runs at (replicate n look ++ after) ++ more))
joined-piece last at n look after more some =
    let rest = byte_runs (at + n) after ++ more in
    let split : byte_runs at (replicate n look ++ after) ++ more ≡ byte_runs at (replicate n look) ++ rest =
    ap (λ (rs : List Run). rs ++ more) (byte_runs-append at (replicate n look) after ∙ ap (λ k. byte_runs at (replicate n look) ++ byte_runs (at + k) after) (length-replicate n look))
    ∙ append_assoc (byte_runs at (replicate n look)) (byte_runs (at + n) after) more in
    elim look as (λ look. joined (option_to_list last ++ (seen_run at (at + n) look ++ rest)) ≡ joined (option_to_list last ++ (byte_runs at (replicate n look) ++ rest))) [
      | None ↦ sym (ap (λ (rs : List Run). joined (option_to_list last ++ (rs ++ rest))) (byte_runs-none at n))
      | Some style ↦ sym (joined-bytes last n at style rest some)
    ]
    ∙ sym (ap (λ (rs : List Run). joined (option_to_list last ++ rs)) split)
