-- What comes to the front of a queue and goes from it.
use Rattle.std.proofs.Common.{◌≡◌, ℕ, suc, ◌+◌, ◌-◌, ◌≤◌, ◌≢◌, Option, Some, None, IfSome, List, [], ◌∷◌, ◌++◌, length, take, drop, reverse, refl, sym, ap, ap₂, ◌∙◌, arith}
use Rattle.std.specs.Option.{option_to_list}
use Rattle.std.proofs.lemmas.List.{length-take-le, length-reverse, reverse-append}
use Rattle.sp_journal.specs.Entries.{Entries, queued}

module _ {T : Type 0} where
  abbrev made : List T → List T → ℕ → Entries T
  made done undone room = record { done = done; undone = undone; room = room }

  same : (done done' undone undone' : List T) (room room' : ℕ) → done ≡ done' → undone ≡ undone' → room ≡ room' → made done undone room ≡ made done' undone' room'
  same done done' undone undone' room room' one two three = ap₂ (λ d u. made d u room) one two ∙ ap (made done' undone') three

  front-undone : (more undone : ℕ) (entry : T) (entries : List T) → more ≡ undone + 1 → reverse (take more (entry ∷ entries)) ≡ reverse (take undone entries) ++ entry ∷ []
  front-undone more undone entry entries one =
      let next : more ≡ suc undone = omega arith in
      ap (λ n. reverse (take n (entry ∷ entries))) next ∙ reverse-append (entry ∷ []) (take undone entries)

  front-done : (more undone : ℕ) (entry : T) (entries : List T) → more ≡ undone + 1 → drop more (entry ∷ entries) ≡ drop undone entries
  front-done more undone entry entries one =
      let next : more ≡ suc undone = omega arith in
      ap (λ n. drop n (entry ∷ entries)) next

  -- An entry that is kept in front is the last one undone.
  pub kept : (undone : ℕ) (entries new : List T) (entry : T) (room left : ℕ) (was : Entries T) → queued undone entries room ≡ was → new ≡ entry ∷ entries → left ≡ room - 1 → queued (undone + 1) new left ≡ made was.done (was.undone ++ entry ∷ []) (was.room - 1)
  kept undone entries new entry room left was is put less =
      ap (λ all. queued (undone + 1) all left) put
      ∙ same _ (drop undone entries) _ (reverse (take undone entries) ++ entry ∷ []) left (room - 1) (front-done _ undone entry entries refl) (front-undone _ undone entry entries refl) less
      ∙ ap (λ (j : Entries T). made j.done (j.undone ++ entry ∷ []) (j.room - 1)) is

  -- An entry that is taken from the front was the last one undone.
  pub taken : (result : Option T) (undone : ℕ) (entries new : List T) (room : ℕ) (was : Entries T) → queued undone entries room ≡ was → undone ≢ 0 → entries ≡ option_to_list result ++ new → IfSome result (λ entry. was.undone ≡ reverse (take (undone - 1) new) ++ entry ∷ [])
  taken None undone entries new room was is some split = tt
  taken (Some entry) undone entries new room was is some split =
      sym (ap (λ (j : Entries T). j.undone) is) ∙ ap (λ all. reverse (take undone all)) split ∙ front-undone undone (undone - 1) entry new (omega (arith, some))

  pub taken-leaves : (result : Option T) (undone : ℕ) (entries new : List T) (room left : ℕ) (was : Entries T) → queued undone entries room ≡ was → undone ≢ 0 → entries ≡ option_to_list result ++ new → left ≡ room + length (option_to_list result) → IfSome result (λ entry. queued (undone - 1) new left ≡ made was.done (reverse (take (undone - 1) new)) (was.room + 1))
  taken-leaves None undone entries new room left was is some split more = tt
  taken-leaves (Some entry) undone entries new room left was is some split more =
      let moved = ap (λ all. drop undone all) split ∙ front-done undone (undone - 1) entry new (omega (arith, some)) in
      same (drop (undone - 1) new) was.done (reverse (take (undone - 1) new)) _ left (was.room + 1) (sym moved ∙ ap (λ (j : Entries T). j.done) is) refl (more ∙ ap (λ (j : Entries T). j.room + 1) is)

  -- All that was undone goes from the front.
  pub emptied : (undone : ℕ) (entries new : List T) (room left : ℕ) (was : Entries T) → queued undone entries room ≡ was → undone ≤ length entries → new ≡ drop undone entries → left ≡ room + undone → queued 0 new left ≡ made was.done [] (was.room + length was.undone)
  emptied undone entries new room left was is inside rest more =
      let many : length (reverse (take undone entries)) ≡ undone = length-reverse (take undone entries) ∙ length-take-le undone entries inside in
      same new (drop undone entries) [] [] left (room + length (reverse (take undone entries))) rest refl (omega (arith, more, many))
      ∙ ap (λ (j : Entries T). made j.done [] (j.room + length j.undone)) is
