-- The entries of lines that go and come, one by one.
use Rattle.std.proofs.Common.{◌≡◌, ℕ, ◌+◌, ◌-◌, ◌<◌, ◌≢◌, Bool, true, false, cond, List, [], ◌∷◌, ◌++◌, length, get_or, set, take, replicate, sym, ap, ◌∙◌, subst, arith, length-append, append-nil}
use Rattle.std.specs.List.{AllPairs}
use Rattle.std.proofs.lemmas.List.{length-map, get_or-map, map-append, take-map, get_or-take, get_or_append_left, length-take-le, take_more, take_at, get_or-append-add, length-replicate, get_or-replicate}
use Rattle.spec_text.specs.Lines.{LineState}
use Rattle.spec_text.specs.Edits.{line_ids}
use Rattle.spec_text.proofs.PairLaws.{Across, AllPairs-append, Parted-from}
use Rattle.sp_text.specs.declared.index.Side.{Side}
use Rattle.sp_text.specs.declared.index.Side.TheVariants.{Front}
use Rattle.sp_text.specs.declared.index.Kind.TheVariants.{Free, Held}
use Rattle.sp_text.specs.declared.index.Entry.{Entry}
use Rattle.sp_text.specs.Index.{is_used, is_same, HasId, IsKnown, HoldsNone, IsPut, Stands, gone_entry, Indexes}
use Rattle.sp_text.proofs.Tables.{IsIndex-free}
use Rattle.sp_text.proofs.Entries.{known-last, Indexes-forgot, Indexes-put}

id-of : (lines : List LineState) (place id : ℕ) (line : LineState) → place < length lines → line ≡ get_or lines place line → id ≡ line.id → id ≡ get_or (line_ids lines) place 0
id-of lines place id line inside is same =
    let get_id = λ (l : LineState). l.id in same ∙ ap get_id is ∙ sym (get_or-map get_id lines place line 0 inside)

-- The last line that isn't out yet.
module _ (here : List ℕ) (back : List LineState) (index : List Entry) (done n m id : ℕ) (line : LineState) (n_is : n ≡ length back) (low : done < n) (m_is : m ≡ n - 1 - done) (is : line ≡ get_or back m line) (same : id ≡ line.id) (indexes : Indexes Front here (take (length back - done) (line_ids back)) index) where
  split : take (length back - done) (line_ids back) ≡ take m (line_ids back) ++ id ∷ []
  split =
      let inside : m < length back = omega (arith, n_is, low, m_is) in
      let next : length back - done ≡ m + 1 = omega (arith, n_is, low, m_is) in
      ap (λ k. take k (line_ids back)) next ∙ take_more (line_ids back) m 0 (omega (arith, length-map back (λ (l : LineState). l.id)))
      ∙ ap (λ x. take m (line_ids back) ++ x ∷ []) (sym (id-of back m id line inside is same))

  last-stands : Indexes Front here (take m (line_ids back) ++ id ∷ []) index
  last-stands = let P : List ℕ → Type 0 = λ there. Indexes Front here there index in subst P split indexes

  pub forget-known : IsKnown index id
  forget-known = known-last Front here (take m (line_ids back)) id index last-stands

  pub forget-step : (place : ℕ) (new : List Entry) → HasId index place id → new ≡ set index place (gone_entry id) → Indexes Front here (take (length back - (done + 1)) (line_ids back)) new
  forget-step place new has out =
      let left : m ≡ length back - (done + 1) = omega (arith, n_is, low, m_is) in
      let P : List Entry → Type 0 = λ entries. Indexes Front here (take (length back - (done + 1)) (line_ids back)) entries in
      let Q : ℕ → Type 0 = λ k. Indexes Front here (take k (line_ids back)) (set index place (gone_entry id)) in
      subst P (sym out) (subst Q left (Indexes-forgot Front here (take m (line_ids back)) id index last-stands place has))

new-in : (b : Bool) (front there : List ℕ) (at id : ℕ) (entry : Entry) → at < length front → AllPairs (λ (one other : ℕ). one ≢ other) (front ++ there) → id ≡ get_or front at 0 → Stands (cond b (take at front) there) entry → entry.id ≢ id
new-in true front there at id entry inside differ is stands same =
    let few = length-take-le at front (omega arith) in
    let low : entry.at < at = omega (arith, stands.inside) in
    let read = get_or_append_left front there 0 entry.at (omega arith) in
    let read_at = get_or_append_left front there 0 at inside in
    differ entry.at at 0 low (omega (arith, length-append front there)) (read ∙ sym (get_or-take at front entry.at 0 low) ∙ stands.is ∙ same ∙ is ∙ sym read_at)
new-in false front there at id entry inside differ is stands same =
    let read = get_or-append-add front there entry.at 0 in
    let read_at = get_or_append_left front there 0 at inside in
    differ at (length front + entry.at) 0 (omega arith) (omega (arith, length-append front there, stands.inside)) (read_at ∙ sym is ∙ sym same ∙ sym stands.is ∙ sym read)

-- The first line that isn't in yet.
module _ (side : Side) (lines : List LineState) (there : List ℕ) (index : List Entry) (at id : ℕ) (line : LineState) (inside : at < length lines) (is : line ≡ get_or lines at line) (same : id ≡ line.id) (indexes : Indexes side (take at (line_ids lines)) there index) where
  own : id ≡ get_or (line_ids lines) at 0
  own = id-of lines at id line inside is same

  pub learn-new : AllPairs (λ (one other : ℕ). one ≢ other) (line_ids lines ++ there) → HoldsNone index id
  learn-new differ k d low held =
      new-in (is_same (get_or index k d).side side) (line_ids lines) there at id (get_or index k d) (omega (arith, length-map lines (λ (l : LineState). l.id))) differ own (indexes.stands k d low held)

  pub learn-step : (new : List Entry) → IsPut index (record { id = id; at = at; side = side; kind = Held }) new → Indexes side (take (at + 1) (line_ids lines)) there new
  learn-step new put =
      let many = length-take-le at (line_ids lines) (omega (arith, length-map lines (λ (l : LineState). l.id))) in
      let P : ℕ → Type 0 = λ n. IsPut index (record { id = id; at = n; side = side; kind = Held }) new in
      let Q : List ℕ → Type 0 = λ ids. Indexes side ids there new in
      let grown : take at (line_ids lines) ++ id ∷ [] ≡ take (at + 1) (line_ids lines) =
      ap (λ x. take at (line_ids lines) ++ x ∷ []) own ∙ sym (take_more (line_ids lines) at 0 (omega (arith, length-map lines (λ (l : LineState). l.id))))
      in
      subst Q grown (Indexes-put side (take at (line_ids lines)) there id index new indexes (subst P (sym many) put))

-- After the places were changed the index is that of the lines that stood there before.
pub learn-start : (front more back less : List LineState) (new : List LineState) (stood done n count : ℕ) (index : List Entry) → Indexes Front (line_ids front) (take (length back - done) (line_ids back)) index → more ≡ front ++ new → stood ≡ length front → less ≡ take (n - count) back → n ≡ length back → done ≡ count → Indexes Front (take stood (line_ids more)) (line_ids less) index
learn-start front more back less new stood done n count index indexes more_is stood_is less_is n_is done_is =
    let get_id = λ (l : LineState). l.id in
    let one : take stood (line_ids more) ≡ line_ids front =
    ap (λ xs. take stood (line_ids xs)) more_is ∙ ap (take stood) (map-append get_id front new) ∙ take_at (line_ids front) (line_ids new) stood (length-map front get_id ∙ sym stood_is)
    in
    let two : line_ids less ≡ take (length back - done) (line_ids back) = ap line_ids less_is ∙ sym (take-map get_id (n - count) back) ∙ ap (λ k. take k (line_ids back)) (omega arith) in
    let P : List ℕ → Type 0 = λ here. Indexes Front here (line_ids less) index in
    let Q : List ℕ → Type 0 = λ there. Indexes Front (line_ids front) there index in
    subst P (sym one) (subst Q (sym two) indexes)

-- A table where nothing is is the index of no lines.
pub Indexes-free : (len : ℕ) (entry : Entry) → entry.kind ≡ Free → len < 4294967296 → Indexes Front [] [] (replicate len entry)
Indexes-free len entry free few =
    let many = length-replicate len entry in
    record {
      table = IsIndex-free len entry (ap is_used free) few;
      stands = λ k d inside held.
          let e : Free ≡ Held = sym free ∙ ap (λ (x : Entry). x.kind) (sym (get_or-replicate len k entry d (omega (arith, many)))) ∙ held in
          absurd (cc);
      here_known = λ at inside. absurd (omega arith);
      there_known = λ at inside. absurd (omega arith);
    }

-- Numbers that differ do so without the last of them, and in the other order.
pub differ-front : (xs ys : List ℕ) → AllPairs (λ (one other : ℕ). one ≢ other) (xs ++ ys) → AllPairs (λ (one other : ℕ). one ≢ other) (xs ++ [])
differ-front xs ys differ =
    let P : List ℕ → Type 0 = λ zs. AllPairs (λ (one other : ℕ). one ≢ other) zs in
    let parted = Parted-from (λ (one other : ℕ). one ≢ other) xs ys differ in
    subst P (sym (append-nil xs)) parted.front

pub differ-turned : (xs ys : List ℕ) → AllPairs (λ (one other : ℕ). one ≢ other) (xs ++ ys) → AllPairs (λ (one other : ℕ). one ≢ other) (ys ++ xs)
differ-turned xs ys differ =
    let R : ℕ → ℕ → Type 0 = λ one other. one ≢ other in
    let parted = Parted-from R xs ys differ in
    let across : Across R ys xs = record { each = λ y x in_ys in_xs same. parted.across.each x y in_xs in_ys (sym same) } in
    AllPairs-append R ys xs parted.behind parted.front across
