-- Where a lock or a round is refused, by which reason, and that it can be made exactly where none refuses it.
use Rattle.std.proofs.Common.{◌≡◌, ℕ, ◌<◌, ◌≤◌, Bool, true, false, not, ltb, leb, eqb, Option, Some, None, List, length, refl, ap, ◌∙◌, arith}
use Rattle.std.specs.Prelude.{IfSome, is_some, option_map}
use Rattle.std.proofs.lemmas.Bool.Decides.{nat_tests}
use Rattle.std.proofs.lemmas.Bool.{or_parts, or_from}
use Rattle.spec_text.specs.Edits.{Refusal, refusal_of}
use Rattle.spec_labels.specs.Scenes.{scene_record_limit, unlockable_place, disordered_place}
use Rattle.spec_labels.specs.PageRecords.{page_record_limit}
use Rattle.spec_records.specs.Kept.{round_limit}
use Rattle.spec_state.specs.State.{State, text_of}
use Rattle.spec_state.specs.Headings.{headings_of}
use Rattle.spec_state.specs.StateSheets.{rows_in}
use Rattle.spec_state.specs.Openings as openings
use Rattle.spec_state.specs.Openings.{round_begun}
use Rattle.spec_wire.specs.Commands.{CommandOf, edit, undo, redo, lock_scenes, lock_pages, next_round, speakers, paper}
use Rattle.spec_wire.specs.Replies.{RefusalOf, nothing_to_undo, nothing_to_redo, scenes_locked, scene_form, scene_order, scenes_not_locked, pages_locked, no_pages, rounds_full, records_full}
use Rattle.spec_machine.specs.Machine.{Memory, CanLockScenes, CanLockPages, CanBegin, CanDo}
use Rattle.spec_machine.specs.Sessions.{Accepts}
use Rattle.spec_machine.specs.Refusals.{edit_refusal, first_of, reason_if, are_more, are_too_many, scenes_refusal, pages_refusal, round_refusal, setting_refusal}

-- ---- reasons in order

record NoneOf (one other : Option RefusalOf) : Type 0 where
  first : one ≡ None
  second : other ≡ None

none-of : (one other : Option RefusalOf) → first_of one other ≡ None → NoneOf one other
none-of None other is = record { first = refl; second = is }
none-of (Some reason) other is = absurd (let bad : ⊥ = cc in bad)

pub no-reason : (holds : Bool) (reason : RefusalOf) → reason_if holds reason ≡ None → holds ≡ false
no-reason false reason is = refl
no-reason true reason is = absurd (let bad : ⊥ = cc in bad)

no-place : (reason : ℕ → RefusalOf) (place : Option ℕ) → option_map reason place ≡ None → place ≡ None
no-place reason None is = refl
no-place reason (Some place) is = absurd (let bad : ⊥ = cc in bad)

-- The first reason doesn't hold, so the other ones count.
skipped : (one other : Option RefusalOf) → one ≡ None → first_of one other ≡ other
skipped one other is = ap (λ (o : Option RefusalOf). first_of o other) is

found : (one other : Option RefusalOf) (reason : RefusalOf) → one ≡ Some reason → first_of one other ≡ Some reason
found one other reason is = ap (λ (o : Option RefusalOf). first_of o other) is

-- ---- how many records there are

not-below : (limit count : ℕ) → ltb limit count ≡ false → count ≤ limit
not-below limit count is = grind (arith, nat_tests)

pub below-not : (limit count : ℕ) → count ≤ limit → ltb limit count ≡ false
below-not limit count is = grind (arith, nat_tests)

pub below-is : (limit count : ℕ) → limit < count → ltb limit count ≡ true
below-is limit count is = grind (arith, nat_tests)

some-not : (count : ℕ) → eqb count 0 ≡ false → 0 < count
some-not count is = grind (arith, nat_tests)

not-some : (count : ℕ) → 0 < count → eqb count 0 ≡ false
not-some count is = grind (arith, nat_tests)

few-not : {X : Type 0} (limit : ℕ) (records : Option (List X)) → are_more limit records ≡ false → IfSome records (λ those. length those ≤ limit)
few-not limit None is = tt
few-not limit (Some those) is = not-below limit (length those) is

pub not-few : {X : Type 0} (limit : ℕ) (records : Option (List X)) → IfSome records (λ those. length those ≤ limit) → are_more limit records ≡ false
not-few limit None few = refl
not-few limit (Some those) few = below-not limit (length those) few

is-some : {X : Type 0} (o : Option X) → not (is_some o) ≡ false → is_some o ≡ true
is-some None is = absurd (let bad : ⊥ = cc in bad)
is-some (Some x) is = refl

none-is : {X : Type 0} (o : Option X) → is_some o ≡ false → o ≡ None
none-is None is = refl
none-is (Some x) is = absurd (let bad : ⊥ = cc in bad)

-- ---- the lock of scenes

pub free-scenes : (state : State) → scenes_refusal state ≡ None → CanLockScenes state
free-scenes state is =
    let one = none-of (reason_if (is_some state.scenes) scenes_locked) _ is in
    let two = none-of (option_map scene_form (unlockable_place (headings_of state.lines))) _ one.second in
    let three = none-of (option_map scene_order (disordered_place (headings_of state.lines))) _ two.second in
    record {
      unlocked = none-is state.scenes (no-reason (is_some state.scenes) scenes_locked one.first);
      form = no-place scene_form (unlockable_place (headings_of state.lines)) two.first;
      order = no-place scene_order (disordered_place (headings_of state.lines)) three.first;
      few = not-below scene_record_limit (length (headings_of state.lines)) (no-reason (ltb scene_record_limit (length (headings_of state.lines))) records_full three.second);
    }

abbrev scenes_by : Option ℕ → Option ℕ → Bool → Option RefusalOf
scenes_by form order many = first_of (option_map scene_form form) (first_of (option_map scene_order order) (reason_if many records_full))

-- Where scenes aren't locked, the reasons are those of the headings.
unlocked-scenes : (state : State) → state.scenes ≡ None
    → scenes_refusal state ≡ scenes_by (unlockable_place (headings_of state.lines)) (disordered_place (headings_of state.lines)) (ltb scene_record_limit (length (headings_of state.lines)))
unlocked-scenes state is = skipped (reason_if (is_some state.scenes) scenes_locked) _ (ap (λ scenes. reason_if (is_some scenes) scenes_locked) is)

pub scenes-locked : (state : State) → is_some state.scenes ≡ true → scenes_refusal state ≡ Some scenes_locked
scenes-locked state is = found (reason_if (is_some state.scenes) scenes_locked) _ scenes_locked (ap (λ b. reason_if b scenes_locked) is)

pub scenes-form : (state : State) (place : ℕ) → state.scenes ≡ None → unlockable_place (headings_of state.lines) ≡ Some place → scenes_refusal state ≡ Some (scene_form place)
scenes-form state place none form = unlocked-scenes state none ∙ found (option_map scene_form (unlockable_place (headings_of state.lines))) _ (scene_form place) (ap (option_map scene_form) form)

pub scenes-order : (state : State) (place : ℕ) → state.scenes ≡ None → unlockable_place (headings_of state.lines) ≡ None → disordered_place (headings_of state.lines) ≡ Some place
    → scenes_refusal state ≡ Some (scene_order place)
scenes-order state place none form order =
    unlocked-scenes state none
    ∙ ap (λ o. scenes_by o (disordered_place (headings_of state.lines)) (ltb scene_record_limit (length (headings_of state.lines)))) form
    ∙ found (option_map scene_order (disordered_place (headings_of state.lines))) _ (scene_order place) (ap (option_map scene_order) order)

scenes-reasons : (state : State) (many : Bool) → state.scenes ≡ None → unlockable_place (headings_of state.lines) ≡ None → disordered_place (headings_of state.lines) ≡ None
    → ltb scene_record_limit (length (headings_of state.lines)) ≡ many → scenes_refusal state ≡ reason_if many records_full
scenes-reasons state many none form order is =
    unlocked-scenes state none
    ∙ ap (λ o. scenes_by o (disordered_place (headings_of state.lines)) (ltb scene_record_limit (length (headings_of state.lines)))) form
    ∙ ap (λ o. scenes_by None o (ltb scene_record_limit (length (headings_of state.lines)))) order
    ∙ ap (λ b. reason_if b records_full) is

pub scenes-full : (state : State) → state.scenes ≡ None → unlockable_place (headings_of state.lines) ≡ None → disordered_place (headings_of state.lines) ≡ None
    → scene_record_limit < length (headings_of state.lines) → scenes_refusal state ≡ Some records_full
scenes-full state none form order many = scenes-reasons state true none form order (below-is scene_record_limit (length (headings_of state.lines)) many)

pub scenes-free : (state : State) → CanLockScenes state → scenes_refusal state ≡ None
scenes-free state can = scenes-reasons state false can.unlocked can.form can.order (below-not scene_record_limit (length (headings_of state.lines)) can.few)

-- ---- the lock of pages

pub free-pages : (state : State) → pages_refusal state ≡ None → CanLockPages state
free-pages state is =
    let new = openings.pages_locked state in
    let one = none-of (reason_if (not (is_some state.scenes)) scenes_not_locked) _ is in
    let two = none-of (reason_if (is_some state.pages) pages_locked) _ one.second in
    let three = none-of (reason_if (eqb (length (rows_in state)) 0) no_pages) _ two.second in
    let few = or_parts (are_more scene_record_limit new.scenes) (are_more page_record_limit new.pages) (no-reason (are_too_many new) records_full three.second) in
    record {
      scenes = is-some state.scenes (no-reason (not (is_some state.scenes)) scenes_not_locked one.first);
      unlocked = none-is state.pages (no-reason (is_some state.pages) pages_locked two.first);
      rows = some-not (length (rows_in state)) (no-reason (eqb (length (rows_in state)) 0) no_pages three.first);
      few_scenes = few-not scene_record_limit new.scenes few.0;
      few_pages = few-not page_record_limit new.pages few.1;
    }

abbrev pages_by : Bool → Bool → Bool → Option RefusalOf
pages_by locked none many = first_of (reason_if locked pages_locked) (first_of (reason_if none no_pages) (reason_if many records_full))

scened-pages : (state : State) → is_some state.scenes ≡ true → pages_refusal state ≡ pages_by (is_some state.pages) (eqb (length (rows_in state)) 0) (are_too_many (openings.pages_locked state))
scened-pages state is = skipped (reason_if (not (is_some state.scenes)) scenes_not_locked) _ (ap (λ b. reason_if (not b) scenes_not_locked) is)

pub pages-unscened : (state : State) → state.scenes ≡ None → pages_refusal state ≡ Some scenes_not_locked
pages-unscened state is = found (reason_if (not (is_some state.scenes)) scenes_not_locked) _ scenes_not_locked (ap (λ scenes. reason_if (not (is_some scenes)) scenes_not_locked) is)

pub pages-locked : (state : State) → is_some state.scenes ≡ true → is_some state.pages ≡ true → pages_refusal state ≡ Some pages_locked
pages-locked state scened is = scened-pages state scened ∙ ap (λ b. pages_by b (eqb (length (rows_in state)) 0) (are_too_many (openings.pages_locked state))) is

pub pages-none : (state : State) → is_some state.scenes ≡ true → state.pages ≡ None → length (rows_in state) ≡ 0 → pages_refusal state ≡ Some no_pages
pages-none state scened unlocked none =
    scened-pages state scened
    ∙ ap (λ pages. pages_by (is_some pages) (eqb (length (rows_in state)) 0) (are_too_many (openings.pages_locked state))) unlocked
    ∙ ap (λ n. pages_by false (eqb n 0) (are_too_many (openings.pages_locked state))) none

pages-reasons : (state : State) (many : Bool) → is_some state.scenes ≡ true → state.pages ≡ None → 0 < length (rows_in state) → are_too_many (openings.pages_locked state) ≡ many
    → pages_refusal state ≡ reason_if many records_full
pages-reasons state many scened unlocked some is =
    scened-pages state scened
    ∙ ap (λ pages. pages_by (is_some pages) (eqb (length (rows_in state)) 0) (are_too_many (openings.pages_locked state))) unlocked
    ∙ ap (λ b. pages_by false b (are_too_many (openings.pages_locked state))) (not-some (length (rows_in state)) some)
    ∙ ap (λ b. reason_if b records_full) is

pub pages-full : (state : State) → is_some state.scenes ≡ true → state.pages ≡ None → 0 < length (rows_in state) → are_too_many (openings.pages_locked state) ≡ true → pages_refusal state ≡ Some records_full
pages-full state scened unlocked some many = pages-reasons state true scened unlocked some many

pub pages-free : (state : State) → CanLockPages state → pages_refusal state ≡ None
pages-free state can =
    let new = openings.pages_locked state in
    pages-reasons state false can.scenes can.unlocked can.rows
    (or_from (are_more scene_record_limit new.scenes) (are_more page_record_limit new.pages) (not-few scene_record_limit new.scenes can.few_scenes) (not-few page_record_limit new.pages can.few_pages))

-- ---- the next round

over-not : (limit round : ℕ) → leb limit round ≡ false → round < limit
over-not limit round is = grind (arith, nat_tests)

over-is : (limit round : ℕ) → limit ≤ round → leb limit round ≡ true
over-is limit round is = grind (arith, nat_tests)

not-over : (limit round : ℕ) → round < limit → leb limit round ≡ false
not-over limit round is = grind (arith, nat_tests)

pub free-round : (state : State) → round_refusal state ≡ None → CanBegin state
free-round state is =
    let new = round_begun state in
    let one = none-of (reason_if (leb round_limit state.round) rounds_full) _ is in
    let few = or_parts (are_more scene_record_limit new.scenes) (are_more page_record_limit new.pages) (no-reason (are_too_many new) records_full one.second) in
    record {
      rounds = over-not round_limit state.round (no-reason (leb round_limit state.round) rounds_full one.first);
      few_scenes = few-not scene_record_limit new.scenes few.0;
      few_pages = few-not page_record_limit new.pages few.1;
    }

pub rounds-full : (state : State) → round_limit ≤ state.round → round_refusal state ≡ Some rounds_full
rounds-full state is = found (reason_if (leb round_limit state.round) rounds_full) _ rounds_full (ap (λ b. reason_if b rounds_full) (over-is round_limit state.round is))

round-reasons : (state : State) (many : Bool) → state.round < round_limit → are_too_many (round_begun state) ≡ many → round_refusal state ≡ reason_if many records_full
round-reasons state many rounds is =
    skipped (reason_if (leb round_limit state.round) rounds_full) _ (ap (λ b. reason_if b rounds_full) (not-over round_limit state.round rounds)) ∙ ap (λ b. reason_if b records_full) is

pub round-full : (state : State) → state.round < round_limit → are_too_many (round_begun state) ≡ true → round_refusal state ≡ Some records_full
round-full state rounds many = round-reasons state true rounds many

pub round-free : (state : State) → CanBegin state → round_refusal state ≡ None
round-free state can =
    let new = round_begun state in
    round-reasons state false can.rounds
    (or_from (are_more scene_record_limit new.scenes) (are_more page_record_limit new.pages) (not-few scene_record_limit new.scenes can.few_scenes) (not-few page_record_limit new.pages can.few_pages))

-- ---- settings

pub free-setting : (state : State) → setting_refusal state ≡ None → state.pages ≡ None
free-setting state is = none-is state.pages (no-reason (is_some state.pages) pages_locked is)

-- ---- what is accepted can be done

no-edit : (refusal : Option Refusal) → option_map edit_refusal refusal ≡ None → refusal ≡ None
no-edit None is = refl
no-edit (Some reason) is = absurd (let bad : ⊥ = cc in bad)

some-entry : (count : ℕ) (reason : RefusalOf) → reason_if (eqb count 0) reason ≡ None → 0 < count
some-entry count reason free = by count (no-reason (eqb count 0) reason free)
  where
    by : (n : ℕ) → eqb n 0 ≡ false → 0 < n
    by n is = grind (arith, nat_tests)

-- An accepted command can be done.
pub accepted-can : (memory : Memory) (command : CommandOf) → Accepts memory command → CanDo memory command
accepted-can memory (edit it) is = record { taken = no-edit (refusal_of (text_of memory.state) it) is.free; text = is.text }
accepted-can memory undo is = some-entry (length memory.done) nothing_to_undo is.free
accepted-can memory redo is = some-entry (length memory.undone) nothing_to_redo is.free
accepted-can memory lock_scenes is = free-scenes memory.state is.free
accepted-can memory lock_pages is = free-pages memory.state is.free
accepted-can memory next_round is = free-round memory.state is.free
accepted-can memory (speakers on) is = free-setting memory.state is.free
accepted-can memory (paper size) is = free-setting memory.state is.free
accepted-can memory _ is = tt
