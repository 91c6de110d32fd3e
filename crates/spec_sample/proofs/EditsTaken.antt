-- The edits of a sample are accepted, and so are the undo and the redo behind them.
use Rattle.std.proofs.Common.{◌≡◌, ℕ, zero, suc, ◌+◌, ◌-◌, ◌*◌, ◌%◌, ◌==◌, ◌<◌, ◌≤◌, Bool, true, false, cond, Option, Some, None, List, [], ◌∷◌, ◌++◌, length, get_or, refl, sym, ap, ◌∙◌, subst, inl, inr, arith, append_assoc, length-append, lit<, lit≤}
use Rattle.std.specs.Prelude.{All, codes, decimal, slice_get, replicate, option_map}
use Rattle.std.proofs.lemmas.Bool.{cases_eq, ne_eqb}
use Rattle.std.proofs.lemmas.List.{append-nil, length-replicate, get_or-replicate}
use Rattle.std.proofs.lemmas.List.Elements.{All-nil, All-cons, All-append}
use Rattle.std.proofs.lemmas.Option.{slice_get_within, slice_get-get_or, get_or_from_slice_get}
use Rattle.spec_text.specs.Limits.{line_limit}
use Rattle.spec_text.specs.Lines.{TextState, IsText, IsClean, read_lines}
use Rattle.spec_text.proofs.EditLaws.{All-from_texts}
use Rattle.spec_text.proofs.TextLaws.{IsText-read}
use Rattle.spec_text.specs.Edits.{EditOf, replace, splice, replacement_of}
use Rattle.spec_text.specs.Ranges.{range_of}
use Rattle.spec_state.specs.State.{text_of}
use Rattle.spec_wire.specs.Commands.{CommandOf, edit, undo, redo}
use Rattle.spec_wire.specs.Replies.{RefusalOf, nothing_to_undo, nothing_to_redo}
use Rattle.spec_machine.specs.Machine.{EntryOf, Memory, opened_memory, last_entry, entry_of, undone_to, redone_to, memory_after, memory_behind}
use Rattle.spec_machine.specs.Refusals.{edit_refusal, reason_if}
use Rattle.spec_machine.specs.Sessions.{AcceptsAll}
use Rattle.spec_sample.specs.Sample.{room_height, room_lines, second_cue, sample_lines, lamp_line, told_more, added_lines, edits_down, sample_opened}
use Rattle.spec_sample.specs.Accepted.{sample_locks}
use Rattle.spec_sample.proofs.SampleLaws.{length-sample_lines}
use Rattle.spec_sample.proofs.SampleReading.{IsPlain, clean, told, numbered, plain-rooms, size-plain}
use Rattle.spec_sample.proofs.Places.{Holds, Takes, put-before, put-in, at-front, texts-read}

-- ---- memories whose entries have texts

record HasText (entry : EntryOf) : Type 0 where
  text : IsText (text_of entry.state)

-- A memory with these lines, so few lines and bytes.
record Ready (lines bytes : ℕ) (texts : List (List ℕ)) (memory : Memory) : Type 0 where
  holds : Holds lines bytes texts (text_of memory.state)
  done : All HasText memory.done

-- Accepted commands, and what they leave.
record Done (lines bytes : ℕ) (texts : List (List ℕ)) (memory : Memory) (commands : List CommandOf) : Type 0 where
  accepted : AcceptsAll memory commands
  ready : Ready lines bytes texts (memory_behind memory commands)
  more : length memory.done + length commands ≤ length (memory_behind memory commands).done

more-holds : (lines bytes lines2 bytes2 : ℕ) (texts : List (List ℕ)) (text : TextState) → lines ≤ lines2 → bytes ≤ bytes2 → Holds lines bytes texts text → Holds lines2 bytes2 texts text
more-holds lines bytes lines2 bytes2 texts text few small holds =
    let count = holds.count in
    let size = holds.size in
    let next = holds.next in
    record { is_text = holds.is_text; texts_are = holds.texts_are; count = omega (arith, few, count); size = omega (arith, small, size); next = omega (arith, few, next) }

more-ready : (lines bytes lines2 bytes2 : ℕ) (texts : List (List ℕ)) (memory : Memory) → lines ≤ lines2 → bytes ≤ bytes2 → Ready lines bytes texts memory → Ready lines2 bytes2 texts memory
more-ready lines bytes lines2 bytes2 texts memory few small ready =
    record { holds = more-holds lines bytes lines2 bytes2 texts (text_of memory.state) few small ready.holds; done = ready.done }

-- ---- commands one after another

behind-append : (memory : Memory) (xs ys : List CommandOf) → memory_behind memory (xs ++ ys) ≡ memory_behind (memory_behind memory xs) ys
behind-append memory [] ys = refl
behind-append memory (x ∷ xs) ys = behind-append (memory_after memory x) xs ys

pub accepts-append : (memory : Memory) (xs ys : List CommandOf) → AcceptsAll memory xs → AcceptsAll (memory_behind memory xs) ys → AcceptsAll memory (xs ++ ys)
accepts-append memory [] ys one other = other
accepts-append memory (x ∷ xs) ys one other = (one.0, accepts-append (memory_after memory x) xs ys one.1 other)

done-append : (lines bytes lines2 bytes2 : ℕ) (texts texts2 : List (List ℕ)) (memory : Memory) (xs ys : List CommandOf) → Done lines bytes texts memory xs → Done lines2 bytes2 texts2 (memory_behind memory xs) ys
    → Done lines2 bytes2 texts2 memory (xs ++ ys)
done-append lines bytes lines2 bytes2 texts texts2 memory xs ys one other =
    let same = sym (behind-append memory xs ys) in
    let first = one.more in
    let second = other.more in
    record {
      accepted = accepts-append memory xs ys one.accepted other.accepted;
      ready = subst (Ready lines2 bytes2 texts2) same other.ready;
      more = subst (λ (m : Memory). length memory.done + length (xs ++ ys) ≤ length m.done) same (omega (arith, first, second, length-append xs ys));
    }

done-none : (lines bytes : ℕ) (texts : List (List ℕ)) (memory : Memory) → Ready lines bytes texts memory → Done lines bytes texts memory []
done-none lines bytes texts memory ready = record { accepted = tt; ready = ready; more = omega arith }

-- An edit that nothing refuses.
done-edit : (lines bytes lines2 bytes2 : ℕ) (texts texts2 : List (List ℕ)) (memory : Memory) (it : EditOf) → Ready lines bytes texts memory → Takes (text_of memory.state) it lines2 bytes2 texts2
    → Done lines2 bytes2 texts2 memory (edit it ∷ [])
done-edit lines bytes lines2 bytes2 texts texts2 memory it ready takes =
    let holds = takes.holds memory.state.round in
    let entry = entry_of memory.state (range_of (replacement_of memory.state.lines it)) in
    let own : HasText entry = record { text = ready.holds.is_text } in
    record {
      accepted = (record { free = ap (option_map edit_refusal) takes.free; text = holds.is_text }, tt);
      ready = record { holds = holds; done = All-append HasText memory.done (entry ∷ []) ready.done (All-cons HasText entry [] own (All-nil HasText)) };
      more = omega (arith, length-append memory.done (entry ∷ []));
    }

-- ---- the edits of a room

-- The lines before the one that tells of a room's lamp, that line, and those of the room behind it.
abbrev head_line : ℕ → List ℕ
head_line i = codes "INT. ROOM " ++ decimal i ++ codes " - DAY"

abbrev lamp_text : ℕ → List ℕ
lamp_text i = codes "The lamp in room " ++ decimal i ++ codes " is lit."

abbrev lines_behind : ℕ → List (List ℕ)
lines_behind i = [] ∷ codes "ANNA" ∷ codes "(to BERT)" ∷ (codes "I have counted " ++ decimal i ++ codes " lamps today. They are all lit.") ∷ [] ∷ second_cue i ∷ codes "Count them again." ∷ [] ∷ []

abbrev lines_before : ℕ → List (List ℕ)
lines_before m = sample_lines m ++ (head_line (suc m) ∷ [] ∷ [])

-- The lines of a room stand round its lamp.
room-parts : (m : ℕ) (rest : List (List ℕ)) → sample_lines (suc m) ++ rest ≡ lines_before m ++ (lamp_text (suc m) ∷ (lines_behind (suc m) ++ rest))
room-parts m rest =
    append_assoc (sample_lines m) (room_lines (suc m)) rest
    ∙ sym (append_assoc (sample_lines m) (head_line (suc m) ∷ [] ∷ []) (lamp_text (suc m) ∷ (lines_behind (suc m) ++ rest)))

room-left : (m : ℕ) (back : List (List ℕ)) → lines_before m ++ back ≡ sample_lines m ++ (head_line (suc m) ∷ [] ∷ back)
room-left m back = append_assoc (sample_lines m) (head_line (suc m) ∷ [] ∷ []) back

lamp-place : (m : ℕ) → lamp_line (suc m) ≡ length (lines_before m)
lamp-place m =
    let same : suc m - 1 ≡ m = omega arith in
    ap (λ k. room_height * k + 2) same ∙ omega (arith, length-append (sample_lines m) (head_line (suc m) ∷ [] ∷ []), length-sample_lines m)

-- What is put.
abbrev now_and_then : List ℕ
now_and_then = codes "Now and then. "

abbrev new_line : List ℕ
new_line = codes "A new line of action."

now-clean : IsClean now_and_then
now-clean = clean now_and_then (told now_and_then refl (lit≤ tt))

new-clean : IsClean new_line
new-clean = clean new_line (told new_line refl (lit≤ tt))

ten-clean : All IsClean (replicate 10 new_line)
ten-clean k d inside = subst IsClean (sym (get_or-replicate 10 k new_line d (omega (arith, inside, length-replicate 10 new_line)))) new-clean

ten-short : All (λ (t : List ℕ). length t ≤ line_limit) (replicate 10 new_line)
ten-short k d inside = subst (λ (t : List ℕ). length t ≤ line_limit) (sym (get_or-replicate 10 k new_line d (omega (arith, inside, length-replicate 10 new_line)))) (lit≤ tt)

lamp-plain : (i : ℕ) → i < 10000 → IsPlain (lamp_text i)
lamp-plain i small = numbered i (codes "The lamp in room ") (codes " is lit.") small refl refl (lit≤ tt) (lit≤ tt)

-- What is left before a room's lamp line and from it on.
record Lamp (m lines bytes : ℕ) (memory : Memory) (commands : List CommandOf) : Type 0 where
  back : List (List ℕ)
  done : Done lines bytes (lines_before m ++ back) memory commands

tell : (m lines bytes : ℕ) (rest : List (List ℕ)) (memory : Memory) (b : Bool) → suc m < 10000 → lines ≤ 100000 → bytes ≤ 10000000 → Ready lines bytes (sample_lines (suc m) ++ rest) memory
    → Lamp m (lines + 1) (bytes + 115) memory (cond b (edit (splice (lamp_line (suc m)) 0 0 now_and_then) ∷ []) [])
tell m lines bytes rest memory false few low small ready = record {
  back = lamp_text (suc m) ∷ (lines_behind (suc m) ++ rest);
  done = done-none (lines + 1) (bytes + 115) _ memory
      (subst (λ (ts : List (List ℕ)). Ready (lines + 1) (bytes + 115) ts memory) (room-parts m rest) (more-ready lines bytes (lines + 1) (bytes + 115) (sample_lines (suc m) ++ rest) memory (omega arith) (omega arith) ready));
}
tell m lines bytes rest memory true few low small ready =
    let lamp = lamp_text (suc m) in
    let plain = lamp-plain (suc m) few in
    let short = plain.short in
    let holds = subst (λ (ts : List (List ℕ)). Holds lines bytes ts (text_of memory.state)) (room-parts m rest) ready.holds in
    let takes = put-in (text_of memory.state) lines bytes (lamp_line (suc m)) (lines_before m) (lines_behind (suc m) ++ rest) lamp now_and_then holds (lamp-place m) now-clean (clean lamp plain)
    (omega (arith, short)) (lit< tt) (omega (arith, low)) (omega (arith, small, short)) in
    let done = done-edit lines bytes (lines + 1) (bytes + (length now_and_then + length lamp + 1)) (sample_lines (suc m) ++ rest) _ memory (splice (lamp_line (suc m)) 0 0 now_and_then) ready takes in
    let left = done.ready in
    record {
      back = (now_and_then ++ lamp) ∷ (lines_behind (suc m) ++ rest);
      done = record {
        accepted = done.accepted;
        ready = more-ready (lines + 1) (bytes + (length now_and_then + length lamp + 1)) (lines + 1) (bytes + 115) _ _ (omega arith) (omega (arith, short)) left;
        more = done.more;
      };
    }

add : (m lines bytes : ℕ) (back : List (List ℕ)) (memory : Memory) (b : Bool) → lines ≤ 100000 → bytes ≤ 10000000 → Ready lines bytes (lines_before m ++ back) memory
    → Lamp m (lines + 10) (bytes + 220) memory (cond b (edit (replace (lamp_line (suc m)) 0 (replicate 10 new_line)) ∷ []) [])
add m lines bytes back memory false low small ready = record {
  back = back;
  done = done-none (lines + 10) (bytes + 220) _ memory (more-ready lines bytes (lines + 10) (bytes + 220) (lines_before m ++ back) memory (omega arith) (omega arith) ready);
}
add m lines bytes back memory true low small ready =
    let takes = put-before (text_of memory.state) lines bytes (lamp_line (suc m)) (lines_before m) back (replicate 10 new_line) ready.holds (lamp-place m) ten-clean ten-short
    (omega (arith, low)) (omega (arith, small)) in
    record {
      back = replicate 10 new_line ++ back;
      done = done-edit lines bytes (lines + 10) (bytes + 220) (lines_before m ++ back) _ memory (replace (lamp_line (suc m)) 0 (replicate 10 new_line)) ready takes;
    }

-- ---- the edits of all rooms

record Edited (k : ℕ) (memory : Memory) : Type 0 where
  lines : ℕ
  bytes : ℕ
  texts : List (List ℕ)
  done : Done lines bytes texts memory (edits_down k)
  some : 3 ≤ k → 0 < length (memory_behind memory (edits_down k)).done

three-told : (k : ℕ) → k ≡ 3 → length (told_more k) ≡ 1
three-told k is = ap (λ i. length (told_more i)) is

edits : (k j : ℕ) (rest : List (List ℕ)) (memory : Memory) → k + j ≤ 2000 → Ready (22000 + 11 * j) (2222000 + 335 * j) (sample_lines k ++ rest) memory → Edited k memory
edits zero j rest memory few ready = record {
  lines = 22000 + 11 * j;
  bytes = 2222000 + 335 * j;
  texts = sample_lines zero ++ rest;
  done = done-none (22000 + 11 * j) (2222000 + 335 * j) (sample_lines zero ++ rest) memory ready;
  some = λ many. absurd (omega (arith, many));
}
edits (suc m) j rest memory few ready =
    let lines = 22000 + 11 * j in
    let bytes = 2222000 + 335 * j in
    let one = tell m lines bytes rest memory (suc m % 3 == 0) (omega (arith, few)) (omega (arith, few)) (omega (arith, few)) ready in
    let after = memory_behind memory (told_more (suc m)) in
    let two = add m (lines + 1) (bytes + 115) one.back after (suc m % 10 == 0) (omega (arith, few)) (omega (arith, few)) one.done.ready in
    let last = memory_behind after (added_lines (suc m)) in
    let rest2 = head_line (suc m) ∷ [] ∷ two.back in
    let made = subst (λ (ts : List (List ℕ)). Ready (lines + 1 + 10) (bytes + 115 + 220) ts last) (room-left m two.back) two.done.ready in
    let left : Ready (22000 + 11 * (j + 1)) (2222000 + 335 * (j + 1)) (sample_lines m ++ rest2) last =
    more-ready (lines + 1 + 10) (bytes + 115 + 220) (22000 + 11 * (j + 1)) (2222000 + 335 * (j + 1)) (sample_lines m ++ rest2) last (omega arith) (omega arith) made in
    let later = edits m (j + 1) rest2 last (omega (arith, few)) left in
    let behind = done-append _ _ later.lines later.bytes _ later.texts after (added_lines (suc m)) (edits_down m) two.done later.done in
    let all = done-append _ _ later.lines later.bytes _ later.texts memory (told_more (suc m)) (added_lines (suc m) ++ edits_down m) one.done behind in
    let more = all.more in
    let same = behind-append memory (told_more (suc m)) (added_lines (suc m) ++ edits_down m) ∙ behind-append after (added_lines (suc m)) (edits_down m) in
    record {
      lines = later.lines;
      bytes = later.bytes;
      texts = later.texts;
      done = all;
      some = λ many. elim (cases_eq (suc m) 3) [
        | inl is ↦ omega (arith, more, three-told (suc m) is, length-append (told_more (suc m)) (added_lines (suc m) ++ edits_down m))
        | inr other ↦ subst (λ (m : Memory). 0 < length m.done) (sym same) (later.some (omega (arith, many, other)))
      ];
    }

-- ---- the undo and the redo

last-pushed : (entries : List EntryOf) (entry : EntryOf) → last_entry (entries ++ (entry ∷ [])) ≡ Some entry
last-pushed entries entry =
    let all = entries ++ (entry ∷ []) in
    let size = length-append entries (entry ∷ []) in
    let place : length all - 1 ≡ length entries = omega (arith, size) in
    ap (slice_get all) place ∙ slice_get-get_or all (length entries) entry (omega (arith, size)) ∙ ap (λ (e : EntryOf). Some e) (at-front entries [] entry entry)

-- What an undo leaves can be redone.
record Undone (memory : Memory) : Type 0 where
  text : IsText (text_of memory.state)
  some : 0 < length memory.undone
  again : IsText (text_of (redone_to memory (last_entry memory.undone)).state)

undone : (memory : Memory) (last : Option EntryOf) → last_entry memory.done ≡ last → 0 < length memory.done → IsText (text_of memory.state) → All HasText memory.done → Undone (undone_to memory last)
undone memory None is some text all =
    let any = entry_of memory.state (range_of (record { first = 0; old = 0; texts = [] })) in
    let found = slice_get-get_or memory.done (length memory.done - 1) any (omega (arith, some)) in
    absurd (let bad : ⊥ = cc in bad)
undone memory (Some entry) is some text all =
    let own = subst HasText (get_or_from_slice_get memory.done (length memory.done - 1) entry entry is) (all (length memory.done - 1) entry (slice_get_within memory.done (length memory.done - 1) entry is)) in
    let now = entry_of memory.state entry.range in
    record {
      text = own.text;
      some = omega (arith, length-append memory.undone (now ∷ []));
      again = subst (λ (o : Option EntryOf). IsText (text_of (redone_to (undone_to memory (Some entry)) o).state)) (sym (last-pushed memory.undone now)) text;
    }

none-if : (count : ℕ) (reason : RefusalOf) → 0 < count → reason_if (count == 0) reason ≡ None
none-if count reason some = ap (λ b. reason_if b reason) (ne_eqb count 0 (λ same. omega (arith, same, some)))

undo-redo : (memory : Memory) → 0 < length memory.done → IsText (text_of memory.state) → All HasText memory.done → AcceptsAll memory (undo ∷ redo ∷ [])
undo-redo memory some text all =
    let left = undone memory (last_entry memory.done) refl some text all in (
      record { free = none-if (length memory.done) nothing_to_undo some; text = left.text },
      (record { free = none-if (length (undone_to memory (last_entry memory.done)).undone) nothing_to_redo left.some; text = left.again }, tt),
    )

-- ---- the session behind its locks

pub sample-holds : (n : ℕ) → n ≤ 2000 → Holds 22000 2222000 (sample_lines n) (text_of (sample_opened n))
sample-holds n few =
    let texts = sample_lines n in
    let plain = plain-rooms n (omega (arith, few)) in
    let count = length-sample_lines n in
    let size = size-plain texts plain in
    let clean_texts : All IsClean texts = λ k d inside. clean (get_or texts k d) (plain k d inside) in
    record {
      is_text = IsText-read (text_of (sample_opened n)) texts refl refl (omega (arith, count, few)) (omega (arith, size, count, few))
          (λ k d inside. let it = plain k d inside in let short = it.short in omega (arith, short))
          (All-from_texts IsClean (read_lines texts) (subst (All IsClean) (sym (texts-read 0 texts)) clean_texts));
      texts_are = texts-read 0 texts;
      count = omega (arith, count, few);
      size = omega (arith, size, count, few);
      next = omega (arith, count, few);
    }

-- Of three rooms and more.
pub edits-accepted : (n : ℕ) → 3 ≤ n → n ≤ 2000 → AcceptsAll (memory_behind (opened_memory (sample_opened n)) sample_locks) (edits_down n ++ (undo ∷ redo ∷ []))
edits-accepted n many few =
    let memory = memory_behind (opened_memory (sample_opened n)) sample_locks in
    let holds = subst (λ (ts : List (List ℕ)). Holds 22000 2222000 ts (text_of memory.state)) (sym (append-nil (sample_lines n))) (sample-holds n few) in
    let all = edits n 0 [] memory (omega (arith, few)) (record { holds = holds; done = All-nil HasText }) in
    let after = memory_behind memory (edits_down n) in
    let left = all.done.ready in
    accepts-append memory (edits_down n) (undo ∷ redo ∷ []) all.done.accepted (undo-redo after (all.some many) left.holds.is_text left.done)
