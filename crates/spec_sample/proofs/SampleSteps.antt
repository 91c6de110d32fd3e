-- A sample of one room more, and the text of a room.
use Rattle.std.proofs.Common.{◌≡◌, ℕ, suc, ◌+◌, ◌-◌, ◌<◌, List, ◌++◌, ap, sym, ◌∙◌, append_assoc, add-one, arith}
use Rattle.std.specs.Prelude.{codes, decimal}
use Rattle.std.specs.List.{flat_map}
use Rattle.std.proofs.lemmas.Grind.{flat_map-append}
use Rattle.spec_wire.specs.Commands.{CommandOf}
use Rattle.spec_sample.specs.Sample.{ended_line, room_lines, sample_lines, sample_script, second_cue, told_more, added_lines, edits_down}

script-suc : (n : ℕ) → sample_script (suc n) ≡ sample_script n ++ flat_map ended_line (room_lines (suc n))
script-suc n = flat_map-append ended_line (sample_lines n) (room_lines (suc n))

pub sample_script-more : (n : ℕ) → sample_script (n + 1) ≡ sample_script n ++ flat_map ended_line (room_lines (n + 1))
sample_script-more n = rw add-one (script-suc n)

-- The edits of the last room come first.
edits-suc : (n : ℕ) → edits_down (suc n) ≡ (told_more (suc n) ++ added_lines (suc n)) ++ edits_down n
edits-suc n = sym (append_assoc (told_more (suc n)) (added_lines (suc n)) (edits_down n))

edits_down-last : (n m : ℕ) → n ≡ m + 1 → edits_down n ≡ (told_more n ++ added_lines n) ++ edits_down m
edits_down-last n m is = let e : n ≡ suc m = omega arith in rw e (edits-suc m)

pieces : (front d cue n a b c e f x g h : List ℕ)
    → (((((front ++ (a ++ d)) ++ ((b ++ (n ++ (n ++ c))) ++ d)) ++ ((e ++ (n ++ (n ++ (f ++ x)))) ++ d)) ++ (g ++ (n ++ n))) ++ cue) ++ (n ++ (h ++ (n ++ n)))
    ≡ front ++ ((((a ++ d) ++ b) ++ n) ++ (n ++ ((((c ++ d) ++ e) ++ n) ++ (n ++ (f ++ ((((x ++ d) ++ g) ++ n) ++ (n ++ ((cue ++ n) ++ ((h ++ n) ++ n)))))))))
pieces front d cue n a b c e f x g h = simp append_assoc

pub edits-more : (front more all : List CommandOf) (n behind : ℕ) → behind < n → front ++ edits_down (n - behind) ≡ all → more ≡ front ++ (told_more (n - behind) ++ added_lines (n - behind)) → more ++ edits_down (n - (behind + 1)) ≡ all
edits-more front more all n behind inside so_far is =
    let left = edits_down (n - (behind + 1)) in
    ap (λ xs. xs ++ left) is ∙ append_assoc front (told_more (n - behind) ++ added_lines (n - behind)) left
    ∙ ap (λ xs. front ++ xs) (sym (edits_down-last (n - behind) (n - (behind + 1)) (omega arith))) ∙ so_far

room-pieces : (i : ℕ) (front : List ℕ)
    → (((((front ++ (codes "INT. ROOM " ++ decimal i)) ++ (codes " - DAY\n\nThe lamp in room " ++ decimal i)) ++ (codes " is lit.\n\nANNA\n(to BERT)\nI have counted " ++ decimal i)) ++ codes " lamps today. They are all lit.\n\n") ++ second_cue i) ++ codes "\nCount them again.\n\n"
    ≡ front ++ flat_map ended_line (room_lines i)
room-pieces i front = pieces front (decimal i) (second_cue i) (codes "\n") (codes "INT. ROOM ") (codes " - DAY") (codes "The lamp in room ") (codes " is lit.") (codes "ANNA\n(to BERT)\n") (codes "I have counted ") (codes " lamps today. They are all lit.") (codes "Count them again.")

room-put : (i : ℕ) (front a b c d e f cue : List ℕ) → a ≡ front ++ (codes "INT. ROOM " ++ decimal i) → b ≡ a ++ (codes " - DAY\n\nThe lamp in room " ++ decimal i)
    → c ≡ b ++ (codes " is lit.\n\nANNA\n(to BERT)\nI have counted " ++ decimal i) → d ≡ c ++ codes " lamps today. They are all lit.\n\n" → cue ≡ second_cue i → e ≡ d ++ cue
    → f ≡ e ++ codes "\nCount them again.\n\n" → f ≡ front ++ flat_map ended_line (room_lines i)
room-put i front a b c d e f cue is_a is_b is_c is_d is_cue is_e is_f =
    let to_c = is_c ∙ ap (λ xs. xs ++ (codes " is lit.\n\nANNA\n(to BERT)\nI have counted " ++ decimal i)) (is_b ∙ ap (λ xs. xs ++ (codes " - DAY\n\nThe lamp in room " ++ decimal i)) is_a) in
    let to_d = is_d ∙ ap (λ xs. xs ++ codes " lamps today. They are all lit.\n\n") to_c in
    let to_e = is_e ∙ ap (λ xs. xs ++ cue) to_d ∙ ap (λ xs. ((((front ++ (codes "INT. ROOM " ++ decimal i)) ++ (codes " - DAY\n\nThe lamp in room " ++ decimal i)) ++ (codes " is lit.\n\nANNA\n(to BERT)\nI have counted " ++ decimal i)) ++ codes " lamps today. They are all lit.\n\n") ++ xs) is_cue in
    is_f ∙ ap (λ xs. xs ++ codes "\nCount them again.\n\n") to_e ∙ room-pieces i front

-- The text of a room, put behind a script piece by piece.
pub room-added : (i number : ℕ) → number ≡ i → (front a b c d e f cue : List ℕ) → a ≡ front ++ (codes "INT. ROOM " ++ decimal number) → b ≡ a ++ (codes " - DAY\n\nThe lamp in room " ++ decimal number)
    → c ≡ b ++ (codes " is lit.\n\nANNA\n(to BERT)\nI have counted " ++ decimal number) → d ≡ c ++ codes " lamps today. They are all lit.\n\n" → cue ≡ second_cue i → e ≡ d ++ cue
    → f ≡ e ++ codes "\nCount them again.\n\n" → f ≡ front ++ flat_map ended_line (room_lines i)
room-added i number same front a b c d e f cue is_a is_b is_c is_d is_cue is_e is_f =
    room-put number front a b c d e f cue is_a is_b is_c is_d (is_cue ∙ ap second_cue (sym same)) is_e is_f ∙ ap (λ k. front ++ flat_map ended_line (room_lines k)) same
