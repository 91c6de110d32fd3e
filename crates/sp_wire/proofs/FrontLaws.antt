-- The front of a reply's line, and the line that it becomes.
use Rattle.std.proofs.Common.{◌≡◌, ℕ, ◌+◌, ◌^◌, ◌<◌, ◌≤◌, Bool, true, false, List, [], ◌∷◌, ◌++◌, length, decimal, refl, ap, sym, subst, ◌∙◌, arith, length-append, append-nil, append_assoc}
use Rattle.std.specs.Prelude.{IsUtf8, codes, if◌then◌else◌, ⊤}
use Rattle.std.specs.declared.cmp.Ordering.TheVariants.{Greater}
use Rattle.std.specs.Ordering.{nat_cmp, match_ordering}
use Rattle.std.specs.Cmp.Lexicographic.{slice_cmp}
use Rattle.json.proofs.OnLiterals.{json_on_literals}
use Rattle.json.proofs.Printed.Utf8.{IsUtf8-are_ascii}
use Rattle.json.specs.Print.{escape, quoted}
use Rattle.serde_json.specs.Data.{Data, object, Members, no_members, member, put}
use Rattle.serde_json.specs.Written.{comma_if, compact_text, members_text}
use Rattle.spec_jsonback.specs.Lists.{number_data}
use Rattle.spec_jsonback.specs.Writable.{Follow, WritableMembers}
use Rattle.spec_jsonback.proofs.ReadBack.{read-written}
use Rattle.spec_jsonback.proofs.Utf8Text.{IsUtf8-written}
use Rattle.spec_wire.specs.Json.{IsLineFor, Reads, line_of}
use Rattle.spec_wire.specs.Replies as replies
use Rattle.spec_wire.specs.Replies.{RefusalOf, ReplyOf, edited, set, scenes, pages, round, saved, refused, shelf, is_refused, reply_members, reply_data, room_members}
use Rattle.spec_wire.specs.Spelling.{ReplyFits}
use Rattle.spec_wire.proofs.Fitting.{Reads-reply, depth-room}
use Rattle.sp_wire.specs.Done.{IsFront, IsPlain, may_have_changed, line_front, unclosed}

-- ---- what is put one behind the other

put-short : (old before text new : List ℕ) (n k : ℕ) → new ≡ old ++ (before ++ text) → length old ≤ n → length text ≤ k → length new ≤ n + (length before + k)
put-short old before text new n k is low few =
    let whole = ap length is in let one = length-append old (before ++ text) in let two = length-append before text in omega (arith, whole, one, two, low, few)

nothing-short : (old : List ℕ) → old ≡ [] → length old ≤ 0
nothing-short old none = let same = ap length none in omega (arith, same)

number-front : (before : List ℕ) (n : ℕ) (old new : List ℕ) → old ≡ [] → new ≡ old ++ (before ++ decimal n) → new ≡ before ++ (decimal n ++ [])
number-front before n old new none is = is ∙ ap (λ xs. xs ++ (before ++ decimal n)) none ∙ ap (λ xs. before ++ xs) (sym (append-nil (decimal n)))

pair-front : (first text second : List ℕ) (n : ℕ) (old mid new : List ℕ) → old ≡ [] → mid ≡ old ++ (first ++ text) → new ≡ mid ++ (second ++ decimal n)
    → new ≡ first ++ (text ++ (second ++ (decimal n ++ [])))
pair-front first text second n old mid new none one two =
    two ∙ ap (λ xs. xs ++ (second ++ decimal n)) (one ∙ ap (λ xs. xs ++ (first ++ text)) none) ∙ append_assoc first text (second ++ decimal n)
    ∙ ap (λ xs. first ++ (text ++ (second ++ xs))) (sym (append-nil (decimal n)))

pub edited-front : (old mid new : List ℕ) (lines sheets : ℕ) → old ≡ [] → mid ≡ old ++ (codes "{\"lines\":" ++ decimal lines) → new ≡ mid ++ (codes ",\"ok\":true,\"sheets\":" ++ decimal sheets)
    → lines < 2 ^ 64 → sheets < 2 ^ 64 → length (decimal lines) ≤ 20 → length (decimal sheets) ≤ 20 → IsFront new (edited lines sheets)
unfolding json_on_literals
edited-front old mid new lines sheets none one two word other few fewer = record {
  is = pair-front (codes "{\"lines\":") (decimal lines) (codes ",\"ok\":true,\"sheets\":") sheets old mid new none one two;
  fits = (word, other);
  short = let low = put-short old (codes "{\"lines\":") (decimal lines) mid 0 20 one (nothing-short old none) few in
      let all = put-short mid (codes ",\"ok\":true,\"sheets\":") (decimal sheets) new 29 20 two low fewer in omega (arith, all);
}

pub set-front : (old new : List ℕ) (sheets : ℕ) → old ≡ [] → new ≡ old ++ (codes "{\"ok\":true,\"sheets\":" ++ decimal sheets) → sheets < 2 ^ 64 → length (decimal sheets) ≤ 20 → IsFront new (set sheets)
unfolding json_on_literals
set-front old new sheets none is word few = record {
  is = number-front (codes "{\"ok\":true,\"sheets\":") sheets old new none is;
  fits = word;
  short = let all = put-short old (codes "{\"ok\":true,\"sheets\":") (decimal sheets) new 0 20 is (nothing-short old none) few in omega (arith, all);
}

pub scenes-front : (old new : List ℕ) (records : ℕ) → old ≡ [] → new ≡ old ++ (codes "{\"ok\":true,\"scenes\":" ++ decimal records) → records < 2 ^ 64 → length (decimal records) ≤ 20 → IsFront new (scenes records)
unfolding json_on_literals
scenes-front old new records none is word few = record {
  is = number-front (codes "{\"ok\":true,\"scenes\":") records old new none is;
  fits = word;
  short = let all = put-short old (codes "{\"ok\":true,\"scenes\":") (decimal records) new 0 20 is (nothing-short old none) few in omega (arith, all);
}

pub pages-front : (old new : List ℕ) (records : ℕ) → old ≡ [] → new ≡ old ++ (codes "{\"ok\":true,\"pages\":" ++ decimal records) → records < 2 ^ 64 → length (decimal records) ≤ 20 → IsFront new (pages records)
unfolding json_on_literals
pages-front old new records none is word few = record {
  is = number-front (codes "{\"ok\":true,\"pages\":") records old new none is;
  fits = word;
  short = let all = put-short old (codes "{\"ok\":true,\"pages\":") (decimal records) new 0 20 is (nothing-short old none) few in omega (arith, all);
}

quoted-short : (text : List ℕ) → IsPlain text → length (quoted text) ≤ 82
quoted-short text plain =
    let short = plain.short in let same = ap length plain.same in let whole = length-append (escape text) (34 ∷ []) in omega (arith, short, same, whole)

pub round-front : (old mid new name : List ℕ) (count : ℕ) → old ≡ [] → mid ≡ old ++ (codes "{\"name\":" ++ quoted name) → new ≡ mid ++ (codes ",\"ok\":true,\"round\":" ++ decimal count)
    → IsPlain name → IsUtf8 name → count < 2 ^ 64 → length (decimal count) ≤ 20 → IsFront new (round name count)
unfolding json_on_literals
round-front old mid new name count none one two plain utf8 word few = record {
  is = pair-front (codes "{\"name\":") (quoted name) (codes ",\"ok\":true,\"round\":") count old mid new none one two;
  fits = (utf8, word);
  short = let low = put-short old (codes "{\"name\":") (quoted name) mid 0 82 one (nothing-short old none) (quoted-short name plain) in
      let all = put-short mid (codes ",\"ok\":true,\"round\":") (decimal count) new 90 20 two low few in omega (arith, all);
}

pub saved-front : (old mid new digest : List ℕ) → old ≡ [] → mid ≡ old ++ (codes "{\"digest\":" ++ quoted digest) → new ≡ mid ++ codes ",\"ok\":true" → IsPlain digest → IsUtf8 digest → IsFront new (saved digest)
unfolding json_on_literals
saved-front old mid new digest none one two plain utf8 = record {
  is = two ∙ ap (λ xs. xs ++ codes ",\"ok\":true") (one ∙ ap (λ xs. xs ++ (codes "{\"digest\":" ++ quoted digest)) none) ∙ append_assoc (codes "{\"digest\":") (quoted digest) (codes ",\"ok\":true");
  fits = utf8;
  short = let low = put-short old (codes "{\"digest\":") (quoted digest) mid 0 82 one (nothing-short old none) (quoted-short digest plain) in
      let whole = ap length two in let both = length-append mid (codes ",\"ok\":true") in omega (arith, low, whole, both);
}

pub shelf-front : (old new : List ℕ) (why : RefusalOf) → may_have_changed (refused why) ≡ true → old ≡ [] → new ≡ old ++ codes "{\"no\":\"Shelf\"" → IsFront new (refused why)
unfolding json_on_literals
shelf-front old new shelf done none is = record {
  is = is ∙ ap (λ xs. xs ++ codes "{\"no\":\"Shelf\"") none;
  fits = tt;
  short = let whole = ap length is in let both = length-append old (codes "{\"no\":\"Shelf\"") in let low = nothing-short old none in omega (arith, whole, both, low);
}
shelf-front old new why done none is = absurd (let bad : ⊥ = cc in bad)

-- ---- the bracket that closes a line

closed : (later : Bool) (ms : Members) → unclosed later ms ++ 125 ∷ [] ≡ members_text later ms
closed later no_members = refl
closed later (member k d ms) =
    append_assoc (comma_if later) (quoted k ++ 58 ∷ (compact_text d ++ unclosed true ms)) (125 ∷ [])
    ∙ ap (λ xs. comma_if later ++ xs) (append_assoc (quoted k) (58 ∷ (compact_text d ++ unclosed true ms)) (125 ∷ [])
    ∙ ap (λ xs. quoted k ++ 58 ∷ xs) (append_assoc (compact_text d) (unclosed true ms) (125 ∷ []) ∙ ap (λ xs. compact_text d ++ xs) (closed true ms)))

closed-line : (ms : Members) → (123 ∷ unclosed false ms) ++ codes "}\n" ≡ line_of (object ms)
closed-line ms = ap (λ xs. 123 ∷ xs) (sym (append_assoc (unclosed false ms) (125 ∷ []) (10 ∷ [])) ∙ ap (λ xs. xs ++ 10 ∷ []) (closed false ms))

pub front-line : (bytes : List ℕ) (reply : ReplyOf) → IsFront bytes reply → IsLineFor (bytes ++ codes "}\n") (reply_data reply)
front-line bytes reply front =
    let is = ap (λ xs. xs ++ codes "}\n") front.is ∙ closed-line (reply_members reply) in
    record { is = is; reads = subst (λ line. Reads line (reply_data reply)) (sym is) (Reads-reply reply front.fits) }

-- ---- a version behind the other members

-- The key stands behind all keys of the members.
abbrev StandsLast : List ℕ → Members → Type 0
StandsLast k no_members = ⊤
StandsLast k (member l e ms) = (slice_cmp nat_cmp k l ≡ Greater) × StandsLast k ms

step-last : (k : List ℕ) (d : Data) (later : Bool) (l : List ℕ) (e : Data) (ms : Members) → slice_cmp nat_cmp k l ≡ Greater
    → unclosed true (put k d ms) ≡ unclosed true ms ++ (44 ∷ (quoted k ++ 58 ∷ (compact_text d ++ [])))
    → unclosed later (put k d (member l e ms)) ≡ unclosed later (member l e ms) ++ (44 ∷ (quoted k ++ 58 ∷ (compact_text d ++ [])))
step-last k d later l e ms above rest =
    let tail = 44 ∷ (quoted k ++ 58 ∷ (compact_text d ++ [])) in
    ap (λ order. unclosed later (match_ordering order (member k d (member l e ms)) (member l d ms) (member l e (put k d ms)))) above
    ∙ ap (λ xs. comma_if later ++ (quoted l ++ 58 ∷ (compact_text e ++ xs))) rest
    ∙ sym (append_assoc (comma_if later) (quoted l ++ 58 ∷ (compact_text e ++ unclosed true ms)) tail
    ∙ ap (λ xs. comma_if later ++ xs) (append_assoc (quoted l) (58 ∷ (compact_text e ++ unclosed true ms)) tail
    ∙ ap (λ xs. quoted l ++ 58 ∷ xs) (append_assoc (compact_text e) (unclosed true ms) tail)))

tail-last : (k : List ℕ) (d : Data) (ms : Members) → StandsLast k ms → unclosed true (put k d ms) ≡ unclosed true ms ++ (44 ∷ (quoted k ++ 58 ∷ (compact_text d ++ [])))
tail-last k d no_members last = refl
tail-last k d (member l e ms) last = step-last k d true l e ms last.0 (tail-last k d ms last.1)

abbrev HasMember : Members → Type 0
HasMember no_members = ⊥
HasMember (member k d ms) = ⊤

front-last : (k : List ℕ) (d : Data) (ms : Members) → HasMember ms → StandsLast k ms → unclosed false (put k d ms) ≡ unclosed false ms ++ (44 ∷ (quoted k ++ 58 ∷ (compact_text d ++ [])))
front-last k d no_members some last = absurd some
front-last k d (member l e ms) some last = step-last k d false l e ms last.0 (tail-last k d ms last.1)

-- Such a reply's line in a room, which tells the version last.
record InRoom (reply : ReplyOf) (version : ℕ) : Type 0 where
  front : unclosed false (room_members reply version) ≡ unclosed false (reply_members reply) ++ (codes ",\"version\":" ++ (decimal version ++ []))
  keys : Follow no_members (room_members reply version)
  writable : ReplyFits reply → version < 2 ^ 64 → WritableMembers (room_members reply version)

in-room : (reply : ReplyOf) (version : ℕ) → may_have_changed reply ≡ true → is_refused reply ≡ false → InRoom reply version
unfolding json_on_literals
in-room (edited lines sheets) version done free = record {
  front = front-last (codes "version") (number_data version) (reply_members (edited lines sheets)) tt (refl, (refl, (refl, tt)));
  keys = (
    IsUtf8-are_ascii (codes "lines") refl,
    tt,
    (
      IsUtf8-are_ascii (codes "ok") refl,
      (refl, tt),
      (
        IsUtf8-are_ascii (codes "sheets") refl,
        (refl, (refl, tt)),
        (IsUtf8-are_ascii (codes "version") refl, (refl, (refl, (refl, tt))), tt),
      ),
    ),
  );
  writable = λ fits word. (fits.0, (tt, (fits.1, (word, tt))));
}
in-room (set sheets) version done free = record {
  front = front-last (codes "version") (number_data version) (reply_members (set sheets)) tt (refl, (refl, tt));
  keys = (IsUtf8-are_ascii (codes "ok") refl, tt, (IsUtf8-are_ascii (codes "sheets") refl, (refl, tt), (IsUtf8-are_ascii (codes "version") refl, (refl, (refl, tt)), tt)));
  writable = λ fits word. (tt, (fits, (word, tt)));
}
in-room (scenes records) version done free = record {
  front = front-last (codes "version") (number_data version) (reply_members (scenes records)) tt (refl, (refl, tt));
  keys = (IsUtf8-are_ascii (codes "ok") refl, tt, (IsUtf8-are_ascii (codes "scenes") refl, (refl, tt), (IsUtf8-are_ascii (codes "version") refl, (refl, (refl, tt)), tt)));
  writable = λ fits word. (tt, (fits, (word, tt)));
}
in-room (pages records) version done free = record {
  front = front-last (codes "version") (number_data version) (reply_members (pages records)) tt (refl, (refl, tt));
  keys = (IsUtf8-are_ascii (codes "ok") refl, tt, (IsUtf8-are_ascii (codes "pages") refl, (refl, tt), (IsUtf8-are_ascii (codes "version") refl, (refl, (refl, tt)), tt)));
  writable = λ fits word. (tt, (fits, (word, tt)));
}
in-room (round name count) version done free = record {
  front = front-last (codes "version") (number_data version) (reply_members (round name count)) tt (refl, (refl, (refl, tt)));
  keys = (
    IsUtf8-are_ascii (codes "name") refl,
    tt,
    (
      IsUtf8-are_ascii (codes "ok") refl,
      (refl, tt),
      (
        IsUtf8-are_ascii (codes "round") refl,
        (refl, (refl, tt)),
        (IsUtf8-are_ascii (codes "version") refl, (refl, (refl, (refl, tt))), tt),
      ),
    ),
  );
  writable = λ fits word. (fits.0, (tt, (fits.1, (word, tt))));
}
in-room (saved digest) version done free = record {
  front = front-last (codes "version") (number_data version) (reply_members (saved digest)) tt (refl, (refl, tt));
  keys = (IsUtf8-are_ascii (codes "digest") refl, tt, (IsUtf8-are_ascii (codes "ok") refl, (refl, tt), (IsUtf8-are_ascii (codes "version") refl, (refl, (refl, tt)), tt)));
  writable = λ fits word. (fits, (tt, (word, tt)));
}
in-room (refused why) version done free = absurd (let bad : ⊥ = cc in bad)
in-room (replies.sheet label count text) version done free = absurd (let bad : ⊥ = cc in bad)
in-room (replies.labels texts) version done free = absurd (let bad : ⊥ = cc in bad)
in-room (replies.blocks its) version done free = absurd (let bad : ⊥ = cc in bad)
in-room (replies.outline text) version done free = absurd (let bad : ⊥ = cc in bad)
in-room (replies.packet sheets) version done free = absurd (let bad : ⊥ = cc in bad)

pub front-room : (bytes : List ℕ) (reply : ReplyOf) (version : ℕ) → may_have_changed reply ≡ true → is_refused reply ≡ false → version < 2 ^ 64 → IsFront bytes reply
    → IsLineFor ((bytes ++ (codes ",\"version\":" ++ decimal version)) ++ codes "}\n") (object (room_members reply version))
front-room bytes reply version done free word front =
    let ms = room_members reply version in
    let it = in-room reply version done free in
    let behind = ap (λ xs. xs ++ (codes ",\"version\":" ++ decimal version)) front.is ∙ ap (λ xs. line_front reply ++ (codes ",\"version\":" ++ xs)) (sym (append-nil (decimal version))) ∙ ap (λ xs. 123 ∷ xs) (sym it.front) in
    let is = ap (λ xs. xs ++ codes "}\n") behind ∙ closed-line ms in
    record {
      is = is;
      reads = subst (λ line. Reads line (object ms)) (sym is) (record {
        utf8 = IsUtf8-written (object ms) (it.keys, it.writable front.fits word);
        value = read-written (object ms) (it.keys, it.writable front.fits word) (let low = depth-room reply version in omega (arith, low));
      });
    }

-- A refusal's line in a room tells no version.
pub front-refused : (bytes : List ℕ) (reply : ReplyOf) (version : ℕ) → is_refused reply ≡ true → IsFront bytes reply → IsLineFor (bytes ++ codes "}\n") (object (room_members reply version))
front-refused bytes reply version refuses front =
    subst (λ (b : Bool). IsLineFor (bytes ++ codes "}\n") (object (if b then reply_members reply else put (codes "version") (number_data version) (reply_members reply)))) (sym refuses)
    (front-line bytes reply front)
