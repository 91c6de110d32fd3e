-- A walk over the kept bytes of a line, from one mark of a note to the next.
use Rattle.std.specs.Prelude.{◌≡◌, ℕ, Bool, true, false, not, List, [], ◌∷◌, ◌++◌, Option, Some, None, map, length, take, drop, slice_index_or, slice_range, ◌<◌, ◌≤◌, ◌+◌, ◌-◌}
use Rattle.std.specs.List.{sum_by}
use Rattle.std.proofs.Common.{cond, sym, ap, ◌∙◌, append_assoc, arith}
use Rattle.std.proofs.lemmas.List.{at_drop_more, take-map, drop-map, drop-drop}
use Rattle.std.proofs.lemmas.List.Sums.{sum_by-drop_more}
use Rattle.spec_text.specs.Parts.{SpanOf}
use Rattle.spec_script.specs.Marked.{covered, inside_after, open_at, turns_at}
use Rattle.spec_script.specs.Notes.{note_turns}
use Rattle.spec_script.specs.Spans.{span_len, runs_left, cut_spans}
use Rattle.spec_script.proofs.MarkedSteps.{turn-low, covered-turn, covered-on, inside_after-turn, inside_after-on, open_at-turn, open_at-on}

-- The walk stands at a place: the flags made and those to come are the line's, and so are the state and the opening after it.
pub record Noted (text : List ℕ) (began inside : Bool) (opened : Option ℕ) (at : ℕ) (made : List Bool) : Type 0 where
  pub low : at ≤ length text
  pub flags : made ++ covered note_turns inside (drop at text) ≡ covered note_turns began text
  pub state : inside_after note_turns inside (drop at text) ≡ inside_after note_turns began text
  pub opening : open_at note_turns inside opened at (drop at text) ≡ open_at note_turns began None 0 text

-- Behind a mark.
pub noted-turn : (text : List ℕ) (began inside : Bool) (opened next : Option ℕ) (at : ℕ) (made first more : List Bool) → Noted text began inside opened at made → turns_at note_turns inside text at ≡ true → first ≡ made ++ true ∷ [] → more ≡ first ++ true ∷ [] → next ≡ cond inside None (Some at) → Noted text began (not inside) next (at + 2) more
noted-turn text began inside opened next at made first more w t e f o =
    let low = turn-low note_turns inside text at t in
    let rest : List Bool = covered note_turns (not inside) (drop (at + 2) text) in
    record {
      low = omega arith;
      flags = ap (λ (l : List Bool). l ++ rest) (f ∙ ap (λ (l : List Bool). l ++ true ∷ []) e)
          ∙ append_assoc (made ++ true ∷ []) (true ∷ []) rest ∙ append_assoc made (true ∷ []) (true ∷ rest)
          ∙ ap (λ (l : List Bool). made ++ l) (sym (covered-turn note_turns inside text at t)) ∙ w.flags;
      state = sym (inside_after-turn note_turns inside text at t) ∙ w.state;
      opening = ap (λ p. open_at note_turns (not inside) p (at + 2) (drop (at + 2) text)) o
          ∙ sym (open_at-turn note_turns inside opened at text at t) ∙ w.opening;
    }

-- One byte on.
pub noted-on : (text : List ℕ) (began inside : Bool) (opened : Option ℕ) (at : ℕ) (made more : List Bool) → Noted text began inside opened at made → at < length text → turns_at note_turns inside text at ≡ false → more ≡ made ++ inside ∷ [] → Noted text began inside opened (at + 1) more
noted-on text began inside opened at made more w h t e =
    let rest : List Bool = covered note_turns inside (drop (at + 1) text) in
    record {
      low = omega arith;
      flags = ap (λ (l : List Bool). l ++ rest) e ∙ append_assoc made (inside ∷ []) rest
          ∙ ap (λ (l : List Bool). made ++ l) (sym (covered-on note_turns inside text at h t)) ∙ w.flags;
      state = sym (inside_after-on note_turns inside text at h t) ∙ w.state;
      opening = sym (open_at-on note_turns inside opened at text at h t) ∙ w.opening;
    }

-- One part of the kept ones further: its flagged places are added.
pub record Flagged (kept : List SpanOf) (flags : List Bool) (i used : ℕ) (made : List SpanOf) : Type 0 where
  pub all : used + sum_by span_len (drop i kept) ≡ length flags
  pub parts : made ++ cut_spans (drop i kept) (map not (drop used flags)) ≡ cut_spans kept (map not flags)

pub flagged-more : (kept : List SpanOf) (flags : List Bool) (i used : ℕ) (d : SpanOf) (made more : List SpanOf) → Flagged kept flags i used made → i < length kept →
    let span = slice_index_or kept i d in
    more ≡ made ++ runs_left span.0 span.0 (map not (slice_range flags used (used + span_len span))) → Flagged kept flags (i + 1) (used + span_len span) more
flagged-more kept flags i used d made more w h e =
    let span = slice_index_or kept i d in
    let n = span_len span in
    let left = drop used flags in
    let size : used + n - used ≡ n = omega arith in
    let here : List SpanOf = runs_left span.0 span.0 (map not (take n left)) in
    let rest : List SpanOf = cut_spans (drop (i + 1) kept) (map not (drop (used + n) flags)) in
    let step : cut_spans (drop i kept) (map not left) ≡ here ++ rest =
    at_drop_more (λ l. cut_spans l (map not left)) kept i d h
    ∙ ap (λ l. runs_left span.0 span.0 l ++ cut_spans (drop (i + 1) kept) (drop n (map not left))) (take-map not n left)
    ∙ ap (λ l. here ++ cut_spans (drop (i + 1) kept) l) (drop-map not n left ∙ ap (map not) (drop-drop n used flags)) in
    record {
      all = omega (arith, w.all, sum_by-drop_more span_len kept i d h);
      parts = ap (λ (l : List SpanOf). l ++ rest) (e ∙ ap (λ k. made ++ runs_left span.0 span.0 (map not (take k left))) size)
          ∙ append_assoc made here rest ∙ ap (λ (l : List SpanOf). made ++ l) (sym step) ∙ w.parts;
    }
