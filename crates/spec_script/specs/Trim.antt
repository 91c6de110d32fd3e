-- Texts without spaces at their ends, by places in them (docs/RULES.md, "Letter tests").
use Rattle.std.specs.Prelude.{ℕ, ◌+◌, ◌-◌, Bool, ◌==◌, ◌||◌, List, length, max, slice_range}
use Rattle.std.specs.List.{prefix_len, suffix_len}
use Rattle.spec_script.specs.declared.Cut.{Cut}

-- The byte is a space: U+0020 or a tab.
abbrev pub is_space : ℕ → Bool
is_space byte = (byte == 32) || (byte == 9)

-- The whole text.
abbrev pub whole : List ℕ → Cut
whole text = record { from = 0; to = length text }

-- The bytes of a part.
abbrev pub cut_text : List ℕ → Cut → List ℕ
cut_text text cut = slice_range text cut.from cut.to

-- The place of a part's first byte that is no space, or the part's end.
abbrev pub trim_start : List ℕ → Cut → ℕ
trim_start text cut = cut.from + prefix_len is_space (cut_text text cut)

-- The place after a part's last byte that is no space; where it has none, its end.
abbrev pub trim_end : List ℕ → Cut → ℕ
trim_end text cut = max (trim_start text cut) (cut.to - suffix_len is_space (cut_text text cut))

-- A part without spaces at its ends.
abbrev pub trim_cut : List ℕ → Cut → Cut
trim_cut text cut = record { from = trim_start text cut; to = trim_end text cut }

-- A text's part without spaces at its ends.
abbrev pub trim_all : List ℕ → Cut
trim_all text = trim_cut text (whole text)

-- A text without spaces at its ends.
abbrev pub trim : List ℕ → List ℕ
trim text = cut_text text (trim_all text)
