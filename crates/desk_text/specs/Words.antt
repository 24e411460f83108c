-- The words of a text, between blanks, and the numbers that they say.
use Rattle.std.specs.Prelude.{ℕ, ◌-◌, ◌^◌, Bool, cond, not, ◌==◌, ◌||◌, ◌&&◌, List, length, take, drop, nat_lt, Some, None, Option, codes}
use Rattle.std.specs.List.{prefix_len, suffix_len, position_or_len, before_first}
use Rattle.std.specs.Str.{bytes_eq, all_ascii_digits}
use Rattle.std.specs.Str.Parse.{digits_value}

-- a space or a tab
abbrev pub is_blank : ℕ → Bool
is_blank b = (b == 32) || (b == 9)

-- without the blanks at its start
abbrev pub unindented : List ℕ → List ℕ
unindented bs = drop (prefix_len is_blank bs) bs

-- without the blanks at its end
abbrev pub unended : List ℕ → List ℕ
unended bs = take (length bs - suffix_len is_blank bs) bs

-- without the blanks at its two ends
abbrev pub trimmed : List ℕ → List ℕ
trimmed bs = unended (unindented bs)

-- up to the first blank behind what stands first
abbrev pub first_word : List ℕ → List ℕ
first_word bs = before_first is_blank (unindented bs)

-- from that blank on
abbrev pub after_word : List ℕ → List ℕ
after_word bs = drop (position_or_len is_blank (unindented bs)) (unindented bs)

-- the number of a word of digits that is below 2 ^ 64
abbrev pub number_said : List ℕ → Option ℕ
number_said word = cond (nat_lt 0 (length word) && all_ascii_digits word && nat_lt (digits_value 10 word) (2 ^ 64)) (Some (digits_value 10 word)) None

-- 1, 2, or 0 for any other word
abbrev pub side_said : List ℕ → ℕ
side_said word = cond (bytes_eq word (codes "1")) 1 (cond (bytes_eq word (codes "2")) 2 0)
