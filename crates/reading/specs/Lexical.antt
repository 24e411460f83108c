-- Which token stands where in a text, by its bytes.
use Rattle.std.specs.Prelude.{ℕ, suc, ◌+◌, Bool, true, false, cond, not, List, [], ◌∷◌, take, drop, codes, ◌==◌, nat_le}
use Rattle.std.specs.Str.{bytes_eq}
use Rattle.reading.specs.Classes.{blank, small, name_part}

-- how many bytes at the front are blanks and comments; `true` where the front is inside a comment
abbrev pub gap : Bool → List ℕ → ℕ
gap inside [] = 0
gap false (b ∷ bs) = cond (blank b) (suc (gap false bs)) (cond (b == 37) (suc (gap true bs)) 0)
gap true (b ∷ bs) = suc (gap (not (b == 10)) bs)

-- how many bytes at the front are letters, digits and underscores
abbrev pub run : List ℕ → ℕ
run [] = 0
run (b ∷ bs) = cond (name_part b) (suc (run bs)) 0

pub data Word : Type 0 where
  name : List ℕ → Word
  negation : Word
  arrow : Word
  comma : Word
  dot : Word

-- what comes next in a text
pub data Lexed : Type 0 where
  end : Lexed
  no_token : (at : ℕ) → Lexed
  long_name : (at : ℕ) → Lexed
  token : (at after : ℕ) → Word → Lexed

-- the word of n bytes at the front of the bytes, which stand at `at`
abbrev pub word : ℕ → ℕ → List ℕ → Lexed
word at n bs = cond (nat_le n 32) (cond (bytes_eq (take n bs) (codes "not")) (token at (at + n) negation) (token at (at + n) (name (take n bs)))) (long_name at)

-- what follows a colon at `at`
abbrev pub colon : ℕ → List ℕ → Lexed
colon at [] = no_token at
colon at (b ∷ bs) = cond (b == 45) (token at (at + 2) arrow) (no_token at)

-- what stands at the front of the bytes, which stand at `at`
abbrev pub front : ℕ → List ℕ → Lexed
front at [] = end
front at (b ∷ bs) = cond (b == 44) (token at (at + 1) comma) (cond (b == 46) (token at (at + 1) dot) (cond (b == 58) (colon at bs) (cond (small b) (word at (suc (run bs)) (b ∷ bs)) (no_token at))))

-- where the blanks and comments from a place on end
abbrev pub past_gap : List ℕ → ℕ → ℕ
past_gap text from = from + gap false (drop from text)

-- what comes next in the text from a place on
unfoldable pub lexed : List ℕ → ℕ → Lexed
lexed text from = front (past_gap text from) (drop (past_gap text from) text)
