-- The format in the grammar's own words: what a rule is as it is written, and what it says of numbered atoms.
use Rattle.std.specs.Prelude.{ℕ, suc, Bool, false, cond, ◌||◌, List, [], ◌∷◌, ◌++◌, map, Some, None, Option}
use Rattle.std.specs.List.{flat_map}
use Rattle.std.specs.Str.{bytes_eq}
use Rattle.game.specs.Rules.{Head, none, atom, Rule}
use Rattle.reading.specs.Lexical.{Word, name, negation, arrow, comma, dot}

abbrev pub Name : Type 0
Name = List ℕ

-- a literal is a name with at most one `not`
pub data Literal : Type 0 where
  plain : Name → Literal
  negated : Name → Literal

-- a rule is a head alone, or a head or none with `:-` and a body
pub data Written : Type 0 where
  fact : (head : Name) → Written
  rule : (head : Option Name) (body : List Literal) → Written

-- the tokens of each part
abbrev pub literal_words : Literal → List Word
literal_words (plain n) = name n ∷ []
literal_words (negated n) = negation ∷ name n ∷ []

abbrev pub more_words : List Literal → List Word
more_words [] = []
more_words (l ∷ ls) = comma ∷ (literal_words l ++ more_words ls)

-- literals with commas between
abbrev pub body_words : List Literal → List Word
body_words [] = []
body_words (l ∷ ls) = literal_words l ++ more_words ls

abbrev pub head_words : Option Name → List Word
head_words None = []
head_words (Some n) = name n ∷ []

abbrev pub rule_words : Written → List Word
rule_words (fact n) = name n ∷ dot ∷ []
rule_words (rule h b) = head_words h ++ arrow ∷ (body_words b ++ dot ∷ [])

abbrev pub text_words : List Written → List Word
text_words ws = flat_map rule_words ws

abbrev pub body_of : Written → List Literal
body_of (fact n) = []
body_of (rule h b) = b

-- the names of each part, in the order of the text
abbrev pub literal_name : Literal → Name
literal_name (plain n) = n
literal_name (negated n) = n

abbrev pub head_names : Option Name → List Name
head_names None = []
head_names (Some n) = n ∷ []

abbrev pub rule_names : Written → List Name
rule_names (fact n) = n ∷ []
rule_names (rule h b) = head_names h ++ map literal_name b

abbrev pub names : List Written → List Name
names ws = flat_map rule_names ws

-- Atoms are numbered from 0 by first appearance: the table of the different names so far, with the names of one more text.
abbrev pub known : Name → List Name → Bool
known n [] = false
known n (m ∷ ms) = bytes_eq m n || known n ms

abbrev pub with_names : List Name → List Name → List Name
with_names table [] = table
with_names table (n ∷ ns) = with_names (cond (known n table) table (table ++ n ∷ [])) ns

-- a name's place in the table
abbrev pub number : List Name → Name → ℕ
number [] n = 0
number (m ∷ ms) n = cond (bytes_eq m n) 0 (suc (number ms n))

abbrev pub plains : List Name → List Literal → List ℕ
plains table [] = []
plains table (plain n ∷ ls) = number table n ∷ plains table ls
plains table (negated n ∷ ls) = plains table ls

abbrev pub negateds : List Name → List Literal → List ℕ
negateds table [] = []
negateds table (plain n ∷ ls) = negateds table ls
negateds table (negated n ∷ ls) = number table n ∷ negateds table ls

abbrev pub numbered_head : List Name → Option Name → Head
numbered_head table None = none
numbered_head table (Some n) = atom (number table n)

-- what a rule says of numbered atoms
abbrev pub numbered : List Name → Written → Rule
numbered table (fact n) = record { head = atom (number table n); plain = []; negated = [] }
numbered table (rule h b) = record { head = numbered_head table h; plain = plains table b; negated = negateds table b }
