-- How bytes spell tokens: blanks and comments may stand between them, and a name goes as far as it can.
use Rattle.std.specs.Prelude.{◌≡◌, ℕ, ◌≤◌, true, false, List, [], ◌∷◌, ◌++◌, length, codes, ◌≢◌}
use Rattle.std.specs.List.{AllByRecursion}
use Rattle.reading.specs.Classes.{blank, small, name_part}
use Rattle.reading.specs.Lexical.{Word, name, negation, arrow, comma, dot}

-- blanks, and comments from a percent sign to a line feed
pub data Gap : List ℕ → Type 0 where
  none : Gap []
  blanks : {b : ℕ} {bs : List ℕ} → blank b ≡ true → Gap bs → Gap (b ∷ bs)
  comment : {bs : List ℕ} (cs : List ℕ) → AllByRecursion (λ c. c ≢ 10) cs → Gap bs → Gap (37 ∷ (cs ++ 10 ∷ bs))

-- at the end of the text, where a comment may run to the end
pub data LastGap : List ℕ → Type 0 where
  plainly : {bs : List ℕ} → Gap bs → LastGap bs
  in_comment : {bs : List ℕ} (cs : List ℕ) → Gap bs → AllByRecursion (λ c. c ≢ 10) cs → LastGap (bs ++ 37 ∷ cs)

abbrev pub spelling : Word → List ℕ
spelling (name n) = n
spelling negation = codes "not"
spelling arrow = codes ":-"
spelling comma = codes ","
spelling dot = codes "."

abbrev pub NameBytes : List ℕ → Type 0
NameBytes [] = ⊥
NameBytes (b ∷ bs) = (small b ≡ true) × AllByRecursion (λ c. name_part c ≡ true) bs

-- a name starts with a small letter, goes on with letters, digits and underscores, is not `not`, and has at most 32 bytes
abbrev pub Proper : Word → Type 0
Proper (name n) = NameBytes n × (n ≢ codes "not") × (length n ≤ 32)
Proper negation = Unit {0}
Proper arrow = Unit {0}
Proper comma = Unit {0}
Proper dot = Unit {0}

-- the bytes do not go on with a letter, a digit or an underscore
abbrev pub Stops : List ℕ → Type 0
Stops [] = Unit {0}
Stops (b ∷ bs) = name_part b ≡ false

abbrev pub Ends : Word → List ℕ → Type 0
Ends (name n) rest = Stops rest
Ends negation rest = Stops rest
Ends arrow rest = Unit {0}
Ends comma rest = Unit {0}
Ends dot rest = Unit {0}

-- the bytes spell the tokens
pub data Spells : List ℕ → List Word → Type 0 where
  done : {bs : List ℕ} → LastGap bs → Spells bs []
  more : {gap rest : List ℕ} {w : Word} {ws : List Word} → Gap gap → Proper w → Ends w rest → Spells rest ws → Spells (gap ++ (spelling w ++ rest)) (w ∷ ws)
