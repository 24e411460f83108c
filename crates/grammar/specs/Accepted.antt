-- A text is read without refusal exactly when its bytes spell a list of rules within the limits.
use Rattle.std.specs.Prelude.{◌≡◌, ℕ, ◌≤◌, List, map, length, Ok, Result}
use Rattle.std.specs.List.{AllByRecursion}
use Rattle.refusals.specs.declared.fault.Text.{Text}
use Rattle.refusals.specs.declared.fault.Fault.{Fault}
use Rattle.reading.specs.Steps.{State, Standing, TextRead}
use Rattle.grammar.specs.Grammar.{Name, Written, text_words, body_of, names, with_names, numbered}
use Rattle.grammar.specs.Spelling.{Spells}

-- the text is these rules, within the limits on one text
pub record Spelled (text : List ℕ) (ws : List Written) : Type 0 where
  pub short : length text ≤ 16384
  pub spells : Spells text (text_words ws)
  pub few : length ws ≤ 256
  pub bodies : AllByRecursion (λ w. length (body_of w) ≤ 16) ws

abbrev pub name_of : Standing → Name
name_of s = s.name

abbrev pub table : List Standing → List Name
table ss = map name_of ss

-- what is read of the rules: the atoms' names by first appearance, and the rules over their numbers
pub record Says (before : List Standing) (ws : List Written) (d : State) : Type 0 where
  pub atoms : table d.atoms ≡ with_names (table before) (names ws)
  pub rules : d.rules ≡ map (numbered (table d.atoms)) ws

-- every text that is read is so spelled
abbrev pub ReadIsSpelled : Type 0
ReadIsSpelled =
    (t : Text) (text : List ℕ) (before : List Standing) (d : State) → length before ≤ 96 → TextRead t text before (Ok d) →
    (ws : List Written) × Spelled text ws × (length (with_names (table before) (names ws)) ≤ 96) × Says before ws d

-- every text that is so spelled is read
abbrev pub SpelledIsRead : Type 0
SpelledIsRead =
    (t : Text) (text : List ℕ) (before : List Standing) (ws : List Written) → Spelled text ws → length (with_names (table before) (names ws)) ≤ 96 →
    (d : State) × TextRead t text before (Ok d) × Says before ws d

-- a text has one reading at most, and one at least
abbrev pub OneReading : Type 0
OneReading =
    ((t : Text) (text : List ℕ) (before : List Standing) (r r' : Result State Fault) → TextRead t text before r → TextRead t text before r' → r ≡ r')
    × ((t : Text) (text : List ℕ) (before : List Standing) → (r : Result State Fault) × TextRead t text before r)
