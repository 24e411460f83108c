-- Where in a rule a text has come to. Reading keeps its phases to itself, so a place stands for the phase after tokens that lead there.
use Rattle.std.proofs.Common.{ℕ, List, [], Some, None}
use Rattle.game.specs.Rules.{Rule}
use Rattle.reading.specs.Lexical.{Word, name, negation, arrow, comma}
use Rattle.reading.specs.Steps.{State, Standing, follow, fresh, no_rule}

pub data Place : Type 0 where
  Start : Place
  AfterHead : Place
  AfterArrow : Place
  AfterNot : Place
  AfterLiteral : Place
  AfterComma : Place

abbrev onward : State → Word → State
onward d w = elim (follow d.phase w) as (λ o. State) [ None ↦ d | Some q ↦ record { phase = q; begun = 0; rule = no_rule; rules = []; places = []; atoms = [] } ]

-- a state in the place's phase
abbrev pub reached : Place → State
reached Start = fresh []
reached AfterHead = onward (fresh []) (name [])
reached AfterArrow = onward (fresh []) arrow
reached AfterNot = onward (onward (fresh []) arrow) negation
reached AfterLiteral = onward (onward (fresh []) arrow) (name [])
reached AfterComma = onward (onward (onward (fresh []) arrow) (name [])) comma

-- what is read, but for the phase
pub record Got : Type 0 where
  pub begun : ℕ
  pub rule : Rule
  pub rules : List Rule
  pub places : List ℕ
  pub atoms : List Standing

abbrev pub state : Place → Got → State
state p g = record { phase = (reached p).phase; begun = g.begun; rule = g.rule; rules = g.rules; places = g.places; atoms = g.atoms }

-- before the first token
abbrev pub none_yet : List Standing → Got
none_yet before = record { begun = 0; rule = no_rule; rules = []; places = []; atoms = before }
