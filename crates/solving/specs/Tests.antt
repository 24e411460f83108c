-- Tests on rules and sets that the code runs; the laws tie them to the definitions of the game.
use Rattle.std.specs.Prelude.{ℕ, Bool, true, false, ◌&&◌, ◌||◌, List, [], ◌∷◌}
use Rattle.game.specs.Sets.{Row}
use Rattle.game.specs.Rules.{Head, none, atom, Rule, heads}
use Rattle.game.specs.Derives.{fires}
use Rattle.game.specs.Published.{any_in as published_any_in}

-- some atom of the list is in s
abbrev pub any_in : Row → List ℕ → Bool
any_in s as' = published_any_in s as'

-- a rule without a head is a constraint
abbrev pub constraint : Head → Bool
constraint none = true
constraint (atom a) = false

-- some constraint has none of its negated atoms in x, and all its plain atoms in s
abbrev pub violated_on : List Rule → Row → Row → Bool
violated_on [] x s = false
violated_on (r ∷ rs) x s = (constraint r.head && fires x s r) || violated_on rs x s

-- some constraint has all its plain atoms and none of its negated atoms in s
abbrev pub violated : List Rule → Row → Bool
violated rs s = violated_on rs s s

-- a is the head of a rule that p picks
abbrev pub headed_by : (Rule → Bool) → List Rule → ℕ → Bool
headed_by p [] a = false
headed_by p (r ∷ rs) a = (heads a r.head && p r) || headed_by p rs a

-- a body atom of the rule is in s
abbrev pub touches : Row → Rule → Bool
touches s r = any_in s r.plain || any_in s r.negated
