use Rattle.std.proofs.Common.{◌≡◌, ℕ, ◌<◌, false, ◌||◌, get_or, drop}
use Rattle.game.specs.Rules.{among}
use Rattle.closure.proofs.row.Row.of.Given as goal

-- what is marked and what is left of the list give the whole list
abbrev pub invariant-loop-atom : goal.invariant-loop-atom
invariant-loop-atom g l = (k : ℕ) → k < g.row.N → (get_or l.row.marks k false || among k (drop l.atom-index l.atoms)) ≡ among k l.atoms
