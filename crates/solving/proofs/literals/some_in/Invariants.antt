use Rattle.std.proofs.Common.{◌≡◌, drop}
use Rattle.game.specs.Published.{any_in}
use Rattle.solving.proofs.literals.some_in.Given as goal

abbrev pub invariant-loop-atom : goal.invariant-loop-atom
invariant-loop-atom g l = any_in l.row.marks (drop l.atom-index l.atoms) ≡ any_in l.row.marks l.atoms
