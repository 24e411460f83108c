use Rattle.std.proofs.Common.{◌≡◌, drop}
use Rattle.game.specs.Derives.{all_in}
use Rattle.solving.proofs.literals.all_in.Given as goal

abbrev pub invariant-loop-atom : goal.invariant-loop-atom
invariant-loop-atom g l = all_in l.row.marks (drop l.atom-index l.atoms) ≡ all_in l.row.marks l.atoms
