use Rattle.std.proofs.Common.{false, ◌&&◌, sym, ap}
use Rattle.game.specs.Derives.{all_in}
use Rattle.programs.proofs.Scans.{stops, goes, ends}
use Rattle.solving.proofs.literals.all_in.Goals as goal

pub returns-then-not-has : goal.returns-then-not-has
returns-then-not-has g c = stops (all_in c.args.row.now.marks) _ _ c.loop-atom.invariant 0 false c.loop-atom-test.true (λ rest. ap (λ b. b && all_in c.args.row.now.marks rest) (sym c.if-not-has.ensures))

pub loop-atom-preserved : goal.loop-atom-preserved
loop-atom-preserved g c = goes (all_in c.args.row.now.marks) _ _ c.loop-atom.invariant 0 c.loop-atom-test.true (λ rest. ap (λ b. b && all_in c.args.row.now.marks rest) (sym c.if-not-has.ensures))

pub returns : goal.returns
returns g c = ends (all_in c.args.row.now.marks) _ _ c.loop-atom.invariant c.loop-atom-test.false
