use Rattle.std.proofs.Common.{true, ◌||◌, sym, ap}
use Rattle.programs.proofs.Scans.{stops, goes, ends}
use Rattle.game.specs.Published.{any_in}
use Rattle.solving.proofs.literals.some_in.Goals as goal

pub returns-then-has : goal.returns-then-has
returns-then-has g c = stops (any_in c.args.row.now.marks) _ _ c.loop-atom.invariant 0 true c.loop-atom-test.true (λ rest. ap (λ b. b || any_in c.args.row.now.marks rest) (sym c.if-has.ensures))

pub loop-atom-preserved : goal.loop-atom-preserved
loop-atom-preserved g c = goes (any_in c.args.row.now.marks) _ _ c.loop-atom.invariant 0 c.loop-atom-test.true (λ rest. ap (λ b. b || any_in c.args.row.now.marks rest) (sym c.if-has.ensures))

pub returns : goal.returns
returns g c = ends (any_in c.args.row.now.marks) _ _ c.loop-atom.invariant c.loop-atom-test.false
