use Rattle.std.proofs.Common.{length}
use Rattle.game.specs.Game.{Beats}
use Rattle.finders.specs.Meanings.{Listed}
use Rattle.finders.proofs.Resting.{rest_of}
use Rattle.programs.specs.Programs.{rules_of}
use Rattle.book.specs.Models.{texts_from, on_from}
use Rattle.book.proofs.Firsts.{SameFrom}
use Rattle.book.proofs.loaded.Loaded.first_beating.Given as goal

abbrev pub invariant-loop-reply : goal.invariant-loop-reply
invariant-loop-reply g l = let xs = (g.F.Finder.meaning l.finder).order (rules_of l.self.faults) l.plan.marks in Listed xs (on_from l.earlier) × SameFrom (Beats (texts_from l.self) l.plan.marks) xs (rest_of xs (on_from l.earlier))

abbrev pub decreases-loop-reply : goal.decreases-loop-reply
decreases-loop-reply g l = length (rest_of ((g.F.Finder.meaning l.finder).order (rules_of l.self.faults) l.plan.marks) (on_from l.earlier))
