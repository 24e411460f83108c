use Rattle.std.proofs.Common.{◌≡◌, length, vec_items, vec_capacity}
use Rattle.game.specs.Game.{nothing}
use Rattle.finders.specs.Meanings.{Listed}
use Rattle.finders.proofs.Resting.{rest_of}
use Rattle.programs.specs.Programs.{rules_of}
use Rattle.book.specs.Models.{texts_from, on_from, rows, pairs}
use Rattle.book.proofs.Asking.{SameAsk}
use Rattle.book.proofs.loaded.Loaded.first_winning.Given as goal

abbrev pub invariant-loop-plan : goal.invariant-loop-plan
invariant-loop-plan g l =
    let m = g.F.Finder.meaning l.finder in
    let xs = m.order (rules_of l.self.plan) nothing in
    Listed xs (on_from l.earlier) × SameAsk (texts_from l.self) (rows l.struck) (λ x. m.order (rules_of l.self.faults) x) xs (pairs (vec_items l.initial.sheet)) (rest_of xs (on_from l.earlier)) (pairs (vec_items l.sheet)) × (vec_capacity l.sheet ≡ vec_capacity l.initial.sheet)

abbrev pub decreases-loop-plan : goal.decreases-loop-plan
decreases-loop-plan g l = length (rest_of ((g.F.Finder.meaning l.finder).order (rules_of l.self.plan) nothing) (on_from l.earlier))
