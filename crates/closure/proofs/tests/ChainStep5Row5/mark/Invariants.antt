use Rattle.std.proofs.Common.{◌≡◌, ℕ, ◌+◌, ◌<◌, ◌≤◌, false, ◌||◌, get_or}
use Rattle.closure.proofs.tests.ChainStep5Row5.mark.Given as goal

abbrev pub invariant-loop-a : goal.invariant-loop-a
invariant-loop-a l =
    ((k : ℕ) → k < l.a → get_or l.out.marks k false ≡ (get_or l.initial.out.marks k false || get_or l.from.marks (k + 1) false))
    × ((k : ℕ) → l.a ≤ k → get_or l.out.marks k false ≡ get_or l.initial.out.marks k false)
