use Rattle.std.proofs.Common.{◌≡◌, ℕ, ◌<◌, ◌≤◌, false, cond, length, get_or}
use Rattle.closure.proofs.row.Row.laid.Given as goal

abbrev pub invariant-loop-i : goal.invariant-loop-i
invariant-loop-i g l =
    (length l.marks ≡ g.row.N)
    × ((k : ℕ) → k < l.i → get_or l.marks k false ≡ cond (get_or l.other.marks k false) l.mark (get_or l.self.marks k false))
    × ((k : ℕ) → l.i ≤ k → get_or l.marks k false ≡ get_or l.self.marks k false)
