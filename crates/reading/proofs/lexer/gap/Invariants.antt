use Rattle.std.proofs.Common.{◌≡◌, ◌+◌, false, drop}
use Rattle.reading.specs.Lexical.{gap}
use Rattle.reading.proofs.lexer.gap.Given as goal

abbrev pub invariant-loop-i : goal.invariant-loop-i
invariant-loop-i l = l.i + gap l.comment (drop l.i l.bytes) ≡ gap false l.bytes
