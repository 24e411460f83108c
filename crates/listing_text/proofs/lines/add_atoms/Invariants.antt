use Rattle.std.proofs.Common.{◌≡◌, ◌++◌, drop, vec_items}
use Rattle.reading.specs.Tables.{standings}
use Rattle.listing_text.specs.Lines.{names_from, dotted}
use Rattle.listing_text.proofs.lines.add_atoms.Given as goal

-- what is written, with what is left to write, is the whole
abbrev pub invariant-loop-i : goal.invariant-loop-i
invariant-loop-i l = vec_items l.out ++ dotted l.lead (names_from l.i (standings (drop l.i l.entries)) l.set.marks) ≡ vec_items l.initial.out ++ dotted l.initial.lead (names_from 0 (standings l.entries) l.set.marks)
