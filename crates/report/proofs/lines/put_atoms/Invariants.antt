use Rattle.std.proofs.Common.{◌≡◌, ◌++◌, vec_items}
use Rattle.reading.specs.Tables.{standings}
use Rattle.report.specs.Reported.{atom_lines}
use Rattle.report.proofs.Listing.{left}
use Rattle.report.proofs.lines.put_atoms.Given as goal

-- what is put so far with the lines that are left is what there was with all lines
abbrev pub invariant-loop-i : goal.invariant-loop-i
invariant-loop-i l = vec_items l.lines ++ left l.atoms l.row.marks l.i ≡ vec_items l.initial.lines ++ atom_lines (standings l.atoms) l.row.marks
