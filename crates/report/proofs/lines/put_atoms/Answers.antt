use Rattle.std.proofs.Common.{[], ◌++◌, vec_items, sym, ap, ◌∙◌, append-nil}
use Rattle.refusals.specs.declared.fault.Text.TheVariants.{Plan}
use Rattle.reading.specs.declared.table.Atom.{Atom}
use Rattle.report.proofs.Listing.{marked, unmarked, none_left, put_line, skip_line}
use Rattle.report.proofs.lines.put_atoms.Goals as goal
use Rattle.report.proofs.lines.put_atoms.Goals.{then-at+in_ok-extend_from_slice+in_ok-extend_from_slice-2, else-at}

-- an atom, for a table's read past its end
nobody : Atom
nobody = record { text = Plan; at = 0; name = record { ref_ptr = (0, 0); now = [] } }

pub loop-i-preserved : goal.loop-i-preserved
loop-i-preserved c =
    elim c.if-at.branch [
      | then-at+in_ok-extend_from_slice+in_ok-extend_from_slice-2 w ↦
          let next = marked c.args.atoms.now c.args.row.now.marks c.loop-i.i _ c.loop-i-test.true (sym w.if-at.ensures) in
          put_line (vec_items c.loop-i.lines) _ _ _ next c.loop-i.invariant w.in_ok-extend_from_slice.ensures.items w.in_ok-extend_from_slice-2.ensures.items (ap vec_items w.lines-is)
      | else-at w ↦
          let next = unmarked c.args.atoms.now c.args.row.now.marks c.loop-i.i nobody c.loop-i-test.true (sym w.if-at.ensures) in
          skip_line (vec_items c.loop-i.lines) _ next c.loop-i.invariant (ap vec_items w.lines-is)
    ]

pub returns : goal.returns
returns c =
    let none = none_left c.args.atoms.now c.args.row.now.marks c.loop-i.i c.loop-i-test.false in
    sym (append-nil (vec_items c.loop-i.lines)) ∙ ap (λ l. vec_items c.loop-i.lines ++ l) (sym none) ∙ c.loop-i.invariant
