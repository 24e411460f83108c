use Rattle.std.proofs.Common.{ℕ, ◌+◌, List, ◌++◌, drop, vec_items, codes, sym, ap, ◌∙◌, append_assoc, append-nil}
use Rattle.reading.specs.Tables.{standings}
use Rattle.listing_text.specs.Lines.{names_from, dotted}
use Rattle.listing_text.proofs.Naming.{name_here, name_on, names_done}
use Rattle.listing_text.proofs.lines.add_atoms.Goals as goal
use Rattle.listing_text.proofs.lines.add_atoms.Goals.{then-at+in_ok-add_atom, else-at}

pub loop-i-preserved : goal.loop-i-preserved
loop-i-preserved c =
    let i = c.loop-i.i in
    let entries = c.args.entries.now in
    let marks = c.args.set.now.marks in
    let lead = c.loop-i.lead.now in
    let was = vec_items c.loop-i.out in
    let rest : List ℕ → List ℕ = λ l. dotted l (names_from (i + 1) (standings (drop (i + 1) entries)) marks) in
    let here = name_here lead entries i marks _ c.loop-i-test.true in
    let on = name_on lead entries i marks c.loop-i-test.true in
    elim c.if-at.branch [
      | then-at+in_ok-add_atom w ↦
          (λ k. vec_items (w.out-is k) ++ rest (w.lead-is k).now)
          ∙ (ap (λ l. l ++ rest (codes " ")) w.in_ok-add_atom.ensures ∙ (append_assoc was _ (rest (codes " ")) ∙ (sym (ap (λ l. was ++ l) (here (sym c.at.ensures ∙ w.if-at.true))) ∙ c.loop-i.invariant)))
      | else-at w ↦
          (λ k. vec_items (w.out-is k) ++ rest (w.lead-is k).now)
          ∙ (sym (ap (λ l. was ++ l) (on (sym c.at.ensures ∙ w.if-at.false))) ∙ c.loop-i.invariant)
    ]

pub returns : goal.returns
returns c =
    let done = names_done c.loop-i.lead.now c.args.entries.now c.loop-i.i c.args.set.now.marks c.loop-i-test.false in
    sym (append-nil (vec_items c.loop-i.out)) ∙ (sym (ap (λ l. vec_items c.loop-i.out ++ l) done) ∙ c.loop-i.invariant)
