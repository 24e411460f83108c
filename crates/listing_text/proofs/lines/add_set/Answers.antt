use Rattle.std.proofs.Common.{[], ◌++◌, vec_items, codes, ap, ◌∙◌, append_assoc}
use Rattle.reading.specs.Tables.{standings}
use Rattle.listing_text.specs.Lines.{names_from, dotted}
use Rattle.listing_text.proofs.lines.add_set.Goals as goal

pub returns : goal.returns
returns c =
    let was = vec_items c.args.out.now in
    let marks = c.args.set.now.marks in
    c.in_ok-extend_from_slice.ensures.items
    ∙ (ap (λ l. l ++ codes "\n") c.in_ok-add_atoms.ensures ∙ (append_assoc was _ (codes "\n") ∙ ap (λ es. was ++ (dotted [] (names_from 0 (standings es) marks) ++ codes "\n")) c.entries.ensures))
