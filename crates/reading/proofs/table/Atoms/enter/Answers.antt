use Rattle.std.proofs.Common.{[], ◌∷◌, Ok, vec_items, sym, refl, ap, ◌∙◌, inr, arith}
use lib.ListN.{length-map}
use Rattle.std.proofs.lemmas.List.{map_push}
use Rattle.std.proofs.lemmas.Slice.{pushed}
use Rattle.reading.specs.Tables.{standing, standings}
use Rattle.reading.proofs.Entering.{index_bound, index_found, index_none, entered_known, entered_new, entered_full}
use Rattle.reading.proofs.table.Atoms.enter.Goals as goal

pub returns-in-Some : goal.returns-in-Some
returns-in-Some c =
    let found = index_found c.args.atom.name.now (vec_items c.args.self.now.entries) c.in-Some.number (sym c.in-Some.ensures) in
    (found.0, entered_known _ _ _ _ found.1)

pub returns-then-number-ge-MOST_ATOMS : goal.returns-then-number-ge-MOST_ATOMS
returns-then-number-ge-MOST_ATOMS c =
    let old = vec_items c.args.self.now.entries in
    inr (entered_full _ _ _ _ (index_none c.args.atom.name.now old (sym c.in_default.ensures)) (omega (arith, length-map old standing, c.args.self.now.entries.ok.0, c.len-number.ensures, c.if-number-ge-MOST_ATOMS.true)))

pub returns : goal.returns
returns c =
    let old = vec_items c.args.self.now.entries in
    let none = index_none c.args.atom.name.now old (sym c.in_default.ensures) in
    let long = length-map old standing in
    let held = c.args.self.now.entries.ok.0 in
    let entry = c.args.atom in (
      omega (arith, none, long, held, index_bound c.args.atom.name.now (standings old), c.len-number.ensures),
      entered_new _ _ _ _ none (omega (arith, long, held, c.len-number.ensures, c.if-number-ge-MOST_ATOMS.false))
          ∙ ap Ok (sym (ap standings (pushed {was = old} {xs = old} (entry ∷ []) refl c.in_ok-push.was c.push.ensures.items) ∙ map_push standing old entry)),
    )
