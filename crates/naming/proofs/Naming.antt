-- From the code's table of atoms to the name of a number.
use Rattle.std.proofs.Common.{◌≡◌, ℕ, ◌<◌, ◌≤◌, List, length, get_or, Some, Ok, sym, ap, ◌∙◌, subst, arith}
use lib.ListN.{length-map}
use Rattle.std.proofs.ByRecursion.{All-get_or}
use Rattle.std.proofs.lemmas.List.{get_or-map}
use Rattle.std.proofs.lemmas.Option.{slice_get-get_or}
use Rattle.reading.specs.declared.table.Atom.{Atom}
use Rattle.reading.specs.Loads.{Three, ThreeRead}
use Rattle.reading.specs.Tables.{standing, standings}
use Rattle.naming.specs.Named.{Placed, Names, Beyond}
use Rattle.naming.proofs.Placing.{placed}

module _ (p f s : List ℕ) (t : Three) (read : ThreeRead p f s (Ok t)) (entries : List Atom) (same : standings entries ≡ t.atoms) (number : ℕ) where
  as_many : length t.atoms ≡ length entries
  as_many = sym (ap length same) ∙ length-map entries standing

  pub beyond : length entries ≤ number → Beyond p f s number
  beyond h = record { three = t; read = read; past = omega (arith, as_many) }

  module _ (d : Atom) (h : number < length entries) where
    has : number < length t.atoms
    has = omega (arith, as_many)

    entry : get_or t.atoms number (standing d) ≡ standing (get_or entries number d)
    entry = ap (λ l. get_or l number (standing d)) (sym same) ∙ get_or-map standing entries number d (standing d) h

    pub names : Names p f s number (standing (get_or entries number d)) (get_or entries number d).name.now
    names =
        let here : Placed p f s (standing (get_or entries number d)) = subst (Placed p f s) entry (All-get_or (Placed p f s) t.atoms number (standing d) has (placed p f s t read)) in
        record {
          three = t;
          read = read;
          numbered = slice_get-get_or t.atoms number (standing d) has ∙ ap Some entry;
          placed = here;
          part = here.part;
        }
