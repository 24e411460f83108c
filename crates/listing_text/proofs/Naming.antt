-- The names of a set's atoms, one after another.
use Rattle.std.proofs.Common.{◌≡◌, ℕ, ◌+◌, ◌<◌, ◌≤◌, true, false, cond, List, [], ◌∷◌, ◌++◌, length, get_or, drop, codes, ap, ◌∙◌, arith}
use Rattle.std.proofs.lemmas.List.{at_drop_more, at_drop_all}
use Rattle.game.specs.Sets.{Row}
use Rattle.reading.specs.declared.table.Atom.{Atom}
use Rattle.reading.specs.Tables.{standings}
use Rattle.listing_text.specs.Lines.{names_from, dotted}

module _ (lead : List ℕ) (as' : List Atom) (i : ℕ) (set : Row) where
  left : List Atom → List ℕ
  left l = dotted lead (names_from i (standings l) set)

  further : List (List ℕ)
  further = names_from (i + 1) (standings (drop (i + 1) as')) set

  pub name_here : (d : Atom) → i < length as' → get_or set i false ≡ true → dotted lead (names_from i (standings (drop i as')) set) ≡ (lead ++ ((get_or as' i d).name.now ++ codes ".")) ++ dotted (codes " ") (names_from (i + 1) (standings (drop (i + 1) as')) set)
  unfolding left further
  name_here d h e = at_drop_more left as' i d h ∙ ap (λ b. dotted lead (cond b ((get_or as' i d).name.now ∷ further) further)) e

  skipped : (d : Atom) → i < length as' → get_or set i false ≡ false → dotted lead (names_from i (standings (drop i as')) set) ≡ dotted lead (names_from (i + 1) (standings (drop (i + 1) as')) set)
  unfolding left further
  skipped d h e = at_drop_more left as' i d h ∙ ap (λ b. dotted lead (cond b ((get_or as' i d).name.now ∷ further) further)) e

  pub names_done : length as' ≤ i → dotted lead (names_from i (standings (drop i as')) set) ≡ []
  unfolding left
  names_done h = at_drop_all left as' i h

-- a list that has an i-th atom has a first one
pub name_on : (lead : List ℕ) (as' : List Atom) (i : ℕ) (set : Row) → i < length as' → get_or set i false ≡ false → dotted lead (names_from i (standings (drop i as')) set) ≡ dotted lead (names_from (i + 1) (standings (drop (i + 1) as')) set)
name_on lead [] i set h e = absurd (omega (arith, h))
name_on lead (x ∷ xs) i set h e = skipped lead (x ∷ xs) i set x h e
