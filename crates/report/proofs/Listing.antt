-- The lines of the marked atoms, one atom at a time.
use Rattle.std.proofs.Common.{◌≡◌, ℕ, ◌+◌, ◌<◌, ◌≤◌, Bool, true, false, cond, List, [], ◌∷◌, ◌++◌, length, get_or, drop, codes, sym, refl, ap, ◌∙◌, ap₂, append_assoc, add-zero}
use Rattle.std.proofs.lemmas.List.{drop_more, drop-drop, get_or-drop, at_drop_all}
use Rattle.reading.specs.declared.table.Atom.{Atom}
use Rattle.reading.specs.Steps.{Standing}
use Rattle.reading.specs.Tables.{standing, standings}
use Rattle.report.specs.Reported.{atom_lines}

no_marks : (xs : List Standing) → atom_lines xs [] ≡ []
no_marks [] = refl
no_marks (x ∷ xs) = refl

-- an atom's line, where it is marked
abbrev line : Bool → Standing → List ℕ
line m x = cond m (x.name ++ codes ".\n") []

first_line : (x : Standing) (xs : List Standing) (marks : List Bool) → atom_lines (x ∷ xs) marks ≡ line (get_or marks 0 false) x ++ atom_lines xs (drop 1 marks)
first_line x xs [] = sym (no_marks xs)
first_line x xs (m ∷ marks) = refl

module _ (atoms : List Atom) (marks : List Bool) (i : ℕ) where
  -- the lines of the atoms from i on
  abbrev pub left : List ℕ
  left = atom_lines (standings (drop i atoms)) (drop i marks)

  module _ (d : Atom) (h : i < length atoms) where
    here : Standing
    here = standing (get_or atoms i d)

    one : left ≡ line (get_or marks i false) here ++ atom_lines (standings (drop (i + 1) atoms)) (drop (i + 1) marks)
    unfolding here
    one =
        ap (λ l. atom_lines (standings l) (drop i marks)) (drop_more atoms i d h)
        ∙ first_line (standing (get_or atoms i d)) (standings (drop (i + 1) atoms)) (drop i marks)
        ∙ ap₂ (λ m l. line m (standing (get_or atoms i d)) ++ atom_lines (standings (drop (i + 1) atoms)) l) (get_or-drop i marks 0 false ∙ ap (λ k. get_or marks k false) (add-zero i)) (drop-drop 1 i marks)

    pub unmarked : get_or marks i false ≡ false → left ≡ atom_lines (standings (drop (i + 1) atoms)) (drop (i + 1) marks)
    unmarked e = one ∙ ap (λ m. line m here ++ atom_lines (standings (drop (i + 1) atoms)) (drop (i + 1) marks)) e

    pub marked : get_or marks i false ≡ true → left ≡ ((get_or atoms i d).name.now ++ codes ".\n") ++ atom_lines (standings (drop (i + 1) atoms)) (drop (i + 1) marks)
    unfolding here
    marked e = one ∙ ap (λ m. line m here ++ atom_lines (standings (drop (i + 1) atoms)) (drop (i + 1) marks)) e

  pub none_left : length atoms ≤ i → left ≡ []
  none_left h = at_drop_all (λ l. atom_lines (standings l) (drop i marks)) atoms i h

-- a line that is put piece by piece is taken from the lines that are left
pub put_line : (was name dot rest : List ℕ) {half done after left whole : List ℕ} → left ≡ (name ++ dot) ++ rest → was ++ left ≡ whole → half ≡ was ++ name → done ≡ half ++ dot → after ≡ done → after ++ rest ≡ whole
put_line was name dot rest next inv first second same =
    let a = append_assoc (was ++ name) dot rest in
    let b = append_assoc was name (dot ++ rest) in
    let e = append_assoc name dot rest in
    cc

pub skip_line : (was rest : List ℕ) {after left whole : List ℕ} → left ≡ rest → was ++ left ≡ whole → after ≡ was → after ++ rest ≡ whole
skip_line was rest next inv same = cc
