-- The search for a name in the table of atoms, and the three ways to enter one.
use Rattle.std.proofs.Common.{◌≡◌, ℕ, ◌<◌, ◌≤◌, suc, Bool, true, false, cond, ltb, List, [], ◌∷◌, ◌++◌, length, position, Some, None, Ok, Err, Option, sym, refl, ap, ◌∙◌, arith}
use Rattle.std.specs.List.{position_or_len}
use Rattle.std.specs.Str.{bytes_eq}
use lib.ListN.{length-map}
use Rattle.std.proofs.lemmas.List.Recursion.{is_position_or_len}
use Rattle.std.proofs.lemmas.Bool.{lt-ltb, le-ltb, ltb-true, ltb-false}
use Rattle.refusals.specs.declared.fault.Text.{Text}
use Rattle.refusals.specs.declared.fault.Fault.TheVariants.{ManyAtoms}
use Rattle.reading.specs.declared.table.Atom.{Atom}
use Rattle.reading.specs.Steps.{Standing, index, entered}
use Rattle.reading.specs.Tables.{standing, standings}

pub none_some : {X : Type 0} {x : X} → ◌≡◌ {A = Option X} None (Some x) → ⊥
none_some e = cc

module _ (n : List ℕ) (as' : List Atom) where
  -- the search finds the place that the specification counts
  place : index n (standings as') ≡ position_or_len (λ a. bytes_eq a.name.now n) as'
  place = is_position_or_len (λ l. index n (standings l)) (λ a. bytes_eq a.name.now n) refl (λ a l. ap (λ m. cond (bytes_eq a.name.now n) 0 m) (omega arith)) as'

  pub index_found : (i : ℕ) → position (λ a. bytes_eq a.name.now n) as' ≡ Some i → (i ≡ index n (standings as')) × (index n (standings as') < length (standings as'))
  index_found i e = go (ltb k (length as')) refl e
    where
      k : ℕ
      k = position_or_len (λ a. bytes_eq a.name.now n) as'

      go : (b : Bool) → ltb k (length as') ≡ b → cond b (Some k) None ≡ Some i → (i ≡ index n (standings as')) × (index n (standings as') < length (standings as'))
      go true less e = let same : k ≡ i = cc in (omega (arith, place, same), omega (arith, place, ltb-true k (length as') less, length-map as' standing))
      go false less e = absurd (none_some e)

  pub index_none : position (λ a. bytes_eq a.name.now n) as' ≡ None → length (standings as') ≤ index n (standings as')
  index_none e = go (ltb k (length as')) refl e
    where
      k : ℕ
      k = position_or_len (λ a. bytes_eq a.name.now n) as'

      go : (b : Bool) → ltb k (length as') ≡ b → cond b (Some k) None ≡ None → length (standings as') ≤ index n (standings as')
      go true less e = absurd (none_some (sym e))
      go false more e = omega (arith, place, ltb-false k (length as') more, length-map as' standing)

pub index_bound : (n : List ℕ) (ss : List Standing) → index n ss ≤ length ss
index_bound n [] = omega arith
index_bound n (s ∷ ss) = elim (bytes_eq s.name n) as (λ b. cond b 0 (suc (index n ss)) ≤ suc (length ss)) [ true ↦ omega arith | false ↦ omega (arith, index_bound n ss) ]

module _ (t : Text) (at : ℕ) (n : List ℕ) (ss : List Standing) where
  more : List Standing
  more = ss ++ record { text = t; at = at; name = n } ∷ []

  pub entered_known : index n ss < length ss → entered t at n ss ≡ Ok ss
  unfolding more
  entered_known h = ap (λ b. cond b (Ok ss) (cond (ltb (length ss) 96) (Ok more) (Err (ManyAtoms t at)))) (lt-ltb (index n ss) (length ss) h)

  module _ (new : length ss ≤ index n ss) where
    entered_else : entered t at n ss ≡ cond (ltb (length ss) 96) (Ok more) (Err (ManyAtoms t at))
    unfolding more
    entered_else = ap (λ b. cond b (Ok ss) (cond (ltb (length ss) 96) (Ok more) (Err (ManyAtoms t at)))) (le-ltb (index n ss) (length ss) new)

    pub entered_new : length ss < 96 → entered t at n ss ≡ Ok (ss ++ record { text = t; at = at; name = n } ∷ [])
    unfolding more
    entered_new few = entered_else ∙ ap (λ b. cond b (Ok more) (Err (ManyAtoms t at))) (lt-ltb (length ss) 96 few)

    pub entered_full : 96 ≤ length ss → entered t at n ss ≡ Err (ManyAtoms t at)
    unfolding more
    entered_full many = entered_else ∙ ap (λ b. cond b (Ok more) (Err (ManyAtoms t at))) (le-ltb (length ss) 96 many)
