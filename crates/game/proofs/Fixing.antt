-- What fixing a set says of a model, and which atoms stand there.
use Rattle.std.proofs.Common.{◌≡◌, ℕ, zero, suc, ◌<◌, Bool, true, false, cond, ◌&&◌, ◌||◌, eqb, ◌↔◌, List, [], ◌∷◌, ◌++◌, length, get_or, sym, refl, inl, inr, arith}
use mathlib.Core.Bool.{or-false, and-true, and-false}
use mathlib.Core.Logic.Iff
use Rattle.std.specs.List.{AllByRecursion}
use Rattle.std.proofs.lemmas.Bool.{false≢true, eqb-true, eq-eqb, and_parts, and_from, or_cases, or_left}
use Rattle.game.specs.Sets.{Row, In, Within}
use Rattle.game.specs.Rules.{Rule, none, atom, stands}
use Rattle.game.specs.Published.{fixing, fixed}
use Rattle.game.proofs.Each.{all_parts, below_suc}
use Rattle.game.proofs.Rows.{in_width}
use Rattle.game.proofs.Heads.{stands_cases, stands_left, stands_right}
use Rattle.game.proofs.Reducts.{Meets}

-- what fixing adds for an atom, by whether it is in the set and whether it stands in base
abbrev choice : ℕ → Bool → Bool → List Rule
choice a b c = cond b (record { head = atom a; plain = []; negated = [] } ∷ []) (cond c (record { head = none; plain = a ∷ []; negated = [] } ∷ []) [])

module _ (base : List Rule) (m : Row) where
  -- s has the atom if m does, and if it stands in base then only if m does
  abbrev FixedAt : Row → ℕ → Type 0
  FixedAt s a = (In a m → In a s) × (stands a base ≡ true → In a s → In a m)

  met_at : (x s : Row) (a : ℕ) → AllByRecursion (Meets x s) (fixing base m a) ↔ FixedAt s a
  met_at x s a = go (get_or m a false) (stands a base)
    where
      go : (b c : Bool) → (AllByRecursion (Meets x s) (choice a b c) ↔ (b ≡ true → In a s) × (c ≡ true → In a s → b ≡ true))
      go true c = (λ h. (λ _. h.0 tt tt, λ _ _. refl), λ h. (λ _ _. h.0 refl, tt))
      go false true = (λ h. (λ e. absurd (false≢true e), λ _ k. absurd (h.0 tt (k, tt))), λ h. (λ _ k. false≢true (h.1 refl k.0), tt))
      go false false = (λ h. (λ e. absurd (false≢true e), λ e. absurd (false≢true e)), λ h. tt)

  met_below : (n : ℕ) (x s : Row) → AllByRecursion (Meets x s) (fixed n base m) ↔ ((a : ℕ) → a < n → FixedAt s a)
  met_below zero x s = (λ h a l. absurd (omega arith), λ h. tt)
  met_below (suc n) x s = Iff.trans (all_parts (Meets x s) (fixed n base m) (fixing base m n)) (Iff.trans (Iff.and (met_below n x s) (met_at x s n)) (below_suc n (FixedAt s)))

  -- a model has what is fixed, and no other atom of base
  pub fixed_met : (n : ℕ) (x s : Row) → length m ≡ n → length s ≡ n → (AllByRecursion (Meets x s) (fixed n base m) ↔ Within m s × ((a : ℕ) → stands a base ≡ true → In a s → In a m))
  fixed_met n x s wide same = Iff.trans (met_below n x s) (λ h. (λ a k. (h a (in_width m wide a k)).0 k, λ a e k. (h a (in_width s same a k)).1 e k), λ h a _. (h.0 a, h.1 a))

  stands_fixing : (a b : ℕ) → stands a (fixing base m b) ≡ (eqb a b && (get_or m b false || stands b base))
  stands_fixing a b = go (get_or m b false) (stands b base)
    where
      go : (c d : Bool) → stands a (choice b c d) ≡ (eqb a b && (c || d))
      go true d = simp (or-false, and-true)
      go false true = simp (or-false, and-true)
      go false false = sym (and-false (eqb a b))

  pub member_stands : (n a : ℕ) → a < n → In a m → stands a (fixed n base m) ≡ true
  member_stands zero = λ a l. absurd (omega arith)
  member_stands (suc n) =
      (below_suc n (λ a. In a m → stands a (fixed n base m ++ fixing base m n) ≡ true)).0 (
        λ a l k. stands_left a (fixed n base m) (fixing base m n) (member_stands n a l k),
        λ k. stands_right n (fixed n base m) (fixing base m n) (rw stands_fixing (and_from (eqb n n) (get_or m n false || stands n base) (eq-eqb n n refl) (or_left (get_or m n false) (stands n base) k))),
      )

  -- nothing stands there but atoms of base, if the members do
  module _ (known : (a : ℕ) → In a m → stands a base ≡ true) where
    stands_at : (a b : ℕ) → stands a (fixing base m b) ≡ true → stands a base ≡ true
    stands_at a b h =
        let parts = and_parts (eqb a b) (get_or m b false || stands b base) (rw stands_fixing at h) in
        rw (eqb-true a b parts.0) (elim (or_cases (get_or m b false) (stands b base) parts.1) [ inl k ↦ known b k | inr k ↦ k ])

    pub fixed_stands : (n a : ℕ) → stands a (fixed n base m) ≡ true → stands a base ≡ true
    fixed_stands zero a h = absurd (false≢true h)
    fixed_stands (suc n) a h = elim (stands_cases a (fixed n base m) (fixing base m n) h) [ inl k ↦ fixed_stands n a k | inr k ↦ stands_at a n k ]
