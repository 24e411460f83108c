-- The models of a reduct, read off the rules themselves.
use Rattle.std.proofs.Common.{◌≡◌, ℕ, Bool, true, false, cond, ◌↔◌, List, [], ◌∷◌, get_or, refl, subst, inl, inr}
use mathlib.Core.Logic.Iff
use Rattle.std.specs.List.{ContainsAt as Has, AllByRecursion}
use Rattle.std.proofs.lemmas.Bool.{false≢true, both_ways, or_cases, or_parts}
use Rattle.game.specs.Sets.{Row, In}
use Rattle.game.specs.Rules.{Head, none, atom, Rule, PlainIn, Kept, Obeys}
use Rattle.game.specs.Published.{any_in, reduct, HeadIn, Model}
use Rattle.game.proofs.Each.{all_each}

-- s meets the rule as the reduct for x has it
abbrev pub Meets : Row → Row → Rule → Type 0
Meets x s r = Kept x r → PlainIn s r → HeadIn s r.head

-- no constraint of the reduct for x has its plain atoms in s
abbrev pub Lets : List Rule → Row → Row → Type 0
Lets rules x s = (r : Rule) → Has rules r → r.head ≡ none → Kept x r → PlainIn s r → ⊥

kept_none : (x : Row) (as' : List ℕ) → any_in x as' ≡ false → AllByRecursion (λ a. In a x → ⊥) as'
kept_none x [] e = tt
kept_none x (a ∷ as') e = let parts = or_parts (get_or x a false) (any_in x as') e in (both_ways (get_or x a false) parts.0, kept_none x as' parts.1)

some_dropped : (x : Row) (as' : List ℕ) → any_in x as' ≡ true → AllByRecursion (λ a. In a x → ⊥) as' → ⊥
some_dropped x [] e h = false≢true e
some_dropped x (a ∷ as') e h = elim (or_cases (get_or x a false) (any_in x as') e) [ inl k ↦ h.0 k | inr k ↦ some_dropped x as' k h.1 ]

module _ (x s : Row) where
  abbrev TrueIn : Rule → Type 0
  TrueIn r = PlainIn s r → Kept s r → HeadIn s r.head

  all_met : (rules : List Rule) → AllByRecursion TrueIn (reduct x rules) ↔ AllByRecursion (Meets x s) rules
  all_met [] = (λ h. h, λ h. h)
  all_met (r ∷ rs) = go (any_in x r.negated) (all_met rs) (kept_none x r.negated) (some_dropped x r.negated)
    where
      bare : Rule
      bare = record { head = r.head; plain = r.plain; negated = [] }

      go : (b : Bool) → (AllByRecursion TrueIn (reduct x rs) ↔ AllByRecursion (Meets x s) rs) → (b ≡ false → Kept x r) → (b ≡ true → Kept x r → ⊥) → (AllByRecursion TrueIn (cond b (reduct x rs) (bare ∷ reduct x rs)) ↔ AllByRecursion (Meets x s) (r ∷ rs))
      go true rest f g = (λ h. (λ k. absurd (g refl k), rest.0 h), λ h. rest.1 h.1)
      go false rest f g = (λ h. (λ k p. h.0 p tt, rest.0 h.1), λ h. (λ p _. h.0 (f refl) p, rest.1 h.1))

  pub met_parts : (rules : List Rule) → AllByRecursion (Meets x s) rules ↔ Obeys rules x s × Lets rules x s
  met_parts rules = (λ h. (λ r a k e kept p. subst (HeadIn s) e (each.0 h r k kept p), λ r k e kept p. subst (HeadIn s) e (each.0 h r k kept p)), λ h. each.1 (λ r k kept p. to h r k kept p r.head refl))
    where
      each : AllByRecursion (Meets x s) rules ↔ ((r : Rule) → Has rules r → Meets x s r)
      each = all_each (Meets x s) rules

      to : Obeys rules x s × Lets rules x s → (r : Rule) → Has rules r → Kept x r → PlainIn s r → (h : Head) → r.head ≡ h → HeadIn s h
      to f r k kept p none e = f.1 r k e kept p
      to f r k kept p (atom a) e = f.0 r a k e kept p

  pub reduct_model : (rules : List Rule) → Model (reduct x rules) s ↔ AllByRecursion (Meets x s) rules
  reduct_model rules = Iff.trans (Iff.symm (all_each TrueIn (reduct x rules))) (all_met rules)
