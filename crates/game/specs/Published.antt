-- The same game as it is published for answer-set programs with two quantifiers, where a set is handed on by fixing it:
-- a fact for each atom in the set, and a constraint for each other atom of the program that it comes from.
use Rattle.std.specs.Prelude.{◌≡◌, ℕ, zero, suc, ◌<◌, Bool, true, false, cond, ◌||◌, ◌↔◌, List, [], ◌∷◌, ◌++◌, length, ◌≢◌, slice_index_or}
use Rattle.std.specs.List.{ContainsAt as Has}
use Rattle.game.specs.Sets.{Row, In, Within}
use Rattle.game.specs.Rules.{Head, none, atom, Rule, stands, is_head, PlainIn, Kept}
use Rattle.game.specs.Sides.{some_plan, every_plan}
use Rattle.game.specs.Game.{Texts, Coherent}

-- some atom of the list is in x
abbrev pub any_in : Row → List ℕ → Bool
any_in x [] = false
any_in x (a ∷ as') = slice_index_or x a false || any_in x as'

-- the reduct for x drops each rule with a negated atom in x, and removes the negations from the others
abbrev pub reduct : Row → List Rule → List Rule
reduct x [] = []
reduct x (r ∷ rs) = cond (any_in x r.negated) (reduct x rs) (record { head = r.head; plain = r.plain; negated = [] } ∷ reduct x rs)

abbrev pub HeadIn : Row → Head → Type 0
HeadIn s none = ⊥
HeadIn s (atom a) = In a s

-- where the body of a rule is true, its head is
abbrev pub Model : List Rule → Row → Type 0
Model rules s = (r : Rule) → Has rules r → PlainIn s r → Kept s r → HeadIn s r.head

-- x, a set of atoms of the program below n, is a smallest model of the reduct for x
pub record Stable (n : ℕ) (rules : List Rule) (x : Row) : Type 0 where
  pub width : length x ≡ n
  pub inside : (a : ℕ) → In a x → stands a rules ≡ true
  pub model : Model (reduct x rules) x
  pub minimal : (y : Row) → length y ≡ n → Within y x → Model (reduct x rules) y → Within x y

abbrev pub fixing : List Rule → Row → ℕ → List Rule
fixing rules x a =
    cond (slice_index_or x a false) (record { head = atom a; plain = []; negated = [] } ∷ []) (cond (stands a rules) (record { head = none; plain = a ∷ []; negated = [] } ∷ []) [])

-- facts for the atoms below n in x, constraints for the other atoms below n of the rules
abbrev pub fixed : ℕ → List Rule → Row → List Rule
fixed zero rules x = []
fixed (suc n) rules x = fixed n rules x ++ fixing rules x n

abbrev pub HasStable : List Rule → Type 0
HasStable rules = ∥ ((x : Row) × Stable 96 rules x) ∥₁

-- the second program, with the first one's set fixed
abbrev pub second : Texts → Row → List Rule
second t m = t.faults ++ fixed 96 t.plans m

-- the check, with the second program's set fixed
abbrev pub check : Texts → Row → Row → List Rule
check t m x = t.site ++ fixed 96 (second t m) x

-- some answer set of the first program, every one of the second with it fixed, the check is coherent; and the dual
abbrev pub CoherentAsPublished : Texts → Type 0
CoherentAsPublished t =
    elim t.side [
      | some_plan ↦ ∥ ((m : Row) × Stable 96 t.plans m × ((x : Row) → Stable 96 (second t m) x → HasStable (check t m x))) ∥₁
      | every_plan ↦ ((m : Row) → Stable 96 t.plans m → ∥ ((x : Row) × Stable 96 (second t m) x × HasStable (check t m x)) ∥₁)
    ]

-- the atoms are below 96, and no head of the fault text stands in the plan text, nor one of the site text in either
pub record Apart (t : Texts) : Type 0 where
  pub plans : (a : ℕ) → stands a t.plans ≡ true → a < 96
  pub faults : (a : ℕ) → stands a t.faults ≡ true → a < 96
  pub site : (a : ℕ) → stands a t.site ≡ true → a < 96
  pub fault_heads : (a : ℕ) → is_head t.faults a ≡ true → stands a t.plans ≢ true
  pub site_heads : (a : ℕ) → is_head t.site a ≡ true → stands a (t.plans ++ t.faults) ≢ true

-- for texts that pass the question on heads, coherence is as published
abbrev pub CoherenceIsAsPublished : Type 0
CoherenceIsAsPublished = (t : Texts) → Apart t → Coherent t ↔ CoherentAsPublished t
