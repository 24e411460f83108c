-- Ground rules over numbered atoms.
use Rattle.std.specs.Prelude.{◌≡◌, ℕ, Bool, false, ◌||◌, List, [], ◌∷◌, ◌==◌}
use Rattle.std.specs.List.{ContainsAt as Has, AllByRecursion}
use Rattle.game.specs.Sets.{Row, In}

-- a rule without a head is a constraint
pub data Head : Type 0 where
  none : Head
  atom : ℕ → Head

-- plain and negated body atoms stand in the order of the text, with repeats
pub record Rule : Type 0 where
  pub head : Head
  pub plain : List ℕ
  pub negated : List ℕ

-- the head is a
abbrev pub heads : ℕ → Head → Bool
heads a none = false
heads a (atom b) = a == b

-- a stands on the list
abbrev pub among : ℕ → List ℕ → Bool
among a [] = false
among a (b ∷ bs) = a == b || among a bs

-- a stands anywhere in the rule: as its head, plain or negated
abbrev pub in_rule : ℕ → Rule → Bool
in_rule a r = heads a r.head || (among a r.plain || among a r.negated)

-- a stands anywhere in the rules
abbrev pub stands : ℕ → List Rule → Bool
stands a [] = false
stands a (r ∷ rs) = in_rule a r || stands a rs

-- a is the head of some rule
abbrev pub is_head : List Rule → ℕ → Bool
is_head [] a = false
is_head (r ∷ rs) a = heads a r.head || is_head rs a

-- the rules that have a head
abbrev pub headed : List Rule → List Rule
headed [] = []
headed (r ∷ rs) = elim r.head [ none ↦ headed rs | atom a ↦ r ∷ headed rs ]

-- every plain atom of the rule is in s
abbrev pub PlainIn : Row → Rule → Type 0
PlainIn s r = AllByRecursion (λ a. In a s) r.plain

-- no negated atom of the rule is in x: the reduct for x keeps the rule, without its negated atoms
abbrev pub Kept : Row → Rule → Type 0
Kept x r = AllByRecursion (λ a. In a x → ⊥) r.negated

-- s obeys every headed rule of the reduct of the rules for x
abbrev pub Obeys : List Rule → Row → Row → Type 0
Obeys rules x s = (r : Rule) (a : ℕ) → Has rules r → r.head ≡ atom a → Kept x r → PlainIn s r → In a s
