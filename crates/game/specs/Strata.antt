-- The dependency graph of a program, stratified programs and levels.
use Rattle.std.specs.Prelude.{◌≡◌, ℕ, ◌<◌, ◌≤◌, true, List, ◌++◌, length, ◌≢◌}
use Rattle.std.specs.List.{HoldsAt, ContainsAt as Has, AllByRecursion}
use Rattle.game.specs.Sets.{Row, In}
use Rattle.game.specs.Rules.{Rule, atom, is_head, headed}
use Rattle.game.specs.AnswerSets.{AnswerSet}

-- an edge runs from each body atom, plain or negated, to its rule's head
abbrev pub Edge : List Rule → ℕ → ℕ → Type 0
Edge rules a b = (r : Rule) × Has rules r × (r.head ≡ atom b) × Has (r.plain ++ r.negated) a

-- b can be reached from a in zero or more edges
pub data Reaches (rules : List Rule) : ℕ → ℕ → Type 0 where
  here : {a : ℕ} → Reaches rules a a
  on : {a b c : ℕ} → Reaches rules a b → Edge rules b c → Reaches rules a c

-- a headed rule breaks the strata where a negated atom can be reached from its head
abbrev pub Breaks : List Rule → Rule → Type 0
Breaks rules r = (a : ℕ) × (b : ℕ) × (r.head ≡ atom a) × Has r.negated b × Reaches rules a b

abbrev pub Stratified : List Rule → Type 0
Stratified rules = (r : Rule) → Has rules r → Breaks rules r → ⊥

-- the rule at place i is the first that breaks them
pub record FirstBreak (rules : List Rule) (i : ℕ) : Type 0 where
  pub inside : i < length rules
  pub breaks : HoldsAt (Breaks rules) rules i
  pub first : (j : ℕ) → j < i → HoldsAt (λ r. Breaks rules r → ⊥) rules j

-- a head stands no lower than the plain atoms of its body, and above the negated ones
pub record Leveled (rules : List Rule) (level : ℕ → ℕ) : Type 0 where
  pub plain : (r : Rule) (a : ℕ) → Has rules r → r.head ≡ atom a → AllByRecursion (λ b. level b ≤ level a) r.plain
  pub negated : (r : Rule) (a : ℕ) → Has rules r → r.head ≡ atom a → AllByRecursion (λ b. level b < level a) r.negated

-- where levels fit, the headed rules have one answer set at most for each given set without their heads
abbrev pub OneAnswerAtMost : Type 0
OneAnswerAtMost =
    (rules : List Rule) (level : ℕ → ℕ) (given x y : Row) → Leveled rules level → ((a : ℕ) → In a given → is_head rules a ≢ true) →
    AnswerSet (headed rules) given x → AnswerSet (headed rules) given y → x ≡ y
