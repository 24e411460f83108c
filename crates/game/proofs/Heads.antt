-- Where an atom stands in a list of rules, and of which it is the head.
use Rattle.std.proofs.Common.{◌≡◌, ℕ, true, ◌||◌, ◌⊎◌, List, [], ◌∷◌, ◌++◌, refl, inl, inr}
use Rattle.std.specs.List.{ContainsAt as Has}
use Rattle.std.proofs.lemmas.Bool.{false≢true, or_cases, or_left, or_right, eq-eqb}
use Rattle.game.specs.Rules.{atom, Rule, heads, in_rule, stands, is_head}
use Rattle.game.proofs.Each.{some_append, some_has}

pub stands_append : (a : ℕ) (rs qs : List Rule) → stands a (rs ++ qs) ≡ (stands a rs || stands a qs)
stands_append a = some_append (in_rule a) (stands a) refl (λ _ _. refl)

pub stands_cases : (a : ℕ) (rs qs : List Rule) → stands a (rs ++ qs) ≡ true → (stands a rs ≡ true) ⊎ (stands a qs ≡ true)
stands_cases a rs qs h = or_cases (stands a rs) (stands a qs) (rw stands_append at h)

pub stands_left : (a : ℕ) (rs qs : List Rule) → stands a rs ≡ true → stands a (rs ++ qs) ≡ true
stands_left a rs qs h = rw stands_append (or_left (stands a rs) (stands a qs) h)

pub stands_right : (a : ℕ) (rs qs : List Rule) → stands a qs ≡ true → stands a (rs ++ qs) ≡ true
stands_right a rs qs h = rw stands_append (or_right (stands a rs) (stands a qs) h)

pub head_of : (rules : List Rule) (r : Rule) (a : ℕ) → Has rules r → r.head ≡ atom a → is_head rules a ≡ true
head_of rules r a h e = some_has (λ q. heads a q.head) (λ rs. is_head rs a) refl (λ _ _. refl) rules r h (rw e (eq-eqb a a refl))

pub head_stands : (rules : List Rule) (a : ℕ) → is_head rules a ≡ true → stands a rules ≡ true
head_stands [] a h = absurd (false≢true h)
head_stands (r ∷ rs) a h =
    elim (or_cases (heads a r.head) (is_head rs a) h) [
      | inl e ↦ or_left (in_rule a r) (stands a rs) (or_left (heads a r.head) _ e)
      | inr e ↦ or_right (in_rule a r) (stands a rs) (head_stands rs a e)
    ]
