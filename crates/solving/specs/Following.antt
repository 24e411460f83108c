-- A larger set picks no fewer rules, so what follows from a set follows from any larger one.
use Rattle.std.specs.Prelude.{◌≡◌, ℕ, Bool, true, false, ◌&&◌, List, [], ◌∷◌, slice_index_or}
use Rattle.std.proofs.Common.{⊎_elim}
use Rattle.std.proofs.lemmas.Bool.{and_parts, and_from, or_cases, or_left, or_right}
use Rattle.game.specs.Sets.{Row, Within}
use Rattle.game.specs.Rules.{Rule, heads}
use Rattle.game.specs.Derives.{all_in, none_in, fires}
use Rattle.solving.specs.Levels.{head_at}
use Rattle.game.specs.Published.{any_in}
use Rattle.solving.specs.Tests.{headed_by, touches}

-- what each test of rules by a set owes
pub record PicksMore {P : Type 0} (chosen : P → Row → Rule → Bool) : Type 0 where
  pub grows : (p : P) (s t : Row) → Within s t → (r : Rule) → chosen p s r ≡ true → chosen p t r ≡ true

any_grows : (s t : Row) → Within s t → (as' : List ℕ) → any_in s as' ≡ true → any_in t as' ≡ true
any_grows s t within [] e = e
any_grows s t within (a ∷ as') e = ⊎_elim (λ here. or_left _ _ (within a here)) (λ later. or_right _ _ (any_grows s t within as' later)) (or_cases (slice_index_or s a false) (any_in s as') e)

pub touches_grows : (s t : Row) → Within s t → (r : Rule) → touches s r ≡ true → touches t r ≡ true
touches_grows s t within r e = ⊎_elim (λ p. or_left _ _ (any_grows s t within r.plain p)) (λ n. or_right _ _ (any_grows s t within r.negated n)) (or_cases (any_in s r.plain) (any_in s r.negated) e)

all_grows : (s t : Row) → Within s t → (as' : List ℕ) → all_in s as' ≡ true → all_in t as' ≡ true
all_grows s t within [] e = e
all_grows s t within (a ∷ as') e = let both = and_parts (slice_index_or s a false) (all_in s as') e in and_from _ _ (within a both.0) (all_grows s t within as' both.1)

pub fires_grows : (x s t : Row) → Within s t → (r : Rule) → fires x s r ≡ true → fires x t r ≡ true
fires_grows x s t within r e = let both = and_parts (none_in x r.negated) (all_in s r.plain) e in and_from _ _ both.0 (all_grows s t within r.plain both.1)

pub level_grows : (levels : List ℕ) (l : ℕ) (x s t : Row) → Within s t → (r : Rule) → (head_at levels l r.head && fires x s r) ≡ true → (head_at levels l r.head && fires x t r) ≡ true
level_grows levels l x s t within r e = let both = and_parts (head_at levels l r.head) (fires x s r) e in and_from _ _ both.0 (fires_grows x s t within r both.1)

-- where a larger set picks more rules, it has more heads
pub headed_grows : (p q : Rule → Bool) → ((r : Rule) → p r ≡ true → q r ≡ true) → (rules : List Rule) (a : ℕ) → headed_by p rules a ≡ true → headed_by q rules a ≡ true
headed_grows p q more [] a e = e
headed_grows p q more (r ∷ rs) a e =
    ⊎_elim (λ here. let both = and_parts (heads a r.head) (p r) here in or_left _ _ (and_from _ _ both.0 (more r both.1))) (λ later. or_right _ _ (headed_grows p q more rs a later)) (or_cases (heads a r.head && p r) (headed_by p rs a) e)

pub picked_grows : {P : Type 0} {chosen : P → Row → Rule → Bool} → PicksMore chosen → (p : P) (rules : List Rule) (s t : Row) → Within s t → (a : ℕ) → headed_by (chosen p s) rules a ≡ true → headed_by (chosen p t) rules a ≡ true
picked_grows {chosen = chosen} laws p rules s t within = headed_grows (chosen p s) (chosen p t) (laws.grows p s t within) rules
