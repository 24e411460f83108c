-- What holds of each element of a list or each number below another, and tests that some element passes.
use Rattle.std.proofs.Common.{◌≡◌, ℕ, suc, ◌<◌, Bool, true, false, ◌||◌, ◌↔◌, List, [], ◌∷◌, ◌++◌, sym, subst, inl, inr, arith}
use mathlib.Core.Bool.{or_assoc}
use Rattle.std.specs.List.{ContainsAt as Has, AllByRecursion}
use Rattle.std.proofs.ByRecursion.{All-append, all-has, All-weaker, all_has_itself}
use Rattle.std.proofs.lemmas.Bool.{cases_order}
use Rattle.std.proofs.lemmas.Bool.Decides.{Decides-by_or}

module _ {X : Type 0} (P : X → Type 0) where
  pub all_each : (xs : List X) → AllByRecursion P xs ↔ ((x : X) → Has xs x → P x)
  all_each xs = (λ h x k. all-has P xs x h k, λ f. All-weaker (Has xs) P f xs (all_has_itself xs))

  all_apart : (xs ys : List X) → AllByRecursion P (xs ++ ys) → AllByRecursion P xs × AllByRecursion P ys
  all_apart [] ys h = (tt, h)
  all_apart (x ∷ xs) ys h = let rest = all_apart xs ys h.1 in ((h.0, rest.0), rest.1)

  pub all_parts : (xs ys : List X) → AllByRecursion P (xs ++ ys) ↔ AllByRecursion P xs × AllByRecursion P ys
  all_parts xs ys = (all_apart xs ys, λ h. All-append P xs ys h.0 h.1)

pub below_suc : (n : ℕ) (P : ℕ → Type 0) → ((a : ℕ) → a < n → P a) × P n ↔ ((a : ℕ) → a < suc n → P a)
below_suc n P = (to, λ f. (λ a l. f a (omega arith), f n (omega arith)))
  where
    to : ((a : ℕ) → a < n → P a) × P n → (a : ℕ) → a < suc n → P a
    to h a l = elim (cases_order a n) [ inl e ↦ subst P (sym e) h.1 | inr (inl less) ↦ h.0 a less | inr (inr more) ↦ absurd (omega arith) ]

-- f is a test that some element passes
module _ {X : Type 0} (p : X → Bool) (f : List X → Bool) (empty : f [] ≡ false) (more : (x : X) (xs : List X) → f (x ∷ xs) ≡ (p x || f xs)) where
  pub some_append : (xs ys : List X) → f (xs ++ ys) ≡ (f xs || f ys)
  some_append [] ys = rw empty
  some_append (x ∷ xs) ys = let rest = some_append xs ys in simp (more, rest, or_assoc)

  pub some_has : (xs : List X) (x : X) → Has xs x → p x ≡ true → f xs ≡ true
  some_has xs x (k, below, at) h = (Decides-by_or p (λ y. p y ≡ true) f (λ y. (λ e. e, λ e. e)) empty more xs).1 (k, below, λ d. rw (at d) h)
