-- The limits of rules: how they are made and taken apart, a larger number of atoms, one atom or rule more.
use Rattle.std.proofs.Common.{◌≡◌, ℕ, ◌+◌, ◌<◌, ◌≤◌, true, ltb, leb, List, [], ◌∷◌, ◌++◌, length, refl, arith}
use Rattle.std.proofs.lemmas.Bool.{and_parts, and_from, lt-ltb, ltb-true, le-leb, leb-true}
use Rattle.game.specs.Rules.{Head, none, atom, Rule}
use Rattle.programs.specs.Limits.{all_below, head_below, rule_fits, all_fit, fits}

-- what it is for a rule to keep the limits
pub record Kept (n : ℕ) (r : Rule) : Type 0 where
  pub short : length r.plain + length r.negated ≤ 16
  pub head : head_below n r.head ≡ true
  pub plain : all_below n r.plain ≡ true
  pub negated : all_below n r.negated ≡ true

pub kept : (n : ℕ) (r : Rule) → rule_fits n r ≡ true → Kept n r
kept n r e =
    let a = and_parts (leb (length r.plain + length r.negated) 16) _ e in
    let b = and_parts (head_below n r.head) _ a.1 in
    let c = and_parts (all_below n r.plain) _ b.1 in
    record { short = leb-true _ 16 a.0; head = b.0; plain = c.0; negated = c.1 }

pub kept_fits : (n : ℕ) (r : Rule) → Kept n r → rule_fits n r ≡ true
kept_fits n r k = and_from _ _ (le-leb _ 16 k.short) (and_from _ _ k.head (and_from _ _ k.plain k.negated))

pub below_more : (n m : ℕ) (as' : List ℕ) → n ≤ m → all_below n as' ≡ true → all_below m as' ≡ true
below_more n m [] h e = refl
below_more n m (a ∷ as') h e = let p = and_parts (ltb a n) _ e in let less = ltb-true a n p.0 in and_from _ _ (lt-ltb a m (omega arith)) (below_more n m as' h p.1)

pub below_push : (n a : ℕ) (as' : List ℕ) → a < n → all_below n as' ≡ true → all_below n (as' ++ a ∷ []) ≡ true
below_push n a [] h e = and_from _ _ (lt-ltb a n h) refl
below_push n a (b ∷ as') h e = let p = and_parts (ltb b n) _ e in and_from _ _ p.0 (below_push n a as' h p.1)

head_more : (n m : ℕ) (h : Head) → n ≤ m → head_below n h ≡ true → head_below m h ≡ true
head_more n m none le e = refl
head_more n m (atom a) le e = let less = ltb-true a n e in lt-ltb a m (omega arith)

pub kept_more : (n m : ℕ) (r : Rule) → n ≤ m → Kept n r → Kept m r
kept_more n m r h k = record { short = k.short; head = head_more n m r.head h k.head; plain = below_more n m r.plain h k.plain; negated = below_more n m r.negated h k.negated }

pub all_fit_more : (n m : ℕ) (rs : List Rule) → n ≤ m → all_fit n rs ≡ true → all_fit m rs ≡ true
all_fit_more n m [] h e = refl
all_fit_more n m (r ∷ rs) h e = let p = and_parts (rule_fits n r) _ e in and_from _ _ (kept_fits m r (kept_more n m r h (kept n r p.0))) (all_fit_more n m rs h p.1)

pub all_fit_push : (n : ℕ) (r : Rule) (rs : List Rule) → rule_fits n r ≡ true → all_fit n rs ≡ true → all_fit n (rs ++ r ∷ []) ≡ true
all_fit_push n r [] h e = and_from _ _ h refl
all_fit_push n r (s ∷ rs) h e = let p = and_parts (rule_fits n s) _ e in and_from _ _ p.0 (all_fit_push n r rs h p.1)

pub fits_from : (n : ℕ) (rs : List Rule) → length rs ≤ 256 → all_fit n rs ≡ true → fits n rs ≡ true
fits_from n rs few all = and_from _ _ (le-leb (length rs) 256 few) all
