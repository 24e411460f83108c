-- Lists that hold each thing of a kind exactly once: of one thing, one list after another, under a map, and what a test keeps.
use Rattle.std.proofs.Common.{◌≡◌, ℕ, zero, suc, ◌<◌, Bool, true, false, cond, ◌⊎◌, List, [], ◌∷◌, ◌++◌, map, length, get_or, Decides, filter, sym, refl, ap, ◌∙◌, subst, inl, inr, ⊎_elim, arith}
use Rattle.std.specs.List.{ContainsAt as Has}
use Rattle.std.proofs.ByRecursion.{has_append_left, has_append_right}
use Rattle.std.proofs.lemmas.List.{get_or_default}
use Rattle.std.proofs.lemmas.Bool.{both_ways}
use Rattle.game.specs.Heads.{Lists}
use Rattle.game.proofs.StrataLists.{has_first, has_later, has_cases, has_append_cases}

-- ## No element stands twice

-- no element stands once more after its place
abbrev pub Differ : {X : Type 0} → List X → Type 0
Differ [] = Unit {0}
Differ (x ∷ xs) = (Has xs x → ⊥) × Differ xs

abbrev pub Once : {X : Type 0} → List X → Type 0
Once {X} xs = (i j : ℕ) (d : X) → i < length xs → j < length xs → get_or xs i d ≡ get_or xs j d → i ≡ j

has_at : {X : Type 0} (xs : List X) (k : ℕ) (d x : X) → k < length xs → get_or xs k d ≡ x → Has xs x
has_at xs k d x l e = (k, l, λ d'. get_or_default xs k d' d l ∙ e)

pub differ_once : {X : Type 0} (xs : List X) → Differ xs → Once xs
differ_once [] o i j d l m e = absurd (omega arith)
differ_once (x ∷ xs) o zero zero d l m e = refl
differ_once (x ∷ xs) o zero (suc j) d l m e = absurd (o.0 (has_at xs j d x (omega arith) (sym e)))
differ_once (x ∷ xs) o (suc i) zero d l m e = absurd (o.0 (has_at xs i d x (omega arith) e))
differ_once (x ∷ xs) o (suc i) (suc j) d l m e = ap suc (differ_once xs o.1 i j d (omega arith) (omega arith) e)

pub once_differ : {X : Type 0} (xs : List X) → Once xs → Differ xs
once_differ [] o = tt
once_differ (x ∷ xs) o = (λ (k, l, at). (let same = o 0 (suc k) x (omega arith) (omega arith) (sym (at x)) in omega arith), once_differ xs (λ i j d l m e. let same = o (suc i) (suc j) d (omega arith) (omega arith) e in omega arith))

pub differ_append : {X : Type 0} (xs ys : List X) → Differ xs → Differ ys → ((x : X) → Has xs x → Has ys x → ⊥) → Differ (xs ++ ys)
differ_append [] ys o p apart = p
differ_append (x ∷ xs) ys o p apart =
    (λ h. ⊎_elim o.0 (apart x (has_first x xs)) (has_append_cases xs ys x h), differ_append xs ys o.1 p (λ y h. apart y (has_later x y xs h)))

pub has_map : {X Y : Type 0} (f : X → Y) (xs : List X) (x : X) → Has xs x → Has (map f xs) (f x)
has_map f [] x (k, l, at) = absurd (omega arith)
has_map f (y ∷ xs) x h = ⊎_elim (λ e. subst (λ z. Has (map f (y ∷ xs)) (f z)) e (has_first (f y) (map f xs))) (λ later. has_later (f y) (f x) (map f xs) (has_map f xs x later)) (has_cases y x xs h)

pub has_map_from : {X Y : Type 0} (f : X → Y) (xs : List X) (y : Y) → Has (map f xs) y → (x : X) × Has xs x × (f x ≡ y)
has_map_from f [] y (k, l, at) = absurd (omega arith)
has_map_from f (x ∷ xs) y h = ⊎_elim (λ e. (x, has_first x xs, e)) (λ later. let (z, has, e) = has_map_from f xs y later in (z, has_later x z xs has, e)) (has_cases (f x) y (map f xs) h)

pub differ_map : {X Y : Type 0} (f : X → Y) → ((x y : X) → f x ≡ f y → x ≡ y) → (xs : List X) → Differ xs → Differ (map f xs)
differ_map f same [] o = tt
differ_map f same (x ∷ xs) o = (λ h. let (z, has, e) = has_map_from f xs (f x) h in o.0 (subst (Has xs) (same z x e) has), differ_map f same xs o.1)

-- ## What a test keeps

module _ {X : Type 0} (p : X → Bool) where
  pub has_kept : (xs : List X) (x : X) → Has xs x → p x ≡ true → Has (filter p xs) x
  has_kept [] x (k, l, at) e = absurd (omega arith)
  has_kept (y ∷ xs) x h e = go (λ has. has_kept xs x has e) (p y) refl
    where
      go : (Has xs x → Has (filter p xs) x) → (b : Bool) → p y ≡ b → Has (cond b (y ∷ filter p xs) (filter p xs)) x
      go later true t = ⊎_elim (λ same. subst (Has (y ∷ filter p xs)) same (has_first y (filter p xs))) (λ has. has_later y x (filter p xs) (later has)) (has_cases y x xs h)
      go later false f = ⊎_elim (λ same. absurd (both_ways (p x) (ap p (sym same) ∙ f) e)) later (has_cases y x xs h)

  pub has_kept_from : (xs : List X) (x : X) → Has (filter p xs) x → Has xs x × (p x ≡ true)
  has_kept_from [] x (k, l, at) = absurd (omega arith)
  has_kept_from (y ∷ xs) x h = go (λ has. let (had, e) = has_kept_from xs x has in (has_later y x xs had, e)) (p y) refl h
    where
      go : (Has (filter p xs) x → Has (y ∷ xs) x × (p x ≡ true)) → (b : Bool) → p y ≡ b → Has (cond b (y ∷ filter p xs) (filter p xs)) x → Has (y ∷ xs) x × (p x ≡ true)
      go later true t k = ⊎_elim (λ same. (subst (Has (y ∷ xs)) same (has_first y xs), ap p (sym same) ∙ t)) later (has_cases y x (filter p xs) k)
      go later false f k = later k

  pub differ_kept : (xs : List X) → Differ xs → Differ (filter p xs)
  differ_kept [] o = tt
  differ_kept (y ∷ xs) o = go (p y) (differ_kept xs o.1)
    where
      go : (b : Bool) → Differ (filter p xs) → Differ (cond b (y ∷ filter p xs) (filter p xs))
      go true rest = (λ h. o.0 (has_kept_from xs y h).0, rest)
      go false rest = rest

-- ## The listings

pub lists_differ : {X : Type 0} {xs : List X} {P : X → Type 0} → Lists xs P → Differ xs
lists_differ {xs = xs} l = once_differ xs l.once

pub lists_like : {X : Type 0} {xs : List X} {P Q : X → Type 0} → ((x : X) → P x → Q x) → ((x : X) → Q x → P x) → Lists xs P → Lists xs Q
lists_like to back l = record { only = λ x h. to x (l.only x h); every = λ x q. l.every x (back x q); once = l.once }

pub lists_none : {X : Type 0} → Lists {X = X} [] (λ _. ⊥)
lists_none = record { only = λ x (k, l, at). absurd (omega arith); every = λ x p. absurd p; once = differ_once [] tt }

pub lists_one : {X : Type 0} (x : X) → Lists (x ∷ []) (λ y. x ≡ y)
lists_one {X} x = record { only = λ y h. ⊎_elim (λ e. e) (λ (k, l, at). absurd (omega arith)) (has_cases x y [] h); every = λ y e. subst (Has (x ∷ [])) e (has_first x []); once = differ_once (x ∷ []) (λ (k, l, at). omega arith, tt) }

pub lists_map : {X Y : Type 0} {xs : List X} {P : X → Type 0} (f : X → Y) → ((x y : X) → f x ≡ f y → x ≡ y) → Lists xs P → Lists (map f xs) (λ y. (x : X) × P x × (f x ≡ y))
lists_map {xs = xs} f same l = record {
  only = λ y h. let (x, has, e) = has_map_from f xs y h in (x, l.only x has, e);
  every = λ y (x, p, e). subst (Has (map f xs)) e (has_map f xs x (l.every x p));
  once = differ_once (map f xs) (differ_map f same xs (lists_differ l));
}

pub lists_append : {X : Type 0} {xs ys : List X} {P Q : X → Type 0} → ((x : X) → P x → Q x → ⊥) → Lists xs P → Lists ys Q → Lists (xs ++ ys) (λ x. P x ⊎ Q x)
lists_append {xs = xs} {ys} apart l m = record {
  only = λ x h. ⊎_elim (λ has. inl (l.only x has)) (λ has. inr (m.only x has)) (has_append_cases xs ys x h);
  every = λ x pq. ⊎_elim (λ p. has_append_left xs ys x (l.every x p)) (λ q. has_append_right xs ys x (m.every x q)) pq;
  once = differ_once (xs ++ ys) (differ_append xs ys (lists_differ l) (lists_differ m) (λ x h k. apart x (l.only x h) (m.only x k)));
}

-- what a test keeps is in the order of the list
pub lists_kept : {X : Type 0} {xs : List X} {P : X → Type 0} (p : X → Bool) (Q : X → Type 0) → ((x : X) → P x → Decides (p x) (Q x)) → Lists xs P → Lists (filter p xs) (λ x. P x × Q x)
lists_kept {xs = xs} p Q decides l = record {
  only = λ x h. let (has, e) = has_kept_from p xs x h in let known = l.only x has in (known, (decides x known).0 e);
  every = λ x (known, q). has_kept p xs x (l.every x known) ((decides x known).1 q);
  once = differ_once (filter p xs) (differ_kept p xs (lists_differ l));
}
