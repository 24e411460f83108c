-- Lists that ascend in an order, and what is left of them after an entry.
use Rattle.std.proofs.Common.{◌≡◌, Bool, true, false, cond, ◌⊎◌, List, [], ◌∷◌, ◌++◌, map, filter, sym, refl, ap, ◌∙◌, subst, ⊎_elim, arith}
use Rattle.std.specs.List.{ContainsAt as Has}
use Rattle.game.specs.Sets.{Row}
use Rattle.game.specs.Heads.{Lists}
use Rattle.game.proofs.Listing.{has_map_from, has_kept_from}
use Rattle.game.proofs.StrataLists.{has_first, has_later, has_cases, has_append_cases}
use Rattle.finders.specs.Meanings.{start, after, Rest, whole, part}

-- each entry comes before all that stand after it
abbrev pub Sorted : (Row → Row → Type 0) → List Row → Type 0
Sorted B [] = Unit {0}
Sorted B (x ∷ xs) = ((y : Row) → Has xs y → B x y) × Sorted B xs

no_member : (x : Row) → Has [] x → ⊥
no_member x (k, l, at) = omega arith

module _ (B : Row → Row → Type 0) where
  pub sorted_append : (xs ys : List Row) → Sorted B xs → Sorted B ys → ((x y : Row) → Has xs x → Has ys y → B x y) → Sorted B (xs ++ ys)
  sorted_append [] ys o p across = p
  sorted_append (x ∷ xs) ys o p across =
      (λ y h. ⊎_elim (o.0 y) (across x y (has_first x xs)) (has_append_cases xs ys y h), sorted_append xs ys o.1 p (λ z y h. across z y (has_later x z xs h)))

  pub sorted_map : (f : Row → Row) → ((x y : Row) → B x y → B (f x) (f y)) → (xs : List Row) → Sorted B xs → Sorted B (map f xs)
  sorted_map f keeps [] o = tt
  sorted_map f keeps (x ∷ xs) o = (λ y h. let (z, has, e) = has_map_from f xs y h in subst (B (f x)) e (keeps x z (o.0 z has)), sorted_map f keeps xs o.1)

  pub sorted_kept : (p : Row → Bool) (xs : List Row) → Sorted B xs → Sorted B (filter p xs)
  sorted_kept p [] o = tt
  sorted_kept p (x ∷ xs) o = go (p x) (sorted_kept p xs o.1)
    where
      go : (b : Bool) → Sorted B (filter p xs) → Sorted B (cond b (x ∷ filter p xs) (filter p xs))
      go true rest = (λ y h. o.0 y (has_kept_from p xs y h).0, rest)
      go false rest = rest

  module _ (never_both : (x y : Row) → B x y → B y x → ⊥) where
    never_self : (x : Row) → B x x → ⊥
    never_self x less = never_both x x less less

    -- the entries after x are those that x comes before
    pub record Split (xs : List Row) (x : Row) : Type 0 where
      pub before : List Row
      pub rest : List Row
      pub is : xs ≡ before ++ (x ∷ rest)
      pub sorted : Sorted B rest
      pub later : (y : Row) → Has rest y → Has xs y × B x y
      pub every : (y : Row) → Has xs y → B x y → Has rest y

    split : (xs : List Row) (x : Row) → Sorted B xs → Has xs x → Split xs x
    split [] x o h = absurd (no_member x h)
    split (z ∷ xs) x o h = ⊎_elim here (λ further. on (split xs x o.1 further) further) (has_cases z x xs h)
      where
        here : z ≡ x → Split (z ∷ xs) x
        here e = record {
          before = [];
          rest = xs;
          is = ap (λ y. y ∷ xs) e;
          sorted = o.1;
          later = λ y has. (has_later z y xs has, subst (λ w. B w y) e (o.0 y has));
          every = λ y has less. ⊎_elim (λ same. absurd (never_self x (subst (B x) (sym same ∙ e) less))) (λ more. more) (has_cases z y xs has);
        }

        on : Split xs x → Has xs x → Split (z ∷ xs) x
        on s further = record {
          before = z ∷ s.before;
          rest = s.rest;
          is = ap (λ ys. z ∷ ys) s.is;
          sorted = s.sorted;
          later = λ y has. let (in', less) = s.later y has in (has_later z y xs in', less);
          every = λ y has less. ⊎_elim (λ same. absurd (never_both x y less (subst (λ w. B w x) same (o.0 x further)))) (λ more. s.every y more less) (has_cases z y xs has);
        }

    -- the least entry stands first
    first_is : (xs : List Row) (y : Row) → Sorted B xs → Has xs y → ((z : Row) → Has xs z → (z ≡ y) ⊎ B y z) → (rest : List Row) × (xs ≡ (y ∷ rest))
    first_is [] y o h least = absurd (no_member y h)
    first_is (z ∷ xs) y o h least = ⊎_elim (λ same. (xs, ap (λ w. w ∷ xs) same)) (λ less. absurd (⊎_elim (λ e. never_self y (subst (B y) e less)) (λ more. never_both y z less (o.0 y more)) (has_cases z y xs h))) (least z (has_first z xs))

    none_is : (xs : List Row) → ((z : Row) → Has xs z → ⊥) → xs ≡ []
    none_is [] none' = refl
    none_is (z ∷ xs) none' = absurd (none' z (has_first z xs))

    -- a list that ascends and holds each row with P
    module _ (P : Row → Type 0) (xs : List Row) (o : Sorted B xs) (l : Lists xs P) where
      pub first_entry : (y : Row) → P y → ((z : Row) → P z → (z ≡ y) ⊎ B y z) → (rest : List Row) × Rest xs start (y ∷ rest)
      first_entry y p least = let (rest, e) = first_is xs y o (l.every y p) (λ z h. least z (l.only z h)) in (rest, subst (Rest xs start) e whole)

      pub first_end : ((z : Row) → P z → ⊥) → Rest xs start []
      first_end none' = subst (Rest xs start) (none_is xs (λ z h. none' z (l.only z h))) whole

      pub next_entry : (x y : Row) → P x → P y → B x y → ((z : Row) → P z → B x z → (z ≡ y) ⊎ B y z) → (rest : List Row) × Rest xs (after x) (y ∷ rest)
      next_entry x y p q less least =
          let s = split xs x o (l.every x p) in
          let (rest, e) = first_is s.rest y s.sorted (s.every y (l.every y q) less) (λ z h. let (in', more) = s.later z h in least z (l.only z in') more) in
          (rest, subst (Rest xs (after x)) e (part s.before x s.rest s.is))

      pub next_end : (x : Row) → P x → ((z : Row) → P z → B x z → ⊥) → Rest xs (after x) []
      next_end x p none' =
          let s = split xs x o (l.every x p) in
          subst (Rest xs (after x)) (none_is s.rest (λ z h. let (in', more) = s.later z h in none' z (l.only z in') more)) (part s.before x s.rest s.is)
