-- Rows by their members: equal rows, unions and parts.
use Rattle.std.proofs.Common.{◌≡◌, ℕ, zero, suc, Bool, true, false, ◌&&◌, ◌||◌, ◌⊎◌, [], ◌∷◌, length, get_or, Decides, refl, ap, arith}
use Rattle.std.proofs.lemmas.List.{ext_get_or}
use Rattle.std.proofs.lemmas.Bool.Decides.{same_from_decides, Decides-at, Decides-and, Decides-or}
use Rattle.game.specs.Sets.{Row, In, Within, union}

-- a test decides that it comes out true
pub decides_itself : (b : Bool) → Decides b (b ≡ true)
decides_itself b = (λ e. e, λ e. e)

-- two rows of one length with the same members are one row
pub same_rows : (s t : Row) → length s ≡ length t → Within s t → Within t s → s ≡ t
same_rows s t e h k = ext_get_or false s t e (λ a _. same_from_decides (get_or s a false) (get_or t a false) (decides_itself (get_or s a false)) (k a, h a))

or_false : (b : Bool) → b ≡ (b || false)
or_false true = refl
or_false false = refl

get_or-union : (s t : Row) (a : ℕ) → get_or (union s t) a false ≡ (get_or s a false || get_or t a false)
get_or-union [] t a = refl
get_or-union (x ∷ s) [] a = or_false (get_or (x ∷ s) a false)
get_or-union (x ∷ s) (y ∷ t) zero = refl
get_or-union (x ∷ s) (y ∷ t) (suc a) = get_or-union s t a

pub in_union : (s t : Row) (a : ℕ) → Decides (get_or (union s t) a false) (In a s ⊎ In a t)
in_union s t a = Decides-at _ _ (get_or-union s t a) (Decides-or _ _ (decides_itself (get_or s a false)) (decides_itself (get_or t a false)))

pub length-union : (s t : Row) → length s ≡ length t → length (union s t) ≡ length t
length-union [] t e = refl
length-union (x ∷ s) [] e = e
length-union (x ∷ s) (y ∷ t) e = ap suc (length-union s t (omega arith))

-- the members of s that pass a test
unfoldable pub part : (ℕ → Bool) → Row → Row
part f [] = []
part f (x ∷ s) = (x && f 0) ∷ part (λ a. f (suc a)) s

pub length-part : (f : ℕ → Bool) (s : Row) → length (part f s) ≡ length s
unfolding part
length-part f [] = refl
length-part f (x ∷ s) = ap suc (length-part (λ a. f (suc a)) s)

get_d_part : (f : ℕ → Bool) (s : Row) (a : ℕ) → get_or (part f s) a false ≡ (get_or s a false && f a)
unfolding part
get_d_part f [] a = refl
get_d_part f (x ∷ s) zero = refl
get_d_part f (x ∷ s) (suc a) = get_d_part (λ b. f (suc b)) s a

pub in_part : (f : ℕ → Bool) (P : ℕ → Type 0) → ((a : ℕ) → Decides (f a) (P a)) → (s : Row) (a : ℕ) → Decides (get_or (part f s) a false) (In a s × P a)
in_part f P each s a = Decides-at _ _ (get_d_part f s a) (Decides-and _ _ (decides_itself (get_or s a false)) (each a))
