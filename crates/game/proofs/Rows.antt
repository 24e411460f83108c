-- Rows as sets: their members, unions, and the row of a test.
use Rattle.std.proofs.Common.{◌≡◌, ℕ, zero, suc, ◌<◌, Bool, true, false, ◌&&◌, ◌⊎◌, [], ◌∷◌, length, get_or, replicate, sym, refl, ap, ◌∙◌, ap₂, inl, inr, arith}
use mathlib.Core.Bool.{or_comm}
use lib.ListN.{length-replicate}
use Rattle.std.proofs.lemmas.List.{ext_get_or}
use Rattle.std.proofs.lemmas.Bool.{false≢true, and_from, and_parts, or_cases, or_left}
use Rattle.std.proofs.lemmas.Bool.Decides.{same_from_decides}
use Rattle.game.specs.Sets.{Row, In, Within, union}

pub in_below : (s : Row) (a : ℕ) → In a s → a < length s
in_below [] a h = absurd (false≢true h)
in_below (x ∷ s) zero h = omega arith
in_below (x ∷ s) (suc a) h = let k = in_below s a h in omega arith

pub in_width : {n : ℕ} (s : Row) → length s ≡ n → (a : ℕ) → In a s → a < n
in_width s width a h = rw width at (in_below s a h)

-- rows of one width with the same members are equal
pub same_rows : (s t : Row) → length s ≡ length t → Within s t → Within t s → s ≡ t
same_rows s t same f g = ext_get_or false s t same (λ a _. same_from_decides (get_or s a false) (get_or t a false) (λ e. e, λ e. e) (g a, f a))

pub union_cases : (s t : Row) (a : ℕ) → In a (union s t) → In a s ⊎ In a t
union_cases [] t a h = inr h
union_cases (x ∷ s) [] a h = inl h
union_cases (x ∷ s) (y ∷ t) zero h = or_cases x y h
union_cases (x ∷ s) (y ∷ t) (suc a) h = union_cases s t a h

pub union_comm : (s t : Row) → union s t ≡ union t s
union_comm [] [] = refl
union_comm [] (y ∷ t) = refl
union_comm (x ∷ s) [] = refl
union_comm (x ∷ s) (y ∷ t) = ap₂ ◌∷◌ (or_comm x y) (union_comm s t)

pub union_left : (s t : Row) → Within s (union s t)
union_left [] t a h = absurd (false≢true h)
union_left (x ∷ s) [] a h = h
union_left (x ∷ s) (y ∷ t) zero h = or_left x y h
union_left (x ∷ s) (y ∷ t) (suc a) h = union_left s t a h

pub union_right : (s t : Row) → Within t (union s t)
union_right s t a h = rw union_comm (union_left t s a h)

pub length-union : (s t : Row) → length s ≡ length t → length (union s t) ≡ length t
length-union [] t same = refl
length-union (x ∷ s) [] same = same
length-union (x ∷ s) (y ∷ t) same = ap suc (length-union s t (omega arith))

pub in_none : (n a : ℕ) → In a (replicate n false) → ⊥
in_none zero a h = false≢true h
in_none (suc n) zero h = false≢true h
in_none (suc n) (suc a) h = in_none n a h

pub union_none : (n : ℕ) (s : Row) → length s ≡ n → union s (replicate n false) ≡ s
union_none n s width = same_rows (union s none) s (length-union s none same ∙ sym same) only (union_left s none)
  where
    none : Row
    none = replicate n false

    same : length s ≡ length none
    same = rw length-replicate width

    only : Within (union s none) s
    only a h = elim (union_cases s none a h) [ inl k ↦ k | inr k ↦ absurd (in_none n a k) ]

-- the numbers below n that pass a test
abbrev pub row : ℕ → (ℕ → Bool) → Row
row zero f = []
row (suc n) f = f 0 ∷ row n (λ a. f (suc a))

pub length-row : (n : ℕ) (f : ℕ → Bool) → length (row n f) ≡ n
length-row zero f = refl
length-row (suc n) f = ap suc (length-row n (λ a. f (suc a)))

pub in_row : (n : ℕ) (f : ℕ → Bool) (a : ℕ) → a < n → f a ≡ true → In a (row n f)
in_row zero f a below h = absurd (omega arith)
in_row (suc n) f zero below h = h
in_row (suc n) f (suc a) below h = in_row n (λ b. f (suc b)) a (omega arith) h

pub row_passes : (n : ℕ) (f : ℕ → Bool) (a : ℕ) → In a (row n f) → f a ≡ true
row_passes zero f a h = absurd (false≢true h)
row_passes (suc n) f zero h = h
row_passes (suc n) f (suc a) h = row_passes n (λ b. f (suc b)) a h

abbrev pub both : Row → Row → Row
both s t = row (length s) (λ a. get_or s a false && get_or t a false)

pub in_both : (s t : Row) (a : ℕ) → In a s → In a t → In a (both s t)
in_both s t a h k = in_row (length s) _ a (in_below s a h) (and_from (get_or s a false) (get_or t a false) h k)

pub both_parts : (s t : Row) (a : ℕ) → In a (both s t) → In a s × In a t
both_parts s t a h = and_parts (get_or s a false) (get_or t a false) (row_passes (length s) (λ b. get_or s b false && get_or t b false) a h)
