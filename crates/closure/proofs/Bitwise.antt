-- Sets as the bits of a number, and what the operations on bits make of them.
use Rattle.std.proofs.Common.{◌≡◌, ℕ, ◌<◌, ◌≤◌, ◌-◌, ◌*◌, ◌%◌, ◌^◌, true, false, not, ◌&&◌, ◌||◌, ◌==◌, ◌≢◌, max, min, length, get_or, set, replicate, eqb, ltb, sym, ap, subst, ◌∙◌, ⊎_elim, Decides, arith}
use Rattle.std.proofs.lemmas.List.{ext_get_or, get_or_past, get_or-set_same, get_or-set_other, get_or-replicate, length-replicate, length-set}
use Rattle.std.proofs.lemmas.Bool.{cases_lt, cases_eq, eqb-true, eq-eqb, lt-ltb, le-ltb}
use Rattle.std.proofs.lemmas.Bool.Decides.{nat_tests}
use Rattle.std.specs.Int.{bit_at, bit_not, w128, trailing_zeros}
use Rattle.std.specs.Int.RustNames.{bit_and, bit_or}
use Rattle.std.proofs.lemmas.Nat.{and_le_l, or_lt, one_shl, pow_below}
use Rattle.std.proofs.lemmas.Nat.Bits.{bit_at_above, bit_at-lt, bit_at-zero, bit_at_and, bit_at_or, bit_at_not, bit_at_set_same, bit_at_set_other, bit_at_ones, bit_at_ones_above, bit_at-trailing_zeros, same_from_bits_below}
use Rattle.game.specs.Sets.{Row, In, Within, union}
use Rattle.closure.specs.Rows.{minus}
use Rattle.closure.specs.Bits.{bit_row, length-bit_row}
use Rattle.closure.proofs.Marks.{get_or-row, get_or-union, length-union, get_or-minus, length-minus}

mark_below : (n a : ℕ) → a < 96 → get_or (bit_row n) a false ≡ (bit_at n a == 1)
unfolding bit_row
mark_below n a below = get_or-row 96 (λ b. bit_at n b == 1) a below

-- a number below 2 ^ 96 has no bit past the last atom
pub mark_is : (n a : ℕ) → n < 2 ^ 96 → get_or (bit_row n) a false ≡ (bit_at n a == 1)
mark_is n a small = ⊎_elim (mark_below n a) past (cases_lt a 96)
  where
    past : 96 ≤ a → get_or (bit_row n) a false ≡ (bit_at n a == 1)
    past high = get_or_past (bit_row n) a false (omega (arith, length-bit_row n)) ∙ sym (ap (λ x. x == 1) (bit_at_above n 96 a small high))

pub bit_row_from : (n : ℕ) (s : Row) → length s ≡ 96 → ((a : ℕ) → a < 96 → (bit_at n a == 1) ≡ get_or s a false) → bit_row n ≡ s
bit_row_from n s wide each =
    ext_get_or false (bit_row n) s (length-bit_row n ∙ sym wide) (λ a less. let below : a < 96 = omega (arith, less, length-bit_row n) in mark_below n a below ∙ each a below)

one_is : (x y : ℕ) → x < 2 → y < 2 → (x == 1) ≡ (y == 1) → x ≡ y
one_is x y p q e = grind (arith, nat_tests)

-- one number for each set
pub one_number : (m n : ℕ) → m < 2 ^ 96 → n < 2 ^ 96 → bit_row m ≡ bit_row n → m ≡ n
one_number m n small small' e =
    same_from_bits_below 96 m n small small'
    (λ i below. one_is _ _ (bit_at-lt m i) (bit_at-lt n i) (sym (mark_below m i below) ∙ ap (λ s. get_or s i false) e ∙ mark_below n i below))

pub bit_row-zero : bit_row 0 ≡ replicate 96 false
bit_row-zero = bit_row_from 0 (replicate 96 false) (length-replicate 96 false) (λ a below. ap (λ x. x == 1) (bit_at-zero a) ∙ sym (get_or-replicate 96 a false false below))

or_bits : (x y : ℕ) → x < 2 → y < 2 → (max x y == 1) ≡ (x == 1 || y == 1)
or_bits x y p q = grind (arith, nat_tests)

and_bits : (x y : ℕ) → x < 2 → y < 2 → (min x y == 1) ≡ (x == 1 && y == 1)
and_bits x y p q = grind (arith, nat_tests)

flipped : (x : ℕ) → x < 2 → (1 - x == 1) ≡ not (x == 1)
flipped x p = grind (arith, nat_tests)

pub bit_row-or : (m n : ℕ) → bit_row (bit_or m n) ≡ union (bit_row m) (bit_row n)
bit_row-or m n =
    bit_row_from (bit_or m n) (union (bit_row m) (bit_row n)) (length-union 96 (bit_row m) (bit_row n) (length-bit_row m) (length-bit_row n))
    (λ a below.
    ap (λ x. x == 1) (bit_at_or m n a) ∙ or_bits _ _ (bit_at-lt m a) (bit_at-lt n a)
    ∙ sym (get_or-union (bit_row m) (bit_row n) a ∙ ap (λ b. b || get_or (bit_row n) a false) (mark_below m a below) ∙ ap (λ b. bit_at m a == 1 || b) (mark_below n a below)))

pub bit_row-minus : (m n : ℕ) → n < 2 ^ 96 → bit_row (bit_and m (bit_not w128 n)) ≡ minus (bit_row m) (bit_row n)
bit_row-minus m n small =
    bit_row_from (bit_and m (bit_not w128 n)) (minus (bit_row m) (bit_row n)) (length-minus (bit_row m) (bit_row n) ∙ length-bit_row m)
    (λ a below.
    ap (λ x. x == 1) (bit_at_and m (bit_not w128 n) a) ∙ and_bits _ _ (bit_at-lt m a) (bit_at-lt (bit_not w128 n) a)
    ∙ ap (λ b. bit_at m a == 1 && b) (ap (λ x. x == 1) (bit_at_not w128 n a (omega arith) (omega arith)) ∙ flipped _ (bit_at-lt n a))
    ∙ sym (get_or-minus (bit_row m) (bit_row n) a ∙ ap (λ b. b && not (get_or (bit_row n) a false)) (mark_below m a below) ∙ ap (λ b. bit_at m a == 1 && not b) (mark_below n a below)))

-- one atom more
pub bit_row-set : (n k : ℕ) → k < 96 → bit_row (bit_or n (1 * 2 ^ k % 2 ^ 128)) ≡ set (bit_row n) k true
bit_row-set n k inside =
    bit_row_from (bit_or n (1 * 2 ^ k % 2 ^ 128)) (set (bit_row n) k true) (length-set (bit_row n) k true ∙ length-bit_row n)
    (λ a below. ⊎_elim (same a below) (other a below) (cases_eq a k))
  where
    wide : k < 128
    wide = omega (arith, inside)

    same : (a : ℕ) → a < 96 → a ≡ k → (bit_at (bit_or n (1 * 2 ^ k % 2 ^ 128)) a == 1) ≡ get_or (set (bit_row n) k true) a false
    same a below e =
        ap (λ b. bit_at (bit_or n (1 * 2 ^ k % 2 ^ 128)) b == 1) e ∙ ap (λ x. x == 1) (bit_at_set_same w128 n k wide)
        ∙ sym (ap (λ b. get_or (set (bit_row n) k true) b false) e ∙ get_or-set_same (bit_row n) k true false (omega (arith, inside, length-bit_row n)))

    other : (a : ℕ) → a < 96 → a ≢ k → (bit_at (bit_or n (1 * 2 ^ k % 2 ^ 128)) a == 1) ≡ get_or (set (bit_row n) k true) a false
    other a below ne =
        ap (λ x. x == 1) (bit_at_set_other w128 n k wide a ne) ∙ sym (get_or-set_other (bit_row n) k a true false ne ∙ mark_below n a below)

pub bit_set_small : (n k : ℕ) → n < 2 ^ 96 → k < 96 → bit_or n (1 * 2 ^ k % 2 ^ 128) < 2 ^ 96
bit_set_small n k small inside = subst (λ (m : ℕ). bit_or n m < 2 ^ 96) (sym (one_shl k 128 (omega (arith, inside)))) (or_lt 96 n (2 ^ k) small (pow_below k 96 inside))

-- what stands in a number stands in the set that it tells
pub in_from_bit : (n a : ℕ) → n < 2 ^ 96 → bit_at n a ≡ 1 → In a (bit_row n)
in_from_bit n a small e = mark_is n a small ∙ ap (λ x. x == 1) e

pub bit_from_in : (n a : ℕ) → n < 2 ^ 96 → In a (bit_row n) → bit_at n a ≡ 1
bit_from_in n a small h = eqb-true (bit_at n a) 1 (sym (mark_is n a small) ∙ h)

no_bit : (n a : ℕ) → n < 2 ^ 96 → (In a (bit_row n) → ⊥) → bit_at n a ≡ 0
no_bit n a small out =
    let low = bit_at-lt n a in
    ⊎_elim (λ e. e) (λ ne. let one : bit_at n a ≡ 1 = omega (arith, low, ne) in absurd (out (in_from_bit n a small one))) (cases_eq (bit_at n a) 0)

and_small : (m n : ℕ) → m < 2 ^ 96 → bit_and m n < 2 ^ 96
and_small m n small = let less = and_le_l m n in omega (arith, less, small)

pub within_bits : (m n : ℕ) → m < 2 ^ 96 → n < 2 ^ 96 → Decides (eqb (bit_and m n) m) (Within (bit_row m) (bit_row n))
within_bits m n small small' = (
  λ e a h.
      let one = bit_from_in m a small h in
      let both : bit_at m a ≡ min (bit_at m a) (bit_at n a) = ap (λ x. bit_at x a) (sym (eqb-true (bit_and m n) m e)) ∙ bit_at_and m n a in
      let low = bit_at-lt n a in
      in_from_bit n a small' (omega (arith, one, both, low)),
  λ w. eq-eqb (bit_and m n) m
      (same_from_bits_below 96 (bit_and m n) m (and_small m n small) small (λ i below. bit_at_and m n i ∙ kept i w)),
)
  where
    kept : (i : ℕ) → Within (bit_row m) (bit_row n) → min (bit_at m i) (bit_at n i) ≡ bit_at m i
    kept i w =
        let low = bit_at-lt m i in
        ⊎_elim (λ zero'. omega (arith, zero')) (λ ne. let one : bit_at m i ≡ 1 = omega (arith, low, ne) in let two = bit_from_in n i small' (w i (in_from_bit m i small one)) in omega (arith, one, two)) (cases_eq (bit_at m i) 0)

pub apart_bits : (m n : ℕ) → m < 2 ^ 96 → n < 2 ^ 96 → Decides (eqb (bit_and m n) 0) ((a : ℕ) → In a (bit_row m) → In a (bit_row n) → ⊥)
apart_bits m n small small' = (
  λ e a h k.
      let one = bit_from_in m a small h in
      let two = bit_from_in n a small' k in
      let none : 0 ≡ min (bit_at m a) (bit_at n a) = sym (bit_at-zero a) ∙ ap (λ x. bit_at x a) (sym (eqb-true (bit_and m n) 0 e)) ∙ bit_at_and m n a in
      absurd (omega (arith, one, two, none)),
  λ out. eq-eqb (bit_and m n) 0
      (same_from_bits_below 96 (bit_and m n) 0 (and_small m n small) (omega arith) (λ i below. bit_at_and m n i ∙ lost i out ∙ sym (bit_at-zero i))),
)
  where
    lost : (i : ℕ) → ((a : ℕ) → In a (bit_row m) → In a (bit_row n) → ⊥) → min (bit_at m i) (bit_at n i) ≡ 0
    lost i out =
        let low = bit_at-lt m i in
        ⊎_elim (λ zero'. omega (arith, zero')) (λ ne. let one : bit_at m i ≡ 1 = omega (arith, low, ne) in let two = no_bit n i small' (out i (in_from_bit m i small one)) in omega (arith, two)) (cases_eq (bit_at m i) 0)

pub lowest_bit : (n : ℕ) → n < 2 ^ 96 → 0 < n → In (trailing_zeros w128 n) (bit_row n) × ((j : ℕ) → j < trailing_zeros w128 n → In j (bit_row n) → ⊥)
lowest_bit n small some =
    let wide : n < 2 ^ 128 = omega (arith, small) in
    let found = bit_at-trailing_zeros w128 n some wide in
    (in_from_bit n (trailing_zeros w128 n) small found.1, λ j less h. let one = bit_from_in n j small h in let none = found.2 j less in absurd (omega (arith, one, none)))

-- the atoms below k
module _ (k : ℕ) (few : k ≤ 96) where
  made : 1 * 2 ^ k % 2 ^ 128 ≡ 2 ^ k
  made = one_shl k 128 (omega (arith, few))

  pub below_small : 1 * 2 ^ k % 2 ^ 128 - 1 < 2 ^ 96
  below_small = ⊎_elim (λ less. let p = pow_below k 96 less in omega (arith, p, made)) (λ more. let last : k ≡ 96 = omega (arith, few, more) in let all : 2 ^ k ≡ 2 ^ 96 = ap (λ n. 2 ^ n) last in omega (arith, all, made)) (cases_lt k 96)

  pub below_mark : (j : ℕ) → j < 96 → get_or (bit_row (1 * 2 ^ k % 2 ^ 128 - 1)) j false ≡ ltb j k
  below_mark j inside =
      mark_below (1 * 2 ^ k % 2 ^ 128 - 1) j inside ∙ ap (λ n. bit_at (n - 1) j == 1) made
      ∙ ⊎_elim (λ less. ap (λ x. x == 1) (bit_at_ones k j less) ∙ sym (lt-ltb j k less)) (λ more. ap (λ x. x == 1) (bit_at_ones_above k j more) ∙ sym (le-ltb j k more)) (cases_lt j k)
