-- Rows of marks, place by place.
use Rattle.std.proofs.Common.{◌≡◌, ℕ, zero, suc, ◌<◌, ◌≤◌, Bool, true, false, cond, not, ◌&&◌, ◌||◌, ◌⊎◌, [], ◌∷◌, length, get_or, set, eqb, sym, refl, ap, subst, ◌∙◌, ⊎_elim, arith}
use Rattle.std.proofs.lemmas.List.{ext_get_or, get_or_past, get_or-set_same, get_or-set_other}
use Rattle.std.proofs.lemmas.Bool.{cases_lt, cases_eq, cases_Bool, eq-eqb, ne_eqb, both_ways, false≢true, or_cases, or_left, or_right, and_parts, and_from, not-true, not_from_false}
use Rattle.std.proofs.Math.Bool.{beq, or-true, or-false}
use Rattle.std.specs.Bool.{Decides}
use Rattle.std.specs.Cmp.{booleans_Decides}
use Rattle.std.specs.Cmp.Lexicographic.{pointwise, pointwise_decides}
use Rattle.game.specs.Sets.{Row, In, Within, union}
use Rattle.game.proofs.Rows.{row, length-row}
use Rattle.closure.specs.Rows.{marked, minus}

-- a test of two rows tells whether they have the same marks
pub told_same : (s t : Row) (r : Bool) → r ≡ pointwise beq s t → Decides r (s ≡ t)
told_same s t r e = subst (λ b. Decides b (s ≡ t)) (sym e) (pointwise_decides booleans_Decides s t)

-- the same of a test that they differ
pub told_other : (s t : Row) (r : Bool) → r ≡ not (pointwise beq s t) → Decides (not r) (s ≡ t)
told_other s t r e = told_same s t (not r) (ap not e ∙ twice (pointwise beq s t))
  where
    twice : (b : Bool) → not (not b) ≡ b
    twice true = refl
    twice false = refl

pub or_nothing : (x : Bool) → x ≡ (x || false)
or_nothing true = refl
or_nothing false = refl

pub or_assoc : (x y z : Bool) → ((x || y) || z) ≡ (x || (y || z))
or_assoc true y z = refl
or_assoc false y z = refl

and_all : (x : Bool) → x ≡ (x && not false)
and_all true = refl
and_all false = refl

pub get_or-union : (s t : Row) (k : ℕ) → get_or (union s t) k false ≡ (get_or s k false || get_or t k false)
get_or-union [] t k = refl
get_or-union (x ∷ s) [] k = or_nothing (get_or (x ∷ s) k false)
get_or-union (x ∷ s) (y ∷ t) zero = refl
get_or-union (x ∷ s) (y ∷ t) (suc k) = get_or-union s t k

pub length-union : (n : ℕ) (s t : Row) → length s ≡ n → length t ≡ n → length (union s t) ≡ n
length-union n [] t p q = q
length-union n (x ∷ s) [] p q = p
length-union n (x ∷ s) (y ∷ t) p q = let e : length (union s t) ≡ length s = length-union (length s) s t refl (omega arith) in omega arith

pub get_or-minus : (s t : Row) (k : ℕ) → get_or (minus s t) k false ≡ (get_or s k false && not (get_or t k false))
get_or-minus [] t k = refl
get_or-minus (x ∷ s) [] k = and_all (get_or (x ∷ s) k false)
get_or-minus (x ∷ s) (y ∷ t) zero = refl
get_or-minus (x ∷ s) (y ∷ t) (suc k) = get_or-minus s t k

pub length-minus : (s t : Row) → length (minus s t) ≡ length s
length-minus [] t = refl
length-minus (x ∷ s) [] = refl
length-minus (x ∷ s) (y ∷ t) = ap suc (length-minus s t)

or_laid : (x y : Bool) → cond y true x ≡ (x || y)
or_laid true true = refl
or_laid true false = refl
or_laid false true = refl
or_laid false false = refl

and_laid : (x y : Bool) → cond y false x ≡ (x && not y)
and_laid true true = refl
and_laid true false = refl
and_laid false true = refl
and_laid false false = refl

pub union_from :
    (n : ℕ) (r s t : Row) → length r ≡ n → length s ≡ n → length t ≡ n
    → ((k : ℕ) → k < n → get_or r k false ≡ cond (get_or t k false) true (get_or s k false)) → r ≡ union s t
union_from n r s t p q w h =
    ext_get_or false r (union s t) (p ∙ sym (length-union n s t q w))
    (λ k l. h k (omega arith) ∙ or_laid (get_or s k false) (get_or t k false) ∙ sym (get_or-union s t k))

pub minus_from :
    (n : ℕ) (r s t : Row) → length r ≡ n → length s ≡ n
    → ((k : ℕ) → k < n → get_or r k false ≡ cond (get_or t k false) false (get_or s k false)) → r ≡ minus s t
minus_from n r s t p q h =
    ext_get_or false r (minus s t) (p ∙ sym q ∙ sym (length-minus s t))
    (λ k l. h k (omega arith) ∙ and_laid (get_or s k false) (get_or t k false) ∙ sym (get_or-minus s t k))

-- the marks of the row of a test
pub get_or-row : (n : ℕ) (f : ℕ → Bool) (a : ℕ) → a < n → get_or (row n f) a false ≡ f a
get_or-row zero f a less = absurd (omega arith)
get_or-row (suc n) f zero less = refl
get_or-row (suc n) f (suc a) less = get_or-row n (λ b. f (suc b)) a (omega arith)

pub row_from : (n : ℕ) (f : ℕ → Bool) (s : Row) → length s ≡ n → ((a : ℕ) → a < n → get_or s a false ≡ f a) → s ≡ row n f
row_from n f s wide each = ext_get_or false s (row n f) (wide ∙ sym (length-row n f)) (λ a less. let inside : a < n = omega arith in each a inside ∙ sym (get_or-row n f a inside))

-- one mark more
pub marked_more : (s : Row) (h a : ℕ) → a < length s → get_or (set s h true) a false ≡ (get_or s a false || eqb a h)
marked_more s h a less =
    ⊎_elim
    (λ same. ap (λ b. get_or (set s b true) a false) (sym same) ∙ get_or-set_same s a true false less ∙ sym (ap (λ b. get_or s a false || b) (eq-eqb a h same) ∙ or-true (get_or s a false)))
    (λ other. get_or-set_other s h a true false other ∙ sym (ap (λ b. get_or s a false || b) (ne_eqb a h other) ∙ or-false (get_or s a false)))
    (cases_eq a h)

-- Inclusion and counts.

pub in_below : (s : Row) (a : ℕ) → In a s → a < length s
in_below s a h = ⊎_elim (λ l. l) (λ past. absurd (false≢true (sym (get_or_past s a false past) ∙ h))) (cases_lt a (length s))

pub same_rows : (s t : Row) → length s ≡ length t → Within s t → Within t s → s ≡ t
same_rows s t e p q = ext_get_or false s t e (λ k l. same_bool (get_or s k false) (get_or t k false) (p k) (q k))
  where
    same_bool : (x y : Bool) → (x ≡ true → y ≡ true) → (y ≡ true → x ≡ true) → x ≡ y
    same_bool true y p q = sym (p refl)
    same_bool false true p q = q refl
    same_bool false false p q = refl

pub marked_length : (s : Row) → marked s ≤ length s
marked_length [] = omega arith
marked_length (true ∷ s) = omega (arith, marked_length s)
marked_length (false ∷ s) = omega (arith, marked_length s)

tail_within : (x y : Bool) (s t : Row) → Within (x ∷ s) (y ∷ t) → Within s t
tail_within x y s t w a h = w (suc a) h

pub marked_within : (s t : Row) → length s ≡ length t → Within s t → marked s ≤ marked t
marked_within [] t e w = omega arith
marked_within (x ∷ s) [] e w = absurd (omega arith)
marked_within (true ∷ s) (true ∷ t) e w = omega (arith, marked_within s t (omega arith) (tail_within true true s t w))
marked_within (true ∷ s) (false ∷ t) e w = absurd (false≢true (w zero refl))
marked_within (false ∷ s) (true ∷ t) e w = omega (arith, marked_within s t (omega arith) (tail_within false true s t w))
marked_within (false ∷ s) (false ∷ t) e w = omega (arith, marked_within s t (omega arith) (tail_within false false s t w))

pub same_marked : (s t : Row) → length s ≡ length t → Within s t → marked s ≡ marked t → s ≡ t
same_marked [] [] e w m = refl
same_marked [] (y ∷ t) e w m = absurd (omega arith)
same_marked (x ∷ s) [] e w m = absurd (omega arith)
same_marked (true ∷ s) (true ∷ t) e w m = ap (λ r. true ∷ r) (same_marked s t (omega arith) (tail_within true true s t w) (omega arith))
same_marked (true ∷ s) (false ∷ t) e w m = absurd (false≢true (w zero refl))
same_marked (false ∷ s) (true ∷ t) e w m = absurd (omega (arith, marked_within s t (omega arith) (tail_within false true s t w)))
same_marked (false ∷ s) (false ∷ t) e w m = ap (λ r. false ∷ r) (same_marked s t (omega arith) (tail_within false false s t w) (omega arith))

-- a row that includes another and is not it has more marks
pub more_marked : (s t : Row) → length s ≡ length t → Within s t → (s ≡ t → ⊥) → marked s < marked t
more_marked s t e w ne =
    ⊎_elim (λ l. l) (λ le. absurd (ne (same_marked s t e w (omega (arith, marked_within s t e w))))) (cases_lt (marked s) (marked t))

-- Members of unions and differences.

pub in_union : (s t : Row) (a : ℕ) → In a (union s t) → In a s ⊎ In a t
in_union s t a h = or_cases (get_or s a false) (get_or t a false) (sym (get_or-union s t a) ∙ h)

pub union_left : (s t : Row) → Within s (union s t)
union_left s t a h = get_or-union s t a ∙ or_left (get_or s a false) (get_or t a false) h

pub union_right : (s t : Row) → Within t (union s t)
union_right s t a h = get_or-union s t a ∙ or_right (get_or s a false) (get_or t a false) h

pub in_minus : (s t : Row) (a : ℕ) → In a (minus s t) → In a s × (In a t → ⊥)
in_minus s t a h =
    let both = and_parts (get_or s a false) (not (get_or t a false)) (sym (get_or-minus s t a) ∙ h) in
    (both.0, both_ways (get_or t a false) (not-true (get_or t a false) both.1))

pub minus_in : (s t : Row) (a : ℕ) → In a s → (In a t → ⊥) → In a (minus s t)
minus_in s t a h out =
    get_or-minus s t a
    ∙ and_from (get_or s a false) (not (get_or t a false)) h
    (not_from_false (get_or t a false) (⊎_elim (λ e. absurd (out e)) (λ e. e) (cases_Bool (get_or t a false))))

-- a set within another adds nothing to it
pub within_union : (s t : Row) → length s ≡ length t → Within s t → union s t ≡ t
within_union s t e within = same_rows (union s t) t (length-union (length t) s t e refl) (λ a h. ⊎_elim (within a) (λ k. k) (in_union s t a h)) (union_right s t)
