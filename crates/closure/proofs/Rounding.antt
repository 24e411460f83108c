-- What holds of a set that was reached by whole rounds.
use Rattle.std.proofs.Common.{◌≡◌, ℕ, ◌<◌, Bool, true, false, length, get_or, sym, ◌∙◌, ⊎_elim, arith}
use Rattle.std.proofs.lemmas.Bool.{or_cases, or_left, or_right}
use Rattle.game.specs.Sets.{Row, In, Within}
use Rattle.game.specs.Derives.{Closed, SmallestClosed}
use Rattle.closure.specs.Steps.{Monotone, Marked, Rounds, still, round}
use Rattle.closure.proofs.Marks.{in_below}

-- a member of the next set is one of the set before it, or follows from that
pub marked_cases : (n : ℕ) (f : ℕ → Bool) (was is : Row) → Marked n f was is → (P : ℕ → Type 0) → ((a : ℕ) → In a was → P a) → ((a : ℕ) → a < n → f a ≡ true → P a) → (a : ℕ) → In a is → P a
marked_cases n f was is m P old new a h =
    let below : a < n = omega (arith, in_below is a h, m.width) in
    ⊎_elim (old a) (new a below) (or_cases (get_or was a false) (f a) (sym (m.each a below) ∙ h))

pub marked_keeps : (n : ℕ) (f : ℕ → Bool) (was is : Row) → length was ≡ n → Marked n f was is → Within was is
marked_keeps n f was is e m a h =
    let below : a < n = omega (arith, in_below was a h) in
    m.each a below ∙ or_left (get_or was a false) (f a) h

pub rounds_width : (n : ℕ) (f : Row → ℕ → Bool) (s r : Row) → length s ≡ n → Rounds n f s r → length r ≡ n
rounds_width n f s r e still = e
rounds_width n f s r e (round p u m) = m.width

-- what holds of the start, and of whatever follows from members of which it holds, holds of every member
pub rounds_induction :
    (n : ℕ) (f : Row → ℕ → Bool) (s r : Row) → length s ≡ n → Rounds n f s r
    → (P : ℕ → Type 0) → ((a : ℕ) → In a s → P a)
    → ((t : Row) → length t ≡ n → ((a : ℕ) → In a t → P a) → (a : ℕ) → a < n → f t a ≡ true → P a)
    → (a : ℕ) → In a r → P a
rounds_induction n f s r e still P base step = base
rounds_induction n f s r e (round {t} p u m) P base step =
    let before : (a : ℕ) → In a t → P a = rounds_induction n f s t e p P base step in
    marked_cases n (f t) t u m P before (step t (rounds_width n f s t e p) before)

pub rounds_around : (n : ℕ) (f : Row → ℕ → Bool) (s r : Row) → length s ≡ n → Rounds n f s r → Within s r
rounds_around n f s r e still = λ a h. h
rounds_around n f s r e (round {t} p u m) = λ a h. marked_keeps n (f t) t u (rounds_width n f s t e p) m a (rounds_around n f s t e p a h)

pub rounds_least :
    (n : ℕ) (f : Row → ℕ → Bool) (s r : Row) → length s ≡ n → Monotone n f → Rounds n f s r
    → (x : Row) → length x ≡ n → Within s x → Closed n f x → Within r x
rounds_least n f s r e grows p x wide around closed =
    rounds_induction n f s r e p (λ a. In a x) around
    (λ t w below a l h. closed a l (grows t x w wide below a h))

-- a set that a round leaves as it is, is closed
pub still_closed : (n : ℕ) (f : Row → ℕ → Bool) (s : Row) → Marked n (f s) s s → Closed n f s
still_closed n f s m a l h = m.each a l ∙ or_right (get_or s a false) (f s a) h

pub rounds_smallest :
    (n : ℕ) (f : Row → ℕ → Bool) (s r : Row) → length s ≡ n → Monotone n f → Rounds n f s r → Marked n (f r) r r → SmallestClosed n f s r
rounds_smallest n f s r e grows p m = record {
  width = rounds_width n f s r e p;
  around = rounds_around n f s r e p;
  closed = still_closed n f r m;
  least = rounds_least n f s r e grows p;
}

-- For the loop of a step's `mark`: nothing marked yet, one atom more, and another test for the same atoms.
