-- For what only grows there is a smallest closed set around each start, and whole rounds lead to it.
use Rattle.std.proofs.Common.{◌≡◌, ℕ, zero, suc, ◌+◌, ◌<◌, Bool, true, false, ◌||◌, eqb, [], ◌∷◌, length, get_or, sym, refl, ◌∙◌, subst, arith}
use Rattle.std.proofs.lemmas.Bool.{eqb-true, eqb-false}
use Rattle.game.specs.Sets.{Row, Within}
use Rattle.game.specs.Derives.{SmallestClosed}
use Rattle.closure.specs.Rows.{marked}
use Rattle.closure.specs.Steps.{Monotone, Marked, Rounds, still, round}
use Rattle.closure.proofs.Marks.{marked_length, marked_within, same_marked}
use Rattle.closure.proofs.Rounding.{marked_keeps, rounds_width, rounds_smallest}

-- the row of n marks that g tells
abbrev pub tabulated : ℕ → (ℕ → Bool) → Row
tabulated zero g = []
tabulated (suc n) g = g 0 ∷ tabulated n (λ k. g (suc k))

length-tabulated : (n : ℕ) (g : ℕ → Bool) → length (tabulated n g) ≡ n
length-tabulated zero g = refl
length-tabulated (suc n) g = let e = length-tabulated n (λ k. g (suc k)) in omega arith

get_or-tabulated : (n : ℕ) (g : ℕ → Bool) (k : ℕ) → k < n → get_or (tabulated n g) k false ≡ g k
get_or-tabulated zero g k l = absurd (omega arith)
get_or-tabulated (suc n) g zero l = refl
get_or-tabulated (suc n) g (suc k) l = get_or-tabulated n (λ j. g (suc j)) k (omega arith)

abbrev pub next : ℕ → (ℕ → Bool) → Row → Row
next n f s = tabulated n (λ a. get_or s a false || f a)

next_marked : (n : ℕ) (f : ℕ → Bool) (s : Row) → Marked n f s (next n f s)
next_marked n f s = record { width = length-tabulated n _; each = λ a l. get_or-tabulated n (λ a. get_or s a false || f a) a l }

-- rounds from s on until one changes nothing, as many as the first argument says at most
unfoldable pub settled : ℕ → ℕ → (Row → ℕ → Bool) → Row → Row
settled zero n f s = s
settled (suc left) n f s = let u : Row = next n (f s) s in elim (eqb (marked s) (marked u)) [ true ↦ s | false ↦ settled left n f u ]

-- the smallest closed set around s, by as many rounds as there can be
unfoldable pub closure_of : ℕ → (Row → ℕ → Bool) → Row → Row
closure_of n f s = settled (suc n) n f s

module _ (n : ℕ) (f : Row → ℕ → Bool) (s : Row) (wide : length s ≡ n) where
  abbrev AtRest : Row → Type 0
  AtRest r = Rounds n f s r × Marked n (f r) r r

  -- a round that changes the set marks one atom more at least, so there is room for n such rounds at most
  still_within : (left : ℕ) (t : Row) → Rounds n f s t → n < marked t + left → AtRest (settled left n f t)
  unfolding settled
  still_within zero t rounds room =
      let few = marked_length t in
      let width = rounds_width n f s t wide rounds in
      absurd (omega arith)
  still_within (suc left) t rounds room = go (eqb (marked t) (marked u)) (eqb-true _ _) (eqb-false _ _) (λ more. still_within left u (round rounds u m) more)
    where
      u : Row
      u = next n (f t) t

      m : Marked n (f t) t u
      m = next_marked n (f t) t

      width : length t ≡ n
      width = rounds_width n f s t wide rounds

      same_width : length t ≡ length u
      same_width = width ∙ sym m.width

      keeps : Within t u
      keeps = marked_keeps n (f t) t u width m

      go : (b : Bool) → (b ≡ true → marked t ≡ marked u) → (b ≡ false → marked t ≡ marked u → ⊥) → (n < marked u + left → AtRest (settled left n f u)) → AtRest (elim b [ true ↦ t | false ↦ settled left n f u ])
      go true same other on = (rounds, subst (Marked n (f t) t) (sym (same_marked t u same_width keeps (same refl))) m)
      go false same other on = let more = marked_within t u same_width keeps in on (omega (arith, other refl))

  pub closure_smallest : Monotone n f → Rounds n f s (closure_of n f s) × SmallestClosed n f s (closure_of n f s)
  unfolding closure_of
  closure_smallest grows =
      let (rounds, m) = still_within (suc n) s still (omega arith) in
      (rounds, rounds_smallest n f s (settled (suc n) n f s) wide grows rounds m)
