-- What is decided of finitely many: of each element of a list, of each member of a row, of the rows of a width.
use Rattle.std.proofs.Common.{◌≡◌, ℕ, zero, suc, Bool, true, false, List, [], ◌∷◌, length, get_or, refl, ap, subst, arith}
use mathlib.Core.Logic.Dec
use native.Mathlib.Decide.{map_dec}
use Rattle.std.specs.List.{ContainsAt as Has, AllByRecursion}
use Rattle.std.proofs.lemmas.List.{nil_from_length}
use Rattle.std.proofs.lemmas.Bool.{false≢true}
use Rattle.game.specs.Sets.{Row, In, Within}
use Rattle.game.proofs.Each.{all_each}

pub dec_true : (b : Bool) → Dec (b ≡ true)
dec_true true = yes refl
dec_true false = no false≢true

pub dec_implies : {A B : Type 0} → Dec A → Dec B → Dec (A → B)
dec_implies (yes a) (yes b) = yes (λ _. b)
dec_implies (yes a) (no b) = no (λ f. b (f a))
dec_implies (no a) d = yes (λ x. absurd (a x))

pub dec_all : {X : Type 0} (P : X → Type 0) → ((x : X) → Dec (P x)) → (xs : List X) → Dec (AllByRecursion P xs)
dec_all P each [] = yes tt
dec_all P each (x ∷ xs) = Dec.and (each x) (dec_all P each xs)

pub dec_each : {X : Type 0} (P : X → Type 0) → ((x : X) → Dec (P x)) → (xs : List X) → Dec ((x : X) → Has xs x → P x)
dec_each P each xs = map_dec (all_each P xs).0 (all_each P xs).1 (dec_all P each xs)

-- what holds of every member of a row
pub dec_members : (s : Row) (P : ℕ → Type 0) → ((a : ℕ) → Dec (P a)) → Dec ((a : ℕ) → In a s → P a)
dec_members [] P each = yes (λ a h. absurd (false≢true h))
dec_members (x ∷ s) P each = map_dec more (λ f. (f 0, λ a. f (suc a))) (Dec.and (dec_implies (dec_true x) (each 0)) (dec_members s (λ a. P (suc a)) (λ a. each (suc a))))
  where
    more : (x ≡ true → P 0) × ((a : ℕ) → In a s → P (suc a)) → (a : ℕ) → In a (x ∷ s) → P a
    more f zero h = f.0 h
    more f (suc a) h = f.1 a h

-- some row of a width
pub dec_some : (n : ℕ) (P : Row → Type 0) → ((s : Row) → Dec (P s)) → Dec ((s : Row) × (length s ≡ n) × P s)
dec_some zero P each = map_dec (λ p. ([], refl, p)) (λ (s, e, p). subst P (nil_from_length s e) p) (each [])
dec_some (suc n) P each = go (dec_some n (λ s. P (true ∷ s)) (λ s. each (true ∷ s))) (dec_some n (λ s. P (false ∷ s)) (λ s. each (false ∷ s)))
  where
    Some : Bool → Type 0
    Some b = (s : Row) × (length s ≡ n) × P (b ∷ s)

    neither : (Some true → ⊥) → (Some false → ⊥) → (s : Row) → length s ≡ suc n → P s → ⊥
    neither f g [] e p = absurd (omega arith)
    neither f g (true ∷ s) e p = f (s, omega arith, p)
    neither f g (false ∷ s) e p = g (s, omega arith, p)

    go : Dec (Some true) → Dec (Some false) → Dec ((s : Row) × (length s ≡ suc n) × P s)
    go (yes h) d = yes (true ∷ h.0, ap suc h.1, h.2)
    go (no f) (yes h) = yes (false ∷ h.0, ap suc h.1, h.2)
    go (no f) (no g) = no (λ h. neither f g h.0 h.1 h.2)

-- every row of a width
pub dec_every : (n : ℕ) (P : Row → Type 0) → ((s : Row) → Dec (P s)) → Dec ((s : Row) → length s ≡ n → P s)
dec_every n P each =
    map_dec (λ f s e. (Dec.not-not (each s)).0 (λ p. f (s, e, p))) (λ f h. h.2 (f h.0 h.1)) (Dec.not (dec_some n (λ s. P s → ⊥) (λ s. Dec.not (each s))))

pub dec_within : (s t : Row) → Dec (Within s t)
dec_within s t = dec_members s (λ a. In a t) (λ a. dec_true (get_or t a false))
