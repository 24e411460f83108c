-- Whether a row is an answer set is decided, and whether some row is one: there are finitely many rows of a width.
use Rattle.std.proofs.Common.{◌≡◌, ℕ, true, false, ◌≢◌, List, length, get_or, sym, refl, subst, arith}
use mathlib.Core.Logic.Dec
use mathlib.Core.Logic.{∥∥₁_elim}
use mathlib.Core.HLevel.{⊥_prop}
use native.Mathlib.Decide.{map_dec, ℕ_discrete}
use Rattle.game.specs.Sets.{Row, In, Within, union}
use Rattle.game.specs.Rules.{Head, none, atom, Rule, PlainIn, Kept, Obeys, is_head}
use Rattle.game.specs.AnswerSets.{Smallest, Allowed, AnswerSet}
use Rattle.game.proofs.Finite.{dec_true, dec_implies, dec_all, dec_each, dec_members, dec_some, dec_every, dec_within}

pub dec_kept : (x : Row) (r : Rule) → Dec (Kept x r)
dec_kept x r = dec_all (λ a. In a x → ⊥) (λ a. Dec.not (dec_true (get_or x a false))) r.negated

pub dec_plain : (s : Row) (r : Rule) → Dec (PlainIn s r)
dec_plain s r = dec_all (λ a. In a s) (λ a. dec_true (get_or s a false)) r.plain

none≢atom : (a : ℕ) → none ≢ atom a
none≢atom a e = let z : ◌≡◌ {A = ℕ} 0 1 = cc in omega arith

dec_headed : (h : Head) (P : ℕ → Type 0) → ((a : ℕ) → Dec (P a)) → Dec ((a : ℕ) → h ≡ atom a → P a)
dec_headed none P each = yes (λ a e. absurd (none≢atom a e))
dec_headed (atom b) P each = map_dec (λ p a e. subst P (same e) p) (λ f. f b refl) (each b)
  where
    same : {a : ℕ} → atom b ≡ atom a → b ≡ a
    same e = cc

dec_constraint : (h : Head) → Dec (h ≡ none)
dec_constraint none = yes refl
dec_constraint (atom a) = no (λ e. none≢atom a (sym e))

pub dec_obeys : (rules : List Rule) (x s : Row) → Dec (Obeys rules x s)
dec_obeys rules x s = map_dec (λ f r a h. f r h a) (λ f r h a. f r a h) (dec_each One one rules)
  where
    One : Rule → Type 0
    One r = (a : ℕ) → r.head ≡ atom a → Kept x r → PlainIn s r → In a s

    one : (r : Rule) → Dec (One r)
    one r = dec_headed r.head _ (λ a. dec_implies (dec_kept x r) (dec_implies (dec_plain s r) (dec_true (get_or s a false))))

pub dec_allowed : (rules : List Rule) (s : Row) → Dec (Allowed rules s)
dec_allowed rules s = dec_each _ (λ r. dec_implies (dec_constraint r.head) (dec_implies (dec_kept s r) (Dec.not (dec_plain s r)))) rules

pub dec_smallest : (rules : List Rule) (given x s : Row) → Dec (Smallest rules given x s)
dec_smallest rules given x s =
    let parts = Dec.and (dec_within given s) (Dec.and (dec_obeys rules x s) least) in
    map_dec (λ h. record { around = h.0; obeys = h.1.0; least = h.1.1 }) (λ h. (h.around, (h.obeys, h.least))) parts
  where
    least : Dec ((t : Row) → length t ≡ length s → Within given t → Obeys rules x t → Within s t)
    least = dec_every (length s) _ (λ t. dec_implies (dec_within given t) (dec_implies (dec_obeys rules x t) (dec_within s t)))

pub dec_answer : (rules : List Rule) (given i : Row) → Dec (AnswerSet rules given i)
dec_answer rules given i =
    let own = Dec.and (ℕ_discrete (length i) (length given)) heads in
    let rest = Dec.and (dec_smallest rules given all all) (dec_allowed rules all) in
    map_dec (λ h. record { width = h.0.0; heads = h.0.1; smallest = h.1.0; allowed = h.1.1 }) (λ h. ((h.width, h.heads), (h.smallest, h.allowed))) (Dec.and own rest)
  where
    all : Row
    all = union i given

    heads : Dec ((a : ℕ) → In a i → is_head rules a ≡ true)
    heads = dec_members i _ (λ a. dec_true (is_head rules a))

-- an answer set is as wide as what is given, so there are finitely many to try
pub dec_some_answer : (rules : List Rule) (given : Row) (P : Row → Type 0) → ((i : Row) → Dec (P i)) → Dec ((i : Row) × AnswerSet rules given i × P i)
dec_some_answer rules given P each =
    map_dec (λ h. (h.0, h.2.0, h.2.1)) (λ h. (h.0, h.1.width, (h.1, h.2))) (dec_some (length given) (λ i. AnswerSet rules given i × P i) (λ i. Dec.and (dec_answer rules given i) (each i)))

pub dec_answered : (rules : List Rule) (given : Row) → Dec ∥ ((i : Row) × AnswerSet rules given i) ∥₁
dec_answered rules given = go (dec_some_answer rules given (λ _. Unit {0}) (λ _. yes tt))
  where
    go : Dec ((i : Row) × AnswerSet rules given i × Unit {0}) → Dec ∥ ((i : Row) × AnswerSet rules given i) ∥₁
    go (yes h) = yes ∣ (h.0, h.1) ∣₁
    go (no f) = no (λ e. ∥∥₁_elim e ⊥_prop (λ h. f (h.0, h.1, tt)))
