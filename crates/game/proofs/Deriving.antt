-- What the tests of derivation decide, that they grow with the set, and the smallest set that is closed under them.
use Rattle.std.proofs.Common.{◌≡◌, ℕ, ◌<◌, Bool, true, false, ◌||◌, eqb, List, [], ◌∷◌, length, get_or, Decides, sym, refl, ap, ◌∙◌}
use Rattle.std.specs.List.{ContainsAt as Has, AllByRecursion}
use Rattle.std.proofs.ByRecursion.{All-weaker, has_get_or, Decides-by_and}
use Rattle.std.proofs.lemmas.Bool.Decides.{Decides-like, Decides-and, Decides-not, Decides-eqb, Decides-by_or}
use Rattle.game.specs.Sets.{Row, In, Within}
use Rattle.game.specs.Rules.{Head, none, atom, Rule, heads, is_head, Kept, PlainIn, Obeys}
use Rattle.game.specs.AnswerSets.{Smallest}
use Rattle.game.specs.Derives.{all_in, none_in, fires, derives, derives_at, Closed, SmallestClosed}
use Rattle.game.proofs.StrataRows.{decides_itself, same_rows}

-- ## What the tests decide

pub all_in_decides : (s : Row) (as' : List ℕ) → Decides (all_in s as') (AllByRecursion (λ a. In a s) as')
all_in_decides s = Decides-by_and (λ a. get_or s a false) (λ a. In a s) (all_in s) (λ a. decides_itself (get_or s a false)) refl (λ _ _. refl)

pub none_in_decides : (x : Row) (as' : List ℕ) → Decides (none_in x as') (AllByRecursion (λ a. In a x → ⊥) as')
none_in_decides x = Decides-by_and _ (λ a. In a x → ⊥) (none_in x) (λ a. Decides-not (get_or x a false) (decides_itself (get_or x a false))) refl (λ _ _. refl)

pub fires_decides : (x s : Row) (r : Rule) → Decides (fires x s r) (Kept x r × PlainIn s r)
fires_decides x s r = Decides-and _ _ (none_in_decides x r.negated) (all_in_decides s r.plain)

pub heads_decides : (a : ℕ) (h : Head) → Decides (heads a h) (h ≡ atom a)
heads_decides a none = (λ e. cc, λ e. cc)
heads_decides a (atom b) = Decides-like (eqb a b) (λ e. ap atom (sym e)) (λ e. cc) (Decides-eqb a b)

no_rule : Rule
no_rule = record { head = none; plain = []; negated = [] }

-- a test of each rule in turn decides that some rule passes
pub decides_some : (p : Rule → Bool) (P : Rule → Type 0) (f : List Rule → Bool) → ((r : Rule) → Decides (p r) (P r)) → f [] ≡ false → ((r : Rule) (rs : List Rule) → f (r ∷ rs) ≡ (p r || f rs)) → (rules : List Rule) → Decides (f rules) ((r : Rule) × Has rules r × P r)
decides_some p P f each none' more rules = Decides-like (f rules) (λ (k, h, at). (get_or rules k no_rule, has_get_or rules k no_rule h, at no_rule)) (λ (r, (k, h, at), q). (k, h, λ d. rw (at d) q)) (Decides-by_or p P f each none' more rules)

pub is_head_decides : (rules : List Rule) (a : ℕ) → Decides (is_head rules a) ((r : Rule) × Has rules r × (r.head ≡ atom a))
is_head_decides rules a = decides_some _ _ (λ rs. is_head rs a) (λ r. heads_decides a r.head) refl (λ _ _. refl) rules

-- a is the head of a rule of the reduct for x whose plain atoms are in s
abbrev pub Derived : List Rule → Row → Row → ℕ → Type 0
Derived rules x s a = (r : Rule) × Has rules r × (r.head ≡ atom a) × Kept x r × PlainIn s r

pub derives_decides : (rules : List Rule) (x s : Row) (a : ℕ) → Decides (derives rules x s a) (Derived rules x s a)
derives_decides rules x s a =
    let some = decides_some _ (λ r. (r.head ≡ atom a) × (Kept x r × PlainIn s r)) (λ rs. derives rs x s a) (λ r. Decides-and _ _ (heads_decides a r.head) (fires_decides x s r)) refl (λ _ _. refl) rules in
    Decides-like _ (λ (r, has, (head, (kept, plain))). (r, has, head, kept, plain)) (λ (r, has, head, kept, plain). (r, has, (head, (kept, plain)))) some

pub derives_at_decides : (rules : List Rule) (level : ℕ → ℕ) (l : ℕ) (x s : Row) (a : ℕ) → Decides (derives_at rules level l x s a) ((level a ≡ l) × Derived rules x s a)
derives_at_decides rules level l x s a = Decides-and _ _ (Decides-eqb (level a) l) (derives_decides rules x s a)

pub head_is_head : (rules : List Rule) (r : Rule) (a : ℕ) → Has rules r → r.head ≡ atom a → is_head rules a ≡ true
head_is_head rules r a has head = (is_head_decides rules a).1 (r, has, head)

-- ## What follows from a set follows from a larger one

abbrev pub Grows : (Row → ℕ → Bool) → Type 0
Grows f = (s t : Row) (a : ℕ) → Within s t → f s a ≡ true → f t a ≡ true

pub plain_grows : (s t : Row) (r : Rule) → Within s t → PlainIn s r → PlainIn t r
plain_grows s t r h = All-weaker _ _ h r.plain

pub derived_grows : (rules : List Rule) (x s t : Row) (a : ℕ) → Within s t → Derived rules x s a → Derived rules x t a
derived_grows rules x s t a h (r, has, head, kept, plain) = (r, has, head, kept, plain_grows s t r h plain)

pub derives_grows : (rules : List Rule) (x : Row) → Grows (derives rules x)
derives_grows rules x s t a h e = (derives_decides rules x t a).1 (derived_grows rules x s t a h ((derives_decides rules x s a).0 e))

pub derives_at_grows : (rules : List Rule) (level : ℕ → ℕ) (l : ℕ) (x : Row) → Grows (derives_at rules level l x)
derives_at_grows rules level l x s t a h e =
    let (at, d) = (derives_at_decides rules level l x s a).0 e in
    (derives_at_decides rules level l x t a).1 (at, derived_grows rules x s t a h d)

-- ## Closed sets obey the reduct

-- every head of the rules is below n
abbrev pub HeadsBelow : List Rule → ℕ → Type 0
HeadsBelow rules n = (a : ℕ) → is_head rules a ≡ true → a < n

pub obeys_closed : (n : ℕ) (rules : List Rule) (x s : Row) → Obeys rules x s → Closed n (derives rules x) s
obeys_closed n rules x s obeys a h e =
    let (r, has, head, kept, plain) = (derives_decides rules x s a).0 e in
    obeys r a has head kept plain

module _ (n : ℕ) (rules : List Rule) (x : Row) (below : HeadsBelow rules n) where
  pub closed_obeys : (s : Row) → Closed n (derives rules x) s → Obeys rules x s
  closed_obeys s closed r a has head kept plain =
      closed a (below a (head_is_head rules r a has head)) ((derives_decides rules x s a).1 (r, has, head, kept, plain))

  pub closed_smallest : (given s : Row) → SmallestClosed n (derives rules x) given s → Smallest rules given x s
  closed_smallest given s c = record {
    around = c.around;
    obeys = closed_obeys s c.closed;
    least = λ t e around obeys. c.least t (e ∙ c.width) around (obeys_closed n rules x t obeys);
  }

  pub smallest_closed : (given s : Row) → length s ≡ n → Smallest rules given x s → SmallestClosed n (derives rules x) given s
  smallest_closed given s e c = record {
    width = e;
    around = c.around;
    closed = obeys_closed n rules x s c.obeys;
    least = λ t e' around closed. c.least t (e' ∙ sym e) around (closed_obeys t closed);
  }

-- two smallest closed sets around one start are one
pub one_closed : (n : ℕ) (f : Row → ℕ → Bool) (start s t : Row) → SmallestClosed n f start s → SmallestClosed n f start t → s ≡ t
one_closed n f start s t c d = same_rows s t (c.width ∙ sym d.width) (c.least t d.width d.around d.closed) (d.least s c.width c.around c.closed)
