-- The headed rules of a program: its rules that have a head. They ask of a set what the program's reduct asks, and forbid nothing.
use Rattle.std.proofs.Common.{◌≡◌, ℕ, List, [], ◌∷◌, Decides, refl, ap, inl, inr, arith}
use Rattle.std.specs.List.{ContainsAt as Has}
use Rattle.std.proofs.lemmas.Bool.Decides.{same_from_decides, Decides-like}
use Rattle.game.specs.Sets.{Row}
use Rattle.game.specs.Rules.{Head, none, atom, Rule, headed, is_head, Obeys}
use Rattle.game.specs.AnswerSets.{Smallest, Allowed}
use Rattle.game.proofs.StrataLists.{has_first, has_later, has_cases}
use Rattle.game.proofs.Deriving.{is_head_decides}

-- ## The rules that have a head

abbrev pub Headed : Rule → Type 0
Headed r = (a : ℕ) × (r.head ≡ atom a)

no_head : {h : Head} {a : ℕ} → h ≡ none → h ≡ atom a → ⊥
no_head e f = let z : ◌≡◌ {A = ℕ} 0 1 = cc in omega arith

-- the headed rules of a list are those of its tail, and its first rule if that has a head
data Split (r : Rule) (rs : List Rule) : Type 0 where
  without : r.head ≡ none → headed (r ∷ rs) ≡ headed rs → Split r rs
  with_head : (a : ℕ) → r.head ≡ atom a → headed (r ∷ rs) ≡ r ∷ headed rs → Split r rs

split : (r : Rule) (rs : List Rule) → Split r rs
split r rs = go r.head refl
  where
    by_head : Head → List Rule
    by_head h = elim h [ none ↦ headed rs | atom a ↦ r ∷ headed rs ]

    go : (h : Head) → r.head ≡ h → Split r rs
    go none e = without e (ap by_head e)
    go (atom a) e = with_head a e (ap by_head e)

module _ (r : Rule) (rs : List Rule) (q : Rule) where
  headed_has_on : (Has (headed rs) q → Has rs q × Headed q) → Split r rs → Has (headed (r ∷ rs)) q → Has (r ∷ rs) q × Headed q
  headed_has_on on (without e same) has = let (h, k) = on (rw same at has) in (has_later r q rs h, k)
  headed_has_on on (with_head a e same) has = elim (has_cases r q (headed rs) (rw same at has)) [
    | inl first ↦ (rw (← first) (has_first r rs), (a, rw (← first) e))
    | inr h ↦ (has_later r q rs (on h).0, (on h).1)
  ]

  has_headed_on : (Has rs q → Has (headed rs) q) → Split r rs → Headed q → Has (r ∷ rs) q → Has (headed (r ∷ rs)) q
  has_headed_on on (without e same) (a, head) has = rw same (elim (has_cases r q rs has) [ inl first ↦ absurd (no_head (rw first at e) head) | inr h ↦ on h ])
  has_headed_on on (with_head b e same) head has = rw same (elim (has_cases r q rs has) [ inl first ↦ rw (← first) (has_first r (headed rs)) | inr h ↦ has_later r q (headed rs) (on h) ])

pub headed_has : (rules : List Rule) (q : Rule) → Has (headed rules) q → Has rules q × Headed q
headed_has [] q (k, h, at) = absurd (omega arith)
headed_has (r ∷ rs) q has = headed_has_on r rs q (headed_has rs q) (split r rs) has

pub has_headed : (rules : List Rule) (q : Rule) → Headed q → Has rules q → Has (headed rules) q
has_headed [] q head has = has
has_headed (r ∷ rs) q head has = has_headed_on r rs q (has_headed rs q head) (split r rs) head has

-- ## What they ask of a set

pub is_head_headed : (rules : List Rule) (a : ℕ) → is_head (headed rules) a ≡ is_head rules a
is_head_headed rules a =
    let same : Decides (is_head (headed rules) a) ((r : Rule) × Has rules r × (r.head ≡ atom a)) = Decides-like _ (λ (r, has, head). (r, (headed_has rules r has).0, head)) (λ (r, has, head). (r, has_headed rules r (a, head) has, head)) (is_head_decides (headed rules) a) in
    same_from_decides _ _ same (is_head_decides rules a)

-- rules that the same sets obey have the same smallest sets
smallest_alike : (rules rules' : List Rule) (given x s : Row) → ((t : Row) → Obeys rules x t → Obeys rules' x t) → ((t : Row) → Obeys rules' x t → Obeys rules x t) → Smallest rules given x s → Smallest rules' given x s
smallest_alike rules rules' given x s on back c = record {
  around = c.around;
  obeys = on s c.obeys;
  least = λ t e around obeys. c.least t e around (back t obeys);
}

module _ (rules : List Rule) where
  pub obeys_headed : (x s : Row) → Obeys rules x s → Obeys (headed rules) x s
  obeys_headed x s obeys r a has = obeys r a (headed_has rules r has).0

  pub headed_obeys : (x s : Row) → Obeys (headed rules) x s → Obeys rules x s
  headed_obeys x s obeys r a has head = obeys r a (has_headed rules r (a, head) has) head

  pub smallest_headed : (given x s : Row) → Smallest rules given x s → Smallest (headed rules) given x s
  smallest_headed given x s = smallest_alike rules (headed rules) given x s (obeys_headed x) (headed_obeys x)

  pub headed_smallest : (given x s : Row) → Smallest (headed rules) given x s → Smallest rules given x s
  headed_smallest given x s = smallest_alike (headed rules) rules given x s (headed_obeys x) (obeys_headed x)

  pub headed_allowed : (s : Row) → Allowed (headed rules) s
  headed_allowed s r has none' kept plain = let (a, head) = (headed_has rules r has).1 in no_head none' head
