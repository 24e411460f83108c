-- Every list of calls has one history, and no more.
use Rattle.std.proofs.Common.{◌≡◌, ℕ, ◌<◌, ◌≤◌, Bool, true, false, ◌⊎◌, List, [], ◌∷◌, ◌++◌, length, Some, None, Ok, Err, Option, Result, sym, refl, ap, ◌∙◌, subst, inl, inr, arith}
use native.Mathlib.Decide.{dec_lt}
use Rattle.std.proofs.ByRecursion.{all-has}
use Rattle.game.specs.Sets.{Row}
use Rattle.game.specs.Sides.{Side}
use Rattle.game.specs.Game.{Texts, nothing}
use Rattle.refusals.specs.declared.fault.Fault.{Fault}
use Rattle.finders.specs.Meanings.{Meaning, heads_below}
use Rattle.reading.specs.Loads.{Three, Loads}
use Rattle.grammar.proofs.Never.{never}
use Rattle.grammar.proofs.Outcomes.{one_loading}
use Rattle.runs.specs.Book.{Call, load, ask, strike, look, wipe, First, TooMany, texts_of}
use Rattle.runs.specs.Runs.{History, blank, UnstruckWinner, Tells, loads, load_refused, load_starved, ask_shows, ask_shows_none, ask_refused, strikes, strike_refused, looks, wipes, Told, stop, step}
use Rattle.runs.proofs.Firsts.{first_or_none, first_holds, one_first}
use Rattle.runs.proofs.Deciding.{dec_unstruck_winner}
use Rattle.runs.proofs.Listed.{plans_listed}
use Rattle.runs.proofs.Keeping.{some_is, Sane, tells_sane, blank_sane}

pub dec_too_many : (f : Meaning 96) (t : Texts) → Dec (TooMany f t)
dec_too_many f t = go (dec_lt f.most (heads_below 96 t.plans)) (dec_lt f.most (heads_below 96 t.faults))
  where
    go : Dec (f.most < heads_below 96 t.plans) → Dec (f.most < heads_below 96 t.faults) → Dec (TooMany f t)
    go (yes m) d = yes (inl m)
    go (no n) (yes m) = yes (inr m)
    go (no n) (no k) = no (λ e. elim e [ inl m ↦ n m | inr m ↦ k m ])

-- ## There is one

abbrev Next : Call → History → Type 0
Next c h = (h' : History) × Tells c h h'

load_next : (memory : Bool) (i : ℕ) (p f s : List ℕ) (h : History) → Next (load memory i p f s) h
load_next false i p f s h = (h, load_starved)
load_next true i p f s h = go (one_loading.1 i p f s).0 (one_loading.1 i p f s).1
  where
    go : (r : Result (Side × Three) Fault) → Loads i p f s r → Next (load true i p f s) h
    go (Ok x) l = (_, loads x l)
    go (Err e) l = (h, load_refused e l)

ask_next : (f : Meaning 96) (h : History) → Sane h → Next (ask f) h
ask_next f h g = loaded h.texts refl
  where
    plans : (t : Texts) → h.texts ≡ Some t → (TooMany f t → ⊥) → Next (ask f) h
    plans t e few = elim (first_or_none (UnstruckWinner t h.struck) (dec_unstruck_winner t h.struck) (f.order t.plans nothing)) [
      | inl (m, first) ↦ (_, ask_shows t m e few first)
      | inr none ↦ (_, ask_shows_none t e few (λ m w. all-has (λ x. UnstruckWinner t h.struck x → ⊥) (f.order t.plans nothing) m none ((plans_listed f t (g t e).readable few).every m w.0.0) w))
    ]

    loaded : (o : Option Texts) → h.texts ≡ o → Next (ask f) h
    loaded None e = (h, ask_refused (inl e))
    loaded (Some t) e = elim (dec_too_many f t) [ yes m ↦ (h, ask_refused (inr (t, e, m))) | no few ↦ plans t e few ]

strike_next : (h : History) → Next strike h
strike_next h = go h.texts refl h.shown refl (dec_lt (length h.struck) 64)
  where
    go : (o : Option Texts) → h.texts ≡ o → (q : Option Row) → h.shown ≡ q → Dec (length h.struck < 64) → Next strike h
    go None e q s d = (h, strike_refused (inl e))
    go (Some t) e None s d = (h, strike_refused (inr (inl s)))
    go (Some t) e (Some m) s (yes l) = (_, strikes t m e s l)
    go (Some t) e (Some m) s (no n) = (h, strike_refused (inr (inr (omega arith))))

next : (c : Call) (h : History) → Sane h → Next c h
next (load memory i p f s) h g = load_next memory i p f s h
next (ask f) h g = ask_next f h g
next strike h g = strike_next h
next (look k n) h g = (h, looks)
next wipe h g = (_, wipes)

from_here : (calls : List Call) (h : History) → Sane h → (h' : History) × Told calls h h'
from_here [] h g = (h, stop)
from_here (c ∷ cs) h g =
    let (h', one) = next c h g in
    let (h'', rest) = from_here cs h' (tells_sane c h h' one g) in
    (h'', step h' one rest)

pub some_history : (calls : List Call) → (h : History) × Told calls blank h
some_history calls = from_here calls blank blank_sane

-- ## There is no second one

pub loads_same : {i : ℕ} {p f s : List ℕ} {x y : Side × Three} → Loads i p f s (Ok x) → Loads i p f s (Ok y) → x ≡ y
loads_same {i} {p} {f} {s} {x} {y} l k = let same = one_loading.0 i p f s (Ok x) (Ok y) l k in cc

pub not_both : {i : ℕ} {p f s : List ℕ} {x : Side × Three} {e : Fault} → Loads i p f s (Ok x) → Loads i p f s (Err e) → ⊥
not_both {i} {p} {f} {s} {x} {e} l k = let same = one_loading.0 i p f s (Ok x) (Err e) l k in never (cc)

pub same_loaded : {X : Type 0} {o : Option X} {x y : X} → o ≡ Some x → o ≡ Some y → x ≡ y
same_loaded e q = some_is (sym e ∙ q)

pub none_loaded : {X : Type 0} {o : Option X} {x : X} → o ≡ None → o ≡ Some x → ⊥
none_loaded e q = let same = sym e ∙ q in never (cc)

one_load : (memory : Bool) (i : ℕ) (p f s : List ℕ) (h h' h'' : History) → Tells (load memory i p f s) h h' → Tells (load memory i p f s) h h'' → h' ≡ h''
one_load true i p f s h h' h'' (loads x l) (loads y k) = ap (λ z. record { texts = Some (texts_of z); struck = []; shown = None }) (loads_same l k)
one_load true i p f s h h' h'' (loads x l) (load_refused e k) = absurd (not_both l k)
one_load true i p f s h h' h'' (load_refused e k) (loads x l) = absurd (not_both l k)
one_load true i p f s h h' h'' (load_refused e k) (load_refused e' k') = refl
one_load false i p f s h h' h'' load_starved load_starved = refl

module _ (f : Meaning 96) (h : History) where
  abbrev Refused : Type 0
  Refused = (h.texts ≡ None) ⊎ ((t : Texts) × (h.texts ≡ Some t) × TooMany f t)

  taken : {t : Texts} → h.texts ≡ Some t → (TooMany f t → ⊥) → Refused → ⊥
  taken e few (inl none) = none_loaded none e
  taken e few (inr (u, q, many)) = few (subst (TooMany f) (same_loaded q e) many)

  abbrev Shown : Texts → Row → Type 0
  Shown t m = First (UnstruckWinner t h.struck) (f.order t.plans nothing) m

  shown_not_none : {t u : Texts} (m : Row) → h.texts ≡ Some t → h.texts ≡ Some u → Shown t m → ((x : Row) → UnstruckWinner u h.struck x → ⊥) → ⊥
  shown_not_none {t} m e q first none = none m (subst (λ v. UnstruckWinner v h.struck m) (same_loaded e q) (first_holds (UnstruckWinner t h.struck) (f.order t.plans nothing) m first))

  one_ask : (h' h'' : History) → Tells (ask f) h h' → Tells (ask f) h h'' → h' ≡ h''
  one_ask h' h'' (ask_shows t m e few a) (ask_shows u n q few' b) = ap (λ x. record { texts = h.texts; struck = h.struck; shown = Some x }) (one_first (UnstruckWinner t h.struck) (f.order t.plans nothing) m n a (subst (λ v. Shown v n) (same_loaded q e) b))
  one_ask h' h'' (ask_shows t m e few a) (ask_shows_none u q few' none) = absurd (shown_not_none m e q a none)
  one_ask h' h'' (ask_shows t m e few a) (ask_refused r) = absurd (taken e few r)
  one_ask h' h'' (ask_shows_none t e few none) (ask_shows u n q few' b) = absurd (shown_not_none n q e b none)
  one_ask h' h'' (ask_shows_none t e few none) (ask_shows_none u q few' none') = refl
  one_ask h' h'' (ask_shows_none t e few none) (ask_refused r) = absurd (taken e few r)
  one_ask h' h'' (ask_refused r) (ask_shows u n q few' b) = absurd (taken q few' r)
  one_ask h' h'' (ask_refused r) (ask_shows_none u q few' none) = absurd (taken q few' r)
  one_ask h' h'' (ask_refused r) (ask_refused r') = refl

struck_or_not : {X Y : Type 0} {o : Option X} {q : Option Y} {x : X} {y : Y} {n : ℕ} → o ≡ Some x → q ≡ Some y → n < 64 → (o ≡ None) ⊎ ((q ≡ None) ⊎ (64 ≤ n)) → ⊥
struck_or_not e s l (inl none) = none_loaded none e
struck_or_not e s l (inr (inl none)) = none_loaded none s
struck_or_not e s l (inr (inr full)) = omega arith

one_strike : (h h' h'' : History) → Tells strike h h' → Tells strike h h'' → h' ≡ h''
one_strike h h' h'' (strikes t m e s l) (strikes u n q s' l') = ap (λ x. record { texts = h.texts; struck = h.struck ++ (x ∷ []); shown = None }) (same_loaded s s')
one_strike h h' h'' (strikes t m e s l) (strike_refused r) = absurd (struck_or_not e s l r)
one_strike h h' h'' (strike_refused r) (strikes t m e s l) = absurd (struck_or_not e s l r)
one_strike h h' h'' (strike_refused r) (strike_refused r') = refl

one_look : (k n : ℕ) (h h' h'' : History) → Tells (look k n) h h' → Tells (look k n) h h'' → h' ≡ h''
one_look k n h h' h'' looks looks = refl

one_wipe : (h h' h'' : History) → Tells wipe h h' → Tells wipe h h'' → h' ≡ h''
one_wipe h h' h'' wipes wipes = refl

one_tells : (c : Call) (h h' h'' : History) → Tells c h h' → Tells c h h'' → h' ≡ h''
one_tells (load memory i p f s) = one_load memory i p f s
one_tells (ask f) = one_ask f
one_tells strike = one_strike
one_tells (look k n) = one_look k n
one_tells wipe = one_wipe

one_from_here : (calls : List Call) (h h' h'' : History) → Told calls h h' → Told calls h h'' → h' ≡ h''
one_from_here [] h h' h'' stop stop = refl
one_from_here (c ∷ cs) h h' h'' (step u a x) (step v b y) = one_from_here cs u h' h'' x (subst (λ w. Told cs w h'') (one_tells c h v u b a) y)

pub one_history : (calls : List Call) (h h' : History) → Told calls blank h → Told calls blank h' → h ≡ h'
one_history calls h h' = one_from_here calls blank h h'
