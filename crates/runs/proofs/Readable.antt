-- What reading guarantees of texts: they keep the limits, and no head of the fault text is one of the plan text.
use Rattle.std.proofs.Common.{◌≡◌, ℕ, Bool, true, false, cond, List, [], ◌∷◌, length, Some, None, Ok, Option, refl, subst, inl, inr, arith}
use Rattle.std.proofs.lemmas.Bool.{or_cases, eqb-true, both_ways}
use Rattle.game.specs.Rules.{Head, none, atom, Rule, heads, stands, is_head}
use Rattle.game.specs.Sides.{Side}
use Rattle.game.specs.Game.{Texts}
use Rattle.game.proofs.Heads.{head_stands}
use Rattle.refusals.specs.declared.fault.Text.{Text}
use Rattle.refusals.specs.declared.fault.Text.TheVariants.{Plan, Faults}
use Rattle.refusals.specs.declared.fault.Fault.{Fault}
use Rattle.programs.specs.Limits.{fits}
use Rattle.reading.specs.Loads.{Three, Loads, loads, all_read, head_in, taken_head, or_else}
use Rattle.reading.proofs.Limiting.{within_fits}
use Rattle.grammar.proofs.Never.{never}
use Rattle.grammar.proofs.Placed.{text_within}
use Rattle.runs.specs.Book.{texts_of}
use Rattle.runs.specs.Runs.{WasRead}

pub record Readable (t : Texts) : Type 0 where
  pub plans : fits 96 t.plans ≡ true
  pub faults : fits 96 t.faults ≡ true
  pub apart : (a : ℕ) → is_head t.plans a ≡ true → is_head t.faults a ≡ true → ⊥

head_is : (a : ℕ) (h : Head) (earlier : List Rule) → heads a h ≡ true → stands a earlier ≡ true → head_in h earlier ≡ true
head_is a none earlier e s = e
head_is a (atom b) earlier e s = subst (λ c. stands c earlier ≡ true) (eqb-true a b e) s

on : (b : Bool) (p : ℕ) (o : Option ℕ) → cond b (Some p) o ≡ None → (b ≡ false) × (o ≡ None)
on true p o e = never (cc)
on false p o e = (refl, e)

-- there is a place for each rule, so every head is looked at
none_stands : (a : ℕ) (rs : List Rule) (places : List ℕ) (earlier : List Rule) → length places ≡ length rs → taken_head rs places earlier ≡ None → is_head rs a ≡ true → stands a earlier ≡ true → ⊥
none_stands a [] places earlier same free h s = both_ways _ refl h
none_stands a (r ∷ rs) [] earlier same free h s = omega arith
none_stands a (r ∷ rs) (p ∷ places) earlier same free h s =
    let (here, later) = on (head_in r.head earlier) p (taken_head rs places earlier) free in
    elim (or_cases (heads a r.head) (is_head rs a) h) [
      | inl e ↦ both_ways _ here (head_is a r.head earlier e s)
      | inr k ↦ none_stands a rs places earlier (omega arith) later k s
    ]

first_free : (t : Text) (o : Option ℕ) (rest : Option Fault) → or_else t o rest ≡ None → o ≡ None
first_free t None rest e = refl
first_free t (Some at) rest e = never (cc)

pub loads_readable : (i : ℕ) (p f s : List ℕ) (x : Side × Three) → Loads i p f s (Ok x) → Readable (texts_of x)
loads_readable i p f s x (loads y t e (all_read d d' d'' a b c) free even) =
    let plan = text_within Plan p d [] (omega arith) a in
    let faults = text_within Faults f d' d.atoms plan.atoms b in
    record {
      plans = within_fits d plan;
      faults = within_fits d' faults;
      apart = λ n h k. none_stands n d'.rules d'.places d.rules faults.placed (first_free Faults _ _ free) k (head_stands d.rules n h);
    }

pub read_readable : (t : Texts) → WasRead t → Readable t
read_readable t (i, p, f, s, x, l, e) = subst Readable e (loads_readable i p f s x l)
