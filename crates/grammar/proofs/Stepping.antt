-- What a step that is not refused asks for, and the state that it comes to.
use Rattle.std.proofs.Common.{◌≡◌, ℕ, Bool, true, false, cond, ◌&&◌, leb, List, [], ◌∷◌, ◌++◌, length, Some, None, Ok, Err, Result, sym, refl, ap, ◌∙◌}
use Rattle.game.specs.Rules.{Rule}
use Rattle.refusals.specs.declared.fault.Text.{Text}
use Rattle.refusals.specs.declared.fault.Fault.{Fault}
use Rattle.refusals.specs.declared.fault.Fault.TheVariants.{LongBody, ManyRules}
use Rattle.reading.specs.Lexical.{Word, name, negation, arrow, comma, dot}
use Rattle.reading.specs.Steps.{State, Standing, follow, opens_rule, before_literal, of_literal, literals, no_rule, index, put, begin, entered, named, taken, asked, step}
use Rattle.grammar.specs.Grammar.{Name}
use Rattle.grammar.proofs.Never.{never}
use Rattle.grammar.proofs.Names.{Entered, joins, enters}
use Rattle.grammar.proofs.Places.{Place, reached, Got, state}

-- the names in a token
abbrev pub word_names : Word → List Name
word_names (name n) = n ∷ []
word_names negation = []
word_names arrow = []
word_names comma = []
word_names dot = []

-- the rule that goes on, where the atom of the token is the k-th
abbrev pub rule_after : Place → Word → ℕ → Rule → Rule
rule_after p (name n) k r = put (reached p).phase k r
rule_after p negation k r = r
rule_after p arrow k r = r
rule_after p comma k r = r
rule_after p dot k r = no_rule

-- one more, where the token ends it
abbrev pub ended_after : {X : Type 0} → Word → X → List X → List X
ended_after (name n) x xs = xs
ended_after negation x xs = xs
ended_after arrow x xs = xs
ended_after comma x xs = xs
ended_after dot x xs = xs ++ x ∷ []

abbrev begun_after : Place → Word → ℕ → ℕ → ℕ
begun_after p (name n) at was = begin (reached p).phase at was
begun_after p negation at was = was
begun_after p arrow at was = begin (reached p).phase at was
begun_after p comma at was = was
begun_after p dot at was = was

abbrev pub index_of : Word → List Standing → ℕ
index_of (name n) ss = index n ss
index_of negation ss = 0
index_of arrow ss = 0
index_of comma ss = 0
index_of dot ss = 0

abbrev pub entry : Text → ℕ → Word → List Standing → Result (List Standing) Fault
entry t at (name n) ss = entered t at n ss
entry t at negation ss = Ok ss
entry t at arrow ss = Ok ss
entry t at comma ss = Ok ss
entry t at dot ss = Ok ss

pub entries : (t : Text) (at : ℕ) (w : Word) (ss : List Standing) → Entered ss (word_names w) (entry t at w ss)
entries t at (name n) ss = enters t at n ss
entries t at negation ss = joins ss refl refl (λ h. h)
entries t at arrow ss = joins ss refl refl (λ h. h)
entries t at comma ss = joins ss refl refl (λ h. h)
entries t at dot ss = joins ss refl refl (λ h. h)

-- what is read after a token, with the atoms of now
abbrev pub after : ℕ → Place → Word → Got → List Standing → Got
after at p w g ss =
    record {
      begun = begun_after p w at g.begun;
      rule = rule_after p w (index_of w g.atoms) g.rule;
      rules = ended_after w g.rule g.rules;
      places = ended_after w g.begun g.places;
      atoms = ss;
    }

abbrev onto : {X Y : Type 0} → (X → Y) → Result X Fault → Result Y Fault
onto f (Ok x) = Ok (f x)
onto f (Err e) = Err e

-- the two limits that a token may meet
abbrev pub many : Place → List Rule → Bool
many p rs = opens_rule (reached p).phase && leb 256 (length rs)

abbrev pub long : Place → Word → Rule → Bool
long p w r = (before_literal (reached p).phase && of_literal w) && leb 16 (literals r)

abbrev pub Follows : Place → Word → Place → Type 0
Follows p w q = follow (reached p).phase w ≡ Some (reached q).phase

taken_is : (t : Text) (at : ℕ) (p q : Place) (g : Got) (w : Word) → taken t at (reached q).phase (state p g) w ≡ onto (λ ss. state q (after at p w g ss)) (entry t at w g.atoms)
taken_is t at p q g (name n) = go (entered t at n g.atoms)
  where
    go : (r : Result (List Standing) Fault) → named at n (reached q).phase (state p g) r ≡ onto (λ ss. state q (after at p (name n) g ss)) r
    go (Ok ss) = refl
    go (Err f) = refl
taken_is t at p q g negation = refl
taken_is t at p q g arrow = refl
taken_is t at p q g comma = refl
taken_is t at p q g dot = refl

module _ (t : Text) (at : ℕ) (p : Place) (w : Word) (g : Got) where
  pub refused_step : follow (reached p).phase w ≡ None → (d : State) → step t at (state p g) w ≡ Ok d → ⊥
  unfolding step
  refused_step f d s = let e = ap (asked t at (state p g) w) f in never (cc)

  -- the token is within the limits, and then these are the atoms
  pub record Takes (ss : List Standing) : Type 0 where
    pub few : many p g.rules ≡ false
    pub short : long p w g.rule ≡ false
    pub enter : entry t at w g.atoms ≡ Ok ss

  module _ (q : Place) where
    abbrev comes_to : List Standing → State
    comes_to ss = state q (after at p w g ss)

    abbrev limited : Bool → Bool → Result (List Standing) Fault → Result State Fault
    limited x y r = cond x (Err (ManyRules t at)) (cond y (Err (LongBody t at)) (onto comes_to r))

    step_limited : Follows p w q → step t at (state p g) w ≡ limited (many p g.rules) (long p w g.rule) (entry t at w g.atoms)
    unfolding step
    step_limited f = ap (asked t at (state p g) w) f ∙ ap (λ r. cond (many p g.rules) (Err (ManyRules t at)) (cond (long p w g.rule) (Err (LongBody t at)) r)) (taken_is t at p q g w)

    pub step_takes : {ss : List Standing} → Follows p w q → Takes ss → step t at (state p g) w ≡ Ok (comes_to ss)
    step_takes f h = step_limited f ∙ rw (h.few, h.short, h.enter) refl

    pub takes_step : {d : State} → Follows p w q → step t at (state p g) w ≡ Ok d → (ss : List Standing) × Takes ss × (d ≡ comes_to ss)
    takes_step {d} f s = go (many p g.rules) (long p w g.rule) (entry t at w g.atoms) refl refl refl (sym (step_limited f) ∙ s)
      where
        go : (x y : Bool) (r : Result (List Standing) Fault) → many p g.rules ≡ x → long p w g.rule ≡ y → entry t at w g.atoms ≡ r → limited x y r ≡ Ok d → (ss : List Standing) × Takes ss × (d ≡ comes_to ss)
        go true y r m l e s = never (cc)
        go false true r m l e s = never (cc)
        go false false (Err f) m l e s = never (cc)
        go false false (Ok ss) m l e s = (ss, record { few = m; short = l; enter = e }, cc)
