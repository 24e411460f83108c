-- From the readings of the three texts, one after another, to the reading of all.
use Rattle.std.proofs.Common.{◌≡◌, ℕ, ◌≤◌, true, ◌⊎◌, List, [], length, Ok, Err, Result, sym, ap, ◌∙◌, subst, inl, inr, ⊎_elim, arith}
use Rattle.programs.specs.Limits.{all_fit}
use Rattle.programs.proofs.Fitting.{all_fit_more}
use Rattle.refusals.specs.declared.fault.Text.{Text}
use Rattle.refusals.specs.declared.fault.Text.TheVariants.{Plan, Faults, Site}
use Rattle.refusals.specs.declared.fault.Fault.{Fault}
use Rattle.refusals.specs.declared.fault.Fault.TheVariants.{NoMemory}
use Rattle.reading.specs.declared.section.Section.{Section}
use Rattle.reading.specs.declared.table.Atoms.{Atoms}
use Rattle.reading.specs.Steps.{State, Standing, TextRead}
use Rattle.reading.specs.Loads.{three, ThreeRead, plan_refused, faults_refused, site_refused, all_read}
use Rattle.reading.specs.Sections.{part_of, Shows, Gives}
use Rattle.reading.specs.Tables.{standings_of}
use Rattle.reading.proofs.Growing.{text_longer}
use Rattle.reading.proofs.Running.{read_length}

-- a refusal that came up through a `?`: for want of memory, where A holds, or as the text below it is refused
pub told : (A B : Type 0) (T U : Fault → Type 0) (x y : Fault) → x ≡ y → ((y ≡ NoMemory) × A) ⊎ T y → (A → B) → ((e : Fault) → T e → U e) → ((x ≡ NoMemory) × B) ⊎ U x
told A B T U x y same why still up = ⊎_elim (λ (none, a). inl (same ∙ none, still a)) (λ t. inr (up x (subst T (sym same) t))) why

-- the text is read as this section, with this table then
abbrev Ran : Text → List ℕ → List Standing → Section → Atoms → Type 0
Ran t text before s a = Gives t text before (Ok (s, a))

from : (t : Text) (text : List ℕ) (r : Result State Fault) (before before' : List Standing) → before ≡ before' → TextRead t text before r → TextRead t text before' r
from t text r before before' e h = subst (λ b. TextRead t text b r) e h

-- the plan text is read first, from an empty table
pub record First (p : List ℕ) (ps : Section) (pa : Atoms) : Type 0 where
  pub none : List Standing
  pub empty : none ≡ []
  pub ran : Ran Plan p none ps pa

plan_read : (p : List ℕ) (ps : Section) (pa : Atoms) (first : First p ps pa) → TextRead Plan p [] (Ok first.ran.0)
plan_read p ps pa first = from Plan p (Ok first.ran.0) first.none [] first.empty first.ran.1

-- a text that follows one with this state and table
next : (t : Text) (text : List ℕ) (r : Result State Fault) (d : State) (s : Section) (a : Atoms) → Shows d s a → TextRead t text (standings_of a) r → TextRead t text d.atoms r
next t text r d s a shows h = from t text r (standings_of a) d.atoms shows.atoms h

pub plan_length : (p : List ℕ) (ps : Section) (pa : Atoms) (first : First p ps pa) → length p ≤ 16384
plan_length p ps pa first = read_length Plan p [] first.ran.0 (plan_read p ps pa first)

module _ (p f s : List ℕ) where
  pub plan_fails : (none : List Standing) → none ≡ [] → (e : Fault) → TextRead Plan p none (Err e) → ThreeRead p f s (Err e)
  plan_fails none empty e h = plan_refused (from Plan p (Err e) none [] empty h)

  module _ (ps : Section) (pa : Atoms) (first : First p ps pa) where
    pub faults_fails : (e : Fault) → TextRead Faults f (standings_of pa) (Err e) → ThreeRead p f s (Err e)
    faults_fails e h = faults_refused first.ran.0 (plan_read p ps pa first) (next Faults f (Err e) first.ran.0 ps pa first.ran.2 h)

    module _ (fs : Section) (fa : Atoms) (second : Ran Faults f (standings_of pa) fs fa) where
      faults_read : TextRead Faults f first.ran.0.atoms (Ok second.0)
      faults_read = next Faults f (Ok second.0) first.ran.0 ps pa first.ran.2 second.1

      pub site_fails : (e : Fault) → TextRead Site s (standings_of fa) (Err e) → ThreeRead p f s (Err e)
      site_fails e h = site_refused first.ran.0 second.0 (plan_read p ps pa first) faults_read (next Site s (Err e) second.0 fs fa second.2 h)

-- all three are read, one after another
pub record Chain (p f s : List ℕ) (ps : Section) (pa : Atoms) (fs : Section) (fa : Atoms) (ss : Section) (sa : Atoms) : Type 0 where
  pub plan : First p ps pa
  pub faults : Ran Faults f (standings_of pa) fs fa
  pub site : Ran Site s (standings_of fa) ss sa

module _ {p f s : List ℕ} {ps : Section} {pa : Atoms} {fs : Section} {fa : Atoms} {ss : Section} {sa : Atoms} (chain : Chain p f s ps pa fs fa ss sa) where
  second : TextRead Faults f chain.plan.ran.0.atoms (Ok chain.faults.0)
  second = faults_read p f s ps pa chain.plan fs fa chain.faults

  third : TextRead Site s chain.faults.0.atoms (Ok chain.site.0)
  third = next Site s (Ok chain.site.0) chain.faults.0 fs fa chain.faults.2 chain.site.1

  same_three : three chain.plan.ran.0 chain.faults.0 chain.site.0 ≡ record { plan = part_of ps; faults = part_of fs; site = part_of ss; atoms = standings_of sa }
  same_three = sym (λ i. record { plan = chain.plan.ran.2.section i; faults = chain.faults.2.section i; site = chain.site.2.section i; atoms = chain.site.2.atoms i })

  pub all_gives : ThreeRead p f s (Ok (record { plan = part_of ps; faults = part_of fs; site = part_of ss; atoms = standings_of sa }))
  all_gives = subst (λ t. ThreeRead p f s (Ok t)) same_three (all_read chain.plan.ran.0 chain.faults.0 chain.site.0 (plan_read p ps pa chain.plan) second third)

  -- each text's atoms are below the number of all atoms
  below : (d : State) (x : Section) (a : Atoms) → Shows d x a → length d.atoms ≤ length (standings_of sa) → all_fit (length (standings_of sa)) (part_of x).rules ≡ true
  below d x a shows few = all_fit_more (length d.atoms) (length (standings_of sa)) (part_of x).rules few (ap (λ q. all_fit (length d.atoms) q.rules) shows.section ∙ shows.within.rules)

  site_longer : length chain.faults.0.atoms ≤ length (standings_of sa)
  site_longer = omega (arith, text_longer Site s chain.faults.0.atoms chain.site.0 third, ap length chain.site.2.atoms)

  pub plan_below : all_fit (length (standings_of sa)) (part_of ps).rules ≡ true
  plan_below = below chain.plan.ran.0 ps pa chain.plan.ran.2 (omega (arith, text_longer Faults f chain.plan.ran.0.atoms chain.faults.0 second, site_longer))

  pub faults_below : all_fit (length (standings_of sa)) (part_of fs).rules ≡ true
  faults_below = below chain.faults.0 fs fa chain.faults.2 site_longer

  pub site_below : all_fit (length (standings_of sa)) (part_of ss).rules ≡ true
  site_below = below chain.site.0 ss sa chain.site.2 (omega (arith, ap length chain.site.2.atoms))
