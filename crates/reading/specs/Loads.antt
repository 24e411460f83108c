-- How a side and three texts are read: the questions in their order, and what is read or the one refusal.
use Rattle.std.specs.Prelude.{◌≡◌, ℕ, Bool, false, cond, List, [], ◌∷◌, ◌++◌, Some, None, Ok, Err, Option, Result, ◌≢◌, slice_index}
use Rattle.game.specs.Rules.{Head, none, atom, Rule, stands}
use Rattle.game.specs.Sides.{Side, side_number}
use Rattle.game.specs.Strata.{FirstBreak, Stratified}
use Rattle.refusals.specs.declared.fault.Text.{Text}
use Rattle.refusals.specs.declared.fault.Text.TheVariants.{Plan, Faults, Site}
use Rattle.refusals.specs.declared.fault.Fault.{Fault}
use Rattle.refusals.specs.declared.fault.Fault.TheVariants.{WrongSide, TakenHead, Unstratified}
use Rattle.reading.specs.Steps.{State, Standing, TextRead}

-- the rules of a text, and where each starts
pub record Part : Type 0 where
  pub rules : List Rule
  pub places : List ℕ

-- what the three texts give, with the table of all their atoms
pub record Three : Type 0 where
  pub plan : Part
  pub faults : Part
  pub site : Part
  pub atoms : List Standing

abbrev pub part : State → Part
part d = record { rules = d.rules; places = d.places }

abbrev pub three : State → State → State → Three
three p f s = record { plan = part p; faults = part f; site = part s; atoms = s.atoms }

-- questions 2 to 8 of the plan text, the fault text and the site text in turn; each goes on with the atoms of those before it
pub data ThreeRead (p f s : List ℕ) : Result Three Fault → Type 0 where
  plan_refused : {e : Fault} → TextRead Plan p [] (Err e) → ThreeRead p f s (Err e)
  faults_refused : {e : Fault} (d : State) → TextRead Plan p [] (Ok d) → TextRead Faults f d.atoms (Err e) → ThreeRead p f s (Err e)
  site_refused : {e : Fault} (d d' : State) → TextRead Plan p [] (Ok d) → TextRead Faults f d.atoms (Ok d') → TextRead Site s d'.atoms (Err e) → ThreeRead p f s (Err e)
  all_read : (d d' d'' : State) → TextRead Plan p [] (Ok d) → TextRead Faults f d.atoms (Ok d') → TextRead Site s d'.atoms (Ok d'') → ThreeRead p f s (Ok (three d d' d''))

abbrev pub head_in : Head → List Rule → Bool
head_in none earlier = false
head_in (atom a) earlier = stands a earlier

-- where the first head stands that stands in the earlier rules too
abbrev pub taken_head : List Rule → List ℕ → List Rule → Option ℕ
taken_head [] ps earlier = None
taken_head (r ∷ rs) [] earlier = None
taken_head (r ∷ rs) (p ∷ ps) earlier = cond (head_in r.head earlier) (Some p) (taken_head rs ps earlier)

abbrev pub or_else : Text → Option ℕ → Option Fault → Option Fault
or_else t (Some at) rest = Some (TakenHead t at)
or_else t None rest = rest

-- question 9: no head of the fault text stands in the plan text, and no head of the site text in either
abbrev pub shared_head : Three → Option Fault
shared_head t = or_else Faults (taken_head t.faults.rules t.faults.places t.plan.rules) (or_else Site (taken_head t.site.rules t.site.places (t.plan.rules ++ t.faults.rules)) None)

-- question 1, then 2 to 8, then 9, then 10: is the site text stratified?
pub data Loads (n : ℕ) (p f s : List ℕ) : Result (Side × Three) Fault → Type 0 where
  wrong_side : ((x : Side) → side_number x ≢ n) → Loads n p f s (Err WrongSide)
  unread : {e : Fault} (x : Side) → side_number x ≡ n → ThreeRead p f s (Err e) → Loads n p f s (Err e)
  head_refused : {e : Fault} (x : Side) (t : Three) → side_number x ≡ n → ThreeRead p f s (Ok t) → shared_head t ≡ Some e → Loads n p f s (Err e)
  strata_refused : (x : Side) (t : Three) (i : ℕ) → side_number x ≡ n → ThreeRead p f s (Ok t) → shared_head t ≡ None → FirstBreak t.site.rules i → Loads n p f s (Err (Unstratified (slice_index t.site.places i)))
  loads : (x : Side) (t : Three) → side_number x ≡ n → ThreeRead p f s (Ok t) → shared_head t ≡ None → Stratified t.site.rules → Loads n p f s (Ok (x, t))
