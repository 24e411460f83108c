-- A side and three texts come to one outcome: it is a function, which each loading agrees with.
use Rattle.std.proofs.Common.{◌≡◌, ℕ, Bool, true, false, cond, eqb, List, [], length, get_or, Some, None, Ok, Err, Option, Result, sym, refl, ◌∙◌, arith}
use Rattle.std.proofs.lemmas.Bool.{eqb-true}
use Rattle.game.specs.Sides.{Side, some_plan, every_plan, side_number}
use Rattle.refusals.specs.declared.fault.Text.TheVariants.{Plan, Faults, Site}
use Rattle.refusals.specs.declared.fault.Fault.{Fault}
use Rattle.refusals.specs.declared.fault.Fault.TheVariants.{WrongSide, Unstratified}
use Rattle.programs.specs.Limits.{all_fit}
use Rattle.programs.proofs.Fitting.{all_fit_more}
use Rattle.solving.proofs.Deciding.{first_break, Strata, strata_told, stratified_is, first_break_is}
use Rattle.reading.specs.Steps.{State, TextRead}
use Rattle.reading.specs.Loads.{Three, three, ThreeRead, plan_refused, faults_refused, site_refused, all_read, shared_head, Loads, wrong_side, unread, head_refused, strata_refused, loads}
use Rattle.grammar.proofs.Never.{never}
use Rattle.grammar.proofs.Placed.{text_within}
use Rattle.grammar.proofs.Reading.{read_of, read_is, read_so}

-- a text that is refused ends the reading
abbrev pub then : Result State Fault → (State → Result Three Fault) → Result Three Fault
then (Ok d) on = on d
then (Err e) on = Err e

module _ (p f s : List ℕ) where
  abbrev pub with_site : State → State → Result Three Fault
  with_site d d' = then (read_of Site s d'.atoms) (λ d''. Ok (three d d' d''))

  abbrev pub with_faults : State → Result Three Fault
  with_faults d = then (read_of Faults f d.atoms) (with_site d)

  abbrev pub three_of : Result Three Fault
  three_of = then (read_of Plan p []) with_faults

  three_is : {r : Result Three Fault} → ThreeRead p f s r → three_of ≡ r
  three_is (plan_refused x) = rw (read_is Plan p [] x)
  three_is (faults_refused d x y) = rw (read_is Plan p [] x, read_is Faults f d.atoms y)
  three_is (site_refused d d' x y z) = rw (read_is Plan p [] x, read_is Faults f d.atoms y, read_is Site s d'.atoms z)
  three_is (all_read d d' d'' x y z) = rw (read_is Plan p [] x, read_is Faults f d.atoms y, read_is Site s d'.atoms z)

  three_so : ThreeRead p f s three_of
  three_so = plan (read_of Plan p []) (read_so Plan p [])
    where
      site : (d d' : State) → TextRead Plan p [] (Ok d) → TextRead Faults f d.atoms (Ok d') → (r : Result State Fault) → TextRead Site s d'.atoms r → ThreeRead p f s (then r (λ d''. Ok (three d d' d'')))
      site d d' x y (Ok d'') z = all_read d d' d'' x y z
      site d d' x y (Err e) z = site_refused d d' x y z

      faults : (d : State) → TextRead Plan p [] (Ok d) → (r : Result State Fault) → TextRead Faults f d.atoms r → ThreeRead p f s (then r (with_site d))
      faults d x (Ok d') y = site d d' x y (read_of Site s d'.atoms) (read_so Site s d'.atoms)
      faults d x (Err e) y = faults_refused d x y

      plan : (r : Result State Fault) → TextRead Plan p [] r → ThreeRead p f s (then r with_faults)
      plan (Ok d) x = faults d x (read_of Faults f d.atoms) (read_so Faults f d.atoms)
      plan (Err e) x = plan_refused x

-- the side that a number asks for
abbrev pub side_of : ℕ → Option Side
side_of n = cond (eqb 1 n) (Some some_plan) (cond (eqb 2 n) (Some every_plan) None)

side_is : (n : ℕ) (x : Side) → side_number x ≡ n → side_of n ≡ Some x
side_is n some_plan e = rw (← e)
side_is n every_plan e = rw (← e)

side_so : (n : ℕ) (x : Side) → side_of n ≡ Some x → side_number x ≡ n
side_so n x = go (eqb 1 n) (eqb 2 n) (eqb-true 1 n) (eqb-true 2 n)
  where
    go : (b c : Bool) → (b ≡ true → 1 ≡ n) → (c ≡ true → 2 ≡ n) → cond b (Some some_plan) (cond c (Some every_plan) None) ≡ Some x → side_number x ≡ n
    go true c one two e = let same : some_plan ≡ x = cc in rw (← same) (one refl)
    go false true one two e = let same : every_plan ≡ x = cc in rw (← same) (two refl)
    go false false one two e = never (cc)

-- the refusal of question 10 where the rule at place i is the first that breaks the strata
abbrev pub unstratified : Three → ℕ → Result (Side × Three) Fault
unstratified t i = Err (Unstratified (get_or t.site.places i 0))

-- question 10, question 9, and all of them
abbrev pub layered : Side → Three → Option ℕ → Result (Side × Three) Fault
layered x t None = Ok (x, t)
layered x t (Some i) = unstratified t i

abbrev pub judged : Side → Three → Option Fault → Result (Side × Three) Fault
judged x t None = layered x t (first_break 96 t.site.rules)
judged x t (Some e) = Err e

abbrev pub outcome : Option Side → Result Three Fault → Result (Side × Three) Fault
outcome None r = Err WrongSide
outcome (Some x) (Ok t) = judged x t (shared_head t)
outcome (Some x) (Err e) = Err e

-- the rules of the site text keep the limits, so question 10 has an answer
site_fits : {p f s : List ℕ} {t : Three} → ThreeRead p f s (Ok t) → all_fit 96 t.site.rules ≡ true
site_fits {p} {f} {s} (all_read d d' d'' x y z) =
    let plan = text_within Plan p d [] (omega arith) x in
    let faults = text_within Faults f d' d.atoms plan.atoms y in
    let site = text_within Site s d'' d'.atoms faults.atoms z in
    all_fit_more (length d''.atoms) 96 d''.rules site.atoms site.rules

-- the outcome of a side and three texts
unfoldable pub loaded : ℕ → List ℕ → List ℕ → List ℕ → Result (Side × Three) Fault
loaded n p f s = outcome (side_of n) (three_of p f s)

module _ (n : ℕ) (p f s : List ℕ) where
  loads_is : {r : Result (Side × Three) Fault} → Loads n p f s r → loaded n p f s ≡ r
  unfolding loaded
  loads_is (wrong_side h) = go (side_of n) (side_so n)
    where
      go : (o : Option Side) → ((x : Side) → o ≡ Some x → side_number x ≡ n) → outcome o (three_of p f s) ≡ Err WrongSide
      go None so = refl
      go (Some x) so = absurd (h x (so x refl))
  loads_is (unread x e read) = rw (side_is n x e, three_is p f s read)
  loads_is (head_refused x t e read taken) = rw (side_is n x e, three_is p f s read, taken)
  loads_is (strata_refused x t i e read free broken) = rw (side_is n x e, three_is p f s read, free, first_break_is 96 t.site.rules (site_fits read) i broken)
  loads_is (loads x t e read free even) = rw (side_is n x e, three_is p f s read, free, stratified_is 96 t.site.rules (site_fits read) even)

  pub loads_so : Loads n p f s (loaded n p f s)
  unfolding loaded
  loads_so = go (side_of n) (side_so n) (side_is n)
    where
      strata : (x : Side) (t : Three) → side_number x ≡ n → ThreeRead p f s (Ok t) → shared_head t ≡ None → (o : Option ℕ) → Strata t.site.rules o → Loads n p f s (layered x t o)
      strata x t e read free None even = loads x t e read free even
      strata x t e read free (Some i) broken = strata_refused x t i e read free broken

      heads : (x : Side) (t : Three) → side_number x ≡ n → ThreeRead p f s (Ok t) → (o : Option Fault) → shared_head t ≡ o → Loads n p f s (judged x t o)
      heads x t e read None free = strata x t e read free (first_break 96 t.site.rules) (strata_told 96 t.site.rules (site_fits read))
      heads x t e read (Some f') taken = head_refused x t e read taken

      texts : (x : Side) → side_number x ≡ n → (r : Result Three Fault) → ThreeRead p f s r → Loads n p f s (outcome (Some x) r)
      texts x e (Ok t) read = heads x t e read (shared_head t) refl
      texts x e (Err f') read = unread x e read

      go : (o : Option Side) → ((x : Side) → o ≡ Some x → side_number x ≡ n) → ((x : Side) → side_number x ≡ n → o ≡ Some x) → Loads n p f s (outcome o (three_of p f s))
      go None so is = wrong_side (λ x e. never (let off = is x e in cc))
      go (Some x) so is = texts x (so x refl) (three_of p f s) (three_so p f s)

pub one_loading :
    ((n : ℕ) (p f s : List ℕ) (r r' : Result (Side × Three) Fault) → Loads n p f s r → Loads n p f s r' → r ≡ r')
    × ((n : ℕ) (p f s : List ℕ) → (r : Result (Side × Three) Fault) × Loads n p f s r)
one_loading = (λ n p f s r r' x y. sym (loads_is n p f s x) ∙ loads_is n p f s y, λ n p f s. (loaded n p f s, loads_so n p f s))
