-- A program within limits is stratified, or has a first rule that breaks the strata; not both, and one first rule at most.
use Rattle.std.proofs.Common.{◌≡◌, ℕ, zero, suc, ◌<◌, Bool, true, false, cond, List, [], ◌∷◌, length, get_or, set, replicate, Some, None, Decides, Option, sym, refl, ap, ◌∙◌, subst, ⊎_elim, arith}
use Rattle.std.specs.List.{HoldsAt, ContainsAt as Has}
use Rattle.std.proofs.ByRecursion.{has_get_or}
use Rattle.std.proofs.lemmas.List.{length-set, length-replicate}
use Rattle.std.proofs.lemmas.Bool.{cases_lt, false≢true}
use Rattle.std.proofs.lemmas.Bool.Decides.{not_from_Decides}
use Rattle.game.specs.Sets.{Row}
use Rattle.game.specs.Rules.{Head, none, atom, Rule}
use Rattle.game.specs.Strata.{Breaks, FirstBreak, Stratified}
use Rattle.game.proofs.Deriving.{head_is_head}
use Rattle.game.proofs.StrataLists.{has_first, has_later, has_cases}
use Rattle.closure.specs.Steps.{Monotone}
use Rattle.closure.proofs.Existing.{closure_of, closure_smallest}
use Rattle.programs.specs.Limits.{all_fit}
use Rattle.solving.specs.Following.{touches_grows, headed_grows}
use Rattle.solving.specs.Reached.{Reached}
use Rattle.game.specs.Published.{any_in}
use Rattle.solving.specs.Tests.{headed_by, touches}
use Rattle.solving.proofs.Breaking.{headless, breaks_decide}
use Rattle.solving.proofs.Reaching.{reached}
use Rattle.solving.proofs.Testing.{fit_heads}

-- i is the first place of a list where P holds
abbrev First : {X : Type 0} → (X → Type 0) → List X → ℕ → Type 0
First P xs i = (i < length xs) × HoldsAt P xs i × ((j : ℕ) → j < i → HoldsAt (λ x. P x → ⊥) xs j)

-- where the first element stands that passes a test
abbrev pub one_later : Option ℕ → Option ℕ
one_later None = None
one_later (Some i) = Some (suc i)

abbrev pub first_place : {X : Type 0} → (X → Bool) → List X → Option ℕ
first_place p [] = None
first_place p (x ∷ xs) = cond (p x) (Some 0) (one_later (first_place p xs))

-- what is decided of each element holds of none, or first at that place
abbrev FirstOrNone : {X : Type 0} → (X → Type 0) → List X → Option ℕ → Type 0
FirstOrNone {X} P xs None = (x : X) → Has xs x → P x → ⊥
FirstOrNone P xs (Some i) = First P xs i

first_told : {X : Type 0} (p : X → Bool) (P : X → Type 0) (xs : List X) → ((x : X) → Has xs x → Decides (p x) (P x)) → FirstOrNone P xs (first_place p xs)
first_told p P [] decided = λ x (k, h, at) q. omega arith
first_told {X} p P (x ∷ xs) decided = go (p x) (decided x (has_first x xs)) (first_place p xs) (first_told p P xs (λ y has. decided y (has_later x y xs has)))
  where
    before : (P x → ⊥) → (i : ℕ) → ((j : ℕ) → j < i → HoldsAt (λ y. P y → ⊥) xs j) → (j : ℕ) → j < suc i → HoldsAt (λ y. P y → ⊥) (x ∷ xs) j
    before out i first zero less = λ d. out
    before out i first (suc j) less = first j (omega arith)

    later : (P x → ⊥) → (o : Option ℕ) → FirstOrNone P xs o → FirstOrNone P (x ∷ xs) (one_later o)
    later out None nowhere = λ y has q. ⊎_elim (λ e. out (subst P (sym e) q)) (λ more. nowhere y more q) (has_cases x y xs has)
    later out (Some i) (inside, at, first) = (omega arith, at, before out i first)

    go : (b : Bool) → Decides b (P x) → (o : Option ℕ) → FirstOrNone P xs o → FirstOrNone P (x ∷ xs) (cond b (Some 0) (one_later o))
    go true d o rest = (omega arith, λ _. d.0 refl, λ j less. absurd (omega arith))
    go false d o rest = later (not_from_Decides false d refl) o rest

-- the atoms below n that can be reached from a
unfoldable pub reached_from : ℕ → List Rule → ℕ → Row
reached_from n rules a = closure_of n (λ t b. headed_by (touches t) rules b) (set (replicate n false) a true)

-- a negated atom can be reached from the head
abbrev pub breaks_from : ℕ → List Rule → Head → List ℕ → Bool
breaks_from n rules none negated = false
breaks_from n rules (atom a) negated = any_in (reached_from n rules a) negated

-- the place of the first rule that breaks the strata, for rules with atoms below n
unfoldable pub first_break : ℕ → List Rule → Option ℕ
first_break n rules = first_place (λ r. breaks_from n rules r.head r.negated) rules

-- there is no such rule, or it stands there
abbrev pub Strata : List Rule → Option ℕ → Type 0
Strata rules None = Stratified rules
Strata rules (Some i) = FirstBreak rules i

module _ (n : ℕ) (rules : List Rule) (fits : all_fit n rules ≡ true) where
  grows : Monotone n (λ t b. headed_by (touches t) rules b)
  grows s t wide wide' within = headed_grows (touches s) (touches t) (touches_grows s t within) rules

  reached_row : (a : ℕ) → a < n → Reached rules a (reached_from n rules a)
  unfolding reached_from
  reached_row a inside =
      let (rounds, smallest) = closure_smallest n (λ t b. headed_by (touches t) rules b) (set (replicate n false) a true) (length-set (replicate n false) a true ∙ length-replicate n false) grows in
      reached n rules (fit_heads n rules fits) a inside _ smallest rounds

  breaks_decided : (r : Rule) → Has rules r → Decides (breaks_from n rules r.head r.negated) (Breaks rules r)
  breaks_decided r has = go r.head refl
    where
      go : (h : Head) → r.head ≡ h → Decides (breaks_from n rules h r.negated) (Breaks rules r)
      go none e = (λ t. absurd (false≢true t), λ broken. absurd (headless rules r e broken))
      go (atom a) e = breaks_decide rules r a (reached_from n rules a) e (reached_row a (fit_heads n rules fits a (head_is_head rules r a has e)))

  pub strata_told : Strata rules (first_break n rules)
  unfolding first_break
  strata_told = go (first_place _ rules) (first_told _ (Breaks rules) rules breaks_decided)
    where
      go : (o : Option ℕ) → FirstOrNone (Breaks rules) rules o → Strata rules o
      go None nowhere = nowhere
      go (Some i) (inside, at, first) = record { inside = inside; breaks = at; first = first }

some_rule : Rule
some_rule = record { head = none; plain = []; negated = [] }

pub not_both : (rules : List Rule) (i : ℕ) → Stratified rules → FirstBreak rules i → ⊥
not_both rules i stratified b = stratified (get_or rules i some_rule) (has_get_or rules i some_rule b.inside) (b.breaks some_rule)

not_before : (rules : List Rule) (i j : ℕ) → FirstBreak rules i → FirstBreak rules j → i < j → ⊥
not_before rules i j b c less = c.first i less some_rule (b.breaks some_rule)

pub one_first : (rules : List Rule) (i j : ℕ) → FirstBreak rules i → FirstBreak rules j → i ≡ j
one_first rules i j b c =
    ⊎_elim (λ less. absurd (not_before rules i j b c less)) (λ ge. ⊎_elim (λ more. absurd (not_before rules j i c b more)) (λ le. omega arith) (cases_lt j i)) (cases_lt i j)

-- so the rules are stratified exactly where there is no such place, and break the strata first at that place
module _ (n : ℕ) (rules : List Rule) (fits : all_fit n rules ≡ true) where
  pub stratified_is : Stratified rules → first_break n rules ≡ None
  stratified_is even = go (first_break n rules) (strata_told n rules fits)
    where
      go : (o : Option ℕ) → Strata rules o → o ≡ None
      go None told = refl
      go (Some i) broken = absurd (not_both rules i even broken)

  pub first_break_is : (i : ℕ) → FirstBreak rules i → first_break n rules ≡ Some i
  first_break_is i broken = go (first_break n rules) (strata_told n rules fits)
    where
      go : (o : Option ℕ) → Strata rules o → o ≡ Some i
      go None even = absurd (not_both rules i even broken)
      go (Some j) broken' = ap Some (one_first rules j i broken' broken)
