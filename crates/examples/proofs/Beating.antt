-- Whether a reply beats a plan, whether a plan wins, and whether the texts are coherent: tests that compute.
use Rattle.std.proofs.Common.{◌≡◌, Bool, true, false, not, ◌&&◌, ◌||◌, ◌⊎◌, List, [], ◌∷◌, length, Decides, sym, refl, ◌∙◌, subst, inl, inr, ⊎_elim, arith}
use mathlib.Core.Logic.{∥∥₁_elim}
use mathlib.Core.HLevel.{⊥_prop}
use lib.ListN.{length-replicate}
use Rattle.std.specs.List.{ContainsAt as Has, AllByRecursion}
use Rattle.std.proofs.ByRecursion.{all-has}
use Rattle.std.proofs.lemmas.Bool.{false≢true, and_parts, and_from}
use Rattle.std.proofs.lemmas.Bool.Decides.{Decides-like, Decides-or, Decides-not}
use Rattle.game.specs.Sets.{Row, union}
use Rattle.game.specs.Rules.{Rule}
use Rattle.game.specs.Sides.{Side, some_plan, every_plan}
use Rattle.game.specs.AnswerSets.{AnswerSet}
use Rattle.game.specs.Game.{Texts, Plan, Reply, Beats, Wins, Holds, Refutes, Coherent, nothing}
use Rattle.game.specs.Heads.{Lists}
use Rattle.game.proofs.Rows.{length-union}
use Rattle.game.proofs.StrataLists.{has_first, has_later, has_cases}
use Rattle.programs.specs.Limits.{all_fit}
use Rattle.runs.specs.Book.{Pair, SheetBeats, First, Coherence, coherent, incoherent, IsCoherence}
use Rattle.runs.proofs.Firsts.{first_has, first_holds}
use Rattle.examples.specs.Examples.{Finder, by_branching}
use Rattle.examples.proofs.Answering.{same, same_decides}
use Rattle.examples.proofs.Ordering.{order_of, order_lists}

abbrev pub dec_by : {P : Type 0} (b : Bool) → Decides b P → Dec P
dec_by true d = yes (d.0 refl)
dec_by false d = no (λ p. false≢true (d.1 p))

-- x stands on the list
abbrev pub on : List Row → Row → Bool
on [] x = false
on (y ∷ ys) x = same y x || on ys x

no_member : {X : Type 0} (x : X) → Has [] x → ⊥
no_member x (k, l, at) = omega arith

pub on_decides : (xs : List Row) (x : Row) → Decides (on xs x) (Has xs x)
on_decides [] x = (λ e. absurd (false≢true e), λ h. absurd (no_member x h))
on_decides (y ∷ ys) x = Decides-like _ (λ h. ⊎_elim (λ e. subst (Has (y ∷ ys)) e (has_first y ys)) (has_later y x ys) h) (has_cases y x ys) (Decides-or _ _ (same_decides y x) (on_decides ys x))

-- the first of a list with P, or that none has it
abbrev pub FirstTold : {X : Type 0} → (X → Type 0) → List X → Type 0
FirstTold {X} P xs = ((x : X) × First P xs x) ⊎ AllByRecursion (λ x. P x → ⊥) xs

abbrev first_on : {X : Type 0} (P : X → Type 0) (x : X) (xs : List X) → Dec (P x) → FirstTold P xs → FirstTold P (x ∷ xs)
first_on P x xs (yes p) rest = inl (x, inl (refl, p))
first_on P x xs (no n) (inl (y, f)) = inl (y, inr (n, f))
first_on P x xs (no n) (inr none) = inr (n, none)

abbrev pub first_by : {X : Type 0} (P : X → Type 0) (xs : List X) → ((x : X) → Has xs x → Dec (P x)) → FirstTold P xs
first_by P [] dec = inr tt
first_by P (x ∷ xs) dec = first_on P x xs (dec x (has_first x xs)) (first_by P xs (λ y h. dec y (has_later x y xs h)))

abbrev some_row : List Row → Bool
some_row [] = false
some_row (x ∷ xs) = true

some_row_decides : (P : Row → Type 0) (xs : List Row) → Lists xs P → Decides (some_row xs) ∥ ((x : Row) × P x) ∥₁
some_row_decides P [] l = (λ e. absurd (false≢true e), λ h. absurd (∥∥₁_elim h ⊥_prop (λ (x, p). no_member x (l.every x p))))
some_row_decides P (x ∷ xs) l = (λ _. ∣ (x, l.only x (has_first x xs)) ∣₁, λ _. refl)

abbrev refuted : Side → Bool → Bool
refuted some_plan b = not b
refuted every_plan b = b

refuted_decides : (x : Side) {P : Type 0} (b : Bool) → Decides b P → Decides (refuted x b) (Refutes x P)
refuted_decides some_plan b d = Decides-not b d
refuted_decides every_plan b d = d

-- the answer sets of the rules with these atoms given
abbrev answers_with : List Rule → Row → List Row
answers_with rules given = order_of by_branching rules given

abbrev pub Fits : List Rule → Type 0
Fits rules = all_fit 96 rules ≡ true

abbrev pub Wide : Row → Type 0
Wide m = length m ≡ 96

pub fits_at : (rules : List Rule) (given : Row) → Fits rules → Wide given → all_fit (length given) rules ≡ true
fits_at rules given fits wide = subst (λ n. all_fit n rules ≡ true) (sym wide) fits

pub listed : (rules : List Rule) (given : Row) → Fits rules → Wide given → Lists (answers_with rules given) (AnswerSet rules given)
listed rules given fits wide = order_lists by_branching rules given (fits_at rules given fits wide)

pub wide_nothing : Wide nothing
wide_nothing = length-replicate 96 false

pub record Fit (t : Texts) : Type 0 where
  pub plans : Fits t.plans
  pub faults : Fits t.faults
  pub site : Fits t.site

module _ (t : Texts) (fit : Fit t) where
  abbrev holds : Row → Row → Bool
  holds m r = some_row (answers_with t.site (union m r))

  abbrev beats : Row → Row → Bool
  beats m r = on (answers_with t.faults m) r && refuted t.side (holds m r)

  pub beats_decides : (m r : Row) → Wide m → Decides (beats m r) (Beats t m r)
  beats_decides m r wide = (λ e. let (is, k) = and_parts _ _ e in let reply = replies.only r ((on_decides _ r).0 is) in (reply, (judged reply).0 k), λ (reply, k). and_from _ _ ((on_decides _ r).1 (replies.every r reply)) ((judged reply).1 k))
    where
      replies : Lists (answers_with t.faults m) (Reply t m)
      replies = listed t.faults m fit.faults wide

      judged : Reply t m r → Decides (refuted t.side (holds m r)) (Refutes t.side (Holds t m r))
      judged reply = refuted_decides t.side (holds m r) (some_row_decides _ _ (listed t.site (union m r) fit.site (length-union m r (sym reply.width) ∙ (reply.width ∙ wide))))

  abbrev pub dec_beats : (m : Row) → Wide m → (r : Row) → Dec (Beats t m r)
  dec_beats m wide r = dec_by (beats m r) (beats_decides m r wide)

  -- ## From the sheet

  abbrev On : Row → Pair → Type 0
  On m p = Beats t m p.reply

  abbrev sheet_told : (m : Row) (sheet : List Pair) → FirstTold (On m) sheet → Dec (SheetBeats t sheet m)
  sheet_told m sheet (inl (p, f)) = yes (p, first_has (On m) sheet p f, first_holds (On m) sheet p f)
  sheet_told m sheet (inr none) = no (λ (p, h, b). all-has (λ q. On m q → ⊥) sheet p none h b)

  abbrev pub dec_sheet_beats : (m : Row) → Wide m → (sheet : List Pair) → Dec (SheetBeats t sheet m)
  dec_sheet_beats m wide sheet = sheet_told m sheet (first_by (On m) sheet (λ p _. dec_beats m wide p.reply))

  -- ## Winners and coherence

  abbrev plans : List Row
  plans = answers_with t.plans nothing

  pub plans_listed : Lists plans (Plan t)
  plans_listed = listed t.plans nothing fit.plans wide_nothing

  pub wide_plan : (m : Row) → Has plans m → Wide m
  wide_plan m has = (plans_listed.only m has).width ∙ wide_nothing

  abbrev Unbeaten : Row → Type 0
  Unbeaten m = (r : Row) → Beats t m r → ⊥

  abbrev unbeaten : (m : Row) → Wide m → FirstTold (Beats t m) (answers_with t.faults m) → Dec (Unbeaten m)
  unbeaten m wide (inl (r, f)) = no (λ n. n r (first_holds (Beats t m) _ r f))
  unbeaten m wide (inr none) = yes (λ r b. all-has (λ q. Beats t m q → ⊥) _ r none ((listed t.faults m fit.faults wide).every r b.0) b)

  abbrev dec_unbeaten : (m : Row) → Wide m → Dec (Unbeaten m)
  dec_unbeaten m wide = unbeaten m wide (first_by (Beats t m) _ (λ r _. dec_beats m wide r))

  abbrev coherence_by : FirstTold Unbeaten plans → (x : Side) → Dec (elim x as (λ _. Type 0) [ some_plan ↦ ∥ ((m : Row) × Wins t m) ∥₁ | every_plan ↦ ((m : Row) → Wins t m → ⊥) ])
  coherence_by (inl (m, f)) some_plan = yes ∣ (m, (plans_listed.only m (first_has Unbeaten plans m f), first_holds Unbeaten plans m f)) ∣₁
  coherence_by (inl (m, f)) every_plan = no (λ none. none m (plans_listed.only m (first_has Unbeaten plans m f), first_holds Unbeaten plans m f))
  coherence_by (inr none) some_plan = no (λ w. ∥∥₁_elim w ⊥_prop (λ (m, w). all-has (λ x. Unbeaten x → ⊥) plans m none (plans_listed.every m w.0) w.1))
  coherence_by (inr none) every_plan = yes (λ m w. all-has (λ x. Unbeaten x → ⊥) plans m none (plans_listed.every m w.0) w.1)

  abbrev said : Dec (Coherent t) → (c : Coherence) × IsCoherence c t
  said (yes h) = (coherent, h)
  said (no n) = (incoherent, n)

  abbrev pub coherence_of : (c : Coherence) × IsCoherence c t
  coherence_of = said (coherence_by (first_by Unbeaten plans (λ m has. dec_unbeaten m (wide_plan m has))) t.side)
