-- Whether a reply beats a plan is decided, and so is whether a plan wins, whether it is struck, and whether the texts are coherent.
use Rattle.std.proofs.Common.{◌≡◌, List, [], ◌∷◌, refl, inl, inr, arith}
use mathlib.Core.Bool.{Bool-discrete}
use mathlib.Core.List.{List-discrete}
use mathlib.Core.Logic.Dec
use mathlib.Core.Logic.{∥∥₁_elim}
use mathlib.Core.HLevel.{⊥_prop}
use native.Mathlib.Decide.{map_dec}
use Rattle.std.specs.List.{ContainsAt as Has}
use Rattle.std.proofs.ByRecursion.{all-has}
use Rattle.game.specs.Sets.{Row, union}
use Rattle.game.specs.Sides.{Side, some_plan, every_plan}
use Rattle.game.specs.Game.{Texts, Beats, Wins, Holds, Refutes, Coherent, nothing}
use Rattle.game.proofs.StrataLists.{has_later, has_cases}
use Rattle.game.proofs.Decided.{dec_answer, dec_some_answer, dec_answered}
use Rattle.runs.specs.Book.{Pair, SheetBeats, Coherence, coherent, incoherent, IsCoherence}
use Rattle.runs.specs.Runs.{UnstruckWinner}
use Rattle.runs.proofs.Firsts.{first_or_none, first_has, first_holds}

pub dec_has : (xs : List Row) (x : Row) → Dec (Has xs x)
dec_has [] x = no (λ (k, l, at). omega arith)
dec_has (y ∷ ys) x = go (List-discrete Bool-discrete y x) (dec_has ys x)
  where
    go : Dec (y ≡ x) → Dec (Has ys x) → Dec (Has (y ∷ ys) x)
    go (yes e) k = yes (0, omega arith, λ d. e)
    go (no e) (yes h) = yes (has_later y x ys h)
    go (no e) (no h) = no (λ k. elim (has_cases y x ys k) [ inl q ↦ e q | inr q ↦ h q ])

dec_refutes : (x : Side) {holds : Type 0} → Dec holds → Dec (Refutes x holds)
dec_refutes some_plan d = Dec.not d
dec_refutes every_plan d = d

module _ (t : Texts) where
  dec_refuted : (m r : Row) → Dec (Refutes t.side (Holds t m r))
  dec_refuted m r = dec_refutes t.side (dec_answered t.site (union m r))

  pub dec_beats : (m r : Row) → Dec (Beats t m r)
  dec_beats m r = Dec.and (dec_answer t.faults m r) (dec_refuted m r)

  dec_unbeaten : (m : Row) → Dec ((r : Row) → Beats t m r → ⊥)
  dec_unbeaten m = map_dec (λ n r b. n (r, b.0, b.1)) (λ f (r, reply, refuted). f r (reply, refuted)) (Dec.not (dec_some_answer t.faults m (λ r. Refutes t.side (Holds t m r)) (dec_refuted m)))

  pub dec_unstruck_winner : (struck : List Row) (m : Row) → Dec (UnstruckWinner t struck m)
  dec_unstruck_winner struck m = Dec.and (Dec.and (dec_answer t.plans nothing m) (dec_unbeaten m)) (Dec.not (dec_has struck m))

  pub dec_sheet_beats : (sheet : List Pair) (m : Row) → Dec (SheetBeats t sheet m)
  dec_sheet_beats sheet m = elim (first_or_none On (λ p. dec_beats m p.reply) sheet) [
    | inl (p, f) ↦ yes (p, first_has On sheet p f, first_holds On sheet p f)
    | inr none ↦ no (λ (p, h, b). all-has (λ q. On q → ⊥) sheet p none h b)
  ]
    where
      On : Pair → Type 0
      On p = Beats t m p.reply

  dec_winner : Dec ((m : Row) × Wins t m)
  dec_winner = map_dec (λ (m, p, n). (m, (p, n))) (λ (m, w). (m, w.0, w.1)) (dec_some_answer t.plans nothing (λ m. (r : Row) → Beats t m r → ⊥) dec_unbeaten)

  dec_coherent : Dec (Coherent t)
  dec_coherent = go t.side dec_winner
    where
      W : Type 0
      W = (m : Row) × Wins t m

      go : (x : Side) → Dec W → Dec (elim x as (λ _. Type 0) [ some_plan ↦ ∥ W ∥₁ | every_plan ↦ ((m : Row) → Wins t m → ⊥) ])
      go some_plan (yes w) = yes ∣ w ∣₁
      go some_plan (no n) = no (λ e. ∥∥₁_elim e ⊥_prop n)
      go every_plan (yes w) = no (λ f. f w.0 w.1)
      go every_plan (no n) = yes (λ m w. n (m, w))

  pub some_coherence : (c : Coherence) × IsCoherence c t
  some_coherence = elim dec_coherent [ yes h ↦ (coherent, h) | no n ↦ (incoherent, n) ]

  pub one_coherence : (c c' : Coherence) → IsCoherence c t → IsCoherence c' t → c ≡ c'
  one_coherence coherent coherent h k = refl
  one_coherence coherent incoherent h k = absurd (k h)
  one_coherence incoherent coherent h k = absurd (h k)
  one_coherence incoherent incoherent h k = refl
