-- The stable sets of a program alone are its answer sets with nothing given.
use Rattle.std.proofs.Common.{◌≡◌, ℕ, zero, suc, ◌<◌, true, false, ◌↔◌, List, [], ◌++◌, length, get_or, replicate, sym, refl, ◌∙◌, subst, inl, inr, append-nil}
use lib.ListN.{length-replicate}
use Rattle.std.proofs.lemmas.Bool.{false≢true, cases_Bool}
use Rattle.game.specs.Sets.{Row}
use Rattle.game.specs.Rules.{Rule, stands}
use Rattle.game.specs.AnswerSets.{AnswerSet}
use Rattle.game.specs.Published.{Stable, fixed}
use Rattle.game.proofs.Rows.{in_none, union_none}
use Rattle.game.proofs.Handed.{Fixable, stable_is_answer}

none_out : (n a : ℕ) → get_or (replicate n false) a false ≡ false
none_out n a = elim (cases_Bool (get_or (replicate n false) a false)) [ inl k ↦ absurd (in_none n a k) | inr k ↦ k ]

-- with nothing to fix
fixed_none : (n k : ℕ) → fixed k [] (replicate n false) ≡ []
fixed_none n zero = refl
fixed_none n (suc k) = let rest = fixed_none n k in let out = none_out n k in rw (rest, out)

module _ (n : ℕ) (rules : List Rule) (below : (a : ℕ) → stands a rules ≡ true → a < n) where
  none_fixable : Fixable n [] rules (replicate n false)
  none_fixable = record { width = length-replicate n false; known = λ a k. absurd (in_none n a k); below = below; apart = λ _ _ e. false≢true e }

  -- so a program alone is one for which nothing is fixed
  alone : rules ++ fixed n [] (replicate n false) ≡ rules
  alone = rw (fixed_none n n, append-nil)

  pub stable_alone : (x : Row) → Stable n rules x ↔ AnswerSet rules (replicate n false) x
  stable_alone x = (to, back)
    where
      width : (i : Row) → AnswerSet rules (replicate n false) i → length i ≡ n
      width i answer = answer.width ∙ length-replicate n false

      to : Stable n rules x → AnswerSet rules (replicate n false) x
      to stable =
          let (i, answer, e) = (stable_is_answer none_fixable x).0 (subst (λ p. Stable n p x) (sym alone) stable) in
          subst (AnswerSet rules (replicate n false)) (sym (e ∙ union_none n i (width i answer))) answer

      back : AnswerSet rules (replicate n false) x → Stable n rules x
      back answer = subst (λ p. Stable n p x) alone ((stable_is_answer none_fixable x).1 (x, answer, sym (union_none n x (width x answer))))
