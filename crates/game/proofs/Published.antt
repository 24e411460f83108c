-- Coherence is as published.
use Rattle.std.proofs.Common.{◌≡◌, ℕ, true, ◌↔◌, ◌++◌, sym, refl, subst, inl, inr}
use mathlib.Core.Logic.Dec
use mathlib.Core.Logic.Iff
use mathlib.Core.Logic.{∥∥₁_elim}
use mathlib.Core.HLevel.{⊥_prop}
use Rattle.game.specs.Sets.{Row, union}
use Rattle.game.specs.Rules.{stands}
use Rattle.game.specs.Sides.{Side, some_plan, every_plan}
use Rattle.game.specs.AnswerSets.{AnswerSet}
use Rattle.game.specs.Game.{Texts, Plan, Reply, Holds, Beats, Coherent}
use Rattle.game.specs.Published.{Stable, fixed, second, check, HasStable, Apart, CoherentAsPublished}
use Rattle.game.proofs.Rows.{union_comm}
use Rattle.game.proofs.Heads.{head_stands, stands_cases, stands_left, stands_right}
use Rattle.game.proofs.Decided.{dec_answered, dec_some_answer}
use Rattle.game.proofs.Fixing.{fixed_stands}
use Rattle.game.proofs.Handed.{Fixable, stable_is_answer}
use Rattle.game.proofs.Alone.{stable_alone}

-- the same texts on another side
abbrev on : Side → Texts → Texts
on side t = record { side = side; plans = t.plans; faults = t.faults; site = t.site }

abbrev Unbeaten : Side → Texts → Row → Type 0
Unbeaten side t m = (r : Row) → Beats (on side t) m r → ⊥

-- the site text holds for some reply
abbrev Held : Texts → Row → Type 0
Held t m = (r : Row) × Reply t m r × Holds t m r

-- the check has a stable set for each stable set of the second program; for one of them
abbrev Always : Texts → Row → Type 0
Always t m = (x : Row) → Stable 96 (second t m) x → HasStable (check t m x)

abbrev Once : Texts → Row → Type 0
Once t m = (x : Row) × Stable 96 (second t m) x × HasStable (check t m x)

module _ (t : Texts) (h : Apart t) where
  plan_is_stable : (m : Row) → Plan t m ↔ Stable 96 t.plans m
  plan_is_stable m = Iff.symm (stable_alone 96 t.plans h.plans m)

  module _ (m : Row) (plan : Plan t m) where
    fix_plan : Fixable 96 t.plans t.faults m
    fix_plan = record { width = plan.width; known = λ a k. head_stands t.plans a (plan.heads a k); below = h.faults; apart = h.fault_heads }

    -- the atoms of the second program are those of the plan text and the fault text
    second_stands : (a : ℕ) → stands a (second t m) ≡ true → stands a (t.plans ++ t.faults) ≡ true
    second_stands a k =
        elim (stands_cases a t.faults (fixed 96 t.plans m) k) [
          | inl j ↦ stands_right a t.plans t.faults j
          | inr j ↦ stands_left a t.plans t.faults (fixed_stands t.plans m fix_plan.known 96 a j)
        ]

    reply_is_stable : (x : Row) → Stable 96 (second t m) x ↔ ((r : Row) × Reply t m r × (x ≡ union r m))
    reply_is_stable x = stable_is_answer fix_plan x

    fix_reply : (x : Row) → Stable 96 (second t m) x → Fixable 96 (second t m) t.site x
    fix_reply x stable = record { width = stable.width; known = stable.inside; below = h.site; apart = λ a e k. h.site_heads a e (second_stands a k) }

    module _ (r : Row) (reply : Reply t m r) where
      joined_stable : Stable 96 (second t m) (union r m)
      joined_stable = (reply_is_stable (union r m)).1 (r, reply, refl)

      check_is_stable : (y : Row) → Stable 96 (check t m (union r m)) y ↔ ((s : Row) × AnswerSet t.site (union r m) s × (y ≡ union s (union r m)))
      check_is_stable = stable_is_answer (fix_reply (union r m) joined_stable)

      holds_is_stable : Holds t m r ↔ HasStable (check t m (union r m))
      holds_is_stable = subst (λ given. ∥ ((s : Row) × AnswerSet t.site given s) ∥₁ ↔ HasStable (check t m (union r m))) (union_comm r m) (Iff.trunc (to, back))
        where
          to : (s : Row) × AnswerSet t.site (union r m) s → (y : Row) × Stable 96 (check t m (union r m)) y
          to (s, answer) = (union s (union r m), (check_is_stable _).1 (s, answer, refl))

          back : (y : Row) × Stable 96 (check t m (union r m)) y → (s : Row) × AnswerSet t.site (union r m) s
          back (y, stable) = let (s, answer, _) = (check_is_stable y).0 stable in (s, answer)

    held_always : Unbeaten some_plan t m ↔ Always t m
    held_always = (to, λ f r (reply, not-held). not-held ((holds_is_stable r reply).1 (f (union r m) (joined_stable r reply))))
      where
        to : Unbeaten some_plan t m → Always t m
        to f x stable =
            let (r, reply, e) = (reply_is_stable x).0 stable in
            let held : Holds t m r = (Dec.not-not (dec_answered t.site (union m r))).0 (λ not-held. f r (reply, not-held)) in
            subst (λ y. HasStable (check t m y)) (sym e) ((holds_is_stable r reply).0 held)

    held_once : Held t m ↔ Once t m
    held_once = (λ (r, reply, held). (union r m, joined_stable r reply, (holds_is_stable r reply).0 held), back)
      where
        back : Once t m → Held t m
        back (x, stable, has) = let (r, reply, e) = (reply_is_stable x).0 stable in (r, reply, (holds_is_stable r reply).1 (subst (λ y. HasStable (check t m y)) e has))

    -- there are finitely many replies to try
    beaten_once : (Unbeaten every_plan t m → ⊥) ↔ ∥ Once t m ∥₁
    beaten_once = (to, λ once f. ∥∥₁_elim once ⊥_prop (λ x. let (r, reply, held) = held_once.1 x in f r (reply, held)))
      where
        tried : Dec (Held t m)
        tried = dec_some_answer t.faults m (Holds t m) (λ r. dec_answered t.site (union m r))

        to : (Unbeaten every_plan t m → ⊥) → ∥ Once t m ∥₁
        to f = ∣ held_once.0 ((Dec.not-not tried).0 (λ none. f (λ r (reply, held). none (r, reply, held)))) ∣₁

  on_side : (side : Side) → Coherent (on side t) ↔ CoherentAsPublished (on side t)
  on_side some_plan =
      Iff.trunc (
        λ (m, (plan, f)). (m, (plan_is_stable m).0 plan, (held_always m plan).0 f),
        λ (m, stable, f). let plan = (plan_is_stable m).1 stable in (m, (plan, (held_always m plan).1 f)),
      )
  on_side every_plan = (
    λ f m stable. let plan = (plan_is_stable m).1 stable in (beaten_once m plan).0 (λ unbeaten. f m (plan, unbeaten)),
    λ f m (plan, unbeaten). (beaten_once m plan).1 (f m ((plan_is_stable m).0 plan)) unbeaten,
  )

pub coherence_is_as_published : (t : Texts) → Apart t → Coherent t ↔ CoherentAsPublished t
coherence_is_as_published t h = on_side t h t.side
