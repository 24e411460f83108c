-- What an answer of a finder tells.
use Rattle.std.proofs.Common.{ℕ, List, [], ◌∷◌, Ok, Err, Result, subst, arith}
use Rattle.game.specs.Sets.{Row}
use Rattle.game.specs.Rules.{Rule}
use Rattle.finders.specs.declared.finder.Found.{Found}
use Rattle.finders.specs.declared.finder.Found.TheVariants.{Entry, End}
use Rattle.finders.specs.declared.finder.Refusal.{Refusal}
use Rattle.finders.specs.Meanings.{Meaning, Taken, From, Rest, Listed}
use Rattle.finders.specs.Asked.{Answers, many_heads, given_head, unlisted, entry, end}

module _ {n : ℕ} (m : Meaning n) (rules : List Rule) (given : Row) (at : From) where
  -- an entry comes next, or the list is at its end, or the job or the earlier entry was not fit
  abbrev pub Tells : Result Found Refusal → Row → Type 0
  Tells (Ok Entry) x = (rest : List Row) × Rest (m.order rules given) at (x ∷ rest)
  Tells (Ok End) x = Rest (m.order rules given) at []
  Tells (Err e) x = Taken n m.most rules given → Listed (m.order rules given) at → ⊥

  pub tells : (was : Row) (r : Result Found Refusal) (is : Row) → Answers m rules given at was r is → Tells r is
  tells was _ _ (many_heads many) = λ taken listed. let few = taken.few in omega arith
  tells was _ _ (given_head a few in' head) = λ taken listed. taken.apart a in' head
  tells was _ _ (unlisted x taken' is none) = λ taken listed. none (subst (λ (p : From). Listed (m.order rules given) p) is listed)
  tells was _ _ (entry x rest taken left) = (rest, left)
  tells was _ _ (end taken left) = left
