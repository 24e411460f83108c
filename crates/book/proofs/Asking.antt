-- An ask that goes down the plans one after another.
use Rattle.std.proofs.Common.{◌≡◌, ◌<◌, ◌⊎◌, List, [], ◌∷◌, length, Some, None, Option, sym, ap, subst, inl, inr, arith}
use Rattle.std.specs.List.{ContainsAt as Has, AllByRecursion}
use Rattle.game.specs.Sets.{Row}
use Rattle.game.specs.Game.{Texts, Beats}
use Rattle.game.proofs.Listing.{Differ}
use Rattle.finders.specs.Meanings.{From, Rest}
use Rattle.finders.proofs.Resting.{rest_of, past, rest_is, entry_first}
use Rattle.runs.specs.Book.{Pair, SheetBeats, First, noted, Asked, run_out, over_struck, over_beaten, newly_beaten, shows}

-- what an ask comes to on the rest of the plans from the sheet s on, it comes to on all of them from the sheet s₀ on
pub record SameAsk (t : Texts) (struck : List Row) (replies : Row → List Row) (xs : List Row) (s₀ : List Pair) (rest : List Row) (s : List Pair) : Type 0 where
  pub on : (o : Option Row) (s' : List Pair) → Asked t struck replies rest s o s' → Asked t struck replies xs s₀ o s'

module _ (t : Texts) (struck : List Row) (replies : Row → List Row) (xs : List Row) (s₀ : List Pair) where
  pub same_start : SameAsk t struck replies xs s₀ xs s₀
  same_start = record { on = λ o s' a. a }

  pub asked_out : (at : From) (s : List Pair) → Differ xs → Rest xs at [] → SameAsk t struck replies xs s₀ (rest_of xs at) s → Asked t struck replies xs s₀ None s
  asked_out at s differ rest same = same.on None s (subst (λ ys. Asked t struck replies ys s None s) (sym (rest_is xs at [] differ rest)) run_out)

  module _ (differ : Differ xs) (at : From) (x : Row) (ys : List Row) (rest : Rest xs at (x ∷ ys)) (s : List Pair) (same : SameAsk t struck replies xs s₀ (rest_of xs at) s) where
    here : SameAsk t struck replies xs s₀ (x ∷ past xs x) s
    here = subst (λ zs. SameAsk t struck replies xs s₀ zs s) (entry_first xs differ at x ys rest) same

    pub passes : Has struck x ⊎ ((Has struck x → ⊥) × SheetBeats t s x) → SameAsk t struck replies xs s₀ (past xs x) s
    passes (inl has) = record { on = λ o s' a. here.on o s' (over_struck has a) }
    passes (inr (out, beaten)) = record { on = λ o s' a. here.on o s' (over_beaten out beaten a) }

    module _ (out : Has struck x → ⊥) (unbeaten : SheetBeats t s x → ⊥) where
      pub notes : (r : Row) → First (Beats t x) (replies x) r → (s'' : List Pair) → s'' ≡ noted s (record { plan = x; reply = r }) → SameAsk t struck replies xs s₀ (past xs x) s''
      notes r first s'' is = record { on = λ o s' a. here.on o s' (newly_beaten r out unbeaten first (subst (λ z. Asked t struck replies (past xs x) z o s') is a)) }

      pub wins : AllByRecursion (λ r. Beats t x r → ⊥) (replies x) → Asked t struck replies xs s₀ (Some x) s
      wins none = here.on (Some x) s (shows out unbeaten none)

    pub fewer : length (past xs x) < length (rest_of xs at)
    fewer = let e = ap length (entry_first xs differ at x ys rest) in omega arith
