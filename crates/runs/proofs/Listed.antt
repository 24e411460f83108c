-- A finder that takes the heads of readable texts lists the plans, and for each plan its replies.
use Rattle.std.proofs.Common.{ℕ, ◌<◌, ◌≤◌, false, List, length, Some, None, Option, ◌∙◌, inl, inr, arith}
use lib.ListN.{length-replicate}
use Rattle.std.specs.List.{ContainsAt as Has}
use Rattle.game.specs.Sets.{Row}
use Rattle.game.specs.Game.{Texts, Plan, Reply, nothing}
use Rattle.game.specs.Heads.{Lists}
use Rattle.game.proofs.Rows.{in_none}
use Rattle.finders.specs.Meanings.{Meaning, heads_below}
use Rattle.runs.specs.Book.{Pair, Asked, First, SheetBeats, TooMany}
use Rattle.runs.specs.Runs.{UnstruckWinner}
use Rattle.runs.proofs.Readable.{Readable}
use Rattle.runs.proofs.Asking.{none_left, reasons, first_shown}

not_above : (n m : ℕ) → (m < n → ⊥) → n ≤ m
not_above n m f = omega arith

module _ (f : Meaning 96) (t : Texts) (l : Readable t) (few : TooMany f t → ⊥) where
  pub plans_listed : Lists (f.order t.plans nothing) (Plan t)
  plans_listed = f.law t.plans nothing (record {
    kept = l.plans;
    width = length-replicate 96 false;
    few = not_above (heads_below 96 t.plans) f.most (λ m. few (inl m));
    apart = λ a i h. in_none 96 a i;
  })

  pub replies_listed : (m : Row) → Plan t m → Lists (f.order t.faults m) (Reply t m)
  replies_listed m p = f.law t.faults m (record {
    kept = l.faults;
    width = p.width ∙ length-replicate 96 false;
    few = not_above (heads_below 96 t.faults) f.most (λ m. few (inr m));
    apart = λ a i h. l.apart a (p.heads a i) h;
  })

  -- an ask of this finder
  abbrev pub Asks : List Row → List Pair → Option Row → List Pair → Type 0
  Asks struck s o s' = Asked t struck (λ m. f.order t.faults m) (f.order t.plans nothing) s o s'

  pub shown_first : (struck : List Row) (s s' : List Pair) (m : Row) → Asks struck s (Some m) s' → First (UnstruckWinner t struck) (f.order t.plans nothing) m
  shown_first struck s s' m a = first_shown t struck _ (f.order t.plans nothing) s s' m plans_listed.only (λ x r p q. (replies_listed x p).every r q) a

  pub none_unstruck : (struck : List Row) (s s' : List Pair) → Asks struck s None s' → (m : Row) → UnstruckWinner t struck m → ⊥
  none_unstruck struck s s' a m w = none_left t struck _ (f.order t.plans nothing) s s' a m (plans_listed.every m w.0.0) w

  pub beaten_from_sheet : (struck : List Row) (s s' : List Pair) → Asks struck s None s' → length s' < 256 → (m : Row) → Plan t m → (Has struck m → ⊥) → SheetBeats t s' m
  beaten_from_sheet struck s s' a short m p = reasons t struck _ (f.order t.plans nothing) s s' a short m (plans_listed.every m p)
