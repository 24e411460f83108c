-- What a finder owes, from the questions put to the job and from how it goes on.
use Rattle.std.proofs.Common.{ℕ, List, Some, None, Ok, Err, Option, sym, subst}
use Rattle.game.specs.Sets.{Row}
use Rattle.game.specs.Rules.{Rule}
use Rattle.closure.specs.declared.row.Row as code
use Rattle.finders.specs.declared.finder.Found.{Found}
use Rattle.finders.specs.declared.finder.Found.TheVariants.{Entry, End}
use Rattle.finders.specs.declared.finder.Refusal.{Refusal}
use Rattle.finders.specs.Meanings.{Meaning, Taken, From}
use Rattle.finders.specs.Jobs.{Refused, many_heads as too_many, given_head as is-given}
use Rattle.finders.specs.Asked.{Answers, many_heads, given_head, unlisted, entry, end}
use Rattle.finders.specs.Going.{GoesOn, NotListed, not_listed, Written}

module _ {n : ℕ} (m : Meaning n) (rules : List Rule) (given : Row) (at : From) (was : Row) where
  pub refused_answers : (e : Refusal) → Refused n m.most rules given e → Answers m rules given at was (Err e) was
  refused_answers _ (too_many many) = many_heads many
  refused_answers _ (is-given a few in' head) = given_head a few in' head

  module _ (taken : Taken n m.most rules given) where
    pub unlisted_answers : (e : Refusal) → NotListed (m.order rules given) at e → Answers m rules given at was (Err e) was
    unlisted_answers _ (not_listed x at_x none) = unlisted x taken at_x none

    pub found_answers : (found : Option (code.Row n)) → GoesOn (m.order rules given) at found → (told : Found) (row : Row) → Written found told row → Answers m rules given at was (Ok told) row
    found_answers None rest told row (t, r) = subst (λ (f : Found). Answers m rules given at was (Ok f) row) (sym t) (subst (λ (s : Row). Answers m rules given at was (Ok End) s) (sym r) (end taken rest))
    found_answers (Some set) (left, rest) told row (t, r) = subst (λ (f : Found). Answers m rules given at was (Ok f) row) (sym t) (subst (λ (s : Row). Answers m rules given at was (Ok Entry) s) (sym r) (entry set.marks left taken rest))
