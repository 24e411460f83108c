-- What a finder answers.
use Rattle.std.specs.Prelude.{◌≡◌, ℕ, ◌<◌, ◌≤◌, true, false, List, [], ◌∷◌, replicate, Some, None, Ok, Err, Option, Result}
use Rattle.std.specs.Borrow.{Bor}
use Rattle.std.specs.List.{ContainsAt as Has}
use Rattle.game.specs.Sets.{Row, In}
use Rattle.game.specs.Rules.{Rule, is_head}
use Rattle.closure.specs.declared.row.Row as code
use Rattle.finders.specs.declared.finder.Found.{Found}
use Rattle.finders.specs.declared.finder.Found.TheVariants.{Entry, End}
use Rattle.finders.specs.declared.finder.Refusal.{Refusal}
use Rattle.finders.specs.declared.finder.Refusal.TheVariants.{ManyHeads, GivenHead, Unlisted}
use Rattle.finders.specs.Meanings.{Meaning, Taken, heads_below, From, start, after, Rest}

-- the number of the question that was answered with no
abbrev pub refusal_number : Refusal → ℕ
refusal_number ManyHeads = 12
refusal_number GivenHead = 18
refusal_number Unlisted = 19

abbrev pub from : {n : ℕ} → Option (Bor (code.Row n)) → From
from None = start
from (Some entry) = after entry.now.marks

-- from there on, with a row handed in: the answer, and the row afterwards
pub data Answers {n : ℕ} (m : Meaning n) (rules : List Rule) (given : Row) (at : From) (was : Row) : Result Found Refusal → Row → Type 0 where
  many_heads : m.most < heads_below n rules → Answers m rules given at was (Err ManyHeads) was
  given_head : (a : ℕ) → heads_below n rules ≤ m.most → In a given → is_head rules a ≡ true → Answers m rules given at was (Err GivenHead) was
  unlisted : (x : Row) → Taken n m.most rules given → at ≡ after x → (Has (m.order rules given) x → ⊥) → Answers m rules given at was (Err Unlisted) was
  entry : (x : Row) (rest : List Row) → Taken n m.most rules given → Rest (m.order rules given) at (x ∷ rest) → Answers m rules given at was (Ok Entry) x
  end : Taken n m.most rules given → Rest (m.order rules given) at [] → Answers m rules given at was (Ok End) (replicate n false)
