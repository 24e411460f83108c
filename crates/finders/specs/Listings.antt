-- Whole listings: what a finder answers, one call after another, until it tells the end.
use Rattle.std.specs.Prelude.{◌≡◌, ℕ, List, [], ◌∷◌, length, Ok}
use Rattle.std.specs.List.{ContainsAt as Has}
use Rattle.game.specs.Sets.{Row}
use Rattle.game.specs.Rules.{Rule}
use Rattle.game.specs.AnswerSets.{AnswerSet}
use Rattle.game.specs.Heads.{Lists}
use Rattle.finders.specs.declared.finder.Found.TheVariants.{Entry, End}
use Rattle.finders.specs.Meanings.{Meaning, Taken, From, start, after, Rest}
use Rattle.finders.specs.Asked.{Answers}

-- the rows that the finder answers from a place to the end, whatever row is handed in at each call
pub data Listing {n : ℕ} (m : Meaning n) (rules : List Rule) (given : Row) : From → List Row → Type 0 where
  ends : (at : From) (was row : Row) → Answers m rules given at was (Ok End) row → Listing m rules given at []
  goes : (at : From) (was x : Row) (xs : List Row) → Answers m rules given at was (Ok Entry) x → Listing m rules given (after x) xs → Listing m rules given at (x ∷ xs)

-- every answer set exactly once, nothing else, and in the finder's order
pub record Whole {n : ℕ} (m : Meaning n) (rules : List Rule) (given : Row) (xs : List Row) : Type 0 where
  pub lists : Lists xs (AnswerSet rules given)
  pub ordered : xs ≡ m.order rules given

-- the same rows, and as many
pub record Alike (xs ys : List Row) : Type 0 where
  pub to : (x : Row) → Has xs x → Has ys x
  pub back : (x : Row) → Has ys x → Has xs x
  pub as_long : length xs ≡ length ys

-- of every finder and job: a listing from the start is whole, one from a later place is what is left of the order;
-- where the finder takes the job there is one from every place on the list; and any two finders list the same rows
pub record ListingsAreWhole : Type 0 where
  pub whole : (n : ℕ) (m : Meaning n) (rules : List Rule) (given : Row) (xs : List Row) → Listing m rules given start xs → Whole m rules given xs
  pub resumed : (n : ℕ) (m : Meaning n) (rules : List Rule) (given : Row) (at : From) (xs : List Row) → Listing m rules given at xs → Rest (m.order rules given) at xs
  pub reaches_end : (n : ℕ) (m : Meaning n) (rules : List Rule) (given : Row) → Taken n m.most rules given → (at : From) (xs : List Row) → Rest (m.order rules given) at xs → Listing m rules given at xs
  pub alike : (n : ℕ) (m m' : Meaning n) (rules : List Rule) (given : Row) (xs ys : List Row) → Listing m rules given start xs → Listing m' rules given start ys → Alike xs ys
