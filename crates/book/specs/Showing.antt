-- What an ask makes of an open book, and tells of it.
use Rattle.std.specs.Prelude.{◌≡◌, Bool, true, false, List, [], ◌∷◌, length, Some, None, vec_items, Option}
use Rattle.game.specs.Sets.{Row}
use Rattle.game.specs.Game.{Texts, nothing}
use Rattle.finders.specs.Meanings.{Meaning}
use Rattle.loading.specs.Sided.{side_of}
use Rattle.runs.specs.Book as runs
use Rattle.runs.specs.Book.{Asked, verdict_of}
use Rattle.book.specs.declared.open.Open.{Open}
use Rattle.book.specs.declared.told.Told.{Told}
use Rattle.book.specs.Models.{rows, pairs, row_shown}
use Rattle.book.specs.Answers.{verdict_model, coherence_model}
use Rattle.book.specs.Asks.{coherence_by}

-- from the book b an ask with this finder goes down the plans to the book b'
pub record AsksTo (f : Meaning 96) (t : Texts) (b b' : runs.Book) : Type 0 where
  pub asked : Asked t b.struck (λ m. f.order t.faults m) (f.order t.plans nothing) b.sheet b'.shown b'.sheet
  pub texts : b'.texts ≡ b.texts
  pub struck : b'.struck ≡ b.struck

-- a plan is shown, or one was struck
abbrev pub some_winner : Option Row → List Row → Bool
some_winner (Some m) struck = true
some_winner None [] = false
some_winner None (m ∷ ms) = true

pub record Tells (o : Open) (a : Told) : Type 0 where
  pub verdict : verdict_model a.verdict ≡ verdict_of (row_shown o.shown)
  pub coherence : coherence_model a.coherence ≡ coherence_by (side_of o.loaded.side) (some_winner (row_shown o.shown) (rows (vec_items o.struck)))
  pub pairs : a.pairs ≡ length (pairs (vec_items o.sheet))
  pub struck : a.struck ≡ length (rows (vec_items o.struck))
