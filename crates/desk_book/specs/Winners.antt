-- The winning plans of a book, one after another.
use Rattle.std.specs.Prelude.{◌≡◌, ℕ, List, [], ◌∷◌, ◌++◌, length, Some}
use Rattle.std.specs.List.{flat_map}
use Rattle.game.specs.Game.{Texts}
use Rattle.game.specs.Sets.{Row}
use Rattle.finders.specs.Supplied.{branching}
use Rattle.reading.specs.Loads.{Three}
use Rattle.reading.specs.Steps.{Standing}
use Rattle.runs.specs.Book.{Book, ask, strike, told, done, refused, nothing_loaded, struck_full, plan_shown, no_plan, Coherence, Goes}
use Rattle.listing_text.specs.declared.lines.Ending.{Ending}
use Rattle.listing_text.specs.declared.lines.Ending.TheVariants.{Complete, Stopped}
use Rattle.listing_text.specs.Lines.{set_line}
use Rattle.desk_text.specs.Lines.{winners_line}
use Rattle.desk_book.specs.declared.winners.Next.{Next}
use Rattle.desk_book.specs.declared.winners.Next.TheVariants.{Winner, End}
use Rattle.desk_book.specs.Loaded.{Bytes, Gives}
use Rattle.desk_book.specs.Told.{refusal_line}

-- an ask with the branching finder shows this plan
abbrev pub Shows : Book → Row → Book → Type 0
Shows b m b' = (c : Coherence) × (pairs : ℕ) × (struck : ℕ) × Goes (ask (branching 96)) b (told plan_shown c pairs struck m) b'

-- an ask with the branching finder shows none
abbrev pub ShowsNone : Book → Book → Type 0
ShowsNone b b' = (c : Coherence) × (pairs : ℕ) × (struck : ℕ) × (row : Row) × Goes (ask (branching 96)) b (told no_plan c pairs struck row) b'

-- From one book to another, a plan is shown and struck again and again, until none is shown, or one that cannot be struck, since 64 are.
pub data Wins : Book → List Row → Ending → Book → Type 0 where
  no_more : {b b' : Book} → ShowsNone b b' → Wins b [] Complete b'
  one_more : {b b''' : Book} {m : Row} {ms : List Row} {e : Ending} (b' b'' : Book) → Shows b m b' → Goes strike b' done b'' → Wins b'' ms e b''' → Wins b (m ∷ ms) e b'''
  left_over : {b b' : Book} (m : Row) → Shows b m b' → Goes strike b' (refused struck_full) b' → Wins b [] Stopped b'

-- the same of one plan, or of the end
abbrev pub NextGoes : Book → Next → Book → Type 0
NextGoes b (Winner m) b'' = (b' : Book) × Shows b m.marks b' × Goes strike b' done b''
NextGoes b (End e) b' = Wins b [] e b'

-- a line for each plan, and then how many they are
abbrev pub winner_lines : List Standing → List Row → Ending → List ℕ
winner_lines atoms ms e = flat_map (set_line atoms) ms ++ winners_line (length ms) e

-- the book goes down its winning plans, and they are told behind what was there
abbrev pub WinnersTold : List Standing → Book → Book → List ℕ → List ℕ → Type 0
WinnersTold atoms b b' was is = (ms : List Row) × (e : Ending) × Wins b ms e b' × (is ≡ was ++ winner_lines atoms ms e)

-- A book with nothing loaded refuses the ask, and that is told.
pub data AllTold (b b' : Book) (w : Bytes) (was : List ℕ) : List ℕ → Type 0 where
  unloaded_so : {is : List ℕ} → Goes (ask (branching 96)) b (refused nothing_loaded) b' → is ≡ was ++ refusal_line nothing_loaded → AllTold b b' w was is
  winners_so : {is : List ℕ} (t : Three) → Gives w t → WinnersTold t.atoms b b' was is → AllTold b b' w was is

abbrev pub HasTexts : Book → Type 0
HasTexts b = (t : Texts) × (b.texts ≡ Some t)
