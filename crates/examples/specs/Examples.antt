-- Worked examples, and what each of them says.
use Rattle.std.specs.Prelude.{◌≡◌, ℕ, true, List, [], ◌∷◌, map, set, Ok, Err, slice_set}
use Rattle.std.specs.List.{AllByRecursion}
use Rattle.game.specs.Sets.{Row}
use Rattle.game.specs.Sides.{Side}
use Rattle.game.specs.AnswerSets.{AnswerSet}
use Rattle.game.specs.Game.{nothing}
use Rattle.game.specs.Heads.{Lists}
use Rattle.refusals.specs.declared.fault.Text.TheVariants.{Plan}
use Rattle.refusals.specs.declared.fault.Fault.{Fault}
use Rattle.refusals.specs.Numbers.{number_of, text_of, byte_of}
use Rattle.reading.specs.Steps.{State, TextRead}
use Rattle.reading.specs.Loads.{Three, Loads}
use Rattle.grammar.specs.Grammar.{Name, number}
use Rattle.grammar.specs.Accepted.{table}
use Rattle.finders.specs.Meanings.{Meaning}
use Rattle.finders.specs.Supplied.{counting, branching}
use Rattle.runs.specs.Book as book
use Rattle.runs.specs.Book.{Coherence, Pair, plan_shown, no_plan, ask, strike, Answer, told, done, new_book, Run}

-- a side by its number, and three texts
pub record Call : Type 0 where
  pub side : ℕ
  pub plan : List ℕ
  pub faults : List ℕ
  pub site : List ℕ

abbrev pub on_side : ℕ → (plan faults site : List ℕ) → Call
on_side n plan faults site = record { side = n; plan = plan; faults = faults; site = site }

-- side 1, a site text, and nothing in the other two
abbrev pub site_alone : List ℕ → Call
site_alone site = on_side 1 [] [] site

-- the two finders that are supplied
pub data Finder : Type 0 where
  by_counting : Finder
  by_branching : Finder

abbrev pub meaning_of : Finder → Meaning 96
meaning_of by_counting = counting 96
meaning_of by_branching = branching 96

-- a call after a load, and what it answers
pub data Move : Type 0 where
  -- an ask that shows this plan, or none; the pairs and the struck plans that it counts
  shows : Finder → (plan : List Name) → Coherence → (pairs struck : ℕ) → Move
  shows_none : Finder → Coherence → (pairs struck : ℕ) → Move
  -- a strike that is done
  strikes : Move

pub data Example : Type 0 where
  -- a text alone, and all its answer sets with nothing given, each by the names in it
  answer_sets : (text : List ℕ) (sets : List (List Name)) → Example
  -- a side and three texts that load
  loads : Call → Example
  -- a side and three texts that do not: the question that is answered with no, the text, the byte
  refused : Call → (question text byte : ℕ) → Example
  -- a side and three texts that load into a new book, the calls after that, and the sheet then: beaten plans, each with the reply that beats it
  game : Call → (moves : List Move) (sheet : List (List Name × List Name)) → Example

-- the set of these names, by the table of all names; a name that is not in the table has the number after it, which is no atom
abbrev pub set_of : List Name → List Name → Row
set_of atoms [] = nothing
set_of atoms (n ∷ ns) = slice_set (set_of atoms ns) (number atoms n) true

abbrev pub call_of : Move → book.Call
call_of (shows f plan c pairs struck) = ask (meaning_of f)
call_of (shows_none f c pairs struck) = ask (meaning_of f)
call_of strikes = strike

abbrev pub answer_of : List Name → Move → Answer
answer_of atoms (shows f plan c pairs struck) = told plan_shown c pairs struck (set_of atoms plan)
answer_of atoms (shows_none f c pairs struck) = told no_plan c pairs struck nothing
answer_of atoms strikes = done

abbrev pub pair_of : List Name → List Name × List Name → Pair
pair_of atoms (plan, reply) = record { plan = set_of atoms plan; reply = set_of atoms reply }

-- the load and the calls after it, put to a new book, are answered so and leave this sheet
abbrev pub Played : Call → List Move → List (List Name × List Name) → List Name → Type 0
Played c moves sheet atoms =
    (b : book.Book) × Run new_book (book.load true c.side c.plan c.faults c.site ∷ map call_of moves) (done ∷ map (answer_of atoms) moves) b ×
    (b.sheet ≡ map (pair_of atoms) sheet)

-- what an example says; where a text or a call has an outcome, it has no other
abbrev pub Holds : Example → Type 0
Holds (answer_sets text sets) = (d : State) × TextRead Plan text [] (Ok d) × Lists (map (set_of (table d.atoms)) sets) (AnswerSet d.rules nothing)
Holds (loads c) = (x : Side) × (t : Three) × Loads c.side c.plan c.faults c.site (Ok (x, t))
Holds (refused c question text byte) = (e : Fault) × Loads c.side c.plan c.faults c.site (Err e) × (number_of e ≡ question) × (text_of e ≡ text) × (byte_of e ≡ byte)
Holds (game c moves sheet) = (x : Side) × (t : Three) × Loads c.side c.plan c.faults c.site (Ok (x, t)) × Played c moves sheet (table t.atoms)

-- every example on the list holds
pub record Hold (es : List Example) : Type 0 where
  pub each : AllByRecursion Holds es
