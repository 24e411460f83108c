-- A test of examples that computes: what passes it holds.
use Rattle.std.proofs.Common.{◌≡◌, ℕ, Bool, true, false, ◌&&◌, eqb, List, [], ◌∷◌, map, Some, None, Ok, Err, filter, Option, Result, refl, subst, ap₂}
use Rattle.std.specs.List.{AllByRecursion}
use Rattle.std.proofs.lemmas.Bool.{false≢true, and_parts, eqb-true}
use Rattle.game.specs.Sets.{Row}
use Rattle.game.specs.Rules.{Rule}
use Rattle.game.specs.Sides.{Side}
use Rattle.game.specs.Game.{nothing}
use Rattle.game.specs.AnswerSets.{AnswerSet}
use Rattle.game.specs.Heads.{Lists, sets_of_heads}
use Rattle.refusals.specs.declared.fault.Text.TheVariants.{Plan}
use Rattle.refusals.specs.declared.fault.Fault.{Fault}
use Rattle.refusals.specs.Numbers.{number_of, text_of, byte_of}
use Rattle.programs.specs.Limits.{all_fit}
use Rattle.reading.specs.Steps.{State, TextRead}
use Rattle.reading.specs.Loads.{Three, Loads}
use Rattle.grammar.specs.Grammar.{Name}
use Rattle.grammar.specs.Accepted.{table}
use Rattle.grammar.proofs.Reading.{read_of, read_so}
use Rattle.grammar.proofs.Outcomes.{loaded, loads_so}
use Rattle.runs.specs.Book as book
use Rattle.runs.specs.Book.{texts_of}
use Rattle.examples.specs.Examples.{Call, Move, Example, answer_sets, loads, refused, game, set_of, Holds, Hold}
use Rattle.examples.proofs.Answering.{same, same_decides, is_answer, answers_listed}
use Rattle.examples.proofs.Playing.{Ended, ended}

abbrev all_same : List Row → List Row → Bool
all_same [] [] = true
all_same [] (t ∷ ts) = false
all_same (s ∷ ss) [] = false
all_same (s ∷ ss) (t ∷ ts) = same s t && all_same ss ts

all_same_true : (ss ts : List Row) → all_same ss ts ≡ true → ss ≡ ts
all_same_true [] [] e = refl
all_same_true [] (t ∷ ts) e = absurd (false≢true e)
all_same_true (s ∷ ss) [] e = absurd (false≢true e)
all_same_true (s ∷ ss) (t ∷ ts) e = let (first, rest) = and_parts (same s t) (all_same ss ts) e in ap₂ ◌∷◌ ((same_decides s t).0 first) (all_same_true ss ts rest)

-- all answer sets of the rules, nothing given
abbrev answers_of : List Rule → List Row
answers_of rules = filter (is_answer rules nothing) (sets_of_heads rules 96)

abbrev read_tells : Result State Fault → List (List Name) → Bool
read_tells (Ok d) sets = all_fit 96 d.rules && all_same (answers_of d.rules) (map (set_of (table d.atoms)) sets)
read_tells (Err e) sets = false

abbrev load_tells : Result (Side × Three) Fault → Bool
load_tells (Ok t) = true
load_tells (Err e) = false

abbrev refusal_tells : Result (Side × Three) Fault → ℕ → ℕ → ℕ → Bool
refusal_tells (Ok t) question text byte = false
refusal_tells (Err e) question text byte = eqb (number_of e) question && (eqb (text_of e) text && eqb (byte_of e) byte)

abbrev is_some : {X : Type 0} → Option X → Bool
is_some None = false
is_some (Some x) = true

abbrev game_tells : Result (Side × Three) Fault → List Move → List (List Name × List Name) → Bool
game_tells (Ok (x, t)) moves sheet = is_some (ended (texts_of (x, t)) (table t.atoms) moves sheet)
game_tells (Err e) moves sheet = false

abbrev outcome_of : Call → Result (Side × Three) Fault
outcome_of c = loaded c.side c.plan c.faults c.site

abbrev checked : Example → Bool
checked (answer_sets text sets) = read_tells (read_of Plan text []) sets
checked (loads c) = load_tells (outcome_of c)
checked (refused c question text byte) = refusal_tells (outcome_of c) question text byte
checked (game c moves sheet) = game_tells (outcome_of c) moves sheet

checked_holds : (e : Example) → checked e ≡ true → Holds e
checked_holds (answer_sets text sets) = go (read_of Plan text []) (read_so Plan text [])
  where
    go : (r : Result State Fault) → TextRead Plan text [] r → read_tells r sets ≡ true → Holds (answer_sets text sets)
    go (Ok d) read e =
        let (fits, same) = and_parts (all_fit 96 d.rules) _ e in
        (d, read, subst (λ xs. Lists xs (AnswerSet d.rules nothing)) (all_same_true _ _ same) (answers_listed d.rules nothing fits))
    go (Err f) read e = absurd (false≢true e)
checked_holds (loads c) = go (outcome_of c) (loads_so c.side c.plan c.faults c.site)
  where
    go : (r : Result (Side × Three) Fault) → Loads c.side c.plan c.faults c.site r → load_tells r ≡ true → Holds (loads c)
    go (Ok (x, t)) load e = (x, t, load)
    go (Err f) load e = absurd (false≢true e)
checked_holds (refused c question text byte) = go (outcome_of c) (loads_so c.side c.plan c.faults c.site)
  where
    go : (r : Result (Side × Three) Fault) → Loads c.side c.plan c.faults c.site r → refusal_tells r question text byte ≡ true → Holds (refused c question text byte)
    go (Ok t) load e = absurd (false≢true e)
    go (Err f) load e =
        let (number, rest) = and_parts (eqb (number_of f) question) _ e in
        let (in-text, at) = and_parts (eqb (text_of f) text) _ rest in
        (f, load, eqb-true _ _ number, eqb-true _ _ in-text, eqb-true _ _ at)
checked_holds (game c moves sheet) = go (outcome_of c) (loads_so c.side c.plan c.faults c.site)
  where
    on : (x : Side) (t : Three) → Loads c.side c.plan c.faults c.site (Ok (x, t)) → (o : Option (Ended (texts_of (x, t)) (table t.atoms) moves sheet)) → is_some o ≡ true → Holds (game c moves sheet)
    on x t load None e = absurd (false≢true e)
    on x t load (Some (b, run, same)) e = (x, t, load, (b, book.step _ (book.loads (x, t) load) run, same))

    go : (r : Result (Side × Three) Fault) → Loads c.side c.plan c.faults c.site r → game_tells r moves sheet ≡ true → Holds (game c moves sheet)
    go (Ok (x, t)) load e = on x t load (ended (texts_of (x, t)) (table t.atoms) moves sheet) e
    go (Err f) load e = absurd (false≢true e)

unfoldable pub all_checked : List Example → Bool
all_checked [] = true
all_checked (e ∷ es) = checked e && all_checked es

pub checked_hold : (es : List Example) → all_checked es ≡ true → Hold es
unfolding all_checked
checked_hold es e = record { each = go es e }
  where
    go : (es : List Example) → all_checked es ≡ true → AllByRecursion Holds es
    go [] e = tt
    go (x ∷ xs) e = let (first, rest) = and_parts (checked x) (all_checked xs) e in (checked_holds x first, go xs rest)
