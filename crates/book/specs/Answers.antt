-- What the answers of the code stand for.
use Rattle.std.specs.Prelude.{Ok, Err, Result}
use Rattle.game.specs.Sets.{Row}
use Rattle.refusals.specs.declared.fault.Fault.{Fault}
use Rattle.runs.specs.Book as runs
use Rattle.book.specs.declared.told.Verdict.{Verdict}
use Rattle.book.specs.declared.told.Verdict.TheVariants.{PlanShown, NoPlan}
use Rattle.book.specs.declared.told.Coherence.{Coherence}
use Rattle.book.specs.declared.told.Coherence.TheVariants.{Coherent, Incoherent}
use Rattle.book.specs.declared.told.Refusal.{Refusal}
use Rattle.book.specs.declared.told.Refusal.TheVariants.{NothingLoaded, TooManyHeads, NoneShown, StruckFull, NoEntry}
use Rattle.book.specs.declared.told.Told.{Told}

abbrev pub verdict_model : Verdict → runs.Verdict
verdict_model PlanShown = runs.plan_shown
verdict_model NoPlan = runs.no_plan

abbrev pub coherence_model : Coherence → runs.Coherence
coherence_model Coherent = runs.coherent
coherence_model Incoherent = runs.incoherent

abbrev pub refusal_model : Refusal → runs.Refusal
refusal_model NothingLoaded = runs.nothing_loaded
refusal_model TooManyHeads = runs.too_many_heads
refusal_model NoneShown = runs.none_shown
refusal_model StruckFull = runs.struck_full
refusal_model NoEntry = runs.no_entry

-- the answer to a load
abbrev pub load_answer : Result (Unit {0}) Fault → runs.Answer
load_answer (Ok _) = runs.done
load_answer (Err e) = runs.refused (runs.not_loaded e)

-- the answer to an ask, with the row that it leaves
abbrev pub ask_answer : Result Told Refusal → Row → runs.Answer
ask_answer (Ok a) row = runs.told (verdict_model a.verdict) (coherence_model a.coherence) a.pairs a.struck row
ask_answer (Err e) row = runs.refused (refusal_model e)

-- the answer to a strike
abbrev pub strike_answer : Result (Unit {0}) Refusal → runs.Answer
strike_answer (Ok _) = runs.done
strike_answer (Err e) = runs.refused (refusal_model e)

-- the answer to a look, with the rows that it leaves
abbrev pub look_answer : Result (Unit {0}) Refusal → Row → Row → runs.Answer
look_answer (Ok _) first second = runs.wrote first second
look_answer (Err e) first second = runs.refused (refusal_model e)
