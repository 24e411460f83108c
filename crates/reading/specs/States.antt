-- What a draft of the code stands for, and what its methods do to that.
use Rattle.std.specs.Prelude.{◌≡◌, ℕ, ◌⊎◌, [], ◌∷◌, ◌++◌, Ok, Err, vec_items, Result}
use Rattle.programs.specs.Model.{model, models}
use Rattle.refusals.specs.declared.fault.Fault.{Fault}
use Rattle.refusals.specs.declared.fault.Fault.TheVariants.{NoMemory}
use Rattle.reading.specs.declared.draft.Draft.{Draft}
use Rattle.reading.specs.declared.phase.Phase.{Phase}
use Rattle.reading.specs.Steps.{State, put, begin, no_rule}
use Rattle.reading.specs.Tables.{standings_of}

abbrev pub state_of : Draft → State
state_of d = record { phase = d.phase; begun = d.begun; rule = model d.rule; rules = models (vec_items d.rules); places = vec_items d.places; atoms = standings_of d.atoms }

-- the answer and the state then are the wanted ones, unless no memory was to be had
abbrev pub Took : {X : Type 0} → Result State Fault → State → Result X Fault → Type 0
Took want now (Ok x) = want ≡ Ok now
Took want now (Err f) = (f ≡ NoMemory) ⊎ (want ≡ Err f)

-- the state with an atom more in the rule that goes on
abbrev pub with_put : ℕ → State → State
with_put a d = record { phase = d.phase; begun = d.begun; rule = put d.phase a d.rule; rules = d.rules; places = d.places; atoms = d.atoms }

abbrev pub with_begin : ℕ → State → State
with_begin at d = record { phase = d.phase; begun = begin d.phase at d.begun; rule = d.rule; rules = d.rules; places = d.places; atoms = d.atoms }

abbrev pub with_close : Phase → State → State
with_close next d = record { phase = next; begun = d.begun; rule = no_rule; rules = d.rules ++ d.rule ∷ []; places = d.places ++ d.begun ∷ []; atoms = d.atoms }
