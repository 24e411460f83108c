-- How a text is read: what each token does to what is read so far, and the one refusal that may end it.
use Rattle.std.specs.Prelude.{◌≡◌, ℕ, suc, ◌+◌, Bool, true, false, cond, ◌&&◌, List, [], ◌∷◌, ◌++◌, length, Some, None, Ok, Err, Option, Result, nat_le, nat_lt}
use Rattle.std.specs.Str.{bytes_eq}
use Rattle.game.specs.Rules.{none, atom, Rule}
use Rattle.refusals.specs.declared.fault.Text.{Text}
use Rattle.refusals.specs.declared.fault.Fault.{Fault}
use Rattle.refusals.specs.declared.fault.Fault.TheVariants.{LongText, Misplaced, LongBody, ManyRules, ManyAtoms}
use Rattle.reading.specs.declared.phase.Phase.{Phase}
use Rattle.reading.specs.declared.phase.Phase.TheVariants.{Start, AfterHead, AfterArrow, AfterNot, AfterLiteral, AfterComma}
use Rattle.reading.specs.Lexical.{Word, name, negation, arrow, comma, dot, lexed, end, token}
use Rattle.reading.specs.Tokens.{lexical_fault}

-- The grammar: where a rule may start, or after a part of a rule, what may come next, and what it comes after then.
abbrev pub follow : Phase → Word → Option Phase
follow Start (name n) = Some AfterHead
follow Start negation = None
follow Start arrow = Some AfterArrow
follow Start comma = None
follow Start dot = None
follow AfterHead (name n) = None
follow AfterHead negation = None
follow AfterHead arrow = Some AfterArrow
follow AfterHead comma = None
follow AfterHead dot = Some Start
follow AfterArrow (name n) = Some AfterLiteral
follow AfterArrow negation = Some AfterNot
follow AfterArrow arrow = None
follow AfterArrow comma = None
follow AfterArrow dot = Some Start
follow AfterNot (name n) = Some AfterLiteral
follow AfterNot negation = None
follow AfterNot arrow = None
follow AfterNot comma = None
follow AfterNot dot = None
follow AfterLiteral (name n) = None
follow AfterLiteral negation = None
follow AfterLiteral arrow = None
follow AfterLiteral comma = Some AfterComma
follow AfterLiteral dot = Some Start
follow AfterComma (name n) = Some AfterLiteral
follow AfterComma negation = Some AfterNot
follow AfterComma arrow = None
follow AfterComma comma = None
follow AfterComma dot = None

-- a token that may stand here opens a rule
abbrev pub opens_rule : Phase → Bool
opens_rule Start = true
opens_rule AfterHead = false
opens_rule AfterArrow = false
opens_rule AfterNot = false
opens_rule AfterLiteral = false
opens_rule AfterComma = false

-- a name or a `not` that may stand here opens a literal
abbrev pub before_literal : Phase → Bool
before_literal Start = false
before_literal AfterHead = false
before_literal AfterArrow = true
before_literal AfterNot = false
before_literal AfterLiteral = false
before_literal AfterComma = true

abbrev pub of_literal : Word → Bool
of_literal (name n) = true
of_literal negation = true
of_literal arrow = false
of_literal comma = false
of_literal dot = false

-- where an atom first stands
pub record Standing : Type 0 where
  pub text : Text
  pub at : ℕ
  pub name : List ℕ

-- the number of the atom of this name: its place in the table, or the table's length where it is not there
abbrev pub index : List ℕ → List Standing → ℕ
index n [] = 0
index n (s ∷ ss) = cond (bytes_eq s.name n) 0 (suc (index n ss))

-- what is read of a text: the rules that ended, with the places where they start, the rule that goes on, the atoms of all texts so far
pub record State : Type 0 where
  pub phase : Phase
  pub begun : ℕ
  pub rule : Rule
  pub rules : List Rule
  pub places : List ℕ
  pub atoms : List Standing

abbrev pub no_rule : Rule
no_rule = record { head = none; plain = []; negated = [] }

-- before the first token
abbrev pub fresh : List Standing → State
fresh atoms = record { phase = Start; begun = 0; rule = no_rule; rules = []; places = []; atoms = atoms }

-- the rule with one atom more, by where its name stands
abbrev pub put : Phase → ℕ → Rule → Rule
put Start a r = record { head = atom a; plain = r.plain; negated = r.negated }
put AfterHead a r = r
put AfterArrow a r = record { head = r.head; plain = r.plain ++ a ∷ []; negated = r.negated }
put AfterNot a r = record { head = r.head; plain = r.plain; negated = r.negated ++ a ∷ [] }
put AfterLiteral a r = r
put AfterComma a r = record { head = r.head; plain = r.plain ++ a ∷ []; negated = r.negated }

-- a name joins the table where it is new; question 8: are there at most 96 atoms?
abbrev pub entered : Text → ℕ → List ℕ → List Standing → Result (List Standing) Fault
entered t at n ss = cond (nat_lt (index n ss) (length ss)) (Ok ss) (cond (nat_lt (length ss) 96) (Ok (ss ++ record { text = t; at = at; name = n } ∷ [])) (Err (ManyAtoms t at)))

abbrev pub begin : Phase → ℕ → ℕ → ℕ
begin p at was = cond (opens_rule p) at was

-- a name is taken
abbrev pub named : ℕ → List ℕ → Phase → State → Result (List Standing) Fault → Result State Fault
named at n next d (Ok atoms) = Ok (record { phase = next; begun = begin d.phase at d.begun; rule = put d.phase (index n d.atoms) d.rule; rules = d.rules; places = d.places; atoms = atoms })
named at n next d (Err f) = Err f

-- a token that the grammar allows is taken
abbrev pub taken : Text → ℕ → Phase → State → Word → Result State Fault
taken t at next d (name n) = named at n next d (entered t at n d.atoms)
taken t at next d negation = Ok (record { phase = next; begun = d.begun; rule = d.rule; rules = d.rules; places = d.places; atoms = d.atoms })
taken t at next d arrow = Ok (record { phase = next; begun = begin d.phase at d.begun; rule = d.rule; rules = d.rules; places = d.places; atoms = d.atoms })
taken t at next d comma = Ok (record { phase = next; begun = d.begun; rule = d.rule; rules = d.rules; places = d.places; atoms = d.atoms })
taken t at next d dot = Ok (record { phase = next; begun = d.begun; rule = no_rule; rules = d.rules ++ d.rule ∷ []; places = d.places ++ d.begun ∷ []; atoms = d.atoms })

abbrev pub literals : Rule → ℕ
literals r = length r.plain + length r.negated

-- question 7: is this within 256 rules? Question 6: is this within 16 literals?
abbrev pub asked : Text → ℕ → State → Word → Option Phase → Result State Fault
asked t at d w None = Err (Misplaced t at)
asked t at d w (Some next) = cond (opens_rule d.phase && nat_le 256 (length d.rules)) (Err (ManyRules t at)) (cond ((before_literal d.phase && of_literal w) && nat_le 16 (literals d.rule)) (Err (LongBody t at)) (taken t at next d w))

-- what the token w at a place does: question 5 first, does the grammar allow it here?
unfoldable pub step : Text → ℕ → State → Word → Result State Fault
step t at d w = asked t at d w (follow d.phase w)

-- the end of a text of n bytes: question 5 once more
abbrev pub ended : Text → ℕ → State → Result State Fault
ended t n d = cond (opens_rule d.phase) (Ok d) (Err (Misplaced t n))

-- `Reads t text from d r`: reading the text on from a place, with d read so far, comes to r
pub data Reads (t : Text) (text : List ℕ) : ℕ → State → Result State Fault → Type 0 where
  ends : {from : ℕ} {d : State} → lexed text from ≡ end → Reads t text from d (ended t (length text) d)
  no_word : {from : ℕ} {d : State} (f : Fault) → lexical_fault t (lexed text from) ≡ Some f → Reads t text from d (Err f)
  refused : {from : ℕ} {d : State} (at after : ℕ) (w : Word) (f : Fault) → lexed text from ≡ token at after w → step t at d w ≡ Err f → Reads t text from d (Err f)
  goes : {from : ℕ} {d : State} {r : Result State Fault} (at after : ℕ) (w : Word) (d' : State) → lexed text from ≡ token at after w → step t at d w ≡ Ok d' → Reads t text after d' r → Reads t text from d r

-- a whole text, with the atoms of the texts before it; question 2 first, has it at most 16,384 bytes?
abbrev pub TextRead : Text → List ℕ → List Standing → Result State Fault → Type 0
TextRead t text atoms r = elim (nat_le (length text) 16384) [ true ↦ Reads t text 0 (fresh atoms) r | false ↦ r ≡ Err (LongText t) ]
