-- Each refusal's number, and the text and byte that go with it; a field without meaning is 0.
use Rattle.std.specs.Prelude.{ℕ}
use Rattle.refusals.specs.declared.fault.Text.{Text}
use Rattle.refusals.specs.declared.fault.Text.TheVariants.{Plan, Faults, Site}
use Rattle.refusals.specs.declared.fault.Fault.{Fault}
use Rattle.refusals.specs.declared.fault.Fault.TheVariants.{WrongSide, LongText, NoToken, LongName, Misplaced, LongBody, ManyRules, ManyAtoms, TakenHead, Unstratified, NoAtom, NoRoom, NoMemory}

abbrev pub number : Text → ℕ
number Plan = 1
number Faults = 2
number Site = 3

abbrev pub number_of : Fault → ℕ
number_of WrongSide = 1
number_of (LongText t) = 2
number_of (NoToken t at) = 3
number_of (LongName t at) = 4
number_of (Misplaced t at) = 5
number_of (LongBody t at) = 6
number_of (ManyRules t at) = 7
number_of (ManyAtoms t at) = 8
number_of (TakenHead t at) = 9
number_of (Unstratified at) = 10
number_of NoAtom = 16
number_of NoRoom = 17
number_of NoMemory = 99

abbrev pub text_of : Fault → ℕ
text_of WrongSide = 0
text_of (LongText t) = number t
text_of (NoToken t at) = number t
text_of (LongName t at) = number t
text_of (Misplaced t at) = number t
text_of (LongBody t at) = number t
text_of (ManyRules t at) = number t
text_of (ManyAtoms t at) = number t
text_of (TakenHead t at) = number t
text_of (Unstratified at) = number Site
text_of NoAtom = 0
text_of NoRoom = 0
text_of NoMemory = 0

abbrev pub byte_of : Fault → ℕ
byte_of WrongSide = 0
byte_of (LongText t) = 0
byte_of (NoToken t at) = at
byte_of (LongName t at) = at
byte_of (Misplaced t at) = at
byte_of (LongBody t at) = at
byte_of (ManyRules t at) = at
byte_of (ManyAtoms t at) = at
byte_of (TakenHead t at) = at
byte_of (Unstratified at) = at
byte_of NoAtom = 0
byte_of NoRoom = 0
byte_of NoMemory = 0
