-- What the lexer's answers say.
use Rattle.std.specs.Prelude.{◌≡◌, ℕ, ◌<◌, Some, None, Ok, Err, Option, Result}
use Rattle.refusals.specs.declared.fault.Text.{Text}
use Rattle.refusals.specs.declared.fault.Fault.{Fault}
use Rattle.refusals.specs.declared.fault.Fault.TheVariants.{NoToken, LongName}
use Rattle.reading.specs.declared.token.Token.{Token}
use Rattle.reading.specs.declared.token.Token.TheVariants.{Name, Not, Arrow, Comma, Dot}
use Rattle.reading.specs.declared.token.Spot.{Spot}
use Rattle.reading.specs.Lexical.{Word, name, negation, arrow, comma, dot, Lexed, end, no_token, long_name, token}

abbrev pub word_of : Token → Word
word_of (Name s) = name s.now
word_of Not = negation
word_of Arrow = arrow
word_of Comma = comma
word_of Dot = dot

-- the refusal where no token can be had
abbrev pub lexical_fault : Text → Lexed → Option Fault
lexical_fault t end = None
lexical_fault t (no_token at) = Some (NoToken t at)
lexical_fault t (long_name at) = Some (LongName t at)
lexical_fault t (token at after w) = None

-- the answer of the lexer, which then stands at `now`, tells what comes next
abbrev pub Tells : Text → Lexed → ℕ → Result (Option Spot) Fault → Type 0
Tells t l now (Ok None) = l ≡ end
Tells t l now (Ok (Some s)) = l ≡ token s.at now (word_of s.token)
Tells t l now (Err f) = lexical_fault t l ≡ Some f

-- the same of a token that starts at `at`, with the place where it ends
abbrev pub TellsAt : Text → ℕ → Lexed → Result (Token × ℕ) Fault → Type 0
TellsAt t at l (Ok s) = l ≡ token at s.1 (word_of s.0)
TellsAt t at l (Err f) = lexical_fault t l ≡ Some f

-- a token takes the lexer on
abbrev pub Moves : ℕ → ℕ → Result (Option Spot) Fault → Type 0
Moves was now (Ok None) = Unit {0}
Moves was now (Ok (Some s)) = was < now
Moves was now (Err f) = Unit {0}
