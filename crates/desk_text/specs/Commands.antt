-- What a line says.
use Rattle.std.specs.Prelude.{◌≡◌, ℕ, ◌==◌, cond, nat_lt, List, [], ◌∷◌, length, Some, None, Ok, Err, Option, Result}
use Rattle.std.specs.Option.{option_map}
use Rattle.std.specs.Str.{is_utf8}
use Rattle.listing_text.specs.declared.words.Order.{Order}
use Rattle.listing_text.specs.declared.words.Order.TheVariants.{Branching}
use Rattle.listing_text.specs.Words.{order_asked}
use Rattle.desk_text.specs.declared.verb.Verb as verb
use Rattle.desk_text.specs.declared.verb.Verb.TheVariants as verbs
use Rattle.desk_text.specs.declared.command.Command.{Command}
use Rattle.desk_text.specs.declared.command.Command.TheVariants.{Nothing, Load, Ask, Strike, Wipe, Look, Why, All, Help}
use Rattle.desk_text.specs.declared.command.Malformed.{Malformed}
use Rattle.desk_text.specs.Words.{trimmed, first_word, after_word, number_said, side_said}
use Rattle.desk_text.specs.Verbs.{verb_said}

pub data Said : Type 0 where
  nothing : Said
  load : (side : ℕ) (folder : List ℕ) → Said
  ask : Order → Said
  strike : Said
  wipe : Said
  look : (kind place : ℕ) → Said
  why : Said
  all : Said
  help : Said

-- a command that takes nothing more
abbrev pub alone : Said → List ℕ → Option Said
alone command more = cond (length more == 0) (Some command) None

-- a folder has a name
abbrev pub load_said : ℕ → List ℕ → Option Said
load_said side folder = cond (length folder == 0) None (Some (load side folder))

-- branching, where no order is said
abbrev pub ask_said : List ℕ → Option Said
ask_said word = cond (length word == 0) (Some (ask Branching)) (option_map ask (order_asked word))

abbrev pub look_said : Option ℕ → Option ℕ → Option Said
look_said (Some kind) (Some place) = Some (look kind place)
look_said (Some kind) None = None
look_said None place = None

-- a verb, and what stands behind it
abbrev pub verb_with : Option verb.Verb → List ℕ → Option Said
verb_with None rest = None
verb_with (Some verbs.Load) rest = load_said (side_said (first_word rest)) (trimmed (after_word rest))
verb_with (Some verbs.Ask) rest = ask_said (trimmed rest)
verb_with (Some verbs.Strike) rest = alone strike (trimmed rest)
verb_with (Some verbs.Wipe) rest = alone wipe (trimmed rest)
verb_with (Some verbs.Look) rest = look_said (number_said (first_word rest)) (number_said (trimmed (after_word rest)))
verb_with (Some verbs.Why) rest = alone why (trimmed rest)
verb_with (Some verbs.All) rest = alone all (trimmed rest)
verb_with (Some verbs.Help) rest = alone help (trimmed rest)

-- a text without a word says nothing
abbrev pub text_said : List ℕ → Option Said
text_said text = cond (length (first_word text) == 0) (Some nothing) (verb_with (verb_said (first_word text)) (after_word text))

-- without this byte at the end, if it stands there
abbrev pub without_end : ℕ → List ℕ → List ℕ
without_end c [] = []
without_end c (b ∷ []) = cond (b == c) [] (b ∷ [])
without_end c (b ∷ d ∷ bs) = b ∷ without_end c (d ∷ bs)

-- without its line feed, and the carriage return before that
abbrev pub line_text : List ℕ → List ℕ
line_text line = without_end 13 (without_end 10 line)

-- bytes are no command where they are more than 4096, or no UTF-8
abbrev pub bytes_said : List ℕ → Option Said
bytes_said bytes = cond (nat_lt 4096 (length bytes)) None (cond (is_utf8 bytes) (text_said bytes) None)

abbrev pub line_said : List ℕ → Option Said
line_said line = bytes_said (line_text line)

abbrev pub meant : Command → Said
meant Nothing = nothing
meant (Load side folder) = load side folder.now
meant (Ask order) = ask order
meant Strike = strike
meant Wipe = wipe
meant (Look kind place) = look kind place
meant Why = why
meant All = all
meant Help = help

-- what is read of something that says this, or nothing that is a command
abbrev pub ReadOf : Option Said → Result Command Malformed → Type 0
ReadOf said (Ok command) = said ≡ Some (meant command)
ReadOf said (Err e) = said ≡ None
