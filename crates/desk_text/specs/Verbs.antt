-- The words that begin a command.
use Rattle.std.specs.Prelude.{◌≡◌, ℕ, cond, List, Some, None, Ok, Err, codes, Option, Result}
use Rattle.std.specs.Str.{bytes_eq}
use Rattle.desk_text.specs.declared.verb.Verb.{Verb}
use Rattle.desk_text.specs.declared.verb.Verb.TheVariants.{Load, Ask, Strike, Wipe, Look, Why, All, Help}
use Rattle.desk_text.specs.declared.verb.UnknownVerb.{UnknownVerb}

abbrev pub verb_said : List ℕ → Option Verb
verb_said word =
    cond (bytes_eq word (codes "load")) (Some Load)
    (cond (bytes_eq word (codes "ask")) (Some Ask)
    (cond (bytes_eq word (codes "strike")) (Some Strike)
    (cond (bytes_eq word (codes "wipe")) (Some Wipe)
    (cond (bytes_eq word (codes "look")) (Some Look)
    (cond (bytes_eq word (codes "why")) (Some Why)
    (cond (bytes_eq word (codes "all")) (Some All)
    (cond (bytes_eq word (codes "help")) (Some Help) None)))))))

-- the verb of a word, or that it begins no command
abbrev pub VerbGives : List ℕ → Result Verb UnknownVerb → Type 0
VerbGives word (Ok x) = verb_said word ≡ Some x
VerbGives word (Err e) = verb_said word ≡ None
