-- What follows from the cases of an option.
use Rattle.std.proofs.Common.{Some, None, Option, MatchOption}

pub option_weaker : {T : Type 0} {P P' : Type 0} {Q Q' : T → Type 0} (o : Option T) → MatchOption o P Q → (P → P') → ((x : T) → Q x → Q' x) → MatchOption o P' Q'
option_weaker None p f g = f p
option_weaker (Some x) q f g = g x q
