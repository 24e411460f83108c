-- The finder that a word asks for.
use Rattle.std.specs.Prelude.{◌≡◌, ℕ, cond, List, Some, None, Ok, Err, codes, Option, Result}
use Rattle.std.specs.Str.{bytes_eq}
use Rattle.listing_text.specs.declared.words.Order.{Order}
use Rattle.listing_text.specs.declared.words.Order.TheVariants.{Counting, Branching}
use Rattle.listing_text.specs.declared.words.UnknownOrder.{UnknownOrder}

abbrev pub order_asked : List ℕ → Option Order
order_asked word = cond (bytes_eq word (codes "counting")) (Some Counting) (cond (bytes_eq word (codes "branching")) (Some Branching) None)

-- the order of a word, or that it names none
abbrev pub Ordered : List ℕ → Result Order UnknownOrder → Type 0
Ordered word (Ok x) = order_asked word ≡ Some x
Ordered word (Err e) = order_asked word ≡ None
