use Rattle.std.proofs.Common.{refl}
use Rattle.runs.proofs.Promised.{no_order_of_calls_spoils_a_book}
use Rattle.book.proofs.book.Book.new.Goals as goal

pub returns : goal.returns
returns c = record { empty = refl; sound = no_order_of_calls_spoils_a_book }
