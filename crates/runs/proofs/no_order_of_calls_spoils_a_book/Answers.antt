use Rattle.runs.proofs.no_order_of_calls_spoils_a_book.Goals as goal
use Rattle.runs.proofs.Promised.{no_order_of_calls_spoils_a_book}

pub returns : goal.returns
returns c = no_order_of_calls_spoils_a_book
