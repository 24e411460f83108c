use Rattle.finders.proofs.WholeListings.{listings_are_whole}
use Rattle.finders.proofs.listing.listing_meets_every_answer_set_once.Goals as goal

pub returns : goal.returns
returns c = listings_are_whole
