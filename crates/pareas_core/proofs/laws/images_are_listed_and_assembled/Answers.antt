use Rattle.pareas_core.proofs.Meeting.{listed_and_assembled}
use Rattle.pareas_core.proofs.laws.images_are_listed_and_assembled.Goals as goal

pub returns : goal.returns
returns c = listed_and_assembled c.listings_give_their_files.ensures c.accepted_code_fits.ensures
