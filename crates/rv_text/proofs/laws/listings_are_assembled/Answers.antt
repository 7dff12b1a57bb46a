use Rattle.rv_text.proofs.Listed.{listing_again, headed_again}
use Rattle.rv_text.proofs.laws.listings_are_assembled.Goals as goal

pub returns-clause-alone : goal.returns-clause-alone
returns-clause-alone c = listing_again

pub returns-clause-headed : goal.returns-clause-headed
returns-clause-headed c = headed_again
