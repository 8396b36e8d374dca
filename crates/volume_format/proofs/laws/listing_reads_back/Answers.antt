use Rattle.volume_format.proofs.Listings as listings
use Rattle.volume_format.proofs.laws.listing_reads_back.Goals as goal

pub returns : goal.returns
returns c = listings.reads_back
