use Rattle.initial_storage.proofs.Areas.{items_lie}
use Rattle.initial_storage.proofs.Records.{within_areas}
use Rattle.initial_storage.proofs.Places.{places_within}
use Rattle.initial_storage.proofs.laws.items_lie_within_areas.Goals as goal

pub returns-clause-items : goal.returns-clause-items
returns-clause-items c = within_areas

pub returns-clause-lie : goal.returns-clause-lie
returns-clause-lie c = items_lie

pub returns-clause-places : goal.returns-clause-places
returns-clause-places c = places_within
