use Rattle.file_image.proofs.Sound.{number_place, status_place}
use Rattle.file_image.proofs.laws.places_law.Goals as goal

pub returns-clause-relative_key : goal.returns-clause-relative_key
returns-clause-relative_key c = number_place

pub returns-clause-status : goal.returns-clause-status
returns-clause-status c = status_place
