use Rattle.station.proofs.Crash.{settled_image}
use Rattle.station.proofs.Restart.{chosen_image}
use Rattle.station.proofs.Changes.{settled_possible, write_changes, crashed_image}
use Rattle.station.proofs.laws.crash_laws.Goals as goal

pub returns-clause-synced : goal.returns-clause-synced
returns-clause-synced c = λ base image. (settled_image base image, settled_possible base image)

pub returns-clause-write : goal.returns-clause-write
returns-clause-write c = write_changes

pub returns-clause-chosen : goal.returns-clause-chosen
returns-clause-chosen c = λ s choose. chosen_image s.disk choose

pub returns-clause-crashed : goal.returns-clause-crashed
returns-clause-crashed c = crashed_image
