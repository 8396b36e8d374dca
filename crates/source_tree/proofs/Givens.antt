-- What is known of what a run is given.
use Rattle.std.proofs.Common.{◌≡◌, ℕ, List, [], refl}
use Rattle.station.specs.State.{State}
use Rattle.records.specs.Files.{Files}
use Rattle.source_tree.specs.Given.{given_on, given_over}

pub given_budget : (station : State) (day : List ℕ) (budget : ℕ) → (given_on station day budget).budget ≡ budget
unfolding given_on
given_budget station day budget = refl

pub given_day : (station : State) (day : List ℕ) (budget : ℕ) → (given_on station day budget).day ≡ day
unfolding given_on
given_day station day budget = refl

pub budget_over : (files : Files) (station : State) (day : List ℕ) (budget : ℕ)
    → (given_over files station day budget).budget ≡ budget
unfolding given_over
budget_over files station day budget = refl

pub day_over : (files : Files) (station : State) (day : List ℕ) (budget : ℕ)
    → (given_over files station day budget).day ≡ day
unfolding given_over
day_over files station day budget = refl

pub files_over : (files : Files) (station : State) (day : List ℕ) (budget : ℕ)
    → (given_over files station day budget).files ≡ files
unfolding given_over
files_over files station day budget = refl

pub over_no_files : (station : State) (day : List ℕ) (budget : ℕ)
    → given_over [] station day budget ≡ given_on station day budget
unfolding given_over given_on
over_no_files station day budget = refl
