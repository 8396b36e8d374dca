-- What holds of every file statement.
use Rattle.std.specs.Prelude.{◌≡◌, false, ℕ, List}
use Rattle.records.specs.Files.{Files}
use Rattle.records.specs.declared.verb.Verb.{Verb}
use Rattle.records.specs.Connector.{Entry, Connector, Area}
use Rattle.records.specs.FileStep.{is_success, file_step}

-- a status from 10 on leaves all files as they were
abbrev pub FailuresKeepFiles : Type 0
FailuresKeepFiles = (entries : List Entry) (files : Files) (connectors : List Connector) (i : ℕ) (verb : Verb) (area : Area)
    → is_success (file_step entries files connectors i verb area).status ≡ false → (file_step entries files connectors i verb area).files ≡ files
