-- A change of a file in memory.
use Rattle.std.specs.Prelude.{◌≡◌, ◌≢◌, ◌⊎◌, ◌≤◌, ◌+◌, ◌^◌, true, false, ℕ, List, Result, Err, OnOk, IfOk}
use Rattle.records.specs.declared.answer.Outcome.{Outcome}
use Rattle.records.specs.declared.fault.StoreFault.{StoreFault}
use Rattle.records.specs.declared.fault.StoreFault.TheVariants.{Full, Memory, Damaged}
use Rattle.records.specs.Files.{File}
use Rattle.records.specs.Changes.{FileChange}
use Rattle.records.specs.Stores.{is_change, files_after}
use Rattle.file_bytes.specs.Stored.{file_of, files_of}
use Rattle.file_bytes.specs.declared.stored.StoredFile.{StoredFile}

-- The outcome is told, and the file is the changed one. It is full where the file is to change and no arrival is left.
pub record Becomes (result : Result Outcome StoreFault) (changed : FileChange) (old new : StoredFile) : Type 0 where
  pub outcome : IfOk result (λ outcome. outcome ≡ changed.outcome)
  pub after : OnOk result (file_of new ≡ changed.file)
  pub spec : OnOk result (new.spec ≡ old.spec)
  pub idle : IfOk result (λ outcome. is_change outcome ≡ false → new ≡ old)
  pub full : result ≡ Err Full → 2 ^ 63 ≤ old.next_arrival + 1
  pub changes : result ≡ Err Full → is_change changed.outcome ≡ true
  pub sound : result ≢ Err Damaged

-- the same of the files, which differ in the one of this name
pub record BecomesIn (result : Result Outcome StoreFault) (name : List ℕ) (changed : FileChange) (held : File)
    (old new : List StoredFile) : Type 0 where
  pub outcome : IfOk result (λ outcome. outcome ≡ changed.outcome)
  pub after : OnOk result (files_of new ≡ files_after name (files_of old) changed)
  pub full : result ≡ Err Full → 2 ^ 63 ≤ held.next_arrival + 1
  pub changes : result ≡ Err Full → is_change changed.outcome ≡ true
  pub sound : result ≢ Err Damaged

-- the causes of a change that is refused in memory
abbrev pub IsMemoryCause : StoreFault → Type 0
IsMemoryCause fault = (fault ≡ Full) ⊎ (fault ≡ Memory) ⊎ (fault ≡ Damaged)
