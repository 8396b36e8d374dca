-- A new row that is looked at before a page changes.
use Rattle.std.proofs.Common.{◌≡◌, Bool, true, false, ℕ, List, refl, ap, ◌∙◌}
use Rattle.records.specs.Changes.{FileChange, has_prime, new_row, insertion, is_taken, is_duplicate, done_outcome}
use Rattle.records.specs.Files.{File}
use Rattle.records.specs.Stores.{is_change}
use Rattle.alternate_keys.proofs.InsertRow.{inserted_done}

pub done_changes : (b : Bool) → is_change (done_outcome b) ≡ true
done_changes true = refl
done_changes false = refl

-- where neither its prime key or number nor a value is taken, the file changes
pub new_row_changes : (number : ℕ) (bytes : List ℕ) (file : File) → has_prime file (new_row file number bytes) ≡ false
    → is_taken file.spec.alternates file.rows bytes ≡ false → is_change (insertion number bytes file).outcome ≡ true
new_row_changes number bytes file there taken =
    ap (λ (ch : FileChange). is_change ch.outcome) (inserted_done number bytes file there taken)
    ∙ done_changes (is_duplicate file.spec.alternates file.rows bytes)
