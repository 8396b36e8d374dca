-- Areas of bytes, as storage.
use Rattle.std.specs.Prelude.{ℕ, List, map}
use Rattle.std.specs.declared.vec.Vec.{Vec}
use Rattle.source_tree.specs.Storage.{Storage}

abbrev pub storage_of : {A : Type 0} → List (Vec ℕ A) → Storage
storage_of areas = map (λ area. area.items) areas
