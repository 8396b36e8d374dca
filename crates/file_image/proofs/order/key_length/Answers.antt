use Rattle.std.proofs.Common.{◌≡◌, ℕ, zero, suc, List, [], ◌∷◌, None, refl, ap, sym, subst, ◌∙◌}
use Rattle.std.specs.Prelude.{slice_get, slice_index_or}
use Rattle.std.specs.Option.{option_copied}
use Rattle.records.specs.Rows.{no_key}
use Rattle.records.specs.Stores.{key_length}
use Rattle.records.specs.declared.file_spec.AlternateKey.{AlternateKey}
use Rattle.records.specs.declared.key.KeyOfReference.{KeyOfReference}
use Rattle.file_image.specs.Files.{spec_of}
use Rattle.file_image.proofs.order.key_length.Goals as goal

-- a key that isn't there has no bytes
missing : (keys : List AlternateKey) (k : ℕ) → slice_get keys k ≡ None → 0 ≡ (slice_index_or keys k no_key).place.length
missing [] k e = refl
missing (one ∷ more) zero e = absurd cc
missing (one ∷ more) (suc k) e = missing more k e

pub returns-in-None : goal.returns-in-None
returns-in-None c =
    subst (λ (key : KeyOfReference). 0 ≡ key_length (spec_of c.args.file.now) key) (sym c.in-Alternate.is)
    (missing c.args.file.now.alternates c.in-Alternate.number (sym c.get.ensures.value ∙ ap option_copied c.in-None.is))
