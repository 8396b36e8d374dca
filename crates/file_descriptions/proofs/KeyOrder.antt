-- A key that is put after those that stand before it is put in order of place.
use Rattle.std.proofs.Common.{◌≡◌, suc, Bool, true, false, nat_lt, if◌then◌else◌, List, [], ◌∷◌, refl, ap}
use Rattle.std.specs.Prelude.{insert}
use Rattle.records.specs.declared.file_spec.AlternateKey.{AlternateKey}
use Rattle.source_tree.specs.ProgramFiles.{with_key}
use Rattle.file_descriptions.specs.Keys.{keys_before}

in_order_by : (test : Bool) (one other : AlternateKey) (more : List AlternateKey)
    → insert more (keys_before one more) one ≡ with_key one more
    → insert (other ∷ more) (if test then suc (keys_before one more) else 0) one
    ≡ (if test then other ∷ with_key one more else one ∷ other ∷ more)
in_order_by true one other more e = ap (λ l. other ∷ l) e
in_order_by false one other more e = refl

pub in_order : (one : AlternateKey) (keys : List AlternateKey)
    → insert keys (keys_before one keys) one ≡ with_key one keys
unfolding keys_before
in_order one [] = refl
in_order one (other ∷ more) =
    in_order_by (nat_lt other.place.offset one.place.offset) one other more (in_order one more)
