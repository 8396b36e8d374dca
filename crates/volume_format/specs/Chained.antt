-- Where the record of a row is. A record of more than 1,000 bytes is in a chain of pages, and the value of its entry in the tree of
-- rows is the chain's first page (4) and the arrivals (own choice).
use Rattle.std.specs.Prelude.{◌++◌, ℕ, zero, suc, take, drop, if◌then◌else◌}
use Rattle.std.proofs.Common.{refl}
use Rattle.byteorder.specs.Endian.{big_number}
use Rattle.chains.specs.Chain.{pages_for}
use Rattle.chains.specs.Rows.{RowForm}
use Rattle.records.specs.Spec.{Spec, is_long}

-- the bytes of a record that is in a chain, 0 for a file that has its records in its tree
abbrev pub chained_bytes : Spec → ℕ
chained_bytes spec = if is_long spec then spec.record_length else 0

-- the bytes of a row's entry that stand for its record: the record, or the first page of its chain
abbrev pub kept_bytes : Spec → ℕ
kept_bytes spec = if is_long spec then 4 else spec.record_length

-- Where the records of a tree are of which so many bytes are in chains.
abbrev pub form_of : ℕ → RowForm
form_of zero = record { count = 0; first = λ entry. 0; with_bytes = λ bytes entry. entry; keeps_key = λ bytes entry. refl }
form_of (suc more) = record {
  count = pages_for (suc more);
  first = λ entry. big_number 4 entry.value;
  with_bytes = λ bytes entry. record { key = entry.key; value = take (suc more) bytes ++ drop 4 entry.value };
  keeps_key = λ bytes entry. refl;
}
