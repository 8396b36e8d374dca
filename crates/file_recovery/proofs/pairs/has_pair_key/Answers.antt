use Rattle.std.proofs.Common.{◌≡◌, ◌++◌, true, false, ℕ, List, length, take, drop, refl, sym, ap, ◌∙◌}
use Rattle.std.specs.Prelude.{slice_index_or}
use Rattle.byteorder.specs.Endian.{big_bytes}
use Rattle.records.specs.Rows.{same_bytes}
use Rattle.records.proofs.Maps.{bytes_same, same_itself}
use Rattle.file_recovery.proofs.PairsOf.{joined, front_of}
use Rattle.file_recovery.proofs.pairs.has_pair_key.Goals as goal

pub returns-then-not-is_same-clause-no : goal.returns-then-not-is_same-clause-no
returns-then-not-is_same-clause-no c = λ told is.
    let value : List ℕ = c.alternate_value-value.result.now in
    let tail : List ℕ = big_bytes 8 (slice_index_or c.args.row.now.arrivals.items c.args.key 0) in
    let whole : value ++ tail ≡ c.args.pair.now = ap (λ (v : List ℕ). v ++ tail) c.alternate_value-value.ensures ∙ is in
    let front = c.split_at.ensures.front ∙ front_of value tail c.args.pair.now (length value) refl whole in
    let clash : true ≡ false =
    sym (same_itself value) ∙ ap (λ (v : List ℕ). same_bytes v value) (sym front) ∙ sym c.is_same.ensures
    ∙ c.if-not-is_same.true in
    absurd {0} cc

pub returns-clause-yes : goal.returns-clause-yes
returns-clause-yes c = λ is.
    let value : List ℕ = c.alternate_value-value.result.now in
    let tail : List ℕ = big_bytes 8 (slice_index_or c.args.row.now.arrivals.items c.args.key 0) in
    let front : take (length value) c.args.pair.now ≡ value =
    sym c.split_at.ensures.front ∙ bytes_same _ value (sym c.is_same.ensures ∙ c.if-not-is_same.false) in
    let number : c.to_be_bytes.result ≡ tail = c.to_be_bytes.ensures ∙ ap (big_bytes 8) c.arrival_of.ensures in
    let behind : drop (length value) c.args.pair.now ≡ tail =
    sym c.split_at.ensures.back ∙ sym (bytes_same c.to_be_bytes.result _ (sym c.is_same-2.ensures ∙ is)) ∙ number in
    sym (ap (λ (v : List ℕ). v ++ tail) c.alternate_value-value.ensures)
    ∙ joined value tail c.args.pair.now (length value) refl front behind
