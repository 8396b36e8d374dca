use Rattle.std.proofs.Common.{◌≡◌, ◌<◌, ◌-◌, length, drop, get_or, sym, subst, arith}
use Rattle.std.specs.List.Sorted.{IsStrictlySortedBy}
use Rattle.std.proofs.lemmas.List.{get_or_read}
use Rattle.records.specs.Files.{IsRow}
use Rattle.records.specs.Rows.{Row, pair_cmp, prime_pair}
use Rattle.records.specs.Stores.{spec_of}
use Rattle.records.proofs.Ascending.{pair_total}
use Rattle.file_bytes.specs.Stored.{row_of}
use Rattle.file_bytes.specs.declared.stored.StoredRow.{StoredRow}
use Rattle.half_store.proofs.Checked.{all_more, all_none, all_there, sorted_none, sorted_more, sorted_there}
use Rattle.half_store.proofs.Checked.{map_twice}
use Rattle.half_store.proofs.checking.are_rows.Goals as goal

pub loop-back-init : goal.loop-back-init
loop-back-init c =
    let rows = c.args.rows.now in
    let o = c.args.spec.now.organization in
    record {
      rows = all_none row_of (IsRow (spec_of c.args.spec.now) c.args.next) rows (length rows - 0) (omega arith);
      ascend = subst (IsStrictlySortedBy pair_cmp) (sym (map_twice row_of (prime_pair o) (drop (length rows - 0) rows)))
          (sorted_none pair_cmp pair_total (λ (r : StoredRow). prime_pair o (row_of r)) rows (length rows - 0)
          (omega arith));
    }

pub returns-then-not-is_row-clause-no : goal.returns-then-not-is_row-clause-no
returns-then-not-is_row-clause-no c = λ is all ascend.
    let rows = c.args.rows.now in
    let place = length rows - 1 - c.loop-back.back in
    let row = c.index-rows-place.result in
    let lt : place < length rows = omega (arith, c.loop-back-test.true) in
    let here : get_or rows place row ≡ row = sym (get_or_read rows place row lt c.index-rows-place.is row) in
    let P : Row → Type 0 = IsRow (spec_of c.args.spec.now) c.args.next in
    c.is_row.ensures.no c.if-not-is_row.true
    (subst (λ (r : StoredRow). P (row_of r)) here (all_there row_of P rows place row lt all))

pub returns-then-not-is_before_next-clause-no : goal.returns-then-not-is_before_next-clause-no
returns-then-not-is_before_next-clause-no c = λ is all ascend.
    let rows = c.args.rows.now in
    let o = c.args.spec.now.organization in
    let place = length rows - 1 - c.loop-back.back in
    let row = c.index-rows-place.result in
    let never = c.is_before_next.ensures.no c.if-not-is_before_next.true row in
    never.1 (sorted_there pair_cmp pair_total (λ (r : StoredRow). prime_pair o (row_of r)) rows place row never.0
    (subst (IsStrictlySortedBy pair_cmp) (map_twice row_of (prime_pair o) rows) ascend))

pub loop-back-preserved : goal.loop-back-preserved
loop-back-preserved c =
    let rows = c.args.rows.now in
    let back = c.loop-back.back in
    let row = c.index-rows-place.result in
    let here = sym c.index-rows-place.is in
    record {
      rows = all_more row_of rows back c.loop-back-test.true row here (IsRow (spec_of c.args.spec.now) c.args.next)
          (c.is_row.ensures.yes c.if-not-is_row.false) c.loop-back.invariant.rows;
      ascend = sorted_more row_of rows back c.loop-back-test.true row here pair_cmp pair_total
          (prime_pair c.args.spec.now.organization) (c.is_before_next.ensures.yes c.if-not-is_before_next.false row)
          c.loop-back.invariant.ascend;
    }
