use Rattle.std.proofs.Common.{◌≡◌, ◌<◌, ◌≤◌, ◌-◌, ℕ, List, length, drop, get_or, sym, subst, arith}
use Rattle.std.specs.List.Sorted.{IsStrictlySortedBy}
use Rattle.std.proofs.lemmas.List.{get_or_read}
use Rattle.std.proofs.lemmas.Cmp.{nat_list_cmp_total}
use Rattle.records.specs.Files.{NamedFile, IsNamed}
use Rattle.records.specs.Rows.{bytes_cmp}
use Rattle.file_bytes.specs.Stored.{named_of}
use Rattle.file_bytes.specs.declared.stored.StoredFile.{StoredFile}
use Rattle.half_store.proofs.Checked.{all_more, all_none, all_there, sorted_none, sorted_more, sorted_there}
use Rattle.half_store.proofs.Checked.{map_twice}
use Rattle.half_store.proofs.checking.are_files.Goals as goal

abbrev name_of : NamedFile → List ℕ
name_of one = one.name

pub loop-back-init : goal.loop-back-init
loop-back-init c =
    let files = c.args.files.now in
    record {
      each = all_none named_of IsNamed files (length files - 0) (omega arith);
      early = all_none named_of (λ (one : NamedFile). one.file.next_arrival ≤ c.args.generation) files
          (length files - 0) (omega arith);
      ascend = subst (IsStrictlySortedBy bytes_cmp) (sym (map_twice named_of name_of (drop (length files - 0) files)))
          (sorted_none bytes_cmp nat_list_cmp_total (λ (f : StoredFile). f.spec.name.items) files (length files - 0)
          (omega arith));
    }

pub returns-then-not-is_file-clause-no : goal.returns-then-not-is_file-clause-no
returns-then-not-is_file-clause-no c = λ is are early.
    let files = c.args.files.now in
    let place = length files - 1 - c.loop-back.back in
    let file = c.index-files-place.result in
    let lt : place < length files = omega (arith, c.loop-back-test.true) in
    let here : get_or files place file ≡ file = sym (get_or_read files place file lt c.index-files-place.is file) in
    c.is_file.ensures.no c.if-not-is_file.true (subst (λ (f : StoredFile). IsNamed (named_of f)) here
    (all_there named_of IsNamed files place file lt are.each)).file
    (subst (λ (f : StoredFile). f.next_arrival ≤ c.args.generation) here
    (all_there named_of (λ (one : NamedFile). one.file.next_arrival ≤ c.args.generation) files place file lt early))

pub returns-then-not-is_named_before_next-clause-no : goal.returns-then-not-is_named_before_next-clause-no
returns-then-not-is_named_before_next-clause-no c = λ is are early.
    let files = c.args.files.now in
    let place = length files - 1 - c.loop-back.back in
    let file = c.index-files-place.result in
    let never = c.is_named_before_next.ensures.no c.if-not-is_named_before_next.true file in
    never.1 (sorted_there bytes_cmp nat_list_cmp_total (λ (f : StoredFile). f.spec.name.items) files place file never.0
    (subst (IsStrictlySortedBy bytes_cmp) (map_twice named_of name_of files) are.ascend))

pub loop-back-preserved : goal.loop-back-preserved
loop-back-preserved c =
    let files = c.args.files.now in
    let back = c.loop-back.back in
    let file = c.index-files-place.result in
    let here = sym c.index-files-place.is in
    let yes = c.is_file.ensures.yes c.if-not-is_file.false in
    record {
      each = all_more named_of files back c.loop-back-test.true file here IsNamed
          (record { name = file.spec.named; file = yes.0 }) c.loop-back.invariant.each;
      early = all_more named_of files back c.loop-back-test.true file here
          (λ (one : NamedFile). one.file.next_arrival ≤ c.args.generation) yes.1 c.loop-back.invariant.early;
      ascend = sorted_more named_of files back c.loop-back-test.true file here bytes_cmp nat_list_cmp_total name_of
          (c.is_named_before_next.ensures.yes c.if-not-is_named_before_next.false file) c.loop-back.invariant.ascend;
    }
