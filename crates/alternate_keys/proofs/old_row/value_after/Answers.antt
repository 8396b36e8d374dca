use Rattle.std.proofs.Common.{◌≡◌, ◌<◌, ◌++◌, ℕ, List, length, take, [], ◌∷◌, refl, sym, ap, ◌∙◌, arith}
use Rattle.std.specs.List.{flat_map}
use Rattle.std.proofs.lemmas.List.{append-nil}
use Rattle.byteorder.specs.Endian.{big_bytes}
use Rattle.records.specs.declared.file_spec.AlternateKey.{AlternateKey}
use Rattle.records.specs.Changes.{arrivals_after}
use Rattle.records.specs.Stores.{spec_of}
use Rattle.alternate_keys.proofs.RowValues.{arrival_given, arrivals_then, long_next, numbers_next}
use Rattle.alternate_keys.proofs.Walks.{all_taken}
use Rattle.alternate_keys.proofs.old_row.value_after.Goals as goal
use Rattle.alternate_keys.proofs.old_row.value_after.Goals.{After-extend_from_slice}

none_taken : (numbers : List ℕ) → flat_map (big_bytes 8) (take 0 numbers) ≡ []
none_taken [] = refl
none_taken (a ∷ numbers) = refl

pub loop-key-init : goal.loop-key-init
loop-key-init c = record {
  items = λ row is same.
      c.in_ok-out.ensures.bytes ∙ sym (append-nil c.args.bytes.now)
      ∙ ap (λ (l : List ℕ). c.args.bytes.now ++ l) (sym (none_taken
      (arrivals_after row.bytes c.args.bytes.now c.args.arrival c.args.file.now.alternates.items row.arrivals)));
  long = let own = ap (λ (l : List ℕ). length l) c.in_ok-out.ensures.bytes in omega (arith, own, c.requires.bytes);
}

-- the key is one of the file's
low : (c : After-extend_from_slice) → c.loop-key.key < length c.args.file.now.alternates.items
low c = omega (arith, c.len-count.ensures, c.args.file.now.alternates.ok, c.loop-key-test.true)

pub loop-key-preserved : goal.loop-key-preserved
loop-key-preserved c =
    let at = (goal.at.loop-key-preserved c).After-extend_from_slice in
    record {
      items = λ row is same.
          let keys = c.args.file.now.alternates.items in
          let all = arrivals_then row.bytes c.args.bytes.now c.args.arrival keys row.arrivals is.count in
          numbers_next c.args.bytes.now c.loop-key.out.items c.extend_from_slice.new.self.items _ c.loop-key.key _
          (omega (arith, all, low at)) (arrival_given (spec_of c.args.file.now) row is c.args.old.now c.args.bytes.now
          c.args.arrival c.loop-key.key _ same (low at) c.arrival_after-given.ensures)
          (c.loop-key.invariant.items row is same) (c.in_ok-extend_from_slice.ensures.items
          ∙ ap (λ (l : List ℕ). c.loop-key.out.items ++ l) c.to_be_bytes.ensures);
      long = long_next c.loop-key.out.items c.to_be_bytes.result c.extend_from_slice.new.self.items _ c.loop-key.key _
          c.loop-key.invariant.long c.to_be_bytes.ensures c.in_ok-extend_from_slice.ensures.items;
    }

pub returns-clause-value : goal.returns-clause-value
returns-clause-value c = λ row is same.
    let keys : List AlternateKey = c.args.file.now.alternates.items in
    let bytes : List ℕ = c.args.bytes.now in
    let after : List ℕ = arrivals_after row.bytes bytes c.args.arrival keys row.arrivals in
    let count = arrivals_then row.bytes bytes c.args.arrival keys row.arrivals is.count in
    let all : take c.loop-key.key after ≡ after = all_taken after c.loop-key.key (omega (
      arith,
      c.len-count.ensures,
      c.args.file.now.alternates.ok,
      c.loop-key-test.false,
      c.loop-key.auto.key-end,
      count,
    )) in
    c.loop-key.invariant.items row is same ∙ ap (λ (l : List ℕ). bytes ++ flat_map (big_bytes 8) l) all

pub returns-clause-long : goal.returns-clause-long
returns-clause-long c =
    let long = c.loop-key.invariant.long in
    omega
    (arith, long, c.len-count.ensures, c.args.file.now.alternates.ok, c.loop-key-test.false, c.loop-key.auto.key-end)
