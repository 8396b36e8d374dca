use Rattle.std.proofs.Common.{◌++◌, List, ℕ, take, append_assoc, take_all, sym, ap, ◌∙◌, arith}
use Rattle.std.specs.Prelude.{map}
use Rattle.std.specs.List.{flat_map}
use Rattle.std.proofs.lemmas.List.{append-nil}
use Rattle.byteorder.specs.Endian.{big_bytes}
use Rattle.records.specs.declared.file_spec.AlternateKey.{AlternateKey}
use Rattle.alternate_keys.proofs.Arrivals.{arrivals_more}
use Rattle.alternate_keys.proofs.row_bytes.push_arrivals.Goals as goal

pub loop-key-preserved : goal.loop-key-preserved
loop-key-preserved c =
    let out : List ℕ = c.args.out.now.items in
    let keys : List AlternateKey = c.args.keys.now in
    let arrival : ℕ = c.args.arrival in
    let done : List ℕ =
    flat_map (big_bytes 8) (map (λ (key : AlternateKey). arrival) (take c.loop-key.key-index keys)) in
    c.in_ok-extend_from_slice.ensures.items
    ∙ ap (λ (l : List ℕ). c.loop-key.out.items ++ l) c.to_be_bytes.ensures
    ∙ ap (λ (l : List ℕ). l ++ big_bytes 8 arrival) c.loop-key.invariant
    ∙ append_assoc out done (big_bytes 8 arrival)
    ∙ ap (λ (l : List ℕ). out ++ l) (sym (arrivals_more keys c.loop-key.key-index arrival
    (omega (arith, c.loop-key-test.true, c.loop-key.auto.key-index-end))))

pub loop-key-init : goal.loop-key-init
loop-key-init c = sym (append-nil c.args.out.now.items)

pub returns-clause-bytes : goal.returns-clause-bytes
returns-clause-bytes c =
    let keys : List AlternateKey = c.args.keys.now in
    c.loop-key.invariant ∙ ap (λ (l : List AlternateKey). c.args.out.now.items
    ++ flat_map (big_bytes 8) (map (λ (key : AlternateKey). c.args.arrival) l))
    (take_all c.loop-key.key-index keys (omega (arith, c.loop-key-test.false, c.loop-key.auto.key-index-end)))
