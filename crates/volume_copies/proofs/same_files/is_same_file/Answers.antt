use Rattle.std.proofs.Common.{⊎_elim, rules, arith, subst, ℕ}
use Rattle.std.proofs.lemmas.Bool.{cases_lt}
use Rattle.records.specs.declared.key.KeyOfReference.TheVariants.{Alternate}
use Rattle.records.specs.Stores.{spec_of}
use Rattle.file_bytes.specs.Stored.{rows_of}
use Rattle.volume_copies.specs.Same.{IsSameOrder}
use Rattle.volume_copies.proofs.same_files.is_same_file.Goals as goal

pub loop-key-preserved : goal.loop-key-preserved
loop-key-preserved c = λ i less. ⊎_elim (λ before. c.loop-key.invariant i before)
    (λ past. subst (λ (n : ℕ). IsSameOrder (spec_of c.args.one.now.spec) (Alternate n)
    (rows_of c.args.one.now.rows.items) (rows_of c.args.two.now.rows.items))
    (omega (arith, past, less)) (c.in_ok-is_same_order.ensures (search rules)))
    (cases_lt i c.loop-key.key)
