use Rattle.std.proofs.Common.{refl}
use Rattle.std.specs.Prelude.{IfErr}
use Rattle.records.specs.declared.fault.StoreFault.TheVariants.{Memory}
use Rattle.half_store.specs.Changing.{IsMemoryCause}
use Rattle.half_store.proofs.Passed.{passed, memory_change}
use Rattle.half_store.proofs.Replaced.{memory_becomes}
use Rattle.half_store.proofs.inserting.insert_row.Goals as goal

pub returns-in_err-row-clause-becomes : goal.returns-in_err-row-clause-becomes
returns-in_err-row-clause-becomes c = memory_becomes c.from_residual.result c.in_err-row.field-0.0
    c.from_residual.ensures.1 c.in_err-row.ensures.memory

pub returns-in_err-insert-clause-becomes : goal.returns-in_err-insert-clause-becomes
returns-in_err-insert-clause-becomes c = memory_becomes c.from_residual-in_err-insert.result Memory
    c.from_residual-in_err-insert.ensures.1 refl

pub returns-in_err-row-clause-cause : goal.returns-in_err-row-clause-cause
returns-in_err-row-clause-cause c = passed c.from_residual.result c.in_err-row.field-0.0 c.from_residual.ensures.1
    (λ r. IfErr r IsMemoryCause) (memory_change _ c.in_err-row.ensures.memory)

pub returns-in_err-insert-clause-cause : goal.returns-in_err-insert-clause-cause
returns-in_err-insert-clause-cause c = passed c.from_residual-in_err-insert.result Memory
    c.from_residual-in_err-insert.ensures.1 (λ r. IfErr r IsMemoryCause) (memory_change _ refl)
