use Rattle.std.proofs.Common.{rules, FitsSigned, Some, sym, ◌∙◌, ap}
use Rattle.std.specs.Int.{w64}
use Rattle.std.proofs.lemmas.Int.{to_z-of_z}
use Rattle.source_tree.specs.Computed.{operate}
use Rattle.data_instructions.specs.Tables.{item_place}
use Rattle.data_instructions.specs.Scratch.{Scratch, Continues}
use Rattle.data_machine.specs.Data.{scratch_of}
use Rattle.data_machine.proofs.ShortNumbers.{kept_digits, stored_as}
use Rattle.data_machine.proofs.data.Data.store_result_at.Goals as goal

pub store_short-requires-clause-digits : goal.store_short-requires-clause-digits
store_short-requires-clause-digits c =
    let fits : FitsSigned w64 c.in-Some.coefficient = search rules in
    simp to_z-of_z (kept_digits (item_place c.args.one.now c.args.offset) c.args.storing.rounded c.args.storing.keep
    (operate c.args.operator (Some c.args.left) (Some c.args.right)) c.in-Some.coefficient c.in-Some.ensures)

pub returns-in-Some-clause-does : goal.returns-in-Some-clause-does
returns-in-Some-clause-does c =
    let s : Scratch = scratch_of c.args.self.now in
    let fits : FitsSigned w64 c.in-Some.coefficient = search rules in
    let stores = simp to_z-of_z at c.store_short.ensures.stores in
    stored_as (item_place c.args.one.now c.args.offset) c.args.storing.rounded c.args.storing.keep
    (operate c.args.operator (Some c.args.left) (Some c.args.right)) c.in-Some.coefficient c.in-Some.ensures s
    ∙ ap (λ storage. Continues (record s { storage = storage })) (sym stores)
