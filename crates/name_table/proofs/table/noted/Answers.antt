use Rattle.std.proofs.Common.{ℕ, List, Some, bytes_eq, if◌then◌else◌, ap, sym, ◌∙◌}
use Rattle.std.proofs.lemmas.Cmp.{nat_list_eq_equiv}
use Rattle.std.specs.Borrow.{Bor}
use Rattle.std.specs.Option.{option_copied}
use Rattle.indexmap.specs.IndexMap.{get_by}
use Rattle.name_table.specs.Positions.{has_characters}
use Rattle.name_table.proofs.table.noted.Goals as goal

pub returns-clause-last : goal.returns-clause-last
returns-clause-last c = λ characters.
    let q : Bor (List ℕ) = record { ref_ptr = (0, 0); now = characters } in
    let old = get_by (λ (k : Bor (List ℕ)). bytes_eq characters k.now) c.args.last.now in
    c.in_ok-insert.ensures.updates.0 q
    ∙ ap (λ b. if b then Some c.args.number else old) (nat_list_eq_equiv.symm c.as_slice.result.now characters
    ∙ ap (bytes_eq characters) c.as_slice.ensures)
    ∙ ap (λ n. if has_characters characters (option_copied n) then Some c.args.number else old) (sym c.in-Some.is)
