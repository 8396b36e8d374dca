use Rattle.std.proofs.Common.{◌∙◌}
use Rattle.name_table.specs.declared.table.Declared.{Declared}
use Rattle.name_table.specs.declared.table.NameTable.{NameTable}
use Rattle.name_table.proofs.Grown.{grown}
use Rattle.name_table.proofs.table.NameTable.add.Goals as goal

pub returns-clause-table : goal.returns-clause-table
returns-clause-table c =
    let new : NameTable =
    record { declared = c.push-2.new.self; last = c.noted.new.last; before = c.push.new.self } in
    let one : Declared = record { name = c.args.name; around = c.args.around } in
    grown c.args.self.now new c.requires one c.in_ok-former.former c.len-number.result c.in_ok-push-2.ensures.items
    c.in_ok-push.ensures.items
    (c.len-number.ensures ∙ c.args.self.now.declared.ok.0) c.in_ok-former.ensures.before c.in_ok-former.ensures.last
