use Rattle.std.proofs.Common.{◌≡◌, None, bytes_eq, rules, ap, sym, ◌∙◌, length, arith}
use Rattle.indexmap.specs.IndexMap.{get_by}
use Rattle.name_table.specs.Positions.{last_called}
use Rattle.name_table.specs.Table.{calls_of}
use Rattle.name_table.proofs.table.NameTable.new.Goals as goal

pub returns-clause-table : goal.returns-clause-table
unfolding last_called
returns-clause-table c =
    record {
      count = ap length c.new-3.ensures.items ∙ sym (ap length c.new.ensures.items);
      last = λ q. (let none : get_by (λ k. bytes_eq q k.now) c.new-2.result ≡ None = search rules in none)
          ∙ ap (λ l. last_called q (calls_of l) (length (calls_of l))) (sym c.new.ensures.items);
      before = λ n lt. let none = ap (λ l. length (calls_of l)) c.new.ensures.items in absurd (omega arith);
    }
