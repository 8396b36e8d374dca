use Rattle.std.proofs.Common.{List, sym, ap, ◌∙◌}
use Rattle.std.specs.Prelude.{Option, slice_get}
use Rattle.lexical.specs.declared.place.Place.{Place}
use Rattle.source_tree.specs.declared.program.Section.{Section}
use Rattle.source_tree.specs.LookUp.{first}
use Rattle.source_tree.specs.StatementCount.{most_statements, each_place, section_places, excess_rules}
use Rattle.check_rules.specs.declared.statement_count.Room.{Room}
use Rattle.check_rules.proofs.Counted.{excess_is}
use Rattle.check_rules.proofs.statement_count.statement_count_rules.Goals as goal

pub returns-in-None : goal.returns-in-None
returns-in-None c = ap excess_rules (
    ap (λ (l : List Section). slice_get (each_place section_places l) most_statements) (sym c.as_slice.ensures)
    ∙ sym (excess_is most_statements (each_place section_places c.as_slice.result.now))
    ∙ ap (λ (r : Room). r.excess) (sym c.after_sections.ensures)
    ∙ c.in-None.is)

pub returns-in-Some : goal.returns-in-Some
returns-in-Some c = ap (λ (o : Option Place). first (excess_rules o)) (
    ap (λ (l : List Section). slice_get (each_place section_places l) most_statements) (sym c.as_slice.ensures)
    ∙ sym (excess_is most_statements (each_place section_places c.as_slice.result.now))
    ∙ ap (λ (r : Room). r.excess) (sym c.after_sections.ensures)
    ∙ c.in-Some.is)
