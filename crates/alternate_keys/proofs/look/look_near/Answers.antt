use Rattle.std.proofs.Common.{◌≡◌, IfOk, sym, subst}
use Rattle.btree.specs.Entries.{entries_of}
use Rattle.btree.specs.Places.{if_found}
use Rattle.alternate_keys.specs.declared.search_start.SearchStart.{SearchStart}
use Rattle.alternate_keys.specs.Aims.{found_entry}
use Rattle.alternate_keys.proofs.look.look_near.Goals as goal

pub returns-in-From-clause-damaged : goal.returns-in-From-clause-damaged
returns-in-From-clause-damaged g c = λ honest agrees told. c.find_from.ensures.damaged honest agrees told.0

pub returns-in-From-clause-entry : goal.returns-in-From-clause-entry
returns-in-From-clause-entry g c = λ honest agrees levels holds near.
    subst (λ (aim : SearchStart). IfOk c.find_from.result (λ found. if_found found c.find_from.new.entry
    ≡ found_entry aim (entries_of c.args.tree.now.layout levels) c.args.key.now)) (sym c.in-From.is)
    (c.find_from.ensures.entry honest agrees levels holds)

pub returns-in-After-clause-entry : goal.returns-in-After-clause-entry
returns-in-After-clause-entry g c = λ honest agrees levels holds near.
    subst (λ (aim : SearchStart). IfOk c.next_near.result (λ found. if_found found c.next_near.new.entry
    ≡ found_entry aim (entries_of c.args.tree.now.layout levels) c.args.key.now)) (sym c.in-After.is)
    (c.next_near.ensures.entry honest agrees levels holds near)
