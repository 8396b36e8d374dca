use Rattle.std.proofs.lemmas.Result.{on_ok_weaker}
use Rattle.check_rules.proofs.PerformedRanges.{collected, collected_ranges, as_many}
use Rattle.check_rules.proofs.Back.{ordered, refused_back}
use Rattle.check_rules.proofs.checker.Checker.recursion_rules.Goals as goal

pub order_rules-requires-clause-ranges : goal.order_rules-requires-clause-ranges
order_rules-requires-clause-ranges c =
    let program = c.args.program.now in
    let all = c.sections_performs.new.all in
    let count = c.in_ok-count.count in
    collected_ranges program c.args.self.now.declarations.now all count c.requires.program c.requires.kept
    (collected program c.args.self.now.declarations.now c.as_slice.result.now c.new-all.result all count
    c.requires.program c.as_slice.ensures
    c.new-all.ensures.places c.new-all.ensures.ranges c.in_ok-count.ensures.count c.in_ok-count.ensures.added)

pub order_rules-requires-clause-places : goal.order_rules-requires-clause-places
order_rules-requires-clause-places c =
    let program = c.args.program.now in
    let all = c.sections_performs.new.all in
    let count = c.in_ok-count.count in
    as_many program all count
    (collected program c.args.self.now.declarations.now c.as_slice.result.now c.new-all.result all count
    c.requires.program c.as_slice.ensures
    c.new-all.ensures.places c.new-all.ensures.ranges c.in_ok-count.ensures.count c.in_ok-count.ensures.added)

pub returns-clause-order : goal.returns-clause-order
returns-clause-order c =
    let program = c.args.program.now in
    let all = c.sections_performs.new.all in
    let count = c.in_ok-count.count in
    on_ok_weaker c.order_rules.result
    (ordered program all count
    (collected program c.args.self.now.declarations.now c.as_slice.result.now c.new-all.result all count
    c.requires.program c.as_slice.ensures
    c.new-all.ensures.places c.new-all.ensures.ranges c.in_ok-count.ensures.count c.in_ok-count.ensures.added))
    c.order_rules.ensures.order

pub returns-clause-back : goal.returns-clause-back
returns-clause-back c =
    let program = c.args.program.now in
    let all = c.sections_performs.new.all in
    let count = c.in_ok-count.count in
    refused_back program all count
    (collected program c.args.self.now.declarations.now c.as_slice.result.now c.new-all.result all count
    c.requires.program c.as_slice.ensures
    c.new-all.ensures.places c.new-all.ensures.ranges c.in_ok-count.ensures.count c.in_ok-count.ensures.added)
    c.order_rules.result c.order_rules.ensures.back
