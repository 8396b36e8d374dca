use Rattle.std.proofs.Common.{length, ap, arith}
use Rattle.data_machine.specs.Held.{StackView}
use Rattle.code_image.specs.Points.{Return}
use Rattle.machine.proofs.Placed.{on_ok}
use Rattle.machine.proofs.Ending.{acts_over, files_go_over, serves_on}
use Rattle.machine.proofs.Leads.{only_action_or_file}
use Rattle.machine.proofs.Ways.{action_nearer}
use Rattle.machine.proofs.acting.advance.Goals as goal

-- ---- an action

pub returns-in-Count-clause-nearer : goal.returns-in-Count-clause-nearer
returns-in-Count-clause-nearer g c =
    action_nearer c.args.code.now c.args.address c.args.one.now c.requires.here c.requires.kind
    (length c.args.registers.now.returns.newest_first) (length c.act.new.registers.returns.newest_first)
    (ap (λ (h : StackView Return). length h.newest_first) c.act.ensures.returns)

pub returns-in-Count-clause-serves : goal.returns-in-Count-clause-serves
returns-in-Count-clause-serves g c = on_ok c.act.result _ (serves_on c.act.ensures.sectors c.requires.serves)

pub returns-in-Count-clause-fileless : goal.returns-in-Count-clause-fileless
returns-in-Count-clause-fileless g c = λ none. c.act.ensures.own

pub returns-in-Count-clause-on : goal.returns-in-Count-clause-on
returns-in-Count-clause-on g c = λ run before past left so_far.
    acts_over so_far (g.met.F.FileVerbs.held c.args.verbs.now) c.act.result c.act.new.registers c.act.new.station
    c.act.ensures.honest c.act.ensures.moments c.act.ensures.on

-- ---- a file statement

pub returns-in-File-clause-nearer : goal.returns-in-File-clause-nearer
returns-in-File-clause-nearer g c =
    action_nearer c.args.code.now c.args.address c.args.one.now c.requires.here c.requires.kind
    (length c.args.registers.now.returns.newest_first) (length c.file_statement.new.registers.returns.newest_first)
    (ap (λ (h : StackView Return). length h.newest_first) c.file_statement.ensures.returns)

pub returns-in-File-clause-fileless : goal.returns-in-File-clause-fileless
returns-in-File-clause-fileless g c = λ none.
    absurd (omega (arith, c.file_statement.ensures.file, ap length none))

pub returns-in-File-clause-on : goal.returns-in-File-clause-on
returns-in-File-clause-on g c = λ run before past left so_far.
    files_go_over so_far c.file_statement.new.station
    (c.file_statement.ensures.moments c.args.day.now run before left so_far.files so_far.there so_far.running)
    c.file_statement.result c.file_statement.new.registers c.file_statement.new.verbs c.file_statement.ensures.refused
    (c.file_statement.ensures.on c.args.day.now run before left so_far.files so_far.there so_far.running)
    (c.file_statement.ensures.over c.args.day.now run before left so_far.files so_far.there so_far.running)

-- ---- nothing else

pub unreachable-requires : goal.unreachable-requires
unreachable-requires g c =
    only_action_or_file c.args.one.now c.requires.kind c.in_default.not-Count c.in_default.not-CountNumber
    c.in_default.not-Show c.in_default.not-Accept c.in_default.not-Date c.in_default.not-File
