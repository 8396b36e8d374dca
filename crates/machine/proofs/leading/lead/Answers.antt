use Rattle.std.proofs.Common.{◌≡◌, ◌<◌, ◌+◌, ◌-◌, ℕ, List, length, refl, sym, ap, subst, ◌∙◌, arith, Some, inl, inr}
use Rattle.std.specs.Prelude.{slice_index}
use Rattle.std.specs.Vec.{with_items}
use Rattle.code_image.specs.declared.instruction.Instruction.TheVariants.{Branch, Jump, Join, Turn, Back, TestStatus}
use Rattle.code_image.specs.Points.{Return}
use Rattle.code_image.proofs.WellFormed.{well_formed}
use Rattle.data_machine.specs.Held.{StackView}
use Rattle.machine.specs.declared.registers.Registers.{Registers}
use Rattle.machine.specs.Standing.{IsReadyAt}
use Rattle.machine.specs.Progress.{IsRunning}
use Rattle.machine.specs.Ahead.{ahead}
use Rattle.machine.proofs.Counters.{lowered_now, same_now}
use Rattle.machine.proofs.Moments.{either_way}
use Rattle.machine.proofs.Leads.{turned_from, branched_from, jumped_from, joined_from, ended_from, performed_next}
use Rattle.machine.proofs.Steps.{at_stop, after_turn, after_last_turn, after_branch, after_jump, after_join, after_back}
use Rattle.machine.proofs.Steps.{after_end, after_test, at_unheard}
use Rattle.machine.proofs.Standing.{stands_behind_stored, stands_back, stands_after_turn, stands_after_branch}
use Rattle.machine.proofs.Standing.{stands_after_jump, stands_after_join, behind_perform, stands_back_behind, stands_on}
use Rattle.machine.proofs.Ways.{less_ahead, worked_nearer, way_ahead, way_within}
use Rattle.machine.proofs.leading.lead.Goals as goal

-- ---- data

pub returns-in-Data-clause-nearer : goal.returns-in-Data-clause-nearer
returns-in-Data-clause-nearer c =
    worked_nearer c.args.code.now c.args.address c.in-Data.one (c.requires.here ∙ ap Some c.in-Data.is)
    (length c.args.registers.now.returns.newest_first) (length c.work_alone.new.registers.returns.newest_first)
    (ap (λ (h : StackView Return). length h.newest_first) c.work_alone.ensures.returns) c.work_alone.result
    c.work_alone.ensures.later

-- ---- a branch

pub returns-in-Branch-clause-nearer : goal.returns-in-Branch-clause-nearer
returns-in-Branch-clause-nearer c =
    let code = c.args.code.now in
    let here = c.requires.here ∙ ap Some c.in-Branch.is in
    let is = branched_from code c.requires.verified c.args.address c.in-Branch.to here in
    let next : ℕ → Type 0 = λ n. ahead code n < ahead code c.args.address in
    let on =
    less_ahead code c.args.address (Branch c.in-Branch.to) here (λ left. refl) (c.args.address + 1) (omega arith) in
    let way = way_ahead code c.args.address (Branch c.in-Branch.to) here (λ left. refl) c.in-Branch.to is.1 in
    inr (
      refl,
      subst next (sym c.branch-registers.ensures)
          (either_way next c.args.registers.now.scratch.truth (c.args.address + 1) c.in-Branch.to on way),
    )

pub returns-in-Branch-clause-within : goal.returns-in-Branch-clause-within
returns-in-Branch-clause-within c =
    let code = c.args.code.now in
    let is =
    branched_from code c.requires.verified c.args.address c.in-Branch.to (c.requires.here ∙ ap Some c.in-Branch.is) in
    let next : ℕ → Type 0 = λ n. n < length code.instructions in
    subst next (sym c.branch-registers.ensures)
    (either_way next c.args.registers.now.scratch.truth (c.args.address + 1) c.in-Branch.to is.0
    (way_within code c.args.address c.in-Branch.to is.1))

pub returns-in-Branch-clause-stands : goal.returns-in-Branch-clause-stands
returns-in-Branch-clause-stands c =
    let code = c.args.code.now in
    let r = c.args.registers.now in
    let here = c.requires.here ∙ ap Some c.in-Branch.is in
    let is = branched_from code c.requires.verified c.args.address c.in-Branch.to here in
    subst (IsReadyAt code r) (sym c.branch-registers.ensures)
    (stands_after_branch code r c.args.address c.requires.stands c.requires.verified c.in-Branch.to here is.1
    r.scratch.truth)

pub returns-in-Branch-clause-on : goal.returns-in-Branch-clause-on
returns-in-Branch-clause-on c = λ day run before files connectors left now so_far.
    let code = c.args.code.now in
    let r = c.args.registers.now in
    subst (λ n. IsRunning code day run before files connectors n left r now) (sym c.branch-registers.ensures)
    (after_branch code day run before files connectors c.args.address left r now so_far c.in-Branch.to
    (c.requires.here ∙ ap Some c.in-Branch.is))

-- ---- the end of a code paragraph

pub returns-in-Some-clause-nearer : goal.returns-in-Some-clause-nearer
returns-in-Some-clause-nearer c = inl (ap length c.in-Some.ensures.comes)

pub returns-in-Some-clause-within : goal.returns-in-Some-clause-within
returns-in-Some-clause-within c =
    let code = c.args.code.now in
    let r = c.args.registers.now in
    let new : Registers = record r { returns = c.come_back.new.self } in
    performed_next code c.requires.verified c.in-Some.next
    (behind_perform code r c.args.address c.requires.stands c.requires.verified c.in-Back.paragraph
    (c.requires.here ∙ ap Some c.in-Back.is) new
    c.in-Some.next c.in-Some.ensures.comes)

pub returns-in-Some-clause-stands : goal.returns-in-Some-clause-stands
returns-in-Some-clause-stands c =
    let code = c.args.code.now in
    let r = c.args.registers.now in
    let new : Registers = record r { returns = c.come_back.new.self } in
    stands_back_behind code r c.args.address c.requires.stands c.requires.verified c.in-Back.paragraph
    (c.requires.here ∙ ap Some c.in-Back.is) new
    c.in-Some.next c.in-Some.ensures.comes c.come_back.ensures.room refl refl refl

pub returns-in-Some-clause-on : goal.returns-in-Some-clause-on
returns-in-Some-clause-on c = λ day run before files connectors left now so_far.
    let r = c.args.registers.now in
    let new : Registers = record r { returns = c.come_back.new.self } in
    after_back c.args.code.now day run before files connectors c.args.address left r now so_far
    c.in-Back.paragraph c.in-Some.next new (c.requires.here ∙ ap Some c.in-Back.is) c.in-Some.ensures.comes refl refl
    refl refl

pub returns-in-None-clause-nearer : goal.returns-in-None-clause-nearer
returns-in-None-clause-nearer c =
    inr (
      ap length c.in-None.ensures.comes.0,
      less_ahead c.args.code.now c.args.address (Back c.in-Back.paragraph) (c.requires.here ∙ ap Some c.in-Back.is)
          (λ left. refl) (c.args.address + 1) (omega arith),
    )

pub returns-in-None-clause-within : goal.returns-in-None-clause-within
returns-in-None-clause-within c =
    (ended_from c.args.code.now c.requires.verified c.args.address c.in-Back.paragraph
    (c.requires.here ∙ ap Some c.in-Back.is)).next

pub returns-in-None-clause-stands : goal.returns-in-None-clause-stands
returns-in-None-clause-stands c =
    let code = c.args.code.now in
    let r = c.args.registers.now in
    let new : Registers = record r { returns = c.come_back.new.self } in
    let here = c.requires.here ∙ ap Some c.in-Back.is in
    let is = ended_from code c.requires.verified c.args.address c.in-Back.paragraph here in
    let comes = c.in-None.ensures.comes in
    stands_on code r c.args.address c.requires.stands c.requires.verified c.in-Back.paragraph here new is.in_it
    comes.1 comes.0 c.come_back.ensures.room refl refl refl

pub returns-in-None-clause-on : goal.returns-in-None-clause-on
returns-in-None-clause-on c = λ day run before files connectors left now so_far.
    let r = c.args.registers.now in
    let new : Registers = record r { returns = c.come_back.new.self } in
    let comes = c.in-None.ensures.comes in
    after_end c.args.code.now day run before files connectors c.args.address left r now so_far
    c.in-Back.paragraph new (c.requires.here ∙ ap Some c.in-Back.is) comes.1 comes.0 refl refl refl refl

-- ---- a jump

pub returns-in-Jump-clause-nearer : goal.returns-in-Jump-clause-nearer
returns-in-Jump-clause-nearer c =
    let code = c.args.code.now in
    let here = c.requires.here ∙ ap Some c.in-Jump.is in
    inr (
      refl,
      way_ahead code c.args.address (Jump c.in-Jump.to) here (λ left. refl) c.in-Jump.to
          (jumped_from code c.requires.verified c.args.address c.in-Jump.to here),
    )

pub returns-in-Jump-clause-within : goal.returns-in-Jump-clause-within
returns-in-Jump-clause-within c =
    let code = c.args.code.now in
    way_within code c.args.address c.in-Jump.to
    (jumped_from code c.requires.verified c.args.address c.in-Jump.to (c.requires.here ∙ ap Some c.in-Jump.is))

pub returns-in-Jump-clause-stands : goal.returns-in-Jump-clause-stands
returns-in-Jump-clause-stands c =
    let code = c.args.code.now in
    let here = c.requires.here ∙ ap Some c.in-Jump.is in
    stands_after_jump code c.args.registers.now c.args.address c.requires.stands c.requires.verified c.in-Jump.to here
    (jumped_from code c.requires.verified c.args.address c.in-Jump.to here)

pub returns-in-Jump-clause-on : goal.returns-in-Jump-clause-on
returns-in-Jump-clause-on c = λ day run before files connectors left now so_far.
    after_jump c.args.code.now day run before files connectors c.args.address left c.args.registers.now now so_far
    c.in-Jump.to
    (c.requires.here ∙ ap Some c.in-Jump.is)

-- ---- where ways meet

pub returns-in-Join-clause-nearer : goal.returns-in-Join-clause-nearer
returns-in-Join-clause-nearer c =
    inr (
      refl,
      less_ahead c.args.code.now c.args.address Join (c.requires.here ∙ ap Some c.in-Join.is) (λ left. refl)
          (c.args.address + 1) (omega arith),
    )

pub returns-in-Join-clause-within : goal.returns-in-Join-clause-within
returns-in-Join-clause-within c =
    joined_from c.args.code.now c.requires.verified c.args.address (c.requires.here ∙ ap Some c.in-Join.is)

pub returns-in-Join-clause-stands : goal.returns-in-Join-clause-stands
returns-in-Join-clause-stands c =
    stands_after_join c.args.code.now c.args.registers.now c.args.address c.requires.stands c.requires.verified
    (c.requires.here ∙ ap Some c.in-Join.is)

pub returns-in-Join-clause-on : goal.returns-in-Join-clause-on
returns-in-Join-clause-on c = λ day run before files connectors left now so_far.
    after_join c.args.code.now day run before files connectors c.args.address left c.args.registers.now now so_far
    (c.requires.here ∙ ap Some c.in-Join.is)

-- ---- the turns of a loop

pub turn-requires : goal.turn-requires
turn-requires c =
    let is = turned_from c.args.code.now c.requires.verified c.args.address c.in-Turn.counter c.in-Turn.to
    (c.requires.here ∙ ap Some c.in-Turn.is) in
    omega (arith, is.1, c.requires.stands.equipped.counters, ap length c.as_mut_slice.ensures.value)

pub returns-then-turn-clause-nearer : goal.returns-then-turn-clause-nearer
returns-then-turn-clause-nearer c =
    let code = c.args.code.now in
    let here = c.requires.here ∙ ap Some c.in-Turn.is in
    let is = turned_from code c.requires.verified c.args.address c.in-Turn.counter c.in-Turn.to here in
    inr (
      refl,
      way_ahead code c.args.address (Turn c.in-Turn.counter c.in-Turn.to) here (λ left. refl) c.in-Turn.to (inr is.2),
    )

pub returns-then-turn-clause-within : goal.returns-then-turn-clause-within
returns-then-turn-clause-within c =
    let code = c.args.code.now in
    let is = turned_from code c.requires.verified c.args.address c.in-Turn.counter c.in-Turn.to
    (c.requires.here ∙ ap Some c.in-Turn.is) in
    way_within code c.args.address c.in-Turn.to (inr is.2)

pub returns-then-turn-clause-stands : goal.returns-then-turn-clause-stands
returns-then-turn-clause-stands c =
    let code = c.args.code.now in
    let r = c.args.registers.now in
    let k = c.in-Turn.counter.number in
    let here = c.requires.here ∙ ap Some c.in-Turn.is in
    let is = turned_from code c.requires.verified c.args.address c.in-Turn.counter c.in-Turn.to here in
    let now = lowered_now r.counters c.as_mut_slice.result.now c.turn.new.counters k c.as_mut_slice.ensures.value
    (c.turn.ensures.lowered c.if-turn.true) in
    let new : Registers = record r { counters = with_items r.counters c.turn.new.counters } in
    stands_back code r c.args.address c.requires.stands c.requires.verified new c.in-Turn.counter c.in-Turn.to
    (slice_index r.counters.items k - 1) here (inr is.2) now refl refl refl

pub returns-then-turn-clause-on : goal.returns-then-turn-clause-on
returns-then-turn-clause-on c = λ day run before files connectors left now so_far.
    let r = c.args.registers.now in
    let k = c.in-Turn.counter.number in
    let lowered = lowered_now r.counters c.as_mut_slice.result.now c.turn.new.counters k c.as_mut_slice.ensures.value
    (c.turn.ensures.lowered c.if-turn.true) in
    let new : Registers = record r { counters = with_items r.counters c.turn.new.counters } in
    after_turn c.args.code.now day run before files connectors c.args.address left r now so_far
    c.in-Turn.counter c.in-Turn.to new (c.requires.here ∙ ap Some c.in-Turn.is)
    (subst (λ (cs : List ℕ). 0 < slice_index cs k) c.as_mut_slice.ensures.value (c.turn.ensures.back c.if-turn.true))
    lowered refl refl refl refl

pub returns-else-turn-clause-nearer : goal.returns-else-turn-clause-nearer
returns-else-turn-clause-nearer c =
    inr (
      refl,
      less_ahead c.args.code.now c.args.address (Turn c.in-Turn.counter c.in-Turn.to)
          (c.requires.here ∙ ap Some c.in-Turn.is) (λ left. refl)
          (c.args.address + 1) (omega arith),
    )

pub returns-else-turn-clause-within : goal.returns-else-turn-clause-within
returns-else-turn-clause-within c =
    (turned_from c.args.code.now c.requires.verified c.args.address c.in-Turn.counter c.in-Turn.to
    (c.requires.here ∙ ap Some c.in-Turn.is)).0

pub returns-else-turn-clause-stands : goal.returns-else-turn-clause-stands
returns-else-turn-clause-stands c =
    let r = c.args.registers.now in
    let now = same_now r.counters c.as_mut_slice.result.now c.turn.new.counters c.in-Turn.counter.number
    c.as_mut_slice.ensures.value
    (c.turn.ensures.same c.if-turn.false) in
    stands_after_turn c.args.code.now r c.args.address c.requires.stands c.requires.verified _
    c.in-Turn.counter c.in-Turn.to (c.requires.here ∙ ap Some c.in-Turn.is) now refl refl refl

pub returns-else-turn-clause-on : goal.returns-else-turn-clause-on
returns-else-turn-clause-on c = λ day run before files connectors left now so_far.
    let r = c.args.registers.now in
    let k = c.in-Turn.counter.number in
    let same = same_now r.counters c.as_mut_slice.result.now c.turn.new.counters k c.as_mut_slice.ensures.value
    (c.turn.ensures.same c.if-turn.false) in
    after_last_turn c.args.code.now day run before files connectors c.args.address left r now so_far
    c.in-Turn.counter c.in-Turn.to _ (c.requires.here ∙ ap Some c.in-Turn.is)
    (subst (λ (cs : List ℕ). slice_index cs k ≡ 0) c.as_mut_slice.ensures.value (c.turn.ensures.on c.if-turn.false))
    same refl refl refl refl

-- ---- a FILE STATUS

pub returns-in-TestStatus-clause-nearer : goal.returns-in-TestStatus-clause-nearer
returns-in-TestStatus-clause-nearer c =
    inr (
      refl,
      less_ahead c.args.code.now c.args.address (TestStatus c.in-TestStatus.class)
          (c.requires.here ∙ ap Some c.in-TestStatus.is) (λ left. refl)
          (c.args.address + 1) (omega arith),
    )

pub returns-in-TestStatus-clause-within : goal.returns-in-TestStatus-clause-within
returns-in-TestStatus-clause-within c =
    well_formed c.args.code.now c.requires.verified c.args.address (TestStatus c.in-TestStatus.class)
    (c.requires.here ∙ ap Some c.in-TestStatus.is)

pub returns-in-TestStatus-clause-stands : goal.returns-in-TestStatus-clause-stands
returns-in-TestStatus-clause-stands c =
    let code = c.args.code.now in
    let r = c.args.registers.now in
    let new : Registers = record r { scratch = record r.scratch { truth = c.class_is-registers.result } } in
    stands_behind_stored code r c.args.address c.requires.stands (TestStatus c.in-TestStatus.class)
    (c.requires.here ∙ ap Some c.in-TestStatus.is) (λ shape. refl) refl
    new r.scratch.areas c.class_is-registers.result refl refl refl refl refl

pub returns-in-TestStatus-clause-on : goal.returns-in-TestStatus-clause-on
returns-in-TestStatus-clause-on c = λ day run before files connectors left now so_far.
    let r = c.args.registers.now in
    let new : Registers = record r { scratch = record r.scratch { truth = c.class_is-registers.result } } in
    after_test c.args.code.now day run before files connectors c.args.address left r now so_far c.in-TestStatus.class
    c.class_is-registers.result new (c.requires.here ∙ ap Some c.in-TestStatus.is) c.class_is-registers.ensures refl
    refl refl refl refl

-- ---- where the run is over

pub returns-in-Stop-clause-on : goal.returns-in-Stop-clause-on
returns-in-Stop-clause-on c = λ day run before files connectors left now so_far.
    at_stop c.args.code.now day run before files connectors c.args.address left c.args.registers.now now so_far
    (c.requires.here ∙ ap Some c.in-Stop.is)

pub returns-in-Unheard-clause-on : goal.returns-in-Unheard-clause-on
returns-in-Unheard-clause-on c = λ day run before files connectors left now so_far.
    at_unheard c.args.code.now day run before files connectors c.args.address left c.args.registers.now now so_far
    (c.requires.here ∙ ap Some c.in-Unheard.is)
