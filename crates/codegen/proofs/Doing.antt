-- What the machine does from an address on: that it comes to another, or that its run ends.
use Rattle.std.proofs.Common.{◌≡◌, ◌≢◌, ℕ, zero, suc, ◌+◌, ◌≤◌, ◌<◌, Bool, true, false, List, [], ◌∷◌, length, Some}
use Rattle.std.proofs.Common.{refl, sym, ap, ◌∙◌, subst, ⊎_elim, inl, inr, arith, length-append, get_or-set_other}
use Rattle.std.specs.Prelude.{◌⊎◌, slice_get, slice_index, slice_set}
use Rattle.std.proofs.Math.ListN.{length-set}
use Rattle.source_tree.specs.declared.control_statement.ControlStatement.{ControlStatement}
use Rattle.source_tree.specs.declared.control_statement.ControlStatement.TheVariants as ending
use Rattle.source_tree.specs.Broken.{RuleBreach, each}
use Rattle.source_tree.specs.State.{State, Stopped, Outcome, Done, Over, then_do, in_turn, spend_from, spend}
use Rattle.source_tree.specs.Meaning.{finish}
use Rattle.source_tree.proofs.Runs.{Within, IsRun}
use Rattle.code_image.specs.declared.code.Code.{Code}
use Rattle.code_image.specs.declared.instruction.Instruction.TheVariants.{Tick, Stop, Count, Turn, Branch, Jump, Join}
use Rattle.code_image.specs.Points.{Own}
use Rattle.code_image.specs.Table.{onward, over, tick_from, turn_from, branch_from, exec_code}
use Rattle.condition_codegen.specs.Fragments.{Fragment, empty_code, append, in_order}
use Rattle.codegen.specs.Layout.{stop_run_fragment, control_fragment}
use Rattle.codegen.specs.UntilCode.{tick_fragment}
use Rattle.condition_codegen.proofs.Fragments.{joined_assoc, joined_nothing}
use Rattle.codegen.proofs.Standing.{Stands, front, back, first_stands, second_stands}
use Rattle.codegen.proofs.Running.{at, one_step}
use Rattle.condition_codegen.proofs.Lists.{left_none, right_none}

-- the address after a code
abbrev pub end_of : Code → ℕ
end_of code = length code.instructions

-- The counters outside these addresses are kept, those on which what stands around relies. A line that was empty is
-- empty, and the same `perform`s are still to come back.
pub record Keeps (kept : ℕ → Type 0) (from to : ℕ) (old new : Own) : Type 0 where
  pub count : length new.counters ≡ length old.counters
  pub by : (k : ℕ) → kept k → (k < from) ⊎ (to ≤ k) → slice_index new.counters k ≡ slice_index old.counters k
  pub line : old.line ≡ [] → new.line ≡ []
  pub returns : new.returns ≡ old.returns

-- with this counter set
abbrev pub setting : Own → ℕ → ℕ → Own
setting cs counter n = record cs { counters = slice_set cs.counters counter n }

module _ (kept : ℕ → Type 0) where
  pub keeps_all : (from to : ℕ) (cs : Own) → Keeps kept from to cs cs
  keeps_all from to cs = record { count = refl; by = λ k is outside. refl; line = λ e. e; returns = refl }

  pub keeps_then : (from to : ℕ) (cs ds es : Own) → Keeps kept from to cs ds → Keeps kept from to ds es
      → Keeps kept from to cs es
  keeps_then from to cs ds es a b = record {
    count = b.count ∙ a.count;
    by = λ k is outside. b.by k is outside ∙ a.by k is outside;
    line = λ e. b.line (a.line e);
    returns = b.returns ∙ a.returns;
  }

  pub keeps_more : (low high from to : ℕ) (cs ds : Own) → from ≤ low → high ≤ to → Keeps kept low high cs ds
      → Keeps kept from to cs ds
  keeps_more low high from to cs ds before behind a = record {
    count = a.count;
    by = λ k is outside. a.by k is (⊎_elim (λ less. inl (omega arith)) (λ more. inr (omega arith)) outside);
    line = a.line;
    returns = a.returns;
  }

  pub keeps_set : (from to : ℕ) (cs : Own) (counter n : ℕ) → from ≤ counter → counter < to
      → Keeps kept from to cs (setting cs counter n)
  keeps_set from to cs counter n low high = record {
    count = length-set cs.counters counter n;
    by = λ k is outside.
        let other : k ≢ counter =
        (λ e. ⊎_elim (λ less. absurd (omega (arith, e))) (λ more. absurd (omega (arith, e))) outside) in
        get_or-set_other cs.counters counter k n 0 other;
    line = λ e. e;
    returns = refl;
  }

-- where all are relied on
abbrev pub any : ℕ → Type 0
any k = Unit {0}

pub keeps_of_any : (kept : ℕ → Type 0) (from to : ℕ) (cs ds : Own) → Keeps any from to cs ds → Keeps kept from to cs ds
keeps_of_any kept from to cs ds a =
    record { count = a.count; by = λ k is outside. a.by k tt outside; line = a.line; returns = a.returns }

-- the machine goes from one address, counters and state to others, and has no more of the budget
pub record Comes (whole : Code) (address : ℕ) (cs : Own) (s : State) (next : ℕ) (ds : Own) (t : State) : Type 0 where
  pub by : (k : ℕ) → (j : ℕ) × (exec_code whole j (at address cs s) ≡ exec_code whole k (at next ds t))
  pub falls : t.budget ≤ s.budget

-- The machine does what an outcome says: it comes to the address, the counters outside from..to kept, or its run ends
-- so.
abbrev pub Does : Code → (ℕ → Type 0) → ℕ → ℕ → ℕ → Own → State → ℕ → Outcome → Type 0
Does whole kept from to address cs s next (Done t) =
    (ds : Own) × Comes whole address cs s next ds t × Keeps kept from to cs ds
Does whole kept from to address cs s next (Over end t) =
    (j : ℕ) × (exec_code whole j (at address cs s) ≡ Some (over end t))

-- a part that stands after this code does so, and keeps the counters outside it
abbrev pub PartDoes : Code → (ℕ → Type 0) → Code → Code → Own → State → Outcome → Type 0
PartDoes whole kept before part cs s o =
    Does whole kept (end_of before) (end_of (append before part)) (end_of before) cs s (end_of (append before part)) o

-- a part that stands after this code, of which each address is one that is kept
pub record Sits (whole : Code) (kept : ℕ → Type 0) (before part : Code) : Type 0 where
  pub stands : Stands whole before part
  pub keeps : (k : ℕ) → end_of before ≤ k → k < end_of (append before part) → kept k

module _ (whole : Code) where
  -- There is a counter for each address, and nothing in the line.
  pub record IsRoom (cs : Own) : Type 0 where
    pub counters : length cs.counters ≡ length whole.instructions
    pub line : cs.line ≡ []

  pub steps_to : (address next : ℕ) (cs ds : Own) (s t : State) → t.budget ≤ s.budget
      → ((k : ℕ) → exec_code whole (suc k) (at address cs s) ≡ exec_code whole k (at next ds t))
      → Comes whole address cs s next ds t
  steps_to address next cs ds s t falls h = record { by = λ k. (suc k, h k); falls = falls }

  -- a counter is set, and a turn ends
  pub count_comes : (address counter turns : ℕ) (cs : Own) (s : State)
      → slice_get whole.instructions address ≡ Some (Count (record { number = counter }) turns)
      → Comes whole address cs s (address + 1) (setting cs counter turns) s
  count_comes address counter turns cs s here =
      steps_to address (address + 1) cs (setting cs counter turns) s s (omega arith)
      (λ k. one_step whole address cs s (Count (record { number = counter }) turns) here k)

  turn_step : (address counter to holds : ℕ) (cs : Own) (s : State)
      → slice_get whole.instructions address ≡ Some (Turn (record { number = counter }) to)
      → slice_index cs.counters counter ≡ holds
      → (k : ℕ)
      → exec_code whole (suc k) (at address cs s) ≡ turn_from holds counter to (exec_code whole k) (at address cs s)
  turn_step address counter to holds cs s here is k =
      one_step whole address cs s (Turn (record { number = counter }) to) here k ∙ ap
      (λ n. turn_from n counter to (exec_code whole k) (at address cs s)) is

  pub turn_goes_on : (address counter to : ℕ) (cs : Own) (s : State)
      → slice_get whole.instructions address ≡ Some (Turn (record { number = counter }) to)
      → slice_index cs.counters counter ≡ 0
      → Comes whole address cs s (address + 1) cs s
  turn_goes_on address counter to cs s here none =
      steps_to address (address + 1) cs cs s s (omega arith) (turn_step address counter to 0 cs s here none)

  pub turn_goes_back : (address counter to more : ℕ) (cs : Own) (s : State)
      → slice_get whole.instructions address ≡ Some (Turn (record { number = counter }) to)
      → slice_index cs.counters counter ≡ suc more
      → Comes whole address cs s to (setting cs counter more) s
  turn_goes_back address counter to more cs s here some =
      steps_to address to cs (setting cs counter more) s s (omega arith)
      (turn_step address counter to (suc more) cs s here some)

  -- By the truth a branch goes on, or to its address.
  branch_step : (address to : ℕ) (truth : Bool) (cs : Own) (s : State)
      → slice_get whole.instructions address ≡ Some (Branch to) → cs.truth ≡ truth
      → (k : ℕ) → exec_code whole (suc k) (at address cs s) ≡ branch_from truth to (exec_code whole k) (at address cs s)
  branch_step address to truth cs s here is k =
      one_step whole address cs s (Branch to) here k
      ∙ ap (λ b. branch_from b to (exec_code whole k) (at address cs s)) is

  pub branch_goes_on : (address to : ℕ) (cs : Own) (s : State) → slice_get whole.instructions address ≡ Some (Branch to)
      → cs.truth ≡ true
      → Comes whole address cs s (address + 1) cs s
  branch_goes_on address to cs s here is =
      steps_to address (address + 1) cs cs s s (omega arith) (branch_step address to true cs s here is)

  pub branch_goes_to : (address to : ℕ) (cs : Own) (s : State) → slice_get whole.instructions address ≡ Some (Branch to)
      → cs.truth ≡ false
      → Comes whole address cs s to cs s
  branch_goes_to address to cs s here is =
      steps_to address to cs cs s s (omega arith) (branch_step address to false cs s here is)

  pub jump_comes : (address to next : ℕ) (cs : Own) (s : State) → slice_get whole.instructions address ≡ Some (Jump to)
      → to ≡ next
      → Comes whole address cs s next cs s
  jump_comes address to next cs s here e =
      subst (λ p. Comes whole address cs s p cs s) e
      (steps_to address to cs cs s s (omega arith) (λ k. one_step whole address cs s (Jump to) here k))

  pub join_comes : (address next : ℕ) (cs : Own) (s : State) → slice_get whole.instructions address ≡ Some Join
      → address + 1 ≡ next
      → Comes whole address cs s next cs s
  join_comes address next cs s here e =
      subst (λ p. Comes whole address cs s p cs s) e
      (steps_to address (address + 1) cs cs s s (omega arith) (λ k. one_step whole address cs s Join here k))

-- less than this is left of the budget, where it goes on
abbrev pub Uses : ℕ → Outcome → Type 0
Uses n (Done t) = t.budget < n
Uses n (Over end t) = Unit {0}

within_uses : (n : ℕ) (o : Outcome) → Within n o → Uses (suc n) o
within_uses n (Done t) w = omega (arith, w)
within_uses n (Over end t) w = tt

pub spend_uses : (b line : ℕ) (s : State) (turn : State → Outcome) → IsRun turn → Uses b (spend_from b line s turn)
spend_uses zero line s turn runs = tt
spend_uses (suc n) line s turn runs =
    let t : State = record s { budget = n; line = line } in within_uses n (turn t) (runs.falls t)

-- one of the budget before two parts is one before the first
pub spend_then : (b line : ℕ) (s : State) (turn go : State → Outcome)
    → spend_from b line s (λ t. then_do (turn t) go) ≡ then_do (spend_from b line s turn) go
spend_then zero line s turn go = refl
spend_then (suc n) line s turn go = refl

module _ (whole : Code) (kept : ℕ → Type 0) where
  -- ---- where parts stand

  -- one that stands within another
  pub within_sits : (before part inner code : Code) → Sits whole kept before part → Stands whole inner code
      → end_of before ≤ end_of inner
      → end_of (append inner code) ≤ end_of (append before part) → Sits whole kept inner code
  within_sits before part inner code sits st low high =
      record { stands = st; keeps = λ k begins ends. sits.keeps k (omega arith) (omega arith) }

  pub front_sits : (before a b : Code) → Sits whole kept before (append a b) → Sits whole kept before a
  front_sits before a b sits =
      let l = length-append before.instructions a.instructions in
      let m = length-append before.instructions (append a b).instructions in
      let n = length-append a.instructions b.instructions in
      within_sits before (append a b) before a sits (front whole before a b sits.stands) (omega arith)
      (omega (arith, l, m, n))

  pub back_sits : (before a b : Code) → Sits whole kept before (append a b) → Sits whole kept (append before a) b
  back_sits before a b sits =
      let l = length-append before.instructions a.instructions in
      let same = ap end_of (joined_assoc before a b) in
      within_sits before (append a b) (append before a) b sits (back whole before a b sits.stands) (omega (arith, l))
      (omega (arith, same))

  -- ---- what is done

  pub still_room : (from to : ℕ) (cs ds : Own) → Keeps kept from to cs ds → IsRoom whole cs → IsRoom whole ds
  still_room from to cs ds keeps room = record { counters = keeps.count ∙ room.counters; line = keeps.line room.line }

  pub after : (from to address mid next : ℕ) (cs ds : Own) (s t : State) (o : Outcome) → Keeps kept from to cs ds
      → Comes whole address cs s mid ds t
      → Does whole kept from to mid ds t next o
      → Does whole kept from to address cs s next o
  after from to address mid next cs ds s t (Done u) keeps c d = (
    d.0,
    record {
      by = λ k. let b = d.1.by k in let a = c.by b.0 in (a.0, a.1 ∙ b.1);
      falls = omega (arith, c.falls, d.1.falls);
    },
    keeps_then kept from to cs ds d.0 keeps d.2,
  )
  after from to address mid next cs ds s t (Over end u) keeps c d = let a = c.by d.0 in (a.0, a.1 ∙ d.1)

  -- one part after another, the first within low..high
  pub then_does : (low high from to address mid next : ℕ) (cs : Own) (s : State) (o : Outcome) (go : State → Outcome)
      → from ≤ low → high ≤ to
      → Does whole kept low high address cs s mid o
      → ((t : State) (ds : Own) → t.budget ≤ s.budget → Keeps kept low high cs ds
      → Does whole kept from to mid ds t next (go t))
      → Does whole kept from to address cs s next (then_do o go)
  then_does low high from to address mid next cs s (Done t) go before behind d h =
      after from to address mid next cs d.0 s t (go t) (keeps_more kept low high from to cs d.0 before behind d.2) d.1
      (h t d.0 d.1.falls d.2)
  then_does low high from to address mid next cs s (Over end t) go before behind d h = d

  -- the same of what uses one of the budget, and how the rest of it goes on
  pub spend_does : (low high from to line address mid next : ℕ) (cs : Own) (s : State) (turn go : State → Outcome)
      → IsRun turn → from ≤ low
      → high ≤ to
      → Does whole kept low high address cs s mid (spend line s turn)
      → ((t : State) (ds : Own) → t.budget < s.budget → Keeps kept low high cs ds
      → Does whole kept from to mid ds t next (go t))
      → Does whole kept from to address cs s next (spend line s (λ t. then_do (turn t) go))
  spend_does low high from to line address mid next cs s turn go runs before behind d h =
      subst (Does whole kept from to address cs s next) (sym (spend_then s.budget line s turn go))
      (used_does (spend line s turn) (spend_uses s.budget line s turn runs) d)
    where
      used_does : (o : Outcome) → Uses s.budget o → Does whole kept low high address cs s mid o
          → Does whole kept from to address cs s next (then_do o go)
      used_does (Done t) uses d =
          after from to address mid next cs d.0 s t (go t) (keeps_more kept low high from to cs d.0 before behind d.2)
          d.1 (h t d.0 uses d.2)
      used_does (Over end t) uses d = d

  pub wider : (low high from to address next : ℕ) (cs : Own) (s : State) (o : Outcome) → from ≤ low → high ≤ to
      → Does whole kept low high address cs s next o → Does whole kept from to address cs s next o
  wider low high from to address next cs s (Done t) before behind d =
      (d.0, d.1, keeps_more kept low high from to cs d.0 before behind d.2)
  wider low high from to address next cs s (Over end t) before behind d = d

  pub moved : (from to address mid next : ℕ) (cs : Own) (s : State) (o : Outcome) → mid ≡ next
      → Does whole kept from to address cs s mid o
      → Does whole kept from to address cs s next o
  moved from to address mid next cs s o e d = subst (λ p. Does whole kept from to address cs s p o) e d

  pub moved_from : (from to address other next : ℕ) (cs : Own) (s : State) (o : Outcome) → other ≡ address
      → Does whole kept from to other cs s next o
      → Does whole kept from to address cs s next o
  moved_from from to address other next cs s o e d = subst (λ p. Does whole kept from to p cs s next o) e d

  pub stays : (from to address next : ℕ) (cs : Own) (s : State) → address ≡ next
      → Does whole kept from to address cs s next (Done s)
  stays from to address next cs s e = (
    cs,
    record { by = λ k. (k, ap (λ p. exec_code whole k (at p cs s)) e); falls = omega arith },
    keeps_all kept from to cs,
  )

  -- one of the budget
  tick_from_does : (from to left line address next : ℕ) (cs : Own) (s : State) (go : State → Outcome) → left ≤ s.budget
      → ((k : ℕ) → exec_code whole (suc k) (at address cs s) ≡ tick_from left line
      (onward (exec_code whole k) (at address cs s)) s)
      → ((t : State) → t.budget < s.budget → Does whole kept from to (address + 1) cs t next (go t))
      → Does whole kept from to address cs s next (spend_from left line s go)
  tick_from_does from to zero line address next cs s go le st h = (1, st 0)
  tick_from_does from to (suc n) line address next cs s go le st h =
      let t : State = record s { budget = n; line = line } in
      after from to address (address + 1) next cs cs s t (go t) (keeps_all kept from to cs)
      (steps_to whole address (address + 1) cs cs s t (omega arith) st) (h t (omega arith))

  pub tick_does : (from to line address next : ℕ) (cs : Own) (s : State) (go : State → Outcome)
      → slice_get whole.instructions address ≡ Some (Tick line)
      → ((t : State) → t.budget < s.budget → Does whole kept from to (address + 1) cs t next (go t))
      → Does whole kept from to address cs s next (spend line s go)
  tick_does from to line address next cs s go here h =
      tick_from_does from to s.budget line address next cs s go (omega arith)
      (λ k. one_step whole address cs s (Tick line) here k) h

  pub stop_does : (from to address next : ℕ) (cs : Own) (s : State) → slice_get whole.instructions address ≡ Some Stop
      → Does whole kept from to address cs s next (Over Stopped s)
  stop_does from to address next cs s here = (1, one_step whole address cs s Stop here 0)

  -- a part within low..high, and a way on from its end
  pub then_comes : (low high from to address mid next : ℕ) (cs : Own) (s : State) (o : Outcome) → from ≤ low → high ≤ to
      → Does whole kept low high address cs s mid o
      → ((ds : Own) (t : State) → Comes whole mid ds t next ds t) → Does whole kept from to address cs s next o
  then_comes low high from to address mid next cs s (Done t) before behind d h = (
    d.0,
    record { by = λ k. let b = (h d.0 t).by k in let a = d.1.by b.0 in (a.0, a.1 ∙ b.1); falls = d.1.falls },
    keeps_more kept low high from to cs d.0 before behind d.2,
  )
  then_comes low high from to address mid next cs s (Over end t) before behind d h = d

  -- ---- parts

  -- the last of two parts follows the first
  pub behind : (before a b : Code) (cs : Own) (s : State) (o : Outcome) → PartDoes whole kept (append before a) b cs s o
      → Does whole kept (end_of before) (end_of (append before (append a b))) (end_of (append before a)) cs s
      (end_of (append before (append a b))) o
  behind before a b cs s o d =
      let same = ap end_of (joined_assoc before a b) in
      moved (end_of before) (end_of (append before (append a b))) (end_of (append before a))
      (end_of (append (append before a) b))
      (end_of (append before (append a b))) cs s o same
      (wider (end_of (append before a)) (end_of (append (append before a) b)) (end_of before)
      (end_of (append before (append a b)))
      (end_of (append before a)) (end_of (append (append before a) b)) cs s o
      (omega (arith, length-append before.instructions a.instructions)) (omega (arith, same)) d)

  -- two parts, one after the other
  pub parts_do : (before a b : Code) (cs : Own) (s : State) (o : Outcome) (go : State → Outcome)
      → PartDoes whole kept before a cs s o
      → ((t : State) (ds : Own) → t.budget ≤ s.budget → (IsRoom whole cs → IsRoom whole ds)
      → PartDoes whole kept (append before a) b ds t (go t))
      → PartDoes whole kept before (append a b) cs s (then_do o go)
  parts_do before a b cs s o go d h =
      let l = length-append before.instructions a.instructions in
      let m = length-append before.instructions (append a b).instructions in
      let n = length-append a.instructions b.instructions in
      then_does (end_of before) (end_of (append before a)) (end_of before) (end_of (append before (append a b)))
      (end_of before)
      (end_of (append before a)) (end_of (append before (append a b))) cs s o go
      (omega arith) (omega (arith, l, m, n)) d
      (λ t ds falls keeps. behind before a b ds t (go t)
      (h t ds falls (still_room (end_of before) (end_of (append before a)) cs ds keeps)))

  -- one of the budget, and a part after that
  pub tick_part : (line : ℕ) (before b : Code) (cs : Own) (s : State) (go : State → Outcome)
      → Stands whole before (append (tick_fragment line before) b)
      → ((t : State) → t.budget < s.budget
      → PartDoes whole kept (append before (tick_fragment line before)) b cs t (go t))
      → PartDoes whole kept before (append (tick_fragment line before) b) cs s (spend line s go)
  tick_part line before b cs s go st h =
      let a = tick_fragment line before in
      let to = end_of (append before (append a b)) in
      let same : end_of (append before a) ≡ end_of before + 1 = length-append before.instructions (Tick line ∷ []) in
      tick_does (end_of before) to line (end_of before) to cs s go
      (first_stands whole before (append a b) (Tick line) b.instructions refl st)
      (λ t lt.
      moved_from (end_of before) to (end_of before + 1) (end_of (append before a)) to cs t (go t) same
      (behind before a b cs t (go t) (h t lt)))

  module _ (line : ℕ) (before : Code) (cs : Own) (s : State) where
    pub ticks_alone : Stands whole before (tick_fragment line before)
        → PartDoes whole kept before (tick_fragment line before) cs s (spend line s Done)
    ticks_alone st =
        let part = tick_fragment line before in
        let to = end_of (append before part) in
        let one : length (Tick line ∷ []) ≡ 1 = refl in
        tick_does (end_of before) to line (end_of before) to cs s Done
        (first_stands whole before part (Tick line) [] refl st) (λ t lt.
        stays (end_of before) to (end_of before + 1) to cs t
        (omega (arith, length-append before.instructions (Tick line ∷ []))))

    pub ending_does : (one : ControlStatement) → Stands whole before (control_fragment line one before)
        → PartDoes whole kept before (control_fragment line one before) cs s (spend line s (finish one))
    ending_does ending.StopRun st =
        let part = stop_run_fragment line before in
        let to = end_of (append before part) in
        tick_does (end_of before) to line (end_of before) to cs s (finish ending.StopRun)
        (first_stands whole before part (Tick line) (Stop ∷ []) refl st) (λ t lt.
        stop_does (end_of before) to (end_of before + 1) to cs t
        (second_stands whole before part (Tick line) Stop [] refl st))
    ending_does ending.Continue st = ticks_alone st
    ending_does ending.Exit st = ticks_alone st

  pub nothing_does : (before : Code) (cs : Own) (s : State) → PartDoes whole kept before empty_code cs s (Done s)
  nothing_does before cs s =
      stays (end_of before) (end_of (append before empty_code)) (end_of before) (end_of (append before empty_code)) cs s
      (ap end_of (sym (joined_nothing before)))

  -- What is known of the parts of a list that keep these rules, where less than so much of the budget is left.
  pub record Follows {A : Type 0} (n : ℕ) (rules : A → List RuleBreach) (run : A → State → Outcome)
      (piece : A → Fragment) : Type 0 where
    pub by : (one : A) (before : Code) (cs : Own) (s : State) → rules one ≡ [] → s.budget < n → IsRoom whole cs
        → Sits whole kept before (piece one before) → PartDoes whole kept before (piece one before) cs s (run one s)

  pub in_order_does : {A : Type 0} (n : ℕ) (rules : A → List RuleBreach) (run : A → State → Outcome)
      (piece : A → Fragment) → Follows n rules run piece
      → (all : List A) (before : Code) (cs : Own) (s : State)
      → each rules all ≡ [] → s.budget < n → IsRoom whole cs → Sits whole kept before (in_order piece all before)
      → PartDoes whole kept before (in_order piece all before) cs s (in_turn run all s)
  in_order_does n rules run piece f [] before cs s keep below room st = nothing_does before cs s
  in_order_does n rules run piece f (one ∷ more) before cs s keep below room st =
      let a = piece one before in
      let b = in_order piece more (append before a) in
      parts_do before a b cs s (run one s) (in_turn run more)
      (f.by one before cs s (left_none (rules one) (each rules more) keep) below room (front_sits before a b st))
      (λ t ds falls still.
      in_order_does n rules run piece f more (append before a) ds t (right_none (rules one) (each rules more) keep)
      (omega arith) (still room)
      (back_sits before a b st))

  -- a body, wherever it stands
  pub record Repeats (depth : ℕ) (go : State → Outcome) (piece : Fragment) : Type 0 where
    pub by : (before : Code) (cs : Own) (s : State) → s.budget < depth → IsRoom whole cs
        → Sits whole kept before (piece before)
        → PartDoes whole kept before (piece before) cs s (go s)

  -- with less of the budget
  pub fewer_does : (depth : ℕ) (go : State → Outcome) (piece : Fragment) → Repeats (suc depth) go piece
      → Repeats depth go piece
  fewer_does depth go piece each =
      record { by = λ before cs s below room sits. each.by before cs s (omega arith) room sits }
