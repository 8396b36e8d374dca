use Rattle.std.proofs.Common.{rules, ◌≡◌, length, List, ap, sym, ◌∙◌, ◌∷◌, [], arith}
use Rattle.std.specs.List.{filter}
use Rattle.std.proofs.lemmas.List.{with_items_is}
use Rattle.std.proofs.lemmas.List.Elements.{filter_from_retain}
use Rattle.station.specs.Disk.{idle_disk}
use Rattle.station.specs.State.{State}
use Rattle.station.specs.Replay.{made_of, state_after_calls, is_of_console}
use Rattle.station.specs.declared.call.Call.{Call}
use Rattle.station.specs.Choice.{chosen_sectors}
use Rattle.station.specs.Sectors.{all_present_after}
use Rattle.station.proofs.Replay.{since_all}
use Rattle.station.proofs.Restart.{crash_state, console_keeps}
use Rattle.station.proofs.journal.Journal.crash.Goals as goal
use Rattle.station.proofs.journal.Journal.crash.Goals.{After-retain}

pub copy_from_slice-requires : goal.copy_from_slice-requires
copy_from_slice-requires c =
    let j = c.args.self.now in
    let now : length j.present.items ≡ length j.start.items =
    ap length j.current ∙ all_present_after j.start.items j.lines.items j.calls.items in
    omega (arith, now, c.deref-2.ensures.len, c.leave_image.auto.sectors, c.deref_mut.ensures.len)

-- the calls of the console are left
console_calls : (c : After-retain) → c.retain.new.self.items ≡ filter is_of_console c.args.self.now.calls.items
console_calls c = filter_from_retain _ is_of_console (λ p x b q says. search rules) _ _ _ c.retain.ensures.filtered

pub invariant_of-self : goal.invariant_of-self
invariant_of-self c = record {
  few_sectors = omega (
    arith,
    c.args.self.now.few_sectors,
    c.leave_image.auto.sectors,
    c.deref_mut.ensures.len,
    c.deref-2.ensures.len,
    ap length c.deref-2.ensures.value,
  );
  current = c.copy_from_slice.ensures.items ∙ c.deref-2.ensures.value
      ∙ sym (console_keeps _ c.args.self.now.lines.items c.args.self.now.calls.items c.retain.new.self.items
      (console_calls (goal.at.invariant_of-self c).After-retain));
  before_within = omega (arith, c.len-self.ensures);
}

pub returns-clause-state : goal.returns-clause-state
returns-clause-state c =
    let j = c.args.self.now in
    let begin = made_of j.start.items j.lines.items in
    let image = c.leave_image.ensures begin (ap idle_disk (sym c.deref_mut.ensures.value))
    ∙ ap (λ (l : List Call). chosen_sectors (state_after_calls begin l).disk c.args.choose.now) c.deref.ensures.value in
    let count : length c.leave_image.new.sectors ≡ j.start.len =
    omega (arith, c.deref_mut.ensures.len, c.leave_image.auto.sectors) in
    crash_state j.start.items c.leave_image.new.sectors _ j.lines.items j.calls.items c.retain.new.self.items
    c.args.choose.now
    (with_items_is j.start c.leave_image.new.sectors count)
    (console_calls (goal.at.returns-clause-state c).After-retain) image

pub returns-clause-history : goal.returns-clause-history
returns-clause-history c = since_all _ c.retain.new.self.items _ (omega (arith, c.len-self.ensures))
    ∙ ap (λ (s : State). s ∷ []) (returns-clause-state c)
