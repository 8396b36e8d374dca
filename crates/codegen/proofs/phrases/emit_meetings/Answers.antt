use Rattle.std.proofs.Common.{◌≡◌, List, length, sym, ap, ◌∙◌, subst, arith}
use Rattle.std.specs.List.{AllByRecursion}
use Rattle.code_image.specs.declared.code.Code.{Code}
use Rattle.codegen.specs.declared.phrases.Way.{Way}
use Rattle.codegen.specs.Phrases.{IsWay, met_all}
use Rattle.condition_codegen.specs.Phrases.{patched_code}
use Rattle.codegen.proofs.Opening.{all_but_last, still_ways, met_longer, last_met}
use Rattle.codegen.proofs.phrases.emit_meetings.Goals as goal

pub ways-preserved : goal.ways-preserved
ways-preserved c =
    let left = c.pop.new.self.items in
    let way = c.in-Some.way in
    let code = c.ways.code in
    let count = length code.instructions in
    let is : c.emit_meeting.new.code ≡ patched_code way.branch way.other code = c.in_ok-emit_meeting.ensures in
    let longer = ap (λ (k : Code). length k.instructions) is ∙ met_longer way.branch way.other code in
    record {
      same = ap (met_all left) is ∙ sym (last_met left way code)
          ∙ sym (ap (λ (l : List Way). met_all l code) c.in-Some.ensures.items) ∙ c.ways.invariant.same;
      within = still_ways left count (length c.emit_meeting.new.code.instructions) (omega (arith, longer))
          (all_but_last (IsWay count) left way (subst (λ (l : List Way). AllByRecursion (IsWay count) l)
          c.in-Some.ensures.items c.ways.invariant.within));
    }
