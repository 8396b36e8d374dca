use Rattle.std.proofs.Common.{◌≤◌, ◌+◌, length}
use Rattle.pages.specs.Pages.{filled_of}
use Rattle.chains.specs.Chain.{pages_for}
use Rattle.chains.proofs.Loops.{RestToWrite}
use Rattle.chains.proofs.Keeping.{KeepsMap, IfStood, over}
use Rattle.chains.proofs.rewriting.rewrite.Given as goal

abbrev pub invariant-loop-place : goal.invariant-loop-place
invariant-loop-place g l = record {
  keeps : KeepsMap g.D.Device l.fn.pages l.pages l.fn.device l.device l.place;
  rest : IfStood g.D.Device l.fn.pages l.fn.device (pages_for (length l.bytes)) l.fn.first
      (RestToWrite (over g.D.Device l.fn.pages l.fn.device) l.bytes l.fn.first (over g.D.Device l.pages l.fn.device)
      l.place l.page);
  filled : filled_of l.pages ≤ filled_of l.fn.pages + l.place;
}
