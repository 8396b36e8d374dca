use Rattle.std.proofs.Common.{◌≤◌}
use Rattle.pages.specs.Pages.{filled_of}
use Rattle.chains.specs.Chain.{pages_for}
use Rattle.chains.proofs.Loops.{RestToRelease}
use Rattle.chains.proofs.Keeping.{KeepsMap, IfStood, over}
use Rattle.chains.proofs.releasing.release.Given as goal

abbrev pub invariant-loop-place : goal.invariant-loop-place
invariant-loop-place g l = record {
  keeps : KeepsMap g.D.Device l.fn.pages l.pages l.fn.device l.device l.place;
  rest : IfStood g.D.Device l.fn.pages l.fn.device (pages_for l.fn.size) l.fn.first
      (RestToRelease (over g.D.Device l.fn.pages l.fn.device) (pages_for l.fn.size) l.fn.first
      (over g.D.Device l.pages l.fn.device) l.place l.page);
  filled : filled_of l.pages ≤ filled_of l.fn.pages;
}
