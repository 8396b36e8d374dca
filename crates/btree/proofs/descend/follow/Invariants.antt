use Rattle.std.proofs.Common.{◌≡◌, ◌<◌, List, length, false}
use Rattle.station.specs.Calls.{OnlyReads}
use Rattle.pages.specs.Pages.{map_now, is_spent, Agrees, IsUnchanged}
use Rattle.btree.specs.Tree.{TreeNode, IsTree}
use Rattle.btree.proofs.Descents.{Along}
use Rattle.btree.proofs.descend.follow.Given as goal

abbrev pub invariant-loop-depth : goal.invariant-loop-depth
invariant-loop-depth g l = record {
  only : OnlyReads g.D.Device ⊥ l.fn.device l.device;
  unchanged : IsUnchanged l.fn.pages l.pages;
  agrees : g.D.Device.is_honest l.fn.device → Agrees l.fn.pages (g.D.Device.state l.fn.device).disk
      → Agrees l.pages (g.D.Device.state l.device).disk;
  spent : 0 < l._depth → is_spent l.fn.pages ≡ false;
  room : l.path.capacity ≡ 21;
  steps : length l.path.items ≡ l._depth;
  way : is_spent l.fn.pages ≡ false → g.D.Device.is_honest l.fn.device
      → Agrees l.fn.pages (g.D.Device.state l.fn.device).disk → (levels : List (List TreeNode)) →
      IsTree l.fn.layout (map_now l.fn.pages (g.D.Device.state l.fn.device).disk.present).pages l.fn.root levels →
      Along l.fn.layout (map_now l.fn.pages (g.D.Device.state l.fn.device).disk.present).pages levels l.key l.path.items
      l.page l.right;
}
