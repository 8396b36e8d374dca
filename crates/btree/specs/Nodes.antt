-- Two pages of one kind.
use Rattle.std.specs.Prelude.{◌≡◌}
use Rattle.btree_pages.specs.Node.{Node}

-- pages of the same layout and kind
pub record SameNode (one two : Node) : Type 0 where
  pub layout : two.layout ≡ one.layout
  pub kind : two.kind ≡ one.kind
