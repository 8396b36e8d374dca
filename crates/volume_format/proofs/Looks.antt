-- Calls on pages that only read, one after the other.
use Rattle.std.proofs.Common.{◌⊎◌}
use Rattle.station.specs.Calls.{OnlyReads}
use Rattle.station.specs.declared.device.Device.{Ghosts as Devices}
use Rattle.station.proofs.Calls.{reads_nothing, reads_then}
use Rattle.pages.specs.declared.page_map.PageMap.{PageMap}
use Rattle.btree.proofs.Frames.{unchanged_still, unchanged_on}
use Rattle.chains.proofs.Unwritten.{still_agrees}
use Rattle.volume_format.specs.Calls.{LooksAt}

pub reads_blamed : {D : Type 0} (d : Devices D) (A B : Type 0) (a b : D) → (B → A) → OnlyReads d A a b
    → OnlyReads d B a b
reads_blamed d A B a b from only = record {
  honest = only.honest;
  sectors = only.sectors;
  failures = record { no_fewer = only.failures.no_fewer; failed = λ blamed. only.failures.failed (from blamed) };
  state = only.state;
  history = only.history;
}

module _ {D : Type 0} (d : Devices D) where
  pub looks_nowhere : (p : PageMap) (a : D) → LooksAt d ⊥ p a p a
  looks_nowhere p a =
      record { only = reads_nothing d a; unchanged = unchanged_still p; agrees = λ honest agrees. agrees }

  pub looks_blamed : (A B : Type 0) (p q : PageMap) (a b : D) → (B → A) → LooksAt d A p a q b → LooksAt d B p a q b
  looks_blamed A B p q a b from looks = record {
    only = reads_blamed d A B a b from looks.only;
    unchanged = looks.unchanged;
    agrees = looks.agrees;
  }

  pub looks_then : (A B C : Type 0) (p q r : PageMap) (a b c : D) → (C → A ⊎ B) → LooksAt d A p a q b
      → LooksAt d B q b r c → LooksAt d C p a r c
  looks_then A B C p q r a b c which first second = record {
    only = reads_then d A B C a b c which first.only second.only;
    unchanged = unchanged_on p q r first.unchanged second.unchanged;
    agrees = λ honest agrees. second.agrees (first.only.honest.0 honest) (first.agrees honest agrees);
  }

  -- a call that reads past the cache of pages, which stay
  pub looks_past : (A : Type 0) (p : PageMap) (a b : D) → OnlyReads d A a b → LooksAt d A p a p b
  looks_past A p a b only = record {
    only = only;
    unchanged = unchanged_still p;
    agrees = λ honest agrees. still_agrees p (d.state a) (d.state b) (only.state honest) agrees;
  }
