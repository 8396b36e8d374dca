-- What stays while a device is only read.
use Rattle.std.proofs.Common.{◌≡◌, sym, subst}
use Rattle.station.specs.State.{State}
use Rattle.pages.specs.Pages.{Agrees}
use Rattle.pages.specs.declared.page_map.PageMap.{PageMap}

-- a map of pages agrees with the disk in the same state
pub still_agrees : (pages : PageMap) (before after : State) → after ≡ before → Agrees pages before.disk
    → Agrees pages after.disk
still_agrees pages before after same agrees = subst (λ (s : State). Agrees pages s.disk) (sym same) agrees
