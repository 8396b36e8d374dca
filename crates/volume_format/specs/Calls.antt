-- What a call on pages keeps that only reads.
use Rattle.station.specs.Calls.{OnlyReads}
use Rattle.station.specs.declared.device.Device.{Ghosts as Devices}
use Rattle.pages.specs.Pages.{Agrees, IsUnchanged}
use Rattle.pages.specs.declared.page_map.PageMap.{PageMap}

module _ {D : Type 0} (d : Devices D) where
  -- Where `blamed` holds, the device failed.
  pub record LooksAt (blamed : Type 0) (old : PageMap) (device : D) (new : PageMap) (device' : D) : Type 0 where
    pub only : OnlyReads d blamed device device'
    pub unchanged : IsUnchanged old new
    pub agrees : d.is_honest device → Agrees old (d.state device).disk → Agrees new (d.state device').disk
