-- Which refusal of the pages was told.
use Rattle.std.proofs.Common.{◌≡◌, refl}
use Rattle.pages.specs.declared.error.PagesError.{PagesError}
use Rattle.pages.specs.declared.error.PagesError.TheVariants as pages
use Rattle.records.specs.declared.fault.StoreFault.TheVariants.{Device, Full, Damaged}
use Rattle.volume_format.specs.Faults.{fault_of}

pub device_back : (error : PagesError) → fault_of error ≡ Device → error ≡ pages.Device
device_back pages.Device is = refl
device_back pages.Full is = cc
device_back pages.Damaged is = cc
device_back pages.Memory is = cc
device_back pages.Spent is = cc
device_back pages.ForeignMark is = cc

pub damaged_back : (error : PagesError) → fault_of error ≡ Damaged → error ≡ pages.Damaged
damaged_back pages.Device is = cc
damaged_back pages.Full is = cc
damaged_back pages.Damaged is = refl
damaged_back pages.Memory is = cc
damaged_back pages.Spent is = cc
damaged_back pages.ForeignMark is = cc

pub full_back : (error : PagesError) → fault_of error ≡ Full → error ≡ pages.Full
full_back pages.Device is = cc
full_back pages.Full is = refl
full_back pages.Damaged is = cc
full_back pages.Memory is = cc
full_back pages.Spent is = cc
full_back pages.ForeignMark is = cc
