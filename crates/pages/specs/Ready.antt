-- What is so of an opened volume in memory.
use native.Mathlib.Bridge.{no_suc-le-zero}
use mathlib.Core.Path.{ap, subst}
use mathlib.Core.Logic.{inl, inr}
use Rattle.std.specs.Prelude.{◌<◌, ◌≤◌, ℕ, List, length}
use Rattle.std.specs.Coded.{Coded-set, coded_ℕ, ×_prop, le_prop}
use Rattle.std.specs.List.{All}
use Rattle.std.proofs.Props.{props}
use Rattle.pages.specs.Layout.{version_of}
use Rattle.pages.specs.Image.{NamesOnce, IsPlace}
use Rattle.pages.specs.Changes.{changed_pages, Places, ArePlaced}
use Rattle.pages.specs.Volumes.{IsSound}
use Rattle.pages.specs.declared.change.Change.{Change}
use Rattle.pages.specs.declared.volume.VolumeMap.{VolumeMap}
use Rattle.pages.specs.declared.volume_mark.VolumeMark.{VolumeMark}

-- The volume is sound. The changes are of its pages, one a page, each is found by its page, and the next mark is no earlier one.
pub record IsReady (volume : VolumeMap) (changes : List Change) (places : Places) (next : VolumeMark) : Type 0 where
  pub sound : IsSound volume
  pub pages : All (λ (c : Change). (0 < c.page) × (c.page < length volume.table)) changes
  pub once : NamesOnce (changed_pages changes)
  pub placed : ArePlaced changes places
  pub mark : version_of volume.mark ≤ version_of next

-- a sector is 0 or after the roots, and not both
pub IsPlace-prop : (sectors s : ℕ) → IsProp (IsPlace sectors s)
IsPlace-prop sectors s (inl a) (inl b) = ap {B = IsPlace sectors s} inl (Coded-set coded_ℕ s 0 a b)
IsPlace-prop sectors s (inl a) (inr b) = absurd (no_suc-le-zero (subst (λ (n : ℕ). 2 ≤ n) a b.0))
IsPlace-prop sectors s (inr a) (inl b) = absurd (no_suc-le-zero (subst (λ (n : ℕ). 2 ≤ n) b a.0))
IsPlace-prop sectors s (inr a) (inr b) = ap {B = IsPlace sectors s} inr (×_prop le_prop le_prop a b)

-- the rules that show that `IsReady` has one proof at most
pub ruleset ready_props = (props, IsPlace-prop)
