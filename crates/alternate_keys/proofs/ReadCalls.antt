-- A call of the store that only reads.
use Rattle.std.proofs.Common.{◌≡◌, refl, Bool, true, false, Result, Err, IfErr, sym, ap, subst, ◌∙◌}
use Rattle.station.specs.State.{State}
use Rattle.station.specs.Calls.{OnlyReads}
use Rattle.station.specs.declared.device.Device.{Ghosts as Devices}
use Rattle.pages.specs.Image.{Volume}
use Rattle.pages.specs.Pages.{is_spent, Agrees, IsUnchanged}
use Rattle.pages.specs.declared.page_map.PageMap.{PageMap}
use Rattle.records.specs.declared.fault.StoreFault.{StoreFault}
use Rattle.records.specs.declared.fault.StoreFault.TheVariants.{Device, Spent}
use Rattle.records.specs.Calls.{OnlyReadsFiles}
use Rattle.alternate_keys.specs.Faults.{IsReadFault}
use Rattle.alternate_keys.specs.Opened.{OpenedVolume}
use Rattle.alternate_keys.specs.Notes.{NotedSearch, AreNotesOf, OnNotes}
use Rattle.alternate_keys.specs.Stands.{IsStoreOf}
use Rattle.alternate_keys.specs.contracts.store_calls.PagedStoreKeeps.TheImpl.{ghosts}
use Rattle.alternate_keys.proofs.Still.{same_volume, stands_still}

abbrev pub opened : PageMap → Bool → NotedSearch → OpenedVolume
opened pages spent notes = record { pages = pages; spent = spent; notes = notes }

pub reads_of : {D : Type 0} (d : Devices D) {T : Type 0} (result : Result T StoreFault) (old new : PageMap)
    (spent : Bool) (noted noting : NotedSearch) (device device' : D) →
    OnlyReads d (result ≡ Err Device) device device' → IsUnchanged old new
    → (d.is_honest device → Agrees old (d.state device).disk → Agrees new (d.state device').disk) →
    OnNotes d noted old device (AreNotesOf noting) →
    is_spent old ≡ false → (result ≡ Err Spent → is_spent old ≡ true) → IfErr result IsReadFault
    → OnlyReadsFiles ghosts d result (opened old spent noted) device (opened new spent noting) device'
reads_of d result old new spent noted noting device device' only unchanged agrees notes unspent told cause =
    let same = same_volume old new unchanged.committed in
    record {
      only = only;
      needs = ap (λ (v : Volume). v.root.sectors) same;
      same = refl;
      still_there = λ files stands.
          let still = only.state stands.honest in
          let there = stands.there.represents in
          let here = subst (λ (s : State). Agrees new s.disk) still (agrees stands.honest there.agrees) in
          let same_map = unchanged.map (d.state device).disk.present in
          record {
            honest = only.honest.0 stands.honest;
            there = subst (λ (s : State). IsStoreOf (opened new spent noting) s.disk files) (sym still) (record {
              represents = stands_still old new (d.state device).disk files unchanged here there;
              notes = subst (AreNotesOf noting) (sym same_map)
                  (notes stands.honest there.agrees stands.there.notes);
            });
          };
      spent = λ is. let clash : true ≡ false = sym (told is) ∙ unspent in cc;
      has_room = λ is. subst (λ r. IfErr r IsReadFault) is cause;
      own_layout = λ is. subst (λ r. IfErr r IsReadFault) is cause;
      makes_none = λ is. subst (λ r. IfErr r IsReadFault) is cause;
    }
