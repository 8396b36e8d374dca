-- A file statement on the connector at a place, from what it does on its own.
use Rattle.std.proofs.Common.{◌≡◌, ◌<◌, true, ℕ, List, length, get_or, set, Option, Some, None, sym, ◌∙◌, ap, subst}
use Rattle.std.specs.Prelude.{◌||◌, ◌⊎◌, false, Result, Err, OnErr, IfOk, is_some}
use Rattle.station.specs.History.{Through}
use Rattle.station.specs.Blocks.{CrashLeaves}
use Rattle.station.specs.declared.device.Device.{Ghosts as Devices}
use Rattle.records.specs.declared.fault.StoreFault.{StoreFault}
use Rattle.records.specs.declared.fault.StoreFault.TheVariants.{Full, Old}
use Rattle.records.specs.declared.keeps.Keeps.{Ghosts as Stores}
use Rattle.records.specs.declared.status.Status.{Status}
use Rattle.records.specs.declared.status.Status.TheVariants.{Success}
use Rattle.records.specs.declared.verb.Verb.{Verb}
use Rattle.records.specs.declared.verb.Verb.TheVariants.{Close}
use Rattle.records.specs.Files.{Files}
use Rattle.records.specs.Stores.{Either}
use Rattle.records.specs.Calls.{Represents, ChangesFiles}
use Rattle.records.specs.Connector.{Entry, Connector, Area, closed_connector}
use Rattle.records.specs.Steps.{Step, step}
use Rattle.records.specs.FileStep.{barred_at, entry_at, file_step, has_changed, is_close, makes_file, IsStep}
use Rattle.records.specs.FileStep.{SameConnectors}
use Rattle.file_verbs.specs.declared.linked.Linked.{Linked}
use Rattle.file_verbs.specs.Links.{Ends}
use Rattle.file_verbs.specs.Connections.{entry, connector, entries_of, connectors_of, name_of, OpenLinked}
use Rattle.file_verbs.specs.Connections.{AreLinked, May}
use Rattle.file_verbs.specs.Does.{Does, IsSame, step_of}
use Rattle.file_verbs.proofs.Doing.{err_map}
use Rattle.file_verbs.proofs.Connected.{linked_at}
use Rattle.file_verbs.proofs.Performed.{length_entries, entry_here, entries_same, barred_step, own_step_is, barred_here}
use Rattle.file_verbs.proofs.Performed.{may_of, is_step, barred_is_step, same_connectors, still_all, all_after}
use Rattle.file_verbs.proofs.Performed.{still_of}
use Rattle.file_verbs.proofs.Performed.{shut_of, needs_one, ok_map, if_ok, turns_over}

-- At this place is this connector, and the tests of the connectors tell this of the verb.
pub record IsAt (all : List Linked) (i : ℕ) (old : Linked) (verb : Verb) (told : Option Status) : Type 0 where
  pub lt : i < length all
  pub here : get_or all i old ≡ old
  pub barred : barred_at (entries_of all) (connectors_of all) i verb ≡ told

-- so it is where the tests were made on the connectors, and the connector was taken from them
pub is_at : (all : List Linked) (i : ℕ) (old : Linked) (verb : Verb) {seen : List Linked} {first told : Option Status}
    → i < length (entries_of all) → seen ≡ all → first ≡ barred_at (entries_of seen) (connectors_of seen) i verb
    → first ≡ told → old ≡ get_or all i old → IsAt all i old verb told
is_at all i old verb lt same tested is here = record {
  lt = subst (λ (n : ℕ). i < n) (length_entries all) lt;
  here = sym here;
  barred = ap (λ (l : List Linked). barred_at (entries_of l) (connectors_of l) i verb) (sym same) ∙ sym tested ∙ is;
}

module _ {all : List Linked} {i : ℕ} {old : Linked} {verb : Verb} {told : Option Status}
    (at : IsAt all i old verb told) where
  pub at_entry : entry_at (entries_of all) i ≡ entry old
  at_entry = entry_here all i old at.lt at.here

  pub at_entries : (new : Linked) → new.select ≡ old.select → entries_of (set all i new) ≡ entries_of all
  at_entries new select = entries_same all i old at.lt at.here new select

  pub at_linked : (files : Files) → AreLinked files all → OpenLinked files old
  at_linked files are = subst (OpenLinked files) at.here (linked_at files all i old at.lt are)

  -- a connector that has only forgotten its READ, and one that was closed, are linked to the same files
  pub forgotten_linked : (new : Linked) → new.select ≡ old.select → new.link.mode ≡ old.link.mode
      → new.link.is_absent ≡ old.link.is_absent → (files : Files) → AreLinked files all
      → AreLinked files (set all i new)
  forgotten_linked new select mode absent files are =
      still_all all i old new at.lt at.here select files (λ is. sym (ap is_some mode) ∙ is)
      (still_of old new select files mode absent) are

  pub closed_linked : (new : Linked) → new.select ≡ old.select → new.link.mode ≡ None → (files : Files)
      → AreLinked files all → AreLinked files (set all i new)
  closed_linked new select shut files are =
      still_all all i old new at.lt at.here select files (λ is. absurd (shut_of old new select files shut is))
      (λ linked is. absurd (shut_of old new select files shut is)) are

-- a statement that a test bars
module _ {all : List Linked} {i : ℕ} {old : Linked} {verb : Verb} {status : Status}
    (at : IsAt all i old verb (Some status)) where
  pub barred_files : (files : Files) (a : Area)
      → (file_step (entries_of all) files (connectors_of all) i verb a).files ≡ files
  barred_files files a =
      ap (λ (t : Step). t.files) (barred_step all i old at.lt at.here files a verb status at.barred)

  pub barred_ends : (new : Linked) → new.select ≡ old.select → connector new ≡ record (connector old) { read = None }
      → (files : Files) (a : Area)
      → IsStep (connectors_of all) i (file_step (entries_of all) files (connectors_of all) i verb a) status
      (connectors_of (set all i new)) a
  barred_ends new select now files a =
      barred_is_step all i old new at.lt at.here select files a verb status at.barred now

-- a statement that no test bars
module _ {all : List Linked} {i : ℕ} {old : Linked} {verb : Verb} (at : IsAt all i old verb None) where
  pub at_may : May old verb
  at_may = may_of all i old at.lt at.here verb (barred_here all i old at.lt at.here verb at.barred)

  pub at_step : (files : Files) (a : Area)
      → file_step (entries_of all) files (connectors_of all) i verb a ≡ step_of verb files old a
  at_step files a = own_step_is all i old at.lt at.here files a verb at.barred

  pub at_needs : is_close verb ≡ false
      → (is_some (barred_at (entries_of all) (connectors_of all) i verb) || is_close verb) ≡ true → ⊥
  at_needs other is =
      needs_one (barred_at (entries_of all) (connectors_of all) i verb) (is_close verb) at.barred other is

  -- CLOSE
  closes : verb ≡ Close → (files : Files) (a : Area)
      → step_of verb files old a ≡ step (entry old) files (connector old) a Close
  closes is files a = ap (λ (v : Verb). step (entry old) files (connector old) a v) is

  pub closed_files : verb ≡ Close → (files : Files) (a : Area)
      → (file_step (entries_of all) files (connectors_of all) i verb a).files ≡ files
  closed_files is files a = ap (λ (t : Step). t.files) (at_step files a ∙ closes is files a)

  pub closed_ends : verb ≡ Close → (new : Linked) → new.select ≡ old.select → connector new ≡ closed_connector
      → (files : Files) (a : Area)
      → IsStep (connectors_of all) i (file_step (entries_of all) files (connectors_of all) i verb a) Success
      (connectors_of (set all i new)) a
  closed_ends is new select now files a =
      let e = closes is files a in
      is_step all i old new at.lt at.here select files a a verb Success at.barred (record {
        status_is = sym (ap (λ (t : Step). t.status) e);
        connector_is = now ∙ sym (ap (λ (t : Step). t.connector) e);
        area_is = sym (ap (λ (t : Step). t.area) e);
      })

-- the others
module _ {S : Type 0} {s : Stores S} {D : Type 0} {d : Devices D} {all : List Linked} {i : ℕ} {old new : Linked}
    {verb : Verb} {result : Result Status StoreFault} {store store' : S} {device device' : D} {a left : Area}
    (at : IsAt all i old verb None) (does : Does s d verb result store device store' device' old new a left) where
  pub does_step : (files : Files) → Represents s d store device files → AreLinked files all
      → IfOk result (λ status. IsStep (connectors_of all) i
      (file_step (entries_of all) files (connectors_of all) i verb a) status (connectors_of (set all i new)) left)
  does_step files stands are = if_ok (λ status. Ends (step_of verb files old a) status (connector new) left)
      (λ status. IsStep (connectors_of all) i (file_step (entries_of all) files (connectors_of all) i verb a) status
      (connectors_of (set all i new)) left) result
      (λ status ends. is_step all i old new at.lt at.here does.select files a left verb status at.barred ends)
      (does.step files stands (at_linked at files are))

  pub does_full : (files : Files) → Represents s d store device files → AreLinked files all
      → (result ≡ Err Full) ⊎ (result ≡ Err Old)
      → has_changed verb (file_step (entries_of all) files (connectors_of all) i verb a).status ≡ true
  does_full files stands are is = ap (λ (t : Step). has_changed verb t.status) (at_step at files a)
      ∙ does.full files stands (at_linked at files are) is

  pub does_refused : OnErr result (SameConnectors (connectors_of all) (connectors_of (set all i new)) a left)
  does_refused = err_map result (λ same. record {
    connectors_are = same_connectors all i old new at.lt at.here does.select same.connector_is;
    area_is = same.area_is;
  }) does.same

  -- after a refusal it is linked as before
  pub does_still : IsSame old new a left → (files : Files) → AreLinked files all → AreLinked files (set all i new)
  does_still same files are = forgotten_linked at new does.select (ap (λ (k : Connector). k.mode) same.connector_is)
      same.absent_is files are

  -- what keeps connectors, over what keeps their store
  module _ {C : Type 0} {c : Stores C} {self self' : C} where
    pub does_turns : is_close verb ≡ false → (files : Files) → Represents s d store device files → AreLinked files all
        → (s.stands store' (d.state device').disk (step_of verb files old a).files
        → AreLinked (step_of verb files old a).files (set all i new)
        → c.stands self' (d.state device').disk (step_of verb files old a).files)
        → (Through (d.history device) (d.history device') (d.state device')
        (CrashLeaves (d.state device).events (Either s.holds files (step_of verb files old a).files))
        → Through (d.history device) (d.history device') (d.state device')
        (CrashLeaves (d.state device).events (Either c.holds files (step_of verb files old a).files)))
        → ((fault : StoreFault) → s.lacks fault (d.state device).disk.present (makes_file verb) (name_of old) files
        (step_of verb files old a).files → c.lacks fault (d.state device).disk.present (makes_file verb) (name_of old)
        files (step_of verb files old a).files)
        → ChangesFiles c d result (makes_file verb) (entry_at (entries_of all) i).name files
        (file_step (entries_of all) files (connectors_of all) i verb a).files self device self' device'
    does_turns other files stands are up moments lacks =
        turns_over s d result store device store' device' (makes_file verb) (name_of old) _ files
        (step_of verb files old a).files _ (ap (λ (e : Entry). e.name) (at_entry at))
        (ap (λ (t : Step). t.files) (at_step at files a))
        (ok_map result (λ now there. up there (all_after all i old new at.lt at.here does.select files a verb other
        at.barred are now)) (does.linked files stands (at_linked at files are))) moments lacks
        (does.turns files stands (at_linked at files are))
