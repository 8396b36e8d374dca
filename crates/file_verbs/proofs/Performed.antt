-- A file statement on one of several connectors.
use Rattle.std.proofs.Common.{◌≡◌, ◌<◌, ◌&&◌, Bool, true, false, not, ℕ, zero, suc, List, [], ◌∷◌, length, get_or, set}
use Rattle.std.proofs.Common.{Option, Some, None, refl, sym, ◌∙◌, ap, subst, inl, inr, arith, if◌then◌else◌}
use Rattle.std.specs.Prelude.{◌||◌, ◌⊎◌, Result, Ok, Err, OnOk, OnErr, IfOk, is_some}
use Rattle.std.specs.List.{AllByRecursion}
use Rattle.std.proofs.lemmas.List.{append-nil, map-set, get_or-map}
use Rattle.std.proofs.Math.Seq.{map-set_same}
use Rattle.station.specs.Disk.{Sector, IsCrashImage}
use Rattle.station.specs.History.{Through}
use Rattle.station.specs.Blocks.{CrashLeaves}
use Rattle.station.specs.declared.device.Device.{Ghosts as Devices}
use Rattle.records.specs.declared.fault.StoreFault.{StoreFault}
use Rattle.records.specs.declared.fault.StoreFault.TheVariants.{Full, Old}
use Rattle.records.specs.declared.keeps.Keeps.{Ghosts as Stores}
use Rattle.records.specs.declared.select.Select.{Select}
use Rattle.records.specs.declared.status.Status.{Status}
use Rattle.records.specs.declared.status.Status.TheVariants.{AlreadyOpen}
use Rattle.records.specs.declared.verb.OpenMode.{OpenMode}
use Rattle.records.specs.declared.verb.Verb.{Verb}
use Rattle.records.specs.declared.verb.Verb.TheVariants.{Open, Close, ReadNext, Read, Write, Rewrite, Delete, Start}
use Rattle.records.specs.Rows.{same_bytes}
use Rattle.records.specs.Files.{File, Files, file_at, with_file}
use Rattle.records.specs.Stores.{Either}
use Rattle.records.specs.Calls.{Represents, Changes, ChangesFiles, Rests}
use Rattle.records.specs.Tests.{barred_status, status_unless, is_name_open}
use Rattle.records.specs.Connector.{Entry, Connector, Area, entry_of, closed_connector}
use Rattle.records.specs.Steps as steps
use Rattle.records.specs.Steps.{Step, step}
use Rattle.records.specs.FileStep.{entry_at, connector_at, no_entry, barred_at, own_step, file_step, is_close, IsStep}
use Rattle.records.proofs.Maps.{others_stay, same_itself}
use Rattle.file_verbs.specs.declared.linked.Linked.{Linked}
use Rattle.file_verbs.specs.Links.{IsLinked, Ends}
use Rattle.file_verbs.specs.Connections.{entry, connector, entries_of, connectors_of, is_open, name_of, OpenLinked}
use Rattle.file_verbs.specs.Connections.{AllApart, AreLinked, May}
use Rattle.file_verbs.proofs.Stepped as stepped
use Rattle.file_verbs.proofs.Doing.{unless_none, same_absent, own_spec, change_open, next_open, read_open, start_open}
use Rattle.file_verbs.proofs.Doing.{write_open}
use Rattle.file_verbs.proofs.Connected.{Other, Others, all_shut, shut_others, others_apart, linked_after, linked_at}
use Rattle.file_verbs.proofs.Connected.{still_linked}

-- the connector at its place
module _ (all : List Linked) (i : ℕ) (old : Linked) (lt : i < length all) (here : get_or all i old ≡ old) where
  pub entry_here : entry_at (entries_of all) i ≡ entry old
  entry_here = get_or-map entry all i old no_entry lt ∙ ap entry here

  pub connector_here : connector_at (connectors_of all) i ≡ connector old
  connector_here = get_or-map connector all i old closed_connector lt ∙ ap connector here

  pub entries_same : (new : Linked) → new.select ≡ old.select → entries_of (set all i new) ≡ entries_of all
  entries_same new select = map-set_same entry all i new old (ap entry_of select ∙ sym (ap entry here))

  pub connectors_set : (new : Linked) → connectors_of (set all i new) ≡ set (connectors_of all) i (connector new)
  connectors_set new = map-set connector all i new

  -- a step that a test of the connectors bars, and one that none does
  pub barred_step : (files : Files) (a : Area) (verb : Verb) (status : Status)
      → barred_at (entries_of all) (connectors_of all) i verb ≡ Some status → file_step (entries_of all) files
      (connectors_of all) i verb a ≡ steps.end_step (entry old) files (connector old) a status
  barred_step files a verb status is =
      ap (own_step (entry_at (entries_of all) i) files (connector_at (connectors_of all) i) a verb) is
      ∙ ap (λ (e : Entry). steps.end_step e files (connector_at (connectors_of all) i) a status) entry_here
      ∙ ap (λ (c : Connector). steps.end_step (entry old) files c a status) connector_here

  pub own_step_is : (files : Files) (a : Area) (verb : Verb)
      → barred_at (entries_of all) (connectors_of all) i verb ≡ None
      → file_step (entries_of all) files (connectors_of all) i verb a ≡ step (entry old) files (connector old) a verb
  own_step_is files a verb is =
      ap (own_step (entry_at (entries_of all) i) files (connector_at (connectors_of all) i) a verb) is
      ∙ ap (λ (e : Entry). step e files (connector_at (connectors_of all) i) a verb) entry_here
      ∙ ap (λ (c : Connector). step (entry old) files c a verb) connector_here

  pub barred_here : (verb : Verb) → barred_at (entries_of all) (connectors_of all) i verb ≡ None
      → barred_status (entries_of all) (connectors_of all) (entry old) (connector old) verb ≡ None
  barred_here verb is = sym (ap (λ (e : Entry).
      barred_status (entries_of all) (connectors_of all) e (connector_at (connectors_of all) i) verb) entry_here
      ∙ ap (λ (c : Connector). barred_status (entries_of all) (connectors_of all) (entry old) c verb) connector_here)
      ∙ is

-- the tests of one connector passed
at_other : (name : List ℕ) (all : List Linked) (i : ℕ) (d : Linked) → i < length all → AllByRecursion (Other name) all
    → Other name (get_or all i d)
at_other name [] i d lt each = absurd (omega (arith, lt))
at_other name (one ∷ more) zero d lt each = each.0
at_other name (one ∷ more) (suc i) d lt each = at_other name more i d (omega (arith, lt)) each.1

shut_by : (b : Bool) (name : List ℕ) → (b ≡ true → same_bytes name name ≡ false) → b ≡ false
shut_by true name apart = let e : true ≡ false = sym (same_itself name) ∙ apart refl in absurd cc
shut_by false name apart = refl

unless_shut : (b c : Bool) → b ≡ false → status_unless (not (if b && c then true else false)) AlreadyOpen ≡ None
unless_shut true c is = absurd cc
unless_shut false c is = refl

not_false : (b : Bool) → not b ≡ true → b ≡ false
not_false true is = absurd cc
not_false false is = refl

module _ (all : List Linked) (i : ℕ) (old : Linked) (lt : i < length all) (here : get_or all i old ≡ old) where
  name_free : (mode : OpenMode) → barred_status (entries_of all) (connectors_of all) (entry old) (connector old)
      (Open mode) ≡ None → AllByRecursion (Other (name_of old)) all
  name_free mode is =
      all_shut (name_of old) all (not_false (is_name_open (name_of old) (entries_of all) (connectors_of all))
      (unless_none (not (is_name_open (name_of old) (entries_of all) (connectors_of all))) AlreadyOpen is))

  pub own_shut : (mode : OpenMode) → barred_status (entries_of all) (connectors_of all) (entry old) (connector old)
      (Open mode) ≡ None → is_open old ≡ false
  own_shut mode is = shut_by (is_open old) (name_of old)
      (subst (Other (name_of old)) here (at_other (name_of old) all i old lt (name_free mode is)))

  pub may_of : (verb : Verb)
      → barred_status (entries_of all) (connectors_of all) (entry old) (connector old) verb ≡ None → May old verb
  may_of (Open mode) is = unless_shut (is_open old) (same_bytes (name_of old) (name_of old)) (own_shut mode is)
  may_of Close is = is
  may_of ReadNext is = is
  may_of (Read key) is = is
  may_of Write is = is
  may_of Rewrite is = is
  may_of Delete is = is
  may_of (Start relation key count) is = is

  open_others : is_open old ≡ true → AllApart all → Others i (name_of old) all
  open_others opened apart = subst (λ (o : Linked). Others i (name_of o) all) here
      (others_apart all i old lt (subst (λ (o : Linked). is_open o ≡ true) (sym here) opened) apart)

  -- no other opened file has the name
  pub others_of : (verb : Verb) → is_close verb ≡ false
      → barred_status (entries_of all) (connectors_of all) (entry old) (connector old) verb ≡ None → AllApart all
      → Others i (name_of old) all
  others_of (Open mode) other is apart = shut_others i (name_of old) all (name_free mode is)
  others_of Close other is apart = absurd cc
  others_of ReadNext other is apart = open_others (next_open old is) apart
  others_of (Read key) other is apart = open_others (read_open old key is) apart
  others_of Write other is apart = open_others (write_open old is) apart
  others_of Rewrite other is apart = open_others (change_open old is) apart
  others_of Delete other is apart = open_others (change_open old is) apart
  others_of (Start relation key count) other is apart = open_others (start_open old relation key count is) apart

-- a step leaves the files of other names
abbrev OthersSame : List ℕ → Files → Files → Type 0
OthersSame name files after =
    (other : List ℕ) → same_bytes name other ≡ false → file_at other after ≡ file_at other files

module _ (files : Files) (one : Linked) (a : Area) where
  same : OthersSame (name_of one) files files
  same other apart = refl

  put : (file : File) → file.spec ≡ (entry one).spec
      → OthersSame (name_of one) files (with_file (name_of one) file files)
  put file spec other apart = others_stay (name_of one) other file files apart

  pub others_same : (verb : Verb) → May one verb → OpenLinked files one
      → OthersSame (name_of one) files (step (entry one) files (connector one) a verb).files
  others_same (Open mode) may linked =
      stepped.opening (entry one) files (connector one) a (OthersSame (name_of one) files) same put mode
  others_same Close may linked = same
  others_same ReadNext may linked = stepped.reading_next (entry one) files (connector one) a
      (OthersSame (name_of one) files) same put (connector one).position
  others_same (Read key) may linked =
      stepped.reading (entry one) files (connector one) a (OthersSame (name_of one) files) same put key _
  others_same Write may linked = stepped.writing (entry one) files (connector one) a (OthersSame (name_of one) files)
      same put (own_spec files one a (linked (write_open one may)))
  others_same Rewrite may linked = stepped.rewriting (entry one) files (connector one) a
      (OthersSame (name_of one) files) same put (own_spec files one a (linked (change_open one may)))
  others_same Delete may linked = stepped.deleting (entry one) files (connector one) a (OthersSame (name_of one) files)
      same put (own_spec files one a (linked (change_open one may)))
  others_same (Start relation key count) may linked =
      stepped.starting (entry one) files (connector one) a (OthersSame (name_of one) files) same put key _

pub ok_map : {T E A B : Type 0} (result : Result T E) → (A → B) → OnOk result A → OnOk result B
ok_map (Ok x) f a = f a
ok_map (Err e) f a = tt

ok_both : {T E A B C : Type 0} (result : Result T E) → (A → B → C) → OnOk result A → OnOk result B → OnOk result C
ok_both (Ok x) f a b = f a b
ok_both (Err e) f a b = tt

pub err_both : {T E A B C : Type 0} (result : Result T E) → (A → B → C) → OnErr result A → OnErr result B
    → OnErr result C
err_both (Ok x) f a b = tt
err_both (Err e) f a b = f a b

pub if_ok : {T E : Type 0} (P Q : T → Type 0) (result : Result T E) → ((x : T) → P x → Q x) → IfOk result P
    → IfOk result Q
if_ok P Q (Ok x) f p = f x p
if_ok P Q (Err e) f p = tt

-- from a store to what holds it
module _ {S S' : Type 0} (s : Stores S) {s' : Stores S'} {D : Type 0} (d : Devices D) {T : Type 0}
    (result : Result T StoreFault) (old : S) (device : D) (new : S) (device' : D) {old' new' : S'} where
  pub changes_over : s'.needs old' ≡ s.needs old → s'.needs new' ≡ s.needs new → s'.is_spent old' ≡ s.is_spent old
      → s'.is_spent new' ≡ s.is_spent new → Changes s d result old device new device'
      → Changes s' d result old' device new' device'
  changes_over needs needs' spent spent' changes = record {
    only = changes.only;
    needs = needs' ∙ changes.needs ∙ sym needs;
    same = ok_map result (λ same. spent' ∙ same ∙ sym spent) changes.same;
    spent = λ is. spent ∙ changes.spent is;
    own_layout = changes.own_layout;
    unwritten = changes.unwritten;
  }

  pub turns_over : (is_new : Bool) (name name' : List ℕ) (before after after' : Files) → name' ≡ name → after' ≡ after
      → OnOk result (s.stands new (d.state device').disk after → s'.stands new' (d.state device').disk after)
      → (Through (d.history device) (d.history device')
      (d.state device') (CrashLeaves (d.state device).events (Either s.holds before after)) → Through (d.history device)
      (d.history device') (d.state device') (CrashLeaves (d.state device).events (Either s'.holds before after)))
      → ((fault : StoreFault) → s.lacks fault (d.state device).disk.present is_new name before after
      → s'.lacks fault (d.state device).disk.present is_new name before after)
      → ChangesFiles s d result is_new name before after old device new device'
      → ChangesFiles s' d result is_new name' before after' old' device new' device'
  turns_over is_new name name' before after after' named files lift moments lacks turns =
      subst (λ (n : List ℕ). ChangesFiles s' d result is_new n before after' old' device new' device') (sym named)
      (subst (λ (f : Files). ChangesFiles s' d result is_new name before f old' device new' device') (sym files)
      (record {
        there = ok_both result (λ up there. record { honest = there.honest; there = up there.there }) lift turns.there;
        moments = moments turns.moments;
        sound = turns.sound;
        room = λ full. lacks Full (turns.room full);
        mark = λ is. lacks Old (turns.mark is);
      }))

  pub rests_over : s'.is_spent new' ≡ s.is_spent new
      → ((files : Files) → Represents s' d old' device files → Represents s d old device files) → ((files : Files)
      → Represents s' d old' device files → Represents s d new device' files → Represents s' d new' device' files)
      → Rests s d old device new device' → Rests s' d old' device new' device'
  rests_over spent down up (inl is) = inl (spent ∙ is)
  rests_over spent down up (inr rests) = inr (λ files stands. up files stands (rests files (down files stands)))

-- where nothing is done to the files
pub still_turns : {S : Type 0} {s : Stores S} {D : Type 0} (d : Devices D) {T : Type 0} (told : T)
    (is_new : Bool) (name : List ℕ) (files after : Files) {old : S} (device : D) {new : S} → after ≡ files
    → Represents s d new device files
    → ((image : List Sector) → IsCrashImage (d.state device).disk image → s.holds image files)
    → ChangesFiles s d {T = T} (Ok told) is_new name files after old device new device
still_turns {S} {s} {D} d {T} told is_new name files after {old} device {new} same stands images =
    subst (λ (f : Files). ChangesFiles s d {T = T} (Ok told) is_new name files f old device new device) (sym same)
    (record {
      there = stands;
      moments = record {
        spans = record { during = []; adds = sym (append-nil (d.history device)); each = tt };
        now = record { events = refl; images = λ image crash. inl (images image crash) };
      };
      sound = λ is. absurd cc;
      room = λ is. absurd cc;
      mark = λ is. absurd cc;
    })

pub known_step : {A B C : Type 0} → (A → C) → (B → ⊥) → A ⊎ B → C
known_step f g (inl a) = f a
known_step f g (inr b) = absurd (g b)

pub not_close : (verb : Verb) → (verb ≡ Close → ⊥) → is_close verb ≡ false
not_close (Open mode) other = refl
not_close Close other = absurd (other refl)
not_close ReadNext other = refl
not_close (Read key) other = refl
not_close Write other = refl
not_close Rewrite other = refl
not_close Delete other = refl
not_close (Start relation key count) other = refl

pub needs_one : (o : Option Status) (b : Bool) → o ≡ None → b ≡ false → (is_some o || b) ≡ true → ⊥
needs_one None false none shut is = cc
needs_one None true none shut is = cc
needs_one (Some status) b none shut is = cc

pub length_entries : (all : List Linked) → length (entries_of all) ≡ length all
length_entries [] = refl
length_entries (one ∷ more) = ap (λ (n : ℕ). suc n) (length_entries more)

-- a connector that nothing was done to, or that was closed
module _ (old new : Linked) (select : new.select ≡ old.select) where
  pub same_name : name_of new ≡ name_of old
  same_name = ap (λ (t : Select). t.file.name.items) select

  pub still_of : (files : Files) → new.link.mode ≡ old.link.mode → new.link.is_absent ≡ old.link.is_absent
      → OpenLinked files old → OpenLinked files new
  still_of files mode absent linked is = subst (λ (t : Select). IsLinked files t new.link) (sym select)
      (same_absent files old.select old.link new.link absent mode (linked (sym (ap is_some mode) ∙ is)))

  pub shut_of : (files : Files) → new.link.mode ≡ None → is_open new ≡ true → ⊥
  shut_of files shut is = let e : false ≡ true = sym (ap is_some shut) ∙ is in cc

-- one statement among several connectors
module _ (all : List Linked) (i : ℕ) (old new : Linked) (lt : i < length all) (here : get_or all i old ≡ old)
    (select : new.select ≡ old.select) where
  pub is_step : (files : Files) (a left : Area) (verb : Verb) (status : Status)
      → barred_at (entries_of all) (connectors_of all) i verb ≡ None
      → Ends (step (entry old) files (connector old) a verb) status (connector new) left
      → IsStep (connectors_of all) i (file_step (entries_of all) files (connectors_of all) i verb a) status
      (connectors_of (set all i new)) left
  is_step files a left verb status none ends =
      let e = own_step_is all i old lt here files a verb none in
      record {
        status_is = ends.status_is ∙ sym (ap (λ (t : Step). t.status) e);
        area_is = ends.area_is ∙ sym (ap (λ (t : Step). t.area) e);
        connectors_are = connectors_set all i old lt here new
            ∙ ap (set (connectors_of all) i) (ends.connector_is ∙ sym (ap (λ (t : Step). t.connector) e));
      }

  pub barred_is_step : (files : Files) (a : Area) (verb : Verb) (status : Status)
      → barred_at (entries_of all) (connectors_of all) i verb ≡ Some status
      → connector new ≡ record (connector old) { read = None }
      → IsStep (connectors_of all) i (file_step (entries_of all) files (connectors_of all) i verb a) status
      (connectors_of (set all i new)) a
  barred_is_step files a verb status some now =
      let e = barred_step all i old lt here files a verb status some in
      record {
        status_is = sym (ap (λ (t : Step). t.status) e);
        area_is = sym (ap (λ (t : Step). t.area) e);
        connectors_are = connectors_set all i old lt here new
            ∙ ap (set (connectors_of all) i) (now ∙ sym (ap (λ (t : Step). t.connector) e));
      }

  pub same_connectors : connector new ≡ connector old → connectors_of (set all i new) ≡ connectors_of all
  same_connectors same = map-set_same connector all i new old (same ∙ sym (ap connector here))

  pub still_all : (files : Files) → (is_open new ≡ true → is_open old ≡ true)
      → (OpenLinked files old → OpenLinked files new) → AreLinked files all → AreLinked files (set all i new)
  still_all files less from are = still_linked files all i old new lt here (same_name old new select) less from are

  pub all_after : (files : Files) (a : Area) (verb : Verb)
      → is_close verb ≡ false → barred_at (entries_of all) (connectors_of all) i verb ≡ None → AreLinked files all
      → OpenLinked (step (entry old) files (connector old) a verb).files new
      → AreLinked (step (entry old) files (connector old) a verb).files (set all i new)
  all_after files a verb other none are now =
      let is = barred_here all i old lt here verb none in
      let name = same_name old new select in
      linked_after files (step (entry old) files (connector old) a verb).files all i new
      (subst (λ (n : List ℕ). OthersSame n files (step (entry old) files (connector old) a verb).files)
      (sym name) (others_same files old a verb (may_of all i old lt here verb is)
      (subst (OpenLinked files) here (linked_at files all i old lt are))))
      (subst (λ (n : List ℕ). Others i n all) (sym name) (others_of all i old lt here verb other is are.apart)) now are
