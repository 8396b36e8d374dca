-- From what each verb's function says to what a verb does.
use Rattle.std.proofs.Common.{◌≡◌, ⊎_elim, ℕ, Bool, true, false, List, Option, Some, None, refl, sym, ◌∙◌, ap, subst}
use Rattle.std.proofs.Common.{inl, inr}
use Rattle.std.specs.Prelude.{◌≢◌, ◌⊎◌, ◌&&◌, not, Result, Ok, Err, IfOk, OnOk, OnErr, is_some, unwrap_or}
use Rattle.std.specs.Prelude.{if◌then◌else◌}
use Rattle.std.specs.Option.{option_map}
use Rattle.station.specs.Disk.{Disk, Sector, IsCrashImage}
use Rattle.station.specs.declared.device.Device.{Ghosts as Devices}
use Rattle.records.specs.declared.fault.StoreFault.{StoreFault}
use Rattle.records.specs.declared.fault.StoreFault.TheVariants.{Full, Damaged, Old}
use Rattle.records.specs.declared.keeps.Keeps.{Ghosts as Stores}
use Rattle.records.specs.declared.select.Select.{Select}
use Rattle.records.specs.declared.status.Status.{Status}
use Rattle.records.specs.declared.status.Status.TheVariants.{AlreadyOpen, NotForReading, NoPosition, NotForWriting}
use Rattle.records.specs.declared.status.Status.TheVariants.{NotForChanging, NoReadBefore, NumberTooLong}
use Rattle.records.specs.declared.key.KeyOfReference.{KeyOfReference}
use Rattle.records.specs.declared.select.Access.{Access}
use Rattle.records.specs.declared.verb.OpenMode.{OpenMode}
use Rattle.records.specs.declared.verb.Relation.{Relation}
use Rattle.records.specs.declared.verb.Relation.TheVariants.{Equal}
use Rattle.records.specs.declared.verb.Verb.TheVariants.{Open, ReadNext, Read, Write, Rewrite, Delete, Start}
use Rattle.records.specs.Rows.{same_bytes}
use Rattle.records.proofs.Maps.{same_itself, found_again}
use Rattle.records.specs.declared.verb.Verb.{Verb}
use Rattle.records.specs.Files.{File, Files, with_file, empty_file}
use Rattle.records.specs.Rows.{Row}
use Rattle.records.specs.Order.{RowBound, sought_row}
use Rattle.records.specs.Steps as steps
use Rattle.records.specs.Steps.{Step}
use Rattle.std.proofs.lemmas.Bool.{cond_both}
use Rattle.file_verbs.proofs.Stepped as stepped
use Rattle.records.specs.Stores.{spec_of, key_length}
use Rattle.records.specs.Calls.{Represents, OnlyReadsFiles, Changes, ChangesFiles, Rests}
use Rattle.records.specs.Connector.{Area}
use Rattle.records.specs.Tests.{is_sequential, may_read, may_write, may_change, status_unless, then_unless}
use Rattle.records.specs.FileStep.{makes_file, has_changed, can_change_files}
use Rattle.records.proofs.Calls.{reads_changes, reads_rests, reads_turns}
use Rattle.file_verbs.specs.declared.link.Link.{Link}
use Rattle.file_verbs.specs.declared.linked.Linked.{Linked}
use Rattle.file_verbs.specs.Links.{IsLinked, There, Gone, Ends, SameLink, connector_of}
use Rattle.file_verbs.specs.Connections.{entry, connector, name_of, is_open, May}
use Rattle.file_verbs.specs.Does.{Does, step_of}

-- the tests that passed
pub unless_none : (b : Bool) (status : Status) → status_unless b status ≡ None → b ≡ true
unless_none true status is = refl
unless_none false status is = absurd cc

pub then_none : (o : Option Status) (b : Bool) (status : Status) → then_unless o b status ≡ None
    → (o ≡ None) × (b ≡ true)
then_none None b status is = (refl, unless_none b status is)
then_none (Some told) b status is = absurd cc

pub same_absent : (files : Files) (s : Select) (old new : Link) → new.is_absent ≡ old.is_absent → new.mode ≡ old.mode
    → IsLinked files s old → IsLinked files s new
same_absent files s old new absent mode (There there held has) = There (absent ∙ there) held has
same_absent files s old new absent mode (Gone gone is none) = Gone (absent ∙ gone) (mode ∙ is) none

on_ok : {T E A : Type 0} (result : Result T E) → A → OnOk result A
on_ok (Ok x) a = a
on_ok (Err e) a = tt

if_ok : {T E : Type 0} (P Q : T → Type 0) (result : Result T E) → IfOk result P → ((x : T) → P x → Q x) → IfOk result Q
if_ok P Q (Ok x) p f = f x p
if_ok P Q (Err e) p f = tt

if_any : {T E : Type 0} (Q : T → Type 0) (result : Result T E) → ((x : T) → Q x) → IfOk result Q
if_any Q (Ok x) f = f x
if_any Q (Err e) f = tt

pub err_any : {T E A : Type 0} (result : Result T E) → A → OnErr result A
err_any (Ok x) a = tt
err_any (Err e) a = a

pub err_map : {T E A B : Type 0} (result : Result T E) → (A → B) → OnErr result A → OnErr result B
err_map (Ok x) f a = tt
err_map (Err e) f a = f a

err_both : {T E A B C : Type 0} (result : Result T E) → OnErr result A → OnErr result B → (A → B → C) → OnErr result C
err_both (Ok x) a b f = tt
err_both (Err e) a b f = f a b

-- what the tests of one connector tell
readable_open : (mode : Option OpenMode) → may_read mode ≡ true → is_some mode ≡ true
readable_open None is = absurd cc
readable_open (Some mode) is = refl

writable_open : (access : Access) (mode : Option OpenMode) → may_write access mode ≡ true → is_some mode ≡ true
writable_open access None is = absurd cc
writable_open access (Some mode) is = refl

changeable_open : (mode : Option OpenMode) → may_change mode ≡ true → is_some mode ≡ true
changeable_open None is = absurd cc
changeable_open (Some mode) is = refl

some_of : {A B : Type 0} (f : A → B) (o : Option A) → is_some (option_map f o) ≡ true → is_some o ≡ true
some_of f None is = absurd cc
some_of f (Some x) is = refl

pub next_open : (one : Linked) → May one ReadNext → is_open one ≡ true
next_open one may = readable_open one.link.mode (unless_none (may_read one.link.mode) NotForReading (then_none
    (status_unless (may_read one.link.mode) NotForReading) (is_some (connector one).position) NoPosition may).0)

pub next_side : (one : Linked) → May one ReadNext → is_some one.link.side ≡ true
next_side one may = some_of _ one.link.side (then_none (status_unless (may_read one.link.mode) NotForReading)
    (is_some (connector one).position) NoPosition may).1

pub read_open : (one : Linked) (key : KeyOfReference) → May one (Read key) → is_open one ≡ true
read_open one key may = readable_open one.link.mode (unless_none (may_read one.link.mode) NotForReading may)

pub start_open : (one : Linked) (relation : Relation) (key : KeyOfReference) (count : ℕ)
    → May one (Start relation key count) → is_open one ≡ true
start_open one relation key count may =
    readable_open one.link.mode (unless_none (may_read one.link.mode) NotForReading may)

pub write_may : (one : Linked) → May one Write → may_write one.select.access one.link.mode ≡ true
write_may one may = unless_none (may_write one.select.access one.link.mode) NotForWriting may

pub write_open : (one : Linked) → May one Write → is_open one ≡ true
write_open one may = writable_open one.select.access one.link.mode (write_may one may)

was_read_by : {A : Type 0} (x : A) (s w : Bool) → (if s then is_some (if w then Some x else None) else true) ≡ true
    → s ≡ true → w ≡ true
was_read_by x true true is seq = refl
was_read_by x true false is seq = absurd cc
was_read_by x false w is seq = absurd cc

abbrev pub MayChange : Linked → Type 0
MayChange one = then_unless (status_unless (may_change one.link.mode) NotForChanging)
    (if is_sequential one.select.access then is_some (connector one).read else true) NoReadBefore ≡ None

pub change_may : (one : Linked) → MayChange one → may_change one.link.mode ≡ true
change_may one may =
    unless_none (may_change one.link.mode) NotForChanging (then_none (status_unless (may_change one.link.mode)
    NotForChanging) (if is_sequential one.select.access then is_some (connector one).read else true) NoReadBefore may).0

pub change_read : (one : Linked) → MayChange one → is_sequential one.select.access ≡ true → one.link.was_read ≡ true
change_read one may = was_read_by _ (is_sequential one.select.access)
    one.link.was_read (then_none (status_unless (may_change one.link.mode) NotForChanging)
    (if is_sequential one.select.access then is_some (connector one).read else true) NoReadBefore may).1

pub change_open : (one : Linked) → MayChange one → is_open one ≡ true
change_open one may = changeable_open one.link.mode (change_may one may)

pub open_shut : (one : Linked) (mode : OpenMode) → May one (Open mode) → is_open one ≡ false
open_shut one mode may = by (is_open one) (same_bytes (name_of one) (name_of one)) (same_itself (name_of one)) may
  where
    by : (b c : Bool) → c ≡ true → status_unless (not (if b && c then true else false)) AlreadyOpen ≡ None → b ≡ false
    by true true same is = absurd cc
    by true false same is = absurd cc
    by false c same is = refl

module _ {S : Type 0} (s : Stores S) {D : Type 0} (d : Devices D) (verb : Verb) (result : Result Status StoreFault)
    (store : S) (device : D) (store' : S) (device' : D) (old new : Linked) (area left : Area) where
  -- a verb that reads
  pub reads_do : ((disk : Disk) (image : List Sector) (files : Files) → s.stands store disk files
      → IsCrashImage disk image → s.holds image files)
      → OnlyReadsFiles s d result store device store' device' → new.select ≡ old.select → is_open old ≡ true
      → ((files : Files) → Represents s d store device files → IsLinked files old.select old.link
      → IfOk result (λ status. Ends (step_of verb files old area) status (connector new) left))
      → ((files : Files) → Represents s d store device files → IsLinked files old.select old.link
      → result ≢ Err Damaged)
      → new.link.mode ≡ old.link.mode → new.link.is_absent ≡ old.link.is_absent
      → OnErr result (SameLink old.select old.link new.link) → OnErr result (left ≡ area)
      → ((files : Files) → files ≡ (step_of verb files old area).files)
      → Does s d verb result store device store' device' old new area left
  reads_do held reads select opened step sound mode absent same area_same stays = record {
    changes = reads_changes s d result store device store' device' reads;
    select = select;
    step = λ files stands linked. step files stands (linked opened);
    linked =
        λ files stands linked. on_ok result (λ _. subst (λ (f : Files). IsLinked f new.select new.link) (stays files)
        (subst (λ (t : Select). IsLinked files t new.link) (sym select)
        (same_absent files old.select old.link new.link absent mode (linked opened))));
    turns = λ files stands linked. subst (λ (f : Files).
        ChangesFiles s d result (makes_file verb) (name_of old) files f store device store' device') (stays files)
        (reads_turns s d result store device store' device' reads held (makes_file verb) (name_of old) files stands
        (sound files stands (linked opened)));
    full = λ files stands linked is.
        ⊎_elim (λ full. absurd (reads.has_room full)) (λ old. absurd (reads.makes_none old)) is;
    never_full = λ none. (reads.has_room, reads.makes_none);
    mark = λ is. absurd (reads.makes_none is);
    idle = λ honest. if_any (λ status. has_changed verb status ≡ false → d.state device' ≡ d.state device) result
        (λ status no. reads.only.state honest);
    same = err_both result same area_same (λ link area_is. record {
      connector_is = ap (λ (t : Select). connector_of (spec_of t.file) new.link) select ∙ link.connector;
      absent_is = link.absent;
      area_is = area_is;
    });
    rests = reads_rests s d result store device store' device' reads;
  }

  -- a verb that changes a row
  pub changes_do : Changes s d result store device store' device' → new.select ≡ old.select → is_open old ≡ true
      → ((files : Files) → Represents s d store device files → IsLinked files old.select old.link
      → IfOk result (λ status. Ends (step_of verb files old area) status (connector new) left))
      → ((files : Files) → Represents s d store device files → IsLinked files old.select old.link → ChangesFiles s d
      result (makes_file verb) (name_of old) files (step_of verb files old area).files store device store' device')
      → new.link.mode ≡ old.link.mode → new.link.is_absent ≡ old.link.is_absent
      → (d.is_honest device
      → IfOk result (λ status. has_changed verb status ≡ false → d.state device' ≡ d.state device))
      → OnErr result (new.link ≡ old.link) → OnErr result (left ≡ area)
      → OnErr result (Rests s d store device store' device')
      → ((files : Files) → IsLinked files old.select old.link
      → IsLinked (step_of verb files old area).files old.select old.link)
      → ((files : Files) → Represents s d store device files → IsLinked files old.select old.link → result ≡ Err Full
      → has_changed verb (step_of verb files old area).status ≡ true)
      → can_change_files verb ≡ true → result ≢ Err Old
      → Does s d verb result store device store' device' old new area left
  changes_do changes select opened step turns mode absent idle same area_same rests stays full can_change makes_none =
      record {
        changes = changes;
        select = select;
        step = λ files stands linked. step files stands (linked opened);
        linked = λ files stands linked.
            on_ok result
            (λ _. subst (λ (t : Select). IsLinked (step_of verb files old area).files t new.link) (sym select)
            (same_absent (step_of verb files old area).files old.select old.link new.link absent mode
            (stays files (linked opened))));
        turns = λ files stands linked. turns files stands (linked opened);
        full = λ files stands linked is.
            ⊎_elim (full files stands (linked opened)) (λ old. absurd (makes_none old)) is;
        never_full = λ none. let clash : true ≡ false = sym can_change ∙ none in (λ is. absurd cc, makes_none);
        mark = λ is. absurd (makes_none is);
        idle = idle;
        same = err_both result same area_same (λ link area_is. record {
          connector_is = ap (λ (t : Select). connector_of (spec_of t.file) new.link) select
              ∙ ap (connector_of (spec_of old.select.file)) link;
          absent_is = ap (λ (k : Link). k.is_absent) link;
          area_is = area_is;
        });
        rests = rests;
      }

  -- OPEN
  pub opening_does : Changes s d result store device store' device' → new.select ≡ old.select → is_open old ≡ false
      → ((files : Files) → Represents s d store device files
      → IfOk result (λ status. Ends (step_of verb files old area) status (connector new) left))
      → ((files : Files) → Represents s d store device files → OnOk result
      ((new.link.mode ≡ old.link.mode) ⊎ IsLinked (step_of verb files old area).files old.select new.link))
      → ((files : Files) → Represents s d store device files → ChangesFiles s d result (makes_file verb) (name_of old)
      files (step_of verb files old area).files store device store' device')
      → (d.is_honest device
      → IfOk result (λ status. has_changed verb status ≡ false → d.state device' ≡ d.state device))
      → OnErr result (new.link ≡ old.link) → left ≡ area → OnErr result (Rests s d store device store' device')
      → ((files : Files) → Represents s d store device files → (result ≡ Err Full) ⊎ (result ≡ Err Old)
      → has_changed verb (step_of verb files old area).status ≡ true)
      → (can_change_files verb ≡ false → (result ≢ Err Full) × (result ≢ Err Old)) → makes_file verb ≡ true
      → Does s d verb result store device store' device' old new area left
  opening_does changes select shut step linked turns idle same area_same rests full never_full makes = record {
    changes = changes;
    select = select;
    step = λ files stands _. step files stands;
    linked = λ files stands _.
        by_ok result (linked files stands) (λ one opened. by_case (step_of verb files old area).files opened one);
    turns = λ files stands _. turns files stands;
    full = λ files stands _. full files stands;
    never_full = never_full;
    mark = λ is. makes;
    idle = idle;
    same = err_both result same same (λ link _. record {
      connector_is = ap (λ (t : Select). connector_of (spec_of t.file) new.link) select
          ∙ ap (connector_of (spec_of old.select.file)) link;
      absent_is = ap (λ (k : Link). k.is_absent) link;
      area_is = area_same;
    });
    rests = rests;
  }
    where
      by_ok : {A B : Type 0} (r : Result Status StoreFault) → OnOk r A → (A → B) → OnOk r B
      by_ok (Ok x) a f = f a
      by_ok (Err e) a f = tt

      by_case : (files : Files) → is_open new ≡ true
          → (new.link.mode ≡ old.link.mode) ⊎ IsLinked files old.select new.link → IsLinked files new.select new.link
      by_case files opened (inl mode) = let e : true ≡ false = sym opened ∙ ap is_some mode ∙ shut in absurd cc
      by_case files opened (inr linked) = subst (λ (t : Select). IsLinked files t new.link) (sym select) linked

-- what is so of a verb is so of an equal one
module _ {S : Type 0} {s : Stores S} {D : Type 0} {d : Devices D} {result : Result Status StoreFault} {store : S}
    {device : D} {store' : S} {device' : D} {old new : Linked} {area left : Area} where
  pub as_verb : (verb named : Verb) → verb ≡ named → Does s d named result store device store' device' old new area left
      → Does s d verb result store device store' device' old new area left
  as_verb verb named is does =
      subst (λ (v : Verb). Does s d v result store device store' device' old new area left) (sym is) does

-- READ and START leave the files
module _ (one : Linked) (a : Area) (files : Files) where
  row_stays : (o : Option Row) → files ≡ (steps.read_next (entry one) files (connector one) a o).files
  row_stays None = refl
  row_stays (Some row) =
      cond_both (steps.is_relative one.select.file.organization && steps.is_too_long one.select.key_digits row.number)
      (steps.ends_nowhere (entry one) files (connector one) a (connector one).reference NumberTooLong)
      (steps.takes (entry one) files (connector one) a (connector one).reference row) (λ (t : Step). files ≡ t.files)
      (λ _. refl) (λ _. refl)

  from_stays : (o : Option RowBound) → files ≡ (steps.next_from (entry one) files (connector one) a o).files
  from_stays None = refl
  from_stays (Some b) = row_stays (sought_row (spec_of one.select.file) (connector one).reference b
      (steps.rows (entry one) files (connector one) a))

  found_stays : (key : KeyOfReference) (o : Option Row)
      → files ≡ (steps.read_found (entry one) files (connector one) a key o).files
  found_stays key None = refl
  found_stays key (Some row) = refl

  stood_stays : (key : KeyOfReference) (o : Option Row)
      → files ≡ (steps.stands_at (entry one) files (connector one) a key o).files
  stood_stays key None = refl
  stood_stays key (Some row) = refl

pub next_stays : (one : Linked) (a : Area) (files : Files) → files ≡ (step_of ReadNext files one a).files
next_stays one a files = from_stays one a files (connector one).position

pub read_stays : (one : Linked) (a : Area) (key : KeyOfReference) (files : Files)
    → files ≡ (step_of (Read key) files one a).files
read_stays one a key files =
    found_stays one a files key (steps.first_fitting (entry one) files (connector one) a Equal key (steps.area_pair
    (spec_of one.select.file) one.select.file.organization key (key_length (spec_of one.select.file) key) a))

pub start_stays : (one : Linked) (a : Area) (relation : Relation) (key : KeyOfReference) (count : ℕ) (files : Files)
    → files ≡ (step_of (Start relation key count) files one a).files
start_stays one a relation key count files = stood_stays one a files key (steps.first_fitting (entry one) files
    (connector one) a relation key (steps.area_pair (spec_of one.select.file) one.select.file.organization key count a))

-- the file of a connector
pub own_spec : (files : Files) (one : Linked) (a : Area) → IsLinked files one.select one.link
    → (steps.held_file (entry one) files (connector one) a).spec ≡ (entry one).spec
own_spec files one a (There there held has) =
    ap (λ (f : Option File). (unwrap_or f (empty_file (entry one).spec)).spec) has.there ∙ has.spec
own_spec files one a (Gone gone mode none) =
    ap (λ (f : Option File). (unwrap_or f (empty_file (entry one).spec)).spec) none

put_there : (files : Files) (one : Linked) → one.link.is_absent ≡ false → (file : File) → file.spec ≡ (entry one).spec
    → IsLinked (with_file (name_of one) file files) one.select one.link
put_there files one there file spec =
    There there file (record { there = found_again (name_of one) file files; spec = spec })

pub write_stays : (one : Linked) (a : Area) → May one Write → (files : Files) → IsLinked files one.select one.link
    → IsLinked (step_of Write files one a).files one.select one.link
write_stays one a may files linked = by linked
  where
    by : IsLinked files one.select one.link → IsLinked (step_of Write files one a).files one.select one.link
    by (There there held has) = stepped.writing (entry one) files (connector one) a
        (λ (f : Files). IsLinked f one.select one.link) linked (put_there files one there) (own_spec files one a linked)
    by (Gone gone mode none) = let e : false ≡ true =
        sym (ap (may_write one.select.access) mode) ∙ write_may one may in absurd cc

pub rewrite_stays : (one : Linked) (a : Area) → MayChange one → (files : Files) → IsLinked files one.select one.link
    → IsLinked (step_of Rewrite files one a).files one.select one.link
rewrite_stays one a may files linked = by linked
  where
    by : IsLinked files one.select one.link → IsLinked (step_of Rewrite files one a).files one.select one.link
    by (There there held has) = stepped.rewriting (entry one) files (connector one) a
        (λ (f : Files). IsLinked f one.select one.link) linked (put_there files one there) (own_spec files one a linked)
    by (Gone gone mode none) = let e : false ≡ true = sym (ap may_change mode) ∙ change_may one may in absurd cc

pub delete_stays : (one : Linked) (a : Area) → MayChange one → (files : Files) → IsLinked files one.select one.link
    → IsLinked (step_of Delete files one a).files one.select one.link
delete_stays one a may files linked = by linked
  where
    by : IsLinked files one.select one.link → IsLinked (step_of Delete files one a).files one.select one.link
    by (There there held has) = stepped.deleting (entry one) files (connector one) a
        (λ (f : Files). IsLinked f one.select one.link) linked (put_there files one there) (own_spec files one a linked)
    by (Gone gone mode none) = let e : false ≡ true = sym (ap may_change mode) ∙ change_may one may in absurd cc
