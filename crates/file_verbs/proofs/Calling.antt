-- A call on a store, where its answer or its refusal is passed on, or another call comes after it.
use Rattle.std.proofs.Common.{◌≡◌, ℕ, List, Bool, true, false, inl, inr, ⊎_elim, refl, sym, ◌∙◌, ap, subst}
use Rattle.std.specs.Prelude.{◌≢◌, Result, Ok, Err, IfOk, OnOk}
use Rattle.std.specs.Result.{IsErrAnd}
use Rattle.station.specs.Disk.{Disk, Sector, IsCrashImage}
use Rattle.station.specs.Blocks.{CrashLeaves}
use Rattle.station.specs.declared.device.Device.{Ghosts as Devices}
use Rattle.station.proofs.Calls.{reads_writes, blamed_where, writes_nothing, writes_then}
use Rattle.station.proofs.Spans.{weakens}
use Rattle.records.specs.declared.fault.StoreFault.{StoreFault}
use Rattle.records.specs.declared.fault.StoreFault.TheVariants.{Device, Full, Damaged, Spent, Layout, Old}
use Rattle.records.specs.declared.keeps.Keeps.{Ghosts as Stores}
use Rattle.records.specs.Files.{Files}
use Rattle.records.specs.Stores.{Either}
use Rattle.records.specs.Calls.{Represents, OnlyReadsFiles, Changes, ChangesFiles}
use Rattle.records.proofs.Calls.{carries, looks_not, reads_changes, reads_turns}

-- a refusal that is passed on is that of the call
pub refused_by_call : {T U : Type 0} {call : Result T StoreFault} {given : Result U StoreFault} {e fault : StoreFault}
    → call ≡ Err e → IsErrAnd given (λ x. x ≡ e) → given ≡ Err fault → call ≡ Err fault
refused_by_call was is refused = was ∙ ap Err (sym (rw refused at is))

-- an answer is no refusal
pub never_refused : {T A : Type 0} {x : T} {fault : StoreFault} → (◌≡◌ {A = Result T StoreFault} (Ok x) (Err fault)) → A
never_refused is = cc

pub none_on : {T : Type 0} (A : Type 0) (given : Result T StoreFault) (e : StoreFault) → IsErrAnd given (λ x. x ≡ e)
    → OnOk given A
none_on A (Ok x) e is = absurd is
none_on A (Err x) e is = tt

pub never_both : {A : Type 0} {b : Bool} → b ≡ true → b ≡ false → A
never_both on off = let clash : true ≡ false = sym on ∙ off in absurd cc

-- a refusal has no answer
pub no_answer : {T : Type 0} (P : T → Type 0) (e : StoreFault) (given : Result T StoreFault)
    → IsErrAnd given (λ x. x ≡ e) → IfOk given P
no_answer P e (Ok x) is = absurd is
no_answer P e (Err x) is = tt

on_answer : {T A B : Type 0} (result : Result T StoreFault) → (A → B) → OnOk result A → OnOk result B
on_answer (Ok x) from a = from a
on_answer (Err e) from a = tt

module _ {S : Type 0} {s : Stores S} {D : Type 0} {d : Devices D} {T U : Type 0} {call : Result T StoreFault} {old : S}
    {device : D} {new : S} {device' : D} (reads : OnlyReadsFiles s d call old device new device') where
  -- it is so of the refusal that is passed on
  pub still_reads : {given : Result U StoreFault} {e : StoreFault} → call ≡ Err e → IsErrAnd given (λ x. x ≡ e)
      → OnlyReadsFiles s d given old device new device'
  still_reads {given} was is = carries s d call given old device new device' (record {
    device = λ blamed. refused_by_call was is blamed;
    spent = λ spent. refused_by_call was is spent;
    room = λ full. reads.has_room (refused_by_call was is full);
    layout = λ other. reads.own_layout (refused_by_call was is other);
    old = λ early. reads.makes_none (refused_by_call was is early);
  }) reads

  -- and of what is answered in place of its answer
  pub reads_on : (x : U) → OnlyReadsFiles s d {T = U} (Ok x) old device new device'
  reads_on x = carries s d call (let given : Result U StoreFault = Ok x in given) old device new device' (record {
    device = λ is. never_refused is;
    spent = λ is. never_refused is;
    room = λ is. never_refused is;
    layout = λ is. never_refused is;
    old = λ is. never_refused is;
  }) reads

  -- a refusal leaves the files, whatever they would have been turned into
  pub refused_leaves : {given : Result U StoreFault} {e : StoreFault} → call ≡ Err e → IsErrAnd given (λ x. x ≡ e)
      → ((disk : Disk) (image : List Sector) (files : Files) → s.stands old disk files → IsCrashImage disk image
      → s.holds image files)
      → (is_new : Bool) (name : List ℕ) (files after : Files) → Represents s d old device files
      → call ≢ Err Damaged → ChangesFiles s d given is_new name files after old device new device'
  refused_leaves {given} {e} was is held is_new name files after stands sound =
      let same = reads_turns s d given old device new device' (still_reads was is) held is_new name files stands
      (λ damaged. sound (refused_by_call was is damaged)) in
      record {
        there = none_on (Represents s d new device' after) given e is;
        moments = weakens (d.history device) (d.history device') (d.state device')
            (CrashLeaves (d.state device).events (Either s.holds files files))
            (CrashLeaves (d.state device).events (Either s.holds files after))
            (λ state here. record {
              events = here.events;
              images = λ image crash. inl (⊎_elim (λ one. one) (λ one. one) (here.images image crash));
            })
            same.moments;
        sound = same.sound;
        room = λ full. absurd (reads.has_room (refused_by_call was is full));
        mark = λ early. absurd (reads.makes_none (refused_by_call was is early));
      }

  -- a call after it changes what it left
  pub changes_after : {last : Result U StoreFault} {left : S} {device'' : D}
      → Changes s d last new device' left device'' → Changes s d last old device left device''
  changes_after {last} {left} {device''} changes = record {
    only = writes_then d (call ≡ Err Device) (last ≡ Err Device) (last ≡ Err Device)
        device device' device'' (λ blamed. inr blamed)
        (reads_writes d (call ≡ Err Device) device device' reads.only) changes.only;
    needs = changes.needs ∙ reads.needs;
    same = on_answer last (λ same. same ∙ reads.same) changes.same;
    spent = λ spent. sym reads.same ∙ changes.spent spent;
    own_layout = changes.own_layout;
    unwritten = λ lacking honest.
        changes.unwritten lacking (reads.only.honest.0 honest) ∙ reads.only.state honest;
  }

-- no call, and an answer
module _ {S : Type 0} {s : Stores S} {D : Type 0} {d : Devices D} {U : Type 0} {store : S} {device : D} where
  pub reads_nothing : (x : U) → OnlyReadsFiles s d {T = U} (Ok x) store device store device
  reads_nothing x = looks_not s d (let given : Result U StoreFault = Ok x in given) store device
      (λ is. never_refused is) (λ is. never_refused is) (λ is. never_refused is) (λ is. never_refused is)
      (λ is. never_refused is)

  pub changes_nothing : (x : U) → Changes s d {T = U} (Ok x) store device store device
  changes_nothing x = reads_changes s d (let given : Result U StoreFault = Ok x in given) store device store device
      (reads_nothing x)

-- a store that needs and spends no more than before
pub changes_still : {S : Type 0} {s : Stores S} {D : Type 0} {d : Devices D} {U : Type 0} {old new : S} {device : D}
    (x : U) → s.needs new ≡ s.needs old → s.is_spent new ≡ s.is_spent old
    → Changes s d {T = U} (Ok x) old device new device
changes_still {d = d} {device = device} x needs spent = record {
  only = blamed_where d ⊥ _ device device (λ is. never_refused is) (writes_nothing d device);
  needs = needs;
  same = spent;
  spent = λ is. never_refused is;
  own_layout = λ is. never_refused is;
  unwritten = λ lacking honest. refl;
}

module _ {S : Type 0} {s : Stores S} {D : Type 0} {d : Devices D} {T U : Type 0} {call : Result T StoreFault} {old : S}
    {device : D} {new : S} {device' : D} (changes : Changes s d call old device new device') where
  changed : (given : Result U StoreFault) → ((fault : StoreFault) → given ≡ Err fault → call ≡ Err fault)
      → OnOk given (s.is_spent new ≡ s.is_spent old) → Changes s d given old device new device'
  changed given from same = record {
    only = blamed_where d (call ≡ Err Device) (given ≡ Err Device) device device' (λ blamed. from Device blamed)
        changes.only;
    needs = changes.needs;
    same = same;
    spent = λ spent. changes.spent (from Spent spent);
    own_layout = λ other. changes.own_layout (from Layout other);
    unwritten = λ lacking.
        changes.unwritten (⊎_elim (λ full. inl (from Full full)) (λ early. inr (from Old early)) lacking);
  }

  -- what a call changed, where its refusal is passed on
  pub still_changes : {given : Result U StoreFault} {e : StoreFault} → call ≡ Err e → IsErrAnd given (λ x. x ≡ e)
      → Changes s d given old device new device'
  still_changes {given} {e} was is =
      changed given (λ fault refused. refused_by_call was is refused)
      (none_on (s.is_spent new ≡ s.is_spent old) given e is)

  -- and where something is answered in place of its answer
  pub changes_on : {y : T} (x : U) → call ≡ Ok y → Changes s d {T = U} (Ok x) old device new device'
  changes_on {y} x was =
      changed (let given : Result U StoreFault = Ok x in given) (λ fault refused. never_refused refused)
      (subst (λ (r : Result T StoreFault). OnOk r (s.is_spent new ≡ s.is_spent old)) was changes.same)
