-- WRITE, REWRITE and DELETE, from what the store answers to the step of the table.
use Rattle.std.proofs.Common.{◌≡◌, ℕ, Bool, true, false, ◌&&◌, List, Option, Some, None, refl, sym, ◌∙◌, ap, subst}
use Rattle.std.proofs.Common.{length}
use Rattle.std.proofs.Common.{if◌then◌else◌}
use Rattle.std.specs.Prelude.{unwrap_or, not, Result, Ok, Err, OnOk}
use Rattle.std.specs.Result.{IsErrAnd}
use Rattle.std.proofs.lemmas.Result.{err_from_is_err_and}
use Rattle.station.specs.declared.device.Device.{Ghosts as Devices}
use Rattle.records.specs.declared.fault.StoreFault.{StoreFault}
use Rattle.records.specs.declared.keeps.Keeps.{Ghosts as Stores}
use Rattle.records.specs.Calls.{Represents, ChangesFiles}
use Rattle.records.proofs.Calls.{passed_on}
use Rattle.records.specs.declared.answer.Outcome.{Outcome}
use Rattle.records.specs.declared.answer.Outcome.TheVariants.{Missing, Taken, Done, Duplicate}
use Rattle.records.specs.declared.file_spec.Organization.{Organization}
use Rattle.records.specs.declared.file_spec.Organization.TheVariants.{Sequential, Relative, Indexed}
use Rattle.records.specs.declared.key.KeyOfReference.TheVariants.{Prime}
use Rattle.records.specs.declared.select.Select.{Select}
use Rattle.records.specs.declared.select.Access.{Access}
use Rattle.records.specs.declared.status.Status.TheVariants.{Boundary, OutOfSequence}
use Rattle.records.specs.declared.verb.Verb.TheVariants.{Write, Rewrite, Delete}
use Rattle.records.specs.Spec.{Spec}
use Rattle.records.specs.Rows.{Pair, same_bytes, part, place_of, named_pair, prime_place}
use Rattle.records.specs.Files.{File, Files, file_at, empty_file}
use Rattle.records.specs.Changes.{FileChange, insertion, replacement, replaced_row, removal, row_at}
use Rattle.records.specs.Stores.{Has, spec_of, files_after, pair_of, is_change}
use Rattle.records.specs.Tests.{is_sequential, may_write, may_change}
use Rattle.records.specs.Connector.{Connector, entry_of}
use Rattle.records.specs.Steps.{Step, step, status_after, next_number, is_past, is_out, is_other, writes, changes}
use Rattle.records.specs.Steps.{row_to_change, end_step}
use Rattle.records.specs.FileStep.{area, is_success}
use Rattle.file_verbs.specs.declared.link.Link.{Link}
use Rattle.file_verbs.specs.Links.{IsLinked, There, Gone, connector_of}
use Rattle.file_verbs.proofs.Calling.{never_refused}

-- an opened file that may be written or changed is there
pub written_held : (files : Files) (s : Select) (l : Link) → IsLinked files s l → may_write s.access l.mode ≡ true
    → (held : File) × Has files s.file held
written_held files s l (There there held has) opened = (held, has)
written_held files s l (Gone gone mode none) opened = let e : false ≡ true =
    sym (ap (may_write s.access) mode) ∙ opened in absurd cc

pub changed_held : (files : Files) (s : Select) (l : Link) → IsLinked files s l → may_change l.mode ≡ true
    → (held : File) × Has files s.file held
changed_held files s l (There there held has) opened = (held, has)
changed_held files s l (Gone gone mode none) opened = let e : false ≡ true =
    sym (ap may_change mode) ∙ opened in absurd cc

pub long_either : (b : Bool) (one two : List ℕ) {n : ℕ} → length one ≡ n → length two ≡ n
    → length (if b then one else two) ≡ n
long_either true one two first second = first
long_either false one two first second = second

-- an outcome that tells of a change is a success
pub success_of : (outcome : Outcome) → is_change outcome ≡ true → is_success (status_after outcome) ≡ true
success_of Missing is = let e : true ≡ false = sym is in absurd cc
success_of Taken is = let e : true ≡ false = sym is in absurd cc
success_of Done is = refl
success_of Duplicate is = refl

-- and one that is no success tells of none
pub no_change_of : (outcome : Outcome) → is_success (status_after outcome) ≡ false → is_change outcome ≡ false
no_change_of Missing is = refl
no_change_of Taken is = refl
no_change_of Done is = absurd cc
no_change_of Duplicate is = absurd cc

module _ (s : Select) (l : Link) (files : Files) (held : File) (has : Has files s.file held) (bytes : List ℕ)
    (number : ℕ) where
  abbrev pub was : Connector
  was = connector_of (spec_of s.file) l

  abbrev pub number_now : ℕ
  number_now = next_number s.file.organization s.access was.last.number number

  abbrev by_tests : Bool → Bool → Step
  by_tests past out =
      if past then end_step (entry_of s) files was (area bytes number) Boundary else
      if out then end_step (entry_of s) files was (area bytes number) OutOfSequence else
      writes (entry_of s) files was (area bytes number)
      (insertion number_now bytes (unwrap_or (file_at s.file.name.items files) (empty_file (spec_of s.file))))

  pub inserts : is_past s.file.organization s.access s.key_digits number_now ≡ false
      → is_out s.file.organization s.access bytes was.last.value ≡ false
      → step (entry_of s) files was (area bytes number) Write
      ≡ writes (entry_of s) files was (area bytes number) (insertion number_now bytes held)
  inserts past out = ap (λ (b : Bool). by_tests b (is_out s.file.organization s.access bytes was.last.value)) past
      ∙ ap (by_tests false) out
      ∙ ap (λ (f : Option File). writes (entry_of s) files was (area bytes number)
      (insertion number_now bytes (unwrap_or f (empty_file (spec_of s.file))))) has.there

  -- and what bars it
  pub past_ends : (n : ℕ) (past : Bool) → n ≡ number_now → past ≡ is_past s.file.organization s.access s.key_digits n
      → past ≡ true
      → step (entry_of s) files was (area bytes number) Write
      ≡ end_step (entry_of s) files was (area bytes number) Boundary
  past_ends n past same past_is beyond =
      ap (λ (b : Bool). by_tests b (is_out s.file.organization s.access bytes was.last.value))
      (sym (past_is ∙ ap (is_past s.file.organization s.access s.key_digits) same) ∙ beyond)

  pub out_ends : (n : ℕ) (past out : Bool) → n ≡ number_now → past ≡ is_past s.file.organization s.access
      s.key_digits n → past ≡ false → out ≡ is_out s.file.organization s.access bytes was.last.value → out ≡ true
      → step (entry_of s) files was (area bytes number) Write
      ≡ end_step (entry_of s) files was (area bytes number) OutOfSequence
  out_ends n past out same past_is within out_is before =
      ap (λ (b : Bool). by_tests b (is_out s.file.organization s.access bytes was.last.value))
      (sym (past_is ∙ ap (is_past s.file.organization s.access s.key_digits) same) ∙ within)
      ∙ ap (by_tests false) (sym out_is ∙ before)

  pub inserted_files : (n : ℕ) (past out : Bool) → n ≡ number_now → past ≡ is_past s.file.organization s.access
      s.key_digits n → past ≡ false → out ≡ is_out s.file.organization s.access bytes was.last.value → out ≡ false
      → files_after s.file.name.items files (insertion n bytes held)
      ≡ (step (entry_of s) files was (area bytes number) Write).files
  inserted_files n past out same past_is within out_is ascends =
      ap (λ (m : ℕ). files_after s.file.name.items files (insertion m bytes held)) same
      ∙ sym (ap (λ (t : Step). t.files) (inserts
      (sym (past_is ∙ ap (is_past s.file.organization s.access s.key_digits) same) ∙ within) (sym out_is ∙ ascends)))

  pub inserted_changes : (n : ℕ) (past out : Bool) → n ≡ number_now → past ≡ is_past s.file.organization s.access
      s.key_digits n → past ≡ false → out ≡ is_out s.file.organization s.access bytes was.last.value → out ≡ false
      → is_change (insertion n bytes held).outcome ≡ true
      → is_success (step (entry_of s) files was (area bytes number) Write).status ≡ true
  inserted_changes n past out same past_is within out_is ascends change =
      ap (λ (t : Step). is_success t.status) (inserts
      (sym (past_is ∙ ap (is_past s.file.organization s.access s.key_digits) same) ∙ within) (sym out_is ∙ ascends))
      ∙ success_of (insertion number_now bytes held).outcome
      (ap (λ (m : ℕ). is_change (insertion m bytes held).outcome) (sym same) ∙ change)

  -- the row to change
  abbrev pub named : Pair
  named = row_to_change (entry_of s) files was (area bytes number)

  abbrev chosen_number : Bool → ℕ
  chosen_number b = if b then l.number else number

  abbrev chosen_bytes : Bool → List ℕ
  chosen_bytes b = if b then l.row.items else bytes

  abbrev named_by : Bool → Bool → Pair
  named_by b was_read = if b then unwrap_or (if was_read then Some (named_pair s.file.organization l.number l.row.items)
      else None) (named_pair s.file.organization number bytes) else named_pair s.file.organization number bytes

  named_of : (b : Bool) → (b ≡ true → l.was_read ≡ true)
      → named_by b l.was_read ≡ named_pair s.file.organization (chosen_number b) (chosen_bytes b)
  named_of true read = ap (named_by true) (read refl)
  named_of false read = refl

  named_is : (is_sequential s.access ≡ true → l.was_read ≡ true) → named ≡ named_pair s.file.organization
      (chosen_number (is_sequential s.access)) (chosen_bytes (is_sequential s.access))
  named_is read = named_of (is_sequential s.access) read

  organization_same : held.spec.organization ≡ s.file.organization
  organization_same = ap (λ (t : Spec). t.organization) has.spec

  -- DELETE
  pair_same : (o : Organization) (n : ℕ) (b : List ℕ) → pair_of o (part (prime_place o) b) n ≡ named_pair o n b
  pair_same Sequential n b = refl
  pair_same Relative n b = refl
  pair_same (Indexed place) n b = refl

  pub removes : (is_sequential s.access ≡ true → l.was_read ≡ true)
      → (key : List ℕ) (n : ℕ) → key ≡ part (place_of (spec_of s.file) Prime) (chosen_bytes (is_sequential s.access))
      → n ≡ chosen_number (is_sequential s.access)
      → step (entry_of s) files was (area bytes number) Delete
      ≡ changes (entry_of s) files was (area bytes number) (removal (pair_of s.file.organization key n) held)
  removes read key n key_is n_is =
      ap (λ (f : Option File). changes (entry_of s) files was (area bytes number)
      (removal named (unwrap_or f (empty_file (spec_of s.file))))) has.there
      ∙ ap (λ (p : Pair). changes (entry_of s) files was (area bytes number) (removal p held))
      (named_is read ∙ sym (pair_same s.file.organization (chosen_number (is_sequential s.access))
      (chosen_bytes (is_sequential s.access)))
      ∙ ap (λ (k : List ℕ). pair_of s.file.organization k (chosen_number (is_sequential s.access))) (sym key_is)
      ∙ ap (pair_of s.file.organization key) (sym n_is))

  -- REWRITE
  renamed : (o : Organization) (n : ℕ) (one two : List ℕ)
      → named_pair o (named_pair o n one).number two ≡ named_pair o n two
  renamed Sequential n one two = refl
  renamed Relative n one two = refl
  renamed (Indexed place) n one two = refl

  value_of : (o : Organization) (n : ℕ) (b : List ℕ) → (named_pair o n b).value ≡ part (prime_place o) b
  value_of Sequential n b = refl
  value_of Relative n b = refl
  value_of (Indexed place) n b = refl

  other_by : (o : Organization) (access : Access) (one two : List ℕ) → (is_sequential access ≡ true → one ≡ two)
      → is_other o access bytes one ≡ is_other o access bytes two
  other_by Sequential access one two same = refl
  other_by Relative access one two same = refl
  other_by (Indexed place) access one two same = by (is_sequential access) same
    where
      by : (b : Bool) → (b ≡ true → one ≡ two)
          → (b && not (same_bytes (part place bytes) one)) ≡ (b && not (same_bytes (part place bytes) two))
      by true same = ap (λ (k : List ℕ). not (same_bytes (part place bytes) k)) (same refl)
      by false same = refl

  abbrev by_other : Bool → File → Step
  by_other other file = if other then end_step (entry_of s) files was (area bytes number) OutOfSequence
      else changes (entry_of s) files was (area bytes number) (replacement named.number bytes file)

  abbrev by_pair : Pair → FileChange
  by_pair pair = replaced_row pair bytes held (row_at held.spec.organization pair held.rows)

  value_is : (is_sequential s.access ≡ true → l.was_read ≡ true) → is_sequential s.access ≡ true
      → named.value ≡ part (place_of (spec_of s.file) Prime) l.row.items
  value_is read is = ap (λ (p : Pair). p.value) (named_is read)
      ∙ value_of s.file.organization (chosen_number (is_sequential s.access)) (chosen_bytes (is_sequential s.access))
      ∙ ap (λ (b : Bool). part (prime_place s.file.organization) (chosen_bytes b)) is

  pub replaces : (is_sequential s.access ≡ true → l.was_read ≡ true)
      → (n : ℕ) (other : Bool) → n ≡ chosen_number (is_sequential s.access)
      → other ≡ is_other s.file.organization s.access bytes (part (place_of (spec_of s.file) Prime) l.row.items)
      → other ≡ false
      → step (entry_of s) files was (area bytes number) Rewrite
      ≡ changes (entry_of s) files was (area bytes number) (replacement n bytes held)
  replaces read n other n_is other_is same =
      let one = other_by s.file.organization s.access named.value (part (place_of (spec_of s.file) Prime) l.row.items)
      (value_is read) in
      let pair : named_pair held.spec.organization named.number bytes ≡ named_pair held.spec.organization n bytes =
      ap (λ (o : Organization). named_pair o named.number bytes) organization_same
      ∙ ap (λ (p : Pair). named_pair s.file.organization p.number bytes) (named_is read)
      ∙ renamed s.file.organization (chosen_number (is_sequential s.access)) (chosen_bytes (is_sequential s.access))
      bytes ∙ ap (λ (m : ℕ). named_pair s.file.organization m bytes) (sym n_is)
      ∙ ap (λ (o : Organization). named_pair o n bytes) (sym organization_same) in
      ap (λ (b : Bool). by_other b (unwrap_or (file_at s.file.name.items files) (empty_file (spec_of s.file))))
      (one ∙ sym other_is ∙ same)
      ∙ ap (λ (f : Option File). by_other false (unwrap_or f (empty_file (spec_of s.file)))) has.there
      ∙ ap (λ (p : Pair). changes (entry_of s) files was (area bytes number) (by_pair p)) pair

  pub other_ends : (is_sequential s.access ≡ true → l.was_read ≡ true) → (other : Bool)
      → other ≡ is_other s.file.organization s.access bytes (part (place_of (spec_of s.file) Prime) l.row.items)
      → other ≡ true
      → step (entry_of s) files was (area bytes number) Rewrite
      ≡ end_step (entry_of s) files was (area bytes number) OutOfSequence
  other_ends read other other_is is =
      let one = other_by s.file.organization s.access named.value (part (place_of (spec_of s.file) Prime) l.row.items)
      (value_is read) in
      ap (λ (b : Bool). by_other b (unwrap_or (file_at s.file.name.items files) (empty_file (spec_of s.file))))
      (one ∙ sym other_is ∙ is)

-- an answer in place of another
pub gave : {S : Type 0} (s : Stores S) {D : Type 0} (d : Devices D) {T U : Type 0} (x : T) (y : U) (is_new : Bool)
    (name : List ℕ) (before after : Files) (old : S) (device : D) (new : S) (device' : D) (result : Result T StoreFault)
    → result ≡ Ok x
    → ChangesFiles s d result is_new name before after old device new device'
    → ChangesFiles s d {T = U} (Ok y) is_new name before after old device new device'
gave s d {T} x y is_new name before after old device new device' result was turns = record {
  there = subst (λ (r : Result T StoreFault). OnOk r (Represents s d new device' after)) was turns.there;
  moments = turns.moments;
  sound = λ is. never_refused is;
  room = λ is. never_refused is;
  mark = λ is. never_refused is;
}

-- a refusal in place of another
pub passed : {S : Type 0} (s : Stores S) {D : Type 0} (d : Devices D) {T U : Type 0} (fault : StoreFault)
    (is_new : Bool) (name : List ℕ) (before after : Files) (old : S) (device : D) (new : S) (device' : D)
    (result : Result T StoreFault) (told : Result U StoreFault) → result ≡ Err fault → told ≡ Err fault
    → ChangesFiles s d result is_new name before after old device new device'
    → ChangesFiles s d told is_new name before after old device new device'
passed s d {T} {U} fault is_new name before after old device new device' result told was is turns =
    subst (λ (r : Result U StoreFault). ChangesFiles s d r is_new name before after old device new device') (sym is)
    (passed_on s d {T = T} {U = U} fault is_new name before after old device new device' result was turns)

-- a refusal that is passed on, and an answer in place of another, where the files after are named otherwise
module _ {S : Type 0} {s : Stores S} {D : Type 0} {d : Devices D} {T U : Type 0} {is_new : Bool} {name : List ℕ}
    {before named after : Files} {old : S} {device : D} {new : S} {device' : D} {result : Result T StoreFault} where
  pub refused_turns : {fault : StoreFault} {told : Result U StoreFault} → result ≡ Err fault
      → IsErrAnd told (λ e. e ≡ fault) → named ≡ after
      → ChangesFiles s d result is_new name before named old device new device'
      → ChangesFiles s d told is_new name before after old device new device'
  refused_turns {fault} {told} was is same turns =
      let p = err_from_is_err_and told is in
      passed s d fault is_new name before after old device new device' result told was
      (p.1 ∙ ap (λ (e : StoreFault). let r : Result U StoreFault = Err e in r) p.2)
      (subst (λ (f : Files). ChangesFiles s d result is_new name before f old device new device') same turns)

  pub answered_turns : {x : T} (y : U) → result ≡ Ok x → named ≡ after
      → ChangesFiles s d result is_new name before named old device new device'
      → ChangesFiles s d {T = U} (Ok y) is_new name before after old device new device'
  answered_turns {x} y was same turns =
      gave s d x y is_new name before after old device new device' result was
      (subst (λ (f : Files). ChangesFiles s d result is_new name before f old device new device') same turns)
