-- All connectors of a program.
use Rattle.std.specs.Prelude.{◌≡◌, ◌&&◌, ◌==◌, Bool, true, false, ℕ, nat_lt, nat_le, List, [], ◌∷◌, length, map, None, is_some}
use Rattle.std.specs.List.{AllByRecursion}
use Rattle.records.specs.Rows.{same_bytes}
use Rattle.records.specs.Files.{Files}
use Rattle.records.specs.Spec.{Spec}
use Rattle.records.specs.Stores.{spec_of, key_count, key_length}
use Rattle.records.specs.Connector.{Entry, Connector, entry_of}
use Rattle.records.specs.declared.key.KeyOfReference.{KeyOfReference}
use Rattle.records.specs.declared.verb.Verb.{Verb}
use Rattle.records.specs.declared.verb.Verb.TheVariants.{Read, Start}
use Rattle.records.specs.FileStep.{entry_at}
use Rattle.records.specs.Tests.{barred_status}
use Rattle.file_verbs.specs.Links.{IsLinked, connector_of}
use Rattle.file_verbs.specs.declared.linked.Linked.{Linked}

abbrev pub entry : Linked → Entry
entry one = entry_of one.select

abbrev pub connector : Linked → Connector
connector one = connector_of (spec_of one.select.file) one.link

abbrev pub entries_of : List Linked → List Entry
entries_of all = map entry all

abbrev pub connectors_of : List Linked → List Connector
connectors_of all = map connector all

abbrev pub is_open : Linked → Bool
is_open one = is_some one.link.mode

abbrev pub name_of : Linked → List ℕ
name_of one = one.select.file.name.items

-- where it is open, its file is there or absent
abbrev pub OpenLinked : Files → Linked → Type 0
OpenLinked files one = is_open one ≡ true → IsLinked files one.select one.link

-- two open files have two names
abbrev pub Apart : Linked → Linked → Type 0
Apart one two = is_open one ≡ true → is_open two ≡ true → same_bytes (name_of one) (name_of two) ≡ false

abbrev pub AllApart : List Linked → Type 0
AllApart [] = Unit {0}
AllApart (one ∷ more) = AllByRecursion (Apart one) more × AllApart more

pub record AreLinked (files : Files) (all : List Linked) : Type 0 where
  pub each : AllByRecursion (OpenLinked files) all
  pub apart : AllApart all

-- no test of this connector bars the verb
abbrev pub May : Linked → Verb → Type 0
May one verb = barred_status (entry one ∷ []) (connector one ∷ []) (entry one) (connector one) verb ≡ None

-- a key of the file, and no more of it than there is
abbrev pub is_key : Spec → KeyOfReference → Bool
is_key spec key = nat_le (key_count key) (length spec.alternates)

abbrev pub is_suited : Spec → Verb → Bool
is_suited spec (Read key) = is_key spec key
is_suited spec (Start relation key count) = is_key spec key && nat_le count (key_length spec key)
is_suited spec other = true

-- what a caller of `perform` has to see to, as a test
abbrev pub is_accepted : List Entry → ℕ → Verb → ℕ → Bool
is_accepted entries file verb record_length = nat_lt file (length entries) && (record_length == (entry_at entries file).spec.record_length) && is_suited (entry_at entries file).spec verb
