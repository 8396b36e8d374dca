-- One of several connectors changes, and its file.
use Rattle.std.proofs.Common.{◌≡◌, ◌<◌, Bool, true, false, ◌&&◌, ℕ, zero, suc, List, [], ◌∷◌, ◌++◌, length, get_or, set}
use Rattle.std.proofs.Common.{refl, sym, ◌∙◌, ap, subst, arith, if◌then◌else◌}
use Rattle.std.specs.List.{AllByRecursion}
use Rattle.std.specs.Ordering.{is_eq, ordering_reverse}
use Rattle.std.specs.declared.cmp.Ordering.{Ordering}
use Rattle.std.specs.declared.cmp.Ordering.TheVariants.{Less, Equal, Greater}
use Rattle.std.proofs.lemmas.Cmp.{nat_list_cmp_total}
use Rattle.records.specs.Rows.{same_bytes, bytes_cmp}
use Rattle.records.specs.Files.{Files, file_at}
use Rattle.records.specs.Tests.{is_name_open}
use Rattle.file_verbs.specs.declared.linked.Linked.{Linked}
use Rattle.file_verbs.specs.Links.{IsLinked, There, Gone}
use Rattle.file_verbs.specs.Connections.{entries_of, connectors_of, is_open, name_of, OpenLinked, Apart, AllApart}
use Rattle.file_verbs.specs.Connections.{AreLinked}

same_turned : (one two : List ℕ) → same_bytes one two ≡ same_bytes two one
same_turned one two = ap is_eq (nat_list_cmp_total.antisymm one two) ∙ turned (bytes_cmp two one)
  where
    turned : (r : Ordering) → is_eq (ordering_reverse r) ≡ is_eq r
    turned Less = refl
    turned Equal = refl
    turned Greater = refl

-- an opened one has another name
abbrev pub Other : List ℕ → Linked → Type 0
Other name one = is_open one ≡ true → same_bytes name (name_of one) ≡ false

-- so have all but the i-th
abbrev pub Others : ℕ → List ℕ → List Linked → Type 0
Others i name [] = Unit {0}
Others zero name (one ∷ more) = AllByRecursion (Other name) more
Others (suc i) name (one ∷ more) = Other name one × Others i name more

all_others : (one : Linked) (more : List Linked) → is_open one ≡ true → AllByRecursion (Apart one) more
    → AllByRecursion (Other (name_of one)) more
all_others one [] opened all = tt
all_others one (two ∷ more) opened all = (all.0 opened, all_others one more opened all.1)

at_apart : (one : Linked) (more : List Linked) (i : ℕ) (d : Linked) → i < length more → AllByRecursion (Apart one) more
    → Apart one (get_or more i d)
at_apart one [] i d lt all = absurd (omega (arith, lt))
at_apart one (two ∷ more) zero d lt all = all.0
at_apart one (two ∷ more) (suc i) d lt all = at_apart one more i d (omega (arith, lt)) all.1

pub others_apart : (all : List Linked) (i : ℕ) (d : Linked) → i < length all → is_open (get_or all i d) ≡ true
    → AllApart all → Others i (name_of (get_or all i d)) all
others_apart [] i d lt opened apart = tt
others_apart (one ∷ more) zero d lt opened apart = all_others one more opened apart.0
others_apart (one ∷ more) (suc i) d lt opened apart = (
  λ is. same_turned (name_of (get_or more i d)) (name_of one)
      ∙ at_apart one more i d (omega (arith, lt)) apart.0 is opened,
  others_apart more i d (omega (arith, lt)) opened apart.1,
)

-- and where no opened one has the name
not_open : (a b : Bool) (rest : Bool) → (if a && b then true else rest) ≡ false
    → (a ≡ true → b ≡ false) × (rest ≡ false)
not_open true true rest is = absurd cc
not_open true false rest is = (λ _. refl, is)
not_open false b rest is = (λ no. absurd cc, is)

pub all_shut : (name : List ℕ) (all : List Linked) → is_name_open name (entries_of all) (connectors_of all) ≡ false
    → AllByRecursion (Other name) all
all_shut name [] is = tt
all_shut name (one ∷ more) is =
    let n = not_open (is_open one) (same_bytes (name_of one) name)
    (is_name_open name (entries_of more) (connectors_of more)) is in
    (λ opened. same_turned name (name_of one) ∙ n.0 opened, all_shut name more n.1)

pub shut_others : (i : ℕ) (name : List ℕ) (all : List Linked) → AllByRecursion (Other name) all → Others i name all
shut_others i name [] shut = tt
shut_others zero name (one ∷ more) shut = shut.1
shut_others (suc i) name (one ∷ more) shut = (shut.0, shut_others i name more shut.1)

-- after a change of a file, other files are as they were
linked_still : (name : List ℕ) (files after : Files)
    → ((other : List ℕ) → same_bytes name other ≡ false → file_at other after ≡ file_at other files) → (one : Linked)
    → Other name one → OpenLinked files one → OpenLinked after one
linked_still name files after same one other linked opened = by (linked opened)
  where
    by : IsLinked files one.select one.link → IsLinked after one.select one.link
    by (There there held has) =
        There there held (record { there = same (name_of one) (other opened) ∙ has.there; spec = has.spec })
    by (Gone gone mode none) = Gone gone mode (same (name_of one) (other opened) ∙ none)

all_linked_still : (name : List ℕ) (files after : Files)
    → ((other : List ℕ) → same_bytes name other ≡ false → file_at other after ≡ file_at other files)
    → (all : List Linked) → AllByRecursion (Other name) all → AllByRecursion (OpenLinked files) all
    → AllByRecursion (OpenLinked after) all
all_linked_still name files after same [] others linked = tt
all_linked_still name files after same (one ∷ more) others linked = (
  linked_still name files after same one others.0 linked.0,
  all_linked_still name files after same more others.1 linked.1,
)

set_linked : (name : List ℕ) (files after : Files)
    → ((other : List ℕ) → same_bytes name other ≡ false → file_at other after ≡ file_at other files)
    → (all : List Linked) (i : ℕ) (new : Linked) → Others i name all → OpenLinked after new
    → AllByRecursion (OpenLinked files) all → AllByRecursion (OpenLinked after) (set all i new)
set_linked name files after same [] i new others here linked = tt
set_linked name files after same (one ∷ more) zero new others here linked =
    (here, all_linked_still name files after same more others linked.1)
set_linked name files after same (one ∷ more) (suc i) new others here linked = (
  linked_still name files after same one others.0 linked.0,
  set_linked name files after same more i new others.1 here linked.1,
)

apart_new : (new : Linked) (more : List Linked) → AllByRecursion (Other (name_of new)) more
    → AllByRecursion (Apart new) more
apart_new new [] others = tt
apart_new new (one ∷ more) others = (λ _ opened. others.0 opened, apart_new new more others.1)

apart_set : (one new : Linked) (more : List Linked) (i : ℕ) → Other (name_of new) one → AllByRecursion (Apart one) more
    → AllByRecursion (Apart one) (set more i new)
apart_set one new [] i other all = tt
apart_set one new (two ∷ more) zero other all =
    (λ opened _. same_turned (name_of one) (name_of new) ∙ other opened, all.1)
apart_set one new (two ∷ more) (suc i) other all = (all.0, apart_set one new more i other all.1)

set_apart : (all : List Linked) (i : ℕ) (new : Linked) → Others i (name_of new) all → AllApart all
    → AllApart (set all i new)
set_apart [] i new others apart = tt
set_apart (one ∷ more) zero new others apart = (apart_new new more others, apart.1)
set_apart (one ∷ more) (suc i) new others apart =
    (apart_set one new more i others.0 apart.0, set_apart more i new others.1 apart.1)

pub linked_after : (files after : Files) (all : List Linked) (i : ℕ) (new : Linked)
    → ((other : List ℕ) → same_bytes (name_of new) other ≡ false → file_at other after ≡ file_at other files)
    → Others i (name_of new) all → OpenLinked after new
    → AreLinked files all → AreLinked after (set all i new)
linked_after files after all i new same others here are = record {
  each = set_linked (name_of new) files after same all i new others here are.each;
  apart = set_apart all i new others are.apart;
}

pub linked_at : (files : Files) (all : List Linked) (i : ℕ) (d : Linked) → i < length all → AreLinked files all
    → OpenLinked files (get_or all i d)
linked_at files all i d lt are = go all i lt are.each
  where
    go : (all : List Linked) (i : ℕ) → i < length all → AllByRecursion (OpenLinked files) all
        → OpenLinked files (get_or all i d)
    go [] i lt each = absurd (omega (arith, lt))
    go (one ∷ more) zero lt each = each.0
    go (one ∷ more) (suc i) lt each = go more i (omega (arith, lt)) each.1

-- one more connector, which is closed
shut_linked : (files : Files) (new : Linked) → is_open new ≡ false → OpenLinked files new
shut_linked files new shut = λ opened. let e : true ≡ false = sym opened ∙ shut in absurd cc

each_added : (files : Files) (all : List Linked) (new : Linked) → is_open new ≡ false
    → AllByRecursion (OpenLinked files) all → AllByRecursion (OpenLinked files) (all ++ new ∷ [])
each_added files [] new shut each = (shut_linked files new shut, tt)
each_added files (one ∷ more) new shut each = (each.0, each_added files more new shut each.1)

apart_added : (one : Linked) (all : List Linked) (new : Linked) → is_open new ≡ false → AllByRecursion (Apart one) all
    → AllByRecursion (Apart one) (all ++ new ∷ [])
apart_added one [] new shut each = (λ _ opened. let e : true ≡ false = sym opened ∙ shut in absurd cc, tt)
apart_added one (two ∷ more) new shut each = (each.0, apart_added one more new shut each.1)

all_apart_added : (all : List Linked) (new : Linked) → is_open new ≡ false → AllApart all → AllApart (all ++ new ∷ [])
all_apart_added [] new shut apart = (tt, tt)
all_apart_added (one ∷ more) new shut apart =
    (apart_added one more new shut apart.0, all_apart_added more new shut apart.1)

pub added : (files : Files) (all : List Linked) (new : Linked) → is_open new ≡ false → AreLinked files all
    → AreLinked files (all ++ new ∷ [])
added files all new shut are =
    record { each = each_added files all new shut are.each; apart = all_apart_added all new shut are.apart }

pub none_linked : (files : Files) → AreLinked files []
none_linked files = record { each = tt; apart = tt }

-- a connector that may have been closed, over the same files
set_each : (P : Linked → Type 0) (all : List Linked) (i : ℕ) (new : Linked) → AllByRecursion P all → P new
    → AllByRecursion P (set all i new)
set_each P [] i new each here = tt
set_each P (one ∷ more) zero new each here = (here, each.1)
set_each P (one ∷ more) (suc i) new each here = (each.0, set_each P more i new each.1 here)

less_open : (old new : Linked) → name_of new ≡ name_of old → (is_open new ≡ true → is_open old ≡ true)
    → (more : List Linked) → AllByRecursion (Apart old) more → AllByRecursion (Apart new) more
less_open old new name opened [] each = tt
less_open old new name opened (one ∷ more) each = (
  λ is also. ap (λ (n : List ℕ). same_bytes n (name_of one)) name ∙ each.0 (opened is) also,
  less_open old new name opened more each.1,
)

apart_still : (all : List Linked) (i : ℕ) (old new : Linked) → i < length all → get_or all i old ≡ old
    → name_of new ≡ name_of old → (is_open new ≡ true → is_open old ≡ true) → AllApart all → AllApart (set all i new)
apart_still [] i old new lt here name opened apart = tt
apart_still (one ∷ more) zero old new lt here name opened apart =
    (less_open old new name opened more (subst (λ (o : Linked). AllByRecursion (Apart o) more) here apart.0), apart.1)
apart_still (one ∷ more) (suc i) old new lt here name opened apart = (
  set_each (Apart one) more i new apart.0 (λ also is. ap (same_bytes (name_of one)) name
      ∙ subst (Apart one) here (at_apart one more i old (omega (arith, lt)) apart.0) also (opened is)),
  apart_still more i old new (omega (arith, lt)) here name opened apart.1,
)

pub still_linked : (files : Files) (all : List Linked) (i : ℕ) (old new : Linked)
    → i < length all → get_or all i old ≡ old → name_of new ≡ name_of old → (is_open new ≡ true → is_open old ≡ true)
    → (OpenLinked files old → OpenLinked files new)
    → AreLinked files all → AreLinked files (set all i new)
still_linked files all i old new lt here name opened from are = record {
  each = set_each (OpenLinked files) all i new are.each
      (from (subst (OpenLinked files) here (linked_at files all i old lt are)));
  apart = apart_still all i old new lt here name opened are.apart;
}
