-- Ranges that PERFORM names lie in the program, where the rules are kept.
use Rattle.std.proofs.Common.{◌≡◌, ℕ, ◌+◌, ◌<◌, ◌≤◌, Bool, true, false, List, [], ◌∷◌, ◌++◌, length, Option, Some, None}
use Rattle.std.proofs.Common.{arith, length-append}
use Rattle.std.specs.Prelude.{nat_lt, not, cond, filter}
use Rattle.std.specs.List.{AllByRecursion}
use Rattle.source_tree.specs.declared.name.Name.{Name}
use Rattle.source_tree.specs.declared.program.Paragraph.{Paragraph}
use Rattle.source_tree.specs.declared.program.Section.{Section}
use Rattle.source_tree.specs.Broken.{where_so}
use Rattle.source_tree.specs.PerformRules.{procedure_named, last_named, last_place, found_rules, range_rules}
use Rattle.source_tree.specs.Procedures.{Range, Procedure, paragraphs_or_one, paragraphs_in, paragraph_procedures}
use Rattle.source_tree.specs.Procedures.{procedures_from, is_procedure, procedures_named, only_range, range_named}
use Rattle.source_tree.specs.Procedures.{to_end_of, range_through, range_of}
use Rattle.condition_codegen.proofs.Lists.{left_none, right_none}
use Rattle.condition_codegen.proofs.Integers.{kept}

-- paragraphs of so many, in order
pub record IsWithin (count : ℕ) (range : Range) : Type 0 where
  pub first : range.first ≤ range.last
  pub last : range.last < count

-- its last paragraph is one of so many
abbrev pub EndsWithin : ℕ → Procedure → Type 0
EndsWithin count one = one.range.last < count

-- the same of what a name names
abbrev LastWithin : ℕ → Option Range → Type 0
LastWithin count None = Unit {0}
LastWithin count (Some range) = range.last < count

abbrev pub FoundWithin : ℕ → Option Range → Type 0
FoundWithin count None = Unit {0}
FoundWithin count (Some range) = IsWithin count range

module _ (count : ℕ) where
  kept_each : (test : Procedure → Bool) (one : Procedure) (more : List Procedure) (holds : Bool) → EndsWithin count one
      → AllByRecursion (EndsWithin count) more
      → AllByRecursion (EndsWithin count) (cond holds (one ∷ more) more)
  kept_each test one more true h hs = (h, hs)
  kept_each test one more false h hs = hs

  filtered : (test : Procedure → Bool) (all : List Procedure) → AllByRecursion (EndsWithin count) all
      → AllByRecursion (EndsWithin count) (filter test all)
  filtered test [] h = tt
  filtered test (one ∷ more) h = kept_each test one (filter test more) (test one) h.0 (filtered test more h.1)

  only_within : (all : List Procedure) → AllByRecursion (EndsWithin count) all → LastWithin count (only_range all)
  only_within [] h = tt
  only_within (one ∷ []) h = h.0
  only_within (one ∷ other ∷ more) h = tt

  to_end_within : (first : Range) (last : Option Range) → LastWithin count last
      → LastWithin count (to_end_of first last)
  to_end_within first None h = tt
  to_end_within first (Some last) h = h

  module _ (procedures : List Procedure) (all : AllByRecursion (EndsWithin count) procedures) where
    named_within : (name : Name) → LastWithin count (range_named procedures name)
    named_within name = only_within (procedures_named procedures name) (filtered (is_procedure name) procedures all)

    through_within : (last : Option Name) (first : Option Range) → LastWithin count first
        → LastWithin count (range_through procedures last first)
    through_within last None h = tt
    through_within None (Some first) h = h
    through_within (Some last) (Some first) h = to_end_within first (range_named procedures last) (named_within last)

    not_less : (a b : ℕ) → nat_lt a b ≡ false → b ≤ a
    not_less a b e = grind arith

    found_within : (permits : Range → Bool) (first : Name) (last : Option Name) (range : Option Range)
        → found_rules permits first last range ≡ []
        → LastWithin count range → FoundWithin count range
    found_within permits first last None e h = tt
    found_within permits first last (Some range) e h =
        let backwards = nat_lt range.last range.first in
        let place = last_place first last in
        record {
          first = not_less range.last range.first
              (kept backwards 55 place
              (left_none (where_so backwards 55 place) (where_so (not (permits range)) 54 first.place) e));
          last = h;
        }

    -- what a PERFORM performs that keeps the rules
    pub range_within : (permits : Range → Bool) (first : Name) (last : Option Name)
        → range_rules permits procedures first last ≡ []
        → FoundWithin count (range_of procedures first last)
    range_within permits first last e =
        let names = procedure_named procedures first in
        let lasts = last_named procedures last in
        let found = range_of procedures first last in
        found_within permits first last found (right_none (names ++ lasts) (found_rules permits first last found) e)
        (through_within last (range_named procedures first) (named_within first))

-- ---- the procedures of a program

all_joined : (count : ℕ) (xs ys : List Procedure) → AllByRecursion (EndsWithin count) xs
    → AllByRecursion (EndsWithin count) ys
    → AllByRecursion (EndsWithin count) (xs ++ ys)
all_joined count [] ys a b = b
all_joined count (x ∷ xs) ys a b = (a.0, all_joined count xs ys a.1 b)

paragraphs_end : (count number : ℕ) (all : List Paragraph) → number + length all ≤ count
    → AllByRecursion (EndsWithin count) (paragraph_procedures number all)
paragraphs_end count number [] le = tt
paragraphs_end count number (one ∷ more) le =
    (omega (arith, le), paragraphs_end count (number + 1) more (omega (arith, le)))

some_paragraph : (all : List Paragraph) → 1 ≤ length (paragraphs_or_one all)
some_paragraph [] = omega arith
some_paragraph (one ∷ more) = omega arith

pub procedures_end : (count number : ℕ) (sections : List Section) → number + length (paragraphs_in sections) ≤ count
    → AllByRecursion (EndsWithin count) (procedures_from number sections)
procedures_end count number [] le = tt
procedures_end count number (one ∷ more) le =
    let inside = paragraphs_or_one one.paragraphs in
    let n = length-append inside (paragraphs_in more) in
    let some = some_paragraph one.paragraphs in (
      omega (arith, le, n, some),
      all_joined count (paragraph_procedures number inside) (procedures_from (number + length inside) more)
          (paragraphs_end count number inside (omega (arith, le, n)))
          (procedures_end count (number + length inside) more (omega (arith, le, n))),
    )
