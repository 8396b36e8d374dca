-- A PERFORM that leads back.
use Rattle.std.proofs.Common.{◌≡◌, ℕ, zero, suc, ◌+◌, ◌<◌, ◌≤◌, Bool, true, false, List, [], ◌∷◌, get_or, Some, sym, ap}
use Rattle.std.proofs.Common.{None, Ok, Err, ◌++◌, length, take, ◌∙◌, subst, arith, below_more}
use Rattle.std.specs.Prelude.{All, Option, Result, IfErr, map, slice_get}
use Rattle.std.proofs.lemmas.List.{take_more}
use Rattle.std.proofs.lemmas.List.Elements.{All-append, All-from_recursion}
use Rattle.std.proofs.lemmas.Option.{get_or_from_slice_get, slice_get_within}
use Rattle.lexical.specs.declared.place.Place.{Place}
use Rattle.perform_graph.specs.declared.performed.PerformedRange.{PerformedRange}
use Rattle.perform_graph.specs.declared.order.Order.{Order}
use Rattle.perform_graph.specs.declared.order.Order.TheVariants.{Recursive}
use Rattle.perform_graph.specs.Order.{marks, AreRanks, IsOrder, PerformOneAnother}
use Rattle.source_tree.specs.declared.program.Program.{Program}
use Rattle.source_tree.specs.Broken.{RuleBreach}
use Rattle.source_tree.specs.Recursion.{performs, performed_by_program, HasOrder, IsRecursivePerform}
use Rattle.entry_rules.specs.declared.rule.CheckError.{CheckError}
use Rattle.entry_rules.specs.Checks.{fault_of}
use Rattle.check_rules.specs.declared.performs.Performs.{Performs}
use Rattle.check_rules.specs.Performs.{AreOrdered, IsBackAmong, LeadsBack, PerformsWithin, IsFirstWithin}
use Rattle.check_rules.specs.Refusals.{IsBack}
use Rattle.check_rules.proofs.PerformedRanges.{IsCollected}

-- Among paragraphs that perform one another some PERFORM leads back.
pub some_leads : (among : ℕ → Bool) (ranges : List PerformedRange)
    → All (λ (one : PerformedRange). PerformsWithin among one → ⊥) ranges → PerformOneAnother among ranges → ⊥
some_leads among ranges none ring =
    let one = ring.each ring.some ring.marked in
    let is = get_or_from_slice_get ranges one.at one.one one.one one.stands in
    none one.at one.one (slice_get_within ranges one.at one.one one.stands)
    (subst (PerformsWithin among) (sym is)
    (record {
      performer = ap among one.performer ∙ ring.marked;
      other = one.other;
      within = one.within;
      marked = one.marked;
    }))

-- a place and what is named there, where both stand at one number
pair_at : (all : List (Place × PerformedRange)) (number : ℕ) (place : Place) (one : PerformedRange)
    → place ≡ get_or (map (λ (p : Place × PerformedRange). p.0) all) number place
    → slice_get (map (λ (p : Place × PerformedRange). p.1) all) number ≡ Some one
    → slice_get all number ≡ Some (place, one)
pair_at [] number place one at is = absurd cc
pair_at (first ∷ more) zero place one at is =
    ap Some (ap (λ (p : Place). (p, first.1)) (sym at) ∙ ap (λ (r : PerformedRange). (place, r)) (same first.1 one is))
  where
    same : (a b : PerformedRange) → Some a ≡ Some b → a ≡ b
    same a b e = cc
pair_at (first ∷ more) (suc number) place one at is = pair_at more number place one at is

leads_back : (program : Program) (among : ℕ → Bool) (ranges : List PerformedRange) (places : List Place)
    (number : ℕ) (place : Place)
    → ranges ≡ map (λ (p : Place × PerformedRange). p.1) (performs program)
    → places ≡ map (λ (p : Place × PerformedRange). p.0) (performs program)
    → PerformOneAnother among ranges → IsFirstWithin among ranges number → place ≡ get_or places number place
    → IsRecursivePerform program place
leads_back program among ranges places number place performed named ring found at = record {
  among = among;
  ring = subst (PerformOneAnother among) performed ring;
  at = number;
  one = found.one;
  stands = pair_at (performs program) number place found.one (at ∙ ap (λ (l : List Place). get_or l number place) named)
      (ap (λ (l : List PerformedRange). slice_get l number) (sym performed) ∙ found.stands);
  performer = found.leads.performer;
  other = found.leads.other;
  within = found.leads.within;
  marked = found.leads.marked;
}

-- none so far, nor the next one
pub none_next : {X : Type 0} (P : X → Type 0) (all : List X) (i : ℕ) (one : X) → i < length all → one ≡ get_or all i one
    → All P (take i all) → P one → All P (take (i + 1) all)
none_next {X} P all i one lt is before here =
    subst (All P) (sym (take_more all i one lt ∙ ap (λ (x : X). take i all ++ x ∷ []) (sym is)))
    (All-append P (take i all) (one ∷ []) before (All-from_recursion P (one ∷ []) (here, tt)))

-- none from here to there is marked, nor the next one
pub unmarked_more : (among : ℕ → Bool) (low at : ℕ) → ((k : ℕ) → low ≤ k → k < at → among k ≡ false) → among at ≡ false
    → (k : ℕ) → low ≤ k → k < at + 1 → among k ≡ false
unmarked_more among low at before here k le lt =
    below_more (λ (n : ℕ). low ≤ n → among n ≡ false) at (λ n less more. before n more less) (λ more. here) k lt le

pub not_back : (among : ℕ → Bool) (one : PerformedRange) (end : ℕ) → (one.first ≤ one.last → one.last < end)
    → ((k : ℕ) → one.first ≤ k → k < end → among k ≡ false) → PerformsWithin among one → ⊥
not_back among one end room none leads =
    let low = leads.within.first in
    let high = leads.within.last in
    let past = room (omega arith) in
    let no : true ≡ false = sym leads.marked ∙ none leads.other low (omega arith) in
    cc

-- the marked paragraphs perform one another
pub ring_at : (count : ℕ) (performed ranges : List PerformedRange) (order : Order) (marked given : List Bool)
    → IsOrder count performed order → order ≡ Recursive marked
    → given ≡ marked → performed ≡ ranges → PerformOneAnother (marks given) ranges
ring_at count performed ranges order marked given is recursive same alike =
    let ring : PerformOneAnother (marks marked) performed = subst (IsOrder count performed) recursive is in
    subst (PerformOneAnother (marks given)) alike
    (subst (λ (l : List Bool). PerformOneAnother (marks l) performed) (sym same) ring)

-- The PERFORM that is refused is the first that leads among the marked paragraphs.
pub refuses_back : (all : Performs) (count number : ℕ) (performed ranges : List PerformedRange) (order : Order)
    (marked given : List Bool) (place : Place)
    → IsOrder count performed order → order ≡ Recursive marked → given ≡ marked
    → performed ≡ all.ranges.items → ranges ≡ all.ranges.items
    → IsFirstWithin (marks given) ranges number → place ≡ get_or all.places.items number place
    → LeadsBack all place
refuses_back all count number performed ranges order marked given place is recursive same one other found at = record {
  among = marks given;
  ring = ring_at count performed all.ranges.items order marked given is recursive same one;
  number = number;
  found = subst (λ (l : List PerformedRange). IsFirstWithin (marks given) l number) other found;
  stands = at;
}

-- ---- the PERFORMs that were collected are those of the program

module _ (program : Program) (all : Performs) (count : ℕ) (h : IsCollected program all count) where
  pub ordered : AreOrdered count all.ranges.items → HasOrder program
  ordered order = (
    order.0,
    subst (λ (n : ℕ). AreRanks n (performed_by_program program) order.0) h.count
        (subst (λ (l : List PerformedRange). AreRanks count l order.0) h.ranges order.1),
  )

  back_at : (fault : Option RuleBreach) → IsBackAmong all fault → IsBack program fault
  back_at None k = tt
  back_at (Some one) k = (
    k.0,
    leads_back program k.1.among all.ranges.items all.places.items k.1.number one.place h.ranges h.places k.1.ring
        k.1.found k.1.stands,
  )

  pub refused_back : {A : Type 0} (result : Result A CheckError)
      → IfErr result (λ e. IsBackAmong all (fault_of e)) → IfErr result (λ e. IsBack program (fault_of e))
  refused_back (Ok value) k = tt
  refused_back (Err e) k = back_at (fault_of e) k
