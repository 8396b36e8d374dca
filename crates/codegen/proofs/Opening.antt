-- Ways one within the other, whose branches and jumps get their addresses when all of them stand.
use Rattle.std.proofs.Common.{◌≡◌, ℕ, ◌+◌, ◌-◌, ◌<◌, ◌≤◌, List, [], ◌∷◌, ◌++◌, length, drop, get_or, Option, refl, sym}
use Rattle.std.proofs.Common.{ap, subst, ◌∙◌, arith, length-append}
use Rattle.std.specs.Prelude.{slice_set}
use Rattle.std.specs.List.{AllByRecursion}
use Rattle.std.proofs.lemmas.List.{length-set, drop_more, drop_all}
use Rattle.source_tree.specs.declared.evaluate_statement.Subject.{Subject}
use Rattle.source_tree.specs.declared.evaluate_statement.Selected.{Selected}
use Rattle.source_tree.specs.Evaluate.{selected_condition}
use Rattle.source_tree.specs.Setting.{Scope}
use Rattle.code_image.specs.declared.code.Code.{Code}
use Rattle.code_image.specs.declared.instruction.Instruction.TheVariants.{Branch, Jump, Join}
use Rattle.codegen.specs.declared.phrases.Way.{Way}
use Rattle.condition_codegen.specs.Fragments.{Fragment, append, sequence, in_order}
use Rattle.condition_codegen.specs.Meeting.{branch_code, jump_code, either_fragment}
use Rattle.condition_codegen.specs.ConditionCode.{condition_fragment}
use Rattle.codegen.specs.Layout.{phrase_fragment, selection_fragment}
use Rattle.condition_codegen.specs.Phrases.{patched_code}
use Rattle.codegen.specs.Phrases.{IsWay, met_all, opened_fragment, Opens}
use Rattle.condition_codegen.proofs.Fragments.{both_joined}
use Rattle.condition_codegen.proofs.Sequences.{then_piece}
use Rattle.condition_codegen.proofs.Meeting.{meeting}

-- ---- one way

-- What stands in front of the branch, up to it, up to the jump, and up to where the other way begins.
module _ (test first : Fragment) (before : Code) where
  abbrev tested : Code
  tested = append before (test before)

  abbrev begun : Code
  begun = append tested (branch_code 0)

  abbrev way_code : Code
  way_code = append begun (first begun)

  abbrev middle : Code
  middle = append way_code (jump_code 0)

  opened_is : append before (opened_fragment test first before) ≡ middle
  opened_is =
      both_joined test (sequence (λ now. branch_code 0) (sequence first (λ now. jump_code 0))) before
      ∙ both_joined (λ now. branch_code 0) (sequence first (λ now. jump_code 0)) tested
      ∙ both_joined first (λ now. jump_code 0) begun

  -- With what follows it, and both ends met, it is the test and either way.
  pub opened : (second : Fragment) (after : Code) (one : Way) → Opens test first before after one
      → patched_code one.branch one.other (append after (second after))
      ≡ append before (sequence test (either_fragment first second) before)
  opened second after one o =
      let is : after ≡ middle = o.code ∙ opened_is in
      let end = patched_code one.branch one.other (append after (second after)) in
      let count : one.other ≡ length way_code.instructions + 2 =
      o.other ∙ ap (λ (c : Code). length c.instructions) is
      ∙ length-append way_code.instructions (Jump 0 ∷ Join ∷ []) in
      then_piece test (either_fragment first second) before tested end refl
      (meeting first second tested begun way_code middle (append after (second after)) end one.branch one.other refl
      o.branch refl refl count
      (ap (λ (c : Code). append c (second c)) is) refl)

  pub opened_way : (after : Code) (one : Way) → Opens test first before after one
      → IsWay (length after.instructions) one
  opened_way after one o =
      let is : length after.instructions ≡ length middle.instructions =
      ap (λ (c : Code). length c.instructions) (o.code ∙ opened_is) in
      let h1 = length-append way_code.instructions (Jump 0 ∷ Join ∷ []) in
      let h2 = length-append begun.instructions (first begun).instructions in
      let h3 = length-append tested.instructions (Branch 0 ∷ []) in
      let h4 = length-append before.instructions (test before).instructions in
      record {
        branch = omega (arith, is, h1, h2, h3, o.branch);
        jump = omega (arith, is, h1, h2, h3, o.other);
        other = omega (arith, o.other);
      }

  pub opened_longer : (after : Code) (one : Way) → Opens test first before after one
      → length before.instructions ≤ length after.instructions
  opened_longer after one o =
      let is : length after.instructions ≡ length middle.instructions =
      ap (λ (c : Code). length c.instructions) (o.code ∙ opened_is) in
      let h1 = length-append way_code.instructions (Jump 0 ∷ Join ∷ []) in
      let h2 = length-append begun.instructions (first begun).instructions in
      let h3 = length-append tested.instructions (Branch 0 ∷ []) in
      let h4 = length-append before.instructions (test before).instructions in
      omega (arith, is, h1, h2, h3, h4)

-- ---- all ways

module _ {X : Type 0} (P : X → Type 0) where
  pub with_last : (xs : List X) (x : X) → AllByRecursion P xs → P x → AllByRecursion P (xs ++ x ∷ [])
  with_last [] x h p = (p, tt)
  with_last (y ∷ ys) x h p = (h.0, with_last ys x h.1 p)

  pub all_but_last : (xs : List X) (x : X) → AllByRecursion P (xs ++ x ∷ []) → AllByRecursion P xs
  all_but_last [] x h = tt
  all_but_last (y ∷ ys) x h = (h.0, all_but_last ys x h.1)

  pub last_one : (xs : List X) (x : X) → AllByRecursion P (xs ++ x ∷ []) → P x
  last_one [] x h = h.0
  last_one (y ∷ ys) x h = last_one ys x h.1

-- in longer code
pub still_ways : (ways : List Way) (count more : ℕ) → count ≤ more → AllByRecursion (IsWay count) ways
    → AllByRecursion (IsWay more) ways
still_ways [] count more le h = tt
still_ways (one ∷ others) count more le h = (
  record { branch = omega (arith, le, h.0.branch); jump = h.0.jump; other = omega (arith, le, h.0.other) },
  still_ways others count more le h.1,
)

-- A way that was opened is one of those of the longer code.
pub ways_pushed : (test first : Fragment) (before after : Code) (ways new : List Way) (way : Way)
    → new ≡ ways ++ way ∷ [] → Opens test first before after way
    → AllByRecursion (IsWay (length before.instructions)) ways
    → AllByRecursion (IsWay (length after.instructions)) new
ways_pushed test first before after ways new way pushed o within =
    let now = length before.instructions in
    let next = length after.instructions in
    subst (AllByRecursion (IsWay next)) (sym pushed)
    (with_last (IsWay next) ways way (still_ways ways now next (opened_longer test first before after way o) within)
    (opened_way test first before after way o))

pub met_longer : (branch other : ℕ) (code : Code)
    → length (patched_code branch other code).instructions ≡ length code.instructions + 1
met_longer branch other code =
    let all = code.instructions ++ Join ∷ [] in
    length-set (slice_set all branch (Branch other)) (other - 2) (Jump (length code.instructions + 1))
    ∙ length-set all branch (Branch other)
    ∙ length-append code.instructions (Join ∷ [])

pub last_met : (ways : List Way) (one : Way) (code : Code)
    → met_all (ways ++ one ∷ []) code ≡ met_all ways (patched_code one.branch one.other code)
last_met [] one code = refl
last_met (first ∷ more) one code = ap (patched_code first.branch first.other) (last_met more one code)

-- ---- the groups of an EVALUATE

module _ (scope : Scope) {S : Type 0} (inside : S → Fragment) (subjects : List Subject) (other : Option (List S)) where
  -- what is there, and what is still to come, are the whole once all ways meet
  pub groups_go_on : (ways : List Way) (groups : List (Selected S)) (i : ℕ) (d : Selected S) (one : Selected S)
      (code next total : Code) (way : Way) → i < length groups
      → one ≡ get_or groups i d
      → Opens (condition_fragment scope.items (selected_condition scope.items subjects one))
      (in_order inside one.statements) code next way
      → met_all ways (append code (selection_fragment scope inside subjects (drop i groups) other code)) ≡ total
      → met_all (ways ++ way ∷ [])
      (append next (selection_fragment scope inside subjects (drop (i + 1) groups) other next)) ≡ total
  groups_go_on ways groups i d one code next total way lt is o so_far =
      let rest = drop (i + 1) groups in
      let test = condition_fragment scope.items (selected_condition scope.items subjects one) in
      let list : one ∷ rest ≡ drop i groups = ap (λ (g : Selected S). g ∷ rest) is ∙ sym (drop_more groups i d lt) in
      last_met ways way (append next (selection_fragment scope inside subjects rest other next))
      ∙ ap (met_all ways) (opened test (in_order inside one.statements) code
      (selection_fragment scope inside subjects rest other) next way o
      ∙ ap (λ (l : List (Selected S)). append code (selection_fragment scope inside subjects l other code)) list)
      ∙ so_far

  -- the same with the new way at the end of a list
  pub groups_pushed : (ways new : List Way) (groups : List (Selected S)) (i : ℕ) (one : Selected S)
      (code next total : Code) (way : Way) → i < length groups → one ≡ get_or groups i one → new ≡ ways ++ way ∷ []
      → Opens (condition_fragment scope.items (selected_condition scope.items subjects one))
      (in_order inside one.statements) code next way
      → met_all ways (append code (selection_fragment scope inside subjects (drop i groups) other code)) ≡ total
      → met_all new (append next (selection_fragment scope inside subjects (drop (i + 1) groups) other next)) ≡ total
  groups_pushed ways new groups i one code next total way lt is pushed o so_far =
      let rest = selection_fragment scope inside subjects (drop (i + 1) groups) other in
      ap (λ (l : List Way). met_all l (append next (rest next))) pushed
      ∙ groups_go_on ways groups i one one code next total way lt is o so_far

  pub groups_done : (ways : List Way) (groups : List (Selected S)) (i : ℕ) (code done total : Code) → length groups ≤ i
      → done ≡ append code (phrase_fragment scope inside other code)
      → met_all ways (append code (selection_fragment scope inside subjects (drop i groups) other code)) ≡ total
      → met_all ways done ≡ total
  groups_done ways groups i code done total le is so_far =
      ap (met_all ways) (is ∙ sym (ap (λ (l : List (Selected S)).
      append code (selection_fragment scope inside subjects l other code)) (drop_all i groups le)))
      ∙ so_far
