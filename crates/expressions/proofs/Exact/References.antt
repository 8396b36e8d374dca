-- References: what is read is spelled, and what is spelled is read.
use Rattle.std.proofs.Common.{◌≡◌, ◌≤◌, Bool, true, false, List, [], ◌∷◌, length, Option, Some, None, Ok, refl, sym}
use Rattle.std.proofs.Common.{ap, subst, ◌∙◌, arith}
use Rattle.std.specs.Prelude.{if◌then◌else◌}
use Rattle.tokens.specs.declared.token.Token.{Token}
use Rattle.source_tree.specs.declared.reference.QualifiedName.{QualifiedName}
use Rattle.source_tree.specs.declared.reference.Subscript.{Subscript}
use Rattle.source_tree.specs.declared.reference.Subscript.TheVariants as subscript_as
use Rattle.source_tree.specs.declared.reference.Part.{Part as ItemPart}
use Rattle.source_tree.specs.declared.reference.Reference.{Reference}
use Rattle.grammar.specs.declared.fault.Halt.{Halt}
use Rattle.grammar.specs.Parts as parts
use Rattle.grammar.specs.Parts.{◌then◌, lookahead, several}
use Rattle.grammar.specs.Reading as read
use Rattle.grammar.specs.Reading.{Outcome, Parser, one_token}
use Rattle.grammar.proofs.Outcomes.{Answers, Reached, step, unstep, value, after, last}
use Rattle.grammar.proofs.Looking.{tests_tested}
use Rattle.grammar.proofs.Lists as lists
use Rattle.grammar.proofs.Lists.{Sound, Complete, Shrinks, Starts}
use Rattle.grammar.proofs.Parts.{one_token_sound, one_token_complete, telling_shrinks, telling_starts}
use Rattle.expressions.specs.Marks.{left_in, right_in, colon_in, colon, right_parenthesis, begins_left, begins_colon}
use Rattle.expressions.specs.Subscripts as s
use Rattle.expressions.specs.References as g
use Rattle.expressions.proofs.Exact.Marks.{begins_not, name_colon, integer_colon, right_colon}
use Rattle.expressions.proofs.Exact.Subscripts.{qualified_sound, qualified_complete, qualified_shrinks}
use Rattle.expressions.proofs.Exact.Subscripts.{qualified_starts, subscript_sound, subscript_complete}
use Rattle.expressions.proofs.Exact.Subscripts.{subscript_shrinks, subscript_starts}

-- ---- one token

left_sound : (u : Unit {0}) (i rest : List Token) → one_token left_in i ≡ Ok (u, rest)
    → parts.token_with left_in tt i rest
left_sound u i rest e = one_token_sound left_in u i rest e

right_sound : (u : Unit {0}) (i rest : List Token) → one_token right_in i ≡ Ok (u, rest)
    → parts.token_with right_in tt i rest
right_sound u i rest e = one_token_sound right_in u i rest e

colon_sound : (u : Unit {0}) (i rest : List Token) → one_token colon_in i ≡ Ok (u, rest)
    → parts.token_with colon_in tt i rest
colon_sound u i rest e = one_token_sound colon_in u i rest e

-- ---- further subscripts

abbrev further : List Subscript → parts.Part
further = parts.any s.subscript (lookahead s.begins_subscript)

further_sound : (all : List Subscript) (i rest : List Token)
    → read.any s.subscript_reader s.begins_subscript i ≡ Ok (all, rest) → further all i rest
further_sound = lists.any_sound s.subscript s.subscript_reader (lookahead s.begins_subscript) s.begins_subscript
    (tests_tested s.begins_subscript) subscript_sound

further_complete : {Allowed : Halt → Type 0}
    → Complete Allowed further (read.any s.subscript_reader s.begins_subscript)
further_complete {Allowed = Allowed} =
    lists.any_complete s.subscript s.subscript_reader (lookahead s.begins_subscript) s.begins_subscript
    (tests_tested s.begins_subscript) Allowed (subscript_complete {Allowed = Allowed}) subscript_shrinks
    subscript_starts

further_shrinks : (all : List Subscript) (i rest : List Token) → further all i rest → length rest ≤ length i
further_shrinks = lists.any_shrinks s.subscript (lookahead s.begins_subscript) subscript_shrinks

-- ---- After a number stands a colon exactly if it begins a part.

subscript_no_colon : (one : Subscript) (i rest : List Token) → s.subscript one i rest → begins_colon i ≡ false
subscript_no_colon (subscript_as.Literal n) i rest found = begins_not s.integer_in colon_in integer_colon n i rest found
subscript_no_colon (subscript_as.Item item by) i rest (i1, (i2, name, groups), added) =
    begins_not parts.name_in colon_in name_colon item.name i i2 name

further_no_colon : (all : List Subscript) (i middle rest : List Token) → further all i middle
    → parts.token_with right_in tt middle rest → begins_colon i ≡ false
further_no_colon [] i middle rest none right = ap begins_colon none.0
    ∙ begins_not right_in colon_in right_colon tt middle rest right
further_no_colon (one ∷ more) i middle rest (i1, first, others) right = subscript_no_colon one i i1 first

-- ---- parts

length_sound : Sound g.length g.length_reader
unfolding g.length_reader g.some_length_reader
length_sound x i rest e = go (s.begins_subscript i) refl e
  where
    go : (b : Bool) → s.begins_subscript i ≡ b
        → (if b then g.some_length_reader i else Ok (None, i)) ≡ Ok (x, rest) → g.length x i rest
    go true is e =
        unstep (s.subscript_reader i) _ e (λ one i1 is1 e1.
        subst (λ y. g.length y i rest) (value e1) (subscript_sound one i rest (last is1 e1)))
    go false is e = subst (λ y. g.length y i rest) (value e) (after e, (tests_tested s.begins_subscript).fails i is)

length_complete : {Allowed : Halt → Type 0} → Complete Allowed g.length g.length_reader
unfolding g.length_reader g.some_length_reader
length_complete None i rest e =
    rw ((tests_tested s.begins_subscript).refuses i e.1) (Reached (ap (λ j. Ok (None, j)) e.0))
length_complete (Some one) i rest e =
    rw (subscript_starts one i rest e)
    (step (s.subscript_reader i) _ (subscript_complete one i rest e) (Reached refl))

length_shrinks : (x : Option Subscript) (i rest : List Token) → g.length x i rest → length rest ≤ length i
length_shrinks None i rest e = let l = ap length e.0 in omega arith
length_shrinks (Some one) i rest e = let l = subscript_shrinks one i rest e in omega arith

-- from the colon on
abbrev from_colon : Option Subscript → parts.Part
from_colon size = colon then g.length size then right_parenthesis

part_from_sound : (first : Subscript) (x : ItemPart) (i rest : List Token)
    → g.part_from_reader first i ≡ Ok (x, rest) → (x.first ≡ first) × from_colon x.length i rest
unfolding g.part_from_reader
part_from_sound first x i rest e =
    unstep (one_token colon_in i) _ e (λ u i1 is1 e1.
    unstep (g.length_reader i1) _ e1 (λ size i2 is2 e2.
    unstep (one_token right_in i2) _ e2 (λ v i3 is3 e3.
    subst (λ (y : ItemPart). (y.first ≡ first) × from_colon y.length i rest) (value e3)
    (refl, (i1, colon_sound u i i1 is1, (i2, length_sound size i1 i2 is2, right_sound v i2 rest (last is3 e3)))))))

part_from_complete : {Allowed : Halt → Type 0} (x : ItemPart) (i rest : List Token) → from_colon x.length i rest
    → Answers Allowed (g.part_from_reader x.first i) x rest
unfolding g.part_from_reader
part_from_complete x i rest (i1, mark, (i2, size, right)) =
    step (one_token colon_in i) _ (one_token_complete colon_in tt i i1 mark)
    (step (g.length_reader i1) _ (length_complete x.length i1 i2 size)
    (step (one_token right_in i2) _ (one_token_complete right_in tt i2 rest right) (Reached refl)))

inside_shrinks : Shrinks g.inside
inside_shrinks x i rest (i1, first, (i2, mark, (i3, size, right))) =
    let a = subscript_shrinks x.first i i1 first in
    let b = telling_shrinks colon_in tt i1 i2 mark in
    let c = length_shrinks x.length i2 i3 size in
    let d = telling_shrinks right_in tt i3 rest right in omega arith

behind_sound : Sound g.part_behind g.part_behind_reader
unfolding g.part_behind_reader g.some_part_reader
behind_sound x i rest e = go (begins_left i) refl e
  where
    go : (b : Bool) → begins_left i ≡ b → (if b then g.some_part_reader i else Ok (None, i)) ≡ Ok (x, rest)
        → g.part_behind x i rest
    go true is e =
        unstep (one_token left_in i) _ e (λ u i1 is1 e1.
        unstep (s.subscript_reader i1) _ e1 (λ first i2 is2 e2.
        unstep (g.part_from_reader first i2) _ e2 (λ part i3 is3 e3.
        let found = part_from_sound first part i2 rest (last is3 e3) in
        subst (λ y. g.part_behind y i rest) (value e3) (
          i1,
          left_sound u i i1 is1,
          (i2, subst (λ n. s.subscript n i1 i2) (sym found.0) (subscript_sound first i1 i2 is2), found.1),
        ))))
    go false is e = subst (λ y. g.part_behind y i rest) (value e) (after e, (tests_tested begins_left).fails i is)

behind_complete : {Allowed : Halt → Type 0} → Complete Allowed g.part_behind g.part_behind_reader
unfolding g.part_behind_reader g.some_part_reader
behind_complete None i rest e =
    rw ((tests_tested begins_left).refuses i e.1) (Reached (ap (λ j. Ok (None, j)) e.0))
behind_complete (Some part) i rest (i1, left, (i2, first, found)) =
    rw (telling_starts left_in tt i i1 left)
    (step (one_token left_in i) _ (one_token_complete left_in tt i i1 left)
    (step (s.subscript_reader i1) _ (subscript_complete part.first i1 i2 first)
    (step (g.part_from_reader part.first i2) _ (part_from_complete part i2 rest found) (Reached refl))))

behind_shrinks : (x : Option ItemPart) (i rest : List Token) → g.part_behind x i rest → length rest ≤ length i
behind_shrinks None i rest e = let l = ap length e.0 in omega arith
behind_shrinks (Some part) i rest (i1, left, found) =
    let a = telling_shrinks left_in tt i i1 left in
    let b = inside_shrinks part i1 rest found in omega arith

-- ---- numbers in parentheses

abbrev Numbered : QualifiedName → Reference → List Token → List Token → Type 0
Numbered item x i rest = (x.item ≡ item) × g.numbers x.subscripts x.part i rest

item_part_sound : (item : QualifiedName) (first : Subscript) (x : Reference) (i i1 i2 rest : List Token)
    → parts.token_with left_in tt i i1 → s.subscript first i1 i2 → g.item_part_reader item first i2 ≡ Ok (x, rest)
    → Numbered item x i rest
unfolding g.item_part_reader
item_part_sound item first x i i1 i2 rest left number e =
    unstep (g.part_from_reader first i2) _ e (λ part i3 is3 e3.
    let found = part_from_sound first part i2 rest (last is3 e3) in
    subst (λ (y : Reference). Numbered item y i rest) (value e3)
    (refl, (i1, left, (i2, subst (λ n. s.subscript n i1 i2) (sym found.0) number, found.1))))

subscripted_sound : (item : QualifiedName) (first : Subscript) (x : Reference) (i i1 i2 rest : List Token)
    → parts.token_with left_in tt i i1 → s.subscript first i1 i2 → g.subscripted_reader item first i2 ≡ Ok (x, rest)
    → Numbered item x i rest
unfolding g.subscripted_reader
subscripted_sound item first x i i1 i2 rest left number e =
    unstep (read.any s.subscript_reader s.begins_subscript i2) _ e (λ more i3 is3 e3.
    unstep (one_token right_in i3) _ e3 (λ u i4 is4 e4.
    unstep (g.part_behind_reader i4) _ e4 (λ part i5 is5 e5.
    subst (λ (y : Reference). Numbered item y i rest) (value e5) (
      refl,
      (
        i1,
        left,
        (
          i3,
          (i2, number, further_sound more i2 i3 is3),
          (i4, right_sound u i3 i4 is4, behind_sound part i4 rest (last is5 e5)),
        ),
      ),
    ))))

after_number_sound : (item : QualifiedName) (first : Subscript) (x : Reference) (i i1 i2 rest : List Token)
    → parts.token_with left_in tt i i1 → s.subscript first i1 i2
    → g.after_number_reader item first i2 ≡ Ok (x, rest) → Numbered item x i rest
unfolding g.after_number_reader
after_number_sound item first x i i1 i2 rest left number e = go (begins_colon i2) e
  where
    go : (b : Bool) → (if b then g.item_part_reader item first i2 else g.subscripted_reader item first i2)
        ≡ Ok (x, rest) → Numbered item x i rest
    go true e = item_part_sound item first x i i1 i2 rest left number e
    go false e = subscripted_sound item first x i i1 i2 rest left number e

after_name_sound : (item : QualifiedName) (x : Reference) (i rest : List Token)
    → g.after_name_reader item i ≡ Ok (x, rest) → Numbered item x i rest
unfolding g.after_name_reader g.enclosed_numbers_reader
after_name_sound item x i rest e = go (begins_left i) refl e
  where
    go : (b : Bool) → begins_left i ≡ b
        → (if b then g.enclosed_numbers_reader item i
        else Ok (record { item = item; subscripts = []; part = None }, i)) ≡ Ok (x, rest)
        → Numbered item x i rest
    go true is e =
        unstep (one_token left_in i) _ e (λ u i1 is1 e1.
        unstep (s.subscript_reader i1) _ e1 (λ first i2 is2 e2.
        after_number_sound item first x i i1 i2 rest (left_sound u i i1 is1) (subscript_sound first i1 i2 is2) e2))
    go false is e = subst (λ (y : Reference). Numbered item y i rest) (value e)
        (refl, (after e, (tests_tested begins_left).fails i is))

abbrev referring : QualifiedName → List Subscript → Option ItemPart → Reference
referring item subscripts part = record { item = item; subscripts = subscripts; part = part }

after_name_complete : {Allowed : Halt → Type 0} (item : QualifiedName) (subscripts : List Subscript)
    (part : Option ItemPart) (i rest : List Token) → g.numbers subscripts part i rest
    → Answers Allowed (g.after_name_reader item i) (referring item subscripts part) rest
unfolding g.after_name_reader g.enclosed_numbers_reader g.after_number_reader g.item_part_reader g.subscripted_reader
after_name_complete item [] None i rest e =
    rw ((tests_tested begins_left).refuses i e.1) (Reached (ap (λ j. Ok (referring item [] None, j)) e.0))
after_name_complete item [] (Some part) i rest (i1, left, (i2, first, (i3, mark, found))) =
    rw (telling_starts left_in tt i i1 left)
    (step (one_token left_in i) _ (one_token_complete left_in tt i i1 left)
    (step (s.subscript_reader i1) _ (subscript_complete part.first i1 i2 first)
    (rw (telling_starts colon_in tt i2 i3 mark)
    (step (g.part_from_reader part.first i2) _ (part_from_complete part i2 rest (i3, mark, found)) (Reached refl)))))
after_name_complete item (one ∷ more) part i rest (i1, left, (i3, (i2, first, others), (i4, right, found))) =
    rw (telling_starts left_in tt i i1 left)
    (step (one_token left_in i) _ (one_token_complete left_in tt i i1 left)
    (step (s.subscript_reader i1) _ (subscript_complete one i1 i2 first)
    (rw (further_no_colon more i2 i3 i4 others right)
    (step (read.any s.subscript_reader s.begins_subscript i2) _ (further_complete more i2 i3 others)
    (step (one_token right_in i3) _ (one_token_complete right_in tt i3 i4 right)
    (step (g.part_behind_reader i4) _ (behind_complete part i4 rest found) (Reached refl)))))))

numbers_shrink : (subscripts : List Subscript) (part : Option ItemPart) (i rest : List Token)
    → g.numbers subscripts part i rest → length rest ≤ length i
numbers_shrink [] part i rest e = behind_shrinks part i rest e
numbers_shrink (one ∷ more) part i rest (i1, left, (i3, (i2, first, others), (i4, right, found))) =
    let a = telling_shrinks left_in tt i i1 left in
    let b = subscript_shrinks one i1 i2 first in
    let c = further_shrinks more i2 i3 others in
    let d = telling_shrinks right_in tt i3 i4 right in
    let e = behind_shrinks part i4 rest found in omega arith

-- ---- references

pub reference_sound : Sound g.reference g.reference_reader
unfolding g.reference_reader
reference_sound x i rest e =
    unstep (s.qualified_reader i) _ e (λ item i1 is1 e1.
    let found = after_name_sound item x i1 rest e1 in
    (i1, subst (λ q. s.qualified_name q i i1) (sym found.0) (qualified_sound item i i1 is1), found.1))

pub reference_complete : {Allowed : Halt → Type 0} → Complete Allowed g.reference g.reference_reader
unfolding g.reference_reader
reference_complete x i rest (i1, item, found) =
    step (s.qualified_reader i) _ (qualified_complete x.item i i1 item)
    (after_name_complete x.item x.subscripts x.part i1 rest found)

pub reference_shrinks : Shrinks g.reference
reference_shrinks x i rest (i1, item, found) =
    let a = qualified_shrinks x.item i i1 item in
    let b = numbers_shrink x.subscripts x.part i1 rest found in omega arith

pub reference_starts : Starts parts.begins_name g.reference
reference_starts x i rest (i1, item, found) = qualified_starts x.item i i1 item

-- ---- references in a list

pub references_sound :
    Sound (several g.reference (lookahead parts.begins_name)) (read.several g.reference_reader parts.begins_name)
references_sound = lists.several_sound g.reference g.reference_reader (lookahead parts.begins_name) parts.begins_name
    (tests_tested parts.begins_name) reference_sound

pub references_complete : {Allowed : Halt → Type 0} → Complete Allowed
    (several g.reference (lookahead parts.begins_name)) (read.several g.reference_reader parts.begins_name)
references_complete {Allowed = Allowed} =
    lists.several_complete g.reference g.reference_reader (lookahead parts.begins_name) parts.begins_name
    (tests_tested parts.begins_name) Allowed (reference_complete {Allowed = Allowed}) reference_shrinks reference_starts

pub references_shrink : Shrinks (several g.reference (lookahead parts.begins_name))
references_shrink = lists.several_shrinks g.reference (lookahead parts.begins_name) reference_shrinks
