-- Qualified names and subscripts: what is read is spelled, and what is spelled is read.
use Rattle.std.proofs.Common.{◌≡◌, ◌≤◌, Bool, true, false, List, length, Ok, inl, inr, refl, ap, subst, arith}
use Rattle.std.specs.Prelude.{◌||◌, if◌then◌else◌}
use Rattle.tokens.specs.declared.reserved.Reserved.TheVariants as w
use Rattle.tokens.specs.declared.token.Token.{Token}
use Rattle.source_tree.specs.declared.literal.Integer.{Integer}
use Rattle.source_tree.specs.declared.reference.Adjustment.{Adjustment}
use Rattle.source_tree.specs.declared.reference.Adjustment.TheVariants as adjustment
use Rattle.source_tree.specs.declared.reference.Subscript.TheVariants as subscript_as
use Rattle.grammar.specs.declared.fault.Halt.{Halt}
use Rattle.grammar.specs.Parts as parts
use Rattle.grammar.specs.Parts.{lookahead, token_with, begins_telling, name_in}
use Rattle.grammar.specs.Reading as read
use Rattle.tokens.specs.Reserved.{same_word}
use Rattle.grammar.specs.Reading.{Outcome, Parser, ◌>>◌, begins_word, one_token}
use Rattle.grammar.proofs.Outcomes.{Reached, step, unstep, value, after, last}
use Rattle.grammar.proofs.Looking.{tests_tested, word_begins, begins_no_other}
use Rattle.grammar.proofs.Lists as lists
use Rattle.grammar.proofs.Lists.{Sound, Complete, Shrinks, Starts}
use Rattle.grammar.proofs.Parts.{name_sound, name_complete, name_shrinks, name_starts, word_sound, word_complete}
use Rattle.grammar.proofs.Parts.{word_shrinks, one_token_sound, one_token_complete, telling_shrinks, telling_starts}
use Rattle.expressions.specs.declared.marks.PlusOrMinus.{PlusOrMinus}
use Rattle.expressions.specs.declared.marks.PlusOrMinus.TheVariants.{Plus, Minus}
use Rattle.expressions.specs.Marks.{sign_in, begins_sign}
use Rattle.expressions.specs.Subscripts as s
use Rattle.expressions.proofs.Exact.Marks.{begins_not, name_integer, either}

-- ---- qualifiers

in_first : same_word w.Of w.In ≡ false
unfolding same_word
in_first = refl

qualifier_sound : Sound s.qualifier s.qualifier_reader
unfolding s.qualifier_reader
qualifier_sound x i rest e = go (begins_word w.In i) e
  where
    go : (b : Bool) → (if b then (read.expect w.In >> read.name) i else (read.expect w.Of >> read.name) i) ≡ Ok
        (x, rest) → s.qualifier x i rest
    go true e =
        unstep (read.expect w.In i) _ e (λ u i1 is1 e1. (i1, inl (word_sound w.In u i i1 is1), name_sound x i1 rest e1))
    go false e =
        unstep (read.expect w.Of i) _ e (λ u i1 is1 e1. (i1, inr (word_sound w.Of u i i1 is1), name_sound x i1 rest e1))

qualifier_complete : {Allowed : Halt → Type 0} → Complete Allowed s.qualifier s.qualifier_reader
unfolding s.qualifier_reader
qualifier_complete x i rest (i1, inl first, given) =
    rw (word_begins w.In i i1 first)
    (step (read.expect w.In i) _ (word_complete w.In tt i i1 first) (name_complete x i1 rest given))
qualifier_complete x i rest (i1, inr first, given) =
    rw (begins_no_other w.Of w.In in_first i i1 first)
    (step (read.expect w.Of i) _ (word_complete w.Of tt i i1 first) (name_complete x i1 rest given))

qualifier_shrinks : Shrinks s.qualifier
qualifier_shrinks x i rest (i1, inl first, given) = let a = word_shrinks w.In i i1 first in let b =
    name_shrinks x i1 rest given in omega arith
qualifier_shrinks x i rest (i1, inr first, given) = let a = word_shrinks w.Of i i1 first in let b =
    name_shrinks x i1 rest given in omega arith

qualifier_starts : Starts s.begins_qualifier s.qualifier
qualifier_starts x i rest (i1, inl first, given) = ap (λ b. b || begins_word w.Of i) (word_begins w.In i i1 first)
qualifier_starts x i rest (i1, inr first, given) =
    either (begins_word w.In i) (begins_word w.Of i) (word_begins w.Of i i1 first)

-- ---- qualified names

pub qualified_sound : Sound s.qualified_name s.qualified_reader
unfolding s.qualified_reader
qualified_sound x i rest e =
    unstep (read.name i) _ e (λ given i1 is1 e1.
    unstep (read.any s.qualifier_reader s.begins_qualifier i1) _ e1 (λ groups i2 is2 e2.
    subst (λ y. s.qualified_name y i rest) (value e2) (
      i1,
      name_sound given i i1 is1,
      lists.any_sound s.qualifier s.qualifier_reader (lookahead s.begins_qualifier) s.begins_qualifier
          (tests_tested s.begins_qualifier) qualifier_sound groups i1 rest (last is2 e2),
    )))

pub qualified_complete : {Allowed : Halt → Type 0} → Complete Allowed s.qualified_name s.qualified_reader
unfolding s.qualified_reader
qualified_complete {Allowed = Allowed} x i rest (i1, given, groups) =
    step (read.name i) _ (name_complete x.name i i1 given)
    (step (read.any s.qualifier_reader s.begins_qualifier i1) _
    (lists.any_complete s.qualifier s.qualifier_reader (lookahead s.begins_qualifier) s.begins_qualifier
    (tests_tested s.begins_qualifier) Allowed (qualifier_complete {Allowed = Allowed}) qualifier_shrinks
    qualifier_starts x.qualifiers i1 rest groups)
    (Reached refl))

pub qualified_shrinks : Shrinks s.qualified_name
qualified_shrinks x i rest (i1, given, groups) =
    let a = name_shrinks x.name i i1 given in
    let b =
    lists.any_shrinks s.qualifier (lookahead s.begins_qualifier) qualifier_shrinks x.qualifiers i1 rest groups in
    omega arith

pub qualified_starts : Starts parts.begins_name s.qualified_name
qualified_starts x i rest (i1, given, groups) = name_starts x.name i i1 given

-- ---- integers

pub integer_sound : Sound s.integer s.integer_reader
unfolding s.integer_reader
integer_sound = one_token_sound s.integer_in

pub integer_complete : {Allowed : Halt → Type 0} → Complete Allowed s.integer s.integer_reader
unfolding s.integer_reader
integer_complete {Allowed = Allowed} = one_token_complete s.integer_in {Allowed = Allowed}

pub integer_shrinks : Shrinks s.integer
integer_shrinks = telling_shrinks s.integer_in

pub integer_starts : Starts s.begins_integer s.integer
integer_starts = telling_starts s.integer_in

-- ---- what is added

adjusted_by : (sign : PlusOrMinus) (n : Integer) (i i1 rest : List Token) → token_with sign_in sign i i1
    → s.integer n i1 rest → s.adjustment (s.adjustment_of sign n) i rest
adjusted_by Plus n i i1 rest a b = (i1, a, b)
adjusted_by Minus n i i1 rest a b = (i1, a, b)

signed_integer_sound : (x : Adjustment) (i rest : List Token) → s.signed_integer_reader i ≡ Ok (x, rest)
    → s.adjustment x i rest
unfolding s.signed_integer_reader
signed_integer_sound x i rest e =
    unstep (one_token sign_in i) _ e (λ sign i1 is1 e1.
    unstep (s.integer_reader i1) _ e1 (λ n i2 is2 e2.
    subst (λ y. s.adjustment y i rest) (value e2)
    (adjusted_by sign n i i1 rest (one_token_sound sign_in sign i i1 is1) (integer_sound n i1 rest (last is2 e2)))))

adjusted_sound : Sound s.adjustment s.adjustment_reader
unfolding s.adjustment_reader
adjusted_sound x i rest e = go (begins_sign i) refl e
  where
    go : (b : Bool) → begins_sign i ≡ b
        → (if b then s.signed_integer_reader i else Ok (adjustment.Nothing, i)) ≡ Ok (x, rest) → s.adjustment x i rest
    go true is e = signed_integer_sound x i rest e
    go false is e = subst (λ y. s.adjustment y i rest) (value e) (after e, (tests_tested begins_sign).fails i is)

adjusted_complete : {Allowed : Halt → Type 0} → Complete Allowed s.adjustment s.adjustment_reader
unfolding s.adjustment_reader s.signed_integer_reader
adjusted_complete adjustment.Nothing i rest e =
    rw ((tests_tested begins_sign).refuses i e.1) (Reached (ap (λ j. Ok (adjustment.Nothing, j)) e.0))
adjusted_complete (adjustment.Plus n) i rest (i1, sign, integer) =
    rw (telling_starts sign_in Plus i i1 sign)
    (step (one_token sign_in i) _ (one_token_complete sign_in Plus i i1 sign)
    (step (s.integer_reader i1) _ (integer_complete n i1 rest integer) (Reached refl)))
adjusted_complete (adjustment.Minus n) i rest (i1, sign, integer) =
    rw (telling_starts sign_in Minus i i1 sign)
    (step (one_token sign_in i) _ (one_token_complete sign_in Minus i i1 sign)
    (step (s.integer_reader i1) _ (integer_complete n i1 rest integer) (Reached refl)))

adjusted_shrinks : (x : Adjustment) (i rest : List Token) → s.adjustment x i rest → length rest ≤ length i
adjusted_shrinks adjustment.Nothing i rest e = let l = ap length e.0 in omega arith
adjusted_shrinks (adjustment.Plus n) i rest (i1, sign, integer) =
    let a = telling_shrinks sign_in Plus i i1 sign in let b =
    telling_shrinks s.integer_in n i1 rest integer in omega arith
adjusted_shrinks (adjustment.Minus n) i rest (i1, sign, integer) =
    let a = telling_shrinks sign_in Minus i i1 sign in let b =
    telling_shrinks s.integer_in n i1 rest integer in omega arith

-- ---- subscripts

literal_subscript_sound : Sound s.subscript s.literal_subscript_reader
unfolding s.literal_subscript_reader
literal_subscript_sound x i rest e =
    unstep (s.integer_reader i) _ e
    (λ n i1 is1 e1. subst (λ y. s.subscript y i rest) (value e1) (integer_sound n i rest (last is1 e1)))

item_subscript_sound : Sound s.subscript s.item_subscript_reader
unfolding s.item_subscript_reader
item_subscript_sound x i rest e =
    unstep (s.qualified_reader i) _ e (λ item i1 is1 e1.
    unstep (s.adjustment_reader i1) _ e1 (λ by i2 is2 e2.
    subst (λ y. s.subscript y i rest) (value e2)
    (i1, qualified_sound item i i1 is1, adjusted_sound by i1 rest (last is2 e2))))

pub subscript_sound : Sound s.subscript s.subscript_reader
unfolding s.subscript_reader
subscript_sound x i rest e = go (s.begins_integer i) e
  where
    go : (b : Bool) → (if b then s.literal_subscript_reader i else s.item_subscript_reader i) ≡ Ok (x, rest)
        → s.subscript x i rest
    go true e = literal_subscript_sound x i rest e
    go false e = item_subscript_sound x i rest e

pub subscript_complete : {Allowed : Halt → Type 0} → Complete Allowed s.subscript s.subscript_reader
unfolding s.subscript_reader s.literal_subscript_reader s.item_subscript_reader
subscript_complete (subscript_as.Literal n) i rest e =
    rw (telling_starts s.integer_in n i rest e)
    (step (s.integer_reader i) _ (integer_complete n i rest e) (Reached refl))
subscript_complete (subscript_as.Item item by) i rest (i1, name, added) =
    rw (begins_not name_in s.integer_in name_integer item.name i name.0 name.1)
    (step (s.qualified_reader i) _ (qualified_complete item i i1 name)
    (step (s.adjustment_reader i1) _ (adjusted_complete by i1 rest added) (Reached refl)))

pub subscript_shrinks : Shrinks s.subscript
subscript_shrinks (subscript_as.Literal n) i rest e = telling_shrinks s.integer_in n i rest e
subscript_shrinks (subscript_as.Item item by) i rest (i1, name, added) =
    let a = qualified_shrinks item i i1 name in let b = adjusted_shrinks by i1 rest added in omega arith

pub subscript_starts : Starts s.begins_subscript s.subscript
subscript_starts (subscript_as.Literal n) i rest e =
    ap (λ b. b || parts.begins_name i) (telling_starts s.integer_in n i rest e)
subscript_starts (subscript_as.Item item by) i rest (i1, name, added) =
    either (s.begins_integer i) (parts.begins_name i) (qualified_starts item i i1 name)
