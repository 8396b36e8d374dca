-- Conditions without NOT, AND, OR and parentheses around them: what is read is spelled, and what is spelled is read.
use Rattle.std.proofs.Common.{◌≡◌, ℕ, Bool, true, false, if◌then◌else◌, List, length, Option, Ok, inl, inr, refl, sym}
use Rattle.std.proofs.Common.{ap, ◌∙◌, subst, arith}
use Rattle.std.specs.Prelude.{◌||◌, ◌&&◌, not}
use Rattle.tokens.specs.declared.reserved.Reserved.TheVariants as w
use Rattle.tokens.specs.declared.token.Token.{Token}
use Rattle.source_tree.specs.declared.reference.Reference.{Reference}
use Rattle.source_tree.specs.declared.condition.SignTest.{SignTest}
use Rattle.source_tree.specs.declared.condition.Side.{Side}
use Rattle.source_tree.specs.declared.condition.Side.TheVariants as side_as
use Rattle.source_tree.specs.declared.condition.Condition.{Condition}
use Rattle.source_tree.specs.declared.condition.Condition.TheVariants as c
use Rattle.grammar.specs.declared.fault.Halt.{Halt}
use Rattle.grammar.specs.Parts.{Part, ◌or◌, lookahead, begins_name, name_in}
use Rattle.grammar.specs.Reading.{rest_of, begins_word}
use Rattle.grammar.proofs.Outcomes.{Answers, Reached, Deeper, step, unstep, value, after, last}
use Rattle.grammar.proofs.Looking.{tests_tested}
use Rattle.grammar.proofs.Lists.{Sound, Complete, Shrinks}
use Rattle.expressions.specs.Marks.{left_in, begins_left}
use Rattle.expressions.specs.References.{reference, reference_reader}
use Rattle.expressions.specs.Looking.{past_reference, past_parentheses, begins_operator}
use Rattle.expressions.proofs.Exact.Marks.{begins_not, name_left, either}
use Rattle.expressions.proofs.Exact.References.{reference_sound, reference_complete, reference_shrinks}
use Rattle.expressions.proofs.Exact.References.{reference_starts}
use Rattle.expressions.proofs.Exact.Expressions.{expression_shrinks}
use Rattle.expressions.proofs.Exact.Balance.{Even, reference_even, expression_even, without_even}
use Rattle.expressions.proofs.Exact.Leads.{GoesOn, reference_passed, expression_leads}
use Rattle.conditions.specs.declared.asked.Asked.{Asked}
use Rattle.conditions.specs.declared.asked.Asked.TheVariants as asked_as
use Rattle.conditions.specs.Tests.{test_phrase, asked_reader, begins_test, begins_class}
use Rattle.conditions.specs.Conditions as g
use Rattle.conditions.specs.Conditions.{goes_on, goes_on_after, class_follows}
use Rattle.conditions.proofs.Exact.Tests.{asked_sound, asked_complete, asked_shrinks, asked_even, asked_begins}
use Rattle.conditions.proofs.Exact.Tests.{asked_class, no_test_no_class, operator_no_class}
use Rattle.conditions.proofs.Exact.Sides.{side_sound, side_complete, side_shrinks, side_even, side_no_word}
use Rattle.conditions.proofs.Exact.Sides.{name_no_word, not_opens_none, text_opens}

-- ---- what is read is spelled

named_sound : (i : List Token) → goes_on_after (past_reference i) ≡ false → (x : Condition) (rest : List Token)
    → g.named_reader i ≡ Ok (x, rest) → g.condition_name x i rest
unfolding g.named_reader
named_sound i stops x rest e =
    unstep (reference_reader i) _ e (λ one i1 is1 e1.
    let found = last is1 e1 in (
      one,
      sym (value e1),
      (
        rest,
        reference_sound one i rest found,
        (refl, (tests_tested goes_on).fails rest (sym (ap goes_on_after (ap rest_of found)) ∙ stops)),
      ),
    ))

class_after_sound : (item : Reference) (one : Asked) (x : Condition) (i i1 i2 rest : List Token) → reference item i i1
    → test_phrase one i1 i2
    → g.class_after item one i2 ≡ Ok (x, rest) → g.of_class x i rest
class_after_sound item (asked_as.Class negated one) x i i1 i2 rest a b e =
    (item, negated, one, sym (value e), (i1, a, subst (λ j. test_phrase (asked_as.Class negated one) i1 j) (after e) b))
class_after_sound item (asked_as.Relation one) x i i1 i2 rest a b e = cc
class_after_sound item (asked_as.Sign negated one) x i i1 i2 rest a b e = cc

class_sound : Sound g.of_class g.class_reader
unfolding g.class_reader
class_sound x i rest e =
    unstep (reference_reader i) _ e (λ item i1 is1 e1.
    unstep (asked_reader i1) _ e1 (λ one i2 is2 e2.
    class_after_sound item one x i i1 i2 rest (reference_sound item i i1 is1) (asked_sound one i1 i2 is2) e2))

abbrev Compared : ℕ → Condition → Part
Compared depth x = g.relation_condition depth x or g.with_sign depth x

sign_after_sound : (depth : ℕ) (first : Side) (negated : Bool) (one : SignTest) (x : Condition)
    (i i1 i2 rest : List Token) → g.side depth first i i1
    → test_phrase (asked_as.Sign negated one) i1 i2 → g.sign_after first negated one i2 ≡ Ok (x, rest)
    → Compared depth x i rest
sign_after_sound depth (side_as.Expression v) negated one x i i1 i2 rest a b e =
    inr (v, negated, one, sym (value e), (i1, a, subst (λ j. test_phrase (asked_as.Sign negated one) i1 j) (after e) b))
sign_after_sound depth (side_as.Literal v) negated one x i i1 i2 rest a b e = cc

compared_after_sound : (depth : ℕ) (first : Side) (one : Asked) (x : Condition) (i i1 i2 rest : List Token)
    → g.side depth first i i1 → test_phrase one i1 i2
    → g.compared_after depth first one i2 ≡ Ok (x, rest) → Compared depth x i rest
unfolding g.relation_reader
compared_after_sound depth first (asked_as.Relation one) x i i1 i2 rest a b e =
    unstep (g.side_reader depth i2) _ e (λ second i3 is3 e3.
    inl (first, one, second, sym (value e3), (i1, a, (i2, b, side_sound depth second i2 rest (last is3 e3)))))
compared_after_sound depth first (asked_as.Sign negated one) x i i1 i2 rest a b e =
    sign_after_sound depth first negated one x i i1 i2 rest a b e
compared_after_sound depth first (asked_as.Class negated one) x i i1 i2 rest a b e = cc

compared_sound : (depth : ℕ) → Sound (Compared depth) (g.compared_reader depth)
unfolding g.compared_reader
compared_sound depth x i rest e =
    unstep (g.side_reader depth i) _ e (λ first i1 is1 e1.
    unstep (asked_reader i1) _ e1 (λ one i2 is2 e2.
    compared_after_sound depth first one x i i1 i2 rest (side_sound depth first i i1 is1) (asked_sound one i1 i2 is2)
    e2))

by_reference_sound : (depth : ℕ) → Sound (g.simple_condition depth) (g.by_reference_reader depth)
unfolding g.by_reference_reader
by_reference_sound depth x i rest e = go (class_follows (past_reference i)) (goes_on_after (past_reference i)) refl e
  where
    go : (a b : Bool) → goes_on_after (past_reference i) ≡ b
        → (if a then g.class_reader i else if b then g.compared_reader depth i else g.named_reader i) ≡ Ok (x, rest)
        → g.simple_condition depth x i rest
    go true b is e = inr (inl (class_sound x i rest e))
    go false true is e = inr (inr (compared_sound depth x i rest e))
    go false false is e = inl (named_sound i is x rest e)

pub plain_sound : (depth : ℕ) → Sound (g.simple_condition depth) (g.plain_reader depth)
unfolding g.plain_reader
plain_sound depth x i rest e = go (begins_name i) e
  where
    go : (b : Bool) → (if b then g.by_reference_reader depth i else g.compared_reader depth i) ≡ Ok (x, rest)
        → g.simple_condition depth x i rest
    go true e = by_reference_sound depth x i rest e
    go false e = inr (inr (compared_sound depth x i rest e))

-- ---- what follows what stands first

goes_on_by : (i : List Token) → begins_test i ≡ true → goes_on i ≡ true
goes_on_by i e = either (begins_operator i) (begins_test i) e

leads_on : (passed : Option (List Token)) (i : List Token) → GoesOn passed i → begins_test i ≡ true
    → goes_on_after passed ≡ true
leads_on passed i (middle, is, inl same) e = ap goes_on_after is ∙ ap goes_on same ∙ goes_on_by i e
leads_on passed i (middle, is, inr operator) e = ap goes_on_after is ∙ ap (λ b. b || begins_test middle) operator

leads_to_no_class : (passed : Option (List Token)) (i : List Token) → GoesOn passed i → begins_class i ≡ false
    → class_follows passed ≡ false
leads_to_no_class passed i (middle, is, inl same) e = ap class_follows is ∙ ap begins_class same ∙ e
leads_to_no_class passed i (middle, is, inr operator) e = ap class_follows is ∙ operator_no_class middle operator

-- a side that something but a class is asked of
abbrev Leads : List Token → Type 0
Leads i =
    (begins_name i ≡ true → (class_follows (past_reference i) ≡ false) × (goes_on_after (past_reference i) ≡ true))
    × (begins_left i ≡ true → goes_on_after (past_parentheses i) ≡ true)

false_not_true : {A : Type 0} (b : Bool) → b ≡ false → b ≡ true → A
false_not_true b e f = absurd (Rattle.grammar.proofs.Looking.true_not_false b e f)

side_leads : (depth : ℕ) (x : Side) (i i1 : List Token) → g.side depth x i i1 → begins_test i1 ≡ true
    → begins_class i1 ≡ false → Leads i
side_leads depth (side_as.Expression one) i i1 s e f =
    let l = expression_leads depth one i i1 s in (
      λ b. (leads_to_no_class (past_reference i) i1 (l.0 b) f, leads_on (past_reference i) i1 (l.0 b) e),
      λ b. leads_on (past_parentheses i) i1 (l.1 b) e,
    )
side_leads depth (side_as.Literal one) i i1 (text, s) e f =
    let t = text_opens one i i1 text s in
    (λ b. false_not_true (begins_name i) t.0 b, λ b. false_not_true (begins_left i) t.1 b)

compared_leads : (depth : ℕ) (x : Condition) (i rest : List Token) → g.relation_condition depth x i rest → Leads i
compared_leads depth x i rest (first, one, second, is, (i1, s, (i2, t, u))) =
    side_leads depth first i i1 s (asked_begins (asked_as.Relation one) i1 i2 t)
    (asked_class (asked_as.Relation one) i1 i2 t)

sign_leads : (depth : ℕ) (x : Condition) (i rest : List Token) → g.with_sign depth x i rest → Leads i
sign_leads depth x i rest (v, negated, one, is, (i1, s, t)) =
    side_leads depth (side_as.Expression v) i i1 s (asked_begins (asked_as.Sign negated one) i1 rest t)
    (asked_class (asked_as.Sign negated one) i1 rest t)

-- ---- what is spelled is read

reads_compared : (depth : ℕ) (i : List Token) → Leads i → g.plain_reader depth i ≡ g.compared_reader depth i
unfolding g.plain_reader g.by_reference_reader
reads_compared depth i leads = go (begins_name i) (leads.0)
  where
    go : (b : Bool)
        → (b ≡ true → (class_follows (past_reference i) ≡ false) × (goes_on_after (past_reference i) ≡ true))
        → (if b then (if class_follows (past_reference i) then g.class_reader i else if goes_on_after (past_reference i)
        then g.compared_reader depth i else g.named_reader i)
        else g.compared_reader depth i) ≡ g.compared_reader depth i
    go false f = refl
    go true f = let l = f refl in rw (l.0, l.1) refl

not_on : (i : List Token) → goes_on i ≡ false → begins_class i ≡ false
not_on i e = go (begins_operator i) (begins_test i) e (no_test_no_class i)
  where
    go : (a b : Bool) → (a || b) ≡ false → (b ≡ false → begins_class i ≡ false) → begins_class i ≡ false
    go true b e f = cc
    go false b e f = f e

named_complete : {Allowed : Halt → Type 0} (depth : ℕ) (x : Condition) (i rest : List Token) → g.condition_name x i rest
    → Answers Allowed (g.plain_reader depth i) x rest
unfolding g.plain_reader g.by_reference_reader g.named_reader
named_complete {Allowed = Allowed} depth x i rest (one, is, (i1, s, (same, nowhere))) =
    let stops = (tests_tested goes_on).refuses i1 nowhere in
    let passed = reference_passed one i i1 s in
    subst (λ y. Answers Allowed (g.plain_reader depth i) y rest) (sym is)
    (subst (λ j. Answers Allowed (g.plain_reader depth i) (c.Name one) j) same
    (rw (reference_starts one i i1 s, ap class_follows passed ∙ not_on i1 stops, ap goes_on_after passed ∙ stops)
    (step (reference_reader i) _ (reference_complete {Allowed = Allowed} one i i1 s) (Reached refl))))

class_complete : {Allowed : Halt → Type 0} (depth : ℕ) (x : Condition) (i rest : List Token) → g.of_class x i rest
    → Answers Allowed (g.plain_reader depth i) x rest
unfolding g.plain_reader g.by_reference_reader g.class_reader
class_complete {Allowed = Allowed} depth x i rest (item, negated, one, is, (i1, s, t)) =
    subst (λ y. Answers Allowed (g.plain_reader depth i) y rest) (sym is)
    (rw (
      reference_starts item i i1 s,
      ap class_follows (reference_passed item i i1 s) ∙ asked_class (asked_as.Class negated one) i1 rest t,
    )
    (step (reference_reader i) _ (reference_complete {Allowed = Allowed} item i i1 s)
    (step (asked_reader i1) _ (asked_complete {Allowed = Allowed} (asked_as.Class negated one) i1 rest t)
    (Reached refl))))

relation_complete : (depth depth' : ℕ) (x : Condition) (i rest : List Token) → g.relation_condition depth' x i rest
    → Answers (Deeper depth depth') (g.compared_reader depth i) x rest
unfolding g.compared_reader g.relation_reader
relation_complete depth depth' x i rest (first, one, second, is, (i1, s, (i2, t, u))) =
    subst (λ y. Answers (Deeper depth depth') (g.compared_reader depth i) y rest) (sym is)
    (step (g.side_reader depth i) _ (side_complete depth depth' first i i1 s)
    (step (asked_reader i1) _ (asked_complete {Allowed = Deeper depth depth'} (asked_as.Relation one) i1 i2 t)
    (step (g.side_reader depth i2) _ (side_complete depth depth' second i2 rest u) (Reached refl))))

sign_complete : (depth depth' : ℕ) (x : Condition) (i rest : List Token) → g.with_sign depth' x i rest
    → Answers (Deeper depth depth') (g.compared_reader depth i) x rest
unfolding g.compared_reader
sign_complete depth depth' x i rest (v, negated, one, is, (i1, s, t)) =
    subst (λ y. Answers (Deeper depth depth') (g.compared_reader depth i) y rest) (sym is)
    (step (g.side_reader depth i) _ (side_complete depth depth' (side_as.Expression v) i i1 s)
    (step (asked_reader i1) _ (asked_complete {Allowed = Deeper depth depth'} (asked_as.Sign negated one) i1 rest t)
    (Reached refl)))

pub plain_complete : (depth depth' : ℕ)
    → Complete (Deeper depth depth') (g.simple_condition depth') (g.plain_reader depth)
plain_complete depth depth' x i rest (inl s) = named_complete {Allowed = Deeper depth depth'} depth x i rest s
plain_complete depth depth' x i rest (inr (inl s)) = class_complete {Allowed = Deeper depth depth'} depth x i rest s
plain_complete depth depth' x i rest (inr (inr (inl s))) =
    rw (reads_compared depth i (compared_leads depth' x i rest s)) (relation_complete depth depth' x i rest s)
plain_complete depth depth' x i rest (inr (inr (inr s))) =
    rw (reads_compared depth i (sign_leads depth' x i rest s)) (sign_complete depth depth' x i rest s)

-- ---- none begins as NOT or as a condition in parentheses

named_left : (one : Reference) (i i1 : List Token) → reference one i i1 → begins_left i ≡ false
named_left one i i1 s = begins_not name_in left_in name_left one.item.name i s.1.0 s.1.1

-- neither NOT nor a parenthesis that nothing goes on after
abbrev IsPlain : List Token → Type 0
IsPlain i = (begins_word w.Not i ≡ false) × (begins_left i ≡ true → goes_on_after (past_parentheses i) ≡ true)

plain_opens : (depth : ℕ) (x : Condition) (i rest : List Token) → g.simple_condition depth x i rest → IsPlain i
plain_opens depth x i rest (inl (one, is, (i1, s, t))) = (
  name_no_word w.Not not_opens_none i (reference_starts one i i1 s),
  λ b. false_not_true (begins_left i) (named_left one i i1 s) b,
)
plain_opens depth x i rest (inr (inl (item, negated, one, is, (i1, s, t)))) = (
  name_no_word w.Not not_opens_none i (reference_starts item i i1 s),
  λ b. false_not_true (begins_left i) (named_left item i i1 s) b,
)
plain_opens depth x i rest (inr (inr (inl (first, one, second, is, (i1, s, t))))) =
    let l = compared_leads depth x i rest (first, one, second, is, (i1, s, t)) in
    (side_no_word w.Not not_opens_none depth first i i1 s, l.1)
plain_opens depth x i rest (inr (inr (inr (v, negated, one, is, (i1, s, t))))) =
    let l = sign_leads depth x i rest (v, negated, one, is, (i1, s, t)) in
    (side_no_word w.Not not_opens_none depth (side_as.Expression v) i i1 s, l.1)

pub plain_begins : (depth : ℕ) (x : Condition) (i rest : List Token) → g.simple_condition depth x i rest
    → g.begins_nested i ≡ false
plain_begins depth x i rest s = let p = plain_opens depth x i rest s in go (begins_left i) p.0 p.1
  where
    go : (b : Bool) → begins_word w.Not i ≡ false → (b ≡ true → goes_on_after (past_parentheses i) ≡ true)
        → (begins_word w.Not i || (b && not (goes_on_after (past_parentheses i)))) ≡ false
    go false e f = rw e refl
    go true e f = rw (e, f refl) refl

-- ---- each takes a token, and closes its parentheses

pub plain_shrinks : (depth : ℕ) → Shrinks (g.simple_condition depth)
plain_shrinks depth x i rest (inl (one, is, (i1, s, t))) = let a = reference_shrinks one i i1 s in let b =
    ap length t.0 in omega arith
plain_shrinks depth x i rest (inr (inl (item, negated, one, is, (i1, s, t)))) =
    let a = reference_shrinks item i i1 s in let b = asked_shrinks (asked_as.Class negated one) i1 rest t in omega arith
plain_shrinks depth x i rest (inr (inr (inl (first, one, second, is, (i1, s, (i2, t, u)))))) =
    let a = side_shrinks depth first i i1 s in let b = asked_shrinks (asked_as.Relation one) i1 i2 t in let d =
    side_shrinks depth second i2 rest u in omega arith
plain_shrinks depth x i rest (inr (inr (inr (v, negated, one, is, (i1, s, t))))) =
    let a = expression_shrinks depth v i i1 s in let b =
    asked_shrinks (asked_as.Sign negated one) i1 rest t in omega arith

pub plain_even : (depth : ℕ) (x : Condition) → Even (g.simple_condition depth x)
plain_even depth x i rest (inl (one, is, (i1, s, t))) n =
    reference_even one i i1 s n ∙ without_even (lookahead goes_on) i1 rest t n
plain_even depth x i rest (inr (inl (item, negated, one, is, (i1, s, t)))) n =
    reference_even item i i1 s n ∙ asked_even (asked_as.Class negated one) i1 rest t n
plain_even depth x i rest (inr (inr (inl (first, one, second, is, (i1, s, (i2, t, u)))))) n =
    side_even depth first i i1 s n ∙ asked_even (asked_as.Relation one) i1 i2 t n ∙ side_even depth second i2 rest u n
plain_even depth x i rest (inr (inr (inr (v, negated, one, is, (i1, s, t))))) n =
    expression_even depth v i i1 s n ∙ asked_even (asked_as.Sign negated one) i1 rest t n
