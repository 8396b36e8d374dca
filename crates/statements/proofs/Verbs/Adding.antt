-- ADD: what is read is spelled, and what is spelled is read.
use Rattle.std.proofs.Common.{◌≡◌, ◌<◌, ℕ, Bool, true, false, List, length, Some, Ok, inl, inr, refl, sym, subst, arith}
use Rattle.std.specs.Prelude.{if◌then◌else◌}
use Rattle.tokens.specs.declared.reserved.Reserved.TheVariants as w
use Rattle.tokens.specs.declared.token.Token.{Token}
use Rattle.tokens.specs.Reserved.{same_word}
use Rattle.source_tree.specs.declared.expression.Operand.{Operand}
use Rattle.source_tree.specs.declared.arithmetic.Receiver.{Receiver}
use Rattle.source_tree.specs.declared.arithmetic.Operation.{Operation}
use Rattle.source_tree.specs.declared.arithmetic.Operation.TheVariants.{AddGiving}
use Rattle.grammar.specs.declared.fault.Halt.{Halt}
use Rattle.grammar.specs.Parts.{word}
use Rattle.grammar.specs.Reading as read
use Rattle.grammar.specs.Reading.{begins_word}
use Rattle.grammar.proofs.Outcomes.{Answers, Reached, step, unstep, value, last}
use Rattle.grammar.proofs.Looking.{word_begins, begins_no_other}
use Rattle.grammar.proofs.Lists.{Sound}
use Rattle.grammar.proofs.Parts.{word_sound, word_complete, word_shrinks}
use Rattle.statements.specs.declared.verb.VerbWord.TheVariants as v
use Rattle.statements.specs.declared.verb.ArithmeticVerb.TheVariants as a
use Rattle.statements.specs.declared.receivers.Target.{Target}
use Rattle.statements.specs.declared.receivers.Target.TheVariants.{Receivers, Giving}
use Rattle.statements.specs.Verbs.{verb_at}
use Rattle.statements.specs.Receivers.{numbers, receivers, target, numbers_reader, receivers_reader, target_reader}
use Rattle.statements.specs.Adding.{add_statement, adding_giving, add_operation, adding_to_reader, adding_up_reader}
use Rattle.statements.specs.Adding.{added_reader, add_reader}
use Rattle.statements.specs.Arithmetic.{operation}
use Rattle.statements.proofs.Standing.{stands}
use Rattle.statements.proofs.ReceiverLists.{numbers_sound, numbers_complete, numbers_shrink, receivers_sound}
use Rattle.statements.proofs.ReceiverLists.{receivers_complete, receivers_shrink, target_sound, target_complete}
use Rattle.statements.proofs.ReceiverLists.{target_shrinks}

giving_no_to : same_word w.Giving w.To ≡ false
unfolding same_word
giving_no_to = refl

-- ---- it takes a token, and its verb comes first

pub adding_shrinks : (operands : List Operand) (to : Target) (i rest : List Token) → add_statement operands to i rest
    → length rest < length i
adding_shrinks operands to i rest (i1, verb, (i2, given, (i3, to_word, into))) =
    let a = word_shrinks w.Add i i1 verb in
    let b = numbers_shrink operands i1 i2 given in
    let c = word_shrinks w.To i2 i3 to_word in
    let d = target_shrinks to i3 rest into in omega arith

pub adding_giving_shrinks : (operands : List Operand) (all : List Receiver) (i rest : List Token)
    → adding_giving operands all i rest → length rest < length i
adding_giving_shrinks operands all i rest (inl (i1, verb, (i2, given, (i3, giving, into)))) =
    let a = word_shrinks w.Add i i1 verb in
    let b = numbers_shrink operands i1 i2 given in
    let c = word_shrinks w.Giving i2 i3 giving in
    let d = receivers_shrink all i3 rest into in omega arith
adding_giving_shrinks operands all i rest (inr (others, last, is, s)) = adding_shrinks others (Giving last all) i rest s

pub adding_stands : (operands : List Operand) (to : Target) (i rest : List Token) → add_statement operands to i rest
    → verb_at i ≡ Some (v.Arithmetic a.Add)
adding_stands operands to i rest s = stands w.Add i s.0 s.1

pub adding_giving_stands : (operands : List Operand) (all : List Receiver) (i rest : List Token)
    → adding_giving operands all i rest → verb_at i ≡ Some (v.Arithmetic a.Add)
adding_giving_stands operands all i rest (inl s) = stands w.Add i s.0 s.1
adding_giving_stands operands all i rest (inr (others, last, is, s)) = stands w.Add i s.0 s.1

-- ---- what is spelled is read

module _ {Allowed : Halt → Type 0} where
  added_complete : (operands : List Operand) (to : Target) (i i1 rest : List Token) → word w.To i i1 → target to i1 rest
      → Answers Allowed (added_reader operands i) (add_operation operands to) rest
  unfolding added_reader adding_to_reader
  added_complete operands to i i1 rest to_word into =
      rw (word_begins w.To i i1 to_word)
      (step (read.expect w.To i) _ (word_complete w.To tt i i1 to_word)
      (step (target_reader i1) _ (target_complete to i1 rest into) (Reached refl)))

  added_up_complete : (operands : List Operand) (all : List Receiver) (i i1 rest : List Token) → word w.Giving i i1
      → receivers all i1 rest
      → Answers Allowed (added_reader operands i) (AddGiving operands all) rest
  unfolding added_reader adding_up_reader
  added_up_complete operands all i i1 rest giving into =
      rw (begins_no_other w.Giving w.To giving_no_to i i1 giving)
      (step (read.expect w.Giving i) _ (word_complete w.Giving tt i i1 giving)
      (step (receivers_reader i1) _ (receivers_complete all i1 rest into) (Reached refl)))

  pub adding_complete : (operands : List Operand) (to : Target) (i rest : List Token) → add_statement operands to i rest
      → Answers Allowed (add_reader i) (add_operation operands to) rest
  unfolding add_reader
  adding_complete operands to i rest (i1, verb, (i2, given, (i3, to_word, into))) =
      step (read.expect w.Add i) _ (word_complete w.Add tt i i1 verb)
      (step (numbers_reader i1) _ (numbers_complete operands i1 i2 given)
      (added_complete operands to i2 i3 rest to_word into))

  pub adding_giving_complete : (operands : List Operand) (all : List Receiver) (i rest : List Token)
      → adding_giving operands all i rest
      → Answers Allowed (add_reader i) (AddGiving operands all) rest
  unfolding add_reader
  adding_giving_complete operands all i rest (inl (i1, verb, (i2, given, (i3, giving, into)))) =
      step (read.expect w.Add i) _ (word_complete w.Add tt i i1 verb)
      (step (numbers_reader i1) _ (numbers_complete operands i1 i2 given)
      (added_up_complete operands all i2 i3 rest giving into))
  adding_giving_complete operands all i rest (inr (others, last, is, s)) =
      subst (λ y. Answers Allowed (add_reader i) (AddGiving y all) rest) (sym is)
      (adding_complete others (Giving last all) i rest s)

-- ---- what is read is spelled

added_spelled : (depth : ℕ) (operands : List Operand) (to : Target) (i rest : List Token)
    → add_statement operands to i rest → operation depth (add_operation operands to) i rest
added_spelled depth operands (Receivers all) i rest s = s
added_spelled depth operands (Giving last all) i rest s = inr (operands, last, refl, s)

module _ (depth : ℕ) (operands : List Operand) (i i1 i2 : List Token) (verb : word w.Add i i1)
    (given : numbers operands i1 i2) where
  adding_to_sound : (x : Operation) (rest : List Token) → adding_to_reader operands i2 ≡ Ok (x, rest)
      → operation depth x i rest
  unfolding adding_to_reader
  adding_to_sound x rest e =
      unstep (read.expect w.To i2) _ e (λ u i3 is3 e3.
      unstep (target_reader i3) _ e3 (λ to i4 is4 e4.
      subst (λ y. operation depth y i rest) (value e4)
      (added_spelled depth operands to i rest
      (i1, verb, (i2, given, (i3, word_sound w.To u i2 i3 is3, target_sound to i3 rest (last is4 e4)))))))

  adding_up_sound : (x : Operation) (rest : List Token) → adding_up_reader operands i2 ≡ Ok (x, rest)
      → operation depth x i rest
  unfolding adding_up_reader
  adding_up_sound x rest e =
      unstep (read.expect w.Giving i2) _ e (λ u i3 is3 e3.
      unstep (receivers_reader i3) _ e3 (λ all i4 is4 e4.
      subst (λ y. operation depth y i rest) (value e4)
      (inl (i1, verb, (i2, given, (i3, word_sound w.Giving u i2 i3 is3, receivers_sound all i3 rest (last is4 e4)))))))

  added_sound : (x : Operation) (rest : List Token) → added_reader operands i2 ≡ Ok (x, rest) → operation depth x i rest
  unfolding added_reader
  added_sound x rest e = go (begins_word w.To i2) e
    where
      go : (b : Bool) → (if b then adding_to_reader operands i2 else adding_up_reader operands i2) ≡ Ok (x, rest)
          → operation depth x i rest
      go true e = adding_to_sound x rest e
      go false e = adding_up_sound x rest e

pub adding_sound : (depth : ℕ) → Sound (operation depth) add_reader
unfolding add_reader
adding_sound depth x i rest e =
    unstep (read.expect w.Add i) _ e (λ u i1 is1 e1.
    unstep (numbers_reader i1) _ e1 (λ operands i2 is2 e2.
    added_sound depth operands i i1 i2 (word_sound w.Add u i i1 is1) (numbers_sound operands i1 i2 is2) x rest e2))
