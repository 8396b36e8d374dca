-- STRING: what is read is spelled, and what is spelled is read.
use Rattle.std.proofs.Common.{◌≡◌, ◌≤◌, ℕ, false, List, length, Option, Some, None, Ok, refl, ap, ◌∙◌, subst, arith}
use Rattle.std.specs.Prelude.{◌||◌}
use Rattle.std.specs.Option.{option_map}
use Rattle.tokens.specs.declared.reserved.Reserved.TheVariants as w
use Rattle.tokens.specs.declared.token.Token.{Token}
use Rattle.tokens.specs.Reserved.{same_word}
use Rattle.source_tree.specs.declared.expression.Operand.{Operand}
use Rattle.source_tree.specs.declared.reference.Reference.{Reference}
use Rattle.source_tree.specs.declared.string_statement.Sending.{Sending}
use Rattle.source_tree.specs.declared.string_statement.StringStatement.{StringStatement}
use Rattle.source_tree.specs.declared.statement.Verb.TheVariants as verb
use Rattle.source_tree.specs.declared.statement.Statement.{Statement}
use Rattle.grammar.specs.declared.fault.Halt.{Halt}
use Rattle.grammar.specs.declared.phrase.Phrase.TheVariants.{Overflow}
use Rattle.grammar.specs.Parts as grammar
use Rattle.grammar.specs.Parts.{Part, ◌then◌, is_told, named_by, lookahead, word}
use Rattle.grammar.specs.Reading as read
use Rattle.grammar.specs.Reading.{Parser, after_word, is_kind}
use Rattle.grammar.specs.Phrases.{two_sided_reader}
use Rattle.grammar.proofs.Outcomes.{Answers, Reached, step, unstep, value, after, last}
use Rattle.grammar.proofs.Looking.{Finds, finds_word, finds_past, is_absent, is_missing, tests_tested, true_not_false}
use Rattle.grammar.proofs.Lists as lists
use Rattle.grammar.proofs.Lists.{Sound, Complete, Shrinks, Starts}
use Rattle.grammar.proofs.Parts.{word_sound, word_complete, word_shrinks, skip_sound, skip_complete, skip_shrinks}
use Rattle.grammar.proofs.Phrases.{two_sided_shrinks, two_sided_sound, two_sided_complete}
use Rattle.expressions.specs.Literals.{value_by, literal_at}
use Rattle.expressions.specs.References.{reference, reference_reader}
use Rattle.expressions.specs.Operands.{operand, begins_operand, operand_reader}
use Rattle.expressions.proofs.Exact.References.{reference_sound, reference_complete, reference_shrinks}
use Rattle.expressions.proofs.Exact.Operands.{operand_sound, operand_complete, operand_shrinks, operand_starts}
use Rattle.expressions.proofs.Exact.Operands.{operands_sound, operands_complete, operands_shrink}
use Rattle.statements.specs.declared.verb.VerbWord.TheVariants as v
use Rattle.statements.specs.Verbs.{verb_at}
use Rattle.statements.specs.Stringing as rule
use Rattle.statements.specs.Stringing.{delimiter_at, delimiter_reader, sending_reader, after_with_pointer, pointer_at}
use Rattle.statements.specs.Stringing.{pointer_reader, strung_reader, string_reader}
use Rattle.statements.specs.Spelling as g
use Rattle.statements.specs.Reading as r
use Rattle.statements.proofs.Standing.{stands}
use Rattle.statements.proofs.StatementLists.{statements_sound}

-- ---- delimiters

-- SIZE begins no operand
size_no_operand : (i rest : List Token) → word w.Size i rest → begins_operand i ≡ false
unfolding same_word
size_no_operand i rest (first, is, kind) =
    ap begins_operand is ∙ ap (λ k. is_told (named_by k first.place)
    || (is_kind w.All k || is_told (option_map (literal_at first.place) (value_by k)))) kind

operand_no_size : (one : Operand) (i rest : List Token) → operand one i rest → after_word w.Size i ≡ None
operand_no_size one i rest s =
    is_missing (finds_word w.Size) i
    (λ behind size. true_not_false (begins_operand i) (size_no_operand i behind size) (operand_starts one i rest s))

delimiter_sound : Sound rule.delimiter delimiter_reader
unfolding delimiter_reader
delimiter_sound x i rest e = go (after_word w.Size i) refl e
  where
    go : (o : Option (List Token)) → after_word w.Size i ≡ o → delimiter_at o i ≡ Ok (x, rest) → rule.delimiter x i rest
    go None is e = unstep (operand_reader i) _ e
        (λ one i1 is1 e1. subst (λ y. rule.delimiter y i rest) (value e1) (operand_sound one i rest (last is1 e1)))
    go (Some m) is e =
        subst (λ y. rule.delimiter y i rest) (value e) ((finds_word w.Size).found i rest (is ∙ ap Some (after e)))

delimiter_complete : {Allowed : Halt → Type 0} → Complete Allowed rule.delimiter delimiter_reader
unfolding delimiter_reader
delimiter_complete None i rest s = rw ((finds_word w.Size).stands i rest s) (Reached refl)
delimiter_complete (Some one) i rest s =
    rw (operand_no_size one i rest s) (step (operand_reader i) _ (operand_complete one i rest s) (Reached refl))

delimiter_shrinks : Shrinks rule.delimiter
delimiter_shrinks None i rest s = word_shrinks w.Size i rest s
delimiter_shrinks (Some one) i rest s = operand_shrinks one i rest s

-- ---- senders

sending_sound : Sound rule.delimited_senders sending_reader
unfolding sending_reader
sending_sound x i rest e =
    unstep (read.several operand_reader begins_operand i) _ e (λ senders i1 is1 e1.
    unstep (read.expect w.Delimited i1) _ e1 (λ u i2 is2 e2.
    unstep (read.skip w.By i2) _ e2 (λ t i3 is3 e3.
    unstep (delimiter_reader i3) _ e3 (λ delimiter i4 is4 e4.
    subst (λ y. rule.delimited_senders y i rest) (value e4) (
      i1,
      operands_sound senders i i1 is1,
      (
        i2,
        word_sound w.Delimited u i1 i2 is2,
        (i3, skip_sound w.By t i2 i3 is3, delimiter_sound delimiter i3 rest (last is4 e4)),
      ),
    )))))

sending_complete : {Allowed : Halt → Type 0} → Complete Allowed rule.delimited_senders sending_reader
unfolding sending_reader
sending_complete x i rest (i1, senders, (i2, delimited, (i3, by, delimiter))) =
    step (read.several operand_reader begins_operand i) _ (operands_complete x.senders i i1 senders)
    (step (read.expect w.Delimited i1) _ (word_complete w.Delimited tt i1 i2 delimited)
    (step (read.skip w.By i2) _ (skip_complete w.By tt i2 i3 by)
    (step (delimiter_reader i3) _ (delimiter_complete x.delimiter i3 rest delimiter) (Reached refl))))

sending_shrinks : Shrinks rule.delimited_senders
sending_shrinks x i rest (i1, senders, (i2, delimited, (i3, by, delimiter))) =
    let a = operands_shrink x.senders i i1 senders in
    let b = word_shrinks w.Delimited i1 i2 delimited in
    let c = skip_shrinks w.By i2 i3 by in
    let d = delimiter_shrinks x.delimiter i3 rest delimiter in omega arith

sending_starts : Starts begins_operand rule.delimited_senders
sending_starts x i rest s =
    lists.several_starts operand (lookahead begins_operand) begins_operand operand_starts x.senders i s.0 s.1

sendings_sound : Sound (grammar.several rule.delimited_senders (lookahead begins_operand))
    (read.several sending_reader begins_operand)
sendings_sound = lists.several_sound rule.delimited_senders sending_reader (lookahead begins_operand) begins_operand
    (tests_tested begins_operand) sending_sound

sendings_complete : {Allowed : Halt → Type 0} → Complete Allowed
    (grammar.several rule.delimited_senders (lookahead begins_operand)) (read.several sending_reader begins_operand)
sendings_complete {Allowed = Allowed} =
    lists.several_complete rule.delimited_senders sending_reader (lookahead begins_operand) begins_operand
    (tests_tested begins_operand) Allowed
    (sending_complete {Allowed = Allowed}) sending_shrinks sending_starts

sendings_shrink : Shrinks (grammar.several rule.delimited_senders (lookahead begins_operand))
sendings_shrink = lists.several_shrinks rule.delimited_senders (lookahead begins_operand) sending_shrinks

-- ---- senders up to INTO, and the receiver after it

abbrev strung : List Sending × Reference → Part
strung both =
    grammar.several rule.delimited_senders (lookahead begins_operand) both.0 then word w.Into then reference both.1

strung_sound : Sound strung strung_reader
unfolding strung_reader
strung_sound x i rest e =
    unstep (read.several sending_reader begins_operand i) _ e (λ sendings i1 is1 e1.
    unstep (read.expect w.Into i1) _ e1 (λ u i2 is2 e2.
    unstep (reference_reader i2) _ e2 (λ receiver i3 is3 e3.
    subst (λ y. strung y i rest) (value e3) (
      i1,
      sendings_sound sendings i i1 is1,
      (i2, word_sound w.Into u i1 i2 is2, reference_sound receiver i2 rest (last is3 e3)),
    ))))

strung_complete : {Allowed : Halt → Type 0} → Complete Allowed strung strung_reader
unfolding strung_reader
strung_complete x i rest (i1, sendings, (i2, into, receiver)) =
    step (read.several sending_reader begins_operand i) _ (sendings_complete x.0 i i1 sendings)
    (step (read.expect w.Into i1) _ (word_complete w.Into tt i1 i2 into)
    (step (reference_reader i2) _ (reference_complete x.1 i2 rest receiver) (Reached refl)))

-- ---- POINTER

finds_with_pointer : Finds rule.with_pointer after_with_pointer
unfolding after_with_pointer
finds_with_pointer = finds_past w.With (word w.Pointer) (after_word w.Pointer) (finds_word w.Pointer)

pointer_sound : Sound rule.pointer_phrase pointer_reader
unfolding pointer_reader
pointer_sound x i rest e = go (after_with_pointer i) refl e
  where
    go : (o : Option (List Token)) → after_with_pointer i ≡ o → pointer_at o i ≡ Ok (x, rest)
        → rule.pointer_phrase x i rest
    go None is e = subst (λ y. rule.pointer_phrase y i rest) (value e) (after e, is_absent finds_with_pointer i is)
    go (Some m) is e =
        unstep (reference_reader m) _ e (λ one i1 is1 e1.
        subst (λ y. rule.pointer_phrase y i rest) (value e1)
        (m, finds_with_pointer.found i m is, reference_sound one m rest (last is1 e1)))

pointer_complete : {Allowed : Halt → Type 0} → Complete Allowed rule.pointer_phrase pointer_reader
unfolding pointer_reader
pointer_complete None i rest s = rw (is_missing finds_with_pointer i s.1) (Reached (ap (λ j. Ok (None, j)) s.0))
pointer_complete (Some one) i rest (m, words, item) =
    rw (finds_with_pointer.stands i m words)
    (step (reference_reader m) _ (reference_complete one m rest item) (Reached refl))

pointer_shrinks : (x : Option Reference) (i rest : List Token) → rule.pointer_phrase x i rest → length rest ≤ length i
pointer_shrinks None i rest s = let l = ap length s.0 in omega arith
pointer_shrinks (Some one) i rest (m, (j, with_word, pointer_word), item) =
    let a = skip_shrinks w.With i j with_word in
    let b = word_shrinks w.Pointer j m pointer_word in
    let c = reference_shrinks one m rest item in omega arith

-- ---- with phrases and END-STRING

module _ (statements : List Statement → Part) where
  pub stringing_stands : (one : StringStatement Statement) (i rest : List Token)
      → rule.string_statement statements one i rest → verb_at i ≡ Some v.String
  stringing_stands one i rest s = stands w.String i s.0 s.1

  pub stringing_shrinks : Shrinks statements → Shrinks (rule.string_statement statements)
  stringing_shrinks fewer one i rest
      (i1, verb, (i2, sendings, (i3, into, (i4, receiver, (i5, pointer, (i6, phrases, end)))))) =
      let a = word_shrinks w.String i i1 verb in
      let b = sendings_shrink one.sendings i1 i2 sendings in
      let c = word_shrinks w.Into i2 i3 into in
      let d = reference_shrinks one.receiver i3 i4 receiver in
      let e = pointer_shrinks one.pointer i4 i5 pointer in
      let f = two_sided_shrinks statements Overflow fewer one.phrases i5 i6 phrases in
      let g = skip_shrinks w.EndString i6 rest end in omega arith

  pub stringing_complete : (reader : Parser (List Statement)) (Allowed : Halt → Type 0)
      → Complete Allowed statements reader → (one : StringStatement Statement) (i rest : List Token)
      → rule.string_statement statements one i rest
      → Answers Allowed (string_reader reader i) (verb.StringStatement one) rest
  unfolding string_reader
  stringing_complete reader Allowed each one i rest
      (i1, verb, (i2, sendings, (i3, into, (i4, receiver, (i5, pointer, (i6, phrases, end)))))) =
      step (read.expect w.String i) _ (word_complete w.String tt i i1 verb)
      (step (strung_reader i1) _
      (strung_complete (one.sendings, one.receiver) i1 i4 (i2, sendings, (i3, into, receiver)))
      (step (pointer_reader i4) _ (pointer_complete one.pointer i4 i5 pointer)
      (step (two_sided_reader reader Overflow i5) _
      (two_sided_complete statements reader Allowed each Overflow one.phrases i5 i6 phrases)
      (step (read.skip w.EndString i6) _ (skip_complete w.EndString tt i6 rest end) (Reached refl)))))

pub stringing_sound : (depth : ℕ) (p : Statement → Part) (nested : Parser Statement) → Sound p nested
    → Sound (g.verb_line depth p) (string_reader (r.statements nested))
unfolding string_reader
stringing_sound depth p nested each x i rest e =
    unstep (read.expect w.String i) _ e (λ u i1 is1 e1.
    unstep (strung_reader i1) _ e1 (λ both i2 is2 e2.
    unstep (pointer_reader i2) _ e2 (λ pointer i3 is3 e3.
    unstep (two_sided_reader (r.statements nested) Overflow i3) _ e3 (λ phrases i4 is4 e4.
    unstep (read.skip w.EndString i4) _ e4 (λ t i5 is5 e5.
    let s = strung_sound both i1 i2 is2 in
    subst (λ y. g.verb_line depth p y i rest) (value e5) (
      i1,
      word_sound w.String u i i1 is1,
      (
        s.0,
        s.1,
        (
          s.2.0,
          s.2.1,
          (
            i2,
            s.2.2,
            (
              i3,
              pointer_sound pointer i2 i3 is3,
              (
                i4,
                two_sided_sound (g.statements p) (r.statements nested) Overflow (statements_sound p nested each) phrases
                    i3 i4 is4,
                skip_sound w.EndString t i4 rest (last is5 e5),
              ),
            ),
          ),
        ),
      ),
    ))))))
