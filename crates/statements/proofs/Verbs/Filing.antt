-- File statements: what is read is spelled, and what is spelled is read.
use Rattle.std.proofs.Common.{◌≡◌, ◌<◌, ◌≤◌, ℕ, List, length, Option, Some, None, Ok, refl, ap, ◌∙◌, subst, arith}
use Rattle.std.specs.Option.{option_map}
use Rattle.tokens.specs.declared.reserved.Reserved.{Reserved}
use Rattle.tokens.specs.declared.reserved.Reserved.TheVariants as w
use Rattle.tokens.specs.declared.token.Token.{Token}
use Rattle.source_tree.specs.declared.reference.Reference.{Reference}
use Rattle.source_tree.specs.declared.phrases.FilePhrases.{FilePhrases}
use Rattle.source_tree.specs.declared.file_statement.StartKey.{StartKey}
use Rattle.source_tree.specs.declared.file_statement.FileStatement.{FileStatement}
use Rattle.source_tree.specs.declared.file_statement.FileStatement.TheVariants as filing_as
use Rattle.source_tree.specs.declared.statement.Verb.TheVariants as verb
use Rattle.source_tree.specs.declared.statement.Statement.{Statement}
use Rattle.grammar.specs.declared.fault.Halt.{Halt}
use Rattle.grammar.specs.Parts.{Part, ◌then◌, optional, word}
use Rattle.grammar.specs.Reading as read
use Rattle.grammar.specs.Reading.{Parser, Words, after_word, past_word}
use Rattle.grammar.proofs.Outcomes.{Answers, Reached, step, unstep, value, after, last}
use Rattle.grammar.proofs.Looking.{Finds, finds_word, is_absent, is_missing, some_is, none_not, past_does, past_is}
use Rattle.grammar.proofs.Looking.{word_found, word_stands}
use Rattle.grammar.proofs.Lists.{Sound, Complete, Shrinks}
use Rattle.grammar.proofs.Parts.{name_sound, name_complete, name_shrinks, word_sound, word_complete, word_shrinks}
use Rattle.grammar.proofs.Parts.{skip_sound, skip_complete, skip_shrinks, stands_sound, stands_complete, stands_shrinks}
use Rattle.expressions.specs.References.{reference, reference_reader}
use Rattle.expressions.proofs.Exact.References.{reference_sound, reference_complete, reference_shrinks}
use Rattle.conditions.specs.Relations.{relation_reader}
use Rattle.conditions.proofs.Exact.Relations.{relation_sound, relation_complete, relation_shrinks}
use Rattle.statements.specs.declared.verb.FileVerb.{FileVerb}
use Rattle.statements.specs.declared.verb.FileVerb.TheVariants as f
use Rattle.statements.specs.declared.verb.VerbWord.TheVariants as v
use Rattle.statements.specs.Verbs.{verb_at}
use Rattle.statements.specs.FilePhrases.{key_phrases, key_phrases_reader, read_phrases_reader}
use Rattle.statements.specs.Filing as rule
use Rattle.statements.specs.Filing.{file_statement, item_at, item_after_reader, after_key_is, some_key_reader}
use Rattle.statements.specs.Filing.{start_key_at, start_key_reader, by_file_verb, file_reader}
use Rattle.statements.specs.Spelling as g
use Rattle.statements.specs.Reading as r
use Rattle.statements.proofs.Standing.{stands}
use Rattle.statements.proofs.StatementLists.{statements_sound}
use Rattle.statements.proofs.FilePhrases.{key_phrases_shrink, key_phrases_sound, key_phrases_complete}
use Rattle.statements.proofs.FilePhrases.{read_phrases_shrink, read_phrases_sound, read_phrases_complete}
use Rattle.statements.proofs.Verbs.Opening.{openings_shrink, openings_stand, openings_complete, openings_sound}
use Rattle.statements.proofs.Verbs.Opening.{closing_shrinks, closing_stands, closing_complete, closing_sound}

-- ---- items after words

module _ {p : Part} {words : Words} (finds : Finds p words) where
  item_sound : Sound (rule.item_after p) (item_after_reader words)
  unfolding item_after_reader
  item_sound x i rest e = go (words i) refl e
    where
      go : (o : Option (List Token)) → words i ≡ o → item_at o i ≡ Ok (x, rest) → rule.item_after p x i rest
      go None is e = subst (λ y. rule.item_after p y i rest) (value e) (after e, is_absent finds i is)
      go (Some m) is e =
          unstep (reference_reader m) _ e (λ one i1 is1 e1.
          subst (λ y. rule.item_after p y i rest) (value e1)
          (m, finds.found i m is, reference_sound one m rest (last is1 e1)))

  item_complete : {Allowed : Halt → Type 0} → Complete Allowed (rule.item_after p) (item_after_reader words)
  unfolding item_after_reader
  item_complete None i rest s = rw (is_missing finds i s.1) (Reached (ap (λ j. Ok (None, j)) s.0))
  item_complete (Some one) i rest (m, behind, item) =
      rw (finds.stands i m behind) (step (reference_reader m) _ (reference_complete one m rest item) (Reached refl))

item_shrinks : (p : Part) → ((i rest : List Token) → p i rest → length rest < length i)
    → (x : Option Reference) (i rest : List Token) → rule.item_after p x i rest
    → length rest ≤ length i
item_shrinks p fewer None i rest s = let l = ap length s.0 in omega arith
item_shrinks p fewer (Some one) i rest (m, behind, item) =
    let a = fewer i m behind in let b = reference_shrinks one m rest item in omega arith

-- ---- KEY [IS]

mapped : (o : Option (List Token)) (past : List Token → List Token) (after : List Token)
    → option_map past o ≡ Some after → (middle : List Token) × (o ≡ Some middle) × (past middle ≡ after)
mapped None past after e = absurd (none_not e)
mapped (Some middle) past after e = (middle, refl, some_is e)

finds_key_is : Finds rule.key_is after_key_is
unfolding after_key_is
finds_key_is = record {
  found = λ i after e.
      let m = mapped (after_word w.Key i) (past_word w.Is) after e in
      (m.0, word_found w.Key i m.0 m.1, subst (λ j. optional (word w.Is) m.0 j) m.2 (past_does w.Is m.0));
  stands = λ i after s. ap (option_map (past_word w.Is)) (word_stands w.Key i s.0 s.1)
      ∙ ap Some (past_is w.Is s.0 after s.2);
}

key_is_shrinks : (i rest : List Token) → rule.key_is i rest → length rest < length i
key_is_shrinks i rest (i1, key, is) = let a = word_shrinks w.Key i i1 key in let b =
    skip_shrinks w.Is i1 rest is in omega arith

-- ---- the key of START

start_key_sound : Sound rule.start_key start_key_reader
unfolding start_key_reader some_key_reader
start_key_sound x i rest e = go (after_word w.Key i) refl e
  where
    go : (o : Option (List Token)) → after_word w.Key i ≡ o → start_key_at o i ≡ Ok (x, rest) → rule.start_key x i rest
    go None is e = subst (λ y. rule.start_key y i rest) (value e) (after e, is_absent (finds_word w.Key) i is)
    go (Some m) is e =
        unstep (relation_reader m) _ e (λ operator i1 is1 e1.
        unstep (reference_reader i1) _ e1 (λ key i2 is2 e2.
        subst (λ y. rule.start_key y i rest) (value e2) (
          m,
          word_found w.Key i m is,
          (i1, relation_sound operator m i1 is1, reference_sound key i1 rest (last is2 e2)),
        )))

start_key_complete : {Allowed : Halt → Type 0} → Complete Allowed rule.start_key start_key_reader
unfolding start_key_reader some_key_reader
start_key_complete None i rest s = rw (is_missing (finds_word w.Key) i s.1) (Reached (ap (λ j. Ok (None, j)) s.0))
start_key_complete (Some one) i rest (m, key, (i1, related, item)) =
    rw (word_stands w.Key i m key)
    (step (relation_reader m) _ (relation_complete one.operator m i1 related)
    (step (reference_reader i1) _ (reference_complete one.key i1 rest item) (Reached refl)))

start_key_shrinks : (x : Option StartKey) (i rest : List Token) → rule.start_key x i rest → length rest ≤ length i
start_key_shrinks None i rest s = let l = ap length s.0 in omega arith
start_key_shrinks (Some one) i rest (m, key, (i1, related, item)) =
    let a = word_shrinks w.Key i m key in
    let b = relation_shrinks one.operator m i1 related in
    let c = reference_shrinks one.key i1 rest item in omega arith

word_below : (one : Reserved) (i rest : List Token) → word one i rest → length rest ≤ length i
word_below one i rest s = let l = word_shrinks one i rest s in omega arith

-- ---- the statements take tokens, and begin with their verbs

-- the verb of a file statement
abbrev pub file_verb : FileStatement Statement → FileVerb
file_verb (filing_as.Open files) = f.Open
file_verb (filing_as.Close files) = f.Close
file_verb (filing_as.Read file next into key phrases) = f.Read
file_verb (filing_as.Write row from phrases) = f.Write
file_verb (filing_as.Rewrite row from phrases) = f.Rewrite
file_verb (filing_as.Delete file phrases) = f.Delete
file_verb (filing_as.Start file key phrases) = f.Start

module _ (statements : List Statement → Part) where
  storing_shrinks : Shrinks statements → (one end : Reserved) (row : Reference) (from : Option Reference)
      (phrases : FilePhrases Statement) (i rest : List Token)
      → rule.record_statement statements one end row from phrases i rest → length rest < length i
  storing_shrinks fewer one end row from phrases i rest (i1, first, (i2, item, (i3, sent, (i4, both, last)))) =
      let a = word_shrinks one i i1 first in
      let b = reference_shrinks row i1 i2 item in
      let c = item_shrinks (word w.From) (word_shrinks w.From) from i2 i3 sent in
      let d = key_phrases_shrink statements fewer phrases i3 i4 both in
      let e = skip_shrinks end i4 rest last in omega arith

  pub filing_shrinks : Shrinks statements → Shrinks (file_statement statements)
  filing_shrinks fewer (filing_as.Open files) i rest s = openings_shrink files i rest s
  filing_shrinks fewer (filing_as.Close files) i rest s = closing_shrinks files i rest s
  filing_shrinks fewer (filing_as.Read file next into key phrases) i rest
      (i1, first, (i2, named, (i3, next_word, (i4, row, (i5, taken, (i6, by, (i7, both, end))))))) =
      let a = word_shrinks w.Read i i1 first in
      let b = name_shrinks file i1 i2 named in
      let c = stands_shrinks (word_below w.Next) next i2 i3 next_word in
      let d = skip_shrinks w.Record i3 i4 row in
      let e = item_shrinks (word w.Into) (word_shrinks w.Into) into i4 i5 taken in
      let f = item_shrinks rule.key_is key_is_shrinks key i5 i6 by in
      let g = read_phrases_shrink statements fewer phrases i6 i7 both in
      let h = skip_shrinks w.EndRead i7 rest end in omega arith
  filing_shrinks fewer (filing_as.Write row from phrases) i rest s =
      storing_shrinks fewer w.Write w.EndWrite row from phrases i rest s
  filing_shrinks fewer (filing_as.Rewrite row from phrases) i rest s =
      storing_shrinks fewer w.Rewrite w.EndRewrite row from phrases i rest s
  filing_shrinks fewer (filing_as.Delete file phrases) i rest (i1, first, (i2, named, (i3, row, (i4, both, end)))) =
      let a = word_shrinks w.Delete i i1 first in
      let b = name_shrinks file i1 i2 named in
      let c = skip_shrinks w.Record i2 i3 row in
      let d = key_phrases_shrink statements fewer phrases i3 i4 both in
      let e = skip_shrinks w.EndDelete i4 rest end in omega arith
  filing_shrinks fewer (filing_as.Start file key phrases) i rest (i1, first, (i2, named, (i3, by, (i4, both, end)))) =
      let a = word_shrinks w.Start i i1 first in
      let b = name_shrinks file i1 i2 named in
      let c = start_key_shrinks key i2 i3 by in
      let d = key_phrases_shrink statements fewer phrases i3 i4 both in
      let e = skip_shrinks w.EndStart i4 rest end in omega arith

  pub filing_stands : (x : FileStatement Statement) (i rest : List Token) → file_statement statements x i rest
      → verb_at i ≡ Some (v.Filing (file_verb x))
  filing_stands (filing_as.Open files) i rest s = openings_stand files i rest s
  filing_stands (filing_as.Close files) i rest s = closing_stands files i rest s
  filing_stands (filing_as.Read file next into key phrases) i rest s = stands w.Read i s.0 s.1
  filing_stands (filing_as.Write row from phrases) i rest s = stands w.Write i s.0 s.1
  filing_stands (filing_as.Rewrite row from phrases) i rest s = stands w.Rewrite i s.0 s.1
  filing_stands (filing_as.Delete file phrases) i rest s = stands w.Delete i s.0 s.1
  filing_stands (filing_as.Start file key phrases) i rest s = stands w.Start i s.0 s.1

  -- ---- what is read is spelled

  abbrev Stored : Type 0
  Stored = Reference × (Option Reference × FilePhrases Statement)

  abbrev stored : Stored → Part
  stored x = reference x.0 then rule.item_after (word w.From) x.1.0 then key_phrases statements x.1.1

  module _ (reader : Parser (List Statement)) (each : Sound statements reader) where
    reading_sound : Sound (file_statement statements) (rule.read_reader reader)
    unfolding rule.read_reader
    reading_sound x i rest e =
        unstep (read.expect w.Read i) _ e (λ u i1 is1 e1.
        unstep (read.name i1) _ e1 (λ file i2 is2 e2.
        unstep (read.presence_reader (after_word w.Next) i2) _ e2 (λ next i3 is3 e3.
        unstep (read.skip w.Record i3) _ e3 (λ t i4 is4 e4.
        unstep (item_after_reader (after_word w.Into) i4) _ e4 (λ into i5 is5 e5.
        unstep (item_after_reader after_key_is i5) _ e5 (λ key i6 is6 e6.
        unstep (read_phrases_reader reader i6) _ e6 (λ phrases i7 is7 e7.
        unstep (read.skip w.EndRead i7) _ e7 (λ z i8 is8 e8.
        let end = skip_sound w.EndRead z i7 rest (last is8 e8) in
        let both = read_phrases_sound statements reader each phrases i6 i7 is7 in
        let by = item_sound finds_key_is key i5 i6 is6 in
        let taken = item_sound (finds_word w.Into) into i4 i5 is5 in
        let next_word = stands_sound (finds_word w.Next) next i2 i3 is3 in
        subst (λ y. file_statement statements y i rest) (value e8) (
          i1,
          word_sound w.Read u i i1 is1,
          (
            i2,
            name_sound file i1 i2 is2,
            (i3, next_word, (i4, skip_sound w.Record t i3 i4 is4, (i5, taken, (i6, by, (i7, both, end))))),
          ),
        )))))))))

    stored_sound : Sound stored (rule.stored_reader reader)
    unfolding rule.stored_reader
    stored_sound x i rest e =
        unstep (reference_reader i) _ e (λ row i1 is1 e1.
        unstep (item_after_reader (after_word w.From) i1) _ e1 (λ from i2 is2 e2.
        unstep (key_phrases_reader reader i2) _ e2 (λ phrases i3 is3 e3.
        subst (λ y. stored y i rest) (value e3) (
          i1,
          reference_sound row i i1 is1,
          (
            i2,
            item_sound (finds_word w.From) from i1 i2 is2,
            key_phrases_sound statements reader each phrases i2 rest (last is3 e3),
          ),
        ))))

    writing_sound : Sound (file_statement statements) (rule.write_reader reader)
    unfolding rule.write_reader
    writing_sound x i rest e =
        unstep (read.expect w.Write i) _ e (λ u i1 is1 e1.
        unstep (rule.stored_reader reader i1) _ e1 (λ found i2 is2 e2.
        unstep (read.skip w.EndWrite i2) _ e2 (λ z i3 is3 e3.
        let s = stored_sound found i1 i2 is2 in
        subst (λ y. file_statement statements y i rest) (value e3) (
          i1,
          word_sound w.Write u i i1 is1,
          (s.0, s.1, (s.2.0, s.2.1, (i2, s.2.2, skip_sound w.EndWrite z i2 rest (last is3 e3)))),
        ))))

    rewriting_sound : Sound (file_statement statements) (rule.rewrite_reader reader)
    unfolding rule.rewrite_reader
    rewriting_sound x i rest e =
        unstep (read.expect w.Rewrite i) _ e (λ u i1 is1 e1.
        unstep (rule.stored_reader reader i1) _ e1 (λ found i2 is2 e2.
        unstep (read.skip w.EndRewrite i2) _ e2 (λ z i3 is3 e3.
        let s = stored_sound found i1 i2 is2 in
        subst (λ y. file_statement statements y i rest) (value e3) (
          i1,
          word_sound w.Rewrite u i i1 is1,
          (s.0, s.1, (s.2.0, s.2.1, (i2, s.2.2, skip_sound w.EndRewrite z i2 rest (last is3 e3)))),
        ))))

    deleting_sound : Sound (file_statement statements) (rule.delete_reader reader)
    unfolding rule.delete_reader
    deleting_sound x i rest e =
        unstep (read.expect w.Delete i) _ e (λ u i1 is1 e1.
        unstep (read.name i1) _ e1 (λ file i2 is2 e2.
        unstep (read.skip w.Record i2) _ e2 (λ t i3 is3 e3.
        unstep (key_phrases_reader reader i3) _ e3 (λ phrases i4 is4 e4.
        unstep (read.skip w.EndDelete i4) _ e4 (λ z i5 is5 e5.
        let both = key_phrases_sound statements reader each phrases i3 i4 is4 in
        subst (λ y. file_statement statements y i rest) (value e5) (
          i1,
          word_sound w.Delete u i i1 is1,
          (
            i2,
            name_sound file i1 i2 is2,
            (i3, skip_sound w.Record t i2 i3 is3, (i4, both, skip_sound w.EndDelete z i4 rest (last is5 e5))),
          ),
        ))))))

    starting_sound : Sound (file_statement statements) (rule.start_reader reader)
    unfolding rule.start_reader
    starting_sound x i rest e =
        unstep (read.expect w.Start i) _ e (λ u i1 is1 e1.
        unstep (read.name i1) _ e1 (λ file i2 is2 e2.
        unstep (start_key_reader i2) _ e2 (λ key i3 is3 e3.
        unstep (key_phrases_reader reader i3) _ e3 (λ phrases i4 is4 e4.
        unstep (read.skip w.EndStart i4) _ e4 (λ z i5 is5 e5.
        let both = key_phrases_sound statements reader each phrases i3 i4 is4 in
        subst (λ y. file_statement statements y i rest) (value e5) (
          i1,
          word_sound w.Start u i i1 is1,
          (
            i2,
            name_sound file i1 i2 is2,
            (i3, start_key_sound key i2 i3 is3, (i4, both, skip_sound w.EndStart z i4 rest (last is5 e5))),
          ),
        ))))))

    by_verb_sound : (one : FileVerb) → Sound (file_statement statements) (by_file_verb reader one)
    by_verb_sound f.Open = openings_sound statements
    by_verb_sound f.Close = closing_sound statements
    by_verb_sound f.Read = reading_sound
    by_verb_sound f.Write = writing_sound
    by_verb_sound f.Rewrite = rewriting_sound
    by_verb_sound f.Delete = deleting_sound
    by_verb_sound f.Start = starting_sound

  -- ---- what is spelled is read

  module _ (reader : Parser (List Statement)) (Allowed : Halt → Type 0)
      (each : Complete Allowed statements reader) where
    stored_complete : Complete Allowed stored (rule.stored_reader reader)
    unfolding rule.stored_reader
    stored_complete x i rest (i1, item, (i2, sent, both)) =
        step (reference_reader i) _ (reference_complete x.0 i i1 item)
        (step (item_after_reader (after_word w.From) i1) _ (item_complete (finds_word w.From) x.1.0 i1 i2 sent)
        (step (key_phrases_reader reader i2) _ (key_phrases_complete statements reader Allowed each x.1.1 i2 rest both)
        (Reached refl)))

    by_verb_complete : (x : FileStatement Statement) (i rest : List Token) → file_statement statements x i rest
        → Answers Allowed (by_file_verb reader (file_verb x) i) x rest
    unfolding rule.read_reader rule.write_reader rule.rewrite_reader rule.delete_reader rule.start_reader
    by_verb_complete (filing_as.Open files) i rest s = openings_complete files i rest s
    by_verb_complete (filing_as.Close files) i rest s = closing_complete files i rest s
    by_verb_complete (filing_as.Read file next into key phrases) i rest
        (i1, first, (i2, named, (i3, next_word, (i4, row, (i5, taken, (i6, by, (i7, both, end))))))) =
        step (read.expect w.Read i) _ (word_complete w.Read tt i i1 first)
        (step (read.name i1) _ (name_complete file i1 i2 named)
        (step (read.presence_reader (after_word w.Next) i2) _ (stands_complete (finds_word w.Next) next i2 i3 next_word)
        (step (read.skip w.Record i3) _ (skip_complete w.Record tt i3 i4 row)
        (step (item_after_reader (after_word w.Into) i4) _ (item_complete (finds_word w.Into) into i4 i5 taken)
        (step (item_after_reader after_key_is i5) _ (item_complete finds_key_is key i5 i6 by)
        (step (read_phrases_reader reader i6) _
        (read_phrases_complete statements reader Allowed each phrases i6 i7 both)
        (step (read.skip w.EndRead i7) _ (skip_complete w.EndRead tt i7 rest end) (Reached refl))))))))
    by_verb_complete (filing_as.Write row from phrases) i rest (i1, first, (i2, item, (i3, sent, (i4, both, end)))) =
        step (read.expect w.Write i) _ (word_complete w.Write tt i i1 first)
        (step (rule.stored_reader reader i1) _
        (stored_complete (row, (from, phrases)) i1 i4 (i2, item, (i3, sent, both)))
        (step (read.skip w.EndWrite i4) _ (skip_complete w.EndWrite tt i4 rest end) (Reached refl)))
    by_verb_complete (filing_as.Rewrite row from phrases) i rest (i1, first, (i2, item, (i3, sent, (i4, both, end)))) =
        step (read.expect w.Rewrite i) _ (word_complete w.Rewrite tt i i1 first)
        (step (rule.stored_reader reader i1) _
        (stored_complete (row, (from, phrases)) i1 i4 (i2, item, (i3, sent, both)))
        (step (read.skip w.EndRewrite i4) _ (skip_complete w.EndRewrite tt i4 rest end) (Reached refl)))
    by_verb_complete (filing_as.Delete file phrases) i rest (i1, first, (i2, named, (i3, row, (i4, both, end)))) =
        step (read.expect w.Delete i) _ (word_complete w.Delete tt i i1 first)
        (step (read.name i1) _ (name_complete file i1 i2 named)
        (step (read.skip w.Record i2) _ (skip_complete w.Record tt i2 i3 row)
        (step (key_phrases_reader reader i3) _ (key_phrases_complete statements reader Allowed each phrases i3 i4 both)
        (step (read.skip w.EndDelete i4) _ (skip_complete w.EndDelete tt i4 rest end) (Reached refl)))))
    by_verb_complete (filing_as.Start file key phrases) i rest (i1, first, (i2, named, (i3, by, (i4, both, end)))) =
        step (read.expect w.Start i) _ (word_complete w.Start tt i i1 first)
        (step (read.name i1) _ (name_complete file i1 i2 named)
        (step (start_key_reader i2) _ (start_key_complete key i2 i3 by)
        (step (key_phrases_reader reader i3) _ (key_phrases_complete statements reader Allowed each phrases i3 i4 both)
        (step (read.skip w.EndStart i4) _ (skip_complete w.EndStart tt i4 rest end) (Reached refl)))))

    pub filing_complete : (x : FileStatement Statement) (i rest : List Token) → file_statement statements x i rest
        → Answers Allowed (file_reader reader (file_verb x) i) (verb.FileStatement x) rest
    unfolding file_reader
    filing_complete x i rest s =
        step (by_file_verb reader (file_verb x) i) _ (by_verb_complete x i rest s) (Reached refl)

pub filing_sound : (depth : ℕ) (p : Statement → Part) (nested : Parser Statement) → Sound p nested → (one : FileVerb)
    → Sound (g.verb_line depth p) (file_reader (r.statements nested) one)
unfolding file_reader
filing_sound depth p nested each one x i rest e =
    unstep (by_file_verb (r.statements nested) one i) _ e (λ found i1 is1 e1.
    subst (λ y. g.verb_line depth p y i rest) (value e1)
    (by_verb_sound (g.statements p) (r.statements nested) (statements_sound p nested each) one found i rest
    (last is1 e1)))
