-- Programs: what is read is spelled, and what is spelled is read.
use Rattle.std.proofs.Common.{◌≡◌, ◌+◌, ℕ, Bool, true, false, List, [], ◌∷◌, Option, None, Some, inl, inr, refl, sym}
use Rattle.std.proofs.Common.{ap, ◌∙◌, subst, arith}
use Rattle.std.specs.Prelude.{if◌then◌else◌, Result, Ok, Err, IfOk}
use Rattle.tokens.specs.declared.reserved.Reserved.{Reserved}
use Rattle.tokens.specs.declared.reserved.Reserved.TheVariants as w
use Rattle.tokens.specs.declared.token.Token.{Token}
use Rattle.lexical.specs.declared.place.Place.{Place}
use Rattle.source_tree.specs.declared.program.Program.{Program}
use Rattle.grammar.specs.declared.fault.Halt.{Halt}
use Rattle.grammar.specs.declared.fault.Halt.TheVariants.{Unexpected, TooDeep}
use Rattle.answers.specs.Answer.{Gives}
use Rattle.grammar.specs.Parts.{◌then◌, optional}
use Rattle.grammar.specs.Reading as read
use Rattle.grammar.specs.Reading.{Outcome, Parser, begins_word}
use Rattle.grammar.proofs.Outcomes.{Answers, Reached, Halts, Deeper, step, unstep, value, after, last}
use Rattle.grammar.proofs.Looking.{word_begins}
use Rattle.grammar.proofs.Lists.{Sound, Complete}
use Rattle.grammar.proofs.Parts.{name_sound, name_complete, word_sound, word_complete, period_sound, period_complete}
use Rattle.grammar.proofs.Parts.{heading_sound, heading_complete, nothing_sound}
use Rattle.statements.specs.Spelling.{max_nesting}
use Rattle.divisions.specs.Spelling as g
use Rattle.divisions.specs.Spelling.{SpellsProgram}
use Rattle.divisions.specs.Reading as r
use Rattle.data_division.specs.Forms.{first_formless, program_entries}
use Rattle.data_division.specs.Division.{data_division_reader}
use Rattle.data_division.proofs.Exact.Division.{data_division_sound, data_division_complete}
use Rattle.divisions.specs.Environment.{environment_reader}
use Rattle.divisions.specs.Faults.{fault_at, fault_of, formed_by, result_of_tree, IsAnswer, IsParseRefusal}
use Rattle.divisions.specs.Faults.{FormlessInTree}
use Rattle.divisions.specs.declared.fault.FaultKind.TheVariants.{PictureWithoutForm}
use Rattle.divisions.specs.declared.fault.ParseFault.{ParseFault}
use Rattle.divisions.specs.declared.fault.ParseError.{ParseError}
use Rattle.divisions.specs.declared.fault.ParseError.TheVariants.{Memory, Refused}
use Rattle.divisions.proofs.Environments.{environment_sound, environment_complete}
use Rattle.divisions.proofs.SectionLists.{all_sections_sound, all_sections_complete}

-- ---- the identification division

abbrev identification_words : List Reserved
identification_words = w.Identification ∷ w.Division ∷ []

identification_sound : Sound g.identification r.identification
unfolding r.identification
identification_sound x i rest e =
    unstep (read.heading_reader identification_words i) _ e (λ u1 i1 is1 e1.
    unstep (read.heading_reader (w.ProgramId ∷ []) i1) _ e1 (λ u2 i2 is2 e2.
    unstep (read.name i2) _ e2 (λ given i3 is3 e3.
    unstep (read.period i3) _ e3 (λ u4 i4 is4 e4.
    subst (λ y. g.identification y i rest) (value e4) (
      i1,
      heading_sound identification_words u1 i i1 is1,
      (
        i2,
        heading_sound (w.ProgramId ∷ []) u2 i1 i2 is2,
        (i3, name_sound given i2 i3 is3, period_sound u4 i3 rest (last is4 e4)),
      ),
    )))))

identification_complete : {Allowed : Halt → Type 0} → Complete Allowed g.identification r.identification
unfolding r.identification
identification_complete x i rest (i1, first, (i2, second, (i3, given, end))) =
    step (read.heading_reader identification_words i) _ (heading_complete identification_words tt i i1 first)
    (step (read.heading_reader (w.ProgramId ∷ []) i1) _ (heading_complete (w.ProgramId ∷ []) tt i1 i2 second)
    (step (read.name i2) _ (name_complete x i2 i3 given)
    (step (read.period i3) _ (period_complete tt i3 rest end) (Reached refl))))

-- ---- the procedure division

abbrev procedure_words : List Reserved
procedure_words = w.Procedure ∷ w.Division ∷ []

procedure_sound : (depth : ℕ) → Sound (g.procedure depth) (r.procedure depth)
unfolding r.procedure
procedure_sound depth x i rest e =
    unstep (read.heading_reader procedure_words i) _ e (λ u1 i1 is1 e1.
    (i1, heading_sound procedure_words u1 i i1 is1, all_sections_sound depth x i1 rest e1))

procedure_complete : (depth depth' : ℕ) → Complete (Deeper depth depth') (g.procedure depth') (r.procedure depth)
unfolding r.procedure
procedure_complete depth depth' x i rest (i1, first, all) =
    step (read.heading_reader procedure_words i) _ (heading_complete procedure_words tt i i1 first)
    (all_sections_complete depth depth' x i1 rest all)

-- ---- END PROGRAM, and the end

end_program_sound : (u : Unit {0}) (i rest : List Token) → r.end_program i ≡ Ok (u, rest) → g.end_program i rest
unfolding r.end_program
end_program_sound u i rest e =
    unstep (read.expect w.End i) _ e (λ u1 i1 is1 e1.
    unstep (read.expect w.Program i1) _ e1 (λ u2 i2 is2 e2.
    unstep (read.name i2) _ e2 (λ other i3 is3 e3. (
      i1,
      word_sound w.End u1 i i1 is1,
      (i2, word_sound w.Program u2 i1 i2 is2, (i3, (other, name_sound other i2 i3 is3), period_sound u i3 rest e3)),
    ))))

end_program_complete : {Allowed : Halt → Type 0} (i rest : List Token) → g.end_program i rest
    → Answers Allowed (r.end_program i) tt rest
unfolding r.end_program
end_program_complete i rest (i1, first, (i2, second, (i3, (other, given), end))) =
    step (read.expect w.End i) _ (word_complete w.End tt i i1 first)
    (step (read.expect w.Program i1) _ (word_complete w.Program tt i1 i2 second)
    (step (read.name i2) _ (name_complete other i2 i3 given)
    (period_complete tt i3 rest end)))

-- where END doesn't come, END PROGRAM doesn't stand
no_end : (i : List Token) → begins_word w.End i ≡ false → (rest : List Token) → g.end_program i rest → ⊥
no_end i not rest s = let is = word_begins w.End i s.0 s.1 in cc

ending_sound : (u : Unit {0}) (i rest : List Token) → r.optional_end_reader i ≡ Ok (u, rest)
    → optional g.end_program i rest
unfolding r.optional_end_reader
ending_sound u i rest e = go (begins_word w.End i) refl e
  where
    go : (b : Bool) → begins_word w.End i ≡ b → (if b then r.end_program i else Ok (tt, i)) ≡ Ok (u, rest)
        → optional g.end_program i rest
    go true is e = inl (end_program_sound u i rest e)
    go false is e = inr (after e, no_end i is)

-- what is left at the end is END PROGRAM or nothing
ending_complete : {Allowed : Halt → Type 0} (i rest : List Token) → optional g.end_program i rest → rest ≡ []
    → Answers Allowed (r.optional_end_reader i) tt rest
unfolding r.optional_end_reader
ending_complete i rest (inl s) end = rw (word_begins w.End i s.0 s.1) (end_program_complete i rest s)
ending_complete i rest (inr s) end = let none : i ≡ [] =
    s.0 ∙ end in Reached (ap r.optional_end_reader none ∙ ap (λ j. Ok (tt, j)) (sym end))

-- ---- programs

pub program_sound : (depth : ℕ) (tree : Program) (i : List Token) → r.program depth i ≡ Ok (tree, [])
    → SpellsProgram depth tree i
unfolding r.program
program_sound depth tree i e =
    unstep (r.identification i) _ e (λ given i1 is1 e1.
    unstep (environment_reader i1) _ e1 (λ selects i2 is2 e2.
    unstep (data_division_reader i2) _ e2 (λ described i3 is3 e3.
    unstep (r.procedure depth i3) _ e3 (λ found i4 is4 e4.
    unstep (r.optional_end_reader i4) _ e4 (λ u i5 is5 e5.
    unstep (read.end_reader i5) _ e5 (λ v i6 is6 e6.
    subst (λ y. SpellsProgram depth y i) (value e6) (
      i1,
      identification_sound given i i1 is1,
      (
        i2,
        environment_sound selects i1 i2 is2,
        (
          i3,
          data_division_sound described i2 i3 is3,
          (
            i4,
            procedure_sound depth found i3 i4 is4,
            (i5, ending_sound u i4 i5 is5, (nothing_sound v i5 i6 is6, refl)),
          ),
        ),
      ),
    )))))))

pub program_complete : (depth depth' : ℕ) (tree : Program) (i : List Token) → SpellsProgram depth' tree i
    → Answers (Deeper depth depth') (r.program depth i) tree []
unfolding r.program read.end_reader
program_complete depth depth' tree i (i1, given, (i2, around, (i3, items, (i4, procedure, (i5, end, over))))) =
    step (r.identification i) _ (identification_complete tree.name i i1 given)
    (step (environment_reader i1) _ (environment_complete tree.selects i1 i2 around)
    (step (data_division_reader i2) _ (data_division_complete (g.data_division_of tree) i2 i3 items)
    (step (r.procedure depth i3) _ (procedure_complete depth depth' tree.sections i3 i4 procedure)
    (step (r.optional_end_reader i4) _ (ending_complete i4 i5 end over.0)
    (rw over.0 (Reached refl))))))

-- ---- what may be answered

refused : ParseFault → Result Program ParseFault
refused fault = Err fault

halted : Halt → Outcome Program
halted halt = Err halt

same_fault : {fault fault' : ParseFault} → refused fault ≡ refused fault' → fault ≡ fault'
unfolding refused
same_fault e = cc

same_halt : {halt halt' : Halt} → halted halt ≡ halted halt' → halt ≡ halt'
unfolding halted
same_halt e = cc

kept : (tree : Program) (o : Option Place) (answer : Program) → formed_by tree o ≡ Ok answer → answer ≡ tree
kept tree None answer e = cc
kept tree (Some place) answer e = cc

told : (tree : Program) (o : Option Place) (fault : ParseFault) → formed_by tree o ≡ Err fault
    → (fault.kind ≡ PictureWithoutForm) × (o ≡ Some fault.place)
unfolding refused
told tree None fault e = cc
told tree (Some place) fault e = let same = same_fault e in (sym (ap (λ f. f.kind) same), ap (λ f. Some f.place) same)

-- the tree that was read is the one that spells the tokens
one_read : (depth : ℕ) (tree tree' : Program) (i : List Token) → r.program max_nesting i ≡ Ok (tree, [])
    → SpellsProgram depth tree' i → tree ≡ tree'
one_read depth tree tree' i e spelled = go (program_complete max_nesting depth tree' i spelled)
  where
    go : Answers (Deeper max_nesting depth) (r.program max_nesting i) tree' [] → tree ≡ tree'
    go (Reached is) = value (sym e ∙ is)
    go (Halts halt deep is) = cc

-- what is answered where a tree was read
module _ (i : List Token) (tree : Program) (e : r.program max_nesting i ≡ Ok (tree, [])) where
  pub formed_spelled : (result : Result Program ParseError) → Gives (λ (t : Program). t) fault_of result
      (result_of_tree tree) → IfOk result (λ t. SpellsProgram max_nesting t i)
  formed_spelled (Ok answer) g = subst (λ t. SpellsProgram max_nesting t i)
      (sym (kept tree (first_formless (program_entries tree)) answer g)) (program_sound max_nesting tree i e)
  formed_spelled (Err error) g = tt

  pub formed_only : (result : Result Program ParseError)
      → Gives (λ (t : Program). t) fault_of result (result_of_tree tree)
      → (depth : ℕ) (tree' : Program) → SpellsProgram depth tree' i → IsAnswer depth tree' result
  formed_only (Ok answer) g depth tree' spelled =
      kept tree (first_formless (program_entries tree)) answer g ∙ one_read depth tree tree' i e spelled
  formed_only (Err Memory) g depth tree' spelled = tt
  formed_only (Err (Refused fault)) g depth tree' spelled =
      let t = told tree (first_formless (program_entries tree)) fault g in
      inr (t.0, ap (λ x. first_formless (program_entries x)) (sym (one_read depth tree tree' i e spelled)) ∙ t.1)

  pub formed_formless : (result : Result Program ParseError)
      → Gives (λ (t : Program). t) fault_of result (result_of_tree tree) → FormlessInTree i result
  formed_formless result g fault is kind =
      let t = told tree (first_formless (program_entries tree)) fault
      (subst (λ x. Gives (λ (t : Program). t) fault_of x (result_of_tree tree)) is g) in
      (tree, program_sound max_nesting tree i e, t.1)

-- what is answered where reading halted
pub halted_only : (i : List Token) (halt : Halt) → r.program max_nesting i ≡ Err halt → (depth : ℕ) (tree : Program)
    → SpellsProgram depth tree i → IsParseRefusal depth tree (fault_at i halt)
unfolding halted
halted_only i halt e depth tree spelled = go (program_complete max_nesting depth tree i spelled)
  where
    go : Answers (Deeper max_nesting depth) (r.program max_nesting i) tree []
        → IsParseRefusal depth tree (fault_at i halt)
    go (Reached is) = cc
    go (Halts (Unexpected left) none is) = absurd none
    go (Halts (TooDeep left) deep is) = inl (ap (λ h. (fault_at i h).kind) (same_halt (sym e ∙ is)), deep)

-- ---- one tree

pub one : (depth depth' : ℕ) (tree tree' : Program) (i : List Token) → SpellsProgram depth tree i
    → SpellsProgram depth' tree' i → tree ≡ tree'
one depth depth' tree tree' i s s' =
    go (program_complete (depth + depth') depth tree i s) (program_complete (depth + depth') depth' tree' i s')
  where
    go : Answers (Deeper (depth + depth') depth) (r.program (depth + depth') i) tree []
        → Answers (Deeper (depth + depth') depth') (r.program (depth + depth') i) tree' []
        → tree ≡ tree'
    go (Reached is) (Reached is') = value (sym is ∙ is')
    go (Halts (TooDeep left) deep is) answers = absurd (omega arith)
    go (Halts (Unexpected left) none is) answers = absurd none
    go (Reached is) (Halts (TooDeep left) deep is') = absurd (omega arith)
    go (Reached is) (Halts (Unexpected left) none is') = absurd none
