-- Clauses in any order: what is read is spelled, and what is spelled is read.
use Rattle.std.proofs.Common.{◌≡◌, ◌≤◌, ℕ, zero, suc, Bool, true, false, List, [], ◌∷◌, length, Option, None, Some, Ok}
use Rattle.std.proofs.Common.{refl, ap, ◌∙◌, arith}
use Rattle.std.specs.Prelude.{if◌then◌else◌, is_some}
use Rattle.tokens.specs.declared.token.Token.{Token}
use Rattle.grammar.specs.declared.fault.Halt.{Halt}
use Rattle.grammar.specs.Parts.{any, lookahead}
use Rattle.grammar.specs.Reading as read
use Rattle.grammar.specs.Reading.{Outcome, Parser, ◌>>=◌}
use Rattle.grammar.proofs.Outcomes.{Answers, Reached, step, unstep, value, after}
use Rattle.grammar.proofs.Looking.{tests_tested, some_is, none_not}
use Rattle.grammar.proofs.Lists.{Sound, Complete, Shrinks, any_shrinks}
use Rattle.grammar.specs.Gathering.{Clauses, begins_clause, gathered_clauses, clauses_from, next_clause_reader}
use Rattle.grammar.specs.Gathering.{gathering_turns, gathering_reader}

module _ {Clause Kind All : Type 0} (c : Clauses Clause Kind All) (reader : Kind → Parser Clause) where
  -- what is read where a clause of that kind begins is spelled, and of that kind
  abbrev pub ClausesSound : Type 0
  ClausesSound = (kind : Kind) (x : Clause) (i rest : List Token) → c.at i ≡ Some kind → reader kind i ≡ Ok (x, rest)
      → c.clause x i rest × (c.kind_of x ≡ kind)

  -- what is spelled begins as one of its kind
  abbrev pub ClausesStand : Type 0
  ClausesStand = (x : Clause) (i rest : List Token) → c.clause x i rest → c.at i ≡ Some (c.kind_of x)

  -- what is spelled is read by the reader of its kind
  abbrev pub ClausesComplete : (Halt → Type 0) → Type 0
  ClausesComplete Allowed =
      (x : Clause) (i rest : List Token) → c.clause x i rest → Answers Allowed (reader (c.kind_of x) i) x rest

  -- ---- what is read is spelled

  -- one more clause in front
  in_front : (before all : All) (one : Clause) (i middle rest : List Token) → c.clause one i middle
      → c.has before (c.kind_of one) ≡ false
      → clauses_from c (c.with_clause before one) all middle rest → clauses_from c before all i rest
  in_front before all one i middle rest s fresh (more, spelled, together) =
      (one ∷ more, (middle, s, spelled), rw fresh together)

  -- no clause begins
  no_more : (before all : All) (i rest : List Token) → begins_clause c i ≡ false → read.pure before i ≡ Ok (all, rest)
      → clauses_from c before all i rest
  no_more before all i rest none e = ([], (after e, (tests_tested (begins_clause c)).fails i none), ap Some (value e))

  sound_from : ClausesSound → (turns : ℕ) (before : All) (i : List Token) (all : All) (rest : List Token)
      → gathering_turns c reader turns before i ≡ Ok (all, rest)
      → clauses_from c before all i rest
  unfolding gathering_turns
  sound_from each zero before i all rest e = go (begins_clause c i) refl e
    where
      go : (b : Bool) → begins_clause c i ≡ b → (if b then read.refuse i else Ok (before, i)) ≡ Ok (all, rest)
          → clauses_from c before all i rest
      go true is e = cc
      go false is e = no_more before all i rest is e
  sound_from each (suc turns) before i all rest e = go (λ f j. sound_from each turns f j all rest) (c.at i) refl e
    where
      turn : ((f : All) (j : List Token) → gathering_turns c reader turns f j ≡ Ok (all, rest)
          → clauses_from c f all j rest)
          → (one : Kind) → c.at i ≡ Some one → (b : Bool) → c.has before one ≡ b
          → (if b then read.refuse i
          else (reader one >>= (λ found. gathering_turns c reader turns (c.with_clause before found))) i)
          ≡ Ok (all, rest)
          → clauses_from c before all i rest
      turn again one begun true is e = cc
      turn again one begun false is e =
          unstep (reader one i) _ e (λ found middle here next.
          let s = each one found i middle begun here in
          in_front before all found i middle rest s.0 (ap (c.has before) s.1 ∙ is)
          (again (c.with_clause before found) middle next))

      go : ((f : All) (j : List Token) → gathering_turns c reader turns f j ≡ Ok (all, rest)
          → clauses_from c f all j rest)
          → (o : Option Kind) → c.at i ≡ o → next_clause_reader c reader (gathering_turns c reader turns) before o
          i ≡ Ok (all, rest) → clauses_from c before all i rest
      go again None is e = no_more before all i rest (ap is_some is) e
      go again (Some one) is e = turn again one is (c.has before one) refl e

  pub gathering_sound : ClausesSound → (before : All) → Sound (clauses_from c before) (gathering_reader c reader before)
  unfolding gathering_reader
  gathering_sound each before all i rest e = sound_from each (length i) before i all rest e

  -- ---- what is spelled is read

  fresh : (b : Bool) (o : Option All) (all : All) → (if b then None else o) ≡ Some all → (b ≡ false) × (o ≡ Some all)
  fresh true o all e = absurd (none_not e)
  fresh false o all e = (refl, e)

  none_of : {A : Type 0} (o : Option A) → is_some o ≡ false → o ≡ None
  none_of None e = refl
  none_of (Some a) e = cc

  kept : (before all : All) (i rest : List Token) → i ≡ rest → Some before ≡ Some all
      → read.pure before i ≡ Ok (all, rest)
  kept before all i rest same e = ap (λ j. Ok (before, j)) same ∙ ap (λ b. Ok (b, rest)) (some_is e)

  module _ (Allowed : Halt → Type 0) (stand : ClausesStand) (fewer : Shrinks c.clause)
      (each : ClausesComplete Allowed) where
    complete_from : (clauses : List Clause) (turns : ℕ) (before all : All) (i rest : List Token)
        → any c.clause (lookahead (begins_clause c)) clauses i rest → gathered_clauses c before clauses ≡ Some all
        → length i ≤ turns
        → Answers Allowed (gathering_turns c reader turns before i) all rest
    unfolding gathering_turns
    complete_from [] zero before all i rest s e enough =
        Reached (rw ((tests_tested (begins_clause c)).refuses i s.1) (kept before all i rest s.0 e))
    complete_from [] (suc turns) before all i rest s e enough =
        Reached (rw (none_of (c.at i) ((tests_tested (begins_clause c)).refuses i s.1)) (kept before all i rest s.0 e))
    complete_from (one ∷ more) zero before all i rest s e enough = let less =
        fewer one i s.0 s.1 in absurd (omega arith)
    complete_from (one ∷ more) (suc turns) before all i rest s e enough =
        let less = fewer one i s.0 s.1 in
        let f = fresh (c.has before (c.kind_of one)) (gathered_clauses c (c.with_clause before one) more) all e in
        rw (stand one i s.0 s.1) (rw f.0
        (step (reader (c.kind_of one) i) _ (each one i s.0 s.1)
        (complete_from more turns (c.with_clause before one) all s.0 rest s.2 f.1 (omega arith))))

    pub gathering_complete : (before : All)
        → Complete Allowed (clauses_from c before) (gathering_reader c reader before)
    unfolding gathering_reader
    gathering_complete before all i rest (clauses, s, e) =
        complete_from clauses (length i) before all i rest s e (omega arith)

  pub gathering_shrinks : Shrinks c.clause → (before all : All) (i rest : List Token) → clauses_from c before all i rest
      → length rest ≤ length i
  gathering_shrinks fewer before all i rest (clauses, s, e) =
      any_shrinks c.clause (lookahead (begins_clause c)) fewer clauses i rest s
