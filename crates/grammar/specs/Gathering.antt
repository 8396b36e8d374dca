-- Clauses in any order, each at most once except for those that may be repeated: their rule, and how they are read. Those of
-- entries, of FDs and of SELECTs are read so.
use Rattle.std.specs.Prelude.{◌≡◌, ℕ, zero, suc, Bool, if◌then◌else◌, List, [], ◌∷◌, length, Option, None, Some, is_some, Ok}
use Rattle.tokens.specs.declared.token.Token.{Token}
use Rattle.grammar.specs.Parts.{Part, any, lookahead}
use Rattle.grammar.specs.Reading.{Parser, ◌>>=◌, refuse}

-- What is gathered.
pub record Clauses (Clause Kind All : Type 0) : Type 1 where
  -- which tokens spell a clause, and which kind it is of
  pub clause : Clause → Part
  pub kind_of : Clause → Kind
  -- the kind of the clause that begins here
  pub at : List Token → Option Kind
  -- whether one of that kind stands already and can't come again
  pub has : All → Kind → Bool
  pub with_clause : All → Clause → All

module _ {Clause Kind All : Type 0} (c : Clauses Clause Kind All) where
  abbrev pub begins_clause : List Token → Bool
  begins_clause i = is_some (c.at i)

  -- All the clauses together, or nothing where one comes that can't come again.
  abbrev pub gathered_clauses : All → List Clause → Option All
  gathered_clauses before [] = Some before
  gathered_clauses before (one ∷ more) = if c.has before (c.kind_of one) then None else gathered_clauses (c.with_clause before one) more

  -- Clauses in any order, up to where no more can begin, after those before.
  abbrev pub clauses_from : All → All → Part
  clauses_from before all = λ from rest. (clauses : List Clause) × any c.clause (lookahead begins_clause) clauses from rest × (gathered_clauses before clauses ≡ Some all)

  -- ---- reading, where this is how a clause of each kind is read

  module _ (reader : Kind → Parser Clause) where
    -- a clause that can't come again is refused where it does
    abbrev pub next_clause_reader : (All → Parser All) → All → Option Kind → Parser All
    next_clause_reader again all None i = Ok (all, i)
    next_clause_reader again all (Some one) i = if c.has all one then refuse i else (reader one >>= (λ found. again (c.with_clause all found))) i

    -- The number bounds the turns, and each turn takes a token, so the count of tokens is enough.
    unfoldable pub gathering_turns : ℕ → All → Parser All
    gathering_turns zero all i = if begins_clause i then refuse i else Ok (all, i)
    gathering_turns (suc turns) all i = next_clause_reader (gathering_turns turns) all (c.at i) i

    unfoldable pub gathering_reader : All → Parser All
    gathering_reader before i = gathering_turns (length i) before i
