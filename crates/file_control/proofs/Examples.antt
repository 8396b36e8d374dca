-- Tokens of SELECTs, and what reading them gives.
use Rattle.std.proofs.Common.{◌≡◌, ℕ, true, false, List, [], ◌∷◌, None, Some, refl}
use Rattle.std.specs.Prelude.{Ok, Err}
use Rattle.tokens.specs.declared.reserved.Reserved.{Reserved}
use Rattle.tokens.specs.declared.reserved.Reserved.TheVariants as w
use Rattle.tokens.specs.declared.token.Kind.{Kind}
use Rattle.tokens.specs.declared.token.Kind.TheVariants as k
use Rattle.tokens.specs.declared.token.Token.{Token}
use Rattle.tokens.specs.Reserved.{same_word}
use Rattle.lexical.specs.declared.place.Place.{Place}
use Rattle.records.specs.declared.select.Access.TheVariants as access
use Rattle.source_tree.specs.declared.name.Name.{Name}
use Rattle.source_tree.specs.declared.reference.Reference.{Reference}
use Rattle.source_tree.specs.declared.select.OrganizationClause.TheVariants as organization
use Rattle.source_tree.specs.declared.select.Select.{Select}
use Rattle.grammar.specs.declared.fault.Halt.TheVariants.{Unexpected}
use Rattle.grammar.specs.Reading as read
use Rattle.expressions.specs.Subscripts as subscripts
use Rattle.expressions.specs.References as references
use Rattle.grammar.specs.OptionalWords as optional
use Rattle.grammar.specs.Gathering as gathering
use Rattle.file_control.specs.ClauseReading as c
use Rattle.file_control.specs.Selects as s

-- a token at a column of line 1; where its characters stand in their list is of no account here
abbrev in_column : ℕ → Place
in_column column = record { line = 1; column = column }

abbrev at : ℕ → Kind → Token
at column kind = record { kind = kind; span = record { start = 0; end = 0 }; place = in_column column }

abbrev word : ℕ → Reserved → Token
word column one = at column (k.Reserved one)

abbrev letter : ℕ → ℕ → Token
letter column one = at column (k.Word (one ∷ []))

abbrev period : ℕ → Token
period column = at column k.Period

abbrev name_at : ℕ → ℕ → Name
name_at column one = record { characters = one ∷ []; place = in_column column }

abbrev item_at : ℕ → ℕ → Reference
item_at column one =
    record { item = record { name = name_at column one; qualifiers = [] }; subscripts = []; part = None }

-- SELECT F ASSIGN TO X
abbrev head : List Token → List Token
head more = word 8 w.Select ∷ letter 15 70 ∷ word 17 w.Assign ∷ word 24 w.To ∷ letter 27 88 ∷ more

-- SELECT F ASSIGN TO X.
abbrev bare : Select
bare = record {
  optional = false;
  name = name_at 15 70;
  assigned = record { characters = 88 ∷ []; place = in_column 27 };
  organization = organization.Sequential;
  access = access.Sequential;
  relative_key = None;
  record_key = None;
  alternate_keys = [];
  status = None;
}

-- every step of reading, so that a SELECT is computed
unfoldable computing : Unit {0}
unfolding
    same_word read.after_word read.past_word read.expect read.skip read.presence_reader read.period read.heading_reader
    read.one_token read.name
    read.several_from read.several read.any
    subscripts.qualified_reader references.after_name_reader references.reference_reader optional.skip_led
    gathering.gathering_turns gathering.gathering_reader
    c.organization_reader c.access_reader c.key_reader c.relative_key_reader c.record_key_reader c.after_with_duplicates
    c.alternate_key_reader
    c.status_reader c.clause_reader
    s.assigned_reader s.select_reader s.file_control_reader s.input_output_reader
computing = tt

without_clauses : s.select_reader (head (period 28 ∷ [])) ≡ Ok (bare, [])
unfolding computing
without_clauses = refl

-- SELECT F ASSIGN TO X RELATIVE KEY K RELATIVE ACCESS RANDOM.: the first RELATIVE begins the key clause, the second is
-- the organization
relative_twice :
    s.select_reader (head (word 29 w.Relative ∷ word 38 w.Key ∷ letter 42 75 ∷ word 44 w.Relative ∷ word 53 w.Access
    ∷ word 60 w.Random ∷ period 66 ∷ []))
    ≡ Ok (
      record bare { organization = organization.Relative; access = access.Random; relative_key = Some (item_at 42 75) },
      [],
    )
unfolding computing
relative_twice = refl

-- SELECT F ASSIGN TO X ALTERNATE RECORD A WITH DUPLICATES STATUS S ALTERNATE B INDEXED.
alternate_keys_in_order :
    s.select_reader (head (word 29 w.Alternate ∷ word 39 w.Record ∷ letter 46 65 ∷ word 48 w.With ∷ word 53 w.Duplicates
    ∷ word 64 w.Status ∷ letter 71 83
    ∷ word 8 w.Alternate ∷ letter 18 66 ∷ word 20 w.Indexed ∷ period 27 ∷ []))
    ≡ Ok (
      record bare {
        organization = organization.Indexed;
        alternate_keys =
            record { key = item_at 46 65; duplicates = true } ∷ record { key = item_at 18 66; duplicates = false } ∷ [];
        status = Some (item_at 71 83);
      },
      [],
    )
unfolding computing
alternate_keys_in_order = refl

-- SELECT F ASSIGN TO X INDEXED RELATIVE.: refused at the second organization, two tokens before the end
two_organizations : s.select_reader (head (word 29 w.Indexed ∷ word 37 w.Relative ∷ period 45 ∷ []))
    ≡ Err (Unexpected 2)
unfolding computing
two_organizations = refl

-- INPUT-OUTPUT SECTION. FILE-CONTROL. and a SELECT
in_its_section :
    s.input_output_reader (word 8 w.InputOutput ∷ word 21 w.Section ∷ period 28 ∷ word 8 w.FileControl ∷ period 20
    ∷ head (period 28 ∷ word 8 w.Data ∷ []))
    ≡ Ok (bare ∷ [], word 8 w.Data ∷ [])
unfolding computing
in_its_section = refl

left_out : s.input_output_reader (word 8 w.Data ∷ []) ≡ Ok ([], word 8 w.Data ∷ [])
unfolding computing
left_out = refl
