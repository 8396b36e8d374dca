-- The clauses of a SELECT (COBOL-85, Sequential, Relative and Indexed I-O, "File control entry"): which tokens spell them.
use Rattle.std.specs.Prelude.{◌||◌, if◌then◌else◌, Bool, false, List, [], ◌∷◌, Option, None, Some}
use Rattle.tokens.specs.declared.reserved.Reserved.{Reserved}
use Rattle.tokens.specs.declared.reserved.Reserved.TheVariants as w
use Rattle.tokens.specs.declared.token.Kind.{Kind}
use Rattle.tokens.specs.declared.token.Kind.TheVariants as k
use Rattle.tokens.specs.declared.token.Token.{Token}
use Rattle.records.specs.declared.select.Access.{Access}
use Rattle.records.specs.declared.select.Access.TheVariants as access_as
use Rattle.source_tree.specs.declared.reference.Reference.{Reference}
use Rattle.source_tree.specs.declared.select.OrganizationClause.{OrganizationClause}
use Rattle.source_tree.specs.declared.select.OrganizationClause.TheVariants as organization_as
use Rattle.source_tree.specs.declared.select.AlternateKeyClause.{AlternateKeyClause}
use Rattle.grammar.specs.Parts.{Part, ◌then◌, ◌but◌, optional, optional_part, lookahead, word, token_with, begins_name}
use Rattle.grammar.specs.Reading.{begins_word, after_word}
use Rattle.expressions.specs.References.{reference}
use Rattle.grammar.specs.OptionalWords.{led_by}
use Rattle.file_control.specs.declared.clause.ClauseKind.{ClauseKind}
use Rattle.file_control.specs.declared.clause.ClauseKind.TheVariants as kind
use Rattle.file_control.specs.declared.clause.Clause.{Clause}
use Rattle.file_control.specs.declared.clause.Clause.TheVariants as clause_as

-- ---- words

-- the organization that a word stands for
abbrev pub organization_of : Reserved → Option OrganizationClause
organization_of w.Sequential = Some organization_as.Sequential
organization_of w.Relative = Some organization_as.Relative
organization_of w.Indexed = Some organization_as.Indexed
organization_of _ = None

abbrev pub access_of : Reserved → Option Access
access_of w.Sequential = Some access_as.Sequential
access_of w.Random = Some access_as.Random
access_of w.Dynamic = Some access_as.Dynamic
access_of _ = None

abbrev pub organization_by : Kind → Option OrganizationClause
organization_by (k.Reserved one) = organization_of one
organization_by _ = None

abbrev pub organization_in : Token → Option OrganizationClause
organization_in one = organization_by one.kind

abbrev pub access_by : Kind → Option Access
access_by (k.Reserved one) = access_of one
access_by _ = None

abbrev pub access_in : Token → Option Access
access_in one = access_by one.kind

-- ---- RELATIVE before KEY, IS or a user word begins the key clause, and elsewhere it is an organization

abbrev pub begins_key : List Token → Bool
begins_key i = begins_word w.Key i || (begins_word w.Is i || begins_name i)

-- a key follows a word, by the tokens after the word
abbrev pub has_key_after : Option (List Token) → Bool
has_key_after None = false
has_key_after (Some after) = begins_key after

abbrev pub begins_relative_key : List Token → Bool
begins_relative_key i = has_key_after (after_word w.Relative i)

-- ---- the rules

-- [ORGANIZATION [IS]] {SEQUENTIAL|RELATIVE|INDEXED}
abbrev pub organization : OrganizationClause → Part
organization one = (led_by w.Organization then token_with organization_in one) but lookahead begins_relative_key

-- ACCESS [MODE] [IS] {SEQUENTIAL|RANDOM|DYNAMIC}
abbrev pub access : Access → Part
access one = word w.Access then optional (word w.Mode) then optional (word w.Is) then token_with access_in one

-- [KEY] [IS] d
abbrev pub key : Reference → Part
key one = optional (word w.Key) then optional (word w.Is) then reference one

-- [WITH] DUPLICATES
abbrev pub with_duplicates : Part
with_duplicates = optional (word w.With) then word w.Duplicates

-- ALTERNATE [RECORD] [KEY] [IS] d [[WITH] DUPLICATES]
abbrev pub alternate_key : AlternateKeyClause → Part
alternate_key one = word w.Alternate then optional (word w.Record) then key one.key then optional_part with_duplicates one.duplicates

-- [FILE] STATUS [IS] d
abbrev pub status : Reference → Part
status one = optional (word w.File) then word w.Status then optional (word w.Is) then reference one

abbrev pub clause : Clause → Part
clause (clause_as.Organization one) = organization one
clause (clause_as.Access one) = access one
clause (clause_as.RelativeKey one) = word w.Relative then key one
clause (clause_as.RecordKey one) = word w.Record then key one
clause (clause_as.AlternateKey one) = alternate_key one
clause (clause_as.Status one) = status one

abbrev pub kind_of : Clause → ClauseKind
kind_of (clause_as.Organization one) = kind.Organization
kind_of (clause_as.Access one) = kind.Access
kind_of (clause_as.RelativeKey one) = kind.RelativeKey
kind_of (clause_as.RecordKey one) = kind.RecordKey
kind_of (clause_as.AlternateKey one) = kind.AlternateKey
kind_of (clause_as.Status one) = kind.Status

-- ---- how a clause begins

-- the clause that a word begins, where RELATIVE is an organization
abbrev pub clause_of : Reserved → Option ClauseKind
clause_of w.Organization = Some kind.Organization
clause_of w.Sequential = Some kind.Organization
clause_of w.Relative = Some kind.Organization
clause_of w.Indexed = Some kind.Organization
clause_of w.Access = Some kind.Access
clause_of w.Record = Some kind.RecordKey
clause_of w.Alternate = Some kind.AlternateKey
clause_of w.File = Some kind.Status
clause_of w.Status = Some kind.Status
clause_of _ = None

abbrev pub clause_in : Kind → Option ClauseKind
clause_in (k.Reserved one) = clause_of one
clause_in _ = None

abbrev pub clause_by_word : List Token → Option ClauseKind
clause_by_word [] = None
clause_by_word (first ∷ more) = clause_in first.kind

-- the clause that begins with the first token
abbrev pub clause_at : List Token → Option ClauseKind
clause_at i = if begins_relative_key i then Some kind.RelativeKey else clause_by_word i
