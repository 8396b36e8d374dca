-- Short ways to write files, file statements and programs with files down.
use Rattle.std.proofs.Common.{ℕ, suc, Bool, true, false, List, [], ◌∷◌, None, Some}
use Rattle.std.specs.Prelude.{codes, map, Option}
use Prim.Native.String.{String}
use Rattle.station.specs.State.{Event, Shown, Noted}
use Rattle.records.specs.declared.select.Access.{Access}
use Rattle.records.specs.declared.select.Access.TheVariants as access
use Rattle.records.specs.declared.verb.OpenMode.{OpenMode}
use Rattle.records.specs.Files.{Files}
use Rattle.source_tree.specs.declared.condition.Relation.{Relation}
use Rattle.source_tree.specs.declared.entry.Entry.{Entry}
use Rattle.source_tree.specs.declared.file_statement.FileStatement.TheVariants as filing
use Rattle.source_tree.specs.declared.phrases.FilePhrases.{FilePhrases}
use Rattle.source_tree.specs.declared.phrases.FilePhrases.TheVariants.{Absent, AtEnd, InvalidKey}
use Rattle.source_tree.specs.declared.select.OrganizationClause.TheVariants as organization
use Rattle.source_tree.specs.declared.select.AlternateKeyClause.{AlternateKeyClause}
use Rattle.source_tree.specs.declared.select.Select.{Select}
use Rattle.source_tree.specs.declared.select.FileDescription.{FileDescription}
use Rattle.source_tree.specs.declared.statement.Statement.{Statement, roll-Statement}
use Rattle.source_tree.specs.declared.statement.Verb.{Verb}
use Rattle.source_tree.specs.declared.statement.Verb.TheVariants as verb
use Rattle.source_tree.specs.declared.data_statement.DataStatement.TheVariants.{Move}
use Rattle.source_tree.specs.declared.text_statement.TextStatement.TheVariants.{Display}
use Rattle.source_tree.specs.declared.program.Program.{Program}
use Rattle.source_tree.specs.Given.{RunInput}
use Rattle.source_tree.proofs.Samples.{at, here, name, plain, text, the_item, the_literal}

-- ---- files: a sequential one that is called as it is on the volume, and others

abbrev pub select : String → Select
select called = record {
  optional = false;
  name = name (codes called);
  assigned = record { characters = codes called; place = here };
  organization = organization.Sequential;
  access = access.Sequential;
  relative_key = None;
  record_key = None;
  alternate_keys = [];
  status = None;
}

abbrev pub optional : Select → Select
optional one = record one { optional = true }

abbrev pub with_status : String → Select → Select
with_status item one = record one { status = Some (plain (codes item)) }

abbrev pub relative : Access → Option String → Select → Select
relative access None one = record one { organization = organization.Relative; access = access }
relative access (Some key) one =
    record one { organization = organization.Relative; access = access; relative_key = Some (plain (codes key)) }

abbrev pub indexed : Access → String → List AlternateKeyClause → Select → Select
indexed access key alternates one = record one {
  organization = organization.Indexed;
  access = access;
  record_key = Some (plain (codes key));
  alternate_keys = alternates;
}

abbrev pub alternate : String → Bool → AlternateKeyClause
alternate key duplicates = record { key = plain (codes key); duplicates = duplicates }

abbrev pub described : String → List Entry → FileDescription
described called entries = record { name = name (codes called); entries = entries }

-- ---- statements

abbrev pub opening : OpenMode → String → Verb Statement
opening mode file = verb.FileStatement (filing.Open (record { mode = mode; file = name (codes file) } ∷ []))

abbrev pub close : String → Verb Statement
close file = verb.FileStatement (filing.Close (name (codes file) ∷ []))

abbrev pub reading : Bool → Option String → FilePhrases Statement → String → Verb Statement
reading next None phrases file = verb.FileStatement (filing.Read (name (codes file)) next None None phrases)
reading next (Some key) phrases file =
    verb.FileStatement (filing.Read (name (codes file)) next None (Some (plain (codes key))) phrases)

abbrev pub read : String → Verb Statement
read file = reading false None Absent file

abbrev pub read_next : String → Verb Statement
read_next file = reading true None Absent file

abbrev pub read_by : String → String → Verb Statement
read_by key file = reading false (Some key) Absent file

abbrev pub read_into : String → FilePhrases Statement → String → Verb Statement
read_into item phrases file =
    verb.FileStatement (filing.Read (name (codes file)) false (Some (plain (codes item))) None phrases)

abbrev pub writing : FilePhrases Statement → String → Verb Statement
writing phrases called = verb.FileStatement (filing.Write (plain (codes called)) None phrases)

abbrev pub write : String → Verb Statement
write called = writing Absent called

abbrev pub write_from : String → String → Verb Statement
write_from from called = verb.FileStatement (filing.Write (plain (codes called)) (Some (plain (codes from))) Absent)

abbrev pub rewriting : FilePhrases Statement → String → Verb Statement
rewriting phrases called = verb.FileStatement (filing.Rewrite (plain (codes called)) None phrases)

abbrev pub rewrite : String → Verb Statement
rewrite called = rewriting Absent called

abbrev pub delete : String → Verb Statement
delete file = verb.FileStatement (filing.Delete (name (codes file)) Absent)

abbrev pub start : String → Verb Statement
start file = verb.FileStatement (filing.Start (name (codes file)) None Absent)

-- with NOT or without
abbrev pub starting : Bool → Relation → String → String → Verb Statement
starting negated relation key file =
    verb.FileStatement (filing.Start (name (codes file))
    (Some (record { operator = record { negated = negated; relation = relation }; key = plain (codes key) })) Absent)

abbrev pub start_at : Relation → String → String → Verb Statement
start_at relation key file = starting false relation key file

-- MOVE of a text, and DISPLAY of an item WITH NO ADVANCING
abbrev pub put : String → String → Verb Statement
put bytes item = verb.DataStatement (Move (the_literal (text (codes bytes))) (plain (codes item) ∷ []))

abbrev pub show : String → Verb Statement
show item = verb.TextStatement (Display (the_item (codes item) ∷ []) false)

-- phrases
abbrev pub at_end : List Statement → List Statement → FilePhrases Statement
at_end arose did_not = AtEnd (record { arose = Some arose; did_not = Some did_not })

abbrev pub invalid_key : List Statement → List Statement → FilePhrases Statement
invalid_key arose did_not = InvalidKey (record { arose = Some arose; did_not = Some did_not })

-- ---- programs

-- each statement at a line of its own
abbrev pub lines_from : ℕ → List (Verb Statement) → List Statement
lines_from line [] = []
lines_from line (one ∷ more) = roll-Statement (record { place = at line 12; verb = one }) ∷ lines_from (suc line) more

abbrev pub program : List Select → List FileDescription → List Entry → List Statement → Program
program selects files storage statements = record {
  name = name (codes "P");
  selects = selects;
  files = files;
  storage = storage;
  sections = record {
    name = None;
    paragraphs = record { name = None; sentences = record { statements = statements } ∷ [] } ∷ [];
  } ∷ [];
}

-- enough budget, over these files
abbrev pub over : Files → RunInput
over files = record { budget = 99; day = codes "260730"; lines = []; files = files }

-- the statuses that were received, and the bytes that were shown
abbrev pub statuses : List Event → List (List ℕ)
statuses [] = []
statuses (Shown byte ∷ more) = statuses more
statuses (Noted note ∷ more) = note.status ∷ statuses more

abbrev pub shown : List Event → List ℕ
shown [] = []
shown (Shown byte ∷ more) = byte ∷ shown more
shown (Noted note ∷ more) = shown more

abbrev pub all_codes : List String → List (List ℕ)
all_codes texts = map (λ text. codes text) texts
