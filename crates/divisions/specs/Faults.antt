-- The faults of tokens that make no program.
use Rattle.std.specs.Prelude.{◌≡◌, ◌<◌, ◌⊎◌, ◌-◌, ℕ, List, length, Option, None, Some, Result, Ok, Err, slice_get}
use Rattle.tokens.specs.declared.token.Token.{Token}
use Rattle.lexical.specs.declared.place.Place.{Place}
use Rattle.source_tree.specs.declared.program.Program.{Program}
use Rattle.grammar.specs.declared.fault.Halt.{Halt}
use Rattle.grammar.specs.declared.fault.Halt.TheVariants.{Unexpected, TooDeep}
use Rattle.grammar.specs.Reading.{Outcome}
use Rattle.statements.specs.Spelling.{max_nesting}
use Rattle.data_division.specs.Forms.{first_formless, program_entries}
use Rattle.divisions.specs.Spelling.{SpellsProgram}
use Rattle.divisions.specs.Reading.{program}
use Rattle.divisions.specs.declared.fault.FaultKind.{FaultKind}
use Rattle.divisions.specs.declared.fault.FaultKind.TheVariants.{PictureWithoutForm, UnexpectedToken, NestedTooDeep}
use Rattle.divisions.specs.declared.fault.ParseFault.{ParseFault}
use Rattle.divisions.specs.declared.fault.ParseError.{ParseError}
use Rattle.divisions.specs.declared.fault.ParseError.TheVariants.{Memory, Refused}

abbrev pub number_of : FaultKind → ℕ
number_of PictureWithoutForm = 20
number_of UnexpectedToken = 30
number_of NestedTooDeep = 31

-- the place of a token, or another where there is none
abbrev pub place_or : Place → Option Token → Place
place_or other None = other
place_or other (Some one) = one.place

abbrev pub first_place : Place
first_place = record { line = 1; column = 1 }

-- the token from which on so many are left; where none is left, the last; line 1, column 1 where there is none at all
abbrev pub placed_at : List Token → ℕ → Place
placed_at tokens left = place_or (place_or first_place (slice_get tokens (length tokens - 1))) (slice_get tokens (length tokens - left))

abbrev pub fault_at : List Token → Halt → ParseFault
fault_at tokens (Unexpected left) = record { kind = UnexpectedToken; place = placed_at tokens left }
fault_at tokens (TooDeep left) = record { kind = NestedTooDeep; place = placed_at tokens left }

-- the fault of an error, or none where memory ran out
abbrev pub fault_of : ParseError → Option ParseFault
fault_of Memory = None
fault_of (Refused fault) = Some fault

-- the tree, unless a picture without a form stands at this place
abbrev pub formed_by : Program → Option Place → Result Program ParseFault
formed_by tree None = Ok tree
formed_by tree (Some place) = Err (record { kind = PictureWithoutForm; place = place })

abbrev pub result_of_tree : Program → Result Program ParseFault
result_of_tree tree = formed_by tree (first_formless (program_entries tree))

abbrev pub result_of_reading : List Token → Outcome Program → Result Program ParseFault
result_of_reading tokens (Ok read) = result_of_tree read.0
result_of_reading tokens (Err halt) = Err (fault_at tokens halt)

-- the tree of the tokens, or the fault at the token where reading stops, or at the first picture of the tree without a form
abbrev pub parse_of : List Token → Result Program ParseFault
parse_of tokens = result_of_reading tokens (program max_nesting tokens)

-- The tree nests too deep, or its first picture without a form stands here.
abbrev pub IsParseRefusal : ℕ → Program → ParseFault → Type 0
IsParseRefusal depth tree fault =
    ((fault.kind ≡ NestedTooDeep) × (max_nesting < depth)) ⊎ ((fault.kind ≡ PictureWithoutForm) × (first_formless (program_entries tree) ≡ Some fault.place))

-- What may be answered where a tree of that depth spells the tokens: it, or such a refusal.
abbrev pub IsAnswer : ℕ → Program → Result Program ParseError → Type 0
IsAnswer depth tree (Ok answer) = answer ≡ tree
IsAnswer depth tree (Err Memory) = Unit {0}
IsAnswer depth tree (Err (Refused fault)) = IsParseRefusal depth tree fault

-- Where a picture without a form is told, a tree spells the tokens, and it is the first such picture of the tree.
abbrev pub FormlessInTree : List Token → Result Program ParseError → Type 0
FormlessInTree tokens result = (fault : ParseFault) → result ≡ Err (Refused fault) → fault.kind ≡ PictureWithoutForm
    → (tree : Program) × SpellsProgram max_nesting tree tokens × (first_formless (program_entries tree) ≡ Some fault.place)
