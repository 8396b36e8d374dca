-- What the words of a command mean: budgets, dates and sizes of volumes, and which word is what of a request.
use Rattle.std.specs.Prelude.{◌≡◌, Bool, true, false, ◌<◌, ◌≤◌, ◌^◌, ℕ, List, [], ◌∷◌, length, Option, Some, None, SomeIff, All, ⊤, codes}
use Rattle.std.specs.Char.{is_ascii_digit}
use Rattle.std.specs.List.{list_all}
use Rattle.std.specs.Str.Parse.{IsNumeral, digits_value}
use Rattle.clap.specs.Matches.{found_of, first_value, one_text}
use Rattle.clap.specs.declared.parser.matches.ArgMatches.{ArgMatches}
use Rattle.command_words.specs.declared.words.Request.{Request}
use Rattle.command_words.specs.declared.words.Request.TheVariants.{Format, Copy, Load, Migrate, Stat, Compile, Run, List as ListFiles, Dump, Explain, Check, Layout, Show, Wrong}

-- A number of 64 bits: digits alone.
abbrev pub IsNumber : List ℕ → Type 0
IsNumber word = IsNumeral 10 word × (digits_value 10 word < 2 ^ 64)

-- The number of sectors of a volume.
abbrev pub IsSectorCount : List ℕ → Type 0
IsSectorCount word = IsNumeral 10 word × (1024 ≤ digits_value 10 word) × (digits_value 10 word ≤ 921600)

-- The byte of a decimal digit.
abbrev pub IsDigit : ℕ → Type 0
IsDigit byte = (48 ≤ byte) × (byte ≤ 57)

-- A date: six digits, whatever day.
abbrev pub IsDate : List ℕ → Type 0
IsDate word = (length word ≡ 6) × (list_all is_ascii_digit word ≡ true)

-- The budget that a word gives, or the default where there is none.
abbrev pub ReadsBudget : Option (List ℕ) → Option ℕ → Type 0
ReadsBudget None budget = budget ≡ Some 1000000000
ReadsBudget (Some word) budget = SomeIff budget (IsNumber word) (digits_value 10 word)

-- The date that a word gives, or the default where there is none.
abbrev pub ReadsDate : Option (List ℕ) → Option (List ℕ) → Type 0
ReadsDate None day = day ≡ Some (48 ∷ 48 ∷ 48 ∷ 48 ∷ 48 ∷ 48 ∷ [])
ReadsDate (Some word) day = SomeIff day (IsDate word) word

-- Whether a flag is there, by the text that `clap` gives it.
abbrev pub ReadsFlag : Option (List ℕ) → Bool → Type 0
ReadsFlag None flag = flag ≡ false
ReadsFlag (Some text) flag = (text ≡ codes "true" → flag ≡ true) × (text ≡ codes "false" → flag ≡ false)

-- The word that was found for an argument.
abbrev pub option_of : ArgMatches → List ℕ → Option (List ℕ)
option_of found name = first_value (found_of found) name

-- The word of a required argument.
abbrev pub word_or_none : Option (List ℕ) → List ℕ
word_or_none None = []
word_or_none (Some word) = word

abbrev pub word_of : ArgMatches → List ℕ → List ℕ
word_of found name = word_or_none (option_of found name)

-- The words found ask for this request of `format`, `copy`, `load`, `migrate`, `stat`, `compile`, `run`, `list`, `dump`, `explain`,
-- `check`, `layout`.
abbrev pub AsksToFormat : ArgMatches → Request → Type 0
AsksToFormat found (Format volume sectors) =
    let size = word_of found (codes "SECTORS") in
    (volume.now ≡ word_of found (codes "VOLUME")) × SomeIff (Some sectors) (IsSectorCount size) (digits_value 10 size)
AsksToFormat found other = ⊥

abbrev pub AsksToCopy : ArgMatches → Request → Type 0
AsksToCopy found (Copy old new sectors) =
    let size = word_of found (codes "SECTORS") in
    (old.now ≡ word_of found (codes "OLD")) × (new.now ≡ word_of found (codes "NEW"))
    × SomeIff (Some sectors) (IsSectorCount size) (digits_value 10 size)
AsksToCopy found other = ⊥

abbrev pub AsksToLoad : ArgMatches → Request → Type 0
AsksToLoad found (Load volume name) =
    (volume.now ≡ word_of found (codes "VOLUME")) × (name.now ≡ word_of found (codes "NAME"))
AsksToLoad found other = ⊥

abbrev pub AsksToMigrate : ArgMatches → Request → Type 0
AsksToMigrate found (Migrate volume) = volume.now ≡ word_of found (codes "VOLUME")
AsksToMigrate found other = ⊥

abbrev pub AsksToStat : ArgMatches → Request → Type 0
AsksToStat found (Stat volume) = volume.now ≡ word_of found (codes "VOLUME")
AsksToStat found other = ⊥

abbrev pub AsksToCompile : ArgMatches → Request → Type 0
AsksToCompile found (Compile source image) =
    (source.now ≡ word_of found (codes "SOURCE")) × (image.now ≡ word_of found (codes "IMAGE"))
AsksToCompile found other = ⊥

abbrev pub AsksToRun : ArgMatches → Request → Type 0
AsksToRun found (Run run) =
    (run.image.now ≡ word_of found (codes "IMAGE")) × (run.volume.now ≡ word_of found (codes "VOLUME"))
    × ReadsBudget (option_of found (codes "budget")) (Some run.budget)
    × ReadsDate (option_of found (codes "date")) (Some run.day)
    × ReadsFlag (one_text (found_of found) (codes "today")) run.is_today
    × ReadsFlag (one_text (found_of found) (codes "trace-files")) run.is_traced
AsksToRun found other = ⊥

abbrev pub AsksToList : ArgMatches → Request → Type 0
AsksToList found (ListFiles volume) = volume.now ≡ word_of found (codes "VOLUME")
AsksToList found other = ⊥

abbrev pub AsksToDump : ArgMatches → Request → Type 0
AsksToDump found (Dump volume name) =
    (volume.now ≡ word_of found (codes "VOLUME")) × (name.now ≡ word_of found (codes "NAME"))
AsksToDump found other = ⊥

abbrev pub AsksToExplain : ArgMatches → Request → Type 0
AsksToExplain found (Explain number) =
    let word = word_of found (codes "N") in SomeIff (Some number) (IsNumber word) (digits_value 10 word)
AsksToExplain found other = ⊥

abbrev pub AsksToCheck : ArgMatches → Request → Type 0
AsksToCheck found (Check source) = source.now ≡ word_of found (codes "SOURCE")
AsksToCheck found other = ⊥

abbrev pub AsksToLayout : ArgMatches → Request → Type 0
AsksToLayout found (Layout source) = source.now ≡ word_of found (codes "SOURCE")
AsksToLayout found other = ⊥

-- A request that can be carried out: a date of digits, a size that a volume can have.
abbrev pub IsWithinBounds : Request → Type 0
IsWithinBounds (Format volume sectors) = (1024 ≤ sectors) × (sectors ≤ 921600)
IsWithinBounds (Copy old new sectors) = (1024 ≤ sectors) × (sectors ≤ 921600)
IsWithinBounds (Run run) = All IsDigit run.day
IsWithinBounds other = ⊤
