-- The parts of the books: each is after a line `@ HEAD`, up to the next such line.
use Rattle.std.specs.Prelude.{◌++◌, ℕ, List, Option, codes}
use Rattle.explanations.specs.declared.book.Book.{Book}
use Rattle.explanations.specs.declared.book.Book.TheVariants.{Numbers, Verbs, Words, Signs, Causes, Forms}
use Rattle.explanations.specs.declared.numbers.TheConstants.{NUMBERS}
use Rattle.explanations.specs.declared.words.TheConstants.{VERBS, WORDS, SIGNS}
use Rattle.explanations.specs.declared.causes.TheConstants.{CAUSES}
use Rattle.explanations.specs.declared.forms.TheConstants.{FORMS, RESERVED}
use Rattle.explanations.specs.Parts.{IsBetween}

-- the text of a book, as the program has it
unfoldable pub text_of : Book → List ℕ
text_of Numbers = NUMBERS.now
text_of Verbs = VERBS.now
text_of Words = WORDS.now
text_of Signs = SIGNS.now
text_of Causes = CAUSES.now
text_of Forms = FORMS.now

-- the reserved words, with a space or a line feed around each
unfoldable pub word_list : List ℕ
word_list = RESERVED.now

-- what every head begins with
abbrev pub mark : List ℕ
mark = codes "\n@ "

abbrev pub head_line : List ℕ → List ℕ
head_line head = mark ++ head ++ codes "\n"

abbrev pub IsPartUnder : Book → List ℕ → Option (List ℕ) → Type 0
IsPartUnder book head part = IsBetween (text_of book) (head_line head) mark part
