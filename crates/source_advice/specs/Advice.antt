-- What is said of a place of a source text.
use Rattle.std.specs.Prelude.{◌≡◌, ◌≢◌, ◌≤◌, ◌⊎◌, ℕ, List, [], ◌∷◌, ◌++◌, Option, None, Some, codes, decimal, take, unwrap_or}
use Rattle.explanations.specs.Books.{IsPartUnder}
use Rattle.explanations.specs.Parts.{IsBetween}
use Rattle.explanations.specs.declared.book.Book.TheVariants.{Numbers}
use Rattle.source_advice.specs.declared.advice.Advice.{Advice}

-- nothing, or a text whose last byte is a line feed
abbrev pub AreLines : List ℕ → Type 0
AreLines text = (text ≡ []) ⊎ ((front : List ℕ) × (text ≡ front ++ 10 ∷ []))

-- What to do is some lines, each with its end.
abbrev pub HasLines : Advice → Type 0
HasLines advice = AreLines advice.cure.items

-- a text of lines: the text itself, or with a line feed where its last line has none
abbrev pub IsEnded : List ℕ → List ℕ → Type 0
IsEnded text ended = (AreLines text × (ended ≡ text)) ⊎ ((AreLines text → ⊥) × (ended ≡ text ++ 10 ∷ []))

-- how much of a word is shown
abbrev pub most_shown : ℕ
most_shown = 40

-- What is wrong, with the word that it is about; nothing is named if the word is empty.
abbrev pub about : List ℕ → List ℕ → List ℕ
about [] message = message
about (first ∷ more) message = codes "`" ++ take most_shown (first ∷ more) ++ codes "`: " ++ message

-- a message where no other is known
abbrev pub unknown_message : List ℕ
unknown_message = codes "the source has a fault"

-- the message of an explanation: what its first line has after the number
abbrev pub IsMessageOf : List ℕ → List ℕ → Type 0
IsMessageOf text message =
    (found : Option (List ℕ)) × IsBetween text (codes "): ") (codes "\n") found
    × (message ≡ unwrap_or found unknown_message)

-- what to do by an explanation: the lines up to the next blank one
abbrev pub IsCureOf : List ℕ → List ℕ → Type 0
IsCureOf text cure =
    (found : Option (List ℕ)) × IsBetween text (codes "What to do:\n") (codes "\n\n") found
    × IsEnded (unwrap_or found []) cure

abbrev pub IsExplained : Option (List ℕ) → List ℕ → List ℕ → List ℕ → Type 0
IsExplained None word message cure = (message ≡ about word unknown_message) × (cure ≡ [])
IsExplained (Some text) word message cure =
    (said : List ℕ) × IsMessageOf text said × (message ≡ about word said) × IsCureOf text cure

-- The advice that the explanation of a number gives, about a word.
abbrev pub IsAboutNumber : ℕ → List ℕ → List ℕ → List ℕ → Type 0
IsAboutNumber number word message cure =
    (text : Option (List ℕ)) × IsPartUnder Numbers (decimal number) text × IsExplained text word message cure

-- The numbers of faults that are found in a tree, except for 40. Their advice is the explanation, about some word.
abbrev pub IsAdviceOf : ℕ → List ℕ → List ℕ → Type 0
IsAdviceOf number message cure =
    20 ≤ number → number ≢ 30 → number ≢ 40 → (word : List ℕ) × IsAboutNumber number word message cure
