-- The advice that the explanation of a number gives.
use Rattle.std.proofs.Common.{◌≡◌, ℕ, ◌<◌, List, [], Option, None, Some, Result, Ok, Err, IfOk, Bor, inl, inr}
use Rattle.std.proofs.Common.{ap, subst, sym, arith}
use Rattle.std.specs.Prelude.{decimal, option_map, unwrap_or}
use Rattle.std.specs.declared.alloc.AllocError.{AllocError}
use Rattle.explanations.specs.Books.{IsPartUnder}
use Rattle.explanations.specs.declared.book.Book.TheVariants.{Numbers}
use Rattle.source_advice.specs.declared.advice.Advice.{Advice}
use Rattle.source_advice.specs.Advice.{AreLines, IsEnded, IsExplained, IsAboutNumber, IsAdviceOf}

-- what is taken where there may be nothing
pub taken : (found : Option (Bor (List ℕ))) (other part : Bor (List ℕ)) → part ≡ unwrap_or found other
    → part.now ≡ unwrap_or (option_map (λ (one : Bor (List ℕ)). one.now) found) other.now
taken None other part is = ap (λ (one : Bor (List ℕ)). one.now) is
taken (Some text) other part is = ap (λ (one : Bor (List ℕ)). one.now) is

abbrev pub IsAbout : ℕ → List ℕ → Advice → Type 0
IsAbout number word advice = IsAboutNumber number word advice.message.items advice.cure.items

abbrev pub IsSaidOf : ℕ → Advice → Type 0
IsSaidOf number advice = IsAdviceOf number advice.message.items advice.cure.items

-- an advice by the explanation of a number is about the number
pub explains : (number : ℕ) (word : List ℕ) (text : Option (List ℕ)) (result : Result Advice AllocError)
    → IsPartUnder Numbers (decimal number) text
    → IfOk result (λ advice. IsExplained text word advice.message.items advice.cure.items)
    → IfOk result (IsAbout number word)
explains number word text (Ok advice) under holds = (text, under, holds)
explains number word text (Err error) under holds = tt

-- and is the advice of the number
pub says : (number : ℕ) (word : List ℕ) (result : Result Advice AllocError)
    → IfOk result (IsAbout number word) → IfOk result (IsSaidOf number)
says number word (Ok advice) holds = λ least grammar name. (word, holds)
says number word (Err error) holds = tt

-- nothing is said here of a number below 20
pub below : (number : ℕ) (result : Result Advice AllocError) → number < 20 → IfOk result (IsSaidOf number)
below number (Ok advice) less = λ least. absurd (omega (arith, less, least))
below number (Err error) less = tt

-- an ended text is lines
pub ended_lines : (text ended : List ℕ) → IsEnded text ended → AreLines ended
ended_lines text ended (inl (lines, is)) = subst AreLines (sym is) lines
ended_lines text ended (inr (unended, is)) = inr (text, is)

-- and lines are ended
pub ended_same : (text ended : List ℕ) → AreLines text → IsEnded text ended → ended ≡ text
ended_same text ended lines (inl (held, is)) = is
ended_same text ended lines (inr (unended, is)) = absurd (unended lines)

-- what to do by an explanation is lines
pub explained_lines : (text : Option (List ℕ)) (word message cure : List ℕ) → IsExplained text word message cure
    → AreLines cure
explained_lines None word message cure (said, is) = inl is
explained_lines (Some text) word message cure (said, first, is, (found, between, ended)) =
    ended_lines (unwrap_or found []) cure ended

-- ending its lines leaves the advice of a number
ended_about : (number : ℕ) (old new : Advice) → new.message ≡ old.message
    → IsEnded old.cure.items new.cure.items
    → (word : List ℕ) × IsAbout number word old → (word : List ℕ) × IsAbout number word new
ended_about number old new same ended (word, (text, under, holds)) =
    let lines : AreLines old.cure.items = explained_lines text word old.message.items old.cure.items holds in
    let cure : new.cure.items ≡ old.cure.items = ended_same old.cure.items new.cure.items lines ended in
    let message : new.message.items ≡ old.message.items = ap (λ m. m.items) same in
    let P : List ℕ → Type 0 = λ c. IsExplained text word new.message.items c in
    let Q : List ℕ → Type 0 = λ m. IsExplained text word m old.cure.items in
    (word, (text, under, subst P (sym cure) (subst Q (sym message) holds)))

pub ended_advice : (number : ℕ) (old new : Advice) → new.message ≡ old.message
    → IsEnded old.cure.items new.cure.items → IsSaidOf number old → IsSaidOf number new
ended_advice number old new same ended said = λ least grammar name.
    ended_about number old new same ended (said least grammar name)
