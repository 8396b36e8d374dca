-- What is left out where its word does not stand: what is read is spelled, and what is spelled is read.
use Rattle.std.proofs.Common.{◌≡◌, ◌<◌, ◌≤◌, Bool, true, false, List, [], ◌∷◌, length, Ok, inl, inr, refl, sym, ap, ◌∙◌}
use Rattle.std.proofs.Common.{arith}
use Rattle.std.specs.Prelude.{if◌then◌else◌}
use Rattle.tokens.specs.declared.reserved.Reserved.{Reserved}
use Rattle.tokens.specs.declared.token.Token.{Token}
use Rattle.grammar.specs.declared.fault.Halt.{Halt}
use Rattle.grammar.specs.Parts.{Part, ◌then◌, heading}
use Rattle.grammar.specs.Reading.{Parser, begins_word}
use Rattle.grammar.proofs.Outcomes.{Reached, value, after}
use Rattle.grammar.proofs.Looking.{word_begins}
use Rattle.grammar.proofs.Lists.{Sound, Complete}
use Rattle.grammar.specs.Listed.{◌unless_no◌, listed_from, unless_none, list_from}
use Rattle.grammar.proofs.OptionalWords.{tests_word}

-- p begins with this word
abbrev pub BeginsWith : Reserved → Part → Type 0
BeginsWith one p = (i rest : List Token) → p i rest → begins_word one i ≡ true

-- a heading of two words or more, with what comes after it
pub heading_begins : (one : Reserved) (more : List Reserved) (q : Part) → BeginsWith one (heading (one ∷ more) then q)
heading_begins one more q i rest s = word_begins one i s.1.0 s.1.1

module _ {p : Part} {reader : Parser (Unit {0})} (one : Reserved) where
  pub unless_sound : Sound (λ u. p) reader → Sound (λ u. p unless_no one) (unless_none one reader)
  unless_sound each u i rest e = go (begins_word one i) refl e
    where
      go : (b : Bool) → begins_word one i ≡ b → (if b then reader i else Ok (tt, i)) ≡ Ok (u, rest)
          → (p unless_no one) i rest
      go true is e = inl (each u i rest e)
      go false is e = inr (after e, (tests_word one).fails i is)

  pub unless_complete : {Allowed : Halt → Type 0} → BeginsWith one p → Complete Allowed (λ u. p) reader
      → Complete Allowed (λ u. p unless_no one) (unless_none one reader)
  unless_complete starts each u i rest (inl s) = rw (starts i rest s) (each u i rest s)
  unless_complete starts each u i rest (inr (same, absent)) =
      rw ((tests_word one).refuses i absent) (Reached (ap (λ j. Ok (tt, j)) same))

pub unless_shrinks : (p : Part) (one : Reserved) → ((i rest : List Token) → p i rest → length rest < length i)
    → (i rest : List Token) → (p unless_no one) i rest → length rest ≤ length i
unless_shrinks p one fewer i rest (inl s) = let l = fewer i rest s in omega arith
unless_shrinks p one fewer i rest (inr (same, absent)) = let l = ap length same in omega arith

module _ {A : Type 0} {p : List A → Part} {reader : Parser (List A)} (one : Reserved) where
  pub listed_sound : Sound p reader → Sound (listed_from one p) (list_from one reader)
  listed_sound each x i rest e = go (begins_word one i) refl e
    where
      go : (b : Bool) → begins_word one i ≡ b → (if b then reader i else Ok ([], i)) ≡ Ok (x, rest)
          → listed_from one p x i rest
      go true is e = inl (each x i rest e)
      go false is e = inr (sym (value e), (after e, (tests_word one).fails i is))

  pub listed_complete : {Allowed : Halt → Type 0} → ((all : List A) → BeginsWith one (p all))
      → Complete Allowed p reader → Complete Allowed (listed_from one p) (list_from one reader)
  listed_complete starts each x i rest (inl s) = rw (starts x i rest s) (each x i rest s)
  listed_complete starts each x i rest (inr (none, out)) =
      rw ((tests_word one).refuses i out.1) (Reached (ap (λ j. Ok ([], j)) out.0 ∙ ap (λ y. Ok (y, rest)) (sym none)))
