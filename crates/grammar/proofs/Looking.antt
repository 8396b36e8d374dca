-- The words that open a phrase: where they stand, and that looking finds them.
use Rattle.std.proofs.Common.{◌≡◌, Bool, true, false, if◌then◌else◌, List, [], ◌∷◌, Option, Some, None, inl, inr, refl}
use Rattle.std.proofs.Common.{sym, ap, ◌∙◌, rules}
use Rattle.std.specs.Prelude.{◌&&◌, not, is_some}
use denote.Enum.Bare.{same_true, true_same}
use Rattle.tokens.specs.contracts.reserved.Reserved.{the_type}
use Rattle.tokens.specs.declared.reserved.Reserved.{Reserved}
use Rattle.tokens.specs.declared.token.Kind.{Kind}
use Rattle.tokens.specs.declared.token.Kind.TheVariants as k
use Rattle.tokens.specs.declared.token.Token.{Token}
use Rattle.grammar.specs.Parts.{Part, ◌then◌, ◌but◌, word, optional, lookahead}
use Rattle.tokens.specs.Reserved.{same_word}
use Rattle.grammar.specs.Reading.{Words, is_kind, is_word, begins_word, after_word, past_word, otherwise_here}
use Rattle.grammar.specs.Reading.{also_after}

pub some_is : {A : Type 0} {a b : A} → Some a ≡ Some b → a ≡ b
some_is e = cc

pub none_not : {A : Type 0} {a : A} → None ≡ Some a → ⊥
none_not e = cc

-- ---- one word

pub word_is_itself : (one : Reserved) → same_word one one ≡ true
unfolding same_word
word_is_itself one = true_same the_type one one refl

pub same_words : (one other : Reserved) → same_word other one ≡ true → other ≡ one
unfolding same_word
same_words one other same = same_true the_type (search rules) other one same

pub kind_is : (one : Reserved) (kind : Kind) → is_kind one kind ≡ true → kind ≡ k.Reserved one
kind_is one (k.Reserved other) e = ap k.Reserved (same_words one other e)
kind_is one (k.Word characters) e = cc
kind_is one (k.Numeric number) e = cc
kind_is one (k.Nonnumeric bytes) e = cc
kind_is one (k.Picture characters) e = cc
kind_is one k.Period e = cc
kind_is one k.LeftParenthesis e = cc
kind_is one k.RightParenthesis e = cc
kind_is one k.Colon e = cc
kind_is one (k.Operator operator) e = cc

pub is_kind_of : (one : Reserved) (kind : Kind) → kind ≡ k.Reserved one → is_kind one kind ≡ true
is_kind_of one kind e = ap (is_kind one) e ∙ word_is_itself one

first_word : (one : Reserved) (first : Token) (more after : List Token) (b : Bool) → is_word one first ≡ b
    → (if b then Some more else None) ≡ Some after → word one (first ∷ more) after
first_word one first more after true is e = (first, ap (λ rest. first ∷ rest) (some_is e), kind_is one first.kind is)
first_word one first more after false is e = absurd (none_not e)

pub word_found : (one : Reserved) (i after : List Token) → after_word one i ≡ Some after → word one i after
unfolding after_word
word_found one [] after e = absurd (none_not e)
word_found one (first ∷ more) after e = first_word one first more after (is_word one first) refl e

pub word_stands : (one : Reserved) (i after : List Token) → word one i after → after_word one i ≡ Some after
unfolding after_word
word_stands one i after (first, is, kind) =
    ap (after_word one) is ∙ ap (λ b. if b then Some after else None) (is_kind_of one first.kind kind)

pub word_begins : (one : Reserved) (i after : List Token) → word one i after → begins_word one i ≡ true
word_begins one i after (first, is, kind) = ap (begins_word one) is ∙ is_kind_of one first.kind kind

pub begins_no_other : (one other : Reserved) → same_word one other ≡ false → (i after : List Token) → word one i after
    → begins_word other i ≡ false
begins_no_other one other differ i after (first, is, kind) =
    ap (begins_word other) is ∙ ap (is_kind other) kind ∙ differ

-- ---- looking for words

pub record Finds (p : Part) (words : Words) : Type 0 where
  pub found : (i after : List Token) → words i ≡ Some after → p i after
  pub stands : (i after : List Token) → p i after → words i ≡ Some after

pub is_absent : {p : Part} {words : Words} → Finds p words → (i : List Token) → words i ≡ None → (after : List Token)
    → p i after → ⊥
is_absent finds i none after stands = none_not (sym none ∙ finds.stands i after stands)

pub is_missing : {p : Part} {words : Words} → Finds p words → (i : List Token) → ((after : List Token) → p i after → ⊥)
    → words i ≡ None
is_missing {words = words} finds i nowhere = go (words i) refl
  where
    go : (o : Option (List Token)) → words i ≡ o → words i ≡ None
    go None e = e
    go (Some after) e = absurd (nowhere after (finds.found i after e))

pub finds_word : (one : Reserved) → Finds (word one) (after_word one)
finds_word one = record { found = word_found one; stands = word_stands one }

-- ---- optional words

pub past_does : (one : Reserved) (i : List Token) → optional (word one) i (past_word one i)
unfolding past_word
past_does one i = go (after_word one i) refl
  where
    go : (o : Option (List Token)) → after_word one i ≡ o → optional (word one) i (otherwise_here i o)
    go None e = inr (refl, is_absent (finds_word one) i e)
    go (Some after) e = inl (word_found one i after e)

pub past_is : (one : Reserved) (i after : List Token) → optional (word one) i after → past_word one i ≡ after
unfolding past_word
past_is one i after (inl stands) = ap (otherwise_here i) (word_stands one i after stands)
past_is one i after (inr left_out) = ap (otherwise_here i) (is_missing (finds_word one) i left_out.1) ∙ left_out.0

-- ---- words after words

also_found : (one : Reserved) (o : Option (List Token)) (after : List Token) → also_after one o ≡ Some after
    → (middle : List Token) × (o ≡ Some middle) × (after_word one middle ≡ Some after)
also_found one None after e = absurd (none_not e)
also_found one (Some middle) after e = (middle, refl, e)

pub finds_also : (p : Part) (words : Words) (one : Reserved) → Finds p words
    → Finds (p then word one) (λ i. also_after one (words i))
finds_also p words one finds = record {
  found = λ i after e.
      let f = also_found one (words i) after e in
      (f.0, finds.found i f.0 f.1, word_found one f.0 after f.2);
  stands = λ i after s. ap (also_after one) (finds.stands i s.0 s.1) ∙ word_stands one s.0 after s.2;
}

pub finds_past : (one : Reserved) (p : Part) (words : Words) → Finds p words
    → Finds (optional (word one) then p) (λ i. words (past_word one i))
finds_past one p words finds = record {
  found = λ i after e. (past_word one i, past_does one i, finds.found (past_word one i) after e);
  stands = λ i after s. ap words (past_is one i s.0 s.1) ∙ finds.stands s.0 after s.2;
}

-- ---- tests

-- Tokens pass the test exactly where the part begins.
pub record Tests (begin : Part) (begins : List Token → Bool) : Type 0 where
  pub fails : (i : List Token) → begins i ≡ false → (after : List Token) → begin i after → ⊥
  pub refuses : (i : List Token) → ((after : List Token) → begin i after → ⊥) → begins i ≡ false

pub true_not_false : (b : Bool) → b ≡ false → b ≡ true → ⊥
true_not_false b e f = cc

pub tests_tested : (begins : List Token → Bool) → Tests (lookahead begins) begins
tests_tested begins = record {
  fails = λ i e after stands. true_not_false (begins i) e stands;
  refuses = λ i nowhere. go i (begins i) refl nowhere;
}
  where
    go : (i : List Token) (b : Bool) → begins i ≡ b → ((after : List Token) → begins i ≡ true → ⊥) → begins i ≡ false
    go i true e nowhere = absurd (nowhere i e)
    go i false e nowhere = e

pub tests_words : {p : Part} {words : Words} → Finds p words → Tests p (λ i. is_some (words i))
tests_words {p = p} {words = words} finds = record {
  fails = λ i e after stands. true_not_false (is_some (words i)) e (ap is_some (finds.stands i after stands));
  refuses = λ i nowhere. ap is_some (is_missing finds i nowhere);
}

-- where one begins, but another doesn't
pub tests_but : {p q : Part} {b c : List Token → Bool} → Tests p b → Tests q c → Tests (p but q) (λ i. b i && not (c i))
tests_but {p = p} {q = q} {b = b} {c = c} one other = record {
  fails = λ i e after s. go (b i) (c i) refl (other.refuses i s.1) e (λ none. one.fails i none after s.0);
  refuses = λ i nowhere.
      stop (b i) (c i) refl refl (λ absent. one.refuses i (λ after s. nowhere after (s, other.fails i absent)));
}
  where
    go : {x : Bool} (there other : Bool) → x ≡ there → other ≡ false → (there && not other) ≡ false → (x ≡ false → ⊥)
        → ⊥
    go true true is absent e never = cc
    go true false is absent e never = cc
    go false other is absent e never = never is

    stop : {x y : Bool} (there other : Bool) → x ≡ there → y ≡ other → (y ≡ false → x ≡ false)
        → (there && not other) ≡ false
    stop true true is is' one = refl
    stop true false is is' one = sym is ∙ one is'
    stop false other is is' one = refl
