-- Literals: what is read is spelled, and what is spelled is read.
use Rattle.std.proofs.Common.{◌≡◌, Bool, true, false, List, length, Option, Some, None, inl, inr, refl, sym, ap, ◌∙◌}
use Rattle.std.proofs.Common.{subst, arith}
use Rattle.std.specs.Prelude.{◌||◌, if◌then◌else◌, Ok}
use Rattle.std.specs.Option.{option_map}
use Rattle.tokens.specs.declared.reserved.Reserved.TheVariants as w
use Rattle.tokens.specs.declared.token.Kind.{Kind}
use Rattle.tokens.specs.declared.token.Kind.TheVariants as k
use Rattle.tokens.specs.declared.token.Token.{Token}
use Rattle.lexical.specs.declared.place.Place.{Place}
use Rattle.source_tree.specs.declared.literal.LiteralValue.{LiteralValue}
use Rattle.source_tree.specs.declared.literal.Literal.{Literal}
use Rattle.grammar.specs.declared.fault.Halt.{Halt}
use Rattle.grammar.specs.Parts as parts
use Rattle.grammar.specs.Parts.{token_with, begins_telling, name_in, named_by, begins_name}
use Rattle.grammar.specs.Reading as read
use Rattle.grammar.specs.Reading.{Outcome, Parser, begins_word, is_kind, one_token}
use Rattle.grammar.proofs.Outcomes.{Answers, Reached, step, unstep, value, last}
use Rattle.grammar.proofs.Looking.{none_not, kind_is, word_begins}
use Rattle.grammar.proofs.Lists.{Sound, Complete, Shrinks, Starts}
use Rattle.grammar.proofs.Parts.{here_sound, here_complete, word_sound, word_complete, word_shrinks, one_token_sound}
use Rattle.grammar.proofs.Parts.{one_token_complete, telling_shrinks, telling_starts}
use Rattle.expressions.specs.Literals as g
use Rattle.expressions.specs.Literals.{plain_in, bytes_in, value_by, literal_at}
use Rattle.expressions.proofs.Exact.Marks.{value_no_name, either}

-- ---- ALL with a literal

all_sound : (x : Literal) (i rest : List Token) → g.all_literal_reader i ≡ Ok (x, rest) → g.all_literal x i rest
unfolding g.all_literal_reader
all_sound x i rest e =
    unstep (read.here i) _ e (λ place i1 is1 e1.
    unstep (read.expect w.All i1) _ e1 (λ u i2 is2 e2.
    unstep (one_token bytes_in i2) _ e2 (λ bytes i3 is3 e3.
    subst (λ y. g.all_literal y i rest) (value e3) (
      bytes,
      refl,
      (
        i1,
        here_sound place i i1 is1,
        (i2, word_sound w.All u i1 i2 is2, one_token_sound bytes_in bytes i2 rest (last is3 e3)),
      ),
    ))))

all_complete : {Allowed : Halt → Type 0} → Complete Allowed g.all_literal g.all_literal_reader
unfolding g.all_literal_reader
all_complete {Allowed = Allowed} x i rest (bytes, is, (i1, at, (i2, all, told))) =
    subst (λ y. Answers Allowed (g.all_literal_reader i) y rest) (sym is)
    (step (read.here i) _ (here_complete x.place i i1 at)
    (step (read.expect w.All i1) _ (word_complete w.All tt i1 i2 all)
    (step (one_token bytes_in i2) _ (one_token_complete bytes_in bytes i2 rest told) (Reached refl))))

all_begins : (x : Literal) (i rest : List Token) → g.all_literal x i rest → begins_word w.All i ≡ true
all_begins x i rest (bytes, is, (i1, at, (i2, all, told))) = ap (begins_word w.All) at.0 ∙ word_begins w.All i1 i2 all

-- ---- literals of one token

no_value : (kind : Kind) → kind ≡ k.Reserved w.All → value_by kind ≡ None
no_value kind e = ap value_by e

value_is : (o : Option LiteralValue) (place : Place) (x : Literal) → option_map (literal_at place) o ≡ Some x
    → (v : LiteralValue) × (o ≡ Some v)
value_is None place x e = cc
value_is (Some v) place x e = (v, refl)

plain_is_no_all : (x : Literal) (i rest : List Token) → token_with plain_in x i rest → begins_word w.All i ≡ false
plain_is_no_all x i rest (first, is, tell) = ap (begins_word w.All) is ∙ go (is_kind w.All first.kind) refl
  where
    go : (b : Bool) → is_kind w.All first.kind ≡ b → is_kind w.All first.kind ≡ false
    go false e = e
    go true e = let v = value_is (value_by first.kind) first.place x tell in
        absurd (none_not (sym (no_value first.kind (kind_is w.All first.kind e)) ∙ v.1))

pub literal_sound : Sound g.literal g.literal_reader
unfolding g.literal_reader
literal_sound x i rest e = go (begins_word w.All i) e
  where
    go : (b : Bool) → (if b then g.all_literal_reader i else one_token plain_in i) ≡ Ok (x, rest) → g.literal x i rest
    go true e = inr (all_sound x i rest e)
    go false e = inl (one_token_sound plain_in x i rest e)

pub literal_complete : {Allowed : Halt → Type 0} → Complete Allowed g.literal g.literal_reader
unfolding g.literal_reader
literal_complete x i rest (inl told) = rw (plain_is_no_all x i rest told) (one_token_complete plain_in x i rest told)
literal_complete x i rest (inr all) = rw (all_begins x i rest all) (all_complete x i rest all)

pub literal_shrinks : Shrinks g.literal
literal_shrinks x i rest (inl told) = telling_shrinks plain_in x i rest told
literal_shrinks x i rest (inr (bytes, is, (i1, at, (i2, all, told)))) =
    let l = ap length at.0 in
    let a = word_shrinks w.All i1 i2 all in
    let b = telling_shrinks bytes_in bytes i2 rest told in omega arith

pub literal_starts : Starts g.begins_literal g.literal
literal_starts x i rest (inl told) =
    either (begins_word w.All i) (begins_telling plain_in i) (telling_starts plain_in x i rest told)
literal_starts x i rest (inr all) = ap (λ b. b || begins_telling plain_in i) (all_begins x i rest all)

-- ---- a literal begins with no name

no_name : (kind : Kind) (place : Place) → kind ≡ k.Reserved w.All → named_by kind place ≡ None
no_name kind place e = ap (λ x. named_by x place) e

pub literal_is_no_name : (x : Literal) (i rest : List Token) → g.literal x i rest → begins_name i ≡ false
literal_is_no_name x i rest (inl (first, is, tell)) =
    let v = value_is (value_by first.kind) first.place x tell in
    ap begins_name is ∙ ap parts.is_told (value_no_name first.kind first.place v.0 v.1)
literal_is_no_name x i rest (inr (bytes, is, (i1, at, (i2, (first, next, kind), told)))) =
    ap begins_name (at.0 ∙ next) ∙ ap parts.is_told (no_name first.kind first.place kind)
