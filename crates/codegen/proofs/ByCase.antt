-- The code of a value that is one of several, where the last call may have failed.
use Rattle.std.proofs.Common.{◌≡◌, ℕ, zero, suc, ◌-◌, ◌<◌, false, ◌||◌, List, ◌+◌, length, get_or, drop, Option}
use Rattle.std.proofs.Common.{Some, None, refl, sym, ap, ◌∙◌, arith, is_some}
use Rattle.std.specs.Prelude.{Result, OnOk}
use Rattle.source_tree.specs.declared.statement.Verb.{Verb}
use Rattle.source_tree.specs.declared.statement.Statement.{Statement, out-Statement}
use Rattle.source_tree.specs.Arithmetic.{is_there}
use Rattle.source_tree.specs.Setting.{Scope}
use Rattle.code_image.specs.declared.code.Code.{Code}
use Rattle.condition_codegen.specs.Fragments.{Fragment, empty_code, append, sequence, in_order}
use Rattle.codegen.specs.Layout.{loop_begin, counted_turn, times_fragment, phrases_from, verb_fragment}
use Rattle.codegen.specs.Layout.{statement_fragment}
use Rattle.condition_codegen.proofs.Fragments.{joined_nothing, goes_on}
use Rattle.condition_codegen.proofs.Sequences.{is_so, ends_so}
use Rattle.codegen.proofs.Layers.{statement_is}

-- `same` is how the value looks in the case at hand.
module _ {T E : Type 0} (result : Result T E) {A : Type 0} (piece : A → Fragment) (one same : A) where
  pub case_so : (old new : Code) → one ≡ same → OnOk result (new ≡ append old (piece same old))
      → OnOk result (new ≡ append old (piece one old))
  case_so old new is e =
      is_so result new (append old (piece same old)) (append old (piece one old)) e
      (sym (ap (λ (a : A). append old (piece a old)) is))

  -- the same after a piece
  pub case_after : (head : Fragment) (old now new : Code) → one ≡ same → now ≡ append old (head old)
      → OnOk result (new ≡ append now (piece same now)) → OnOk result (new ≡ append old (sequence head (piece one) old))
  case_after head old now new is p e = ends_so result head (piece one) old now new p (case_so now new is e)

-- no code in the case at hand
pub case_without : {A : Type 0} (piece : A → Fragment) (one same : A) (old : Code) → one ≡ same
    → piece same old ≡ empty_code → old ≡ append old (piece one old)
case_without {A} piece one same old is none =
    sym (joined_nothing old) ∙ sym (ap (append old) none) ∙ sym (ap (λ (a : A). append old (piece a old)) is)

-- a statement, by its family
pub statement_so : {T E : Type 0} (result : Result T E) (scope : Scope) (one : Statement) (family : Verb Statement)
    (old new : Code) → (out-Statement one).verb ≡ family
    → OnOk result (new ≡ append old
    (verb_fragment scope (statement_fragment scope) (out-Statement one).place.line family old))
    → OnOk result (new ≡ append old (statement_fragment scope one old))
statement_so result scope one family old new is e =
    let piece : Verb Statement → Fragment =
    verb_fragment scope (statement_fragment scope) (out-Statement one).place.line in
    let seen = (out-Statement one).verb in
    is_so result new (append old (piece seen old)) (append old (statement_fragment scope one old))
    (case_so result piece seen family old new is e) (sym (ap (append old) (statement_is scope one old)))

-- one more of several
pub next_piece : {A : Type 0} (piece : A → Fragment) (all : List A) (i : ℕ) (one : A) (code next total : Code)
    → i < length all → one ≡ get_or all i one → next ≡ append code (piece one code)
    → append code (in_order piece (drop i all) code) ≡ total
    → append next (in_order piece (drop (i + 1) all) next) ≡ total
next_piece {A} piece all i one code next total lt is e so_far =
    goes_on piece all i one code next total lt (e ∙ ap (λ (a : A). append code (piece a code)) is) so_far

-- phrases of which none is there
pub phrases_absent : (scope : Scope) {S : Type 0} (inside : S → Fragment) (arose did_not : Option (List S))
    (before : Code) → (is_there arose || is_there did_not) ≡ false
    → empty_code ≡ phrases_from scope inside arose did_not before
phrases_absent scope inside None None before e = refl
phrases_absent scope inside None (Some other) before e = cc
phrases_absent scope inside (Some one) other before e = cc

pub same_there : {A : Type 0} (one : Option A) → is_some one ≡ is_there one
same_there None = refl
same_there (Some x) = refl

-- so many turns, one or more
pub times_so : {T E : Type 0} (result : Result T E) (turn : Fragment) (count begin : ℕ) (old now new : Code)
    → 0 < count → now ≡ append old (loop_begin (count - 1) old) → begin ≡ length old.instructions
    → OnOk result (new ≡ append now (counted_turn begin turn now))
    → OnOk result (new ≡ append old (times_fragment count turn old))
times_so result turn zero begin old now new lt p b e = absurd (omega arith)
times_so result turn (suc more) begin old now new lt p b e =
    let less : suc more - 1 ≡ more = omega arith in
    ends_so result (loop_begin more) (counted_turn (length old.instructions) turn) old now new
    (p ∙ ap (λ n. append old (loop_begin n old)) less)
    (is_so result new (append now (counted_turn begin turn now))
    (append now (counted_turn (length old.instructions) turn now)) e
    (ap (λ n. append now (counted_turn n turn now)) b))
