use Rattle.std.proofs.Common.{◌≡◌, Bool, true, false, not, IsTrue, Some, sym, subst}
use Rattle.std.proofs.lemmas.Bool.{false≢true}
use Rattle.items.specs.declared.taken.Taken.{Taken}
use Rattle.items.specs.Texts.{padded_text}
use Rattle.edited_move.specs.Moves.{moved_bytes}
use Rattle.edited_move.proofs.Copies.{to_group, to_text}
use Rattle.edited_move.proofs.move_statement.is_copy.Goals as goal
use Rattle.edited_move.proofs.move_statement.is_copy.Goals.{in-Numeric, in_default-matches}

no : (b : Bool) → b ≡ true → IsTrue (not b) → ⊥
no true e h = false≢true h
no false e h = false≢true e

pub returns-in-Group : goal.returns-in-Group
returns-in-Group c = λ h from.
    let P : Taken → Type 0 =
    λ t. moved_bytes c.args.receiver.now t from ≡ Some (padded_text c.args.receiver.now.length from) in
    subst P (sym c.in-Item.is) (to_group c.args.receiver.now c.in-Item.sender from c.in-Group.is)

pub returns-then-not-justified : goal.returns-then-not-justified
returns-then-not-justified c = λ h from.
    let P : Taken → Type 0 =
    λ t. moved_bytes c.args.receiver.now t from ≡ Some (padded_text c.args.receiver.now.length from) in
    elim c.match-matches.branch [
      | in-Numeric w ↦ absurd (no c.match-matches.matches w.matches-is h)
      | in_default-matches w ↦ subst P (sym c.in-Item.is) (to_text c.args.receiver.now c.in-Item.sender _ from
          c.in-Alphabetic.is c.if-not-justified.true w.in_default-matches.not-Numeric)
    ]
