use Rattle.std.proofs.Common.{◌≡◌, ℕ, List, ◌∷◌, None, Some, bytes_eq, if◌then◌else◌, ap, sym, ◌∙◌, subst}
use Rattle.std.specs.Prelude.{Option}
use Rattle.std.proofs.lemmas.Cmp.{nat_list_eq_equiv}
use Rattle.std.specs.Borrow.{Bor}
use Rattle.std.specs.Option.{option_copied}
use Rattle.source_tree.specs.declared.name.Name.{Name}
use Rattle.name_table.specs.Noting.{AreNoted, procedure}
use Rattle.name_table.proofs.Noting.{IsNotedBeside, noted_under, skipped, taken, twice}
use Rattle.name_table.proofs.procedures.ProcedureNames.note.Goals as goal

pub returns-in_default : goal.returns-in_default
returns-in_default c = λ all more h.
    skipped all more c.args.range c.args.self.now (subst (λ (n : Option (Bor Name)).
    AreNoted all (procedure (option_copied n) c.args.range ∷ more) c.args.self.now) c.in_default.is h)

pub returns-in-None : goal.returns-in-None
returns-in-None c = λ all more h.
    let old = c.args.self.now.ranges in
    let name = c.in-Some.name.now in
    let fresh : noted_under name.characters old ≡ None =
    ap (λ (l : List ℕ). noted_under l old) (sym c.as_slice.ensures) ∙ sym c.in_ok-insert.ensures.old ∙ c.in-None.is in
    let updates : IsNotedBeside old c.insert.new.self name c.args.range = λ characters.
    let q : Bor (List ℕ) = record { ref_ptr = (0, 0); now = characters } in
    c.in_ok-insert.ensures.updates.0 q
    ∙ ap (λ b. if b then Some c.args.range else noted_under characters old)
    (nat_list_eq_equiv.symm c.as_slice.result.now characters ∙ ap (bytes_eq characters) c.as_slice.ensures) in
    taken all more name c.args.range c.args.self.now (record { ranges = c.insert.new.self })
    (subst (λ (n : Option (Bor Name)). AreNoted all (procedure (option_copied n) c.args.range ∷ more) c.args.self.now)
    c.in-Some.is h) fresh updates

pub returns-in-Some-2 : goal.returns-in-Some-2
returns-in-Some-2 c = λ all more h.
    let old = c.args.self.now.ranges in
    let name = c.in-Some.name.now in
    let before = c.in-Some-2.field-0 in
    let was : noted_under name.characters old ≡ Some before =
    ap (λ (l : List ℕ). noted_under l old) (sym c.as_slice.ensures) ∙ sym c.in_ok-insert.ensures.old ∙ c.in-Some-2.is in
    twice all more name c.args.range before c.args.self.now
    (subst (λ (n : Option (Bor Name)). AreNoted all (procedure (option_copied n) c.args.range ∷ more) c.args.self.now)
    c.in-Some.is h) was
