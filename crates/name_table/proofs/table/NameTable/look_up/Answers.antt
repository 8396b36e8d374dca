use Rattle.std.proofs.Common.{◌<◌, inl, inr, subst, sym, ap, ◌∙◌, arith, Some}
use Rattle.name_table.specs.Table.{calls_in, names_of}
use Rattle.name_table.proofs.Steps.{IsSought, is_declared, former_in, left, smaller, sought_turn, sought_end}
use Rattle.name_table.proofs.table.NameTable.look_up.Goals as goal
use Rattle.name_table.proofs.table.NameTable.look_up.Goals.{In-Some, then-is_within, else-is_within}

-- the number of this turn is the next one
sought : (c : In-Some) → IsSought c.args.reference.now (calls_in c.args.self.now) (Some c.in-Some.number) c.same.found
sought c = subst (λ o. IsSought c.args.reference.now (calls_in c.args.self.now) o c.same.found) c.in-Some.is
    c.same.invariant

pub index-requires : goal.index-requires
index-requires c =
    let at = is_declared c.args.self.now c.args.reference.now c.in-Some.number c.same.found
    (sought (goal.at.index-requires c).In-Some) in
    let len = c.args.self.now.declared.ok.0 in
    omega (arith, at, len)

pub index-next-requires : goal.index-next-requires
index-next-requires c =
    let at = is_declared c.args.self.now c.args.reference.now c.in-Some.number c.same.found
    (sought (goal.at.index-next-requires c).In-Some) in
    let len = c.args.self.now.before.ok.0 in
    omega (arith, at, len, c.requires.count)

pub same-smaller : goal.same-smaller
same-smaller c =
    let reference = c.args.reference.now in
    let table = c.args.self.now in
    let next = former_in table c.requires reference c.in-Some.number c.same.found c.index-next.result.now
    (sought (goal.at.same-smaller c).In-Some) c.index-next.ensures in
    subst (λ o. left c.index-next.result.now < left o) (sym c.in-Some.is)
    (smaller reference.name.characters (calls_in table) c.in-Some.number c.index-next.result.now next)

pub same-preserved : goal.same-preserved
same-preserved c =
    sought_turn c.args.self.now c.requires c.args.reference.now c.in-Some.number c.same.found c.if-is_within.found
    c.index-next.result.now c.index.result.now c.as_slice-qualifiers.result.now (names_of c.deref.result.now)
    c.is_within.result (sought (goal.at.same-preserved c).In-Some) c.index-next.ensures c.index.ensures
    c.as_slice-qualifiers.ensures (ap names_of c.deref.ensures.value) c.is_within.ensures
    (elim c.if-is_within.branch [
      | then-is_within w ↦ inl (w.if-is_within.true, w.found-is ∙ w.with-found.ensures)
      | else-is_within w ↦ inr (w.if-is_within.false, w.found-is)
    ])

pub returns : goal.returns
returns c = sought_end c.args.reference.now (calls_in c.args.self.now) c.same.found (subst
    (λ o. IsSought c.args.reference.now (calls_in c.args.self.now) o c.same.found) c.in_default.is c.same.invariant)
