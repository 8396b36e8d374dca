use Rattle.std.proofs.Common.{◌≡◌, ℕ, Bool, true, List, length, sym, ap, ◌∙◌}
use Rattle.std.specs.Prelude.{take, Option}
use Rattle.btree.specs.Entries.{Entry}
use Rattle.btree.specs.Places.{if_found}
use Rattle.records.specs.Rows.{same_bytes}
use Rattle.alternate_keys.specs.Seen.{begins_with_value}
use Rattle.alternate_keys.proofs.Faults.{refused_by_call}
use Rattle.alternate_keys.proofs.found_rows.is_repeated.Goals as goal

pub returns-in_err-next_near-clause-damaged : goal.returns-in_err-next_near-clause-damaged
returns-in_err-next_near-clause-damaged g c = λ honest agrees is levels holds.
    c.next_near.ensures.damaged honest agrees
    (refused_by_call c.in_err-next_near.was c.from_residual.ensures.1 is.0, is.1) levels holds

pub returns-then-not-branch-clause-repeated : goal.returns-then-not-branch-clause-repeated
returns-then-not-branch-clause-repeated g c = λ honest agrees levels holds near.
    ap (begins_with_value (take c.args.value_length c.args.key.now))
    (ap (λ (b : Bool). if_found b c.next_near.new.entry) (sym c.if-not-branch.true)
    ∙ c.in_ok-next_near.ensures.entry honest agrees levels holds near)

-- the entry that was found begins with the value exactly if its key does
front_of : (value key : List ℕ) (found answer : Bool) (entry : Entry) (first : Option Entry)
    → answer ≡ same_bytes (take (length value) key) value → key ≡ entry.key → found ≡ true
    → if_found found entry ≡ first → answer ≡ begins_with_value value first
front_of value key found answer entry first is same there finds =
    is ∙ ap (λ k. same_bytes (take (length value) k) value) same
    ∙ ap (begins_with_value value) (ap (λ (b : Bool). if_found b entry) (sym there) ∙ finds)

pub returns-clause-repeated : goal.returns-clause-repeated
returns-clause-repeated g c = λ honest agrees levels holds near.
    front_of (take c.args.value_length c.args.key.now) c.key.result.now c.in_ok-next_near.field-0 c.has_front.result
    c.next_near.new.entry _ c.has_front.ensures c.key.ensures c.if-not-branch.false
    (c.in_ok-next_near.ensures.entry honest agrees levels holds near)
