-- Where the rules are kept, each occurrence of an item that is named lies in its area, and moves are permitted.
use Rattle.std.proofs.Common.{◌≡◌, ℕ, List, [], ◌∷◌, ◌++◌, Some, true, refl, sym, ap, subst, ◌∙◌}
use Rattle.std.specs.Prelude.{slice_get, not, map}
use Rattle.lexical.specs.declared.place.Place.{Place}
use Rattle.items.specs.declared.taken.Taken.{Taken}
use Rattle.items.specs.declared.taken.Taken.TheVariants as t
use Rattle.source_tree.specs.declared.reference.Reference.{Reference}
use Rattle.source_tree.specs.declared.expression.Operand.{Operand}
use Rattle.source_tree.specs.declared.expression.Operand.TheVariants as operand
use Rattle.source_tree.specs.declared.arithmetic.Receiver.{Receiver}
use Rattle.source_tree.specs.declared.arithmetic.Operation.{Operation}
use Rattle.source_tree.specs.declared.arithmetic.Operation.TheVariants.{Add, AddGiving, Subtract, SubtractGiving}
use Rattle.source_tree.specs.declared.arithmetic.Operation.TheVariants.{Multiply, MultiplyGiving, Divide, DivideGiving}
use Rattle.source_tree.specs.declared.arithmetic.Operation.TheVariants.{DivideRemainder, Compute}
use Rattle.source_tree.specs.ArithmeticRules.{numeric_item, number_receiver, number_rules, updated_rules, given_rules}
use Rattle.source_tree.specs.ArithmeticRules.{expression_rules, operation_rules}
use Rattle.source_tree.specs.Broken.{RuleBreach, each}
use Rattle.source_tree.specs.Literals.{literal_sender}
use Rattle.source_tree.specs.LookUp.{items_named, first}
use Rattle.source_tree.specs.MoveRules.{may_move, only_item, sent_by, receives}
use Rattle.source_tree.specs.NameRules.{reference_rules, any_item, operand_rules}
use Rattle.source_tree.specs.Parts.{seen_through}
use Rattle.source_tree.specs.Places.{LocatedItem}
use Rattle.source_tree.specs.TextRules.{shown_rules, display_rules}
use Rattle.data_instructions.specs.Codes.{data_item}
use Rattle.data_instructions.specs.Chains.{LiesWhole, LiesAll, ShowsAll, SendsAs, MayReceive, MayReceiveEach}
use Rattle.data_instructions.specs.ArithmeticCodes.{LiesOperand, LieOperands, LieReceivers, LiesOperation}
use Rattle.code_image.specs.declared.code.Code.{Code}
use Rattle.condition_codegen.specs.DataCode.{item_number}
use Rattle.condition_codegen.proofs.Lists.{left_none, right_none}
use Rattle.statement_codegen.proofs.NamedItems.{item_there}
use Rattle.codegen.proofs.Codes.{keeps}
use Rattle.condition_codegen.proofs.Integers.{kept, not_false}

module _ (items : List LocatedItem) (whole : Code) (entries : (n : ℕ) (one : LocatedItem) → slice_get items n ≡ Some one
    → slice_get whole.tables.items n ≡ Some (data_item one))
    (lie : (n : ℕ) (one : LocatedItem) → slice_get items n ≡ Some one → LiesWhole whole.tables one) where
  the_only : (one : Reference) (found other : LocatedItem) → items_named items one.item ≡ found ∷ []
      → first (items_named items one.item) ≡ Some other → found ≡ other
  the_only one found other named is = same (sym (ap first named) ∙ is)
    where
      same : Some found ≡ Some other → found ≡ other
      same e = cc

  pub lies_all : (asked : Place → LocatedItem → List RuleBreach) (one : Reference)
      → reference_rules items asked one ≡ [] → LiesAll items whole.tables one
  lies_all asked one e = λ found is.
      let k = keeps items whole entries asked one e in
      subst (LiesWhole whole.tables) (the_only one k.found found k.named is)
      (lie (item_number items one.item) k.found (item_there items one.item k.found k.named))

  pub shows_all : (all : List Operand) → display_rules items all ≡ [] → ShowsAll items whole.tables all
  shows_all [] e = tt
  shows_all (operand.Item one ∷ more) e =
      let one_rules = reference_rules items any_item one in (
        lies_all any_item one (left_none one_rules (each (shown_rules items) more) e),
        shows_all more (right_none one_rules (each (shown_rules items) more) e),
      )
  shows_all (operand.Literal one ∷ more) e =
      shows_all more (right_none (shown_rules items (operand.Literal one)) (each (shown_rules items) more) e)

  -- what is sent, for a sender that keeps the rules
  pub record Sends (sender : Operand) : Type 0 where
    pub sent : Taken
    pub is : sent_by items sender ≡ Some sent
    pub sends_as : SendsAs items whole.tables sender sent

  pub sends : (sender : Operand) → operand_rules items sender ≡ [] → Sends sender
  sends (operand.Item one) e =
      let k = keeps items whole entries any_item one e in
      record {
        sent = t.Item (seen_through one k.found).item;
        is = ap (λ all. only_item (map (seen_through one) all)) k.named;
        sends_as = (
          lies_all any_item one e,
          λ found is.
              ap (λ (p : LocatedItem). t.Item (seen_through one p).item) (sym (the_only one k.found found k.named is)),
        );
      }
  sends (operand.Literal one) e = record { sent = (literal_sender one.value).taken; is = refl; sends_as = refl }

  pub receives_one : (sent : Taken) (one : Reference) → reference_rules items (receives (Some sent)) one ≡ []
      → MayReceive items whole.tables sent one
  receives_one sent one e =
      let k = keeps items whole entries (receives (Some sent)) one e in (
        lies_all (receives (Some sent)) one e,
        λ found is.
            subst (λ (p : LocatedItem). may_move sent (seen_through one p).item ≡ true)
            (the_only one k.found found k.named is)
            (not_false (may_move sent (seen_through one k.found).item)
            (kept (not (may_move sent (seen_through one k.found).item)) 49 one.item.name.place k.asks)),
      )

  pub receive_each : (sent : Taken) (all : List Reference)
      → each (reference_rules items (receives (Some sent))) all ≡ [] → MayReceiveEach items whole.tables sent all
  receive_each sent [] e = tt
  receive_each sent (one ∷ more) e =
      let one_rules = reference_rules items (receives (Some sent)) one in (
        receives_one sent one (left_none one_rules (each (reference_rules items (receives (Some sent))) more) e),
        receive_each sent more (right_none one_rules (each (reference_rules items (receives (Some sent))) more) e),
      )

  -- ---- arithmetic statements

  pub lies_operand : (one : Operand) → number_rules items one ≡ [] → LiesOperand items whole.tables one
  lies_operand (operand.Item one) e = lies_all numeric_item one e
  lies_operand (operand.Literal one) e = tt

  lie_operands : (all : List Operand) → each (number_rules items) all ≡ [] → LieOperands items whole.tables all
  lie_operands [] e = tt
  lie_operands (one ∷ more) e = (
    lies_operand one (left_none (number_rules items one) (each (number_rules items) more) e),
    lie_operands more (right_none (number_rules items one) (each (number_rules items) more) e),
  )

  lie_receivers : (asked : Place → LocatedItem → List RuleBreach) (all : List Receiver)
      → each (λ (one : Receiver). reference_rules items asked one.item) all ≡ [] → LieReceivers items whole.tables all
  lie_receivers asked [] e = tt
  lie_receivers asked (one ∷ more) e =
      let rules = λ (one : Receiver). reference_rules items asked one.item in (
        lies_all asked one.item (left_none (rules one) (each rules more) e),
        lie_receivers asked more (right_none (rules one) (each rules more) e),
      )

  pub lies_operation : (one : Operation) → operation_rules items one ≡ [] → LiesOperation items whole.tables one
  lies_operation (Add operands receivers) e =
      let a = each (number_rules items) operands in
      let b = updated_rules items receivers in
      (lie_operands operands (left_none a b e), lie_receivers numeric_item receivers (right_none a b e))
  lies_operation (AddGiving operands receivers) e =
      let a = each (number_rules items) operands in
      let b = given_rules items receivers in
      (lie_operands operands (left_none a b e), lie_receivers number_receiver receivers (right_none a b e))
  lies_operation (Subtract operands receivers) e =
      let a = each (number_rules items) operands in
      let b = updated_rules items receivers in
      (lie_operands operands (left_none a b e), lie_receivers numeric_item receivers (right_none a b e))
  lies_operation (SubtractGiving operands minuend receivers) e =
      let a = each (number_rules items) operands in
      let b = number_rules items minuend in
      let c = given_rules items receivers in
      let f = left_none (a ++ b) c e in (
        lie_operands operands (left_none a b f),
        lies_operand minuend (right_none a b f),
        lie_receivers number_receiver receivers (right_none (a ++ b) c e),
      )
  lies_operation (Multiply factor receivers) e =
      let a = number_rules items factor in
      let b = updated_rules items receivers in
      (lies_operand factor (left_none a b e), lie_receivers numeric_item receivers (right_none a b e))
  lies_operation (MultiplyGiving factor by receivers) e =
      let a = number_rules items factor in
      let b = number_rules items by in
      let c = given_rules items receivers in
      let f = left_none (a ++ b) c e in (
        lies_operand factor (left_none a b f),
        lies_operand by (right_none a b f),
        lie_receivers number_receiver receivers (right_none (a ++ b) c e),
      )
  lies_operation (Divide divisor receivers) e =
      let a = number_rules items divisor in
      let b = updated_rules items receivers in
      (lies_operand divisor (left_none a b e), lie_receivers numeric_item receivers (right_none a b e))
  lies_operation (DivideGiving one order two receivers) e =
      let a = number_rules items one in
      let b = number_rules items two in
      let c = given_rules items receivers in
      let f = left_none (a ++ b) c e in (
        lies_operand one (left_none a b f),
        lies_operand two (right_none a b f),
        lie_receivers number_receiver receivers (right_none (a ++ b) c e),
      )
  lies_operation (DivideRemainder one order two quotient remainder) e =
      let a = number_rules items one in
      let b = number_rules items two in
      let c = reference_rules items number_receiver quotient.item in
      let d = reference_rules items number_receiver remainder in
      let f = left_none (a ++ b ++ c) d e in
      let g = left_none (a ++ b) c f in (
        lies_operand one (left_none a b g),
        lies_operand two (right_none a b g),
        lies_all number_receiver quotient.item (right_none (a ++ b) c f),
        lies_all number_receiver remainder (right_none (a ++ b ++ c) d e),
      )
  lies_operation (Compute receivers value) e =
      lie_receivers number_receiver receivers (left_none (given_rules items receivers) (expression_rules items value) e)
