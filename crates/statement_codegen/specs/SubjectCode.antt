-- The code that takes the subjects of EVALUATE (own choice). It looks at each that can have a fault by a condition, whose truth isn't used.
use Rattle.std.specs.Prelude.{◌&&◌, Bool, true, false, not, if◌then◌else◌, List, [], ◌∷◌, Option, Some, None, slice_get}
use Rattle.source_tree.specs.declared.expression.Operand.{Operand}
use Rattle.source_tree.specs.declared.condition.Relation.TheVariants.{Equal}
use Rattle.source_tree.specs.declared.condition.Side.{Side}
use Rattle.source_tree.specs.declared.condition.Side.TheVariants as side
use Rattle.source_tree.specs.declared.condition.Condition.{Condition}
use Rattle.source_tree.specs.declared.condition.Condition.TheVariants.{Relation}
use Rattle.source_tree.specs.declared.evaluate_statement.Subject.{Subject}
use Rattle.source_tree.specs.declared.evaluate_statement.Object.{Object}
use Rattle.source_tree.specs.declared.evaluate_statement.When.{When}
use Rattle.source_tree.specs.declared.evaluate_statement.Selected.{Selected}
use Rattle.source_tree.specs.Conditions.{alone_side}
use Rattle.source_tree.specs.Evaluate.{ObjectValues, ResolvedOperand, Value, Truth, Asking, resolved_subject}
use Rattle.source_tree.specs.Places.{LocatedItem}
use Rattle.declarations.specs.Resolved.{optional_choice}
use Rattle.condition_codegen.specs.Fragments.{Fragment, in_order}
use Rattle.condition_codegen.specs.Meeting.{nothing_fragment}
use Rattle.condition_codegen.specs.ConditionCode.{zero_literal, is_numeric_operand, is_operand_at_hand}
use Rattle.condition_codegen.specs.ConditionCode.{condition_fragment}

-- ZERO, with which each value may be compared
abbrev pub zero_side : Side
zero_side = side.Literal zero_literal

-- the first object of a group of WHENs, and of all groups
abbrev pub object_of_when : Option When → Option Object
object_of_when None = None
object_of_when (Some one) = slice_get one.objects 0

abbrev pub object_of_group : {S : Type 0} → Option (Selected S) → Option Object
object_of_group None = None
object_of_group (Some one) = object_of_when (slice_get one.whens 0)

abbrev pub first_object : {S : Type 0} → List (Selected S) → Option Object
first_object selected = object_of_group (slice_get selected 0)

-- `items` are those of the table of items, in order.
module _ (items : List LocatedItem) where
  -- a literal, or an item without subscripts: no fault but that of bytes that are no number
  abbrev pub is_at_hand : Option Operand → Bool
  is_at_hand (Some one) = is_operand_at_hand items one
  is_at_hand None = false

  -- a literal, or an item without subscripts that isn't numeric: no fault at all
  abbrev pub is_faultless : Option Operand → Bool
  is_faultless (Some one) = is_operand_at_hand items one && not (is_numeric_operand items one)
  is_faultless None = false

  -- ---- a subject

  -- the condition by which a value is taken
  abbrev pub value_look : Side → Option Condition
  value_look value = if is_faultless (alone_side value) then None else Some (Relation value Equal zero_side)

  -- TRUE and FALSE are there.
  abbrev pub look : ResolvedOperand Side → Option Condition
  look (Value one) = value_look one
  look (Truth one) = None
  look (Asking one) = Some one

  abbrev pub look_fragment : Option Condition → Fragment
  look_fragment None = nothing_fragment
  look_fragment (Some one) = condition_fragment items one

  abbrev pub subject_fragment : Subject → Fragment
  subject_fragment one = look_fragment (look (resolved_subject items one))

  abbrev pub each_subject_fragment : List Subject → Fragment
  each_subject_fragment = in_order subject_fragment

  -- ---- where the first object does it

  -- The object asks for its subject first of all, for a value beside one that is at hand: what is a fault is the same one.
  abbrev pub asks_at_once : ResolvedOperand Side → Option (ResolvedOperand ObjectValues) → Bool
  asks_at_once (Value one) (Some (Value wanted)) = is_at_hand (alone_side wanted.first)
  asks_at_once (Asking one) (Some (Truth truth)) = true
  asks_at_once (Asking one) (Some (Asking other)) = true
  asks_at_once _ _ = false

  abbrev pub is_asked_first : List Subject → Option Object → Bool
  is_asked_first (one ∷ []) (Some object) = asks_at_once (resolved_subject items one) (optional_choice items object.choice)
  is_asked_first _ _ = false

  abbrev pub taken_from : Bool → List Subject → Fragment
  taken_from true subjects = nothing_fragment
  taken_from false subjects = each_subject_fragment subjects

  -- The subjects before the first WHEN. One alone for which its first object asks at once is taken there.
  abbrev pub subjects_fragment : List Subject → Option Object → Fragment
  subjects_fragment subjects object = taken_from (is_asked_first subjects object) subjects
