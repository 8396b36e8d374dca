-- The code of INITIALIZE and SET is what the laws of instructions on data speak of, where the rules are kept, and their
-- items lie in their areas.
use Rattle.std.proofs.Common.{◌≡◌, ℕ, ◌+◌, List, [], ◌∷◌, ◌++◌, length, map, Some, refl, sym, ap, subst, ◌∙◌, arith}
use Rattle.std.proofs.Common.{append_assoc, length-append}
use Rattle.std.specs.Prelude.{slice_get}
use Rattle.std.proofs.lemmas.Option.{same_Some}
use Rattle.source_tree.specs.declared.reference.Reference.{Reference}
use Rattle.source_tree.specs.Broken.{each}
use Rattle.source_tree.specs.Initializing.{Pattern, named_pattern, set_pattern}
use Rattle.source_tree.specs.LookUp.{NamedCondition, conditions_named, all_conditions, first}
use Rattle.source_tree.specs.NameRules.{reference_rules, any_item}
use Rattle.source_tree.specs.Parts.{seen_through}
use Rattle.source_tree.specs.Places.{LocatedItem}
use Rattle.source_tree.specs.SettingRules.{set_one, set_rules, initialize_rules}
use Rattle.data_instructions.specs.declared.index.TextIndex.{TextIndex}
use Rattle.data_instructions.specs.declared.instruction.DataInstruction.{DataInstruction}
use Rattle.data_instructions.specs.declared.instruction.DataInstruction.TheVariants as i
use Rattle.data_instructions.specs.Codes.{data_item, IsReferenceCode, AreSubscriptsCode}
use Rattle.data_instructions.specs.Chains.{LiesWhole}
use Rattle.data_instructions.specs.TextCodes.{new_byte, new_mark, HasPattern, IsInitializeCode, AreInitializedCode}
use Rattle.data_instructions.specs.TextCodes.{IsSetCode, AreSetCode, LieEach, LieConditions}
use Rattle.code_image.specs.declared.code.Code.{Code}
use Rattle.condition_codegen.specs.Fragments.{sequence}
use Rattle.condition_codegen.specs.DataCode.{item_number, dimensions_of, subscripts_fragment, reference_fragment}
use Rattle.condition_codegen.specs.ConditionCode.{condition_number, condition_item}
use Rattle.condition_codegen.specs.PatternCode.{pattern_fragment, pattern_of, set_of, initialize_fragment}
use Rattle.condition_codegen.specs.PatternCode.{initializes_fragment, set_fragment, sets_fragment}
use Rattle.condition_codegen.proofs.Lists.{left_none, right_none}
use Rattle.statement_codegen.proofs.NamedItems.{item_there}
use Rattle.codegen.proofs.Codes.{keeps, reference_coded}
use Rattle.codegen.proofs.CodedPieces.{CodedBy, both_by, before_by}
use Rattle.codegen.proofs.ConditionCodes.{keeps_name, name_subscripts}
use Rattle.condition_codegen.proofs.ConditionItems.{condition_there}
use Rattle.codegen.proofs.Lying.{lies_all}
use Rattle.codegen.proofs.Standing.{Stands, at_seam, text_stands}
use Rattle.condition_codegen.proofs.Setting.{set_kept}

-- the second text that a part adds
second_text_stands : (whole before part : Code) (x y : List ℕ) → part.tables.texts ≡ x ∷ y ∷ []
    → Stands whole before part
    → slice_get whole.tables.texts (length before.tables.texts + 1) ≡ Some y
second_text_stands whole before part x y is st =
    let pre = before.tables.texts in
    let rest = st.rest.tables.texts in
    let front = pre ++ x ∷ [] in
    let n : length pre + 1 ≡ length front = omega (arith, length-append pre (x ∷ [])) in
    let same : whole.tables.texts ≡ front ++ y ∷ rest =
    ap (λ (c : Code). c.tables.texts) st.is
    ∙ ap (λ (l : List (List ℕ)). (pre ++ l) ++ rest) is
    ∙ append_assoc pre (x ∷ y ∷ []) rest
    ∙ sym (append_assoc pre (x ∷ []) (y ∷ rest)) in
    ap (slice_get whole.tables.texts) n ∙ ap (λ (l : List (List ℕ)). slice_get l (length front)) same
    ∙ at_seam front y rest

module _ (items : List LocatedItem) (whole : Code) (entries : (n : ℕ) (one : LocatedItem) → slice_get items n ≡ Some one
    → slice_get whole.tables.items n ≡ Some (data_item one)) where
  -- new bytes with this pattern
  abbrev Overlaid : Pattern → List DataInstruction → Type 0
  Overlaid pattern code = (text : TextIndex) × HasPattern whole.tables pattern text × (code ≡ i.Overlay text ∷ [])

  pattern_codes : (pattern : Pattern) → CodedBy whole (Overlaid pattern) (pattern_fragment pattern)
  pattern_codes pattern = record {
    by = λ before st.
        let part = pattern_fragment pattern before in
        let bytes = map new_byte pattern in
        let marks = map new_mark pattern in
        record {
          code = i.Overlay (record { number = length before.tables.texts }) ∷ [];
          is = refl;
          holds = (
            _,
            record {
              bytes = text_stands whole before part bytes (marks ∷ []) refl st;
              marks = second_text_stands whole before part bytes marks refl st;
            },
            refl,
          );
        };
  }

  -- the same pattern
  overlaid_as : (one other : Pattern) → one ≡ other → CodedBy whole (Overlaid one) (pattern_fragment one)
      → CodedBy whole (Overlaid other) (pattern_fragment one)
  overlaid_as one other same c = subst (λ (p : Pattern). CodedBy whole (Overlaid p) (pattern_fragment one)) same c

  initialize_codes : (one : Reference) → reference_rules items any_item one ≡ []
      → CodedBy whole (IsInitializeCode items whole.tables one) (initialize_fragment items one)
  initialize_codes one e =
      let k = keeps items whole entries any_item one e in
      let pattern = pattern_of one (slice_get items (item_number items one.item)) in
      let shown = named_pattern (seen_through one k.found) in
      let same : pattern ≡ shown = ap (pattern_of one) (item_there items one.item k.found k.named) in
      both_by whole (IsReferenceCode items whole.tables one) (Overlaid shown)
      (IsInitializeCode items whole.tables one) (reference_fragment items one)
      (pattern_fragment pattern)
      (record { by = λ before st. reference_coded items whole entries any_item one before e st })
      (overlaid_as pattern shown same (pattern_codes pattern))
      (λ front back is over. (k.found, ap first k.named, over.0, over.1, (front, is, ap (λ l. front ++ l) over.2)))

  pub initializes_codes : (all : List Reference) → initialize_rules items all ≡ []
      → CodedBy whole (AreInitializedCode items whole.tables all) (initializes_fragment items all)
  initializes_codes [] e = record { by = λ before st. record { code = []; is = refl; holds = refl } }
  initializes_codes (one ∷ more) e =
      let rules = reference_rules items any_item in
      both_by whole (IsInitializeCode items whole.tables one) (AreInitializedCode items whole.tables more)
      (AreInitializedCode items whole.tables (one ∷ more))
      (initialize_fragment items one) (initializes_fragment items more)
      (initialize_codes one (left_none (rules one) (each rules more) e))
      (initializes_codes more (right_none (rules one) (each rules more) e))
      (λ front back is others. (front, is, back, others, refl))

  -- ---- SET

  -- what follows the place of a condition name's item
  abbrev IsSetEnd : NamedCondition → Reference → List DataInstruction → Type 0
  IsSetEnd found one code =
      (subscripts : List DataInstruction)
      × AreSubscriptsCode items whole.tables found.item.dimensions one.subscripts subscripts
      × (text : TextIndex) × HasPattern whole.tables (set_pattern found) text
      × (code ≡ subscripts ++ (i.Overlay text ∷ []))

  set_codes : (one : Reference) → set_one items one ≡ []
      → CodedBy whole (IsSetCode items whole.tables one) (set_fragment items one)
  set_codes one e =
      let k = keeps_name items whole entries one (set_kept items one e) in
      let index = condition_item items one.item in
      let subscripts = subscripts_fragment items (dimensions_of (slice_get items index.number)) one.subscripts in
      let pattern = set_of (slice_get (all_conditions items) (condition_number items one.item)) in
      let set_is : pattern ≡ set_pattern k.found = ap set_of (condition_there items one.item k.found k.named) in
      before_by whole (i.Place index ∷ []) (IsSetEnd k.found one) (IsSetCode items whole.tables one)
      (sequence subscripts (pattern_fragment pattern))
      (both_by whole (AreSubscriptsCode items whole.tables k.found.item.dimensions one.subscripts)
      (Overlaid (set_pattern k.found)) (IsSetEnd k.found one)
      subscripts (pattern_fragment pattern) (name_subscripts items whole entries one k)
      (overlaid_as pattern (set_pattern k.found) set_is (pattern_codes pattern))
      (λ front back is over. (front, is, over.0, over.1, ap (λ l. front ++ l) over.2)))
      (λ code is. (
        k.found,
        ap first k.named,
        index,
        entries index.number k.found.item k.item,
        is.0,
        is.1,
        is.2,
        is.3,
        ap (λ l. i.Place index ∷ l) is.4,
      ))

  pub sets_codes : (all : List Reference) → set_rules items all ≡ []
      → CodedBy whole (AreSetCode items whole.tables all) (sets_fragment items all)
  sets_codes [] e = record { by = λ before st. record { code = []; is = refl; holds = refl } }
  sets_codes (one ∷ more) e =
      let rules = set_one items in
      both_by whole (IsSetCode items whole.tables one) (AreSetCode items whole.tables more)
      (AreSetCode items whole.tables (one ∷ more))
      (set_fragment items one) (sets_fragment items more) (set_codes one (left_none (rules one) (each rules more) e))
      (sets_codes more (right_none (rules one) (each rules more) e))
      (λ front back is others. (front, is, back, others, refl))

  -- ---- areas

  module _ (lie : (n : ℕ) (one : LocatedItem) → slice_get items n ≡ Some one → LiesWhole whole.tables one) where
    pub lie_each : (all : List Reference) → initialize_rules items all ≡ [] → LieEach items whole.tables all
    lie_each [] e = tt
    lie_each (one ∷ more) e =
        let rules = reference_rules items any_item in (
          lies_all items whole entries lie any_item one (left_none (rules one) (each rules more) e),
          lie_each more (right_none (rules one) (each rules more) e),
        )

    lies_named : (one : Reference) → set_one items one ≡ [] → (found : NamedCondition)
        → first (conditions_named items one.item) ≡ Some found
        → LiesWhole whole.tables found.item
    lies_named one e found is =
        let k = keeps_name items whole entries one (set_kept items one e) in
        let same : k.found ≡ found = same_Some k.found found (sym (ap first k.named) ∙ is) in
        subst (λ (c : NamedCondition). LiesWhole whole.tables c.item) same
        (lie (condition_item items one.item).number k.found.item k.item)

    pub lie_conditions : (all : List Reference) → set_rules items all ≡ [] → LieConditions items whole.tables all
    lie_conditions [] e = tt
    lie_conditions (one ∷ more) e =
        let rules = set_one items in (
          lies_named one (left_none (rules one) (each rules more) e),
          lie_conditions more (right_none (rules one) (each rules more) e),
        )
