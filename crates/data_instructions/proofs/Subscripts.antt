-- The code of subscripts does what they mean.
use Rattle.std.proofs.Common.{◌≡◌, ℕ, ◌+◌, ◌<◌, ◌^◌, List, [], ◌∷◌, ◌++◌, refl, sym, ◌∙◌, ap, Option, Some, None, ℤ}
use Rattle.std.proofs.Common.{pos}
use Rattle.std.specs.Prelude.{unsigned_abs, Ok, Err}
use Rattle.std.proofs.Math.Nat.{add-zero, add_assoc}
use Rattle.decimal18.specs.Fraction.{Fraction}
use Rattle.items.specs.Items.{number_in}
use Rattle.source_tree.specs.declared.reference.Adjustment.{Adjustment}
use Rattle.source_tree.specs.declared.reference.Adjustment.TheVariants as adjustment
use Rattle.source_tree.specs.declared.reference.Subscript as written
use Rattle.source_tree.specs.declared.reference.Subscript.TheVariants as subscript
use Rattle.source_tree.specs.declared.table.Dimension.{Dimension}
use Rattle.source_tree.specs.Integers.{number_of}
use Rattle.source_tree.specs.Places.{LocatedItem}
use Rattle.source_tree.specs.Computed.{number_or_none}
use Rattle.source_tree.specs.Evaluated.{Evaluation, ◌>>=◌, evaluation_of}
use Rattle.source_tree.specs.References.{part_of, subscript_value, adjusted_subscript, integer_in, whole_part}
use Rattle.source_tree.specs.References.{occurrence_offset}
use Rattle.source_tree.specs.References as tree
use Rattle.data_instructions.specs.declared.index.ItemIndex.{ItemIndex}
use Rattle.data_instructions.specs.declared.index.NumberIndex.{NumberIndex}
use Rattle.data_instructions.specs.declared.tables.DataTables.{DataTables}
use Rattle.data_instructions.specs.declared.calculation.Calculation.TheVariants as calculation
use Rattle.data_instructions.specs.declared.instruction.DataInstruction.{DataInstruction}
use Rattle.data_instructions.specs.declared.instruction.DataInstruction.TheVariants as i
use Rattle.data_instructions.specs.Tables.{IsTables, shortened_item, item_place}
use Rattle.data_instructions.specs.Scratch.{Scratch, Step, Continues, Faulted, Stuck, step_with, step_at}
use Rattle.data_instructions.specs.Table.{place_step, push_step, bytes_before, read_step, work}
use Rattle.data_instructions.specs.Codes.{go_on, works, data_item, integer, HasInteger, IsAdjustmentCode}
use Rattle.data_instructions.specs.Codes.{IsSubscriptCode, AreSubscriptsCode, index_code}
use Rattle.data_instructions.proofs.Integers.{whole_integer, sum_integers, difference_integers, integer_in_bytes}

-- one part after another
pub go_with : {A : Type 0} (r : Evaluation A) (f : A → Step) (go : Scratch → Step)
    → go_on (step_with r f) go ≡ step_with r (λ x. go_on (f x) go)
go_with (Ok x) f go = refl
go_with (Err fault) f go = refl

pub with_same : {A : Type 0} (r : Evaluation A) (f g : A → Step) → ((x : A) → f x ≡ g x) → step_with r f ≡ step_with r g
with_same (Ok x) f g same = same x
with_same (Err fault) f g same = refl

pub with_bind : {A B : Type 0} (r : Evaluation A) (f : A → Evaluation B) (go : B → Step)
    → step_with (r >>= f) go ≡ step_with r (λ x. step_with (f x) go)
with_bind (Ok x) f go = refl
with_bind (Err fault) f go = refl

-- what is found out, where it is
pub with_known : {A : Type 0} (r : Evaluation A) (f g : A → Step) → ((x : A) → r ≡ Ok x → f x ≡ g x)
    → step_with r f ≡ step_with r g
with_known (Ok x) f g same = same x refl
with_known (Err fault) f g same = refl

pub bound : {A B : Type 0} (r : Evaluation A) (f : A → Evaluation B) (y : B) → r >>= f ≡ Ok y
    → (x : A) × (r ≡ Ok x) × (f x ≡ Ok y)
bound (Ok x) f y e = (x, refl, e)
bound (Err fault) f y e = absurd cc

abbrev pub okay : {A : Type 0} → A → Evaluation A
okay x = Ok x

pub same_Ok : {A : Type 0} (x y : A) → okay x ≡ okay y → x ≡ y
same_Ok x y e = cc

go_twice : (step : Step) (both one other : Scratch → Step) → ((t : Scratch) → both t ≡ go_on (one t) other)
    → go_on step both ≡ go_on (go_on step one) other
go_twice (Continues t) both one other same = same t
go_twice (Faulted fault) both one other same = refl
go_twice Stuck both one other same = refl

pub works_append : (tables : DataTables) (a b : List DataInstruction) (s : Scratch)
    → works tables (a ++ b) s ≡ go_on (works tables a s) (works tables b)
works_append tables [] b s = refl
works_append tables (one ∷ a) b s = go_twice (work tables one s) (works tables (a ++ b)) (works tables a)
    (works tables b) (λ t. works_append tables a b t)

pub nothing_more : (tables : DataTables) (step : Step) → go_on step (works tables []) ≡ step
nothing_more tables (Continues s) = refl
nothing_more tables (Faulted fault) = refl
nothing_more tables Stuck = refl

pub go_same : (step : Step) (f g : Scratch → Step) → ((s : Scratch) → f s ≡ g s) → go_on step f ≡ go_on step g
go_same (Continues s) f g same = same s
go_same (Faulted fault) f g same = refl
go_same Stuck f g same = refl

-- a place of an item, so many bytes after the begin of its area
abbrev pub at : ItemIndex → ℕ → ℕ → Scratch → Scratch
at index size offset s = record s { places = record { item = index; offset = offset; length = size } ∷ s.places }

module _ (items : List LocatedItem) (tables : DataTables) (order : IsTables tables) where
  literal_works : (number : NumberIndex) (n : ℕ) → HasInteger tables number n
      → (more : List DataInstruction) (s : Scratch) → works tables (i.Literal number ∷ more) s ≡ works tables more
      (record s { numbers = Some (integer (pos n)) ∷ s.numbers })
  literal_works number n has more s =
      ap (λ o. go_on (step_at o (λ x. push_step (Some x) s)) (works tables more)) has.entry

  adjustment_works : (one : Adjustment) (code : List DataInstruction) → IsAdjustmentCode items tables one code → (z : ℤ)
      → unsigned_abs z < 10 ^ 18 → (s : Scratch)
      → works tables code (record s { numbers = Some (integer z) ∷ s.numbers })
      ≡ Continues (record s { numbers = Some (integer (adjusted_subscript one z)) ∷ s.numbers })
  adjustment_works adjustment.Nothing code is z small s =
      ap (λ c. works tables c (record s { numbers = Some (integer z) ∷ s.numbers })) is
  adjustment_works (adjustment.Plus n) code (number, has, is) z small s =
      let t : Scratch = record s { numbers = Some (integer z) ∷ s.numbers } in
      ap (λ c. works tables c t) is ∙ literal_works number (number_of n) has (i.Calculate calculation.Add ∷ []) t
      ∙ ap (λ r. Continues (record s { numbers = number_or_none r ∷ s.numbers }))
      (sum_integers z (number_of n) small has.small)
  adjustment_works (adjustment.Minus n) code (number, has, is) z small s =
      let t : Scratch = record s { numbers = Some (integer z) ∷ s.numbers } in
      ap (λ c. works tables c t) is ∙ literal_works number (number_of n) has (i.Calculate calculation.Subtract ∷ []) t
      ∙ ap (λ r. Continues (record s { numbers = number_or_none r ∷ s.numbers }))
      (difference_integers z (number_of n) small has.small)

  -- the number of a subscript comes on the stack, or fault 90
  pub subscript_works : (one : written.Subscript) (code : List DataInstruction) → IsSubscriptCode items tables one code
      → (s : Scratch)
      → works tables code s ≡ step_with (subscript_value items one s.storage)
      (λ z. Continues (record s { numbers = Some (integer z) ∷ s.numbers }))
  subscript_works (subscript.Literal n) code (number, has, is) s =
      ap (λ c. works tables c s) is ∙ literal_works number (number_of n) has [] s
  subscript_works (subscript.Item name adjusting) code (index, found, has, integral, more, adjusts, is) s =
      let t : Scratch =
      record s { places = record { item = index; offset = found.offset; length = found.item.length } ∷ s.places } in
      ap (λ c. works tables c s) is
      ∙ ap (λ o. go_on (step_at o (λ one. place_step index one s)) (works tables (i.Push ∷ more))) has.entry
      ∙ ap (λ o. go_on (step_at o (λ one. read_step (item_place (shortened_item one found.item.length) found.offset) s))
      (works tables more)) has.entry
      ∙ by_number (number_in found.item.kind (part_of s.storage (item_place (data_item found) found.offset))) refl
      ∙ ap (λ offset. step_with
      (evaluation_of (whole_part (number_in found.item.kind (part_of s.storage (item_place (data_item found) offset))))
      >>= (λ z. Ok (adjusted_subscript adjusting z))) done) (sym (add-zero found.offset))
      ∙ ap (λ o. step_with (evaluation_of o >>=
      (λ found. integer_in s.storage found >>= (λ z. Ok (adjusted_subscript adjusting z)))) done) (sym has.named)
    where
      done : ℤ → Step
      done z = Continues (record s { numbers = Some (integer z) ∷ s.numbers })

      by_number : (o : Option Fraction)
          → number_in found.item.kind (part_of s.storage (item_place (data_item found) found.offset)) ≡ o
          → go_on (step_with (evaluation_of o) (λ x. push_step (Some x) s)) (works tables more)
          ≡ step_with (evaluation_of (whole_part o) >>= (λ z. Ok (adjusted_subscript adjusting z))) done
      by_number None none = refl
      by_number (Some x) number =
          let form = (order.items index.number (data_item found) has.entry).form in
          let holds = integer_in_bytes found.item.kind (part_of s.storage (item_place (data_item found) found.offset)) x
          found.item.length form integral number in
          ap (λ y. works tables more (record s { numbers = Some y ∷ s.numbers })) holds.0
          ∙ adjustment_works adjusting more adjusts x.coefficient holds.1 s
          ∙ sym (ap (λ o. step_with (evaluation_of o >>= (λ z. Ok (adjusted_subscript adjusting z))) done)
          (ap (λ y. whole_part (Some y)) holds.0 ∙ whole_integer x.coefficient))

  pub subscripts_works :
      (dimensions : List Dimension) (subscripts : List written.Subscript) (code : List DataInstruction)
      → AreSubscriptsCode items tables dimensions subscripts code → (index : ItemIndex) (size offset : ℕ) (s : Scratch)
      → works tables code (at index size offset s) ≡ step_with (tree.bytes_before items dimensions subscripts s.storage)
      (λ more. Continues (at index size (offset + more) s))
  subscripts_works [] subscripts code is index size offset s = ap (λ c. works tables c (at index size offset s)) is
      ∙ ap (λ n. Continues (at index size n s)) (sym (add-zero offset))
  subscripts_works (one ∷ more) [] code is index size offset s = absurd is
  subscripts_works (one ∷ more) (written ∷ others) code (front, is_front, back, is_back, is) index size offset s =
      let t : Scratch = at index size offset s in
      ap (λ c. works tables c t) is
      ∙ works_append tables front (index_code one ∷ back) t
      ∙ ap (λ step. go_on step (works tables (index_code one ∷ back))) (subscript_works written front is_front t)
      ∙ go_with (subscript_value items written s.storage)
      (λ z. Continues (record t { numbers = Some (integer z) ∷ s.numbers })) (works tables (index_code one ∷ back))
      ∙ with_same (subscript_value items written s.storage) _ _
      (indexes (λ here. subscripts_works more others back is_back index size (offset + here) s))
      ∙ sym (with_bind (subscript_value items written s.storage)
      (λ z. occurrence_offset one z >>= (λ here. rest >>= (λ more. Ok (here + more)))) done)
    where
      done : ℕ → Step
      done more = Continues (at index size (offset + more) s)

      rest : Evaluation ℕ
      rest = tree.bytes_before items more others s.storage

      Adds : Type 0
      Adds = (here : ℕ) → works tables back (at index size (offset + here) s) ≡ step_with rest
          (λ more. Continues (at index size (offset + here + more) s))

      adds : Adds → (here : ℕ)
          → works tables back (at index size (offset + here) s) ≡ step_with (rest >>= (λ more. Ok (here + more))) done
      adds each here =
          each here
          ∙ with_same rest _ _ (λ more. ap (λ n. Continues (at index size n s)) (add_assoc offset here more))
          ∙ sym (with_bind rest (λ more. Ok (here + more)) done)

      indexes : Adds → (z : ℤ) → works tables (index_code one ∷ back)
          (record (at index size offset s) { numbers = Some (integer z) ∷ s.numbers }) ≡ step_with
          (occurrence_offset one z >>= (λ here. rest >>= (λ more. Ok (here + more)))) done
      indexes each z =
          go_with (bytes_before one (Some (integer z))) (λ here. Continues (at index size (offset + here) s))
          (works tables back)
          ∙ ap (λ o. step_with (evaluation_of o >>= occurrence_offset one)
          (λ here. works tables back (at index size (offset + here) s))) (whole_integer z)
          ∙ with_same (occurrence_offset one z) _ _ (adds each)
          ∙ sym (with_bind (occurrence_offset one z) (λ here. rest >>= (λ more. Ok (here + more))) done)
