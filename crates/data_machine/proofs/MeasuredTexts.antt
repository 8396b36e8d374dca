-- A text that is measured.
use Rattle.std.proofs.Common.{◌≡◌, ℕ, ◌+◌, ◌-◌, List, ◌∷◌, ◌++◌, length, take, Some, ap, sym, subst, ◌∙◌, arith}
use Rattle.std.proofs.Common.{append_assoc, length-append}
use Rattle.std.specs.Prelude.{Result, replicate, slice_get}
use Rattle.std.proofs.Math.Seq.{take-append-add}
use Rattle.items.specs.Texts.{padded_text, space}
use Rattle.source_tree.specs.Computed.{ArithmeticValue}
use Rattle.source_tree.specs.References.{ItemPlace, part_of}
use Rattle.data_instructions.specs.declared.place.Place.{Place}
use Rattle.data_instructions.specs.declared.tables.DataItem.{DataItem}
use Rattle.data_instructions.specs.declared.tables.DataTables.{DataTables}
use Rattle.data_instructions.specs.declared.fault.ProgramFault.{ProgramFault}
use Rattle.data_instructions.specs.Scratch.{Scratch, Continues, step_at}
use Rattle.data_instructions.specs.Table.{number_of, append_measured, measured_step}
use Rattle.data_instructions.specs.Tables.{shortened_item, item_place}
use Rattle.data_machine.specs.Comes.{IsStepOf}

-- behind a line
pub padded_behind : (line text : List ℕ) (size : ℕ)
    → padded_text (length line + size) (line ++ text) ≡ line ++ padded_text size text
padded_behind line text size =
    let whole = length-append line text in
    let left : (length line + size) - length (line ++ text) ≡ size - length text = omega (arith, whole) in
    ap (λ l. l ++ replicate ((length line + size) - length (line ++ text)) space) (take-append-add line text size)
    ∙ ap (λ n. (line ++ take size text) ++ replicate n space) left
    ∙ append_assoc line (take size text) (replicate (size - length text) space)

-- what an item's bytes leave that are padded to a size, and the numbers that were pushed
pub measured_comes : (s : Scratch) (place : ItemPlace) (size : ℕ) (bytes text start appended line : List ℕ)
    (first second : ArithmeticValue) (inner numbers : List ArithmeticValue)
    → bytes ≡ part_of s.storage place → text ≡ padded_text place.item.length bytes → start ≡ s.line
    → appended ≡ s.line ++ text → line ≡ padded_text (length start + size) appended
    → first ≡ number_of (length start) → inner ≡ first ∷ s.numbers → second ≡ number_of place.item.length
    → numbers ≡ second ∷ inner
    → append_measured size place s ≡ Continues (record s { line = line; numbers = numbers })
measured_comes s place size bytes text start appended line first second inner numbers bytes_are text_is start_is
    appended_is line_is first_is inner_is second_is numbers_are =
    let counted = number_of place.item.length ∷ number_of (length s.line) ∷ s.numbers in
    let put : List ℕ → List ArithmeticValue → _ = λ l n. Continues (record s { line = l; numbers = n }) in
    let text_read = text_is ∙ ap (padded_text place.item.length) bytes_are in
    let line_put = line_is ∙ ap (λ b. padded_text (length b + size) appended) start_is
    ∙ ap (padded_text (length s.line + size)) appended_is ∙ padded_behind s.line text size in
    let numbers_put = numbers_are ∙ ap (λ x. x ∷ inner) second_is
    ∙ ap (λ l. number_of place.item.length ∷ l) (inner_is ∙ ap (λ x. x ∷ s.numbers)
    (first_is ∙ ap (λ b. number_of (length b)) start_is)) in
    ap (λ t. put (s.line ++ padded_text size t) counted) (sym text_read)
    ∙ ap (λ l. put l counted) (sym line_put)
    ∙ ap (put line) (sym numbers_put)

-- the same at the newest place
pub measured_does : {A : Type 0} (r : Result A ProgramFault) (tables : DataTables) (s now : Scratch) (p : Place)
    (ps : List Place) (one seen : DataItem) → s.places ≡ p ∷ ps → slice_get tables.items p.item.number ≡ Some one
    → seen ≡ shortened_item one p.length
    → IsStepOf r now (append_measured one.item.length (item_place seen p.offset) (record s { places = ps }))
    → IsStepOf r now (measured_step tables s.places s)
measured_does r tables s now p ps one seen places here seen_is does =
    subst (λ xs. IsStepOf r now (measured_step tables xs s)) (sym places)
    (subst (λ o. IsStepOf r now (step_at o (λ (it : DataItem). append_measured it.item.length
    (item_place (shortened_item it p.length) p.offset) (record s { places = ps })))) (sym here)
    (subst (λ (o : DataItem). IsStepOf r now (append_measured one.item.length (item_place o p.offset)
    (record s { places = ps }))) seen_is does))
