-- Texts put into receivers.
use Rattle.std.proofs.Common.{◌≡◌, ℕ, zero, suc, ◌+◌, ◌-◌, ◌<◌, ◌≤◌, ◌⊎◌, inl, inr, length, map, List, [], ◌∷◌, refl}
use Rattle.std.proofs.Common.{sym, ◌∙◌, ap, subst, arith, drop}
use Rattle.std.specs.Prelude.{Bool, true, false, ◌||◌, if◌then◌else◌, nat_lt, pos, slice_get, slice_index_or, Option}
use Rattle.std.specs.Prelude.{Some, Result, Ok, Err, ℤ}
use Rattle.std.proofs.lemmas.Bool.Decides.{nat_tests}
use Rattle.std.proofs.lemmas.List.{length-take, length-drop}
use Rattle.text_ops.specs.Strings.{string_of_senders}
use Rattle.source_tree.specs.Storage.{Storage}
use Rattle.decimal18.specs.Fraction.{Fraction}
use Rattle.items.specs.declared.item.Kind.{Kind}
use Rattle.items.specs.Items.{number_in}
use Rattle.source_tree.specs.Computed.{ArithmeticValue}
use Rattle.source_tree.specs.Evaluated.{Evaluation, ◌>>=◌, evaluation_of}
use Rattle.source_tree.specs.References.{ItemPlace, part_of, storage_with, whole_part}
use Rattle.source_tree.specs.Arithmetic.{StoreResult, before_stores, store}
use Rattle.source_tree.specs.Stringing.{Strings, held_position, position, store_strung, put_text}
use Rattle.data_instructions.specs.declared.place.Place.{Place}
use Rattle.data_instructions.specs.declared.tables.DataItem.{DataItem}
use Rattle.data_instructions.specs.declared.tables.DataTables.{DataTables}
use Rattle.data_instructions.specs.declared.fault.ProgramFault.{ProgramFault}
use Rattle.data_instructions.specs.Tables.{shortened_item, item_place}
use Rattle.data_instructions.specs.Scratch.{Scratch, step_with, step_at}
use Rattle.data_instructions.specs.Table.{at_newest, at_place, strung_to, strung_by}
use Rattle.data_machine.specs.Finds.{IsAtOffset}
use Rattle.data_machine.specs.Comes.{IsStepOf}
use Rattle.data_machine.specs.Stringing.{put_from, strung_with}

-- areas of the same lengths
same_lengths : (xs ys : Storage) (i : ℕ) → map length xs ≡ map length ys
    → (length xs ≡ length ys) × (length (slice_index_or xs i []) ≡ length (slice_index_or ys i []))
same_lengths [] [] i e = (refl, refl)
same_lengths [] (y ∷ ys) i e = absurd cc
same_lengths (x ∷ xs) [] i e = absurd cc
same_lengths (x ∷ xs) (y ∷ ys) zero e = (
  ap suc (same_lengths xs ys zero (tails (length x) (length y) (map length xs) (map length ys) e)).0,
  heads (length x) (length y) (map length xs) (map length ys) e,
)
  where
    heads : (m n : ℕ) (ms ns : List ℕ) → m ∷ ms ≡ n ∷ ns → m ≡ n
    heads m n ms ns e = cc

    tails : (m n : ℕ) (ms ns : List ℕ) → m ∷ ms ≡ n ∷ ns → ms ≡ ns
    tails m n ms ns e = cc
same_lengths (x ∷ xs) (y ∷ ys) (suc i) e =
    let rest =
    same_lengths xs ys i (tails (length x) (length y) (map length xs) (map length ys) e) in (ap suc rest.0, rest.1)
  where
    tails : (m n : ℕ) (ms ns : List ℕ) → m ∷ ms ≡ n ∷ ns → ms ≡ ns
    tails m n ms ns e = cc

-- where areas keep their lengths an item still stands
pub stands_still : (one : DataItem) (old new : Storage) (offset : ℕ) → map length new ≡ map length old
    → IsAtOffset one old offset → IsAtOffset one new offset
stands_still one old new offset e at =
    let same = same_lengths new old one.area e in
    let count = same.0 in
    let size = same.1 in
    record {
      form = at.form;
      editing = at.editing;
      area = omega (arith, count, at.area);
      within = omega (arith, size, at.within);
    }

-- an item that stands has all its bytes
pub part_long : (one : DataItem) (storage : Storage) (offset : ℕ) → IsAtOffset one storage offset
    → length (part_of storage (item_place one offset)) ≡ one.item.length
part_long one storage offset at =
    let area : List ℕ = slice_index_or storage one.area [] in
    let front = length-take (offset + one.item.length - offset) (drop offset area) in
    let back = length-drop offset area in
    omega (arith, front, back, at.within)

is_outside : (at size : ℕ) → (at < 1) ⊎ (size < at) → nat_lt at 1 || nat_lt size at ≡ true
is_outside at size h = by (nat_lt at 1) (nat_lt size at) refl refl h
  where
    by : (a b : Bool) → nat_lt at 1 ≡ a → nat_lt size at ≡ b → (at < 1) ⊎ (size < at) → a || b ≡ true
    by true b ea eb h = refl
    by false true ea eb h = refl
    by false false ea eb (inl x) = grind (arith, nat_tests)
    by false false ea eb (inr x) = grind (arith, nat_tests)

is_within : (at size : ℕ) → 1 ≤ at → at ≤ size → nat_lt at 1 || nat_lt size at ≡ false
is_within at size some most = by (nat_lt at 1) (nat_lt size at) refl refl
  where
    by : (a b : Bool) → nat_lt at 1 ≡ a → nat_lt size at ≡ b → a || b ≡ false
    by false false ea eb = refl
    by true b ea eb = grind (arith, nat_tests)
    by false true ea eb = grind (arith, nat_tests)

module _ (receiver : ItemPlace) (pointer : Option ItemPlace) (text : List ℕ) (storage : Storage) where
  abbrev either : ℕ → Bool → Evaluation Strings
  either at b =
      if b then Ok (record { storage = storage; overflow = true })
      else store_strung receiver pointer (string_of_senders at text (part_of storage receiver)) storage

  -- outside of the receiver nothing is stored
  pub put_outside : (at size : ℕ) → length (part_of storage receiver) ≡ size → (at < 1) ⊎ (size < at)
      → put_text receiver pointer at text storage ≡ Ok (record { storage = storage; overflow = true })
  put_outside at size long h = ap (either at) (ap (λ n. nat_lt at 1 || nat_lt n at) long ∙ is_outside at size h)

  pub put_within : (at size : ℕ) → length (part_of storage receiver) ≡ size → 1 ≤ at
      → at ≤ size → put_text receiver pointer at text storage ≡ store_strung receiver pointer
      (string_of_senders at text (part_of storage receiver)) storage
  put_within at size long some most =
      ap (either at) (ap (λ n. nat_lt at 1 || nat_lt n at) long ∙ is_within at size some most)

module _ (receiver pointer : ItemPlace) (text : List ℕ) (old : Storage) where
  abbrev from : ℕ → Evaluation Strings
  from at = put_text receiver (Some pointer) at text old

  abbrev stored_pointer : ℕ → Storage → Evaluation StoreResult
  stored_pointer next storage =
      store false false pointer (Some (record { coefficient = pos next; scale = 0 })) (before_stores storage)

  abbrev ends : Bool → StoreResult → Evaluation Strings
  ends overflow after = Ok (record { storage = after.storage; overflow = overflow })

  -- what comes of the text within, by what comes of the pointer
  put_by_pointer : (at size next : ℕ) (overflow : Bool) (mid : Storage) → held_position old pointer ≡ Ok at
      → length (part_of old receiver) ≡ size → 1 ≤ at → at ≤ size
      → mid ≡ storage_with receiver (string_of_senders at text (part_of old receiver)).receiver old
      → next ≡ (string_of_senders at text (part_of old receiver)).pointer
      → overflow ≡ (string_of_senders at text (part_of old receiver)).overflow
      → put_from receiver pointer text old ≡ (stored_pointer next mid >>= (λ after. Ok after.storage)) >>=
      (λ after. Ok (record { storage = after; overflow = overflow }))
  put_by_pointer at size next overflow mid held long some most middle behind over =
      ap (λ (e : Evaluation ℕ). e >>= from) held
      ∙ put_within receiver (Some pointer) text old at size long some most
      ∙ ap (λ (s : Storage). (stored_pointer
      (string_of_senders at text (part_of old receiver)).pointer s >>= (λ after. Ok after.storage)) >>= (λ after.
      Ok (record { storage = after; overflow = (string_of_senders at text (part_of old receiver)).overflow })))
      (sym middle)
      ∙ ap (λ n. (stored_pointer n mid >>= (λ after. Ok after.storage)) >>= (λ after.
      Ok (record { storage = after; overflow = (string_of_senders at text (part_of old receiver)).overflow })))
      (sym behind)
      ∙ ap (λ (b : Bool). (stored_pointer next mid >>= (λ after. Ok after.storage)) >>=
      (λ after. Ok (record { storage = after; overflow = b }))) (sym over)

  -- the pointer is outside, or no integer
  pub put_nowhere : (at size : ℕ) → held_position old pointer ≡ Ok at → length (part_of old receiver) ≡ size
      → (at < 1) ⊎ (size < at) → put_from receiver pointer text old ≡ Ok (record { storage = old; overflow = true })
  put_nowhere at size held long outside =
      ap (λ (e : Evaluation ℕ). e >>= from) held ∙ put_outside receiver (Some pointer) text old at size long outside

  -- the same with what came of storing the pointer
  pub put_from_position : (at size next : ℕ) (overflow : Bool) (mid : Storage) (x : Fraction)
      (r : Evaluation StoreResult) → held_position old pointer ≡ Ok at → length (part_of old receiver) ≡ size → 1 ≤ at
      → at ≤ size → mid ≡ storage_with receiver (string_of_senders at text (part_of old receiver)).receiver old
      → next ≡ (string_of_senders at text (part_of old receiver)).pointer
      → overflow ≡ (string_of_senders at text (part_of old receiver)).overflow
      → record { coefficient = pos next; scale = 0 } ≡ x → store false false pointer (Some x) (before_stores mid) ≡ r
      → put_from receiver pointer text old
      ≡ (r >>= (λ after. Ok after.storage)) >>= (λ after. Ok (record { storage = after; overflow = overflow }))
  put_from_position at size next overflow mid x r held long some most middle behind over number stored =
      put_by_pointer at size next overflow mid held long some most middle behind over
      ∙ ap (λ (e : Evaluation StoreResult). (e >>= (λ (after : StoreResult). Ok after.storage))
      >>= (λ (after : Storage). Ok (record { storage = after; overflow = overflow })))
      (ap (λ (y : Fraction). store false false pointer (Some y) (before_stores mid)) number ∙ stored)

-- the position that an item holds, as it was read
pub position_read : (kind : Kind) (bytes part : List ℕ) (x : ArithmeticValue) (z : ℤ) → bytes ≡ part
    → x ≡ number_in kind bytes → evaluation_of (whole_part x) ≡ Ok z
    → (evaluation_of (whole_part (number_in kind part)) >>= (λ (z : ℤ). Ok (position z))) ≡ Ok (position z)
position_read kind bytes part x z same number whole =
    ap (λ (b : List ℕ). evaluation_of (whole_part (number_in kind b)) >>= (λ (z : ℤ). Ok (position z))) (sym same)
    ∙ ap (λ (y : ArithmeticValue). evaluation_of (whole_part y) >>= (λ (z : ℤ). Ok (position z))) (sym number)
    ∙ ap (λ (e : Evaluation ℤ). e >>= (λ (z : ℤ). Ok (position z))) whole

-- ---- the table's step

module _ (tables : DataTables) (s : Scratch) (p q : Place) (rest : List Place) (to one : DataItem) where
  abbrev below : Scratch
  below = record s { places = rest }

  abbrev pointed : ItemPlace
  pointed = item_place (shortened_item to p.length) p.offset

  abbrev received : ItemPlace
  received = item_place (shortened_item one q.length) q.offset

  joined : (held : Evaluation ℕ) → step_with held (λ at. strung_to (Some pointed) at received below)
      ≡ step_with (held >>= (λ at. put_text received (Some pointed) at s.line s.storage)) (strung_with below)
  joined (Ok at) = refl
  joined (Err fault) = refl

  found : s.places ≡ p ∷ (q ∷ rest) → slice_get tables.items p.item.number ≡ Some to
      → slice_get tables.items q.item.number ≡ Some one
      → strung_by tables true s ≡ step_with (put_from received pointed s.line s.storage) (strung_with below)
  found is here there =
      ap (λ (ps : List Place). at_newest tables ps (λ pointer t.
      step_with (held_position t.storage pointer) (λ at. at_place tables (strung_to (Some pointer) at) t)) s) is
      ∙ ap (λ (o : Option DataItem). step_at o (λ to.
      step_with (held_position s.storage (item_place (shortened_item to p.length) p.offset)) (λ at. at_place tables
      (strung_to (Some (item_place (shortened_item to p.length) p.offset)) at) (record s { places = q ∷ rest })))) here
      ∙ ap (λ (o : Option DataItem). step_with (held_position s.storage pointed) (λ at.
      step_at o (λ one. strung_to (Some pointed) at (item_place (shortened_item one q.length) q.offset) below))) there
      ∙ joined (held_position s.storage pointed)

  -- the items as they were seen
  pub strung_as : {A : Type 0} (r : Result A ProgramFault) (now : Scratch) (seen_to seen_one : DataItem)
      → seen_to ≡ shortened_item to p.length → seen_one ≡ shortened_item one q.length
      → s.places ≡ p ∷ (q ∷ rest) → slice_get tables.items p.item.number ≡ Some to
      → slice_get tables.items q.item.number ≡ Some one
      → IsStepOf r now (step_with
      (put_from (item_place seen_one q.offset) (item_place seen_to p.offset) s.line s.storage) (strung_with below))
      → IsStepOf r now (strung_by tables true s)
  strung_as r now seen_to seen_one to_is one_is is here there comes =
      subst (IsStepOf r now)
      (ap (λ (o : DataItem). step_with (put_from (item_place o q.offset) (item_place seen_to p.offset) s.line s.storage)
      (strung_with below)) one_is
      ∙ ap (λ (o : DataItem).
      step_with (put_from received (item_place o p.offset) s.line s.storage) (strung_with below)) to_is
      ∙ sym (found is here there))
      comes
