-- The items of a group lie within it.
use Rattle.std.proofs.Common.{◌≡◌, ℕ, ◌+◌, ◌-◌, ◌*◌, ◌≤◌, Bool, true, false, if◌then◌else◌, List, [], ◌∷◌, ◌++◌, refl}
use Rattle.std.proofs.Common.{ap, None, Some, arith}
use Rattle.std.specs.Prelude.{Option}
use Rattle.std.specs.List.{AllByRecursion}
use Rattle.std.proofs.Math.Nat.{add-mul}
use Rattle.items.specs.declared.item.Item.{Item}
use Rattle.source_tree.specs.declared.literal.Integer.{Integer}
use Rattle.source_tree.specs.declared.table.Dimension.{Dimension}
use Rattle.source_tree.specs.declared.entry.Around.{Around}
use Rattle.source_tree.specs.declared.entry.ItemEntry.{ItemEntry}
use Rattle.source_tree.specs.Integers.{number_of}
use Rattle.source_tree.specs.Levels.{Forest, End, Tree}
use Rattle.source_tree.specs.Clauses.{inside, count_in, occurrences}
use Rattle.source_tree.specs.Rooms.{redefines, room, extent, item_with}
use Rattle.source_tree.specs.Places.{LocatedItem, Surroundings, with_dimension, dimensions_of, within, places}
use Rattle.initial_storage.specs.Reach.{reach}

-- An item has room for those in it, and isn't longer than what it redefines, which has so many bytes.
pub record IsSized (around : Around) (object : ℕ) (one : ItemEntry) (inner : Forest) : Type 0 where
  pub some : 1 ≤ occurrences one
  pub shorter : redefines one ≡ true → extent around one (room (inside around one) inner) ≤ object
  pub room : room (inside around one) inner ≤ (item_with around one inner).length

abbrev pub Sized : Around → ℕ → Forest → Type 0
Sized around object End = Unit {0}
Sized around object (Tree one conditions inner next) =
    IsSized around object one inner × Sized (inside around one) 0 inner
    × Sized around (if redefines one then object else extent around one (room (inside around one) inner)) next

-- it lies in that area, before that place
abbrev pub Ends : ℕ → ℕ → LocatedItem → Type 0
Ends area limit one = (one.area ≡ area) × (one.offset + reach one.dimensions + one.item.length ≤ limit)

pub all_append : {A : Type 0} (P : A → Type 0) (xs ys : List A) → AllByRecursion P xs → AllByRecursion P ys
    → AllByRecursion P (xs ++ ys)
all_append P [] ys h k = k
all_append P (x ∷ xs) ys h k = (h.0, all_append P xs ys h.1 k)

reach_behind : (dimensions : List Dimension) (one : Dimension)
    → reach (dimensions ++ one ∷ []) ≡ reach dimensions + (one.count - 1) * one.stride
reach_behind [] one = omega arith
reach_behind (first ∷ more) one = let h = reach_behind more one in omega (arith, h)

reach_own : (occurs : Option Integer) (size : ℕ) (dimensions : List Dimension)
    → reach (with_dimension occurs size dimensions) ≡ reach dimensions + (count_in occurs - 1) * size
reach_own None size dimensions = omega arith
reach_own (Some count) size dimensions = reach_behind dimensions (record { stride = size; count = number_of count })

one_more : (n size : ℕ) → 1 ≤ n → (n - 1) * size + size ≡ n * size
one_more n size h =
    let e : n - 1 + 1 ≡ n = omega arith in
    let f : (n - 1 + 1) * size ≡ (n - 1) * size + 1 * size = add-mul (n - 1) 1 size in
    let g : (n - 1 + 1) * size ≡ n * size = ap (λ k. k * size) e in
    omega (arith, f, g)

-- where an item ends that begins at the next byte or where the last one does, and where the group has got to then
step : (redefining : Bool) (last here object limit taken own before rest : ℕ) → (redefining ≡ true → own ≤ object)
    → last + object + before ≤ limit
    → here + ((if redefining then 0 else own) + rest) + before ≤ limit
    → ((if redefining then last else here) + before + own ≤ limit)
    × ((if redefining then last else here) + (if redefining then object else own) + before ≤ limit)
    × (here + (if redefining then 0 else own) + rest + before ≤ limit)
step true last here object limit taken own before rest short a b = let s =
    short refl in (omega (arith, s, a), omega (arith, a), omega (arith, b))
step false last here object limit taken own before rest short a b =
    (omega (arith, b), omega (arith, b), omega (arith, b))

pub within_group : (around : Surroundings) (object last here limit : ℕ) (F : Forest) → Sized around.around object F
    → last + object + reach around.dimensions ≤ limit → here + room around.around F + reach around.dimensions ≤ limit
    → AllByRecursion (Ends around.area limit) (places around last here F)
within_group around object last here limit End sized a b = tt
within_group around object last here limit (Tree one conditions inner next) sized a b =
    let item : Item = item_with around.around one inner in
    let own : ℕ = occurrences one * item.length in
    let at : ℕ = if redefines one then last else here in
    let before : ℕ = reach around.dimensions in
    let parts =
    step (redefines one) last here object limit 0 own before (room around.around next) sized.0.shorter a b in
    let times : (occurrences one - 1) * item.length + item.length ≡ own =
    one_more (occurrences one) item.length sized.0.some in
    let more : reach (dimensions_of around one item) ≡ before + (occurrences one - 1) * item.length =
    reach_own one.occurs item.length around.dimensions in
    let end : at + reach (dimensions_of around one item) + item.length ≤ limit = omega (arith, parts.0, times, more) in
    let start : at + 0 + reach (dimensions_of around one item) ≤ limit = omega (arith, end) in
    let room_in : at + room (inside around.around one) inner + reach (dimensions_of around one item) ≤ limit =
    omega (arith, end, sized.0.room) in (
      (refl, end),
      all_append (Ends around.area limit) (places (within around one item) at at inner)
          (places around at (here + (if redefines one then 0 else own)) next)
          (within_group (within around one item) 0 at at limit inner sized.1 start room_in)
          (within_group around (if redefines one then object else own) at (here + (if redefines one then 0 else own))
          limit next sized.2 parts.1 parts.2),
    )
