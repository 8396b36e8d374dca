-- The rules of a forest whose first item is known.
use Rattle.std.proofs.Common.{◌≡◌, ℕ, ◌+◌, ◌<◌, Bool, true, false, if◌then◌else◌, List, [], ◌++◌, None, sym, ap, subst}
use Rattle.std.proofs.Common.{◌∙◌, append_assoc}
use Rattle.std.specs.Prelude.{Option}
use Rattle.items.specs.declared.item.Item.{Item}
use Rattle.source_tree.specs.declared.entry.Around.{Around}
use Rattle.source_tree.specs.declared.entry.ItemEntry.{ItemEntry}
use Rattle.source_tree.specs.declared.entry.ConditionEntry.{ConditionEntry}
use Rattle.source_tree.specs.Integers.{number_of}
use Rattle.source_tree.specs.Levels.{Forest, Tree}
use Rattle.source_tree.specs.Rooms.{redefines, room, item_with}
use Rattle.source_tree.specs.Broken.{RuleBreach, each}
use Rattle.source_tree.specs.RedefinitionRules.{Redefinable, redefinable_after}
use Rattle.source_tree.specs.ValueRules.{condition_rules}
use Rattle.source_tree.specs.EntryRules as rules
use Rattle.source_tree.specs.EntryRules.{below, own_rules, forest_rules}
use Rattle.entry_rules.specs.declared.position.Position.{Position}
use Rattle.entry_rules.specs.Checks.{IsFirst}
use Rattle.entry_rules.specs.Trees.{extent, own_bytes, item_rules}
use Rattle.entry_rules.specs.Walk.{at_of, HasKnownLevel, HasLevels}
use Rattle.entry_rules.proofs.LevelLaws.{levels_tree}
use Rattle.entry_rules.proofs.Firsts.{front_none, same_front, same_along}

four : (a b c d : List RuleBreach) → (a ++ (b ++ c)) ++ d ≡ a ++ (b ++ (c ++ d))
four a b c d = append_assoc a (b ++ c) d ∙ ap (λ l. a ++ l) (append_assoc b c d)

pub forest_tree : (at : Position) (last : Option Redefinable) (F : Forest) (one : ItemEntry)
    (conditions : List ConditionEntry) (inner next : Forest) → F ≡ Tree one conditions inner next
    → forest_rules (at_of at) last F ≡ item_rules at one conditions inner last
    ++ forest_rules (at_of at) (redefinable_after one (extent at.around one inner) last) next
forest_tree at last F one conditions inner next e =
    let item : Item = item_with at.around one inner in
    ap (forest_rules (at_of at) last) e
    ∙ sym (four (forest_rules (below (at_of at) one inner) None inner) (own_rules (at_of at) one item inner last)
    (each (condition_rules item) conditions)
    (forest_rules (at_of at) (redefinable_after one (extent at.around one inner) last) next))

pub found_in : (at : Position) (last : Option Redefinable) (F : Forest) (one : ItemEntry)
    (conditions : List ConditionEntry) (inner next : Forest) (all : List RuleBreach) (o : Option RuleBreach)
    → F ≡ Tree one conditions inner next → all ≡ forest_rules (at_of at) last F
    → IsFirst o (item_rules at one conditions inner last) → IsFirst o all
found_in at last F one conditions inner next all o e before h =
    let rest : List RuleBreach =
    forest_rules (at_of at) (redefinable_after one (extent at.around one inner) last) next in
    same_along o (item_rules at one conditions inner last ++ rest) all (before
    ∙ forest_tree at last F one conditions inner next e) (same_front o (item_rules at one conditions inner last) rest h)

pub none_in : (at : Position) (last new : Option Redefinable) (F : Forest) (one : ItemEntry)
    (conditions : List ConditionEntry) (inner next : Forest) (all : List RuleBreach) (bytes : ℕ)
    → F ≡ Tree one conditions inner next → all ≡ forest_rules (at_of at) last F
    → item_rules at one conditions inner last ≡ [] → bytes ≡ extent at.around one inner
    → new ≡ redefinable_after one bytes last
    → all ≡ forest_rules (at_of at) new next
none_in at last new F one conditions inner next all bytes e before none is known =
    before ∙ forest_tree at last F one conditions inner next e
    ∙ front_none (item_rules at one conditions inner last)
    (forest_rules (at_of at) (redefinable_after one (extent at.around one inner) last) next) none
    ∙ ap (λ n. forest_rules (at_of at) (redefinable_after one n last) next) (sym is)
    ∙ ap (λ r. forest_rules (at_of at) r next) (sym known)

known_if : (b : Bool) (last new : Option Redefinable) → HasKnownLevel last → HasKnownLevel new
    → HasKnownLevel (if b then last else new)
known_if true last new l n = l
known_if false last new l n = n

known_remembered : (one : ItemEntry) (bytes : ℕ) (last new : Option Redefinable) → number_of one.level < 100000
    → HasKnownLevel last → new ≡ redefinable_after one bytes last → HasKnownLevel new
known_remembered one bytes last new h l e = subst HasKnownLevel (sym e) (known_if (redefines one) last _ l h)

-- what follows the first item redefines what is remembered
pub known_after : (F : Forest) (one : ItemEntry) (conditions : List ConditionEntry) (inner next : Forest) (bytes : ℕ)
    (last new : Option Redefinable) → F ≡ Tree one conditions inner next → HasLevels F → HasKnownLevel last
    → new ≡ redefinable_after one bytes last → HasKnownLevel new
known_after F one conditions inner next bytes last new e levels known after =
    known_remembered one bytes last new (levels_tree F one conditions inner next e levels).0 known after

-- the same as `none_in` at a position that is known
pub none_at : (at : Position) (place : rules.Position) (last new : Option Redefinable) (F : Forest) (one : ItemEntry)
    (conditions : List ConditionEntry) (inner next : Forest) (all : List RuleBreach) (bytes : ℕ) → at_of at ≡ place
    → F ≡ Tree one conditions inner next → all ≡ forest_rules place last F
    → item_rules at one conditions inner last ≡ [] → bytes ≡ extent at.around one inner
    → new ≡ redefinable_after one bytes last → all ≡ forest_rules place new next
none_at at place last new F one conditions inner next all bytes same e before none is known =
    none_in at last new F one conditions inner next all bytes e (before
    ∙ ap (λ p. forest_rules p last F) (sym same)) none is known ∙ ap (λ p. forest_rules p new next) same

pub extent_at : (at : Position) (place : rules.Position) (one : ItemEntry) (inner : Forest) (bytes : ℕ)
    → at_of at ≡ place → bytes ≡ extent at.around one inner → bytes ≡ extent place.around one inner
extent_at at place one inner bytes same is = is ∙ ap (λ (p : rules.Position). extent p.around one inner) same

-- what is known after the first item, at a position that is known
pub after_item : (at : Position) (place : rules.Position) (last new : Option Redefinable) (F : Forest) (one : ItemEntry)
    (conditions : List ConditionEntry) (inner next : Forest) (all : List RuleBreach) (bytes : ℕ) → at_of at ≡ place
    → F ≡ Tree one conditions inner next → HasLevels F → HasKnownLevel last → all ≡ forest_rules place last F
    → item_rules at one conditions inner last ≡ [] → bytes ≡ extent at.around one inner
    → new ≡ redefinable_after one bytes last
    → HasLevels next × HasKnownLevel new × (all ≡ forest_rules place new next)
    × (bytes ≡ extent place.around one inner)
after_item at place last new F one conditions inner next all bytes same e levels known before none is after = (
  (levels_tree F one conditions inner next e levels).2,
  known_after F one conditions inner next bytes last new e levels known after,
  none_at at place last new F one conditions inner next all bytes same e before none is after,
  extent_at at place one inner bytes same is,
)

pub room_tree :
    (around : Around) (F : Forest) (one : ItemEntry) (conditions : List ConditionEntry) (inner next : Forest)
    → F ≡ Tree one conditions inner next → room around F ≡ own_bytes one (extent around one inner) + room around next
room_tree around F one conditions inner next e = ap (room around) e

pub item_within : (at under : Position) (one : ItemEntry) (conditions : List ConditionEntry) (inner : Forest)
    (last : Option Redefinable) (o : Option RuleBreach) → at_of under ≡ below (at_of at) one inner
    → IsFirst o (forest_rules (at_of under) None inner) → IsFirst o (item_rules at one conditions inner last)
item_within at under one conditions inner last o e h =
    let item : Item = item_with at.around one inner in
    same_front o (forest_rules (below (at_of at) one inner) None inner) (own_rules (at_of at) one item inner last
    ++ each (condition_rules item) conditions) (subst (λ p. IsFirst o (forest_rules p None inner)) e h)
