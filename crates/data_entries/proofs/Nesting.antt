-- The forest of the entries in a group, and of those after it.
use Rattle.std.proofs.Common.{◌≡◌, ℕ, ◌<◌, Bool, true, false, nat_lt, List, [], ◌∷◌, take, drop, refl, sym, ap, ◌∙◌}
use Rattle.std.proofs.Common.{arith}
use Rattle.source_tree.specs.declared.entry.ItemEntry.{ItemEntry}
use Rattle.source_tree.specs.declared.entry.ConditionEntry.{ConditionEntry}
use Rattle.source_tree.specs.declared.entry.Entry.{Entry}
use Rattle.source_tree.specs.declared.entry.Entry.TheVariants.{Item, Condition}
use Rattle.source_tree.specs.Levels.{Forest, End, Tree, level_of, deeper, beyond, leading_conditions, forest_of}
use Rattle.source_tree.specs.Levels.{with_item_entry}
use Rattle.data_entries.specs.Nesting.{deeper_count}

-- what is deeper than the inner level is deeper than the outer one
below : (outer inner n : ℕ) → outer < inner → nat_lt inner n ≡ true → nat_lt outer n ≡ true
below outer inner n h e = grind arith

-- ---- what is deeper than one level, and then than a deeper one

deeper_tree : (o i : Bool) → (i ≡ true → o ≡ true)
    → (outer inner : ℕ) (one : ItemEntry) (conditions : List ConditionEntry) (group next : Forest)
    → nat_lt outer (level_of one) ≡ o → nat_lt inner (level_of one) ≡ i
    → deeper inner (deeper outer next) ≡ deeper inner next
    → deeper inner (deeper outer (Tree one conditions group next)) ≡ deeper inner (Tree one conditions group next)
deeper_tree true true h outer inner one conditions group next eo ei ih =
    rw eo (rw ei (ap (λ F. Tree one conditions group F) ih))
deeper_tree true false h outer inner one conditions group next eo ei ih = rw eo (rw ei refl)
deeper_tree false true h outer inner one conditions group next eo ei ih = let no : false ≡ true = h refl in cc
deeper_tree false false h outer inner one conditions group next eo ei ih = rw eo (rw ei refl)

pub deeper-deeper : (outer inner : ℕ) → outer < inner → (F : Forest) → deeper inner (deeper outer F) ≡ deeper inner F
deeper-deeper outer inner h End = refl
deeper-deeper outer inner h (Tree one conditions group next) =
    deeper_tree (nat_lt outer (level_of one)) (nat_lt inner (level_of one)) (below outer inner (level_of one) h) outer
    inner one conditions group next refl refl (deeper-deeper outer inner h next)

beyond_deeper_tree : (o i : Bool) → (i ≡ true → o ≡ true)
    → (outer inner : ℕ) (one : ItemEntry) (conditions : List ConditionEntry) (group next : Forest)
    → nat_lt outer (level_of one) ≡ o → nat_lt inner (level_of one) ≡ i
    → beyond inner (deeper outer next) ≡ deeper outer (beyond inner next)
    → beyond inner (deeper outer (Tree one conditions group next))
    ≡ deeper outer (beyond inner (Tree one conditions group next))
beyond_deeper_tree true true h outer inner one conditions group next eo ei ih = rw eo (rw ei ih)
beyond_deeper_tree true false h outer inner one conditions group next eo ei ih = rw eo (rw ei (rw eo refl))
beyond_deeper_tree false true h outer inner one conditions group next eo ei ih = let no : false ≡ true = h refl in cc
beyond_deeper_tree false false h outer inner one conditions group next eo ei ih = rw eo (rw ei (rw eo refl))

pub beyond-deeper : (outer inner : ℕ) → outer < inner → (F : Forest)
    → beyond inner (deeper outer F) ≡ deeper outer (beyond inner F)
beyond-deeper outer inner h End = refl
beyond-deeper outer inner h (Tree one conditions group next) =
    beyond_deeper_tree (nat_lt outer (level_of one)) (nat_lt inner (level_of one)) (below outer inner (level_of one) h)
    outer inner one conditions group next refl refl (beyond-deeper outer inner h next)

beyond_tree : (o i : Bool) → (i ≡ true → o ≡ true)
    → (outer inner : ℕ) (one : ItemEntry) (conditions : List ConditionEntry) (group next : Forest)
    → nat_lt outer (level_of one) ≡ o → nat_lt inner (level_of one) ≡ i
    → beyond outer (beyond inner next) ≡ beyond outer next
    → beyond outer (beyond inner (Tree one conditions group next)) ≡ beyond outer (Tree one conditions group next)
beyond_tree true true h outer inner one conditions group next eo ei ih = rw eo (rw ei ih)
beyond_tree true false h outer inner one conditions group next eo ei ih = rw ei refl
beyond_tree false true h outer inner one conditions group next eo ei ih = let no : false ≡ true = h refl in cc
beyond_tree false false h outer inner one conditions group next eo ei ih = rw ei refl

pub beyond-beyond : (outer inner : ℕ) → outer < inner → (F : Forest) → beyond outer (beyond inner F) ≡ beyond outer F
beyond-beyond outer inner h End = refl
beyond-beyond outer inner h (Tree one conditions group next) =
    beyond_tree (nat_lt outer (level_of one)) (nat_lt inner (level_of one)) (below outer inner (level_of one) h) outer
    inner one conditions group next refl refl (beyond-beyond outer inner h next)

-- ---- entries in a group at the front, and those after it

from_test : (level n : ℕ) → nat_lt level n ≡ true → level < n
from_test level n e = grind arith

item_leads : (b : Bool) (level : ℕ) (one : ItemEntry) (more : List Entry) → nat_lt level (level_of one) ≡ b
    → leading_conditions (take (deeper_count level (Item one ∷ more)) (Item one ∷ more)) ≡ []
unfolding deeper_count
item_leads true level one more e = rw e refl
item_leads false level one more e = rw e refl

-- The condition names at the front stay.
pub leading-take : (level : ℕ) (entries : List Entry)
    → leading_conditions (take (deeper_count level entries) entries) ≡ leading_conditions entries
unfolding deeper_count
leading-take level [] = refl
leading-take level (Item one ∷ more) = item_leads (nat_lt level (level_of one)) level one more refl
leading-take level (Condition one ∷ more) = ap (λ l. one ∷ l) (leading-take level more)

taken_item : (b : Bool) (level : ℕ) (one : ItemEntry) (more : List Entry) → nat_lt level (level_of one) ≡ b
    → forest_of (take (deeper_count level more) more) ≡ deeper level (forest_of more)
    → forest_of (take (deeper_count level (Item one ∷ more)) (Item one ∷ more))
    ≡ deeper level (forest_of (Item one ∷ more))
unfolding deeper_count
taken_item true level one more e ih =
    rw e (ap (λ l. with_item_entry one l (forest_of (take (deeper_count level more) more))) (leading-take level more)
    ∙ ap (λ F. with_item_entry one (leading_conditions more) F) ih
    ∙ ap (λ F. Tree one (leading_conditions more) F (beyond (level_of one) (deeper level (forest_of more))))
    (deeper-deeper level (level_of one) (from_test level (level_of one) e) (forest_of more))
    ∙ ap (λ F. Tree one (leading_conditions more) (deeper (level_of one) (forest_of more)) F)
    (beyond-deeper level (level_of one) (from_test level (level_of one) e) (forest_of more)))
taken_item false level one more e ih = rw e refl

pub nested-take : (level : ℕ) (entries : List Entry)
    → forest_of (take (deeper_count level entries) entries) ≡ deeper level (forest_of entries)
unfolding deeper_count
nested-take level [] = refl
nested-take level (Item one ∷ more) =
    taken_item (nat_lt level (level_of one)) level one more refl (nested-take level more)
nested-take level (Condition one ∷ more) = nested-take level more

dropped_item : (b : Bool) (level : ℕ) (one : ItemEntry) (more : List Entry) → nat_lt level (level_of one) ≡ b
    → forest_of (drop (deeper_count level more) more) ≡ beyond level (forest_of more)
    → forest_of (drop (deeper_count level (Item one ∷ more)) (Item one ∷ more))
    ≡ beyond level (forest_of (Item one ∷ more))
unfolding deeper_count
dropped_item true level one more e ih =
    rw e (ih ∙ sym (beyond-beyond level (level_of one) (from_test level (level_of one) e) (forest_of more)))
dropped_item false level one more e ih = rw e refl

pub nested-drop : (level : ℕ) (entries : List Entry)
    → forest_of (drop (deeper_count level entries) entries) ≡ beyond level (forest_of entries)
unfolding deeper_count
nested-drop level [] = refl
nested-drop level (Item one ∷ more) =
    dropped_item (nat_lt level (level_of one)) level one more refl (nested-drop level more)
nested-drop level (Condition one ∷ more) = nested-drop level more
