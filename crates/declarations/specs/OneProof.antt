-- That the tables are those of a program has one proof at most.
use Rattle.std.specs.Prelude.{◌≡◌, List, [], ◌∷◌, ◌++◌, Option, Some, None, get_or}
use Rattle.std.specs.Coded.{Coded, codes, code_by}
use Rattle.std.proofs.Common.{refl, ap, sym, subst, ◌∙◌, append_assoc}
use Rattle.std.proofs.Props.{props}
use Rattle.source_tree.specs.declared.entry.ItemEntry.{ItemEntry}
use Rattle.source_tree.specs.declared.entry.ConditionEntry.{ConditionEntry}
use Rattle.source_tree.specs.Levels.{Forest, End, Tree}
use Rattle.source_tree.specs.Procedures.{Procedure}
use Rattle.name_table.specs.declared.procedures.ParagraphRange.{ParagraphRange}
use Rattle.name_table.specs.Procedures.{IsOnlyProcedure, range_at}

-- an item with its condition names, or the end of a group
abbrev ForestStep : Type 0
ForestStep = Option (ItemEntry × List ConditionEntry)

-- the items of a forest in their order, each group with its end
forest_steps : Forest → List ForestStep
forest_steps End = None ∷ []
forest_steps (Tree one conditions inner next) = Some (one, conditions) ∷ (forest_steps inner ++ forest_steps next)

-- the first two forests as one
joined_forests : ItemEntry → List ConditionEntry → List Forest → List Forest
joined_forests one conditions [] = []
joined_forests one conditions (inner ∷ []) = []
joined_forests one conditions (inner ∷ next ∷ more) = Tree one conditions inner next ∷ more

forests_by : List ForestStep → List Forest
forests_by [] = []
forests_by (None ∷ more) = End ∷ forests_by more
forests_by (Some one ∷ more) = joined_forests one.0 one.1 (forests_by more)

-- The steps of a forest give it back.
steps_give_forest : (forest : Forest) (more : List ForestStep) → forests_by (forest_steps forest ++ more) ≡ forest ∷ forests_by more
unfolding forest_steps joined_forests forests_by
steps_give_forest End more = refl
steps_give_forest (Tree one conditions inner next) more =
    ap (λ (l : List ForestStep). joined_forests one conditions (forests_by l)) (append_assoc (forest_steps inner) (forest_steps next) more)
    ∙ ap (joined_forests one conditions) (steps_give_forest inner (forest_steps next ++ more))
    ∙ ap (λ (l : List Forest). joined_forests one conditions (inner ∷ l)) (steps_give_forest next more)

coded_steps : Coded (List ForestStep)
coded_steps = Prim.hlevel codes

pub coded_forest : Coded Forest
coded_forest = code_by (List ForestStep) coded_steps (λ forest. forest_steps forest ++ []) (λ steps. get_or (forests_by steps) 0 End)
    (λ forest. ap (λ (l : List Forest). get_or l 0 End) (steps_give_forest forest []))

-- The only procedure of a name is one alone.
is_prop : (named : List Procedure) (range : ParagraphRange) (one : Procedure) → IsProp ((named ≡ one ∷ []) × (one.range ≡ range_at range))
is_prop named range one = Prim.hlevel props

pub IsOnlyProcedure-prop : (named : List Procedure) (range : Option ParagraphRange) → IsProp (IsOnlyProcedure named range)
IsOnlyProcedure-prop named None = Prim.hlevel props
IsOnlyProcedure-prop named (Some range) = λ x y.
    subst (λ (one : Procedure). (is : named ≡ one ∷ []) (last : one.range ≡ range_at range)
    → ◌≡◌ {A = IsOnlyProcedure named (Some range)} x (one, is, last))
    (ap (λ (l : List Procedure). get_or l 0 x.0) (sym x.1 ∙ y.1))
    (λ is last. ap (λ (both : (named ≡ x.0 ∷ []) × (x.0.range ≡ range_at range)). (x.0, both.0, both.1))
    (is_prop named range x.0 (x.1, x.2) (is, last)))
    y.1 y.2

-- what is listed to show it
pub ruleset declared_props = (props, coded_forest, IsOnlyProcedure-prop)
