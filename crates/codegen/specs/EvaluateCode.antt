-- The code of groups of WHENs whose ways don't meet yet (own choice).
use Rattle.std.specs.Prelude.{◌≡◌, List, length, Option}
use Rattle.std.specs.List.{AllByRecursion}
use Rattle.source_tree.specs.declared.evaluate_statement.Subject.{Subject}
use Rattle.source_tree.specs.declared.evaluate_statement.Selected.{Selected}
use Rattle.source_tree.specs.Setting.{Scope}
use Rattle.code_image.specs.declared.code.Code.{Code}
use Rattle.codegen.specs.declared.phrases.Way.{Way}
use Rattle.condition_codegen.specs.Fragments.{Fragment, append}
use Rattle.codegen.specs.Layout.{phrase_fragment, selection_fragment}
use Rattle.codegen.specs.Phrases.{IsWay, met_all}

-- Whatever OTHER has, with it and once all ways meet it is the code of the statement.
pub record OpensAll (scope : Scope) {S : Type 0} (inside : S → Fragment) (subjects : List Subject) (selected : List (Selected S)) (before after : Code) (ways : List Way) : Type 0 where
  pub same : (other : Option (List S))
      → met_all ways (append after (phrase_fragment scope inside other after)) ≡ append before (selection_fragment scope inside subjects selected other before)
  pub within : AllByRecursion (IsWay (length after.instructions)) ways
