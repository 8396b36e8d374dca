-- The code of what is always true, or always false (own choice).
use Rattle.std.specs.Prelude.{Bool, true, false, []}
use Rattle.condition_codegen.specs.Fragments.{Fragment}
use Rattle.condition_codegen.specs.ConditionCode.{all_fragment, any_fragment}

abbrev pub constant_fragment : Bool → Fragment
constant_fragment true = all_fragment []
constant_fragment false = any_fragment []
