-- The shape of code, from its parts.
use Rattle.std.proofs.Common.{◌↔◌, Bool, IsTrue}
use Rattle.std.specs.Prelude.{Result, Ok, Err, IfOk}
use Rattle.std.specs.declared.alloc.AllocError.{AllocError}
use Rattle.code_image.specs.declared.code.Code.{Code}
use Rattle.code_image.specs.Demands.{AllLead, AllStart, HasOrder, StopsLast, HasFiles, HasShape}
use Rattle.code_image.specs.Known.{FindsOperands}

-- Where the rest holds, it is there if the files are.
pub shape_by_files : (code : Code) (r : Result Bool AllocError) → AllLead code.instructions → AllStart code
    → HasOrder code → StopsLast code → FindsOperands code → IfOk r (λ has. IsTrue has ↔ HasFiles code)
    → IfOk r (λ has. IsTrue has ↔ HasShape code)
shape_by_files code (Err e) leads starts order stops finds files = tt
shape_by_files code (Ok has) leads starts order stops finds files = (
  λ t. record { leads = leads; starts = starts; order = order; stops = stops; finds = finds; files = files.0 t },
  λ shape. files.1 shape.files,
)
