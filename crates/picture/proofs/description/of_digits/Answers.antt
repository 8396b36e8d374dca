use Rattle.std.proofs.Common.{◌≤◌, ◌+◌, ◌-◌, ℕ, Bool, true, false, if◌then◌else◌, ap, arith}
use Rattle.picture.specs.declared.class.Class.TheVariants.{Digits}
use Rattle.picture.specs.Runs.{occurrences}
use Rattle.picture.specs.Pictures.{scale_of}
use Rattle.picture.specs.Symbols.{is_floating}
use Rattle.picture.proofs.Counts.{scale_within}
use Rattle.picture.proofs.description.of_digits.Goals as goal

at_most_one_more : (b : Bool) (n most : ℕ) → n - (if b then 1 else 0) ≤ most → n ≤ most + 1
at_most_one_more true n most h = omega arith
at_most_one_more false n most h = omega arith

pub overflow_cast-result-2 : goal.overflow_cast-result-2
overflow_cast-result-2 c =
    let within = scale_within c.args.by c.args.runs in
    let same = ap (scale_of c.args.by) c.as_slice-3.ensures in
    let digits =
    at_most_one_more (is_floating c.args.by) (occurrences (Digits c.args.by) c.args.runs) 18 c.requires.digits in
    omega arith
