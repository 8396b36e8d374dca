use Rattle.std.proofs.Common.{◌∙◌, sym, Some, None}
use Rattle.roots.proofs.Families.{no_family, in_family}
use Rattle.roots.proofs.root.known_mark.Goals as goal

pub returns-in_err-family : goal.returns-in_err-family
returns-in_err-family c =
    c.from_residual.ensures ∙ sym (no_family c.args.known.now c.args.bytes.now c.in_err-family.ensures.family)

pub returns-in_err-version : goal.returns-in_err-version
returns-in_err-version c =
    c.from_residual-in_err-version.ensures ∙ sym (in_family c.args.known.now c.args.bytes.now c.in_ok-family.family
    _ None c.in_ok-family.ensures.family c.in_ok-family.ensures.bound c.in_err-version.ensures)

pub returns : goal.returns
returns c =
    sym (in_family c.args.known.now c.args.bytes.now c.in_ok-family.family
    _ (Some c.in_ok-version.version) c.in_ok-family.ensures.family c.in_ok-family.ensures.bound c.in_ok-version.ensures)
