use Rattle.compiler.proofs.Images.{made}
use Rattle.compiler.proofs.compiling.make_image.Goals as goal

pub returns : goal.returns
returns c =
    made c.args.checked.now c.in_ok-code.code c.to_bytes.result c.in_ok-code.ensures.ends c.in_ok-code.ensures.files
    c.in_ok-code.ensures.entries c.in_ok-code.ensures.verified c.to_bytes.ensures.bytes c.to_bytes.ensures.has_spelling
