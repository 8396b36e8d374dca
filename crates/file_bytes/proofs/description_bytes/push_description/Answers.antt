use Rattle.std.proofs.Common.{◌++◌, List, ap, ◌∙◌, arith}
use Rattle.std.specs.List.{flat_map}
use Rattle.records.specs.Stores.{spec_of}
use Rattle.records.specs.declared.file_spec.AlternateKey.{AlternateKey}
use Rattle.file_bytes.specs.Description.{key_bytes}
use Rattle.file_bytes.proofs.Descriptions.{spec_spelled}
use Rattle.file_bytes.proofs.description_bytes.push_description.Goals as goal

pub returns-clause-bytes : goal.returns-clause-bytes
returns-clause-bytes c =
    spec_spelled (spec_of c.args.file.now) c.args.out.now.items c.push_head.new.out.items c.push_keys.new.out.items _
    c.len.result (omega (arith, c.len.ensures, c.args.file.now.alternates.ok)) c.in_ok-push_head.ensures.bytes
    (c.in_ok-push_keys.ensures.bytes
    ∙ ap (λ (l : List AlternateKey). c.push_head.new.out.items ++ flat_map key_bytes l) c.deref.ensures.value)
    c.in_ok-push_zeros.ensures.bytes
