use Rattle.run_unit.proofs.compiled_image.run_volume.Goals as goal

pub returns-clause-own : goal.returns-clause-own
returns-clause-own g c = λ source compiled.
    c.compiled_bytes.ensures.end source c.args.bytes.now c.run_image.result compiled c.run_image.ensures.image

pub returns-clause-runs : goal.returns-clause-runs
returns-clause-runs g c = λ honest source compiled.
    c.compiled_bytes.ensures.runs source c.args.bytes.now _ compiled (c.run_image.ensures.runs honest)
