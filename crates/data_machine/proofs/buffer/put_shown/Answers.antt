use Rattle.std.proofs.Common.{◌∙◌, ap, sym, ◌++◌, take, min}
use Rattle.std.proofs.lemmas.List.{take_min}
use Rattle.data_machine.proofs.AreaBytes.{behind}
use Rattle.data_machine.proofs.buffer.put_shown.Goals as goal

pub returns-clause-writes : goal.returns-clause-writes
returns-clause-writes c = (
  take c.in_ok-count.count c.shown.new.to,
  c.in_ok-count.ensures,
  behind c.args.used c.min.result c.split_at_mut-rest.result.0.now c.shown.new.to c.split_at_mut-rest.ensures.front_len
      ∙ ap (λ text. c.split_at_mut-rest.result.0.now ++ text) (ap (λ m. take m c.shown.new.to) (c.min.ensures
      ∙ ap (min c.in_ok-count.count) (sym c.shown.auto.to)) ∙ take_min c.in_ok-count.count c.shown.new.to)
      ∙ ap (λ front. front ++ take c.in_ok-count.count c.shown.new.to) c.split_at_mut-rest.ensures.front,
)
