use Rattle.std.proofs.Common.{sym, ◌∙◌}
use Rattle.std.specs.Prelude.{Err}
use Rattle.pages.specs.declared.error.PagesError.TheVariants.{Damaged}
use Rattle.btree.proofs.PageReads.{after_reading, from_error, from_nothing, never_none, page_refused, step_in_memory}
use Rattle.btree.proofs.PageReads.{step_on_bytes}
use Rattle.btree.proofs.Passing.{never_ok, read_is_search, sectors_on}
use Rattle.btree.proofs.step.step_loaded.Goals as goal

pub returns-in_err-load : goal.returns-in_err-load
returns-in_err-load g c =
    let load = c.in_err-load.ensures in
    let e = c.in_err-load.field-0.0 in
    record {
      reads = from_error g.D.Device c.args.layout c.args.unloaded _ _ c.args.pages.now c.load.new.self
          c.args.device.now c.load.new.device c.from_residual.result e c.from_residual.ensures.1 load.only
          load.unchanged load.agrees load.spent load.cause (read_is_search c.args.layout e (page_refused e
          load.cause));
    }

pub returns-in-Some : goal.returns-in-Some
returns-in-Some g c =
    let load = c.in_ok-load.ensures in
    record {
      reads = after_reading g.D.Device _ c.args.layout c.args.unloaded _ _ _ _ c.load.new.self _ _
          c.load.new.device c.step_in.result load.only load.unchanged load.agrees (step_in_memory g.D.Device
          c.args.layout c.args.unloaded c.args.key.now c.args.right.now c.step_in.new.right c.load.new.self
          c.load.new.device c.in-Some.bytes.now c.step_in.result c.in-Some.ensures.page c.step_in.ensures.step
          c.step_in.ensures.damaged c.step_in.ensures.cause (λ was. never_none (c.in-Some.ensures.spent was)));
    }

pub returns-in_err-bytes : goal.returns-in_err-bytes
returns-in_err-bytes g c =
    let load = c.in_ok-load.ensures in
    let read = c.in_err-bytes.ensures in
    let e = c.in_err-bytes.field-0.0 in
    record {
      reads = after_reading g.D.Device _ c.args.layout c.args.unloaded _ _ _ _ c.read.new.self _ _
          c.read.new.device c.from_residual-in_err-bytes.result load.only load.unchanged load.agrees (from_error
          g.D.Device c.args.layout c.args.unloaded _ _ c.load.new.self c.read.new.self c.load.new.device
          c.read.new.device c.from_residual-in_err-bytes.result e c.from_residual-in_err-bytes.ensures.1 read.only
          read.unchanged read.agrees read.spent read.cause (read_is_search c.args.layout e (page_refused e
          read.cause)));
    }

pub returns-in-Some-2 : goal.returns-in-Some-2
returns-in-Some-2 g c =
    let load = c.in_ok-load.ensures in
    let read = c.in_ok-bytes.ensures in
    record {
      reads = after_reading g.D.Device _ c.args.layout c.args.unloaded _ _ _ _ c.read.new.self _ _
          c.read.new.device c.step_in-in-Some-2.result load.only load.unchanged load.agrees (step_on_bytes g.D.Device _
          c.args.layout c.args.unloaded c.args.key.now c.args.right.now c.step_in-in-Some-2.new.right c.load.new.self
          c.read.new.self c.load.new.device c.read.new.device c.in-Some-2.bytes c.step_in-in-Some-2.result read.only
          read.unchanged read.agrees (λ honest agrees. sym (read.page honest agrees) ∙ c.in-Some-2.is)
          c.step_in-in-Some-2.ensures.step c.step_in-in-Some-2.ensures.damaged c.step_in-in-Some-2.ensures.cause
          (λ was. never_ok (read.spent.1 was)));
    }

pub returns-in-None : goal.returns-in-None
returns-in-None g c =
    let load = c.in_ok-load.ensures in
    let read = c.in_ok-bytes.ensures in
    record {
      reads = after_reading g.D.Device _ c.args.layout c.args.unloaded _ _ _ _ c.read.new.self _ _
          c.read.new.device (Err Damaged) load.only load.unchanged load.agrees (from_nothing g.D.Device _ c.args.layout
          c.args.unloaded _ _ c.load.new.self c.read.new.self c.load.new.device c.read.new.device read.only
          read.unchanged read.agrees (λ honest agrees. sym c.in-None.is ∙ read.page honest agrees) (λ was. never_ok
          (read.spent.1 was)) tt);
    }

pub read-requires : goal.read-requires
read-requires g c = record {
  sectors = sectors_on c.args.pages.now c.load.new.self _ _ c.in_ok-load.ensures.unchanged.committed.volume
      c.in_ok-load.ensures.only.sectors c.requires.sectors;
}
