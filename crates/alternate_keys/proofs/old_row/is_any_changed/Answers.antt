use Rattle.std.proofs.Common.{◌≡◌, ◌<◌, ◌||◌, Bool, List, length, take, sym, ap, ◌∙◌, arith}
use Rattle.std.specs.Prelude.{slice_index_or}
use Rattle.std.specs.List.{list_any}
use Rattle.records.specs.declared.file_spec.AlternateKey.{AlternateKey}
use Rattle.records.specs.Changes.{changes}
use Rattle.records.specs.Rows.{no_key}
use Rattle.alternate_keys.proofs.Walks.{any_more, any_at, all_taken}
use Rattle.alternate_keys.proofs.old_row.is_any_changed.Goals as goal

pub returns-then-is_changed : goal.returns-then-is_changed
returns-then-is_changed c =
    let keys : List AlternateKey = c.args.file.now.alternates.items in
    let f : AlternateKey → Bool = changes (take c.args.file.now.record_length c.args.old.now) c.args.bytes.now in
    let low : c.loop-key.key < length keys =
    omega (arith, c.len-count.ensures, c.args.file.now.alternates.ok, c.loop-key-test.true) in
    sym (any_at f keys c.loop-key.key no_key low (sym c.is_changed.ensures ∙ c.if-is_changed.true))

pub loop-key-preserved : goal.loop-key-preserved
loop-key-preserved c =
    let keys : List AlternateKey = c.args.file.now.alternates.items in
    let f : AlternateKey → Bool = changes (take c.args.file.now.record_length c.args.old.now) c.args.bytes.now in
    let low : c.loop-key.key < length keys =
    omega (arith, c.len-count.ensures, c.args.file.now.alternates.ok, c.loop-key-test.true) in
    any_more f keys c.loop-key.key no_key low ∙ ap (λ (b : Bool). b || f (slice_index_or keys c.loop-key.key no_key))
    c.loop-key.invariant ∙ sym c.is_changed.ensures ∙ c.if-is_changed.false

pub returns : goal.returns
returns c =
    let keys : List AlternateKey = c.args.file.now.alternates.items in
    let f : AlternateKey → Bool = changes (take c.args.file.now.record_length c.args.old.now) c.args.bytes.now in
    let all : take c.loop-key.key keys ≡ keys = all_taken keys c.loop-key.key (omega
    (arith, c.len-count.ensures, c.args.file.now.alternates.ok, c.loop-key-test.false, c.loop-key.auto.key-end)) in
    sym (ap (list_any f) (sym all) ∙ c.loop-key.invariant)
