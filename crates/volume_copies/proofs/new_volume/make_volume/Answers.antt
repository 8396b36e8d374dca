use Rattle.std.proofs.Common.{List, sym, subst}
use Rattle.station.specs.History.{Through, EachImage}
use Rattle.station.specs.State.{State}
use Rattle.station.proofs.Spans.{weakens}
use Rattle.file_bytes.specs.Stored.{files_of}
use Rattle.unfinished_volume.specs.Hidden.{IsRootHidden}
use Rattle.unfinished_volume.specs.Inverted.{inverted_state}
use Rattle.volume_copies.specs.Copied.{IsReadBack}
use Rattle.volume_copies.proofs.Publishing.{no_volumes, none_yet, same_shown, shown_back, published}
use Rattle.volume_copies.proofs.new_volume.make_volume.Goals as goal

pub returns-then-refused-clause-moments : goal.returns-then-refused-clause-moments
returns-then-refused-clause-moments g c = λ honest.
    let d = g.E.Device in
    let device = c.into_device-device.result in
    let begun = subst d.is_honest (sym c.new-volume.ensures.device) honest in
    let still = subst d.is_honest (sym c.into_device-device.ensures.device)
    (c.write_and_compare-copy.ensures.keeps.honest.0 begun) in
    weakens _ _ _ _ _ (none_yet c.hidden_root_is_damage.ensures (files_of c.args.files.now))
    (subst (λ (h : List State). Through h (d.history device) (d.state device) (EachImage IsRootHidden))
    c.requires.history (c.into_device-device.ensures.moments still))

pub returns-then-refused-clause-none : goal.returns-then-refused-clause-none
returns-then-refused-clause-none g c = λ honest unmade.
    let d = g.E.Device in
    let begun = subst d.is_honest (sym c.new-volume.ensures.device) honest in
    let still = subst d.is_honest (sym c.into_device-device.ensures.device)
    (c.write_and_compare-copy.ensures.keeps.honest.0 begun) in
    no_volumes c.hidden_root_is_damage.ensures (d.state c.into_device-device.result)
    (c.into_device-device.ensures.moments still).now

pub returns-then-is_done-clause-moments : goal.returns-then-is_done-clause-moments
returns-then-is_done-clause-moments g c = λ honest.
    let d = g.E.Device in
    let files = files_of c.args.files.now in
    let device = c.into_device-device.result in
    let begun = subst d.is_honest (sym c.new-volume.ensures.device) honest in
    let still = subst d.is_honest (sym c.into_device-device.ensures.device)
    (c.write_and_compare-copy.ensures.keeps.honest.0 begun) in
    let back = subst (λ (e : g.row.E.Denot). IsReadBack files (inverted_state (d.state e)))
    (sym c.into_device-device.ensures.device)
    (c.write_and_compare-copy.ensures.copied begun (c.is_done.ensures.done c.if-is_done.true)) in
    published c.hidden_root_is_damage.ensures files _ _ _ (d.state device) (d.state c.publish.result.device)
    (subst (λ (h : List State). Through h (d.history device) (d.state device) (EachImage IsRootHidden))
    c.requires.history (c.into_device-device.ensures.moments still))
    (same_shown files (d.state device) back (g.met.E.Device.possible device still)) (c.publish.ensures.moments still)

pub returns-then-is_done-clause-copied : goal.returns-then-is_done-clause-copied
returns-then-is_done-clause-copied g c = λ honest done.
    let d = g.E.Device in
    let files = files_of c.args.files.now in
    let device = c.into_device-device.result in
    let begun = subst d.is_honest (sym c.new-volume.ensures.device) honest in
    let still = subst d.is_honest (sym c.into_device-device.ensures.device)
    (c.write_and_compare-copy.ensures.keeps.honest.0 begun) in
    let back = subst (λ (e : g.row.E.Denot). IsReadBack files (inverted_state (d.state e)))
    (sym c.into_device-device.ensures.device)
    (c.write_and_compare-copy.ensures.copied begun (c.is_done.ensures.done c.if-is_done.true)) in
    shown_back files _ (d.state c.publish.result.device)
    (same_shown files (d.state device) back (g.met.E.Device.possible device still)) (c.publish.ensures.shown still done)

pub returns-clause-moments : goal.returns-clause-moments
returns-clause-moments g c = λ honest.
    let d = g.E.Device in
    let device = c.into_device-device.result in
    let begun = subst d.is_honest (sym c.new-volume.ensures.device) honest in
    let still = subst d.is_honest (sym c.into_device-device.ensures.device)
    (c.write_and_compare-copy.ensures.keeps.honest.0 begun) in
    weakens _ _ _ _ _ (none_yet c.hidden_root_is_damage.ensures (files_of c.args.files.now))
    (subst (λ (h : List State). Through h (d.history device) (d.state device) (EachImage IsRootHidden))
    c.requires.history (c.into_device-device.ensures.moments still))

pub returns-clause-none : goal.returns-clause-none
returns-clause-none g c = λ honest unmade.
    let d = g.E.Device in
    let begun = subst d.is_honest (sym c.new-volume.ensures.device) honest in
    let still = subst d.is_honest (sym c.into_device-device.ensures.device)
    (c.write_and_compare-copy.ensures.keeps.honest.0 begun) in
    no_volumes c.hidden_root_is_damage.ensures (d.state c.into_device-device.result)
    (c.into_device-device.ensures.moments still).now

pub returns-clause-copied : goal.returns-clause-copied
returns-clause-copied g c = λ honest done. absurd (c.is_done.ensures.other c.if-is_done.false done)
