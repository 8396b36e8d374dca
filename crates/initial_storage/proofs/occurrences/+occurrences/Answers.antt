use Rattle.std.proofs.Common.{rules, ◌≡◌, length, sym, ◌∙◌, arith}
use Rattle.std.proofs.lemmas.Result.{on_ok_weaker}
use Rattle.source_tree.specs.Levels.{forest_of}
use Rattle.source_tree.specs.Clauses.{occurrences}
use Rattle.source_tree.specs.Rooms.{item_with}
use Rattle.initial_storage.specs.Occurrences.{occurrence}
use Rattle.initial_storage.proofs.Repeats.{repeated_behind, repeated_length}
use Rattle.initial_storage.proofs.Elementary.{elementary_put}
use Rattle.initial_storage.proofs.occurrences.+occurrences.Goals as goal

pub put_item-returns-clause-length : goal.put_item-returns-clause-length
put_item-returns-clause-length t c =
    let around = c.args.around in
    let one = c.args.one.entry.now in
    let inner = forest_of c.args.one.inner.now in
    let begin : c.len-begin.result ≡ length c.args.out.now.items = search rules in
    let times : c.occurrences.result ≡ occurrences one = omega (arith, c.occurrences.ensures, c.requires.fits.times) in
    on_ok_weaker c.repeat_from.result (λ new.
    repeated_length c.occurrences.result (occurrences one) (item_with around one inner).length c.args.out.now.items
    (occurrence around one inner) c.put_occurrence.new.out.items c.repeat_from.new.out.items
    times c.in_ok-put_occurrence.ensures.length c.in_ok-put_occurrence.ensures.bytes
    (repeated_behind c.len-begin.result c.occurrences.result c.args.out.now.items (occurrence around one inner)
    c.put_occurrence.new.out.items c.repeat_from.new.out.items
    begin c.in_ok-put_occurrence.ensures.bytes new))
    c.repeat_from.ensures

pub put_occurrence-returns-in_ok-resize-in-Some-clause-bytes :
    goal.put_occurrence-returns-in_ok-resize-in-Some-clause-bytes
put_occurrence-returns-in_ok-resize-in-Some-clause-bytes t c =
    let begin : c.len-begin.result ≡ length c.args.out.now.items = search rules in
    on_ok_weaker c.start_from.result
    (elementary_put c.args.around c.args.one.entry.now (forest_of c.args.one.inner.now)
    c.in-Some.picture c.elementary-item.result c.len-begin.result c.args.out.now.items _ c.resize.new.self.items
    c.start_from.new.out.items
    begin c.in_ok-resize-in-Some.ensures.items (sym c.in-Some.is ∙ c.in_ok-picture.ensures)
    c.elementary-item.ensures.item)
    c.start_from.ensures.bytes
