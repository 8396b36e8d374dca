use Rattle.std.proofs.Common.{◌≡◌, ◌<◌, List, Bool, false, None, length, get_or, sym, subst, ◌∙◌, rules}
use Rattle.std.specs.Prelude.{replicate}
use Rattle.std.proofs.lemmas.List.{length-set}
use Rattle.std.proofs.lemmas.Option.{slice_get-get_or}
use Rattle.perform_graph.specs.declared.visit.Visit.{Visit}
use Rattle.perform_graph.proofs.Beginnings.{unmarked, marked_next, marked_whole}
use Rattle.perform_graph.proofs.cycle.marks_of.Goals as goal

abbrev nothing : Visit
nothing = record { paragraph = 0; at = None; next = 0 }

pub loop-visit-init : goal.loop-visit-init
loop-visit-init c =
    let marks : List Bool = c.in_ok-marks.marks.items in
    let none : marks ≡ replicate c.args.count false = search rules in
    record {
      same = search rules;
      marks = unmarked c.args.ring.now c.args.count marks none;
    }

pub loop-visit-preserved : goal.loop-visit-preserved
loop-visit-preserved c =
    let ring = c.args.ring.now in
    let place = c.loop-visit.visit-index in
    let marks : List Bool = c.loop-visit.marks.items in
    let visit : Visit = get_or ring place nothing in
    let within : visit.paragraph < length marks =
    subst (λ n. visit.paragraph < n) (sym c.loop-visit.invariant.same) (c.requires place nothing c.loop-visit-test.true)
    in
    record {
      same = length-set marks _ _ ∙ c.loop-visit.invariant.same;
      marks = marked_next ring place marks visit (slice_get-get_or ring place nothing c.loop-visit-test.true) within
          c.loop-visit.invariant.marks;
    }

pub returns : goal.returns
returns c =
    marked_whole c.args.ring.now c.loop-visit.visit-index c.loop-visit.marks.items c.from_vec.result
    c.loop-visit-test.false c.loop-visit.auto.visit-index-end c.from_vec.ensures c.loop-visit.invariant.marks
