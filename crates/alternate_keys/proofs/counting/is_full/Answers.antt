use Rattle.std.proofs.Common.{◌≡◌, inr, List, length, Err, refl, sym, ap, ◌∙◌, arith}
use Rattle.std.specs.Prelude.{map, Some}
use Rattle.std.proofs.lemmas.List.{length-map}
use Rattle.pages.specs.Image.{Map}
use Rattle.pages.specs.Pages.{map_now, mark_of}
use Rattle.btree.specs.Calls.{pages_on}
use Rattle.btree.specs.Entries.{Entry}
use Rattle.btree.specs.Tree.{IsTreeOrEmpty}
use Rattle.btree.proofs.Ascending.{entry_at, none_at}
use Rattle.btree.proofs.Frames.{same_pages}
use Rattle.records.specs.declared.fault.StoreFault.TheVariants.{Device}
use Rattle.records.specs.Files.{Files}
use Rattle.volume_format.specs.Catalog.{catalog_layout}
use Rattle.volume_format.specs.Volume.{FileTrees, MapHolds, catalog_entry}
use Rattle.volume_format.proofs.Looks.{looks_blamed, looks_then}
use Rattle.alternate_keys.specs.Created.{OnFiles}
use Rattle.alternate_keys.proofs.CatalogEntries.{catalog_there, first_listed, more_listed, next_listed}
use Rattle.alternate_keys.proofs.Catalogs.{catalog_holds}
use Rattle.alternate_keys.proofs.Faults.{refused_by_call}
use Rattle.alternate_keys.proofs.counting.is_full.Given.{Over}
use Rattle.std.specs.Prelude.{IfErr}
use Rattle.alternate_keys.proofs.Passing.{passed, if_refused, never_ok, still_error, spent_before}
use Rattle.btree.proofs.Passing.{never_true}
use Rattle.volume_format.specs.Calls.{LooksAt}
use Rattle.alternate_keys.specs.Faults.{IsReadFault}
use Rattle.alternate_keys.proofs.Calling.{sectors_still}
use Rattle.alternate_keys.proofs.counting.is_full.Goals as goal
use Rattle.alternate_keys.proofs.counting.is_full.Goals.{After-next_in}

pub loop-turn-init : goal.loop-turn-init
loop-turn-init g c = record {
  looks = looks_blamed g.D.Device (c.first_in.result ≡ Err Device) ⊥ c.args.pages.now c.first_in.new.pages
      c.args.device.now c.first_in.new.device (λ is. absurd is) c.first_in.ensures.looks;
  next_is = λ honest agrees files holds.
      first_listed (map_now c.args.pages.now (g.D.Device.state c.args.device.now).disk.present) files holds refl
      c.catalog_tree-catalog.result (c.catalog_tree-catalog.ensures.layout ∙ ap catalog_layout c.mark.ensures.is)
      (c.catalog_tree-catalog.ensures.root ∙ c.catalog.ensures) c.in_ok-next.next
      (c.in_ok-next.ensures.entry honest agrees holds.keeps.catalog);
  some = λ honest agrees files holds. omega arith;
}

-- the entry at this turn
entry_then : (g : Over) (c : After-next_in g) → OnFiles g.D.Device c.args.pages.now c.args.device.now (λ files holds.
    entry_at c.loop-turn.turn (map (catalog_entry (mark_of c.args.pages.now)) holds.kept) ≡ Some c.in-Some.entry)
entry_then g c honest agrees files holds =
    sym (c.loop-turn.invariant.next_is honest agrees files holds) ∙ c.in-Some.is

-- the catalog is there still
still_there : (g : Over) (c : After-next_in g) → g.D.Device.is_honest c.args.device.now → (files : Files)
    → (holds : MapHolds (map_now c.args.pages.now (g.D.Device.state c.args.device.now).disk.present) files)
    → IsTreeOrEmpty c.catalog_tree-catalog.result.layout (pages_on g.D.Device c.loop-turn.pages c.loop-turn.device)
    c.catalog_tree-catalog.result.root holds.keeps.catalog
still_there g c honest files holds =
    let looks = c.loop-turn.invariant.looks in
    catalog_there (map_now c.args.pages.now (g.D.Device.state c.args.device.now).disk.present) files holds refl
    c.catalog_tree-catalog.result (c.catalog_tree-catalog.ensures.layout ∙ ap catalog_layout c.mark.ensures.is)
    (c.catalog_tree-catalog.ensures.root ∙ c.catalog.ensures)
    (pages_on g.D.Device c.loop-turn.pages c.loop-turn.device)
    (same_pages c.args.pages.now c.loop-turn.pages (g.D.Device.state c.args.device.now)
    (g.D.Device.state c.loop-turn.device) looks.unchanged (looks.only.state honest))

pub loop-turn-preserved : goal.loop-turn-preserved
loop-turn-preserved g c =
    let at = (goal.at.loop-turn-preserved g c).After-next_in in
    let looks = c.loop-turn.invariant.looks in
    record {
      looks = looks_then g.D.Device ⊥ _ ⊥ _ _ _ _ _ _ (λ is. absurd is) looks c.next_in.ensures.looks;
      next_is = λ honest agrees files holds.
          next_listed (map_now c.args.pages.now (g.D.Device.state c.args.device.now).disk.present) files holds refl
          c.catalog_tree-catalog.result (c.catalog_tree-catalog.ensures.layout ∙ ap catalog_layout c.mark.ensures.is)
          (c.catalog_tree-catalog.ensures.root ∙ c.catalog.ensures) c.loop-turn.turn c.in-Some.entry
          c.in_ok-next-in-Some.next (entry_then g at honest agrees files holds)
          (c.in_ok-next-in-Some.ensures.entry (looks.only.honest.0 honest) (looks.agrees honest agrees)
          holds.keeps.catalog (still_there g at honest files holds));
      some = λ honest agrees files holds. more_listed _ holds.kept _ _ (entry_then g at honest agrees files holds);
    }

pub returns-in-None-clause-room : goal.returns-in-None-clause-room
returns-in-None-clause-room g c = λ honest agrees files holds none.
    let m : Map = map_now c.args.pages.now (g.D.Device.state c.args.device.now).disk.present in
    let entries : List Entry = map (catalog_entry m.mark) holds.kept in
    let count : length files ≡ length holds.kept =
    ap (λ (l : Files). length l) (sym holds.named) ∙ length-map holds.kept (λ (k : FileTrees). k.named) in
    let many : length entries ≡ length holds.kept = length-map holds.kept (catalog_entry m.mark) in
    let few =
    none_at entries c.loop-turn.turn (sym (c.loop-turn.invariant.next_is honest agrees files holds) ∙ c.in-None.is) in
    let test = c.loop-turn-test.true in
    omega (arith, few, many, count, test)

pub returns-clause-full : goal.returns-clause-full
returns-clause-full g c = λ honest agrees files holds yes.
    let m : Map = map_now c.args.pages.now (g.D.Device.state c.args.device.now).disk.present in
    let entries : List Entry = map (catalog_entry m.mark) holds.kept in
    let count : length files ≡ length holds.kept =
    ap (λ (l : Files). length l) (sym holds.named) ∙ length-map holds.kept (λ (k : FileTrees). k.named) in
    let many : length entries ≡ length holds.kept = length-map holds.kept (catalog_entry m.mark) in
    let some = c.loop-turn.invariant.some honest agrees files holds in
    let test = c.loop-turn-test.false in
    omega (arith, some, count, test)

pub returns-in_err-next-clause-damaged : goal.returns-in_err-next-clause-damaged
returns-in_err-next-clause-damaged g c = λ honest agrees files holds refused.
    let told = refused_by_call c.in_err-next.was c.from_residual.ensures.1 refused in
    let m : Map = map_now c.args.pages.now (g.D.Device.state c.args.device.now).disk.present in
    let tree = c.catalog_tree-catalog.result in
    let layout : tree.layout ≡ catalog_layout m.mark =
    c.catalog_tree-catalog.ensures.layout ∙ ap catalog_layout c.mark.ensures.is in
    let there = catalog_holds m files holds tree layout
    (c.catalog_tree-catalog.ensures.root ∙ c.catalog.ensures) in
    c.first_in.ensures.damaged honest agrees holds.keeps.catalog there told

pub returns-in_err-next-in-Some-clause-looks : goal.returns-in_err-next-in-Some-clause-looks
returns-in_err-next-in-Some-clause-looks g c =
    let loop = c.loop-turn in
    looks_then g.D.Device ⊥ (c.next_in.result ≡ Err Device) _ c.args.pages.now loop.pages c.next_in.new.pages
    c.args.device.now loop.device c.next_in.new.device
    (λ is. let from =
    rw is at c.from_residual-in_err-next-in-Some.ensures.1 in let fault : c.in_err-next-in-Some.field-0.0 ≡ Device =
    sym from in let told : c.next_in.result ≡ Err Device = c.in_err-next-in-Some.was ∙ ap Err fault in inr told)
    loop.invariant.looks c.next_in.ensures.looks

pub returns-in_err-next-in-Some-clause-damaged : goal.returns-in_err-next-in-Some-clause-damaged
returns-in_err-next-in-Some-clause-damaged g c = λ honest agrees files holds refused.
    let at = (goal.at.returns-in_err-next-in-Some-clause-damaged g c).After-next_in in
    let looks = c.loop-turn.invariant.looks in
    c.next_in.ensures.damaged (looks.only.honest.0 honest) (looks.agrees honest agrees) holds.keeps.catalog
    (still_there g at honest files holds)
    (refused_by_call c.in_err-next-in-Some.was c.from_residual-in_err-next-in-Some.ensures.1 refused)

pub returns-in_err-next-clause-looks : goal.returns-in_err-next-clause-looks
returns-in_err-next-clause-looks g c =
    passed c.from_residual.result c.in_err-next.field-0.0 c.from_residual.ensures.1
    (λ r. LooksAt g.D.Device (r ≡ Err Device) c.args.pages.now c.args.device.now c.first_in.new.pages
    c.first_in.new.device) (looks_blamed g.D.Device _ _ _ _ _ _ (λ is. still_error is) c.in_err-next.ensures.looks)

pub returns-in_err-next-clause-full : goal.returns-in_err-next-clause-full
returns-in_err-next-clause-full g c =
    λ honest agrees files holds. if_refused c.from_residual.result c.in_err-next.field-0.0 c.from_residual.ensures.1 _

pub returns-in_err-next-clause-room : goal.returns-in_err-next-clause-room
returns-in_err-next-clause-room g c =
    λ honest agrees files holds. if_refused c.from_residual.result c.in_err-next.field-0.0 c.from_residual.ensures.1 _

pub returns-in_err-next-clause-spent : goal.returns-in_err-next-clause-spent
returns-in_err-next-clause-spent g c =
    λ is. c.first_in.ensures.spent (refused_by_call c.in_err-next.was c.from_residual.ensures.1 is)

pub returns-in_err-next-clause-cause : goal.returns-in_err-next-clause-cause
returns-in_err-next-clause-cause g c =
    passed c.from_residual.result c.in_err-next.field-0.0 c.from_residual.ensures.1 (λ r. IfErr r IsReadFault)
    c.in_err-next.ensures.cause

pub returns-in_err-next-in-Some-clause-full : goal.returns-in_err-next-in-Some-clause-full
returns-in_err-next-in-Some-clause-full g c =
    λ honest agrees files holds. if_refused c.from_residual-in_err-next-in-Some.result c.in_err-next-in-Some.field-0.0
    c.from_residual-in_err-next-in-Some.ensures.1 _

pub returns-in_err-next-in-Some-clause-room : goal.returns-in_err-next-in-Some-clause-room
returns-in_err-next-in-Some-clause-room g c =
    λ honest agrees files holds. if_refused c.from_residual-in_err-next-in-Some.result c.in_err-next-in-Some.field-0.0
    c.from_residual-in_err-next-in-Some.ensures.1 _

pub returns-in_err-next-in-Some-clause-spent : goal.returns-in_err-next-in-Some-clause-spent
returns-in_err-next-in-Some-clause-spent g c =
    λ is. spent_before c.args.pages.now c.loop-turn.pages c.loop-turn.invariant.looks.unchanged.committed
    (c.next_in.ensures.spent (refused_by_call c.in_err-next-in-Some.was c.from_residual-in_err-next-in-Some.ensures.1
    is))

pub returns-in_err-next-in-Some-clause-cause : goal.returns-in_err-next-in-Some-clause-cause
returns-in_err-next-in-Some-clause-cause g c =
    passed c.from_residual-in_err-next-in-Some.result c.in_err-next-in-Some.field-0.0
    c.from_residual-in_err-next-in-Some.ensures.1
    (λ r. IfErr r IsReadFault) c.in_err-next-in-Some.ensures.cause

pub returns-in-None-clause-looks : goal.returns-in-None-clause-looks
returns-in-None-clause-looks g c =
    looks_blamed g.D.Device ⊥ _ _ _ _ _ (λ is. never_ok is) c.loop-turn.invariant.looks

pub returns-in-None-clause-full : goal.returns-in-None-clause-full
returns-in-None-clause-full g c =
    λ honest agrees files holds yes. never_true refl yes

pub returns-in-None-clause-damaged : goal.returns-in-None-clause-damaged
returns-in-None-clause-damaged g c =
    λ honest agrees files holds is. never_ok is

pub returns-in-None-clause-spent : goal.returns-in-None-clause-spent
returns-in-None-clause-spent g c =
    λ is. never_ok is

pub returns-clause-looks : goal.returns-clause-looks
returns-clause-looks g c =
    looks_blamed g.D.Device ⊥ _ _ _ _ _ (λ is. never_ok is) c.loop-turn.invariant.looks

pub returns-clause-room : goal.returns-clause-room
returns-clause-room g c =
    λ honest agrees files holds none. never_true none refl

pub returns-clause-damaged : goal.returns-clause-damaged
returns-clause-damaged g c =
    λ honest agrees files holds is. never_ok is

pub returns-clause-spent : goal.returns-clause-spent
returns-clause-spent g c =
    λ is. never_ok is

pub next_in-requires : goal.next_in-requires
next_in-requires g c = record {
  sectors = sectors_still g.D.Device _ c.args.pages.now c.loop-turn.pages c.args.device.now c.loop-turn.device
      c.loop-turn.invariant.looks.only c.loop-turn.invariant.looks.unchanged.committed c.requires.sectors;
}
