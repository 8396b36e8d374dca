use Rattle.std.proofs.Common.{◌≡◌, ◌<◌, ℕ, List, refl, ap, sym, subst, ◌∙◌}
use Rattle.std.specs.List.{All}
use Rattle.std.proofs.lemmas.Bool.{false≢true}
use Rattle.std.proofs.lemmas.List.{length-map}
use Rattle.station.specs.Disk.{Sector}
use Rattle.pages.specs.Layout.{version_of}
use Rattle.pages.specs.Image.{Map, IsCommitted, pages_in, page_at}
use Rattle.pages.specs.Changes.{pages_after, changed_pages, next_map}
use Rattle.pages.specs.Commits.{map_on, volume_on, LeavesEither, DoesNothing, IsRefusalForRoom}
use Rattle.pages.specs.Edits.{IfFull}
use Rattle.pages.specs.Needed.{LacksSectors, filled_count}
use Rattle.pages.specs.Volumes.{volume_of}
use Rattle.pages.specs.Cache.{Gathers, IsCacheOf}
use Rattle.pages.specs.declared.change.Change.{Change}
use Rattle.pages.proofs.Caches.{gathers, after_commit}
use Rattle.pages.specs.Pages.{committed_of, map_now, next_generation, Agrees, IsFull}
use Rattle.pages.proofs.Committed.{stays_at_rest}
use Rattle.pages.proofs.Passing.{passed}
use Rattle.pages.proofs.Resting.{map_with, as_committed}
use Rattle.pages.proofs.page_map.PageMap.commit.Given.{Over}
use Rattle.std.proofs.Common.{◌↔◌, inl, inr, true}
use Rattle.std.specs.Prelude.{Err}
use Rattle.station.specs.Calls.{OnlyWrites}
use Rattle.station.proofs.Calls.{blamed_where, writes_nothing}
use Rattle.pages.specs.Errors.{IsCommitRefusal}
use Rattle.pages.specs.Pages.{is_spent}
use Rattle.pages.specs.declared.error.PagesError.TheVariants.{Device, Spent}
use Rattle.pages.proofs.Passing.{never_ok, still_error, spent_not_device, spent_not_full, never_spent, blames_where}
use Rattle.pages.proofs.Passing.{on_err, on_refused, commit_is_refusal, commit_not_spent}
use Rattle.pages.proofs.page_map.PageMap.commit.Goals as goal

pub returns-then-self-clause-moments : goal.returns-then-self-clause-moments
returns-then-self-clause-moments g c = λ honest agrees.
    let old = g.D.Device.state c.args.device.now in
    stays_at_rest (g.D.Device.history c.args.device.now) old (committed_of c.args.self.now)
    (next_generation (map_now c.args.self.now old.disk.present)) agrees.committed

pub returns-then-is_at_rest-clause-moments : goal.returns-then-is_at_rest-clause-moments
returns-then-is_at_rest-clause-moments g c = λ honest agrees.
    let old = g.D.Device.state c.args.device.now in
    stays_at_rest (g.D.Device.history c.args.device.now) old (committed_of c.args.self.now)
    (next_generation (map_now c.args.self.now old.disk.present)) agrees.committed

pub returns-then-self-clause-rest : goal.returns-then-self-clause-rest
returns-then-self-clause-rest g c = record {
  rests = λ _ _. refl;
  nothing = λ _ _ _ _. (refl, refl);
  idle = λ unspent. absurd (false≢true (sym unspent ∙ c.if-self.true));
}

pub returns-then-is_at_rest-clause-rest : goal.returns-then-is_at_rest-clause-rest
returns-then-is_at_rest-clause-rest g c =
    record { rests = λ _ _. refl; nothing = λ _ _ _ _. (refl, refl); idle = λ _ _ _ _. refl }

pub returns-in_err-commit_volume-clause-rest : goal.returns-in_err-commit_volume-clause-rest
returns-in_err-commit_volume-clause-rest g c =
    let changed = c.is_at_rest.ensures.changed c.if-is_at_rest.false in record {
      rests = λ none _. absurd (none changed);
      nothing = λ pages catalog mark. absurd (changed (pages, catalog, mark));
      idle = λ _ pages catalog mark. absurd (changed (pages, catalog, mark));
    }

pub returns-clause-rest : goal.returns-clause-rest
returns-clause-rest g c = let changed = c.is_at_rest.ensures.changed c.if-is_at_rest.false in record {
  rests = λ none _. absurd (none changed);
  nothing = λ pages catalog mark. absurd (changed (pages, catalog, mark));
  idle = λ _ pages catalog mark. absurd (changed (pages, catalog, mark));
}

pub returns-then-is_at_rest-clause-settles : goal.returns-then-is_at_rest-clause-settles
returns-then-is_at_rest-clause-settles g c = let rest = c.is_at_rest.ensures.rest c.if-is_at_rest.true in record {
  committed = as_committed c.args.self.now rest.0 rest.1 rest.2;
  changed_pages = ap changed_pages rest.0;
  filled = ap filled_count rest.0;
  unspent = c.if-self.false;
}

pub returns-in_err-commit_volume-clause-room : goal.returns-in_err-commit_volume-clause-room
returns-in_err-commit_volume-clause-room g c =
    let self = c.args.self.now in
    let here = c.in_err-commit_volume.ensures in
    let told = c.from_residual.ensures.1 in
    let e = c.in_err-commit_volume.field-0.0 in
    let lacks = λ (l : List Change). LacksSectors (volume_of self.volume) l in
    record {
      full = passed c.from_residual.result e told (λ r. IfFull r (IsFull self)) (λ is.
          (c.is_at_rest.ensures.changed c.if-is_at_rest.false, subst lacks c.deref.ensures.value (here.short is)));
      told = λ _ full. passed c.from_residual.result e told (λ r. IsRefusalForRoom r)
          (here.told (subst lacks (sym c.deref.ensures.value) full.1));
      unchanged = passed c.from_residual.result e told
          (λ r. IfFull r (DoesNothing g.D.Device c.args.device.now c.commit_volume.new.device)) here.full;
    }

-- what was changed comes into the cache
gathered : (g : Over) (c : goal.After-self-2-1 g) (image : List Sector)
    → Gathers (changed_pages c.args.self.now.changes.items) (pages_after (pages_in image c.args.self.now.volume.table)
    c.args.self.now.changes.items) c.args.self.now.cache c.settle_changes.new.cache
gathered g c image =
    let ready = c.args.self.now.ready c.if-self.false in
    let table = c.args.self.now.volume.table in
    let changes = c.args.self.now.changes.items in
    gathers (pages_in image table) changes c.args.self.now.cache c.settle_changes.new.cache ready.once
    (subst (λ (n : ℕ). All (λ (x : Change). (0 < x.page) × (x.page < n)) changes)
    (sym (length-map table (page_at image))) ready.pages)
    c.settle_changes.ensures.cache

pub returns-clause-caches : goal.returns-clause-caches
returns-clause-caches g c = record {
  gathers = λ image. gathered g c image;
  cache = tt;
  capacity = c.settle_changes.ensures.cache.capacity;
}

-- the cache agrees with the disk then
cached : (g : Over) (c : goal.After-self-2-1 g) → g.D.Device.is_honest c.args.device.now
    → Agrees c.args.self.now (g.D.Device.state c.args.device.now).disk
    → IsCacheOf (pages_in (g.D.Device.state c.commit_volume.new.device).disk.present c.commit_volume.new.volume.table)
    (changed_pages c.settle_changes.new.changes.items) c.settle_changes.new.cache.entries
cached g c honest agrees =
    let changes = c.args.self.now.changes.items in
    let present = (g.D.Device.state c.args.device.now).disk.present in
    let pages = pages_in present c.args.self.now.volume.table in
    let after = pages_in (g.D.Device.state c.commit_volume.new.device).disk.present c.commit_volume.new.volume.table in
    let next : after ≡ pages_after pages changes =
    ap (λ (m : Map). m.pages) (c.in_ok-commit_volume.ensures.map honest agrees.committed)
    ∙ ap (λ (l : List Change). pages_after pages l) c.deref.ensures.value in
    after_commit pages after changes c.settle_changes.new.changes.items c.args.self.now.cache
    c.settle_changes.new.cache next c.settle_changes.ensures.changes (gathered g c present) agrees.cache

-- the map that the disk holds then is the next one
mapped : (g : Over) (c : goal.After-self-2-1 g) → g.D.Device.is_honest c.args.device.now
    → IsCommitted (committed_of c.args.self.now) (g.D.Device.state c.args.device.now).disk
    → pages_in (g.D.Device.state c.commit_volume.new.device).disk.present c.commit_volume.new.volume.table
    ≡ (map_on g.D.Device c.args.self.now c.args.device.now).pages
mapped g c honest committed =
    ap (λ (m : Map). m.pages) (c.in_ok-commit_volume.ensures.map honest committed)
    ∙ ap (pages_after (pages_in (g.D.Device.state c.args.device.now).disk.present c.args.self.now.volume.table))
    c.deref.ensures.value

-- the map's pages over the disk then
pages_then : (g : Over) (c : goal.After-self-2-1 g) → g.D.Device.is_honest c.args.device.now
    → IsCommitted (committed_of c.args.self.now) (g.D.Device.state c.args.device.now).disk
    → pages_after (pages_in (g.D.Device.state c.commit_volume.new.device).disk.present
    c.commit_volume.new.volume.table) c.settle_changes.new.changes.items
    ≡ (map_on g.D.Device c.args.self.now c.args.device.now).pages
pages_then g c honest committed =
    let after = pages_in (g.D.Device.state c.commit_volume.new.device).disk.present c.commit_volume.new.volume.table in
    ap (pages_after after) c.settle_changes.ensures.changes ∙ mapped g c honest committed

pub returns-in_err-commit_volume-clause-moments : goal.returns-in_err-commit_volume-clause-moments
returns-in_err-commit_volume-clause-moments g c = λ honest agrees.
    let self = c.args.self.now in
    let before = volume_on g.D.Device self.volume c.args.device.now in
    subst (λ (l : List Change). LeavesEither g.D.Device before (next_map before l (version_of self.mark) self.catalog)
    c.args.device.now c.commit_volume.new.device) c.deref.ensures.value
    (c.commit_volume.ensures.moments honest agrees.committed)

pub returns-clause-moments : goal.returns-clause-moments
returns-clause-moments g c = λ honest agrees.
    let self = c.args.self.now in
    let before = volume_on g.D.Device self.volume c.args.device.now in
    subst (λ (l : List Change). LeavesEither g.D.Device before (next_map before l (version_of self.mark) self.catalog)
    c.args.device.now c.commit_volume.new.device) c.deref.ensures.value
    (c.commit_volume.ensures.moments honest agrees.committed)

pub returns-clause-holds : goal.returns-clause-holds
returns-clause-holds g c = let self = c.args.self.now in record {
  agrees = λ honest agrees. record {
    committed = c.in_ok-commit_volume.ensures.committed honest agrees.committed;
    cache = cached g c honest agrees;
  };
  map = λ honest agrees. record { mark = refl; catalog = refl; pages = pages_then g c honest agrees.committed };
  advances = λ honest agrees changed.
      ap (map_with (version_of self.mark) c.commit_volume.new.volume.generation self.catalog)
      (pages_then g c honest agrees.committed)
      ∙ ap (λ (n : ℕ). map_with (version_of self.mark) n self.catalog (map_on g.D.Device self c.args.device.now).pages)
      c.in_ok-commit_volume.ensures.next.0;
}

pub returns-then-self-clause-only : goal.returns-then-self-clause-only
returns-then-self-clause-only g c =
    blamed_where g.D.Device _ _ _ _ (λ is. spent_not_device is) (writes_nothing g.D.Device c.args.device.now)

pub returns-then-self-clause-holds : goal.returns-then-self-clause-holds
returns-then-self-clause-holds g c = record { agrees = λ _ _. tt; map = λ _ _. tt; advances = λ _ _ _. tt }

pub returns-then-self-clause-room : goal.returns-then-self-clause-room
returns-then-self-clause-room g c = record {
  full = λ is. spent_not_full is;
  told = λ unspent full. never_spent c.args.self.now.spent unspent c.if-self.true;
  unchanged = λ is. spent_not_full is;
}

pub returns-then-self-clause-cause : goal.returns-then-self-clause-cause
returns-then-self-clause-cause g c = inr (inr (inr refl))

pub returns-then-self-clause-spent : goal.returns-then-self-clause-spent
returns-then-self-clause-spent g c = (λ is. c.if-self.true, λ was. refl)

pub returns-then-self-clause-caches : goal.returns-then-self-clause-caches
returns-then-self-clause-caches g c = record { gathers = tt; cache = refl; capacity = refl }

pub returns-then-is_at_rest-clause-only : goal.returns-then-is_at_rest-clause-only
returns-then-is_at_rest-clause-only g c =
    blamed_where g.D.Device _ _ _ _ (λ is. never_ok is) (writes_nothing g.D.Device c.args.device.now)

pub returns-then-is_at_rest-clause-holds : goal.returns-then-is_at_rest-clause-holds
returns-then-is_at_rest-clause-holds g c =
    let rest = c.is_at_rest.ensures.rest c.if-is_at_rest.true in
    record {
      agrees = λ honest agrees. agrees;
      map = λ honest agrees. record { mark = refl; catalog = refl; pages = refl };
      advances = λ honest agrees changed. absurd (changed (ap changed_pages rest.0, rest.1, rest.2));
    }

pub returns-then-is_at_rest-clause-room : goal.returns-then-is_at_rest-clause-room
returns-then-is_at_rest-clause-room g c =
    let rest = c.is_at_rest.ensures.rest c.if-is_at_rest.true in
    record {
      full = λ is. never_ok is;
      told = λ unspent full. absurd (full.0 (ap changed_pages rest.0, rest.1, rest.2));
      unchanged = λ is. never_ok is;
    }

pub returns-then-is_at_rest-clause-spent : goal.returns-then-is_at_rest-clause-spent
returns-then-is_at_rest-clause-spent g c =
    (λ is. never_ok is, λ was. never_spent c.args.self.now.spent c.if-self.false was)

pub returns-then-is_at_rest-clause-caches : goal.returns-then-is_at_rest-clause-caches
returns-then-is_at_rest-clause-caches g c =
    record { gathers = λ image. record { capacity = refl; entries = λ e has. inl has }; cache = tt; capacity = refl }

pub returns-in_err-commit_volume-clause-only : goal.returns-in_err-commit_volume-clause-only
returns-in_err-commit_volume-clause-only g c =
    let here = c.in_err-commit_volume.ensures in
    passed c.from_residual.result c.in_err-commit_volume.field-0.0 c.from_residual.ensures.1
    (λ r. OnlyWrites g.D.Device (r ≡ Err Device) c.args.device.now c.commit_volume.new.device)
    (record {
      honest = here.honest;
      sectors = here.sectors;
      failures = blames_where _ _ _ _ (λ is. still_error is) here.failures;
      console = here.console;
    })

pub returns-in_err-commit_volume-clause-holds : goal.returns-in_err-commit_volume-clause-holds
returns-in_err-commit_volume-clause-holds g c =
    let result = c.from_residual.result in
    let told = c.from_residual.ensures.1 in
    record {
      agrees = λ _ _. on_refused result c.in_err-commit_volume.field-0.0 told _;
      map = λ _ _. on_refused result c.in_err-commit_volume.field-0.0 told _;
      advances = λ _ _ _. on_refused result c.in_err-commit_volume.field-0.0 told _;
    }

pub returns-in_err-commit_volume-clause-settles : goal.returns-in_err-commit_volume-clause-settles
returns-in_err-commit_volume-clause-settles g c =
    let result = c.from_residual.result in
    let told = c.from_residual.ensures.1 in
    record {
      committed = on_refused result c.in_err-commit_volume.field-0.0 told _;
      changed_pages = on_refused result c.in_err-commit_volume.field-0.0 told _;
      filled = on_refused result c.in_err-commit_volume.field-0.0 told _;
      unspent = on_refused result c.in_err-commit_volume.field-0.0 told _;
    }

pub returns-in_err-commit_volume-clause-refused : goal.returns-in_err-commit_volume-clause-refused
returns-in_err-commit_volume-clause-refused g c = on_err c.from_residual.result refl

pub returns-in_err-commit_volume-clause-cause : goal.returns-in_err-commit_volume-clause-cause
returns-in_err-commit_volume-clause-cause g c =
    let here = c.in_err-commit_volume.ensures in
    passed c.from_residual.result c.in_err-commit_volume.field-0.0 c.from_residual.ensures.1
    (λ r. IsCommitRefusal r)
    (commit_is_refusal c.in_err-commit_volume.field-0.0 here.cause)

pub returns-in_err-commit_volume-clause-spent : goal.returns-in_err-commit_volume-clause-spent
returns-in_err-commit_volume-clause-spent g c =
    let here = c.in_err-commit_volume.ensures in
    passed c.from_residual.result c.in_err-commit_volume.field-0.0 c.from_residual.ensures.1
    (λ r. (r ≡ Err Spent) ↔ (is_spent c.args.self.now ≡ true)) (
      λ is. commit_not_spent c.in_err-commit_volume.field-0.0 here.cause is,
      λ was. never_spent c.args.self.now.spent c.if-self.false was,
    )

pub returns-clause-only : goal.returns-clause-only
returns-clause-only g c =
    let here = c.in_ok-commit_volume.ensures in
    record {
      honest = here.honest;
      sectors = here.sectors;
      failures = blames_where _ _ _ _ (λ is. never_ok is) here.failures;
      console = here.console;
    }

pub returns-clause-room : goal.returns-clause-room
returns-clause-room g c =
    let lacks = λ (l : List Change). LacksSectors (volume_of c.args.self.now.volume) l in
    record {
      full = λ is. never_ok is;
      told = λ _ full. c.in_ok-commit_volume.ensures.told (subst lacks (sym c.deref.ensures.value) full.1);
      unchanged = λ is. never_ok is;
    }

pub returns-clause-spent : goal.returns-clause-spent
returns-clause-spent g c = (λ is. never_ok is, λ was. never_spent c.args.self.now.spent c.if-self.false was)
