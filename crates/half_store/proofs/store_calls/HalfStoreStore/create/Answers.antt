use Rattle.std.proofs.Common.{◌≡◌, ◌+◌, true, ◌∙◌, refl, sym}
use Rattle.station.proofs.Spans.{stays}
use Rattle.records.specs.Files.{Files, with_file, empty_file}
use Rattle.records.specs.Stores.{spec_of}
use Rattle.records.proofs.Short.{long_is_made, made_is_long}
use Rattle.file_bytes.specs.Stored.{files_of}
use Rattle.half_store.specs.Half.{AreHalfFiles}
use Rattle.half_store.specs.Settled.{CommitsFiles}
use Rattle.half_store.proofs.Written.{at_rest}
use Rattle.half_store.proofs.Turned.{memory_takes}
use Rattle.half_store.proofs.Committed.{made_memory, half_made, many_lack, refused_turns, committed_turns}
use Rattle.half_store.proofs.Committed.{told_refusal, told_answer, refused_changes, refused_spends}
use Rattle.half_store.proofs.store_calls.HalfStoreStore.create.Goals as goal

pub returns-then-self-clause-turns : goal.returns-then-self-clause-turns
returns-then-self-clause-turns g c = λ files stands.
    let old = g.D.Device.state c.args.device.now in
    record {
      there = tt;
      moments = stays
          (g.D.Device.history c.args.device.now) old _ (at_rest c.args.self.now.sectors c.args.self.now.generation files
          (with_file c.args.file.now.name.items (empty_file (spec_of c.args.file.now)) files) old stands.there.rests);
      sound = λ e. absurd cc;
      room = λ e. absurd cc;
      mark = λ e. absurd cc;
    }

pub returns-then-is_long-clause-turns : goal.returns-then-is_long-clause-turns
returns-then-is_long-clause-turns g c = λ files stands.
    let old = g.D.Device.state c.args.device.now in
    let name = c.args.file.now.name.items in
    record {
      there = tt;
      moments = stays
          (g.D.Device.history c.args.device.now) old _ (at_rest c.args.self.now.sectors c.args.self.now.generation files
          (with_file name (empty_file (spec_of c.args.file.now)) files) old stands.there.rests);
      sound = λ e. absurd cc;
      room = λ e. absurd cc;
      mark = λ e.
          long_is_made name (spec_of c.args.file.now) files (sym c.is_long.ensures ∙ c.if-is_long.true);
    }

pub returns-in_err-create_in-clause-turns : goal.returns-in_err-create_in-clause-turns
returns-in_err-create_in-clause-turns g c = λ files stands.
    refused_turns (with_file c.args.file.now.name.items (empty_file (spec_of c.args.file.now)) files)
    stands.honest stands.there (λ device moments. moments) (λ lacks. lacks) c.in_err-create_in.was
    c.from_residual.ensures.1 c.create_in.ensures.sound
    (λ e. many_lack stands.there c.args.file.now (c.create_in.ensures.full e))
    (memory_takes c.create_in.result c.create_in.ensures.cause)

pub returns-in_err-commit_files-clause-turns : goal.returns-in_err-commit_files-clause-turns
returns-in_err-commit_files-clause-turns g c = λ files stands.
    let made : Files = with_file c.args.file.now.name.items (empty_file (spec_of c.args.file.now)) files in
    let memory : files_of c.create_in.new.files.items ≡ made =
    made_memory stands.there c.args.file.now c.in_ok-create_in.ensures.after in
    let half : AreHalfFiles (c.args.self.now.generation + 1) made =
    half_made stands.there c.args.file.now c.create_in.new.files.items (sym c.is_long.ensures ∙ c.if-is_long.false)
    memory c.in_ok-create_in.ensures.count in
    let settles : CommitsFiles g.D.Device c.commit_files.result c.args.self.now.sectors c.args.self.now.generation files
    made c.args.device.now c.commit_files.new.self c.commit_files.new.device =
    c.commit_files.ensures.settles files made stands.honest stands.there.rests memory half (λ none. absurd {0} cc) in
    let turns = committed_turns made stands.honest stands.there (λ device moments. moments) (λ lacks. lacks) settles
    c.commit_files.ensures.only.honest.0 c.commit_files.ensures.cause (λ there. there) in
    told_refusal c.in_err-commit_files.was c.from_residual-in_err-commit_files.ensures.1 turns

pub returns-clause-turns : goal.returns-clause-turns
returns-clause-turns g c = λ files stands.
    let made : Files = with_file c.args.file.now.name.items (empty_file (spec_of c.args.file.now)) files in
    let memory : files_of c.create_in.new.files.items ≡ made =
    made_memory stands.there c.args.file.now c.in_ok-create_in.ensures.after in
    let half : AreHalfFiles (c.args.self.now.generation + 1) made =
    half_made stands.there c.args.file.now c.create_in.new.files.items (sym c.is_long.ensures ∙ c.if-is_long.false)
    memory c.in_ok-create_in.ensures.count in
    let settles : CommitsFiles g.D.Device c.commit_files.result c.args.self.now.sectors c.args.self.now.generation files
    made c.args.device.now c.commit_files.new.self c.commit_files.new.device =
    c.commit_files.ensures.settles files made stands.honest stands.there.rests memory half (λ none. absurd {0} cc) in
    let turns = committed_turns made stands.honest stands.there (λ device moments. moments) (λ lacks. lacks) settles
    c.commit_files.ensures.only.honest.0 c.commit_files.ensures.cause (λ there. there) in
    told_answer _ c.in_ok-commit_files.was turns

pub returns-clause-takes : goal.returns-clause-takes
returns-clause-takes g c = λ files stands lacks.
    let long = made_is_long true c.args.file.now.name.items (spec_of c.args.file.now) files lacks in
    let short = sym c.is_long.ensures ∙ c.if-is_long.false in
    cc (long, short)

pub returns-in_err-create_in-clause-changes : goal.returns-in_err-create_in-clause-changes
returns-in_err-create_in-clause-changes g c = refused_changes c.from_residual.result c.in_err-create_in.field-0.0
    c.from_residual.ensures.1 c.in_err-create_in.ensures.cause refl

pub returns-in_err-create_in-clause-spends : goal.returns-in_err-create_in-clause-spends
returns-in_err-create_in-clause-spends g c = refused_spends c.from_residual.result c.in_err-create_in.field-0.0
    c.from_residual.ensures.1 c.if-self.false refl
