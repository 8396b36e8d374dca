use Rattle.std.proofs.Common.{◌≤◌, ◌<◌, ◌∙◌, [], ◌∷◌, ◌++◌, length, drop, ap, arith}
use Rattle.records.specs.Files.{NamedFile}
use Rattle.std.proofs.lemmas.List.{length-drop, map-append}
use Rattle.half_store.specs.Spelled.{files_bytes}
use Rattle.file_bytes.specs.Stored.{named_of, files_of}
use Rattle.half_store.proofs.Rested.{from_none, read_some, if_some, next_of, rest_of, all_read}
use Rattle.half_store.proofs.reading.read_files.Goals as goal

pub returns-in_default-clause-files : goal.returns-in_default-clause-files
returns-in_default-clause-files c = λ files each is.
    let rest = drop c.loop-at.at c.args.bytes.now in
    let some : 0 < length rest = omega (arith, length-drop c.loop-at.at c.args.bytes.now) in
    let next = next_of files (files_of c.loop-at.files.items) rest some (c.loop-at.invariant.rest files each is) in
    from_none c.in_ok-found.field-0 _ c.in_default.not-Some
    (c.in_ok-found.ensures.file next.one (files_bytes next.more) next.good next.spells)

pub loop-at-preserved : goal.loop-at-preserved
loop-at-preserved c = record {
  within = (if_some c.in_ok-found.field-0 c.in-Some.found _ c.in-Some.is c.in_ok-found.ensures.end).1;
  rest = λ files each is.
      let rest = drop c.loop-at.at c.args.bytes.now in
      let done = files_of c.loop-at.files.items in
      let some : 0 < length rest = omega (arith, length-drop c.loop-at.at c.args.bytes.now) in
      let next = next_of files done rest some (c.loop-at.invariant.rest files each is) in
      let told = read_some c.in_ok-found.field-0 c.in-Some.found _ c.in-Some.is
      (c.in_ok-found.ensures.file next.one (files_bytes next.more) next.good next.spells) in
      rest_of files done rest (drop c.in-Some.found.end c.args.bytes.now) next (files_of c.push.new.self.items)
      (ap files_of c.in_ok-push.ensures.items ∙ map-append named_of c.loop-at.files.items (c.in-Some.found.file ∷ [])
      ∙ ap (λ (n : NamedFile). done ++ n ∷ []) told.0) told.1;
}

pub returns-clause-files : goal.returns-clause-files
returns-clause-files c = λ files each is.
    let rest = drop c.loop-at.at c.args.bytes.now in
    let none : length rest ≤ 0 = omega (arith, length-drop c.loop-at.at c.args.bytes.now) in
    all_read files (files_of c.loop-at.files.items) rest none (c.loop-at.invariant.rest files each is)
