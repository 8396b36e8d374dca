use Rattle.std.proofs.Common.{sym, ap, ◌∙◌}
use Rattle.source_tree.specs.FilingRules.{start_key_rules}
use Rattle.file_descriptions.specs.Files.{file_in}
use Rattle.declarations.specs.Named.{items_in, files_in}
use Rattle.statement_codegen.proofs.FilingKept.{start_key_names_one}
use Rattle.statement_codegen.proofs.file_verbs.start_verb.Goals as goal

pub key_item-item-requires : goal.key_item-item-requires
key_item-item-requires c =
    let items = items_in c.args.emitter.now.declarations.now in
    let files = files_in c.args.emitter.now.declarations.now in
    let file = file_in items c.args.file.now in
    record {
      named =
          start_key_names_one items files file c.in-Some.one (sym (ap (start_key_rules items files file) c.in-Some.is)
          ∙ c.requires.rules);
    }
