use Rattle.std.proofs.Common.{sym, ap, ◌∙◌}
use Rattle.source_tree.specs.Filing.{is_in_sequence}
use Rattle.source_tree.specs.FilingRules.{read_key_rules}
use Rattle.file_descriptions.specs.Files.{file_in}
use Rattle.declarations.specs.Named.{items_in, files_in}
use Rattle.statement_codegen.proofs.FilingKept.{read_key_names_one}
use Rattle.statement_codegen.proofs.file_verbs.read_verb.Goals as goal

pub key_item-item-requires : goal.key_item-item-requires
key_item-item-requires c =
    let items = items_in c.args.emitter.now.declarations.now in
    let files = files_in c.args.emitter.now.declarations.now in
    let file = file_in items c.args.file.now in
    let in_sequence = is_in_sequence file c.args.next in
    record {
      named = read_key_names_one items files in_sequence file c.in-Some.key
          (sym (ap (read_key_rules items files in_sequence file) c.in-Some.is) ∙ c.requires.rules);
    }
