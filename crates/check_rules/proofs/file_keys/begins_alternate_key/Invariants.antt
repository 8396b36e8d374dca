use Rattle.std.proofs.Common.{◌≡◌, drop}
use Rattle.std.specs.Prelude.{map}
use Rattle.std.specs.List.{list_any}
use Rattle.source_tree.specs.FilingRules.{begins_key}
use Rattle.check_rules.specs.FiledKeys.{key_place_of, place_of}
use Rattle.check_rules.proofs.file_keys.begins_alternate_key.Given as goal

abbrev pub invariant-loop-key : goal.invariant-loop-key
invariant-loop-key l = list_any (begins_key (place_of l.one)) (map key_place_of l.alternates)
    ≡ list_any (begins_key (place_of l.one)) (map key_place_of (drop l.key-index l.alternates))
