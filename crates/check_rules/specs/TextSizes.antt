-- Sizes of texts, as the rules have them.
use Rattle.source_tree.specs.InspectRules as tree
use Rattle.check_rules.specs.declared.text_size.TextSize.{TextSize}
use Rattle.check_rules.specs.declared.text_size.TextSize.TheVariants as known

abbrev pub text_size_of : TextSize → tree.TextSize
text_size_of known.AnySize = tree.AnySize
text_size_of (known.Exactly size) = tree.Exactly size
text_size_of known.Unknown = tree.Unknown
