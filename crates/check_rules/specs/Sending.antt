-- What a MOVE sends, as far as its rule asks.
use Rattle.std.specs.Prelude.{Bool, not, ◌&&◌, ◌||◌, []}
use Rattle.items.specs.declared.item.Kind.{Kind}
use Rattle.items.specs.declared.item.Item.{Item}
use Rattle.items.specs.declared.taken.Taken.{Taken}
use Rattle.items.specs.declared.taken.Taken.TheVariants as taken
use Rattle.edited_move.specs.declared.category.Sending.{Sending}
use Rattle.edited_move.specs.Permitted.{is_permitted, sending_of, receiving_of}
use Rattle.edited_move.specs.Moves.{needs_number, is_group, is_number_sender}
use Rattle.source_tree.specs.declared.literal.Figurative.{Figurative}
use Rattle.source_tree.specs.Literals.{constant_of}
use Rattle.source_tree.specs.Accepting.{date_sender}
use Rattle.check_rules.specs.declared.sent.Sent.{Sent}

abbrev pub item_taken : Item → Taken
item_taken item = taken.Item item

abbrev pub is_short_item : Item → Bool
is_short_item item = is_number_sender (taken.Item item)

abbrev pub constant_category : Figurative → Sending
constant_category constant = sending_of (taken.Figurative (constant_of constant))

abbrev pub date_taken : Taken
date_taken = (date_sender []).taken

abbrev pub sent_of : Taken → Sent
sent_of from = record { category = sending_of from; is_group = is_group from; is_short = is_number_sender from }

abbrev pub may_go : Sent → Kind → Bool
may_go one kind = is_permitted one.category (receiving_of kind) && (not (needs_number kind) || one.is_group || one.is_short)
