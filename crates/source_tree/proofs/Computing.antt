-- What unfolds where definitions of data are computed.
use Rattle.decimal18.specs.Receiver as receiver
use Rattle.decimal18.specs.Order as orders
use Rattle.picture.specs.Symbols as symbols
use Rattle.picture.specs.Runs as runs
use Rattle.picture.specs.Forms as forms
use Rattle.picture.specs.Categories as categories
use Rattle.picture.specs.Deciding as deciding
use Rattle.picture.specs.Places as places
use Rattle.picture.specs.Text as text
use Rattle.picture.specs.Regions as regions
use Rattle.picture.specs.Pictures as pictures
use Rattle.items.specs.Values as values
use Rattle.edited_move.specs.Editing as editing
use Rattle.edited_move.specs.EditedCharacters as edited
use Rattle.edited_move.specs.Moves as moves
use Rattle.text_ops.specs.Shown as shown
use Rattle.text_ops.specs.Compare as compare
use Rattle.source_tree.specs.FileStatements as statements

unfoldable pub computing : Unit {0}
unfolding
    receiver.low_digits orders.order symbols.class_has runs.runs_past runs.past_one runs.from_first runs.occurrences
    runs.ends_in runs.size_of
    forms.suppression_of categories.kind_of deciding.category_of deciding.is_of deciding.is_edited deciding.is_arranged
    deciding.past_core
    deciding.has_one_sign deciding.begins_before_point deciding.has_digits deciding.is_numeric_picture deciding.is_only
    places.each_place places.repeated_places places.region_from text.runs_of text.runs_from text.run_at text.run_from
    text.pair_at text.character_at
    text.count_at text.count_before_parenthesis text.number_at text.symbol_of regions.digits_in pictures.picture_of
    pictures.of_form pictures.of_digits
    pictures.of_characters pictures.scale_of values.value_of values.bytes_of editing.edited_bytes
    editing.characters_from edited.edited_characters
    moves.moved_bytes moves.moved_by_picture shown.shown_bytes compare.comparison_of compare.order_of_texts
    statements.stored_by statements.step_by
computing = tt
