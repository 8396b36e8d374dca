-- READ and START, from the answers of the calls that they make.
use Rattle.std.proofs.Common.{◌≡◌, ℕ, true, false, ◌&&◌, List, take, drop, Option, Some, None, refl, sym, ◌∙◌, ap}
use Rattle.std.proofs.Common.{subst}
use Rattle.std.proofs.Common.{if◌then◌else◌}
use Rattle.std.specs.Prelude.{is_some}
use Rattle.std.specs.Option.{option_map}
use Rattle.records.specs.declared.file_spec.KeyPlace.{KeyPlace}
use Rattle.records.specs.declared.key.KeyOfReference.{KeyOfReference}
use Rattle.records.specs.declared.key.Side.{Side}
use Rattle.records.specs.declared.key.Side.TheVariants.{From, After}
use Rattle.records.specs.declared.answer.Found.{Found}
use Rattle.records.specs.declared.select.Select.{Select}
use Rattle.records.specs.declared.status.Status.{Status}
use Rattle.records.specs.declared.status.Status.TheVariants.{Success, SuccessDuplicate, AtEnd, NumberTooLong, NotFound}
use Rattle.records.specs.declared.verb.Relation.{Relation}
use Rattle.records.specs.declared.verb.Relation.TheVariants.{Equal}
use Rattle.records.specs.declared.verb.Verb.TheVariants.{ReadNext, Read, Start}
use Rattle.records.specs.Rows.{Row, part, place_of, named_pair}
use Rattle.records.specs.Order.{sought_row, found_row}
use Rattle.records.specs.Files.{File, Files}
use Rattle.records.specs.Stores.{Has, IsKey, key_length, spec_of, bound_at, record_of}
use Rattle.records.specs.Connector.{Connector, entry_of}
use Rattle.records.specs.Steps.{step, is_relative, is_too_long, ends_nowhere}
use Rattle.records.specs.FileStep.{area}
use Rattle.file_verbs.specs.declared.link.Link.{Link}
use Rattle.file_verbs.specs.Links.{IsLink, Ends, IsFoundRow}
use Rattle.file_verbs.proofs.Told.{told_no_row, told_row}
use Rattle.file_verbs.proofs.Taken.{connector_was, area_was, ended, no_row, some_row, row_put, next_none, next_some}
use Rattle.file_verbs.proofs.Taken.{takes_row, fits, read_is, start_is, stands_row}

module _ (s : Select) (l : Link) (files : Files) (bytes : List ℕ) (number : ℕ) where
  -- the connector has no position
  abbrev nowhere : KeyOfReference → Status → Connector
  nowhere key status = (ends_nowhere (entry_of s) files (connector_was s l files bytes number)
      (area_was s l files bytes number) key status).connector

  -- the connector is after the row that was taken
  abbrev after : KeyOfReference → List ℕ → Found → Connector
  after key row_bytes told = record (connector_was s l files bytes number) {
    reference = key;
    position = Some (bound_at After (part (place_of (spec_of s.file) key) row_bytes) told.number);
    read = Some (named_pair s.file.organization told.number row_bytes);
  }

  abbrev read_status : Found → Status
  read_status told = if told.repeated then SuccessDuplicate else Success

  abbrev number_after : Found → ℕ
  number_after told = if is_relative s.file.organization && is_some s.key_digits then told.number else number

  module _ {held : File} (has : Has files s.file held) where
    -- READ in sequence, where the store was asked for the row from the link's side and value on
    module _ (is_link : IsLink s l) {side : Side} (is : l.side ≡ Some side) {value seen : List ℕ}
        (value_is : value ≡ take l.value_length (drop (place_of (spec_of s.file) l.reference).offset seen))
        (seen_is : seen ≡ l.row.items) where
      abbrev sought : List ℕ → Option Row
      sought v = sought_row (spec_of s.file) l.reference (bound_at side v l.number) held.rows

      abbrev told_of : Option Row → Option Found
      told_of row = option_map (found_row (spec_of s.file) l.reference held.rows) row

      from_link : (o : Option Row) → sought value ≡ o
          → sought (take l.value_length (drop (place_of (spec_of s.file) l.reference).offset l.row.items)) ≡ o
      from_link o e = ap sought (sym (value_is
          ∙ ap (λ (b : List ℕ). take l.value_length (drop (place_of (spec_of s.file) l.reference).offset b)) seen_is))
          ∙ e

      pub next_at_end : {new : Connector} → None ≡ told_of (sought value) → new ≡ nowhere l.reference AtEnd
          → Ends (step (entry_of s) files (connector_was s l files bytes number) (area bytes number) ReadNext) AtEnd new
          (area bytes number)
      next_at_end none now = ended _ _ AtEnd _ _ (next_none s l files bytes number held has l.reference is_link.key side
          is refl (from_link None (no_row (found_row (spec_of s.file) l.reference held.rows) _ none))) refl now refl

      pub next_too_long : {new : Connector} {told : Found} → Some told ≡ told_of (sought value)
          → (is_relative s.file.organization && is_too_long s.key_digits told.number) ≡ true
          → new ≡ nowhere l.reference NumberTooLong
          → Ends (step (entry_of s) files (connector_was s l files bytes number) (area bytes number) ReadNext)
          NumberTooLong new (area bytes number)
      next_too_long {new} {told} some long now =
          let row = some_row (found_row (spec_of s.file) l.reference held.rows) (sought value) told some in
          ended _ _ NumberTooLong _ _ (next_some s l files bytes number held has l.reference is_link.key side is refl
          row.0 told true (from_link (Some row.0) row.1) row.2 is_link.key long) refl now refl

      pub next_taken :
          {told : Found} (before : List ℕ) {put row_bytes bytes_left : List ℕ} {status : Status} {new : Connector}
          {number_left : ℕ} → Some told ≡ told_of (sought value)
          → (is_relative s.file.organization && is_too_long s.key_digits told.number) ≡ false
          → put ≡ record_of before (sought value) → row_bytes ≡ put → status ≡ read_status told
          → new ≡ after l.reference row_bytes told → bytes_left ≡ row_bytes → number_left ≡ number_after told
          → Ends (step (entry_of s) files (connector_was s l files bytes number) (area bytes number) ReadNext) status
          new
          (area bytes_left number_left)
      next_taken {told} before {put} {row_bytes} {bytes_left} {status} {new} {number_left} some short put_is row_is
          told_status now left told_number =
          let row = some_row (found_row (spec_of s.file) l.reference held.rows) (sought value) told some in
          let taken = takes_row s l files bytes number held has l.reference is_link.key row.0 told row_bytes status new
          bytes_left number_left row.2 (row_is ∙ row_put before put (sought value) row.0 put_is row.1) told_status now
          left told_number in
          ended _ _ _ _ _ (next_some s l files bytes number held has l.reference is_link.key side is refl row.0 told
          false (from_link (Some row.0) row.1) row.2 is_link.key short) taken.status_is taken.connector_is taken.area_is

    -- READ by key and START, where the store was asked for the row that fits
    module _ (key : KeyOfReference) (is_key : IsKey (spec_of s.file) key) (put : List ℕ) (found : Option Found) where
      abbrev IsTold : Relation → ℕ → Option Found → Type 0
      IsTold relation count answer = IsFoundRow (spec_of s.file) key held.rows put
          (fits s l files bytes number held has key is_key relation count) answer

      none_fits : (relation : Relation) (count : ℕ) → IsTold relation count found → found ≡ None
          → fits s l files bytes number held has key is_key relation count ≡ None
      none_fits relation count told none =
          told_no_row (spec_of s.file) key held.rows put
          (fits s l files bytes number held has key is_key relation count)
          (subst (λ (o : Option Found). IsTold relation count o) none told)

      one_fits : (relation : Relation) (count : ℕ) (one : Found) → IsTold relation count found → found ≡ Some one
          → (row : Row) × (fits s l files bytes number held has key is_key relation count ≡ Some row)
          × (one ≡ found_row (spec_of s.file) key held.rows row) × (put ≡ row.bytes)
      one_fits relation count one told some =
          told_row (spec_of s.file) key held.rows put (fits s l files bytes number held has key is_key relation count)
          one
          (subst (λ (o : Option Found). IsTold relation count o) some told)

      whole : {place : KeyPlace} → place ≡ place_of (spec_of s.file) key → IsTold Equal place.length found
          → IsTold Equal (key_length (spec_of s.file) key) found
      whole same told = subst (λ (p : KeyPlace). IsTold Equal p.length found) same told

      pub read_none : {place : KeyPlace} {new : Connector} → place ≡ place_of (spec_of s.file) key
          → IsTold Equal place.length found → found ≡ None → new ≡ nowhere key NotFound
          → Ends (step (entry_of s) files (connector_was s l files bytes number) (area bytes number) (Read key))
          NotFound
          new (area bytes number)
      read_none same told none now = ended _ _ NotFound _ _ (read_is s l files bytes number held has key is_key None
          (none_fits Equal (key_length (spec_of s.file) key) (whole same told) none)) refl now refl

      pub read_taken : {place : KeyPlace} {one : Found} {row_bytes bytes_left : List ℕ} {status : Status}
          {new : Connector} {number_left : ℕ} → place ≡ place_of (spec_of s.file) key
          → IsTold Equal place.length found → found ≡ Some one → row_bytes ≡ put → status ≡ read_status one
          → new ≡ after key row_bytes one → bytes_left ≡ row_bytes → number_left ≡ number_after one
          → Ends (step (entry_of s) files (connector_was s l files bytes number) (area bytes number) (Read key)) status
          new (area bytes_left number_left)
      read_taken {place} {one} {row_bytes} {bytes_left} {status} {new} {number_left} same told some row_is told_status
          now left told_number =
          let row = one_fits Equal (key_length (spec_of s.file) key) one (whole same told) some in
          let taken = takes_row s l files bytes number held has key is_key row.0 one row_bytes status new bytes_left
          number_left row.2 (row_is ∙ row.3) told_status now left told_number in
          ended _ _ _ _ _ (read_is s l files bytes number held has key is_key (Some row.0) row.1) taken.status_is
          taken.connector_is taken.area_is

      pub start_none : (relation : Relation) (count : ℕ) {new : Connector} → IsTold relation count found → found ≡ None
          → new ≡ nowhere key NotFound
          → Ends (step (entry_of s) files (connector_was s l files bytes number) (area bytes number)
          (Start relation key count)) NotFound new (area bytes number)
      start_none relation count told none now = ended _ _ NotFound _ _ (start_is s l files bytes number held has key
          is_key relation count None (none_fits relation count told none)) refl now refl

      pub start_stands : (relation : Relation) (count : ℕ) {one : Found} {row_bytes : List ℕ} {new : Connector}
          → IsTold relation count found → found ≡ Some one → row_bytes ≡ put
          → new ≡ record (connector_was s l files bytes number) {
            reference = key;
            position = Some (bound_at From (part (place_of (spec_of s.file) key) row_bytes) one.number);
            read = None;
          }
          → Ends (step (entry_of s) files (connector_was s l files bytes number) (area bytes number)
          (Start relation key count)) Success new (area bytes number)
      start_stands relation count {one} {row_bytes} {new} told some row_is now =
          let row = one_fits relation count one told some in
          let stood =
          stands_row s l files bytes number held has key is_key row.0 one row_bytes new row.2 (row_is ∙ row.3)
          now in
          ended _ _ Success _ _ (start_is s l files bytes number held has key is_key relation count (Some row.0) row.1)
          stood.status_is stood.connector_is stood.area_is
