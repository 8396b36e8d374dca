-- READ and START, from what the store tells to the step of the table.
use Rattle.std.proofs.Common.{◌≡◌, ℕ, Bool, true, false, ◌&&◌, List, [], take, drop, Option, Some, None, refl, sym, ◌∙◌}
use Rattle.std.proofs.Common.{ap, if◌then◌else◌}
use Rattle.std.specs.Prelude.{unwrap_or, is_some}
use Rattle.std.specs.Option.{option_map}
use Rattle.records.specs.declared.key.KeyOfReference.{KeyOfReference}
use Rattle.records.specs.declared.key.Side.{Side}
use Rattle.records.specs.declared.key.Side.TheVariants.{From, After}
use Rattle.records.specs.declared.answer.Found.{Found}
use Rattle.records.specs.declared.select.Select.{Select}
use Rattle.records.specs.declared.status.Status.{Status}
use Rattle.records.specs.declared.status.Status.TheVariants.{Success, SuccessDuplicate, AtEnd, NumberTooLong, NotFound}
use Rattle.records.specs.declared.verb.Relation.{Relation}
use Rattle.records.specs.declared.verb.Relation.TheVariants.{Equal}
use Rattle.records.specs.declared.verb.Verb.TheVariants.{ReadNext, Read, Start}
use Rattle.records.specs.Rows.{Row, Pair, part, place_of, pair_under, named_pair}
use Rattle.records.specs.Order.{RowBound, sought_row, found_row, is_repeated}
use Rattle.records.specs.Files.{File, Files, file_at}
use Rattle.records.specs.Stores.{Has, IsKey, key_length, spec_of, bound_at, record_of}
use Rattle.records.specs.Connector.{Connector, Area, entry_of}
use Rattle.records.specs.Steps.{Step, step, rows_in, next_from, read_next, read_found, stands_at, takes, row_if_fits}
use Rattle.records.specs.Steps.{first_fitting, side_of, area_pair, is_relative, is_too_long, ends_nowhere}
use Rattle.records.specs.FileStep.{area}
use Rattle.file_verbs.specs.declared.link.Link.{Link}
use Rattle.file_verbs.specs.Links.{IsLinked, There, Gone, Ends, if_fitting, fitting_row, connector_of}
use Rattle.file_verbs.proofs.Told.{pair_is, prime_is, relative_is}

-- which row was told of
pub no_row : {A B : Type 0} (f : A → B) (o : Option A) → None ≡ option_map f o → o ≡ None
no_row f None is = refl
no_row f (Some row) is = absurd cc

pub some_row : {A B : Type 0} (f : A → B) (o : Option A) (told : B) → Some told ≡ option_map f o
    → (row : A) × (o ≡ Some row) × (told ≡ f row)
some_row f None told is = absurd cc
some_row f (Some row) told is = (row, refl, ap (λ o. unwrap_or o told) is)

pub row_put : (before bytes : List ℕ) (o : Option Row) (row : Row) → bytes ≡ record_of before o → o ≡ Some row
    → bytes ≡ row.bytes
row_put before bytes o row put is = put ∙ ap (record_of before) is

-- a step that ends so
pub ended : (one two : Step) (told : Status) (connector : Connector) (left : Area) → one ≡ two → told ≡ two.status
    → connector ≡ two.connector → left ≡ two.area → Ends one told connector left
ended one two told connector left e status connector_same area_same = record {
  status_is = status ∙ sym (ap (λ (t : Step). t.status) e);
  connector_is = connector_same ∙ sym (ap (λ (t : Step). t.connector) e);
  area_is = area_same ∙ sym (ap (λ (t : Step). t.area) e);
}

pub held_of : (files : Files) (s : Select) (l : Link) → IsLinked files s l → l.is_absent ≡ false
    → (held : File) × Has files s.file held
held_of files s l (There there held has) is = (held, has)
held_of files s l (Gone gone mode none) is = let e : true ≡ false = sym gone ∙ is in absurd cc

-- a file that is absent has no rows
pub absent_rows : (files : Files) (s : Select) (l : Link) → IsLinked files s l → l.is_absent ≡ true
    → rows_in (file_at s.file.name.items files) ≡ []
absent_rows files s l (There there held has) is = let e : true ≡ false = sym is ∙ there in absurd cc
absent_rows files s l (Gone gone mode none) is = ap rows_in none

module _ (s : Select) (l : Link) (files : Files) (bytes : List ℕ) (number : ℕ) where
  abbrev pub connector_was : Connector
  connector_was = connector_of (spec_of s.file) l

  abbrev pub area_was : Area
  area_was = area bytes number

  abbrev nowhere : KeyOfReference → Status → Step
  nowhere key status = ends_nowhere (entry_of s) files connector_was area_was key status

  -- READ and START of a file without rows
  module _ (none : rows_in (file_at s.file.name.items files) ≡ []) where
    row_by : List Row → RowBound → Step
    row_by rows b = read_next (entry_of s) files connector_was area_was (sought_row (spec_of s.file) l.reference b rows)

    pub absent_next : (side : Side) → l.side ≡ Some side
        → step (entry_of s) files connector_was area_was ReadNext ≡ nowhere l.reference AtEnd
    unfolding row_by
    absent_next side is =
        ap (λ (o : Option Side). next_from (entry_of s) files connector_was area_was (option_map (λ side. bound_at side
        (take l.value_length (drop (place_of (spec_of s.file) l.reference).offset l.row.items)) l.number) o)) is
        ∙ ap (λ (rows : List Row). row_by rows (bound_at side
        (take l.value_length (drop (place_of (spec_of s.file) l.reference).offset l.row.items)) l.number)) none

    pub absent_read : (key : KeyOfReference)
        → step (entry_of s) files connector_was area_was (Read key) ≡ nowhere key NotFound
    absent_read key =
        ap (λ (rows : List Row).
        read_found (entry_of s) files connector_was area_was key (row_if_fits (entry_of s) files connector_was area_was
        Equal key (area_pair (spec_of s.file) s.file.organization key (key_length (spec_of s.file) key) area_was)
        (sought_row (spec_of s.file) key (record {
          side = From;
          pair = area_pair (spec_of s.file) s.file.organization key (key_length (spec_of s.file) key) area_was;
        }) rows))) none

    pub absent_start : (relation : Relation) (key : KeyOfReference) (count : ℕ)
        → step (entry_of s) files connector_was area_was (Start relation key count) ≡ nowhere key NotFound
    absent_start relation key count =
        ap (λ (rows : List Row). stands_at (entry_of s) files connector_was area_was key (row_if_fits (entry_of s) files
        connector_was area_was relation key (area_pair (spec_of s.file) s.file.organization key count area_was)
        (sought_row (spec_of s.file) key (record {
          side = side_of s.file.organization relation;
          pair = area_pair (spec_of s.file) s.file.organization key count area_was;
        }) rows))) none

  module _ (held : File) (has : Has files s.file held) (key : KeyOfReference)
      (is_key : IsKey (spec_of s.file) key) where
    abbrev made_at : Pair → Pair → Connector
    made_at place read = record connector_was
        { reference = key; position = Some (record { side = After; pair = place }); read = Some read }

    abbrev made : List ℕ → ℕ → Pair → Connector
    made value n read =
        record connector_was { reference = key; position = Some (bound_at After value n); read = Some read }

    abbrev stood_at : Pair → Connector
    stood_at place =
        record connector_was { reference = key; position = Some (record { side = From; pair = place }); read = None }

    abbrev stood : List ℕ → ℕ → Connector
    stood value n = record connector_was { reference = key; position = Some (bound_at From value n); read = None }

    -- the row is taken
    pub takes_row : (row : Row) (told : Found) (row_bytes : List ℕ) (status : Status) (new : Connector) (bytes_left :
        List ℕ) (number_left : ℕ) → told ≡ found_row (spec_of s.file) key held.rows row → row_bytes ≡ row.bytes
        → status ≡ (if told.repeated then SuccessDuplicate else Success)
        → new ≡ record connector_was {
          reference = key;
          position = Some (bound_at After (part (place_of (spec_of s.file) key) row_bytes) told.number);
          read = Some (named_pair s.file.organization told.number row_bytes);
        }
        → bytes_left ≡ row_bytes
        → number_left ≡ (if is_relative s.file.organization && is_some s.key_digits then told.number else number)
        → Ends (takes (entry_of s) files connector_was area_was key row) status new (area bytes_left number_left)
    takes_row row told row_bytes status new bytes_left number_left is same status_told new_is bytes_is number_told =
        record {
          status_is = status_told ∙ ap (λ (f : Found). if f.repeated then SuccessDuplicate else Success) is
              ∙ sym (ap (λ (f : Option File). if is_repeated (spec_of s.file) key row (rows_in f) then SuccessDuplicate
              else Success) has.there);
          connector_is = new_is
              ∙ ap (λ (n : ℕ). made (part (place_of (spec_of s.file) key) row_bytes) n
              (named_pair s.file.organization n row_bytes)) number_is
              ∙ ap (λ (b : List ℕ). made (part (place_of (spec_of s.file) key) b) (pair_under (spec_of s.file) key
              row).number (named_pair s.file.organization (pair_under (spec_of s.file) key row).number b)) same
              ∙ ap (λ (p : Pair). made_at p (named_pair s.file.organization (pair_under (spec_of s.file) key row).number
              row.bytes)) (sym (pair_is (spec_of s.file) key row))
              ∙ ap (λ (p : Pair). made_at (pair_under (spec_of s.file) key row) p)
              (prime_is (spec_of s.file) key row s.file.sound is_key);
          area_is = ap (λ (b : List ℕ). area b number_left) (bytes_is ∙ same)
              ∙ ap (λ (n : ℕ). area row.bytes n) (number_told ∙ by_relative (is_relative s.file.organization)
              (λ r. number_is ∙ relative_is (spec_of s.file) key row s.file.sound is_key r));
        }
      where
        number_is : told.number ≡ (pair_under (spec_of s.file) key row).number
        number_is = ap (λ (f : Found). f.number) is

        by_relative : (b : Bool) → (b ≡ true → told.number ≡ row.number) → (if b && is_some s.key_digits
            then told.number else number) ≡ (if b && is_some s.key_digits then row.number else number)
        by_relative true h = ap (λ (n : ℕ). if is_some s.key_digits then n else number) (h refl)
        by_relative false h = refl

    -- READ in sequence
    module _ (side : Side) (is : l.side ≡ Some side) (same_key : key ≡ l.reference) where
      abbrev pub next_bound : RowBound
      next_bound =
          bound_at side (take l.value_length (drop (place_of (spec_of s.file) l.reference).offset l.row.items)) l.number

      abbrev pub next_row : Option Row
      next_row = sought_row (spec_of s.file) l.reference next_bound held.rows

      next_is : step (entry_of s) files connector_was area_was ReadNext
          ≡ read_next (entry_of s) files connector_was area_was next_row
      next_is =
          ap (λ (o : Option Side). next_from (entry_of s) files connector_was area_was (option_map (λ side. bound_at
          side (take l.value_length (drop (place_of (spec_of s.file) l.reference).offset l.row.items)) l.number) o)) is
          ∙ ap (λ (f : Option File). read_next (entry_of s) files connector_was area_was
          (sought_row (spec_of s.file) l.reference next_bound (rows_in f))) has.there

      pub next_none : next_row ≡ None
          → step (entry_of s) files connector_was area_was ReadNext ≡ nowhere l.reference AtEnd
      next_none none = next_is ∙ ap (read_next (entry_of s) files connector_was area_was) none

      abbrev pub chosen : Bool → Row → Step
      chosen b row = if b then nowhere l.reference NumberTooLong
          else takes (entry_of s) files connector_was area_was l.reference row

      swap : (b v : Bool) (m n : ℕ) → (b && is_too_long s.key_digits m) ≡ v → (b ≡ true → m ≡ n)
          → (b && is_too_long s.key_digits n) ≡ v
      swap true v m n e same = ap (is_too_long s.key_digits) (sym (same refl)) ∙ e
      swap false v m n e same = e

      long_is : (row : Row) (told : Found) (v : Bool)
          → told ≡ found_row (spec_of s.file) l.reference held.rows row → IsKey (spec_of s.file) l.reference
          → (is_relative s.file.organization && is_too_long s.key_digits told.number) ≡ v
          → (is_relative s.file.organization && is_too_long s.key_digits row.number) ≡ v
      long_is row told v is_told isk e = swap (is_relative s.file.organization) v told.number row.number e
          (λ r. ap (λ (f : Found). f.number) is_told ∙ relative_is (spec_of s.file) l.reference row s.file.sound isk r)

      pub next_some : (row : Row) (told : Found) (v : Bool) → next_row ≡ Some row
          → told ≡ found_row (spec_of s.file) l.reference held.rows row → IsKey (spec_of s.file) l.reference
          → (is_relative s.file.organization && is_too_long s.key_digits told.number) ≡ v
          → step (entry_of s) files connector_was area_was ReadNext ≡ chosen v row
      next_some row told v some is_told isk long =
          next_is ∙ ap (read_next (entry_of s) files connector_was area_was) some
          ∙ ap (λ (b : Bool). chosen b row) (long_is row told v is_told isk long)

    -- READ by key and START
    fitting_same : (relation : Relation) (place : Pair) (o : Option Row) → row_if_fits (entry_of s) files connector_was
        area_was relation key place o ≡ if_fitting (spec_of s.file) relation key place o
    fitting_same relation place None = refl
    fitting_same relation place (Some row) = refl

    abbrev pub fits : Relation → ℕ → Option Row
    fits relation count = fitting_row (spec_of s.file) relation key
        (area_pair (spec_of s.file) s.file.organization key count area_was) held.rows

    first_is : (relation : Relation) (count : ℕ) → first_fitting (entry_of s) files connector_was area_was relation key
        (area_pair (spec_of s.file) s.file.organization key count area_was) ≡ fits relation count
    first_is relation count =
        ap (λ (f : Option File). row_if_fits (entry_of s) files connector_was area_was relation key
        (area_pair (spec_of s.file) s.file.organization key count area_was)
        (sought_row (spec_of s.file) key (record {
          side = side_of s.file.organization relation;
          pair = area_pair (spec_of s.file) s.file.organization key count area_was;
        }) (rows_in f))) has.there
        ∙ fitting_same relation (area_pair (spec_of s.file) s.file.organization key count area_was)
        (sought_row (spec_of s.file) key (record {
          side = side_of s.file.organization relation;
          pair = area_pair (spec_of s.file) s.file.organization key count area_was;
        }) held.rows)

    pub read_is : (o : Option Row) → fits Equal (key_length (spec_of s.file) key) ≡ o → step (entry_of s) files
        connector_was area_was (Read key) ≡ read_found (entry_of s) files connector_was area_was key o
    read_is o e = ap (read_found (entry_of s) files connector_was area_was key)
        (first_is Equal (key_length (spec_of s.file) key) ∙ e)

    pub start_is : (relation : Relation) (count : ℕ) (o : Option Row) → fits relation count ≡ o
        → step (entry_of s) files connector_was area_was (Start relation key count) ≡ stands_at (entry_of s) files
        connector_was area_was key o
    start_is relation count o e =
        ap (stands_at (entry_of s) files connector_was area_was key) (first_is relation count ∙ e)

    pub stands_row : (row : Row) (told : Found) (row_bytes : List ℕ) (new : Connector)
        → told ≡ found_row (spec_of s.file) key held.rows row → row_bytes ≡ row.bytes
        → new ≡ record connector_was {
          reference = key;
          position = Some (bound_at From (part (place_of (spec_of s.file) key) row_bytes) told.number);
          read = None;
        }
        → Ends (stands_at (entry_of s) files connector_was area_was key (Some row)) Success new area_was
    stands_row row told row_bytes new is same new_is = record {
      status_is = refl;
      connector_is = new_is
          ∙ ap (λ (n : ℕ). stood (part (place_of (spec_of s.file) key) row_bytes) n) (ap (λ (f : Found). f.number) is)
          ∙ ap (λ (b : List ℕ).
          stood (part (place_of (spec_of s.file) key) b) (pair_under (spec_of s.file) key row).number) same
          ∙ ap stood_at (sym (pair_is (spec_of s.file) key row));
      area_is = refl;
    }
