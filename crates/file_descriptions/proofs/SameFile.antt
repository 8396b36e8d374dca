-- A file that was made part by part.
use Rattle.std.proofs.Common.{◌≡◌, ℕ, List, ap, ◌∙◌}
use Rattle.std.specs.Prelude.{Option}
use Rattle.items.specs.declared.item.Item.{Item}
use Rattle.records.specs.declared.file_spec.Organization.{Organization}
use Rattle.records.specs.declared.file_spec.AlternateKey.{AlternateKey}
use Rattle.source_tree.specs.declared.select.Select.{Select}
use Rattle.source_tree.specs.Levels.{forest_of}
use Rattle.source_tree.specs.Places.{LocatedItem}
use Rattle.source_tree.specs.References.{ItemPlace}
use Rattle.source_tree.specs.Records.{record_length}
use Rattle.source_tree.specs.ProgramFiles as meaning
use Rattle.source_tree.specs.ProgramFiles.{DescribedFile, digits_at, sent_of, alternates, organization_by, item_place}
use Rattle.source_tree.specs.ProgramFiles.{file_by}
use Rattle.file_descriptions.specs.declared.description.FileRecords.{FileRecords}
use Rattle.file_descriptions.specs.Descriptions.{AreRecords}

module _ (select : Select) (number : ℕ) where
  -- a file of these parts
  abbrev pub made : Organization → List AlternateKey → ℕ → ℕ → Item → Option ItemPlace → Option ItemPlace
      → meaning.ProgramFile
  made organization keys area size sent relative status = record {
    name = select.name;
    select = select;
    entry = record {
      name = select.assigned.characters;
      spec = record { organization = organization; record_length = size; alternates = keys };
      access = select.access;
      optional = select.optional;
      key_digits = digits_at relative;
    };
    places = record { number = number; area = area; relative_key = relative; status = status };
    sent = sent;
  }

  pub same_file : (items : List LocatedItem) (there : DescribedFile) (organization : Organization)
      (keys : List AlternateKey) (found : FileRecords) (relative status : Option ItemPlace)
      → organization ≡ organization_by items select.organization select.record_key
      → keys ≡ alternates items select.alternate_keys → AreRecords there found
      → relative ≡ item_place items select.relative_key → status ≡ item_place items select.status
      → made organization keys found.area found.record_length found.sent relative status
      ≡ file_by items number select there
  same_file items there organization keys found relative status o k f r s =
      ap (λ x. made x keys found.area found.record_length found.sent relative status) o
      ∙ ap (λ x. made (organization_by items select.organization select.record_key) x found.area found.record_length
      found.sent relative status) k
      ∙ ap (λ x. made (organization_by items select.organization select.record_key)
      (alternates items select.alternate_keys) x found.record_length found.sent relative status) f.area
      ∙ ap (λ x. made (organization_by items select.organization select.record_key)
      (alternates items select.alternate_keys) there.area x found.sent relative status) f.bytes
      ∙ ap (λ x. made (organization_by items select.organization select.record_key)
      (alternates items select.alternate_keys) there.area (record_length there.entries) x relative status) f.sent
      ∙ ap (λ x. made (organization_by items select.organization select.record_key)
      (alternates items select.alternate_keys) there.area (record_length there.entries)
      (sent_of (record_length there.entries) (forest_of there.entries)) x status) r
      ∙ ap (λ x. made (organization_by items select.organization select.record_key)
      (alternates items select.alternate_keys) there.area (record_length there.entries)
      (sent_of (record_length there.entries) (forest_of there.entries)) (item_place items select.relative_key) x) s
