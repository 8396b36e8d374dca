-- Of a console line no more counts than the longest item has.
use Rattle.std.proofs.Common.{◌≡◌, ℕ, ◌-◌, ◌≤◌, List, [], ◌∷◌, ◌++◌, length, take, Option, Some, None, refl, ◌∙◌, ap}
use Rattle.std.proofs.Common.{arith, length-take}
use Rattle.std.specs.Prelude.{slice_get, replicate}
use Rattle.std.proofs.lemmas.List.{take-take}
use Rattle.items.specs.Texts.{space, padded_text}
use Rattle.source_tree.specs.References.{ItemPlace, storage_with}
use Rattle.data_instructions.specs.declared.place.Place.{Place}
use Rattle.data_instructions.specs.declared.tables.DataItem.{DataItem}
use Rattle.data_instructions.specs.declared.tables.DataTables.{DataTables}
use Rattle.data_instructions.specs.Tables.{shortened_item, item_place}
use Rattle.data_instructions.specs.Scratch.{Scratch, Step, Continues, step_at}
use Rattle.data_instructions.specs.Table.{at_newest, accept_step}
use Rattle.data_machine.specs.Finds.{FindsItem, HasItemRoom}

-- an item that isn't longer than the room takes no more
padded_front : (size room : ℕ) (line : List ℕ) → size ≤ room → padded_text size (take room line) ≡ padded_text size line
padded_front size room line least =
    let few : size - length (take room line) ≡ size - length line = omega (arith, least, length-take room line) in
    ap (λ (front : List ℕ). front ++ replicate (size - length (take room line)) space) (take-take size room line least)
    ∙ ap (λ n. take size line ++ replicate n space) few

module _ (tables : DataTables) (line : List ℕ) (room : ℕ) (s : Scratch) (enough : HasItemRoom tables room) where
  abbrev stores : List ℕ → ItemPlace → Scratch → Step
  stores text place t =
      Continues (record t { storage = storage_with place (padded_text place.item.length text) t.storage })

  at_item : (found : Option DataItem) (p : Place) (ps : List Place) → p.length ≤ room
      → step_at found
      (λ one. stores (take room line) (item_place (shortened_item one p.length) p.offset) (record s { places = ps }))
      ≡ step_at found
      (λ one. stores line (item_place (shortened_item one p.length) p.offset) (record s { places = ps }))
  at_item None p ps short = refl
  at_item (Some one) p ps short =
      ap (λ bytes. Continues (record s
      { places = ps; storage = storage_with (item_place (shortened_item one p.length) p.offset) bytes s.storage }))
      (padded_front p.length room line short)

  by_places : (ps : List Place) → FindsItem tables s.storage ps
      → at_newest tables ps (stores (take room line)) s ≡ at_newest tables ps (stores line) s
  by_places [] finds = absurd finds
  by_places (p ∷ ps) finds =
      let most = enough p.item.number finds.one finds.here in
      at_item (slice_get tables.items p.item.number) p ps (omega (arith, most, finds.short))

  pub accepts_front : FindsItem tables s.storage s.places
      → accept_step tables (take room line) s ≡ accept_step tables line s
  accepts_front finds = by_places s.places finds
