use Rattle.std.proofs.Common.{◌≡◌, ◌==◌, ℕ, false, List, sym, ◌∙◌, ap}
use Rattle.std.specs.List.{list_all}
use Rattle.std.proofs.lemmas.List.{get_or_read}
use Rattle.station.proofs.TwoPhase.{on_ok}
use Rattle.pages.specs.Layout.{words}
use Rattle.pages.specs.Image.{map_part}
use Rattle.pages.proofs.Drafts.{kept_mapped, blank_mapped, written_mapped}
use Rattle.pages.proofs.Words.{all_zeros}
use Rattle.pages.proofs.Taking.{kept_counted, blank_counted, written_counted, now_written, full_map}
use Rattle.pages.proofs.stage.stage_map.Goals as goal

pub returns-then-not-index-clause-mapped : goal.returns-then-not-index-clause-mapped
returns-then-not-index-clause-mapped c = λ v changes draft.
    kept_mapped v c.args.volume.now c.args.draft.now changes c.args.map draft c.requires.map
    (sym (get_or_read c.args.draft.now.changed_maps.items c.args.map c.index.result.now c.requires.changed_maps
    c.index.ensures false) ∙ c.if-not-index.true)

pub returns-then-is_blank-clause-mapped : goal.returns-then-is_blank-clause-mapped
returns-then-is_blank-clause-mapped c = λ v changes draft.
    let entries : c.map_entries.result.now ≡ map_part c.args.volume.now.table c.args.map =
    c.map_entries.ensures.entries ∙ ap (λ (t : List ℕ). map_part t c.args.map) c.entries.ensures in
    on_ok c.set_map.result (λ sets. blank_mapped v c.args.volume.now c.args.draft.now changes c.args.map draft
    c.requires.map c.set_map.new.draft c.set_map.new.volume
    (sym entries ∙ all_zeros c.map_entries.result.now c.map_entries.ensures.count
    (sym c.is_blank.ensures ∙ c.if-is_blank.true)) sets) c.set_map.ensures.set

pub returns-clause-mapped : goal.returns-clause-mapped
returns-clause-mapped c = λ v changes draft.
    on_ok c.set_map-2.result
    (λ sets. written_mapped v c.args.volume.now c.args.draft.now changes c.args.map draft c.requires.map
    c.in_ok-bytes.bytes c.place_block.new.draft c.set_map-2.new.draft c.set_map-2.new.volume c.in_ok-sector.sector
    (ap words c.in_ok-bytes.ensures ∙ c.map_bytes.ensures.reads)
    c.in_ok-sector.ensures.placed sets) c.set_map-2.ensures.set

pub returns-then-not-index-clause-counted : goal.returns-then-not-index-clause-counted
returns-then-not-index-clause-counted c = λ v changes counted.
    kept_counted v c.args.volume.now c.args.draft.now changes c.args.map counted c.requires.changed_maps
    (sym (get_or_read c.args.draft.now.changed_maps.items c.args.map c.index.result.now c.requires.changed_maps
    c.index.ensures false) ∙ c.if-not-index.true)

pub returns-then-is_blank-clause-counted : goal.returns-then-is_blank-clause-counted
returns-then-is_blank-clause-counted c = λ v changes counted.
    let entries : c.map_entries.result.now ≡ map_part c.args.volume.now.table c.args.map =
    c.map_entries.ensures.entries ∙ ap (λ (t : List ℕ). map_part t c.args.map) c.entries.ensures in
    on_ok c.set_map.result (λ sets. blank_counted v c.args.volume.now c.args.draft.now changes c.args.map counted
    c.requires.changed_maps c.set_map.new.draft c.set_map.new.volume
    (sym (ap (list_all (λ entry. entry == 0)) entries) ∙ sym c.is_blank.ensures ∙ c.if-is_blank.true) sets)
    c.set_map.ensures.set

pub returns-clause-counted : goal.returns-clause-counted
returns-clause-counted c = λ v changes counted.
    let entries : c.map_entries.result.now ≡ map_part c.args.volume.now.table c.args.map =
    c.map_entries.ensures.entries ∙ ap (λ (t : List ℕ). map_part t c.args.map) c.entries.ensures in
    let written = now_written v c.args.volume.now c.args.draft.now changes c.args.map counted c.requires.changed_maps
    (sym (get_or_read c.args.draft.now.changed_maps.items c.args.map c.index.result.now c.requires.changed_maps
    c.index.ensures false) ∙ c.if-not-index.false)
    (sym (ap (list_all (λ entry. entry == 0)) entries) ∙ sym c.is_blank.ensures ∙ c.if-is_blank.false) in
    on_ok c.set_map-2.result (λ sets. written_counted v c.args.volume.now c.args.draft.now changes c.args.map counted
    c.requires.changed_maps c.in_ok-bytes.bytes c.place_block.new.draft c.set_map-2.new.draft c.set_map-2.new.volume
    c.in_ok-sector.sector written
    c.in_ok-sector.ensures.placed sets) c.set_map-2.ensures.set

pub returns-in_err-sector-clause-full : goal.returns-in_err-sector-clause-full
returns-in_err-sector-clause-full c = λ v changes counted full.
    let told = rw full at c.from_residual-in_err-sector.ensures.1 in
    let entries : c.map_entries.result.now ≡ map_part c.args.volume.now.table c.args.map =
    c.map_entries.ensures.entries ∙ ap (λ (t : List ℕ). map_part t c.args.map) c.entries.ensures in
    let written = now_written v c.args.volume.now c.args.draft.now changes c.args.map counted c.requires.changed_maps
    (sym (get_or_read c.args.draft.now.changed_maps.items c.args.map c.index.result.now c.requires.changed_maps
    c.index.ensures false) ∙ c.if-not-index.false)
    (sym (ap (list_all (λ entry. entry == 0)) entries) ∙ sym c.is_blank.ensures ∙ c.if-is_blank.false) in
    full_map v c.args.volume.now c.args.draft.now changes c.args.map counted c.requires.changed_maps written
    (c.in_err-sector.ensures.full (cc (told)))
