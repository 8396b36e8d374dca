-- The entries of a tree as they are seen, and the one that is looked for.
use Rattle.std.proofs.Common.{◌≡◌, ℕ, List, [], ◌∷◌, refl, ap, subst, ◌∙◌}
use Rattle.std.specs.Prelude.{map, Contains, Option, Some, None, if◌then◌else◌, Bool, true, false}
use Rattle.std.specs.Option.{option_map}
use Rattle.std.specs.Ordering.{is_lt, is_gt}
use Rattle.station.specs.Disk.{Sector}
use Rattle.btree.specs.Entries.{Entry, first_from, first_entry_after}
use Rattle.btree.specs.Laws.{keys_listed}
use Rattle.btree.proofs.Runs.{in_head, in_tail}
use Rattle.btree_pages.specs.Keys.{key_cmp}
use Rattle.chains.specs.Rows.{RowForm, unrolled_entry}
use Rattle.chains.proofs.Entries.{from_as, later_as}
use Rattle.chains.proofs.Rows.{keys_kept}
use Rattle.records.specs.declared.key.KeyOfReference.{KeyOfReference}
use Rattle.records.specs.declared.key.KeyOfReference.TheVariants.{Prime, Alternate}
use Rattle.records.specs.Spec.{Spec}
use Rattle.volume_format.specs.Chained.{chained_bytes, form_of}
use Rattle.alternate_keys.specs.declared.search_start.SearchStart.{SearchStart}
use Rattle.alternate_keys.specs.declared.search_start.SearchStart.TheVariants as aim
use Rattle.alternate_keys.specs.Aims.{found_entry}
use Rattle.alternate_keys.specs.Seen.{seen_as, seen_under}

-- They have the keys that they have on the pages.
keys_as : (form : RowForm) (pages : List (Option Sector)) (entries : List Entry)
    → keys_listed (map (unrolled_entry form pages) entries) ≡ keys_listed entries
keys_as form pages [] = refl
keys_as form pages (entry ∷ more) =
    ap (λ (k : List ℕ). k ∷ keys_listed (map (unrolled_entry form pages) more)) (keys_kept form pages entry)
    ∙ ap (λ (l : List (List ℕ)). entry.key ∷ l) (keys_as form pages more)

pub keys_seen : (spec : Spec) (key : KeyOfReference) (pages : List (Option Sector)) (entries : List Entry)
    → keys_listed (seen_under spec key pages entries) ≡ keys_listed entries
keys_seen spec Prime pages entries = keys_as (form_of (chained_bytes spec)) pages entries
keys_seen spec (Alternate i) pages entries = refl

-- The one that is looked for is found by its key.
found_as : (form : RowForm) (pages : List (Option Sector)) (way : SearchStart) (entries : List Entry) (at : List ℕ)
    → found_entry way (map (unrolled_entry form pages) entries) at
    ≡ option_map (unrolled_entry form pages) (found_entry way entries at)
found_as form pages aim.Nothing entries at = refl
found_as form pages aim.From entries at = from_as (unrolled_entry form pages) (keys_kept form pages) entries at
found_as form pages aim.After entries at = later_as (unrolled_entry form pages) (keys_kept form pages) entries at

same_option : (spec : Spec) (i : ℕ) (pages : List (Option Sector)) (o : Option Entry)
    → o ≡ option_map (seen_as spec (Alternate i) pages) o
same_option spec i pages None = refl
same_option spec i pages (Some entry) = refl

pub found_seen : (spec : Spec) (key : KeyOfReference) (pages : List (Option Sector)) (way : SearchStart)
    (entries : List Entry) (at : List ℕ) → found_entry way (seen_under spec key pages entries) at
    ≡ option_map (seen_as spec key pages) (found_entry way entries at)
found_seen spec Prime pages way entries at = found_as (form_of (chained_bytes spec)) pages way entries at
found_seen spec (Alternate i) pages way entries at = same_option spec i pages (found_entry way entries at)

-- And it is one of the entries.
from_by : (b : Bool) (e entry : Entry) (more : List Entry) (rest : Option Entry)
    → (if b then rest else Some e) ≡ Some entry → (rest ≡ Some entry → Contains more entry)
    → Contains (e ∷ more) entry
from_by true e entry more rest is later = in_tail e more entry (later is)
from_by false e entry more rest is later =
    let same : e ≡ entry = cc in
    subst (λ (x : Entry). Contains (e ∷ more) x) same (in_head e more)

from_in : (entries : List Entry) (at : List ℕ) (entry : Entry) → first_from entries at ≡ Some entry
    → Contains entries entry
from_in [] at entry is = absurd cc
from_in (e ∷ more) at entry is =
    from_by (is_lt (key_cmp e.key at)) e entry more (first_from more at) is (from_in more at entry)

after_by : (b : Bool) (e entry : Entry) (more : List Entry) (rest : Option Entry)
    → (if b then Some e else rest) ≡ Some entry → (rest ≡ Some entry → Contains more entry)
    → Contains (e ∷ more) entry
after_by true e entry more rest is later =
    let same : e ≡ entry = cc in
    subst (λ (x : Entry). Contains (e ∷ more) x) same (in_head e more)
after_by false e entry more rest is later = in_tail e more entry (later is)

after_in : (entries : List Entry) (at : List ℕ) (entry : Entry) → first_entry_after entries at ≡ Some entry
    → Contains entries entry
after_in [] at entry is = absurd cc
after_in (e ∷ more) at entry is =
    after_by (is_gt (key_cmp e.key at)) e entry more (first_entry_after more at) is (after_in more at entry)

pub found_in : (way : SearchStart) (entries : List Entry) (at : List ℕ) (entry : Entry)
    → found_entry way entries at ≡ Some entry → Contains entries entry
found_in aim.Nothing entries at entry is = absurd cc
found_in aim.From entries at entry is = from_in entries at entry is
found_in aim.After entries at entry is = after_in entries at entry is
