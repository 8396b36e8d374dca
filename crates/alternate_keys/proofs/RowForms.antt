-- Where the record of a row is, by the lengths that the spec of its file tells.
use Rattle.std.proofs.Common.{◌≡◌, ◌≤◌, ◌+◌, ◌*◌, ℕ, zero, suc, Bool, true, false, List, length, refl, sym, ap, subst}
use Rattle.std.proofs.Common.{◌∙◌, arith}
use Rattle.std.specs.Prelude.{nat_lt, Option, if◌then◌else◌}
use Rattle.std.proofs.lemmas.Bool.{ltb-true}
use Rattle.station.specs.Disk.{Sector}
use Rattle.btree_pages.specs.declared.row_layout.RowLayout.{RowLayout}
use Rattle.btree.specs.Entries.{Entry}
use Rattle.btree.specs.Rooted.{RootedTree}
use Rattle.chains.specs.Rows.{HasChain}
use Rattle.records.specs.declared.key.KeyOfReference.TheVariants.{Prime}
use Rattle.records.specs.Spec.{Spec, is_spec, is_long}
use Rattle.volume_format.specs.Chained.{chained_bytes, kept_bytes, form_of}
use Rattle.volume_format.specs.Trees.{layout_under}
use Rattle.volume_format.proofs.Small.{few_alternates}
use Rattle.row_trees.specs.Reading.{HasRecord, IsRecordLength}
use Rattle.row_trees.specs.RowTree.{ChainedTree, FitsForm, whole_length, value_length}

-- a record of no bytes is none of a chain
never_long : {A : Type 0} → nat_lt 1000 0 ≡ true → A
never_long is = let low = ltb-true 1000 0 is in absurd (omega (arith, low))

-- A value with its whole record.
whole_by : (b : Bool) (n a : ℕ) → nat_lt 1000 n ≡ b
    → whole_length (if b then n else 0) ((if b then 4 else n) + 8 * a) ≡ n + 8 * a
whole_by true zero a is = never_long is
whole_by true (suc more) a is = omega arith
whole_by false n a is = refl

pub value_whole : (spec : Spec) (rows : ChainedTree) → rows.tree.layout ≡ layout_under spec Prime
    → rows.record_bytes ≡ chained_bytes spec → value_length rows ≡ spec.record_length + 8 * length spec.alternates
value_whole spec rows layout form =
    ap (λ (l : RowLayout). whole_length rows.record_bytes l.value_length) layout
    ∙ ap (λ (n : ℕ). whole_length n (kept_bytes spec + 8 * length spec.alternates)) form
    ∙ whole_by (is_long spec) spec.record_length (length spec.alternates) refl

-- A value in the tree of rows has room for the page of a chain.
pub fits_by : (b : Bool) (n c : ℕ) (layout : RowLayout) → c ≤ 7 → nat_lt 1000 n ≡ b
    → layout.value_length ≡ (if b then 4 else n) + 8 * c → FitsForm (if b then n else 0) layout
fits_by true zero c layout few is long = never_long is
fits_by true (suc more) c layout few is long = (omega (arith, long), omega (arith, few, long))
fits_by false n c layout few is long = tt

pub fits_form : (spec : Spec) (layout : RowLayout) (n : ℕ) → is_spec spec ≡ true → layout ≡ layout_under spec Prime
    → n ≡ chained_bytes spec → FitsForm n layout
fits_form spec layout n is same form =
    subst (λ (k : ℕ). FitsForm k layout) (sym form) (fits_by (is_long spec) spec.record_length (length spec.alternates)
    layout (few_alternates spec is) refl (ap (λ (l : RowLayout). l.value_length) same))

-- An entry has its record.
record_by : (b : Bool) (n a : ℕ) (pages : List (Option Sector)) (entry : Entry) → nat_lt 1000 n ≡ b
    → length entry.value ≡ (if b then 4 else n) + 8 * a → HasChain (form_of (if b then n else 0)) pages entry
    → HasRecord (if b then n else 0) pages entry n
record_by true zero a pages entry is long chain = never_long is
record_by true (suc more) a pages entry is long chain = (refl, omega (arith, long), chain)
record_by false n a pages entry is long chain = omega (arith, long)

pub has_record : (spec : Spec) (pages : List (Option Sector)) (entry : Entry)
    → length entry.value ≡ (layout_under spec Prime).value_length → HasChain (form_of (chained_bytes spec)) pages entry
    → HasRecord (chained_bytes spec) pages entry spec.record_length
has_record spec pages entry long chain =
    record_by (is_long spec) spec.record_length (length spec.alternates) pages entry refl long chain

length_by : (b : Bool) (n : ℕ) → nat_lt 1000 n ≡ b → IsRecordLength (if b then n else 0) n
length_by true zero is = never_long is
length_by true (suc more) is = refl
length_by false n is = tt

pub record_length_is : (spec : Spec) → IsRecordLength (chained_bytes spec) spec.record_length
record_length_is spec = length_by (is_long spec) spec.record_length refl

-- A tree of rows is its tree and where its records are.
chained : RootedTree → ℕ → ChainedTree
chained tree n = record { tree = tree; record_bytes = n }

pub same_rows : (one two : ChainedTree) → one.tree ≡ two.tree → one.record_bytes ≡ two.record_bytes → one ≡ two
unfolding chained
same_rows one two tree form = ap (λ (t : RootedTree). chained t one.record_bytes) tree ∙ ap (chained two.tree) form
