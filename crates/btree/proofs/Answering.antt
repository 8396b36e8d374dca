-- What the leaf of a way answers a search.
use Rattle.std.proofs.Common.{◌≡◌, ◌≤◌, ◌<◌, ◌+◌, Bool, true, false, ℕ, List, [], ◌∷◌, ◌++◌, length, drop, refl, sym}
use Rattle.std.proofs.Common.{ap, subst, ◌∙◌, inl, inr}
use Rattle.std.specs.Prelude.{◌⊎◌, slice_index_or, if◌then◌else◌, Option, Some, None}
use Rattle.std.specs.Ordering.{is_lt, is_eq, is_gt}
use Rattle.std.proofs.lemmas.List.{append-nil, append_assoc, map-append}
use Rattle.std.proofs.lemmas.List.Elements.{All-nil}
use Rattle.station.specs.Disk.{Sector}
use Rattle.btree_pages.specs.declared.row_layout.RowLayout.{RowLayout}
use Rattle.btree_pages.specs.declared.row_layout.Kind.TheVariants.{Leaf}
use Rattle.btree_pages.specs.Keys.{key_cmp, key_of, keys_of, Ascend, Precedes, AllBelow, AllAbove}
use Rattle.btree.specs.declared.sought.Sought.{Sought}
use Rattle.btree.specs.declared.sought.Sought.TheVariants.{With, From, After}
use Rattle.btree.specs.Tree.{TreeNode, rows_in_order, IsTree, node_on}
use Rattle.btree.specs.Path.{PathStep, first_key}
use Rattle.btree.specs.Entries.{Entry, entry_of, entries_of_rows, entries_of, entry_with, first_from, first_entry_after}
use Rattle.btree.specs.Entries.{first_entry}
use Rattle.btree.specs.Propagates.{node_with}
use Rattle.btree.specs.Steps.{LeadsTo}
use Rattle.btree.specs.declared.sought.Look.{Look}
use Rattle.btree.specs.declared.sought.Look.TheVariants.{Here, Missing, Below}
use Rattle.btree.specs.Sought.{sought_in, AnswersIn, AnswersAt, LooksIn, LooksAt}
use Rattle.btree.proofs.Order.{Up}
use Rattle.btree.proofs.Descents.{rows_read}
use Rattle.btree.proofs.Found.{IsAround, IsAt, IsGap, with_at, with_gap, from_at, from_gap, after_at, after_gap}
use Rattle.btree.proofs.Found.{with_passes, from_passes, after_passes, with_above, from_above, after_above}
use Rattle.btree.proofs.Found.{first_within, first_beyond, first_right, some_right}
use Rattle.btree.proofs.Searches.{IsLeafAmong, leaf_among, FindsAt, FindsGap}

-- What bytes answer, their page does.
answers_there : (layout : RowLayout) (pages : List (Option Sector)) (page : ℕ) (bytes : Sector) (key : List ℕ)
    (sought : Sought) (entry : Option Entry) → slice_index_or pages page None ≡ Some bytes
    → AnswersIn layout bytes key sought entry → AnswersAt layout pages page key sought entry
answers_there layout pages page bytes key sought entry is answers =
    record {
      node = answers.node;
      read = ap (node_on layout) is ∙ answers.read;
      layout_is = answers.layout_is;
      leaf = answers.leaf;
      entry_is = answers.entry_is;
    }

pub looks_there : (layout : RowLayout) (pages : List (Option Sector)) (page : ℕ) (bytes : Sector) (key : List ℕ)
    (sought : Sought) (entry : Entry) (look : Look) → slice_index_or pages page None ≡ Some bytes
    → LooksIn layout bytes key sought entry look → LooksAt layout pages page key sought entry look
looks_there layout pages page bytes key sought entry Here is looks =
    answers_there layout pages page bytes key sought (Some entry) is looks
looks_there layout pages page bytes key sought entry Missing is looks =
    answers_there layout pages page bytes key sought None is looks
looks_there layout pages page bytes key sought entry (Below child) is looks = record {
  node = looks.node;
  read = ap (node_on layout) is ∙ looks.read;
  layout_is = looks.layout_is;
  inner = looks.inner;
  place = looks.place;
  chosen = looks.chosen;
  child_is = looks.child_is;
}

-- an answer is one thing
pub below_not_here : {A : Type 0} {child : ℕ} → Below child ≡ Here → A
below_not_here is = cc

pub missing_not_here : {A : Type 0} → Missing ≡ Here → A
missing_not_here is = cc

-- A page alone: nothing stands left or right of it.
alone : (layout : RowLayout) (key : List ℕ) (rows : List (List ℕ)) → IsAround layout key rows [] rows []
alone layout key rows = record {
  is = sym (append-nil rows);
  low = All-nil (λ row. Precedes (key_of layout row) key);
  high = All-nil (λ row. Precedes key (key_of layout row));
}

rest_alone : (layout : RowLayout) (place : ℕ) (rows : List (List ℕ)) → first_entry
    (entries_of_rows layout (drop place rows ++ [])) ≡ first_entry (entries_of_rows layout (drop place rows))
rest_alone layout place rows =
    ap (λ (r : List (List ℕ)). first_entry (entries_of_rows layout r)) (append-nil (drop place rows))

first_at : (layout : RowLayout) (rows : List (List ℕ)) (place : ℕ) → place < length rows
    → first_entry (entries_of_rows layout (drop place rows)) ≡ Some (entry_of layout (slice_index_or rows place []))
first_at layout rows place low = sym (rest_alone layout place rows) ∙ first_within layout rows [] place low

pub first_at_end : (layout : RowLayout) (rows : List (List ℕ)) (place : ℕ) → length rows ≤ place
    → first_entry (entries_of_rows layout (drop place rows)) ≡ None
first_at_end layout rows place high = sym (rest_alone layout place rows) ∙ first_beyond layout rows [] place high

pub entry_there : (layout : RowLayout) (rows : List (List ℕ)) (place : ℕ) → place < length rows
    → Some (entry_of layout (slice_index_or rows place [])) ≡ first_entry (entries_of_rows layout (drop place rows))
entry_there layout rows place low = sym (first_at layout rows place low)

-- the place from which on the sought entry is the first, where the key stands and where it doesn't
at : (layout : RowLayout) (key : List ℕ) (rows : List (List ℕ)) (place : ℕ) → Ascend (keys_of layout rows)
    → place < length rows → key_of layout (slice_index_or rows place []) ≡ key → FindsAt layout key rows place
    → IsAt layout key rows place
at layout key rows place up low here finds =
    record { low = low; here = here; before = (finds up).0; after = (finds up).1 }

gap : (layout : RowLayout) (key : List ℕ) (rows : List (List ℕ)) (place : ℕ) → Ascend (keys_of layout rows)
    → place ≤ length rows → FindsGap layout key rows place → IsGap layout key rows place
gap layout key rows place up low finds = record { low = low; before = (finds up).0; after = (finds up).1 }

pub place_with : (layout : RowLayout) (key : List ℕ) (rows : List (List ℕ)) (place : ℕ) → Ascend (keys_of layout rows)
    → place < length rows → key_of layout (slice_index_or rows place []) ≡ key → FindsAt layout key rows place
    → entry_with (entries_of_rows layout rows) key ≡ first_entry (entries_of_rows layout (drop place rows))
place_with layout key rows place up low here finds =
    with_at layout key rows [] rows [] place (alone layout key rows) (at layout key rows place up low here finds)
    ∙ entry_there layout rows place low

pub place_from : (layout : RowLayout) (key : List ℕ) (rows : List (List ℕ)) (place : ℕ) → Ascend (keys_of layout rows)
    → place < length rows → key_of layout (slice_index_or rows place []) ≡ key → FindsAt layout key rows place
    → first_from (entries_of_rows layout rows) key ≡ first_entry (entries_of_rows layout (drop place rows))
place_from layout key rows place up low here finds =
    from_at layout key rows [] rows [] place (alone layout key rows) (at layout key rows place up low here finds)
    ∙ entry_there layout rows place low

pub place_after : (layout : RowLayout) (key : List ℕ) (rows : List (List ℕ)) (place : ℕ) → Ascend (keys_of layout rows)
    → place < length rows → key_of layout (slice_index_or rows place []) ≡ key → FindsAt layout key rows place
    → first_entry_after (entries_of_rows layout rows) key ≡ first_entry (entries_of_rows layout (drop (place + 1) rows))
place_after layout key rows place up low here finds =
    after_at layout key rows [] rows [] place (alone layout key rows) (at layout key rows place up low here finds)
    ∙ rest_alone layout (place + 1) rows

pub gap_with : (layout : RowLayout) (key : List ℕ) (rows : List (List ℕ)) (place count : ℕ)
    → Ascend (keys_of layout rows) → place ≤ length rows → FindsGap layout key rows place → length rows ≤ count
    → entry_with (entries_of_rows layout rows) key ≡ first_entry (entries_of_rows layout (drop count rows))
gap_with layout key rows place count up low finds end =
    with_gap layout key rows [] rows [] place (alone layout key rows) (gap layout key rows place up low finds)
    ∙ sym (first_at_end layout rows count end)

pub gap_from : (layout : RowLayout) (key : List ℕ) (rows : List (List ℕ)) (place : ℕ) → Ascend (keys_of layout rows)
    → place ≤ length rows → FindsGap layout key rows place
    → first_from (entries_of_rows layout rows) key ≡ first_entry (entries_of_rows layout (drop place rows))
gap_from layout key rows place up low finds =
    from_gap layout key rows [] rows [] place (alone layout key rows) (gap layout key rows place up low finds)
    ∙ rest_alone layout place rows

pub gap_after : (layout : RowLayout) (key : List ℕ) (rows : List (List ℕ)) (place : ℕ) → Ascend (keys_of layout rows)
    → place ≤ length rows → FindsGap layout key rows place
    → first_entry_after (entries_of_rows layout rows) key ≡ first_entry (entries_of_rows layout (drop place rows))
gap_after layout key rows place up low finds =
    after_gap layout key rows [] rows [] place (alone layout key rows) (gap layout key rows place up low finds)
    ∙ rest_alone layout place rows

-- A search in two lists, one after the other.
pub one_of : Option Entry → Option Entry → Option Entry
one_of None other = other
one_of (Some entry) other = Some entry

pick : (b : Bool) (entry : Entry) (all left right : Option Entry) → all ≡ one_of left right
    → (if b then Some entry else all) ≡ one_of (if b then Some entry else left) right
unfolding one_of
pick true entry all left right is = refl
pick false entry all left right is = is

pass : (b : Bool) (entry : Entry) (all left right : Option Entry) → all ≡ one_of left right
    → (if b then all else Some entry) ≡ one_of (if b then left else Some entry) right
unfolding one_of
pass true entry all left right is = is
pass false entry all left right is = refl

pub in_both : (sought : Sought) (one two : List Entry) (key : List ℕ)
    → sought_in sought (one ++ two) key ≡ one_of (sought_in sought one key) (sought_in sought two key)
unfolding one_of
in_both With [] two key = refl
in_both From [] two key = refl
in_both After [] two key = refl
in_both With (entry ∷ one) two key = pick (is_eq (key_cmp entry.key key)) entry (entry_with (one ++ two) key)
    (entry_with one key) (entry_with two key) (in_both With one two key)
in_both From (entry ∷ one) two key = pass (is_lt (key_cmp entry.key key)) entry (first_from (one ++ two) key)
    (first_from one key) (first_from two key) (in_both From one two key)
in_both After (entry ∷ one) two key = pick (is_gt (key_cmp entry.key key)) entry (first_entry_after (one ++ two) key)
    (first_entry_after one key) (first_entry_after two key) (in_both After one two key)

passes : (sought : Sought) (layout : RowLayout) (key : List ℕ) (rows more : List (List ℕ)) → AllBelow layout key rows
    → sought_in sought (entries_of_rows layout (rows ++ more)) key ≡ sought_in sought (entries_of_rows layout more) key
passes With layout key rows more below = with_passes layout key rows more below
passes From layout key rows more below = from_passes layout key rows more below
passes After layout key rows more below = after_passes layout key rows more below

-- the entries of a tree answer what the leaf does, or what is after it
among : (sought : Sought) (layout : RowLayout) (key : List ℕ) (all before rows after : List (List ℕ))
    → IsAround layout key all before rows after
    → sought_in sought (entries_of_rows layout all) key
    ≡ one_of (sought_in sought (entries_of_rows layout rows) key) (sought_in sought (entries_of_rows layout after) key)
among sought layout key all before rows after around =
    ap (λ (r : List (List ℕ)). sought_in sought (entries_of_rows layout r) key) around.is
    ∙ passes sought layout key before (rows ++ after) around.low
    ∙ ap (λ (e : List Entry). sought_in sought e key) (map-append (entry_of layout) rows after)
    ∙ in_both sought (entries_of_rows layout rows) (entries_of_rows layout after) key

one_of_none : (answer : Option Entry) → one_of answer None ≡ answer
unfolding one_of
one_of_none None = refl
one_of_none (Some entry) = refl

pub one_of_first : (answer other : Option Entry) (entry : Entry) → answer ≡ Some entry
    → one_of answer other ≡ Some entry
unfolding one_of
one_of_first answer other entry is = ap (λ (a : Option Entry). one_of a other) is

one_of_second : (answer other : Option Entry) → answer ≡ None → one_of answer other ≡ other
unfolding one_of
one_of_second answer other is = ap (λ (a : Option Entry). one_of a other) is

-- the leaf of a way answers what is sought in its rows
record IsAnswered (layout : RowLayout) (key : List ℕ) (levels : List (List TreeNode)) (sought : Sought)
    (right : Option (List ℕ)) (entry : Option Entry) : Type 0 where
  pub rows : List (List ℕ)
  pub leaf : IsLeafAmong layout key levels rows right
  pub is : entry ≡ sought_in sought (entries_of_rows layout rows) key

answered : (layout : RowLayout) (pages : List (Option Sector)) (root : ℕ) (key : List ℕ) (levels : List (List TreeNode))
    (steps : List PathStep) (page : ℕ) (right : Option (List ℕ)) (sought : Sought) (entry : Option Entry)
    → IsTree layout pages root levels → LeadsTo layout pages key levels steps page right
    → AnswersAt layout pages page key sought entry → IsAnswered layout key levels sought right entry
answered layout pages root key levels steps page right sought entry tree leads answers =
    let leaf = leaf_among layout pages root key levels steps page leads.rows right tree leads.ends in
    let same : leads.rows ≡ answers.node.rows =
    rows_read layout pages Leaf (node_with page leads.rows) page answers.node refl leads.stands answers.read in
    let In : RowLayout → Type 0 =
    λ f. Ascend (keys_of f answers.node.rows) → entry ≡ sought_in sought (entries_of_rows f answers.node.rows) key in
    let Of : List (List ℕ) → Type 0 =
    λ rows. Ascend (keys_of layout rows) → entry ≡ sought_in sought (entries_of_rows layout rows) key in
    record {
      rows = leads.rows;
      leaf = leaf;
      is = subst Of (sym same) (subst In answers.layout_is answers.entry_is) leaf.up;
    }

pub got_entry : (layout : RowLayout) (pages : List (Option Sector)) (root : ℕ) (key : List ℕ)
    (levels : List (List TreeNode)) (steps : List PathStep) (page : ℕ) (right : Option (List ℕ)) (entry : Option Entry)
    → IsTree layout pages root levels → LeadsTo layout pages key levels steps page right
    → AnswersAt layout pages page key With entry → entry ≡ entry_with (entries_of layout levels) key
got_entry layout pages root key levels steps page right entry tree leads answers =
    let is = answered layout pages root key levels steps page right With entry tree leads answers in
    let leaf = is.leaf in
    let none : entry_with (entries_of_rows layout leaf.after) key ≡ None =
    with_above layout key leaf.after leaf.around.high in
    is.is ∙ sym (one_of_none (entry_with (entries_of_rows layout is.rows) key))
    ∙ sym (among With layout key (rows_in_order levels) leaf.before is.rows leaf.after leaf.around
    ∙ ap (one_of (entry_with (entries_of_rows layout is.rows) key)) none)

pub found_entry : (layout : RowLayout) (pages : List (Option Sector)) (root : ℕ) (key : List ℕ) (levels :
    List (List TreeNode)) (steps : List PathStep) (page : ℕ) (right : Option (List ℕ)) (sought : Sought) (entry : Entry)
    → IsTree layout pages root levels → LeadsTo layout pages key levels steps page right
    → AnswersAt layout pages page key sought (Some entry) → Some entry ≡ sought_in sought (entries_of layout levels) key
found_entry layout pages root key levels steps page right sought entry tree leads answers =
    let is = answered layout pages root key levels steps page right sought (Some entry) tree leads answers in
    let leaf = is.leaf in
    sym (among sought layout key (rows_in_order levels) leaf.before is.rows leaf.after leaf.around
    ∙ one_of_first (sought_in sought (entries_of_rows layout is.rows) key)
    (sought_in sought (entries_of_rows layout leaf.after) key) entry (sym is.is))

-- Where the leaf hasn't it, it is the first entry after the leaf.
pub record IsBehind (layout : RowLayout) (key : List ℕ) (levels : List (List TreeNode)) (sought : Sought)
    (right : Option (List ℕ)) : Type 0 where
  pub passed : List (List ℕ)
  pub after : List (List ℕ)
  pub around : rows_in_order levels ≡ passed ++ after
  pub beside : right ≡ first_key layout after
  pub is : first_entry (entries_of_rows layout after) ≡ sought_in sought (entries_of layout levels) key

above : (sought : Sought) (layout : RowLayout) (key : List ℕ) (rows : List (List ℕ))
    → (sought ≡ From) ⊎ (sought ≡ After) → AllAbove layout key rows
    → sought_in sought (entries_of_rows layout rows) key ≡ first_entry (entries_of_rows layout rows)
above With layout key rows (inl never) high = cc
above With layout key rows (inr never) high = cc
above From layout key rows which high = from_above layout key rows high
above After layout key rows which high = after_above layout key rows high

pub behind : (layout : RowLayout) (pages : List (Option Sector)) (root : ℕ) (key : List ℕ)
    (levels : List (List TreeNode)) (steps : List PathStep) (page : ℕ) (right : Option (List ℕ)) (sought : Sought)
    → (sought ≡ From) ⊎ (sought ≡ After) → IsTree layout pages root levels
    → LeadsTo layout pages key levels steps page right → AnswersAt layout pages page key sought None
    → IsBehind layout key levels sought right
behind layout pages root key levels steps page right sought which tree leads answers =
    let is = answered layout pages root key levels steps page right sought None tree leads answers in
    let leaf = is.leaf in
    record {
      passed = leaf.before ++ is.rows;
      after = leaf.after;
      around = leaf.around.is ∙ sym (append_assoc leaf.before is.rows leaf.after);
      beside = leaf.beside;
      is = sym (among sought layout key (rows_in_order levels) leaf.before is.rows leaf.after leaf.around
          ∙ one_of_second (sought_in sought (entries_of_rows layout is.rows) key)
          (sought_in sought (entries_of_rows layout leaf.after) key) (sym is.is)
          ∙ above sought layout key leaf.after which leaf.around.high);
    }

-- where the key stands, and where it doesn't
pub at_or_from : (sought : Sought) (layout : RowLayout) (key : List ℕ) (rows : List (List ℕ)) (place : ℕ)
    → (sought ≡ After → ⊥) → Ascend (keys_of layout rows) → place < length rows
    → key_of layout (slice_index_or rows place []) ≡ key → FindsAt layout key rows place
    → sought_in sought (entries_of_rows layout rows) key ≡ first_entry (entries_of_rows layout (drop place rows))
at_or_from With layout key rows place not up low here finds = place_with layout key rows place up low here finds
at_or_from From layout key rows place not up low here finds = place_from layout key rows place up low here finds
at_or_from After layout key rows place not up low here finds = absurd (not refl)

pub from_or_after : (sought : Sought) (layout : RowLayout) (key : List ℕ) (rows : List (List ℕ)) (place : ℕ)
    → (sought ≡ With → ⊥) → Ascend (keys_of layout rows) → place ≤ length rows → FindsGap layout key rows place
    → sought_in sought (entries_of_rows layout rows) key ≡ first_entry (entries_of_rows layout (drop place rows))
from_or_after With layout key rows place not up low finds = absurd (not refl)
from_or_after From layout key rows place not up low finds = gap_from layout key rows place up low finds
from_or_after After layout key rows place not up low finds = gap_after layout key rows place up low finds

-- The first entry after the leaf is that of the key to its right,
up_there : (layout : RowLayout) (levels : List (List TreeNode)) (passed after : List (List ℕ))
    → Up layout (rows_in_order levels) → rows_in_order levels ≡ passed ++ after → Up layout (passed ++ after)
up_there layout levels passed after up around = subst (Up layout) around up

pub right_is : (layout : RowLayout) (levels : List (List TreeNode)) (passed after : List (List ℕ)) (right :
    Option (List ℕ)) (key : List ℕ) (entry : Option Entry) → right ≡ Some key → Up layout (rows_in_order levels)
    → rows_in_order levels ≡ passed ++ after → right ≡ first_key layout after
    → entry ≡ entry_with (entries_of layout levels) key → entry ≡ first_entry (entries_of_rows layout after)
right_is layout levels passed after right key entry some up around beside found =
    found ∙ ap (λ (all : List (List ℕ)). entry_with (entries_of_rows layout all) key) around
    ∙ sym (first_right layout passed after key (up_there layout levels passed after up around) (sym beside ∙ some))

-- which is there.
pub right_there : (layout : RowLayout) (levels : List (List TreeNode)) (passed after : List (List ℕ))
    (right : Option (List ℕ)) (key : List ℕ) → right ≡ Some key → Up layout (rows_in_order levels)
    → rows_in_order levels ≡ passed ++ after → right ≡ first_key layout after
    → None ≡ entry_with (entries_of layout levels) key → ⊥
right_there layout levels passed after right key some up around beside none =
    some_right layout passed after key (up_there layout levels passed after up around) (sym beside ∙ some)
    (sym (none ∙ ap (λ (all : List (List ℕ)). entry_with (entries_of_rows layout all) key) around))
