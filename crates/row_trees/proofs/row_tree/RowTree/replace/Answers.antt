use Rattle.std.proofs.Common.{◌≡◌, ◌++◌, Ok, Err, List, ℕ, length, refl, sym, ap, ◌∙◌, arith}
use Rattle.std.specs.Prelude.{IfErr}
use Rattle.std.proofs.lemmas.Bool.Decides.{Decides-eqb}
use Rattle.std.proofs.lemmas.Slice.Eq.{slice_eq-Decides}
use Rattle.byteorder.specs.Endian.{big_number}
use Rattle.pages.specs.declared.error.PagesError.TheVariants.{Device}
use Rattle.btree.specs.Refusals.{IsChangeRefusal}
use Rattle.btree.specs.Rooted.{RootedTree}
use Rattle.btree.proofs.Passing.{passed, never_ok, few_weaker, few_equal, search_is_change}
use Rattle.btree.proofs.Passing.{damaged_not_device, damaged_not_spent, never_err, true_not_false, sectors_on}
use Rattle.row_trees.specs.RowTree.{ChainedTree, value_length}
use Rattle.row_trees.proofs.Among.{chained, same_chained}
use Rattle.row_trees.proofs.Calling.{looks_by, read_edits, edits_by, edits_after, refused_by_call}
use Rattle.row_trees.proofs.Forms.{rest_is, whole_short, record_within, rest_few, fits_still}
use Rattle.row_trees.proofs.Passing.{few_laid, few_added, never_answered}
use Rattle.row_trees.proofs.RewrittenRows.{RewritesFound, rewrite_never, written_edits, written_never, written_there}
use Rattle.row_trees.proofs.RewrittenRows.{unwritten_on, replaced_on}
use Rattle.row_trees.proofs.Short.{never_among, missing_among, replaced_among}
use Rattle.row_trees.proofs.row_tree.RowTree.replace.Given.{Over}
use Rattle.row_trees.proofs.row_tree.RowTree.replace.Goals as goal
use Rattle.row_trees.proofs.row_tree.RowTree.replace.Goals.{In_ok-rewrite}

-- The tree has its records itself, or no search succeeded, or there is no such row.
pub returns-then-self-eq0-clause-missing : goal.returns-then-self-eq0-clause-missing
returns-then-self-eq0-clause-missing g c = missing_among g.D.Device c.self.view_is c.replace.ensures.missing

pub returns-then-self-eq0-clause-damaged : goal.returns-then-self-eq0-clause-damaged
returns-then-self-eq0-clause-damaged g c =
    never_among g.D.Device c.self.view_is c.replace.ensures.damaged (λ told. told)

pub returns-in_err-entry-clause-edits : goal.returns-in_err-entry-clause-edits
returns-in_err-entry-clause-edits g c =
    let got = c.get.ensures in
    let passed = refused_by_call c.in_err-entry.was c.from_residual.ensures.1 in
    read_edits g.D.Device passed got.only got.unchanged got.agrees

pub returns-in_err-entry-clause-damaged : goal.returns-in_err-entry-clause-damaged
returns-in_err-entry-clause-damaged g c =
    never_among g.D.Device c.self.view_is c.get.ensures.damaged
    (refused_by_call c.in_err-entry.was c.from_residual.ensures.1)

pub returns-in_err-entry-clause-cause : goal.returns-in_err-entry-clause-cause
returns-in_err-entry-clause-cause g c =
    passed _ _ c.from_residual.ensures.1 (λ r. IfErr r IsChangeRefusal)
    (search_is_change c.self.inside.tree.layout c.in_err-entry.field-0.0 c.in_err-entry.ensures.cause)

pub returns-in-None-clause-edits : goal.returns-in-None-clause-edits
returns-in-None-clause-edits g c =
    let got = c.get.ensures in
    read_edits g.D.Device (λ is. never_ok is) got.only got.unchanged got.agrees

pub returns-in-None-clause-missing : goal.returns-in-None-clause-missing
returns-in-None-clause-missing g c =
    missing_among g.D.Device c.self.view_is
    (λ honest agrees levels tree no. sym (c.in_ok-entry.ensures.entry honest agrees levels tree) ∙ c.in-None.is)

pub returns-then-self-eq0-clause-replaced : goal.returns-then-self-eq0-clause-replaced
returns-then-self-eq0-clause-replaced g c =
    replaced_among g.D.Device c.replace.new.pages c.self.view_is c.if-self-eq0.true c.replace.ensures.replaced

pub returns-then-self-eq0-clause-changed_pages : goal.returns-then-self-eq0-clause-changed_pages
returns-then-self-eq0-clause-changed_pages g c =
    few_weaker _ _ 1 _ c.replace.ensures.changed_pages

pub returns-then-self-eq0-clause-tree : goal.returns-then-self-eq0-clause-tree
returns-then-self-eq0-clause-tree g c =
    same_chained _ _ c.self.inside.record_bytes _ c.replace.ensures.tree c.self.view_is

pub returns-in_err-entry-clause-changed_pages : goal.returns-in_err-entry-clause-changed_pages
returns-in_err-entry-clause-changed_pages g c = few_equal _ _ _ c.get.ensures.unchanged.changed_pages

pub returns-in-None-clause-changed_pages : goal.returns-in-None-clause-changed_pages
returns-in-None-clause-changed_pages g c = few_equal _ _ _ c.get.ensures.unchanged.changed_pages

-- The chain was not rewritten.
pub returns-in_err-rewrite-clause-edits : goal.returns-in_err-rewrite-clause-edits
returns-in_err-rewrite-clause-edits g c =
    let got = c.get.ensures in
    let put = c.rewrite.ensures in
    edits_after g.D.Device (looks_by g.D.Device _ _ _ _ _ got.only got.unchanged got.agrees)
    (edits_by g.D.Device _ _ _ _ _ put.only put.committed put.catalog put.agrees)
    (refused_by_call c.in_err-rewrite.was c.from_residual-in_err-rewrite.ensures.1)

pub returns-in_err-rewrite-clause-damaged : goal.returns-in_err-rewrite-clause-damaged
returns-in_err-rewrite-clause-damaged g c =
    let got = c.get.ensures in
    rewrite_never g.D.Device (looks_by g.D.Device _ _ _ _ _ got.only got.unchanged got.agrees) c.self.view_is
    (λ honest agrees levels tree. sym (c.in_ok-entry.ensures.entry honest agrees levels tree) ∙ c.in-Some.is)
    c.rewrite.ensures.damaged c.split_at.ensures.front_len
    (c.first_page-first.ensures ∙ ap (big_number 4) c.value.ensures) c.if-self-eq0.false
    (refused_by_call c.in_err-rewrite.was c.from_residual-in_err-rewrite.ensures.1)

pub returns-in_err-rewrite-clause-changed_pages : goal.returns-in_err-rewrite-clause-changed_pages
returns-in_err-rewrite-clause-changed_pages g c =
    few_laid _ _ _ _ _ 1 c.get.ensures.unchanged.changed_pages c.rewrite.ensures.changed_pages
    (c.split_at.ensures.front_len ∙ ap (λ (t : ChainedTree). t.record_bytes) c.self.view_is)

pub returns-in_err-rewrite-clause-spent : goal.returns-in_err-rewrite-clause-spent
returns-in_err-rewrite-clause-spent g c = λ is.
    sym c.get.ensures.unchanged.committed.spent
    ∙ (c.rewrite.ensures.spent.0 (refused_by_call c.in_err-rewrite.was c.from_residual-in_err-rewrite.ensures.1 is)).0

-- What follows the record is the same.
writes : (g : Over) (c : In_ok-rewrite g) → RewritesFound g.D.Device (c.get.result ≡ Err Device)
    (c.rewrite.result ≡ Err Device) c.args.pages.now c.get.new.pages c.rewrite.new.pages c.args.device.now
    c.get.new.device c.rewrite.new.device (chained c.self.inside.tree c.self.inside.record_bytes) c.args.key.now
    c.split_at.result.0.now c.in-Some.entry c.first_page-first.result
writes g c = let got = c.get.ensures in
    let put = c.rewrite.ensures in
    record {
      looks = looks_by g.D.Device _ _ _ _ _ got.only got.unchanged got.agrees;
      found = λ h a levels tree. sym (c.in_ok-entry.ensures.entry h a levels tree) ∙ c.in-Some.is;
      rewritten = c.in_ok-rewrite.ensures.rewritten;
      edits = edits_by g.D.Device _ _ _ _ _ put.only put.committed put.catalog put.agrees;
      first_is = c.first_page-first.ensures ∙ ap (big_number 4) c.value.ensures;
      many = c.split_at.ensures.front_len;
      long = c.if-self-eq0.false;
    }

pub returns-then-is_same-clause-edits : goal.returns-then-is_same-clause-edits
returns-then-is_same-clause-edits g c =
    let write = writes g (goal.at.returns-then-is_same-clause-edits g c).In_ok-rewrite in
    edits_after g.D.Device write.looks write.edits (λ is. never_ok is)

pub returns-then-is_same-clause-replaced : goal.returns-then-is_same-clause-replaced
returns-then-is_same-clause-replaced g c =
    let same = (slice_eq-Decides Decides-eqb _ _ _ c.eq-is_same.ensures).0 c.if-is_same.true in
    unwritten_on g.D.Device (writes g (goal.at.returns-then-is_same-clause-replaced g c).In_ok-rewrite)
    c.self.view_is
    (ap (λ (l : List ℕ). c.split_at.result.0.now ++ l)
    (rest_is c.value-2.result.now c.in-Some.entry.value _ same c.value-2.ensures) ∙ sym c.split_at.ensures.by_index.0)

pub returns-then-is_same-clause-changed_pages : goal.returns-then-is_same-clause-changed_pages
returns-then-is_same-clause-changed_pages g c =
    few_laid _ _ _ _ _ 1 c.get.ensures.unchanged.changed_pages c.rewrite.ensures.changed_pages
    (c.split_at.ensures.front_len ∙ ap (λ (t : ChainedTree). t.record_bytes) c.self.view_is)

-- The entry was not written.
pub returns-in_err-replaced-clause-edits : goal.returns-in_err-replaced-clause-edits
returns-in_err-replaced-clause-edits g c =
    written_edits g.D.Device (writes g (goal.at.returns-in_err-replaced-clause-edits g c).In_ok-rewrite)
    c.replace-2.ensures.edits (refused_by_call c.in_err-replaced.was c.from_residual-in_err-replaced.ensures.1)

pub returns-in_err-replaced-clause-damaged : goal.returns-in_err-replaced-clause-damaged
returns-in_err-replaced-clause-damaged g c =
    written_never g.D.Device (writes g (goal.at.returns-in_err-replaced-clause-damaged g c).In_ok-rewrite)
    c.self.view_is
    c.replace-2.ensures.damaged (refused_by_call c.in_err-replaced.was c.from_residual-in_err-replaced.ensures.1)

pub returns-in_err-replaced-clause-changed_pages : goal.returns-in_err-replaced-clause-changed_pages
returns-in_err-replaced-clause-changed_pages g c =
    few_added _ _ _ _ _ _ 1 c.get.ensures.unchanged.changed_pages c.rewrite.ensures.changed_pages
    (c.split_at.ensures.front_len ∙ ap (λ (t : ChainedTree). t.record_bytes) c.self.view_is)
    c.replace-2.ensures.changed_pages

pub returns-in_err-replaced-clause-spent : goal.returns-in_err-replaced-clause-spent
returns-in_err-replaced-clause-spent g c = λ is.
    sym c.get.ensures.unchanged.committed.spent ∙ sym c.rewrite.ensures.committed.spent ∙ (c.replace-2.ensures.spent.0
    (refused_by_call c.in_err-replaced.was c.from_residual-in_err-replaced.ensures.1 is)).0

pub returns-in_err-replaced-clause-tree : goal.returns-in_err-replaced-clause-tree
returns-in_err-replaced-clause-tree g c =
    same_chained _ _ c.self.inside.record_bytes _ c.replace-2.ensures.tree c.self.view_is

pub returns-then-not-replaced-clause-edits : goal.returns-then-not-replaced-clause-edits
returns-then-not-replaced-clause-edits g c =
    written_edits g.D.Device (writes g (goal.at.returns-then-not-replaced-clause-edits g c).In_ok-rewrite)
    c.replace-2.ensures.edits (λ is. damaged_not_device is)

pub returns-then-not-replaced-clause-damaged : goal.returns-then-not-replaced-clause-damaged
returns-then-not-replaced-clause-damaged g c = λ honest agrees left right entries is told.
    written_there g.D.Device (writes g (goal.at.returns-then-not-replaced-clause-damaged g c).In_ok-rewrite)
    c.self.view_is
    (λ h a levels tree.
    c.replace-2.ensures.missing h a levels tree (c.in_ok-replaced.was ∙ ap Ok c.if-not-replaced.true))
    honest agrees left right entries is

pub returns-then-not-replaced-clause-changed_pages : goal.returns-then-not-replaced-clause-changed_pages
returns-then-not-replaced-clause-changed_pages g c =
    few_added _ _ _ _ _ _ 1 c.get.ensures.unchanged.changed_pages c.rewrite.ensures.changed_pages
    (c.split_at.ensures.front_len ∙ ap (λ (t : ChainedTree). t.record_bytes) c.self.view_is)
    c.replace-2.ensures.changed_pages

pub returns-then-not-replaced-clause-tree : goal.returns-then-not-replaced-clause-tree
returns-then-not-replaced-clause-tree g c =
    same_chained _ _ c.self.inside.record_bytes _ c.replace-2.ensures.tree c.self.view_is

-- It was.
pub returns-clause-edits : goal.returns-clause-edits
returns-clause-edits g c =
    written_edits g.D.Device (writes g (goal.at.returns-clause-edits g c).In_ok-rewrite) c.replace-2.ensures.edits
    (λ is. never_ok is)

pub returns-clause-replaced : goal.returns-clause-replaced
returns-clause-replaced g c =
    let done = c.in_ok-replaced.was ∙ ap Ok c.if-not-replaced.false in
    replaced_on g.D.Device c.replace-2.new.pages (writes g (goal.at.returns-clause-replaced g c).In_ok-rewrite)
    c.self.view_is
    (λ h a levels tree. (c.replace-2.ensures.replaced h a levels tree done).1) (c.bytes.ensures ∙ c.new-stored.ensures)
    (omega arith) (sym c.split_at.ensures.by_index.0)

pub returns-clause-changed_pages : goal.returns-clause-changed_pages
returns-clause-changed_pages g c =
    few_added _ _ _ _ _ _ 1 c.get.ensures.unchanged.changed_pages c.rewrite.ensures.changed_pages
    (c.split_at.ensures.front_len ∙ ap (λ (t : ChainedTree). t.record_bytes) c.self.view_is)
    c.replace-2.ensures.changed_pages

pub returns-clause-tree : goal.returns-clause-tree
returns-clause-tree g c =
    same_chained _ _ c.self.inside.record_bytes _ c.replace-2.ensures.tree c.self.view_is

-- What a refusal or another answer rules out.
pub returns-in_err-entry-clause-replaced : goal.returns-in_err-entry-clause-replaced
returns-in_err-entry-clause-replaced g c =
    λ honest agrees left right entries is ok. never_answered _ c.from_residual.ensures.1 ok

pub returns-in_err-entry-clause-missing : goal.returns-in_err-entry-clause-missing
returns-in_err-entry-clause-missing g c =
    λ honest agrees left right entries is ok. never_answered _ c.from_residual.ensures.1 ok

pub returns-in_err-entry-clause-same : goal.returns-in_err-entry-clause-same
returns-in_err-entry-clause-same g c = λ ok. never_answered _ c.from_residual.ensures.1 ok

pub returns-in_err-rewrite-clause-replaced : goal.returns-in_err-rewrite-clause-replaced
returns-in_err-rewrite-clause-replaced g c =
    λ honest agrees left right entries is ok. never_answered _ c.from_residual-in_err-rewrite.ensures.1 ok

pub returns-in_err-rewrite-clause-missing : goal.returns-in_err-rewrite-clause-missing
returns-in_err-rewrite-clause-missing g c =
    λ honest agrees left right entries is ok. never_answered _ c.from_residual-in_err-rewrite.ensures.1 ok

pub returns-in_err-rewrite-clause-same : goal.returns-in_err-rewrite-clause-same
returns-in_err-rewrite-clause-same g c = λ ok. never_answered _ c.from_residual-in_err-rewrite.ensures.1 ok

pub returns-in_err-replaced-clause-replaced : goal.returns-in_err-replaced-clause-replaced
returns-in_err-replaced-clause-replaced g c =
    λ honest agrees left right entries is ok. never_answered _ c.from_residual-in_err-replaced.ensures.1 ok

pub returns-in_err-replaced-clause-missing : goal.returns-in_err-replaced-clause-missing
returns-in_err-replaced-clause-missing g c =
    λ honest agrees left right entries is ok. never_answered _ c.from_residual-in_err-replaced.ensures.1 ok

pub returns-in_err-replaced-clause-same : goal.returns-in_err-replaced-clause-same
returns-in_err-replaced-clause-same g c = λ ok. never_answered _ c.from_residual-in_err-replaced.ensures.1 ok

pub returns-in_err-entry-clause-spent : goal.returns-in_err-entry-clause-spent
returns-in_err-entry-clause-spent g c =
    λ is. (c.get.ensures.spent.0 (refused_by_call c.in_err-entry.was c.from_residual.ensures.1 is)).0

pub returns-in_err-rewrite-clause-cause : goal.returns-in_err-rewrite-clause-cause
returns-in_err-rewrite-clause-cause g c =
    passed _ _ c.from_residual-in_err-rewrite.ensures.1 (λ r. IfErr r IsChangeRefusal) c.in_err-rewrite.ensures.cause

pub returns-in_err-replaced-clause-cause : goal.returns-in_err-replaced-clause-cause
returns-in_err-replaced-clause-cause g c =
    passed _ _ c.from_residual-in_err-replaced.ensures.1 (λ r. IfErr r IsChangeRefusal) c.in_err-replaced.ensures.cause

pub returns-in-None-clause-replaced : goal.returns-in-None-clause-replaced
returns-in-None-clause-replaced g c = λ honest agrees left right entries is ok. true_not_false (sym ok)

pub returns-in-None-clause-same : goal.returns-in-None-clause-same
returns-in-None-clause-same g c = λ no. c.get.ensures.unchanged

pub returns-in-None-clause-damaged : goal.returns-in-None-clause-damaged
returns-in-None-clause-damaged g c = λ honest agrees left right entries is told. never_ok told

pub returns-in-None-clause-spent : goal.returns-in-None-clause-spent
returns-in-None-clause-spent g c = λ is. never_ok is

pub returns-then-is_same-clause-missing : goal.returns-then-is_same-clause-missing
returns-then-is_same-clause-missing g c = λ honest agrees left right entries is no. true_not_false no

pub returns-then-is_same-clause-same : goal.returns-then-is_same-clause-same
returns-then-is_same-clause-same g c = λ no. true_not_false no

pub returns-then-is_same-clause-damaged : goal.returns-then-is_same-clause-damaged
returns-then-is_same-clause-damaged g c = λ honest agrees left right entries is told. never_ok told

pub returns-then-is_same-clause-spent : goal.returns-then-is_same-clause-spent
returns-then-is_same-clause-spent g c = λ is. never_ok is

pub returns-clause-missing : goal.returns-clause-missing
returns-clause-missing g c = λ honest agrees left right entries is no. true_not_false no

pub returns-clause-same : goal.returns-clause-same
returns-clause-same g c = λ no. true_not_false no

pub returns-clause-damaged : goal.returns-clause-damaged
returns-clause-damaged g c = λ honest agrees left right entries is told. never_ok told

pub returns-clause-spent : goal.returns-clause-spent
returns-clause-spent g c = λ is. never_ok is

pub returns-then-not-replaced-clause-replaced : goal.returns-then-not-replaced-clause-replaced
returns-then-not-replaced-clause-replaced g c = λ honest agrees left right entries is ok. never_err ok

pub returns-then-not-replaced-clause-missing : goal.returns-then-not-replaced-clause-missing
returns-then-not-replaced-clause-missing g c = λ honest agrees left right entries is no. never_err no

pub returns-then-not-replaced-clause-same : goal.returns-then-not-replaced-clause-same
returns-then-not-replaced-clause-same g c = λ no. never_err no

pub returns-then-not-replaced-clause-spent : goal.returns-then-not-replaced-clause-spent
returns-then-not-replaced-clause-spent g c = λ is. damaged_not_spent is

pub returns-then-self-eq0-clause-edits : goal.returns-then-self-eq0-clause-edits
returns-then-self-eq0-clause-edits g c = c.replace.ensures.edits

pub returns-then-self-eq0-clause-same : goal.returns-then-self-eq0-clause-same
returns-then-self-eq0-clause-same g c = c.replace.ensures.same

pub returns-then-self-eq0-clause-spent : goal.returns-then-self-eq0-clause-spent
returns-then-self-eq0-clause-spent g c = λ is. (c.replace.ensures.spent.0 is).0

pub returns-then-self-eq0-clause-cause : goal.returns-then-self-eq0-clause-cause
returns-then-self-eq0-clause-cause g c = c.replace.ensures.cause

-- What the calls need.
pub get-requires : goal.get-requires
get-requires g c = record { sectors = c.requires.sectors }

pub split_at-requires : goal.split_at-requires
split_at-requires g c =
    record_within c.self.inside.record_bytes c.self.inside.tree.layout.value_length
    (length c.args.value.now) c.if-self-eq0.false (c.requires.value ∙ ap value_length (sym c.self.view_is))

pub new-stored-requires : goal.new-stored-requires
new-stored-requires g c =
    rest_few c.self.inside.record_bytes c.self.inside.tree.layout (length c.args.value.now)
    (length c.split_at.result.1.now) c.if-self-eq0.false c.self.invariant
    (c.requires.value ∙ ap value_length (sym c.self.view_is)) c.split_at.ensures.back_len

pub replace-requires-clause-value : goal.replace-requires-clause-value
replace-requires-clause-value g c =
    whole_short c.self.inside.record_bytes c.self.inside.tree.layout.value_length
    (length c.args.value.now) c.if-self-eq0.true (c.requires.value ∙ ap value_length (sym c.self.view_is))

pub rewrite-requires : goal.rewrite-requires
rewrite-requires g c = record {
  sectors = sectors_on c.args.pages.now c.get.new.pages _ _ c.get.ensures.unchanged.committed.volume
      c.get.ensures.only.sectors c.requires.sectors;
}

pub replace-requires-2-clause-sectors : goal.replace-requires-2-clause-sectors
replace-requires-2-clause-sectors g c =
    sectors_on c.get.new.pages c.rewrite.new.pages _ _ c.rewrite.ensures.committed.volume
    c.rewrite.ensures.only.sectors (sectors_on c.args.pages.now c.get.new.pages _ _
    c.get.ensures.unchanged.committed.volume c.get.ensures.only.sectors c.requires.sectors)

pub invariant_of-self : goal.invariant_of-self
invariant_of-self g c =
    fits_still c.self.inside.record_bytes c.self.inside.tree.layout c.replace.new.self.layout
    (ap (λ (t : RootedTree). t.layout) c.replace.ensures.tree) c.self.invariant

pub invariant_of-self-in_err-replaced : goal.invariant_of-self-in_err-replaced
invariant_of-self-in_err-replaced g c =
    fits_still c.self.inside.record_bytes c.self.inside.tree.layout c.replace-2.new.self.layout
    (ap (λ (t : RootedTree). t.layout) c.replace-2.ensures.tree) c.self.invariant

pub invariant_of-self-then-not-replaced : goal.invariant_of-self-then-not-replaced
invariant_of-self-then-not-replaced g c =
    fits_still c.self.inside.record_bytes c.self.inside.tree.layout c.replace-2.new.self.layout
    (ap (λ (t : RootedTree). t.layout) c.replace-2.ensures.tree) c.self.invariant

pub invariant_of-self-2 : goal.invariant_of-self-2
invariant_of-self-2 g c =
    fits_still c.self.inside.record_bytes c.self.inside.tree.layout c.replace-2.new.self.layout
    (ap (λ (t : RootedTree). t.layout) c.replace-2.ensures.tree) c.self.invariant

-- Nothing was done to the tree.
pub returns-in_err-entry-clause-tree : goal.returns-in_err-entry-clause-tree
returns-in_err-entry-clause-tree g c = refl
