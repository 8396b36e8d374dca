-- The files after a step: those before, or those with another file under the own name.
use Rattle.std.proofs.Common.{◌≡◌, ℕ, Bool, true, false, cond, List, Option, Some, None, refl, ◌∙◌, if◌then◌else◌}
use Rattle.std.specs.Prelude.{◌||◌, ◌+◌, filter}
use Rattle.std.proofs.lemmas.Bool.{cond_both}
use Rattle.records.specs.declared.answer.Outcome.TheVariants.{Taken}
use Rattle.records.specs.declared.key.KeyOfReference.{KeyOfReference}
use Rattle.records.specs.declared.verb.OpenMode.{OpenMode}
use Rattle.records.specs.declared.verb.OpenMode.TheVariants.{Input, Output, InputOutput, Extend}
use Rattle.records.specs.declared.verb.Verb.TheVariants.{Open, Write, Rewrite, Delete}
use Rattle.records.specs.Spec.{same_spec}
use Rattle.records.specs.Rows.{Row, Pair, named_pair}
use Rattle.records.specs.Order.{RowBound}
use Rattle.records.specs.Files.{File, Files, with_file, empty_file}
use Rattle.records.specs.Changes.{FileChange, insertion, replacement, replaced_row, removal, removed_row, has_prime}
use Rattle.records.specs.Changes.{new_row, with_row, is_taken, is_duplicate, without_change, done_outcome, row_at}
use Rattle.records.specs.Changes.{without_pair, changes}
use Rattle.records.specs.Stores.{is_change, files_after}
use Rattle.records.specs.Connector.{Entry, Connector, Area}
use Rattle.records.specs.Steps as steps
use Rattle.records.specs.Steps.{Step}

-- a change keeps what a file is
inserted_spec : (number : ℕ) (bytes : List ℕ) (file : File) → (insertion number bytes file).file.spec ≡ file.spec
inserted_spec number bytes file = cond_both (has_prime file (new_row file number bytes)
    || is_taken file.spec.alternates file.rows bytes) (without_change Taken file)
    (record {
      outcome = done_outcome (is_duplicate file.spec.alternates file.rows bytes);
      file = record file {
        rows = with_row file.spec.organization (new_row file number bytes) file.rows;
        next_arrival = file.next_arrival + 1;
      };
    }) (λ (c : FileChange). c.file.spec ≡ file.spec) (λ _. refl) (λ _. refl)

replaced_spec : (pair : Pair) (bytes : List ℕ) (file : File) (found : Option Row)
    → (replaced_row pair bytes file found).file.spec ≡ file.spec
replaced_spec pair bytes file None = refl
replaced_spec pair bytes file (Some row) = cond_both (is_taken (filter (changes row.bytes bytes) file.spec.alternates)
    (without_pair file.spec.organization pair file.rows) bytes) (without_change Taken file) _
    (λ (c : FileChange). c.file.spec ≡ file.spec) (λ _. refl) (λ _. refl)

removed_spec : (pair : Pair) (file : File) (found : Option Row) → (removed_row pair file found).file.spec ≡ file.spec
removed_spec pair file None = refl
removed_spec pair file (Some row) = refl

module _ (e : Entry) (files : Files) (c : Connector) (a : Area) (P : Files → Type 0) (same : P files)
    (put : (file : File) → file.spec ≡ e.spec → P (with_file e.name file files)) where
  chosen : (b : Bool) (one two : Step) → P one.files → P two.files → P (if b then one else two).files
  chosen true one two h k = h
  chosen false one two h k = k

  opens : (mode : OpenMode) (f : Option File) → P (steps.open_there e files c a mode f).files
  opens Input None = chosen e.optional _ _ same same
  opens Output None = chosen e.optional _ _ (put (empty_file e.spec) refl) same
  opens InputOutput None = chosen e.optional _ _ (put (empty_file e.spec) refl) same
  opens Extend None = chosen e.optional _ _ (put (empty_file e.spec) refl) same
  opens mode (Some there) = chosen (same_spec there.spec e.spec) _ _ same same

  pub opening : (mode : OpenMode) → P (steps.step e files c a (Open mode)).files
  opening Output = put (empty_file e.spec) refl
  opening Input = opens Input (steps.file e files c a)
  opening InputOutput = opens InputOutput (steps.file e files c a)
  opening Extend = opens Extend (steps.file e files c a)

  after : (changed : FileChange) → changed.file.spec ≡ e.spec → P (files_after e.name files changed)
  after changed is = by (is_change changed.outcome)
    where
      by : (b : Bool) → P (cond b (with_file e.name changed.file files) files)
      by true = put changed.file is
      by false = same

  module _ (own : (steps.held_file e files c a).spec ≡ e.spec) where
    pub writing : P (steps.step e files c a Write).files
    writing =
        chosen (steps.is_past e.spec.organization e.access e.key_digits (steps.number_to_write e files c a)) _ _ same
        (chosen (steps.is_out e.spec.organization e.access a.bytes c.last.value) _ _ same
        (after (insertion (steps.number_to_write e files c a) a.bytes (steps.held_file e files c a))
        (inserted_spec (steps.number_to_write e files c a) a.bytes (steps.held_file e files c a) ∙ own)))

    pub rewriting : P (steps.step e files c a Rewrite).files
    rewriting =
        let number = (steps.row_to_change e files c a).number in
        let file = steps.held_file e files c a in
        let pair = named_pair file.spec.organization number a.bytes in
        chosen (steps.is_other e.spec.organization e.access a.bytes (steps.row_to_change e files c a).value) _ _ same
        (after (replacement number a.bytes file)
        (replaced_spec pair a.bytes file (row_at file.spec.organization pair file.rows) ∙ own))

    pub deleting : P (steps.step e files c a Delete).files
    deleting =
        let pair = steps.row_to_change e files c a in
        let file = steps.held_file e files c a in
        after (removal pair file) (removed_spec pair file (row_at file.spec.organization pair file.rows) ∙ own)

  -- READ and START leave them
  next : (o : Option Row) → P (steps.read_next e files c a o).files
  next None = same
  next (Some row) = chosen _ _ _ same same

  pub reading_next : (o : Option RowBound) → P (steps.next_from e files c a o).files
  reading_next None = same
  reading_next (Some bound) = next _

  pub reading : (key : KeyOfReference) (o : Option Row) → P (steps.read_found e files c a key o).files
  reading key None = same
  reading key (Some row) = same

  pub starting : (key : KeyOfReference) (o : Option Row) → P (steps.stands_at e files c a key o).files
  starting key None = same
  starting key (Some row) = same
