use Rattle.std.proofs.Common.{◌≡◌, ◌∙◌, true, false, ℕ, List, sym, ap, subst}
use Rattle.std.specs.Prelude.{Option, Ok, Vec}
use Rattle.std.specs.declared.alloc.Global.{Global}
use Rattle.records.specs.Rows.{same_bytes}
use Rattle.records.proofs.Maps.{bytes_same, same_itself}
use Rattle.file_bytes.specs.Read.{IfRead}
use Rattle.half_store.specs.Half.{AreHalfFiles}
use Rattle.half_store.specs.Spelled.{files_bytes}
use Rattle.file_bytes.specs.Stored.{files_of}
use Rattle.file_bytes.specs.declared.stored.StoredFile.{StoredFile}
use Rattle.half_store.proofs.Rested.{from_none, readable}
use Rattle.half_store.proofs.opening.spelled_files.Goals as goal

pub returns-in_default-clause-none : goal.returns-in_default-clause-none
returns-in_default-clause-none c = λ told files is are.
    from_none c.in_ok-files.field-0 _ c.in_default.not-Some
    (c.in_ok-files.ensures.files files (readable c.args.generation files c.requires are.sound.each are.early) is)

pub returns-then-not-are_half_files-clause-none : goal.returns-then-not-are_half_files-clause-none
returns-then-not-are_half_files-clause-none c = λ told files is are.
    let read =
    subst (λ (o : Option (Vec StoredFile Global)). IfRead (Ok o) (λ found. files_of found.items ≡ files)) c.in-Some.is
    (c.in_ok-files.ensures.files files (readable c.args.generation files c.requires are.sound.each are.early) is) in
    let same : files_of c.deref.result.now ≡ files = ap files_of c.deref.ensures.value ∙ read in
    c.are_half_files.ensures.no c.if-not-are_half_files.true (subst (AreHalfFiles c.args.generation) (sym same) are)

pub returns-then-not-is_same-clause-none : goal.returns-then-not-is_same-clause-none
returns-then-not-is_same-clause-none c = λ told files is are.
    let read =
    subst (λ (o : Option (Vec StoredFile Global)). IfRead (Ok o) (λ found. files_of found.items ≡ files)) c.in-Some.is
    (c.in_ok-files.ensures.files files (readable c.args.generation files c.requires are.sound.each are.early) is) in
    let again : c.deref-3.result.now ≡ c.args.bytes.now = c.deref-3.ensures.value ∙ c.in_ok-again.ensures.bytes
    ∙ ap (λ (l : List StoredFile). files_bytes (files_of l)) c.deref-2.ensures.value ∙ ap files_bytes read ∙ sym is in
    let both : true ≡ false =
    sym (ap (λ (l : List ℕ). same_bytes l c.args.bytes.now) again ∙ same_itself c.args.bytes.now)
    ∙ sym c.is_same.ensures ∙ c.if-not-is_same.true in
    absurd {0} cc

pub returns-clause-some : goal.returns-clause-some
returns-clause-some c =
    let yes = c.are_half_files.ensures.yes c.if-not-are_half_files.false in
    let same = c.deref.ensures.value in (
      sym (bytes_same c.deref-3.result.now c.args.bytes.now (sym c.is_same.ensures ∙ c.if-not-is_same.false))
          ∙ c.deref-3.ensures.value ∙ c.in_ok-again.ensures.bytes
          ∙ ap (λ (l : List StoredFile). files_bytes (files_of l)) c.deref-2.ensures.value,
      subst (λ (l : List StoredFile). AreHalfFiles c.args.generation (files_of l)) same yes,
    )
