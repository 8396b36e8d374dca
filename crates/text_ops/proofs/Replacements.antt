-- What a replacing text leaves after it.
use Rattle.std.proofs.Common.{◌≡◌, ℕ, ◌+◌, ◌<◌, ◌≤◌, List, [], ◌++◌, length, take, drop, Option, Some, None, ap, sym}
use Rattle.std.proofs.Common.{◌∙◌}
use Rattle.std.proofs.Common.{arith, length-append, subst}
use Rattle.std.proofs.lemmas.List.{take-append-drop, append-nil, length-take-le}
use Rattle.std.proofs.Math.Seq.{drop-append_seam}
use Rattle.text_ops.specs.declared.entry.Span.{Span}
use Rattle.text_ops.specs.declared.entry.Fit.{Fit}
use Rattle.text_ops.specs.declared.entry.Entry.{Entry}
use Rattle.text_ops.specs.Entries.{fit_length, bytes_in, IsBy, IsEntry}
use Rattle.text_ops.specs.Inspect.{replacement, text_written_at, with_each}
use Rattle.text_ops.specs.Walk.{first_fit, walk_after, size_of, IsFitted}
use Rattle.text_ops.specs.declared.progress.Progress.{Progress}
use Rattle.text_ops.specs.declared.progress.Fitted.{Fitted}
use Rattle.text_ops.proofs.Walks.{span_size, Goes, past_fit}

nothing_written : (at : ℕ) (subject : List ℕ) → text_written_at at [] subject ≡ subject
nothing_written at subject =
    let zero-more : at + 0 ≡ at = omega arith in
    ap (λ x. x ++ drop (at + 0) subject) (append-nil (take at subject))
    ∙ ap (λ n. take at subject ++ drop n subject) zero-more ∙ take-append-drop at subject

written_behind : (at : ℕ) (text subject : List ℕ) → at ≤ length subject
    → drop (at + length text) (text_written_at at text subject) ≡ drop (at + length text) subject
written_behind at text subject h =
    let front = take at subject ++ text in
    let size : length front ≡ at + length text =
    length-append (take at subject) text ∙ ap (λ n. n + length text) (length-take-le at subject h) in
    ap (λ n. drop n (text_written_at at text subject)) (sym size)
    ∙ drop-append_seam front (drop (at + length text) subject)

behind_by : (texts : List ℕ) (what : Fit) (by : Option Span) (at : ℕ) (subject : List ℕ) → IsBy (length texts) what by
    → at ≤ length subject → drop (at + fit_length what) (text_written_at at (replacement texts by) subject) ≡ drop
    (at + fit_length what) subject
behind_by texts what None at subject is h = ap (drop (at + fit_length what)) (nothing_written at subject)
behind_by texts what (Some span) at subject is h =
    let size : at + length (bytes_in texts span) ≡ at + fit_length what =
    ap (λ n. at + n) (span_size texts span is.0 ∙ is.1) in
    ap (λ n. drop n (text_written_at at (bytes_in texts span) subject)) (sym size)
    ∙ written_behind at (bytes_in texts span) subject h ∙ ap (λ n. drop n subject) size

pub written_rest : (texts : List ℕ) (entry : Entry) (at : ℕ) (subject : List ℕ)
    → IsEntry (length texts) entry → at ≤ length subject → drop (at + fit_length entry.fit)
    (text_written_at at (replacement texts entry.by) subject) ≡ drop (at + fit_length entry.fit) subject
written_rest texts entry at subject is h = behind_by texts entry.fit entry.by at subject is.by h

-- a turn of the loop that replaces: the fits after this one, over the subject with this one's text
pub replaced_next : (texts : List ℕ) (active new : List Progress) (count at size : ℕ) (subject changed rest : List ℕ)
    (all : List Fitted) (fitted : Fitted) → Goes texts active at (drop at subject) all → at < length subject
    → rest ≡ drop at subject → Some fitted ≡ first_fit texts active at rest → new ≡ walk_after active (Some fitted)
    → size ≡ size_of fitted → IsFitted (length texts) count at (length rest) fitted
    → changed ≡ text_written_at at (replacement texts fitted.progress.entry.by) subject
    → (more : List Fitted) × Goes texts new (at + size) (drop (at + size) changed) more
    × (with_each texts more changed ≡ with_each texts all subject)
replaced_next texts active new count at size subject changed rest all fitted goes lt rest-is first new-is size-is is
    written =
    let past = past_fit texts active new at size subject rest all fitted goes lt rest-is first is.some new-is size-is in
    let entry = fitted.progress.entry in
    let next : at + size ≡ at + fit_length entry.fit = ap (λ n. at + n) size-is in
    let left : drop (at + size) changed ≡ drop (at + size) subject = ap (λ n. drop n changed) next
    ∙ ap (drop (at + fit_length entry.fit)) written ∙ written_rest texts entry at subject is.entry (omega arith)
    ∙ ap (λ n. drop n subject) (sym next) in
    let P : List ℕ → Type 0 = λ xs. Goes texts new (at + size) xs past.0 in (
      past.0,
      subst P (sym left) past.2,
      ap (with_each texts past.0) written
          ∙ ap (λ place. with_each texts past.0 (text_written_at place (replacement texts entry.by) subject))
          (sym is.at)
          ∙ ap (λ fits. with_each texts fits subject) (sym past.1),
    )
