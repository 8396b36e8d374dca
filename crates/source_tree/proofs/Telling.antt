-- What was told grows by itself and by what follows.
use Rattle.std.proofs.Common.{◌≡◌, ℕ, suc, ◌+◌, List, [], ◌∷◌, ◌++◌, refl, sym, ap, ◌∙◌, arith}
use Rattle.std.specs.Prelude.{length, map}
use Rattle.std.proofs.lemmas.List.{append-nil, append_assoc, length-append}
use Rattle.station.specs.State.{Event, Shown, Noted}
use Rattle.records.specs.Files.{Files}
use Rattle.records.specs.Statuses.{bytes_of}
use Rattle.records.specs.Steps.{Step}
use Rattle.source_tree.specs.State.{State, all_files, state_after_output}
use Rattle.source_tree.specs.ProgramFiles.{FilePlaces}
use Rattle.source_tree.specs.FileStatements.{state_after_status}
use Rattle.source_tree.specs.Told.{note_count, Further, Onward}

none_added : (n : ℕ) → n ≡ 0 + n
none_added n = omega arith

one_added : (a b c : ℕ) → a ≡ b + c → suc a ≡ suc b + c
one_added a b c e = omega arith

pub notes_append : (es fs : List Event) → note_count (es ++ fs) ≡ note_count es + note_count fs
notes_append [] fs = none_added (note_count fs)
notes_append (Shown byte ∷ es) fs = notes_append es fs
notes_append (Noted note ∷ es) fs =
    one_added (note_count (es ++ fs)) (note_count es) (note_count fs) (notes_append es fs)

pub nothing_more : (es : List Event) (fs : List Files) → Further es fs es fs
nothing_more es fs =
    record { told = []; events_are = sym (append-nil es); left = []; files_are = sym (append-nil fs); one_each = refl }

counts_add : (a b c d ab cd : ℕ) → ab ≡ a + b → cd ≡ c + d → a ≡ c → b ≡ d → ab ≡ cd
counts_add a b c d ab cd x y p q = omega arith

pub and_further :
    (es : List Event) (fs : List Files) (gs : List Event) (hs : List Files) (is : List Event) (js : List Files)
    → Further es fs gs hs → Further gs hs is js → Further es fs is js
and_further es fs gs hs is js a b = record {
  told = a.told ++ b.told;
  events_are = b.events_are ∙ ap (λ events. events ++ b.told) a.events_are ∙ append_assoc es a.told b.told;
  left = a.left ++ b.left;
  files_are = b.files_are ∙ ap (λ files. files ++ b.left) a.files_are ∙ append_assoc fs a.left b.left;
  one_each =
      counts_add (length a.left) (length b.left) (note_count a.told) (note_count b.told) (length (a.left ++ b.left))
      (note_count (a.told ++ b.told))
      (length-append a.left b.left) (notes_append a.told b.told) a.one_each b.one_each;
}

pub itself : (s : State) → Onward s s
itself s = nothing_more s.events (all_files s)

pub onward : (s t u : State) → Onward s t → Onward t u → Onward s u
onward s t u a b = and_further s.events (all_files s) t.events (all_files t) u.events (all_files u) a b

-- Bytes that are shown are no notes.
no_notes : (bytes : List ℕ) → note_count (map Shown bytes) ≡ 0
no_notes [] = refl
no_notes (byte ∷ bytes) = no_notes bytes

pub shown_more : (bytes : List ℕ) (s : State) → Onward s (state_after_output bytes s)
shown_more bytes s = record {
  told = map Shown bytes;
  events_are = refl;
  left = [];
  files_are = sym (append-nil (all_files s));
  one_each = sym (no_notes bytes);
}

-- A file statement has one note, and leaves files.
pub noted_more : (file : FilePlaces) (step : Step) (s : State) → Onward s (state_after_status file step s)
noted_more file step s = record {
  told = Noted (record { file = file.number; status = bytes_of step.status }) ∷ [];
  events_are = refl;
  left = step.files ∷ [];
  files_are = refl;
  one_each = refl;
}
