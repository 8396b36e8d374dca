-- Entries of INSPECT with lengths that are found in the run are entries, and the same where the lengths are.
use Rattle.std.proofs.Common.{◌≡◌, ◌≢◌, ℕ, ◌+◌, ◌≤◌, Bool, true, false, cond, List, [], ◌∷◌, map, Option, Some, None}
use Rattle.std.proofs.Common.{refl, ap, sym, ◌∙◌, arith}
use Rattle.std.specs.Prelude.{nat_le, ◌&&◌}
use Rattle.std.specs.List.{AllByRecursion}
use Rattle.std.specs.Option.{option_map}
use Rattle.std.proofs.lemmas.Bool.Decides.{nat_tests}
use Rattle.text_ops.specs.declared.entry.Span.{Span}
use Rattle.text_ops.specs.declared.entry.Fit.{Fit}
use Rattle.text_ops.specs.declared.entry.Fit.TheVariants as f
use Rattle.text_ops.specs.declared.entry.Entry.{Entry}
use Rattle.text_ops.specs.Beginnings.{text_of}
use Rattle.text_ops.specs.Entries.{IsSpan, IsFit, IfSpan, IsBy, IsEntry, fit_length}
use Rattle.source_tree.specs.MeasuredTexts.{TextLength, length_at, length_within, shortened_by, replacing_span}
use Rattle.source_tree.specs.MeasuredTexts.{measured_span, measured_fit, measured_entry}
use Rattle.source_tree.proofs.InspectWalks.{HasBy}

-- ---- a shorter span

record IsRoomOf (room length : ℕ) : Type 0 where
  some : 1 ≤ length
  long : length ≤ room

chosen_length : (room length : ℕ) (test : Bool) → (nat_le 1 length && nat_le length room) ≡ test → 1 ≤ room
    → IsRoomOf room (cond test length room)
chosen_length room length true is some =
    record { some = grind (arith, nat_tests, is); long = grind (arith, nat_tests, is) }
chosen_length room length false is some = record { some = some; long = omega arith }

within_room : (room length : ℕ) → 1 ≤ room → IsRoomOf room (length_within room length)
within_room room length some = chosen_length room length (nat_le 1 length && nat_le length room) refl some

shorter : (size : ℕ) (mark : Option ℕ) (span : Span) → IsSpan size span → IsSpan size (shortened_by mark span)
shorter size None span is = is
shorter size (Some n) span is =
    let room = within_room span.length n is.some in
    record { some = room.some; within = omega (arith, room.long, is.within) }

same_length : (mark : Option ℕ) (a b : Span) → a.length ≡ b.length
    → (shortened_by mark a).length ≡ (shortened_by mark b).length
same_length None a b e = e
same_length (Some n) a b e = ap (λ room. length_within room n) e

-- ---- entries

module _ (lengths : ℕ → Option ℕ) where
  fit_is : (size : ℕ) (what : Fit) → IsFit size what → IsFit size (measured_fit lengths what)
  fit_is size f.Characters is = tt
  fit_is size (f.All span) is = shorter size (lengths span.start) span is
  fit_is size (f.Leading span) is = shorter size (lengths span.start) span is
  fit_is size (f.First span) is = shorter size (lengths span.start) span is

  limit_is : (size : ℕ) (limit : Option Span) → IfSpan size limit
      → IfSpan size (option_map (measured_span lengths) limit)
  limit_is size None is = tt
  limit_is size (Some span) is = shorter size (lengths span.start) span is

  by_is : (size : ℕ) (what : Fit) (by : Option Span) → IsBy size what by
      → IsBy size (measured_fit lengths what) (option_map (replacing_span lengths (text_of what)) by)
  by_is size what None is = tt
  by_is size f.Characters (Some span) is = is
  by_is size (f.All text) (Some span)
      is = (shorter size (lengths text.start) span is.0, same_length (lengths text.start) span text is.1)
  by_is size (f.Leading text) (Some span)
      is = (shorter size (lengths text.start) span is.0, same_length (lengths text.start) span text is.1)
  by_is size (f.First text) (Some span)
      is = (shorter size (lengths text.start) span is.0, same_length (lengths text.start) span text is.1)

  pub entry_is : (size : ℕ) (one : Entry) → IsEntry size one → IsEntry size (measured_entry lengths one)
  entry_is size one is = record {
    fit = fit_is size one.fit is.fit;
    before = limit_is size one.before is.before;
    after = limit_is size one.after is.after;
    by = by_is size one.fit one.by is.by;
  }

  pub entries_are : (size : ℕ) (all : List Entry) → AllByRecursion (IsEntry size) all
      → AllByRecursion (IsEntry size) (map (measured_entry lengths) all)
  entries_are size [] h = tt
  entries_are size (one ∷ more) h = (entry_is size one h.0, entries_are size more h.1)

  mapped_by : (change : Span → Span) (by : Option Span) → by ≢ None → option_map change by ≢ None
  mapped_by change None h = absurd (h refl)
  mapped_by change (Some span) h = λ e. absurd cc

  pub entries_have : (size : ℕ) (all : List Entry) → AllByRecursion (λ one. IsEntry size one × HasBy one) all
      → AllByRecursion (λ one. IsEntry size one × HasBy one) (map (measured_entry lengths) all)
  entries_have size [] h = tt
  entries_have size (one ∷ more) h = (
    (entry_is size one h.0.0, mapped_by (replacing_span lengths (text_of one.fit)) one.by h.0.1),
    entries_have size more h.1,
  )

-- ---- the same lengths

module _ (a b : ℕ → Option ℕ) (same : (at : ℕ) → a at ≡ b at) where
  span_alike : (span : Span) → measured_span a span ≡ measured_span b span
  span_alike span = ap (λ m. shortened_by m span) (same span.start)

  fit_alike : (what : Fit) → measured_fit a what ≡ measured_fit b what
  fit_alike f.Characters = refl
  fit_alike (f.All span) = ap (λ s. f.All s) (span_alike span)
  fit_alike (f.Leading span) = ap (λ s. f.Leading s) (span_alike span)
  fit_alike (f.First span) = ap (λ s. f.First s) (span_alike span)

  limit_alike : (limit : Option Span) → option_map (measured_span a) limit ≡ option_map (measured_span b) limit
  limit_alike None = refl
  limit_alike (Some span) = ap (λ s. Some s) (span_alike span)

  replacing_alike : (text : Option Span) (by : Option Span)
      → option_map (replacing_span a text) by ≡ option_map (replacing_span b text) by
  replacing_alike text None = refl
  replacing_alike None (Some span) = refl
  replacing_alike (Some text) (Some span) = ap (λ m. Some (shortened_by m span)) (same text.start)

  same_entry : (x y : Fit) (c d : Option Span) (e g : Option Span) (h k : Option Span) → x ≡ y → c ≡ d → e ≡ g → h ≡ k
      → (let one : Entry = record { fit = x; before = c; after = e; by = h } in
      let other : Entry = record { fit = y; before = d; after = g; by = k } in one ≡ other)
  same_entry x y c d e g h k r s t u = cc

  entry_alike : (one : Entry) → measured_entry a one ≡ measured_entry b one
  entry_alike one = same_entry _ _ _ _ _ _ _ _ (fit_alike one.fit) (limit_alike one.before) (limit_alike one.after)
      (replacing_alike (text_of one.fit) one.by)

  pub entries_alike : (all : List Entry) → map (measured_entry a) all ≡ map (measured_entry b) all
  entries_alike [] = refl
  entries_alike (one ∷ more) = ap (λ e. e ∷ map (measured_entry a) more) (entry_alike one)
      ∙ ap (λ l. measured_entry b one ∷ l) (entries_alike more)

-- ---- no lengths

no_fit : (what : Fit) → measured_fit (length_at []) what ≡ what
no_fit f.Characters = refl
no_fit (f.All span) = refl
no_fit (f.Leading span) = refl
no_fit (f.First span) = refl

no_limit : (limit : Option Span) → option_map (measured_span (length_at [])) limit ≡ limit
no_limit None = refl
no_limit (Some span) = refl

no_replacing : (text : Option Span) (by : Option Span) → option_map (replacing_span (length_at []) text) by ≡ by
no_replacing text None = refl
no_replacing None (Some span) = refl
no_replacing (Some text) (Some span) = refl

pub no_entry : (one : Entry) → measured_entry (length_at []) one ≡ one
no_entry one = same (measured_fit (length_at []) one.fit) one.fit _ one.before _ one.after _ one.by (no_fit one.fit)
    (no_limit one.before) (no_limit one.after) (no_replacing (text_of one.fit) one.by)
  where
    same : (x y : Fit) (c d : Option Span) (e g : Option Span) (h k : Option Span) → x ≡ y → c ≡ d → e ≡ g → h ≡ k
        → (let one : Entry = record { fit = x; before = c; after = e; by = h } in
        let other : Entry = record { fit = y; before = d; after = g; by = k } in one ≡ other)
    same x y c d e g h k r s t u = cc

pub no_entries : (all : List Entry) → map (measured_entry (length_at [])) all ≡ all
no_entries [] = refl
no_entries (one ∷ more) = ap (λ e. e ∷ map (measured_entry (length_at [])) more) (no_entry one)
    ∙ ap (λ l. one ∷ l) (no_entries more)
