-- The console lines that a record of calls has left.
use Rattle.std.proofs.Common.{◌≡◌, ℕ, zero, suc, ◌+◌, ◌<◌, ◌≤◌, List, [], ◌∷◌, ◌++◌, length, take, drop, map, min, cond}
use Rattle.std.proofs.Common.{get_or, Vec, Some, None, refl, sym, ◌∙◌, ap, arith, length-drop}
use Rattle.std.specs.Prelude.{count_by, slice_get, option_map, slice_index_or}
use Rattle.std.specs.declared.alloc.Global.{Global}
use Rattle.std.proofs.lemmas.List.{length-map, drop-drop, drop_all, drop_more, drop-map}
use Rattle.std.proofs.lemmas.List.Sums.{sum_by-cons}
use Rattle.station.specs.State.{State, took_line, if_any, overlaid, TakesLine}
use Rattle.station.specs.Replay.{state_after_calls, next, is_take, made_of}
use Rattle.station.specs.Disk.{Sector}
use Rattle.station.specs.declared.call.Call.{Call}
use Rattle.station.specs.declared.call.Call.TheVariants.{Show, Hear, Take, Write, Keep, Sync}

lines_after : (s : State) (calls : List Call)
    → (state_after_calls s calls).lines ≡ drop (count_by is_take calls) s.lines
lines_after s [] = refl
lines_after s (Show bytes ∷ calls) = lines_after (next s (Show bytes)) calls
lines_after s (Hear note ∷ calls) = lines_after (next s (Hear note)) calls
lines_after s (Take ∷ calls) = lines_after (took_line s) calls ∙ drop-drop (count_by is_take calls) 1 s.lines
    ∙ ap (λ n. drop n s.lines) (sym (sum_by-cons (λ (call : Call). cond (is_take call) 1 0) Take calls))
lines_after s (Write i b ∷ calls) = lines_after (next s (Write i b)) calls
lines_after s (Keep i b ∷ calls) = lines_after (next s (Keep i b)) calls
lines_after s (Sync ∷ calls) = lines_after (next s Sync) calls

take_nil : (n : ℕ) → take {A = ℕ} n [] ≡ []
take_nil zero = refl
take_nil (suc n) = refl

-- none is left
no_line : (s : State) (before : List ℕ) → s.lines ≡ [] → TakesLine s before None before s
no_line s before none = record {
  state = ap (λ (l : List (List ℕ)). record s { lines = l }) (none ∙ sym (ap (drop 1) none));
  count = ap (λ (l : List (List ℕ)). option_map (λ line. min (length line) (length before)) (slice_get l 0)) (sym none);
  bytes = ap (λ (l : List ℕ). l ++ before) (sym (take_nil (length before)))
      ∙ ap (λ (l : List (List ℕ)). overlaid before (slice_index_or l 0 [])) (sym none);
}

pub none_left : (start : List Sector) (lines : List (Vec ℕ Global)) (calls : List Call)
    → length lines ≤ count_by is_take calls → (state_after_calls (made_of start lines) calls).lines ≡ []
none_left start lines calls past = lines_after (made_of start lines) calls ∙ drop_all (count_by is_take calls)
    (map (λ (v : Vec ℕ Global). v.items) lines) (omega (arith, length-map lines (λ (v : Vec ℕ Global). v.items)))

pub no_line_after : (start : List Sector) (lines : List (Vec ℕ Global)) (calls : List Call) (before : List ℕ)
    → length lines ≤ count_by is_take calls
    → TakesLine (state_after_calls (made_of start lines) calls) before None before
    (state_after_calls (made_of start lines) calls)
no_line_after start lines calls before past =
    no_line (state_after_calls (made_of start lines) calls) before (none_left start lines calls past)

-- this one is next
next_line : (s : State) (before line : List ℕ) (rest : List (List ℕ)) (later : List ℕ) (n : ℕ) (new : State)
    → s.lines ≡ line ∷ rest → new ≡ took_line s → n ≡ min (length line) (length before) → later ≡ overlaid before line
    → TakesLine s before (Some n) later new
next_line s before line rest later n new is state count bytes = record {
  state = state;
  count = ap Some count
      ∙ ap (λ (l : List (List ℕ)). option_map (λ line. min (length line) (length before)) (slice_get l 0)) (sym is);
  bytes = bytes ∙ ap (λ (l : List (List ℕ)). overlaid before (slice_index_or l 0 [])) (sym is);
}

pub next_line_after : (start : List Sector) (lines : List (Vec ℕ Global)) (calls : List Call) (before : List ℕ)
    (line : Vec ℕ Global) (later : List ℕ) (n : ℕ) (new : State)
    → count_by is_take calls < length lines → line ≡ get_or lines (count_by is_take calls) line
    → new ≡ took_line (state_after_calls (made_of start lines) calls) → n ≡ min (length line.items) (length before)
    → later ≡ overlaid before line.items
    → TakesLine (state_after_calls (made_of start lines) calls) before (Some n) later new
next_line_after start lines calls before line later n new within is =
    next_line (state_after_calls (made_of start lines) calls) before line.items
    (map (λ (v : Vec ℕ Global). v.items) (drop (count_by is_take calls + 1) lines)) later n new
    (lines_after (made_of start lines) calls ∙ drop-map (λ (v : Vec ℕ Global). v.items) (count_by is_take calls) lines
    ∙ ap (map (λ (v : Vec ℕ Global). v.items)) (drop_more lines (count_by is_take calls) line within
    ∙ ap (λ (v : Vec ℕ Global). v ∷ drop (count_by is_take calls + 1) lines) (sym is)))

any_of : (lines : List (List ℕ)) (s : State) → 0 < length lines → if_any lines s ≡ s ∷ []
any_of [] s lt = absurd (omega arith)
any_of (line ∷ lines) s lt = refl

pub some_left : (start : List Sector) (lines : List (Vec ℕ Global)) (calls : List Call) (s : State)
    → count_by is_take calls < length lines → if_any (state_after_calls (made_of start lines) calls).lines s ≡ s ∷ []
some_left start lines calls s within = any_of (state_after_calls (made_of start lines) calls).lines s
    (omega (
      arith,
      ap length (lines_after (made_of start lines) calls),
      length-drop (count_by is_take calls) (map (λ (v : Vec ℕ Global). v.items) lines),
      length-map lines (λ (v : Vec ℕ Global). v.items),
    ))
