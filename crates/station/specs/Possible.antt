-- What a read gives is possible after a crash, through a record of calls.
use Rattle.std.specs.Prelude.{◌≡◌, ◌⊎◌, ℕ, ◌<◌, List, [], ◌∷◌, ◌++◌, length, slice_set, Vec, refl, Contains}
use Rattle.std.specs.declared.alloc.Global.{Global}
use Rattle.std.proofs.Common.{◌∙◌, sym, subst, inl, inr, ⊎_elim, arith, length-set, get_or, get_or-set_same, get_or-set_other}
use Rattle.std.proofs.lemmas.Bool.{cases_eq}
use Rattle.std.proofs.lemmas.List.Elements.{Contains-push, Contains-append_left}
use Rattle.station.specs.Disk.{Sector, sector_at, IsCrashImage}
use Rattle.station.specs.State.{State}
use Rattle.station.specs.Replay.{state_after_calls, next, made_of}
use Rattle.station.specs.declared.call.Call.{Call}
use Rattle.station.specs.declared.call.Call.TheVariants.{Show, Hear, Take, Write, Keep, Sync}

next_possible : (s : State) (call : Call) → IsCrashImage s.disk s.disk.present → IsCrashImage (next s call).disk (next s call).disk.present
next_possible s (Show bytes) is = is
next_possible s (Hear note) is = is
next_possible s Take is = is
next_possible s (Write i b) is = record {
  count = length-set s.disk.present i b.value ∙ is.count;
  each = λ j lt.
      let T : Sector → Type 0 = λ v. (v ≡ sector_at s.disk.stable j) ⊎ Contains (s.disk.written ++ (i, b.value) ∷ []) (j, v) in
      let below : j < length s.disk.present = omega (arith, length-set s.disk.present i b.value) in
      ⊎_elim
      (λ same. let here : i < length s.disk.present = omega arith in
      subst T (sym (subst (λ k. get_or (slice_set s.disk.present i b.value) k [] ≡ b.value) (sym same) (get_or-set_same s.disk.present i b.value [] here)))
      (inr (subst (λ k. Contains (s.disk.written ++ (i, b.value) ∷ []) (k, b.value)) (sym same) (Contains-push s.disk.written (i, b.value)))))
      (λ ne. subst T (sym (get_or-set_other s.disk.present i j b.value [] ne))
      (⊎_elim (λ old. inl old) (λ has. inr (Contains-append_left s.disk.written ((i, b.value) ∷ []) (j, sector_at s.disk.present j) has)) (is.each j below)))
      (cases_eq j i);
}
next_possible s (Keep i b) is = record {
  count = is.count;
  each = λ j lt. ⊎_elim (λ old. inl old) (λ has. inr (Contains-append_left s.disk.written ((i, b.value) ∷ []) (j, sector_at s.disk.present j) has)) (is.each j lt);
}
next_possible s Sync is = record { count = refl; each = λ j lt. inl refl }

after_possible : (s : State) (calls : List Call) → IsCrashImage s.disk s.disk.present → IsCrashImage (state_after_calls s calls).disk (state_after_calls s calls).disk.present
after_possible s [] is = is
after_possible s (call ∷ calls) is = after_possible (next s call) calls (next_possible s call is)

pub all_possible_after : (start : List Sector) (lines : List (Vec ℕ Global)) (calls : List Call) → IsCrashImage (state_after_calls (made_of start lines) calls).disk (state_after_calls (made_of start lines) calls).disk.present
all_possible_after start lines calls = after_possible (made_of start lines) calls (record { count = refl; each = λ j lt. inl refl })
