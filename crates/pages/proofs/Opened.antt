-- A volume that was read.
use Rattle.std.proofs.Common.{◌≡◌, ◌⊎◌, inl, inr, ⊎_elim, ◌<◌, ◌≤◌, ◌*◌, ◌^◌, Bool, true, false, ℕ, List, [], ◌++◌}
use Rattle.std.proofs.Common.{length, set, get_or, replicate, refl, sym, ◌∙◌, ap, subst, arith, get_or-set_other}
use Rattle.std.proofs.Common.{get_or-set_same, length-set}
use Rattle.std.specs.Prelude.{Some}
use Rattle.std.proofs.lemmas.Bool.{cases_lt, false≢true}
use Rattle.std.proofs.lemmas.List.{get_or-replicate, length-replicate}
use Rattle.station.specs.Disk.{Sector, idle_disk}
use Rattle.station.specs.State.{State, state_after_sync}
use Rattle.pages.specs.Layout.{newest, map_count}
use Rattle.pages.specs.Image.{map_at, map_part, Volume, IsPlace, Reads, IsCommitted}
use Rattle.pages.specs.Use.{IsUse}
use Rattle.pages.specs.Marked.{IsMarked}
use Rattle.pages.specs.Volumes.{volume_of, IsSound, unused_count}
use Rattle.pages.specs.declared.volume.VolumeMap.{VolumeMap}

-- the roots alone are used
pub start_marks : (n : ℕ) → 2 ≤ n → IsMarked [] (set (set (replicate n false) 0 true) 1 true)
start_marks n some =
    let zeros = replicate n false in
    let first = set zeros 0 true in
    let all : length (set first 1 true) ≡ n =
    length-set first 1 true ∙ length-set zeros 0 true ∙ length-replicate n false in
    record {
      names = record {
        places = λ s has. absurd (omega (arith, has.1));
        once = λ i j low _ _ _. absurd (omega (arith, low));
      };
      in_use = record {
        count = refl;
        free = λ s lt is.
            (⊎_elim (λ low. absurd (used s low is)) (λ high. high) (cases_lt s 2), λ has. omega (arith, has.1));
        unnamed = λ s lt high absent. get_or-set_other first 1 s true false (λ e. omega (arith, e, high))
            ∙ get_or-set_other zeros 0 s true false (λ e. omega (arith, e, high))
            ∙ get_or-replicate n s false false (omega (arith, lt, all));
      };
    }
  where
    which : (s : ℕ) → s < 2 → (s ≡ 0) ⊎ (s ≡ 1)
    which s low = ⊎_elim (λ below. inl (omega (arith, below))) (λ above. inr (omega (arith, low, above))) (cases_lt s 1)

    used : (s : ℕ) → s < 2 → get_or (set (set (replicate n false) 0 true) 1 true) s false ≡ false → ⊥
    used s low is = ⊎_elim
        (λ zero_at. false≢true
        (sym (subst (λ (m : ℕ). get_or (set (set (replicate n false) 0 true) 1 true) m false ≡ false) zero_at is)
        ∙ get_or-set_other (set (replicate n false) 0 true) 1 0 true false (λ e. omega (arith, e))
        ∙ get_or-set_same (replicate n false) 0 true false (omega (arith, some, length-replicate n false))))
        (λ one_at. false≢true
        (sym (subst (λ (m : ℕ). get_or (set (set (replicate n false) 0 true) 1 true) m false ≡ false) one_at is)
        ∙ get_or-set_same (set (replicate n false) 0 true) 1 true false
        (omega (arith, some, length-set (replicate n false) 0 true, length-replicate n false))))
        (which s low)

-- all that was read of an image is a volume that it holds
pub reads_now : (image : List Sector) (m : VolumeMap) (used : List Bool) → newest image ≡ Some (volume_of m).root
    → length m.table ≡ 1024 * length m.maps.items
    → ((i : ℕ) → i < length m.maps.items → map_at image (get_or m.maps.items i 0) ≡ map_part m.table i)
    → IsMarked (m.maps.items ++ m.table) used → length used ≡ m.sectors → get_or m.table 0 0 ≡ 0
    → Reads image (volume_of m)
reads_now image m used root count entries marked all first = record {
  root = root;
  maps = record {
    count = count;
    entries = entries;
    places = λ s has. subst (λ (n : ℕ). IsPlace n s) all (marked.names.places s has);
    once = marked.names.once;
    unused = first;
  };
}

pub sound_now : (m : VolumeMap) → m.generation < 2 ^ 63 → 1024 ≤ m.sectors → m.sectors ≤ 921600
    → length m.maps.items ≡ map_count m.sectors → length m.table ≡ 1024 * length m.maps.items
    → IsMarked (m.maps.items ++ m.table) m.used → length m.used ≡ m.sectors → get_or m.table 0 0 ≡ 0
    → m.free ≡ unused_count m.used → IsSound m
sound_now m generation least most maps count marked all first free = record {
  generation = generation;
  least = least;
  most = most;
  maps_count = maps;
  count = count;
  places = λ s has. subst (λ (n : ℕ). IsPlace n s) all (marked.names.places s has);
  once = marked.names.once;
  unused = first;
  in_use = subst (λ (n : ℕ). IsUse n (m.maps.items ++ m.table) m.used) all marked.in_use;
  free = free;
}

pub committed_now : (old : State) (mid new : State) (v : Volume) → mid ≡ state_after_sync old → new ≡ mid
    → Reads mid.disk.present v → IsCommitted v new.disk
committed_now old mid new v sync same reads = record {
  settled = ap (λ (s : State). s.disk) (same ∙ sync) ∙ sym (ap (λ (s : State). idle_disk s.disk.present) (same ∙ sync));
  reads = subst (λ (s : State). Reads s.disk.present v) (sym same) reads;
}
