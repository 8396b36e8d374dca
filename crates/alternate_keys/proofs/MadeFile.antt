-- A file that is made, on the disk.
use Rattle.std.proofs.Common.{◌≡◌, ◌⊎◌, inl, inr, ⊎_elim, ◌<◌, ◌≤◌, ◌+◌, ◌*◌, ◌^◌, ◌++◌, true, ℕ, List, ◌∷◌, length}
use Rattle.std.proofs.Common.{refl, sym, ap, subst, ◌∙◌, arith}
use Rattle.std.proofs.lemmas.List.{length-append, length-map}
use Rattle.station.specs.Disk.{Sector}
use Rattle.pages.specs.Image.{Map, Volume}
use Rattle.pages.specs.Layout.{map_count}
use Rattle.pages.specs.Use.{free_count}
use Rattle.pages.specs.Pages.{map_now, catalog_of, committed_of, changed_pages_of, filled_of, sectors_of, generation_of}
use Rattle.pages.specs.Pages.{needed_of, next_generation, IsFull, SameCommitted}
use Rattle.pages.specs.declared.page_map.PageMap.{PageMap}
use Rattle.records.specs.Files.{File, Files, with_file}
use Rattle.volume_format.specs.Volume.{FileTrees, HasCatalog, MapHolds}
use Rattle.alternate_keys.specs.Stands.{LacksSpace}
use Rattle.alternate_keys.proofs.Preparing.{map_with}
use Rattle.alternate_keys.proofs.Splits.{Found, named_of, put_at}
use Rattle.alternate_keys.proofs.Still.{same_volume}

-- the same files of the same map
abbrev pub holds_at : (m n : Map) (files : Files) → n ≡ m → MapHolds m files → MapHolds n files
holds_at m n files same holds = record {
  kept = holds.kept;
  keeps = subst (λ (x : Map). HasCatalog x holds.kept) (sym same) holds.keeps;
  named = holds.named;
  are = holds.are;
  short = λ first. holds.short (sym (ap (λ (x : Map). x.mark) same) ∙ first);
}

-- in place of another file there are as many
with_one : List ℕ → File → FileTrees → FileTrees
with_one name file one =
    record { named = record { name = name; file = file }; prime = one.prime; alternates = one.alternates }

count_in : (before after : List FileTrees) (one two : FileTrees)
    → length (named_of (before ++ one ∷ after)) ≡ length (named_of (before ++ two ∷ after))
count_in before after one two =
    length-map (before ++ one ∷ after) (λ (k : FileTrees). k.named) ∙ length-append before (one ∷ after)
    ∙ sym (length-append before (two ∷ after)) ∙ sym (length-map (before ++ two ∷ after) (λ (k : FileTrees). k.named))

pub kept_count : (name : List ℕ) (kept : List FileTrees) (held file : File) → Found name kept held
    → length (with_file name file (named_of kept)) ≡ length (named_of kept)
unfolding with_one
kept_count name kept held file found =
    let new : FileTrees = with_one name file found.one in
    ap (λ (l : Files). length l) (put_at name kept found.one new found.split refl)
    ∙ count_in found.split.before found.split.after new found.one
    ∙ sym (ap (λ (l : List FileTrees). length (named_of l)) found.split.is)

-- the map of the next generation
pub next_with : (p q : PageMap) (image : List Sector) → SameCommitted p q
    → map_with (map_now p image).mark ((map_now p image).generation + 1) (catalog_of q) (map_now q image).pages
    ≡ next_generation (map_now q image)
next_with p q image same =
    ap (λ v. map_with (map_now p image).mark (v.generation + 1) (catalog_of q) (map_now q image).pages)
    (sym same.volume)
    ∙ ap (λ (n : ℕ). map_with n ((map_now q image).generation + 1) (catalog_of q) (map_now q image).pages)
    (sym same.mark)

-- where room is wanting
pub lacks_filled : (p q : PageMap) (name : List ℕ) (after : Files) → SameCommitted p q → filled_of q ≤ 1
    → (free_count (committed_of q) < filled_of q + map_count (sectors_of q)) ⊎ (2 ^ 63 ≤ generation_of q + 1)
    → LacksSpace (committed_of p) true name after
lacks_filled p q name after same few short =
    let volume = same_volume p q same in
    ⊎_elim (λ low. let free = ap free_count volume in let size =
    ap (λ (v : Volume). map_count v.root.sectors) volume in inl (omega (arith, low, few, free, size)))
    (λ last. inr (inr (let own = ap (λ v. v.generation) same.volume in omega (arith, last, own)))) short

pub lacks_needed : (p q : PageMap) (name : List ℕ) (after : Files)
    → SameCommitted p q → needed_of q ≤ 2 * length (changed_pages_of q) → length (changed_pages_of q) ≤ 42 → IsFull q
    → LacksSpace (committed_of p) true name after
lacks_needed p q name after same needs few full =
    let volume = same_volume p q same in
    ⊎_elim (λ short. let free = ap free_count volume in inl (omega (arith, needs, few, short, free)))
    (λ last. inr (inr (let own = ap (λ v. v.generation) same.volume in omega (arith, last, own)))) full.1

pub lacks_first : (volume : Volume) (name : List ℕ) (after : Files) → free_count volume < 42
    → LacksSpace volume true name after
lacks_first volume name after low = inl (omega (arith, low))
