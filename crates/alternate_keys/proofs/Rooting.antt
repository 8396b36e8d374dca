-- A file among others, after all its trees have become those of another.
use Rattle.std.proofs.Common.{◌≡◌, ◌≤◌, ◌+◌, ◌++◌, ℕ, List, [], ◌∷◌, length, drop, refl, sym, ap, subst, ◌∙◌}
use Rattle.std.proofs.Common.{append_assoc, arith}
use Rattle.std.specs.Prelude.{map, Option}
use Rattle.station.specs.Disk.{Sector}
use Rattle.records.specs.declared.key.KeyOfReference.TheVariants.{Prime}
use Rattle.records.specs.Spec.{Spec}
use Rattle.records.specs.Files.{NamedFile}
use Rattle.volume_format.specs.Catalog.{Listing, listing_bytes}
use Rattle.volume_format.specs.Chained.{chained_bytes}
use Rattle.volume_format.specs.Trees.{entry_under, layout_under}
use Rattle.volume_format.specs.Forest.{TreeLevels, IsForest}
use Rattle.alternate_keys.specs.Placed.{HasFileTrees, HaveBecome}

none_left : {X : Type 0} (xs : List X) → drop (length xs) xs ≡ []
none_left [] = refl
none_left (x ∷ xs) = none_left xs

listing_with : Spec → ℕ → List ℕ → ℕ → Listing
listing_with spec prime alternates next =
    record { spec = spec; prime = prime; alternates = alternates; next_arrival = next }

pub placed_by : (spec : Spec) (after : NamedFile) (generation : ℕ) (pages : List (Option Sector)) (left right :
    List TreeLevels) (prime : TreeLevels) (trees : List TreeLevels) (roots listing : List ℕ) (root next : ℕ) →
    HaveBecome after.file pages (left ++ prime ∷ []) right trees (length trees) roots
    → prime.tree.layout ≡ layout_under spec Prime → prime.tree.root ≡ root
    → prime.record_bytes ≡ chained_bytes spec → prime.entries ≡ map (entry_under spec Prime) after.file.rows
    → after.file.spec ≡ spec
    → after.file.next_arrival ≡ next → next ≤ generation + 1 → length trees ≡ length spec.alternates
    → listing ≡ listing_bytes (record { spec = spec; prime = root; alternates = roots; next_arrival = next }) →
    HasFileTrees after (generation + 1) pages left right listing
unfolding listing_with
placed_by spec after generation pages left right prime trees roots listing root next become layout root_is form rows
    spec_is next_is low count says =
    let rest : (left ++ prime ∷ []) ++ (become.done ++ (drop (length trees) trees ++ right))
    ≡ left ++ (prime ∷ (become.done ++ right)) =
    append_assoc left (prime ∷ []) (become.done ++ (drop (length trees) trees ++ right))
    ∙ ap (λ (l : List TreeLevels). left ++ (prime ∷ (become.done ++ (l ++ right)))) (none_left trees) in
    let many = become.count in
    record {
      kept = record { named = after; prime = prime; alternates = become.done };
      named_is = refl;
      forest = subst (λ (ts : List TreeLevels). IsForest pages ts) rest become.forest;
      is = record {
        layout = layout ∙ ap (λ (s : Spec). layout_under s Prime) (sym spec_is);
        form = form ∙ ap chained_bytes (sym spec_is);
        rows = rows ∙ ap (λ (s : Spec). map (entry_under s Prime) after.file.rows) (sym spec_is);
        count = become.count ∙ count ∙ ap (λ (s : Spec). length s.alternates) (sym spec_is);
        indexes = λ i within. let same =
            ap (λ (s : Spec). length s.alternates) spec_is in become.indexes i (omega (arith, within, same, count));
        arrivals = omega (arith, low, next_is);
      };
      says = says
          ∙ sym (ap (λ (s : Spec). listing_bytes (listing_with s prime.tree.root
          (map (λ (t : TreeLevels). t.tree.root) become.done) after.file.next_arrival)) spec_is
          ∙ ap (λ (n : ℕ). listing_bytes
          (listing_with spec n (map (λ (t : TreeLevels). t.tree.root) become.done) after.file.next_arrival)) root_is
          ∙ ap (λ (l : List ℕ). listing_bytes (listing_with spec root l after.file.next_arrival)) become.roots_are
          ∙ ap (λ (n : ℕ). listing_bytes (listing_with spec root roots n)) next_is);
    }
