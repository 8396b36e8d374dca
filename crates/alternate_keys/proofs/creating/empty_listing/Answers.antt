use Rattle.std.proofs.Common.{◌≡◌, ℕ, List, length, ap, ◌∙◌, arith}
use Rattle.records.specs.Stores.{spec_of}
use Rattle.volume_format.specs.Catalog.{Listing}
use Rattle.volume_format.proofs.Listings.{long}
use Rattle.alternate_keys.proofs.creating.empty_listing.Goals as goal

pub returns-clause-long : goal.returns-clause-long
returns-clause-long c =
    let said : Listing =
    record { spec = spec_of c.args.file.now; prime = 0; alternates = c.deref.result.now; next_arrival = 1 } in
    let same = ap (λ (l : List ℕ). length l) c.deref.ensures.value in
    let count : length c.deref.result.now ≡ length c.args.file.now.alternates.items = omega
    (arith, same, c.resize.new.self.ok, c.in_ok-resize.ensures.len, c.len.ensures, c.args.file.now.alternates.ok) in
    ap (λ (l : List ℕ). length l) c.in_ok-listing.ensures.bytes ∙ long said c.args.file.now.sound count
