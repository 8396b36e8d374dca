use Rattle.std.proofs.Common.{refl}
use Rattle.volume_format.proofs.Listings.{listing_spelled}
use Rattle.volume_format.proofs.listing.spell_listing.Goals as goal

pub returns-clause-bytes : goal.returns-clause-bytes
returns-clause-bytes c =
    listing_spelled _ c.in_ok-out.out.items c.push_description.new.out.items c.extend_from_slice.new.self.items
    c.push_roots.new.out.items c.push_zeros.new.out.items _ _ _ _ c.in_ok-out.ensures.items
    c.in_ok-push_description.ensures.bytes c.to_be_bytes.ensures c.in_ok-extend_from_slice.ensures.items
    c.in_ok-push_roots.ensures.bytes refl c.in_ok-push_zeros.ensures.bytes c.to_be_bytes-2.ensures
    c.in_ok-extend_from_slice-2.ensures.items
