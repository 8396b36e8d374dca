use Rattle.chains.proofs.Links.{link_spelled, link_next}
use Rattle.chains.proofs.link.link.Goals as goal

pub returns-clause-bytes : goal.returns-clause-bytes
returns-clause-bytes c = link_spelled c.args.next c.args.part.now c.to_be_bytes.result c.put.new.bytes c.put-2.new.bytes
    c.requires c.put.ensures c.to_be_bytes.ensures c.put-2.ensures

pub returns-clause-reads : goal.returns-clause-reads
returns-clause-reads c = link_next c.args.next c.args.part.now c.ranges.next.fits
