-- `print_listing`: the part that is printed lies in the buffer, which is long enough for every listing. Assumes nothing.
use lib.Seq.{length-take-le}
use Rattle.std.proofs.Common.{rules, sym}
use Rattle.render.proofs.Lengths.{listing-ends}
use Rattle.listing.proofs.print_listing.Goals as goal

pub slice_bounds-text-end : goal.slice_bounds-text-end
slice_bounds-text-end c = listing-ends c.args.file.now c.put_listing-n.ensures (search rules)

pub slice_bounds-print-end : goal.slice_bounds-print-end
slice_bounds-print-end c = sym (length-take-le _ _ (listing-ends c.args.file.now c.put_listing-n.ensures (search rules)))
