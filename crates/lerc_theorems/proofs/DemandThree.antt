-- Demand 3, proved.
-- Assumes nothing.
use Rattle.lerc_theorems.specs.DemandThree.{DemandThree}
use Rattle.lerc_theorems.proofs.OpenedFills as fills
use Rattle.lerc_theorems.proofs.FromCalls as calls

pub demand-three : DemandThree
demand-three = record {
  opened-by-walk = calls.opened-by-walk;
  opened-by-read = calls.opened-by-read;
  any_order = calls.any_order;
  fill-own = calls.fill-own;
  mask-handed = fills.mask-handed;
  walk-lists = fills.listed;
  fill-accepts = λ x o. fills.accepts x o x.image o.room;
  fill-refuses = λ x o. fills.refuses x o x.image o.room;
  fill-reports = fills.reports;
  fills-answer = λ x o ns said new. fills.answered x o ns said x.image new o.room;
  fills-long = fills.long;
  fills-exact = fills.exact;
  fills-order = fills.order;
  fills-each = fills.by-each;
  each-as-calls = fills.as-calls;
  fills-complete = fills.complete;
  tiles-exact = fills.by-tiles;
  words-sum = fills.words-add;
  words-once = fills.words-once;
}
