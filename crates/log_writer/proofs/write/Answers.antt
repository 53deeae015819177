-- `log_writer::write` meets its contract: the parts are put one behind the other. Assumes nothing.
use mathlib.Core.Path.{refl}
use Rattle.log_writer.proofs.Written.{record_put}
use Rattle.log_writer.proofs.write.Goals as goal

pub returns : goal.returns
returns c = record {
  length = refl;
  area = record_put c.args.kind c.args.payload.now c.args.out.now _ _ _ _ _ _ _ _ c.requires.2 c.head_of-head.ensures c.sum_of-sum.ensures
      (c.put_bytes.ensures.place, c.put_bytes.ensures.put) (c.put_bytes-2.ensures.place, c.put_bytes-2.ensures.put) (c.put_bytes-3.ensures.place, c.put_bytes-3.ensures.put);
}
