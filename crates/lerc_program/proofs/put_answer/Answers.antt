use Prim.Native.Nat.{ℕ}
use mathlib.Core.Path.{refl}
use lib.ListN.{length-replicate}
use Rattle.lerc_program.proofs.Program.{long-says}
use Rattle.lerc_program.proofs.put_answer.Goals as goal

pub returns-then-input-gt-BYTES : goal.returns-then-input-gt-BYTES
returns-then-input-gt-BYTES c = rw (long-says c.args.input.now c.if-input-gt-BYTES.true) c.refuse.ensures

pub decode-requires : goal.decode-requires
decode-requires c =
    record {
      short = c.if-input-gt-BYTES.false;
      kept = refl;
      spare = length-replicate {A = ℕ} 512 0;
      list = length-replicate {A = ℕ} 4096 0;
      image = length-replicate {A = ℕ} 4096 0;
    }
