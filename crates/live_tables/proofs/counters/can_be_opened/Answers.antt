use Rattle.std.proofs.Common.{◌*◌, arith}
use Rattle.array_trees.proofs.Counts.{few_shared}
use Rattle.block_store.specs.declared.Width.TheVariants.{Eight}
use Rattle.live_tables.proofs.counters.can_be_opened.Goals as goal

pub returns : goal.returns
returns c =
    let n = c.args.threads in
    let few = few_shared Eight n (omega (arith, c.requires.1)) in record {
      bounds = record {
        some_thread = c.requires.0;
        threads = c.requires.1;
        some_block = omega (arith, c.requires.0);
        blocks = omega (arith, c.requires.1, few);
        live = omega (arith, c.requires.1, few);
        some_object = omega arith;
        object = omega arith;
        shared = omega (arith, c.requires.1);
      };
      plan = record { opens = omega (arith, c.requires.0); room = omega (arith, c.requires.0) };
    }
