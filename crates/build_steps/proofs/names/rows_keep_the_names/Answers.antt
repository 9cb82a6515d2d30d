use Rattle.build_steps.proofs.NameRulesKept.{goes_on}
use Rattle.build_steps.proofs.DecidingEvent.{full, published, replies}
use Rattle.build_steps.proofs.names.rows_keep_the_names.Goals as goal

pub returns : goal.returns
returns c = record {
  goes_on = λ c g order h names tasks hs s inside p e.
      goes_on c inside g order h names tasks hs s p e;
  full = λ c g order h names tasks hs s work inside p e.
      full c g order h names tasks hs s p inside work e;
  published = λ c g order h names tasks hs s work inside p e.
      published c g order h names tasks hs s p inside work e;
  reply = λ c g order h names tasks hs s v p e. replies c g order h names tasks hs s p v e;
}
