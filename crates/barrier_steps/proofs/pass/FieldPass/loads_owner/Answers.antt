use Rattle.std.proofs.Common.{refl, rules}
use Rattle.barrier_steps.specs.declared.rows.FieldRow.TheVariants.{LoadOwner}
use Rattle.barrier_steps.proofs.FieldRows.{moved_fits}
use Rattle.barrier_steps.proofs.pass.FieldPass.loads_owner.Goals as goal

pub returns-clause-fits : goal.returns-clause-fits
returns-clause-fits g c =
    moved_fits c.args.places.now c.args.pass c.args.command (LoadOwner c.args.word) c.after_owner.result (record { pass = c.args.pass; command = c.args.command; row = LoadOwner c.args.word }) c.act-read.result refl (search rules) c.requires.fits (c.requires.reads c.act-read.result c.act-read.new.self (search rules))
