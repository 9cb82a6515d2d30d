use Rattle.std.proofs.Common.{rules}
use Rattle.barrier_steps.proofs.FieldRows.{moved_fits}
use Rattle.barrier_steps.proofs.pass.FieldPass.makes.Goals as goal

pub returns-clause-fits : goal.returns-clause-fits
returns-clause-fits g c =
    moved_fits c.args.places.now c.self.inside.pass c.self.inside.command c.self.inside.row c.after-next.result c.args.self.now c.act-word.result c.self.view_is (search rules) c.requires.fits (search rules)
