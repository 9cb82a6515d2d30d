use Rattle.std.proofs.Common.{eq-eqb}
use Rattle.control_heap.specs.Controls.{ControlOf}
use Rattle.control_heap.proofs.LifeLeft.{made_fits}
use Rattle.control_heap.proofs.control.ControlHeap.has_units.Goals as goal

pub returns-then-owed-eq0 : goal.returns-then-owed-eq0
returns-then-owed-eq0 g c =
    let h : ControlOf g.row.M.Denot = record { config = c.self.inside.config; memory = c.self.inside.memory; words = g.M.Store.shows c.self.inside.memory; thread = c.self.inside.thread; count = c.self.inside.count; objects = c.self.inside.objects } in
    (λ one. made_fits h c.self.invariant.0 c.self.invariant.1 c.args.self.now c.self.view_is c.args.owed c.if-owed-eq0.true, λ few. eq-eqb c.args.owed 0 c.if-owed-eq0.true)
