use Rattle.heap_system.specs.Ordering.{ordered}
use Rattle.heap_system.proofs.work.TurnFacts.{place_low}
use Rattle.heap_system.proofs.system.System.word.Goals as goal

pub word-requires : goal.word-requires
word-requires c = place_low c.self.inside.config (record { words = c.self.inside.words; locals = c.self.inside.locals.items }) (ordered c.self.inside.order) c.self.invariant.reached c.args.self.now c.self.view_is c.args.place c.requires
