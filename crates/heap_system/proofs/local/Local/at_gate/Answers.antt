use Rattle.std.proofs.Common.{rules, sym, subst}
use Rattle.heap_system.specs.Locals.{LocalState, IsLocal, PartReads}
use Rattle.heap_system.proofs.accounting.OwedAndPaid.{view_of, turned_on, turns_on}
use Rattle.heap_system.proofs.accounting.UnitMade.{turn_to}
use Rattle.heap_system.proofs.local.Local.at_gate.Goals as goal

pub invariant_of-self-else-is_last : goal.invariant_of-self-else-is_last
invariant_of-self-else-is_last g c = (
  subst (λ p. IsLocal (record (view_of c.self.inside) { part = p })) (sym (turn_to c.self.inside c.turns_over-step.new.gate c.in-PhaseChange.is))
      (turned_on (view_of c.self.inside) c.self.inside.gate c.turns_over-step.new.gate c.turns_over-step.ensures.acted.0 c.new-places.result c.self.invariant.0 (subst (λ (l : LocalState). PartReads l.config l.part c.turns_over-step.ensures.acted.0) (sym c.self.view_is) (c.requires.reads c.turns_over-step.ensures.acted.0 c.turns_over-step.new.memory (search rules)).0) (turn_to c.self.inside c.self.inside.gate c.in-PhaseChange.is) c.new-places.ensures c.turns_over-step.ensures.acted.2.0 c.turns_over-step.ensures.places),
  c.self.invariant.1,
  c.self.invariant.2,
  c.self.invariant.3,
  c.self.invariant.4,
)

pub returns-then-is_last : goal.returns-then-is_last
returns-then-is_last g c = (c.turns_over-step.ensures.acted.0, search rules, search (rules, turns_on))
